-- A script whose origins give each number to one batch agrees with a world.
use Rattle.std.specs.Prelude.{◌≡◌, ◌≤◌, refl, ℕ, length, ◌==◌, ◌&&◌, Bool, true, false, List, [], ◌∷◌, All, Contains, Option, Some, None}
use Rattle.std.specs.Prelude.{IfSome, unwrap_or, if◌then◌else◌}
use Rattle.std.proofs.Common.{◌∙◌, ap, sym, subst, inl, inr, arith}
use Rattle.std.proofs.lemmas.Bool.{true≢false}
use Rattle.std.proofs.lemmas.List.Elements.{recursion_from_All}
use Rattle.std.specs.Option.{is_some}
use Rattle.std.specs.List.{AllByRecursion}
use Rattle.script_machine.proofs.Words.{Row, HasKinds, LAST_ORIGIN, LAST_NUMBER, MAX_ROWS, IsWorld, Knowledge, Column, kinds, Record}
use Rattle.script_machine.proofs.Words.{Command, Fed, IsBatch, State, AgreesAt, AgreesWith, FeedAgrees, Agrees}
use Rattle.script_machine.proofs.Words.{world_of, OneBatchEach, IsOfColumns, ColumnsOf, FeedsAmong, FeedsOf, AreAmong}
use Rattle.script_machine.proofs.RunLaws.{along_weaker}
use Rattle.grouping_model.specs.MemberLaws.{Member, from_contains, to_contains}
use Rattle.script_commands.specs.Commands as ask
use Rattle.script_commands.specs.Commands.{Request}
use Rattle.script_machine.specs.Machine as machine
use Rattle.script_machine.specs.Machine.{Reply}

some_is : {X : Type 0} (x y : X) → ◌≡◌ {A = Option X} (Some x) (Some y) → x ≡ y
some_is x y e = ap (λ o. unwrap_or o x) e

same_number : (a b : ℕ) → (a == b) ≡ true → a ≡ b
same_number a b e = grind arith

both_true : (a b : Bool) → (a && b) ≡ true → (a ≡ true) × (b ≡ true)
both_true true true e = (refl, refl)
both_true true false e = absurd (true≢false (sym e))
both_true false b e = absurd (true≢false (sym e))

-- what the world has is one of the batches
pub of_world : (feds : List Fed) (o n : ℕ) (rows : List Row) → world_of feds o n ≡ Some rows → (fed : Fed) × Member feds fed
    × (fed.origin ≡ o) × (fed.number ≡ n) × (fed.rows ≡ rows)
of_world [] o n rows e = absurd (true≢false (sym (ap is_some e)))
of_world (fed ∷ feds) o n rows e =
    elim (fed.origin == o && fed.number == n) as (λ b. (fed.origin == o && fed.number == n) ≡ b
    → (if b then Some fed.rows else world_of feds o n) ≡ Some rows
    → (f : Fed) × Member (fed ∷ feds) f × (f.origin ≡ o) × (f.number ≡ n) × (f.rows ≡ rows)) [
      | true ↦ λ is e. let both = both_true (fed.origin == o) (fed.number == n) is in
          (fed, inl refl, same_number fed.origin o both.0, same_number fed.number n both.1, some_is fed.rows rows e)
      | false ↦ λ is e. let rest = of_world feds o n rows e in (rest.0, inr rest.1, rest.2, rest.3, rest.4)
    ] refl e

itself : (n : ℕ) → (n == n) ≡ true
itself n = grind arith

-- a batch with another number isn't this one
in_rest : (f : Fed) (feds : List Fed) (fed : Fed) → Member (f ∷ feds) fed → (f.origin == fed.origin && f.number == fed.number) ≡ false
    → (Member feds fed → (rows : List Row) × (world_of feds fed.origin fed.number ≡ Some rows))
    → (rows : List Row) × (world_of feds fed.origin fed.number ≡ Some rows)
in_rest f feds fed (inl same) is rest =
    absurd (true≢false (sym (ap (λ (g : Fed). g.origin == fed.origin && g.number == fed.number) same
    ∙ (λ i. itself fed.origin i && itself fed.number i)) ∙ is))
in_rest f feds fed (inr m) is rest = rest m

-- each batch is in the world, some batch of its number
pub in_world : (feds : List Fed) (fed : Fed) → Member feds fed → (rows : List Row) × (world_of feds fed.origin fed.number ≡ Some rows)
in_world [] fed m = absurd m
in_world (f ∷ feds) fed m =
    elim (f.origin == fed.origin && f.number == fed.number) as (λ b. (f.origin == fed.origin && f.number == fed.number) ≡ b
    → (rows : List Row) × ((if b then Some f.rows else world_of feds fed.origin fed.number) ≡ Some rows)) [
      | true ↦ λ is. (f.rows, refl)
      | false ↦ λ is. in_rest f feds fed m is (in_world feds fed)
    ] refl

pub batch_in_world : (feds : List Fed) → OneBatchEach feds → (fed : Fed) → Contains feds fed → world_of feds fed.origin fed.number
    ≡ Some fed.rows
batch_in_world feds one fed there =
    let found = in_world feds fed (from_contains feds fed there) in
    let of = of_world feds fed.origin fed.number found.0 found.1 in
    found.1 ∙ ap Some (sym of.4 ∙ one of.0 fed (to_contains feds of.0 of.1) there of.2 of.3)

member_all : {X : Type 0} (P : X → Type 0) (xs : List X) (x : X) → AllByRecursion P xs → Member xs x → P x
member_all P (y ∷ xs) x all (inl same) = subst P same all.0
member_all P (y ∷ xs) x all (inr rest) = member_all P xs x all.1 rest
member_all P [] x all m = absurd m

-- it is a world of the batches' columns
pub is_world : (feds : List Fed) (columns : List Column) → All (IsOfColumns columns) feds → IsWorld (kinds columns) (world_of feds)
is_world feds columns all o n rows there =
    let found = of_world feds o n rows there in
    let is : IsOfColumns columns found.0 = member_all (IsOfColumns columns) feds found.0 (recursion_from_All (IsOfColumns columns) feds all)
    found.1 in (
      subst (λ m. m ≤ LAST_ORIGIN) found.2 is.origin,
      subst (λ m. 1 ≤ m) found.3 is.first,
      subst (λ m. m ≤ LAST_NUMBER) found.3 is.last,
      subst (λ rs. length rs ≤ MAX_ROWS) found.4 is.few,
      subst (All (HasKinds (kinds columns))) found.4 is.rows,
    )

agrees_reply : (feds : List Fed) (reply : Reply) → ColumnsOf feds reply → AgreesWith (world_of feds) reply
agrees_reply feds (machine.Has_columns columns) of = is_world feds columns of
agrees_reply feds (machine.Has_query q) of = tt
agrees_reply feds (machine.Has_limit n) of = tt
agrees_reply feds (machine.Created n) of = tt
agrees_reply feds (machine.Took n f d) of = tt
agrees_reply feds (machine.Merged i j) of = tt
agrees_reply feds (machine.Saved n q k) of = tt
agrees_reply feds (machine.Loaded n k) of = tt
agrees_reply feds (machine.Listed l) of = tt
agrees_reply feds (machine.Answered q k) of = tt
agrees_reply feds (machine.Refused w) of = tt

agrees_feed : (feds : List Fed) → OneBatchEach feds → (old : State) (request : Request) (owned : List Record)
    → FeedsAmong feds old request owned → FeedAgrees (world_of feds) old request owned
agrees_feed feds one old (ask.Columns text) owned among = tt
agrees_feed feds one old (ask.Query text) owned among = tt
agrees_feed feds one old (ask.Limit bytes) owned among = tt
agrees_feed feds one old (ask.Replica name) owned among = tt
agrees_feed feds one old (ask.Known name) owned among = tt
agrees_feed feds one old (ask.Answer name) owned among = tt
agrees_feed feds one old (ask.Merge into from) owned among = tt
agrees_feed feds one old (ask.Save name saved) owned among = tt
agrees_feed feds one old (ask.Load name saved) owned among = tt
agrees_feed feds one old ask.Unknown owned among = tt
agrees_feed feds one old (ask.Feed name origin number told) owned among = go (old.replicas name) among
  where
    go : (found : Option Knowledge)
        → IfSome found (λ known. (fed : Fed) → IsBatch (kinds (unwrap_or old.columns [])) origin number told owned fed → Contains feds fed)
        → IfSome found (λ known. (fed : Fed) → IsBatch (kinds (unwrap_or old.columns [])) origin number told owned fed
        → world_of feds fed.origin fed.number ≡ Some fed.rows)
    go None among = tt
    go (Some known) among = λ fed is. batch_in_world feds one fed (among fed is)

agrees_step : (feds : List Fed) → OneBatchEach feds → (old : State) (request : Request) (owned : List Record) (reply : Reply)
    → FeedsOf feds old request owned reply → AgreesAt (world_of feds) old request owned reply
agrees_step feds one old request owned reply among =
    (λ right. agrees_reply feds reply (among.0 right), agrees_feed feds one old request owned among.1)

pub agrees : (feds : List Fed) → OneBatchEach feds → (old : State) (commands : List Command) (replies : List Reply)
    → AreAmong feds old commands replies → Agrees (world_of feds) old commands replies
agrees feds one = along_weaker (FeedsOf feds) (AgreesAt (world_of feds)) (agrees_step feds one)
