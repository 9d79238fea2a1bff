-- The pieces of all inputs, and how many rows they count.
use Rattle.std.specs.Prelude.{◌≡◌, refl, ℕ, zero, suc, ◌+◌, ◌≤◌, Bool, true, false, cond, ◌||◌, List, [], ◌∷◌, ◌++◌, length, map, take}
use Rattle.std.specs.Prelude.{slice_get, Some}
use Rattle.std.proofs.Common.{sym, ◌∙◌, ap, subst, arith, add-one, append-nil, append_assoc}
use Rattle.std.proofs.lemmas.List.{length-map, length-append}
use Rattle.std.proofs.lemmas.List.Sums.{sum_by-cons, sum_by-append}
use Rattle.std.specs.List.{AllByRecursion}
use Rattle.std.specs.List.Sorted.{IsStrictlySortedBy}
use Rattle.hash_agg.proofs.Words.{Row, row_cmp, same_row, is_among, Query, is_met, Group, column_of, selected, keys_of, packing, Record}
use Rattle.hash_agg.proofs.Words.{PendingPartition, PartitionsState, meaning, Plan, Entry, concatenated, key_kinds, Brought, Packed}
use Rattle.hash_agg.proofs.Words.{Counted, rows_in, all_rows, IsInput, AllBring, Given, Of_rows, Of_groups, AllGive, row_added, rows_added}
use Rattle.hash_agg.proofs.Words.{group_added, groups_added, Are, source_of, Of_row, Of_group, pieces_added, made_of, piece_key, weight}
use Rattle.hash_agg.proofs.Words.{rows_at, CountUpTo, given_pieces, all_pieces, PassState, setting_of, Holds, CanRead, Reads, total, brings}
use Rattle.hash_agg.proofs.Words.{brought_by, Brings}
use Rattle.grouping_model.specs.Grouping.{key_of}
use Rattle.grouping_model.specs.PartLaws.{same_row-swap}
use Rattle.grouping_model.specs.DatumOrderLaws.{same_row-is}
use Rattle.hash_agg.specs.Inputs.{Gives}
use Rattle.group_runs.specs.StandingLaws.{keys_packed, keys_of_kinds}
use Rattle.group_runs.specs.Lemmas.RunLaws.{run_apart}
use Rattle.group_runs.specs.Lemmas.MergeLaws.{puts-append}
use Rattle.group_runs.specs.MergeLaws.{AreApart, puts, puts_rise, nothing_rises, keys_of-rows_added, keys_of-groups_added}
use Rattle.hash_agg.proofs.PassLaws.{rows_append, pieces_append}
use Rattle.hash_agg.proofs.WholeLaws.{GivenAt, given_at, InputAt, given_added, all_added, packings_once}

pub pieces_are : (q : Query) (hf : List ℕ → ℕ) (input : Brought) (given : Given) → Gives q input given
    → Are q hf (source_of input) (given_pieces input given)
pieces_are q hf (Packed packed) (Of_rows rows) gives = (rows, gives, refl)
pieces_are q hf (Packed packed) (Of_groups groups) gives = absurd gives
pieces_are q hf (Counted run most) (Of_rows rows) gives = absurd gives
pieces_are q hf (Counted run most) (Of_groups groups) gives = (most, (groups, gives, refl))

-- ---- the groups that they make up

rows_made : (q : Query) (gs : List Group) (rows : List Row) → pieces_added q gs (map Of_row rows) ≡ rows_added q gs rows
rows_made q gs [] = refl
rows_made q gs (row ∷ rows) = rows_made q (row_added q gs row) rows

groups_made : (q : Query) (most : ℕ) (gs more : List Group) → pieces_added q gs (map (λ group. Of_group group most) more)
    ≡ groups_added q gs more
groups_made q most gs [] = refl
groups_made q most gs (g ∷ more) = groups_made q most (group_added q gs g) more

given_made : (q : Query) (gs : List Group) (input : Brought) (given : Given) → pieces_added q gs (given_pieces input given)
    ≡ given_added q gs given
given_made q gs input (Of_rows rows) = rows_made q gs rows
given_made q gs input (Of_groups groups) = groups_made q (rows_in input) gs groups

pub all_made : (q : Query) (gs : List Group) (inputs : List Brought) (givens : List Given) → AllGive q inputs givens
    → pieces_added q gs (all_pieces inputs givens) ≡ all_added q gs givens
all_made q gs [] [] give = refl
all_made q gs [] (given ∷ givens) give = absurd give
all_made q gs (input ∷ inputs) [] give = absurd give
all_made q gs (input ∷ inputs) (given ∷ givens) (one, give) =
    pieces_append q gs (given_pieces input given) (all_pieces inputs givens)
    ∙ ap (λ gs. pieces_added q gs (all_pieces inputs givens)) (given_made q gs input given)
    ∙ all_made q (given_added q gs given) inputs givens give

given_rise : (q : Query) (gs : List Group) (given : Given) → IsStrictlySortedBy row_cmp (keys_of gs)
    → IsStrictlySortedBy row_cmp (keys_of (given_added q gs given))
given_rise q gs (Of_rows rows) rising = subst (IsStrictlySortedBy row_cmp) (sym (keys_of-rows_added q gs rows))
    (puts_rise (keys_of gs) (map (key_of q) (selected q rows)) rising)
given_rise q gs (Of_groups groups) rising = subst (IsStrictlySortedBy row_cmp) (sym (keys_of-groups_added q gs groups))
    (puts_rise (keys_of gs) (keys_of groups) rising)

all_rise : (q : Query) (gs : List Group) (givens : List Given) → IsStrictlySortedBy row_cmp (keys_of gs)
    → IsStrictlySortedBy row_cmp (keys_of (all_added q gs givens))
all_rise q gs [] rising = rising
all_rise q gs (given ∷ givens) rising = all_rise q (given_added q gs given) givens (given_rise q gs given rising)

pub made_rise : (q : Query) (inputs : List Brought) (givens : List Given) → AllGive q inputs givens
    → IsStrictlySortedBy row_cmp (keys_of (made_of q (all_pieces inputs givens)))
made_rise q inputs givens give = subst (λ gs. IsStrictlySortedBy row_cmp (keys_of gs)) (sym (all_made q [] inputs givens give))
    (all_rise q [] givens nothing_rises)

-- ---- how many rows they count

rows_few : (q : Query) (k : Row) (rows : List Row) → rows_at q k (map Of_row rows) ≤ length rows
rows_few q k [] = omega arith
rows_few q k (row ∷ rows) =
    let rest = rows_few q k rows in
    let both = sum_by-cons (λ x. cond (same_row (piece_key q x) k) (weight x) 0) (Of_row row) (map Of_row rows) in
    let one = at_most (same_row (key_of q row) k) in
    omega (arith, rest, both, one)
  where
    at_most : (b : Bool) → cond b 1 0 ≤ 1
    at_most true = omega arith
    at_most false = omega arith

none_counted : (q : Query) (k : Row) (most : ℕ) (gs : List Group) → is_among row_cmp k (keys_of gs) ≡ false
    → rows_at q k (map (λ group. Of_group group most) gs) ≡ 0
none_counted q k most [] none = refl
none_counted q k most (g ∷ gs) none =
    elim (same_row k g.0) as (λ b. same_row k g.0 ≡ b → (b || is_among row_cmp k (keys_of gs)) ≡ false
    → rows_at q k (map (λ group. Of_group group most) (g ∷ gs)) ≡ 0) [
      | true ↦ λ e n. absurd cc
      | false ↦ λ e n.
          let both = sum_by-cons (λ x. cond (same_row (piece_key q x) k) (weight x) 0) (Of_group g most)
          (map (λ group. Of_group group most) gs) in
          let head : cond (same_row g.0 k) most 0 ≡ 0 = ap (λ b. cond b most 0) (same_row-swap g.0 k ∙ e) in
          let rest = none_counted q k most gs n in
          omega (arith, both, head, rest)
    ] refl none

groups_few : (q : Query) (k : Row) (most : ℕ) (gs : List Group) → AreApart (keys_of gs)
    → rows_at q k (map (λ group. Of_group group most) gs) ≤ most
groups_few q k most [] apart = omega arith
groups_few q k most (g ∷ gs) (none, apart) =
    let both = sum_by-cons (λ x. cond (same_row (piece_key q x) k) (weight x) 0) (Of_group g most) (map (λ group. Of_group group most) gs)
    in
    let rest = groups_few q k most gs apart in
    elim (same_row g.0 k) as (λ b. same_row g.0 k ≡ b → rows_at q k (map (λ group. Of_group group most) (g ∷ gs)) ≤ most) [
      | true ↦ λ e.
          let gone : rows_at q k (map (λ group. Of_group group most) gs)
          ≡ 0 = none_counted q k most gs (subst (λ k. is_among row_cmp k (keys_of gs) ≡ false) ((same_row-is g.0 k).0 e) none) in
          let head : cond (same_row g.0 k) most 0 ≡ most = ap (λ b. cond b most 0) e in
          omega (arith, both, gone, head)
      | false ↦ λ e.
          let head : cond (same_row g.0 k) most 0 ≡ 0 = ap (λ b. cond b most 0) e in
          omega (arith, both, rest, head)
    ] refl

given_few : (q : Query) (k : Row) (input : Brought) (given : Given) → IsInput q input → Gives q input given
    → rows_at q k (given_pieces input given) ≤ rows_in input
given_few q k (Packed packed) (Of_rows rows) is gives =
    let few = rows_few q k rows in
    let long : length packed ≡ length rows = ap length gives.packings_are ∙ length-map rows packing in
    omega (arith, few, long)
given_few q k (Packed packed) (Of_groups groups) is gives = absurd gives
given_few q k (Counted run most) (Of_rows rows) is gives = absurd gives
given_few q k (Counted run most) (Of_groups groups) is gives = groups_few q k most groups (run_apart q most run groups gives is.rises)

pub all_few : (q : Query) (k : Row) (inputs : List Brought) (givens : List Given) → AllByRecursion (IsInput q) inputs
    → AllGive q inputs givens → rows_at q k (all_pieces inputs givens) ≤ all_rows inputs
all_few q k [] [] all give = omega arith
all_few q k [] (given ∷ givens) all give = absurd give
all_few q k (input ∷ inputs) [] all give = absurd give
all_few q k (input ∷ inputs) (given ∷ givens) (is, all) (one, give) =
    let first = given_few q k input given is one in
    let rest = all_few q k inputs givens all give in
    let both = rows_append q k (given_pieces input given) (all_pieces inputs givens) in
    let sum = sum_by-cons rows_in input inputs in
    omega (arith, first, rest, both, sum)

-- ---- one input after the other

pub pieces_next : (inputs : List Brought) (givens : List Given) (i : ℕ) (input : Brought) (given : Given) → slice_get inputs i ≡ Some input
    → slice_get givens i ≡ Some given
    → all_pieces (take (i + 1) inputs) (take (i + 1) givens) ≡ all_pieces (take i inputs) (take i givens) ++ given_pieces input given
pieces_next [] givens i input given at bt = absurd cc
pieces_next (x ∷ inputs) [] i input given at bt = absurd cc
pieces_next (x ∷ inputs) (g ∷ givens) zero input given at bt =
    let first : x ≡ input = cc in
    let second : g ≡ given = cc in
    append-nil (given_pieces x g) ∙ (λ i. given_pieces (first i) (second i))
pieces_next (x ∷ inputs) (g ∷ givens) (suc i) input given at bt =
    ap (λ n. all_pieces (take n (x ∷ inputs)) (take n (g ∷ givens))) (add-one (suc i))
    ∙ ap (λ n. given_pieces x g ++ all_pieces (take n inputs) (take n givens)) (sym (add-one i))
    ∙ ap (λ ps. given_pieces x g ++ ps) (pieces_next inputs givens i input given at bt)
    ∙ sym (append_assoc (given_pieces x g) (all_pieces (take i inputs) (take i givens)) (given_pieces input given))

pub front_few : (q : Query) (k : Row) (inputs : List Brought) (givens : List Given) (n : ℕ)
    → rows_at q k (all_pieces (take n inputs) (take n givens)) ≤ rows_at q k (all_pieces inputs givens)
front_few q k [] givens zero = omega arith
front_few q k [] givens (suc n) = omega arith
front_few q k (x ∷ inputs) [] zero = omega arith
front_few q k (x ∷ inputs) [] (suc n) = omega arith
front_few q k (x ∷ inputs) (g ∷ givens) zero = omega arith
front_few q k (x ∷ inputs) (g ∷ givens) (suc n) =
    let rest = front_few q k inputs givens n in
    let a = rows_append q k (given_pieces x g) (all_pieces inputs givens) in
    let b = rows_append q k (given_pieces x g) (all_pieces (take n inputs) (take n givens)) in
    omega (arith, rest, a, b)

module _ (plan : Plan) (hf : List ℕ → ℕ) (inputs : List Brought) (givens : List Given) (i : ℕ) (input : Brought)
    (here : InputAt inputs i input)
    (all : AllByRecursion (IsInput (meaning plan.query.now)) inputs) (give : AllGive (meaning plan.query.now) inputs givens)
    (low : all_rows inputs ≤ plan.most) where
  abbrev found : GivenAt (meaning plan.query.now) givens i input
  found = given_at (meaning plan.query.now) inputs givens i input give here.within here.is

  front_count : CountUpTo (meaning plan.query.now) plan.most (all_pieces (take i inputs) (take i givens) ++ given_pieces input found.given)
  front_count k =
      let a = front_few (meaning plan.query.now) k inputs givens (i + 1) in
      let b = all_few (meaning plan.query.now) k inputs givens all give in
      let c : rows_at (meaning plan.query.now) k (all_pieces (take (i + 1) inputs) (take (i + 1) givens))
      ≡ rows_at (meaning plan.query.now) k (all_pieces (take i inputs) (take i givens) ++ given_pieces input found.given) =
      ap (rows_at (meaning plan.query.now) k) (pieces_next inputs givens i input found.given here.at found.at) in
      omega (arith, a, b, c, low)

  module _ (pass : PassState) (ahead : List Record) (pending : List PendingPartition)
      (holds : Holds (meaning plan.query.now) (setting_of plan hf) pass (all_pieces (take i inputs) (take i givens)) ahead pending) where
    pub can_read_input : CanRead plan hf (Are (meaning plan.query.now) hf (source_of input)) pass
    can_read_input = (
      all_pieces (take i inputs) (take i givens),
      given_pieces input found.given,
      ahead,
      pending,
      holds,
      pieces_are
          (meaning plan.query.now) hf input found.given found.gives,
      front_count,
    )

    pub input_read : (next : PassState) → Reads plan hf (Are (meaning plan.query.now) hf (source_of input)) pass next
        → Holds (meaning plan.query.now) (setting_of plan hf) next (all_pieces (take (i + 1) inputs) (take (i + 1) givens)) ahead pending
    input_read next reads =
        subst (λ ps. Holds (meaning plan.query.now) (setting_of plan hf) next ps ahead pending)
        (sym (pieces_next inputs givens i input found.given here.at found.at))
        (reads (all_pieces (take i inputs) (take i givens)) (given_pieces input found.given) ahead pending holds
        (pieces_are (meaning plan.query.now) hf input found.given found.gives) front_count)

-- what an input brings, on top of what those before it brought
pub input_brings : (q : Query) (hf : List ℕ → ℕ) (inputs : List Brought) (givens : List Given) (i : ℕ) (input : Brought)
    (old new : List Entry) (before after : PartitionsState) → InputAt inputs i input → AllGive q inputs givens
    → Brings q (Are q hf (source_of input)) old before new after
    → total old before ≤ brought_by q (all_pieces (take i inputs) (take i givens))
    → total new after ≤ brought_by q (all_pieces (take (i + 1) inputs) (take (i + 1) givens))
input_brings q hf inputs givens i input old new before after here give brought few =
    let found : GivenAt q givens i input = given_at q inputs givens i input give here.within here.is in
    let more = brought (given_pieces input found.given) (pieces_are q hf input found.given found.gives) in
    let both : brought_by q (all_pieces (take (i + 1) inputs) (take (i + 1) givens))
    ≡ brought_by q (all_pieces (take i inputs) (take i givens)) + brought_by q (given_pieces input found.given) =
    ap (brought_by q) (pieces_next inputs givens i input found.given here.at found.at)
    ∙ sum_by-append (brings q) (all_pieces (take i inputs) (take i givens)) (given_pieces input found.given) in
    omega (arith, few, more, both)

-- ---- as many as keys are brought

rows_bring : (q : Query) (rows : List Row) → brought_by q (map Of_row rows) ≡ length (selected q rows)
rows_bring q [] = refl
rows_bring q (row ∷ rows) =
    let both = sum_by-cons (brings q) (Of_row row) (map Of_row rows) in
    let rest = rows_bring q rows in
    elim (is_met (column_of row) q.condition) as (λ b. is_met (column_of row) q.condition ≡ b → brought_by q (map Of_row (row ∷ rows))
    ≡ length (cond b (row ∷ selected q rows) (selected q rows))) [
      | true ↦ λ e. let one : brings q (Of_row row) ≡ 1 = ap (λ b. cond b 1 0) e in omega (arith, both, rest, one)
      | false ↦ λ e. let none : brings q (Of_row row) ≡ 0 = ap (λ b. cond b 1 0) e in omega (arith, both, rest, none)
    ] refl

groups_bring : (q : Query) (most : ℕ) (groups : List Group) → brought_by q (map (λ group. Of_group group most) groups) ≡ length groups
groups_bring q most [] = refl
groups_bring q most (g ∷ groups) =
    let both = sum_by-cons (brings q) (Of_group g most) (map (λ group. Of_group group most) groups) in
    let rest = groups_bring q most groups in
    omega (arith, both, rest)

-- inputs that bring keys give groups of these keys, and pieces that bring as many
pub record GiveKeys (q : Query) (inputs : List Brought) (keys : List Row) : Type 0 where
  pub givens : List Given
  pub give : AllGive q inputs givens
  pub added : (gs : List Group) → keys_of (all_added q gs givens) ≡ puts (keys_of gs) keys
  pub bring : brought_by q (all_pieces inputs givens) ≡ length keys

next_bring : (q : Query) (input : Brought) (given : Given) (inputs : List Brought) (keys : List Row) (lists : List (List Row))
    (rest : GiveKeys q inputs (concatenated lists)) → brought_by q (given_pieces input given) ≡ length keys
    → brought_by q (given_pieces input given ++ all_pieces inputs rest.givens) ≡ length (keys ++ concatenated lists)
next_bring q input given inputs keys lists rest one =
    let both = sum_by-append (brings q) (given_pieces input given) (all_pieces inputs rest.givens) in
    let others = rest.bring in
    let long = length-append keys (concatenated lists) in
    omega (arith, both, others, long, one)

pub keys_give : (q : Query) (inputs : List Brought) (lists : List (List Row)) → AllByRecursion (IsInput q) inputs → AllBring q inputs lists
    → GiveKeys q inputs (concatenated lists)
keys_give q [] [] all bring = record { givens = []; give = tt; added = λ gs. refl; bring = refl }
keys_give q [] (ks ∷ lists) all bring = absurd bring
keys_give q (x ∷ inputs) [] all bring = absurd bring
keys_give q (Packed packed ∷ inputs) (ks ∷ lists) (first, all) (one, bring) =
    let rest = keys_give q inputs lists all bring in
    record {
      givens = Of_rows one.0 ∷ rest.givens;
      give = (one.1, rest.give);
      added =
          λ gs.
          rest.added (rows_added q gs one.0)
          ∙ ap (λ ls. puts ls (concatenated lists)) (keys_of-rows_added q gs one.0 ∙ ap (puts (keys_of gs)) (sym one.2))
          ∙ sym (puts-append (keys_of gs) ks (concatenated lists));
      bring = next_bring q (Packed packed) (Of_rows one.0) inputs ks lists rest (rows_bring q one.0
          ∙ sym (ap length one.2 ∙ length-map (selected q one.0) (key_of q)));
    }
keys_give q (Counted run most ∷ inputs) (ks ∷ lists) (first, all) (one, bring) =
    let rest = keys_give q inputs lists all bring in
    let same : keys_of first.groups ≡ ks =
    packings_once (key_kinds q) (keys_of first.groups) ks (keys_of_kinds q most run first.groups first.are) one.of_kinds
    (sym (keys_packed q most run first.groups first.are) ∙ one.packings_are) in
    record {
      givens = Of_groups first.groups ∷ rest.givens;
      give = (first.are, rest.give);
      added =
          λ gs.
          rest.added (groups_added q gs first.groups)
          ∙ ap (λ ls. puts ls (concatenated lists)) (keys_of-groups_added q gs first.groups ∙ ap (puts (keys_of gs)) same)
          ∙ sym (puts-append (keys_of gs) ks (concatenated lists));
      bring = next_bring q (Counted run most) (Of_groups first.groups) inputs ks lists rest (groups_bring q most first.groups
          ∙ sym (length-map first.groups (λ (g : Group). g.0)) ∙ ap length same);
    }

-- what is not more than the pieces bring is not more than the keys
pub few_keys : (q : Query) (inputs : List Brought) (lists : List (List Row)) (n : ℕ) → AllByRecursion (IsInput q) inputs
    → ((givens : List Given) → AllGive q inputs givens → n ≤ brought_by q (all_pieces inputs givens)) → AllBring q inputs lists
    → n ≤ length (concatenated lists)
few_keys q inputs lists n all few bring =
    let many = keys_give q inputs lists all bring in
    let low = few many.givens many.give in
    let is = many.bring in
    omega (arith, low, is)
