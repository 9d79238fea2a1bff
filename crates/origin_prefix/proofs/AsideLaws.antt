-- What stands aside of two parts, and what the first becomes by taking that in.
use Rattle.std.specs.Prelude.{◌≡◌, ◌≢◌, refl, ℕ, suc, ◌+◌, ◌*◌, ◌<◌, ◌≤◌, ◌==◌, ◌⊎◌, nat_lt, nat_eq, Bool, true, false, cond, List, []}
use Rattle.std.specs.Prelude.{◌∷◌, map, take, drop, length, Option, Some, None, option_map, unwrap_or, if◌then◌else◌, Result, Ok, Err}
use Rattle.std.specs.Prelude.{IsErrAnd, IsTrue, ◌↔◌, not}
use Rattle.std.proofs.Common.{◌∙◌, sym, ap, subst, inl, inr, arith}
use Rattle.std.proofs.lemmas.Bool.{true≢false, cases_lt}
use Rattle.std.specs.Option.{is_some}
use Rattle.std.specs.BTreeMap.{BTreeMap, insert_entry, WritesThrough}
use Rattle.std.specs.List.{AllByRecursion}
use Rattle.std.specs.List.Sorted.{IsStrictlySortedBy}
use Rattle.std.specs.Ordering.{eq_by_cmp, nat_cmp}
use Rattle.list_laws.specs.Outcomes.{none_there}
use Rattle.aggregation_cost.specs.Space.{Setting}
use Rattle.grouping_model.specs.declared.limits.TheConstants.{LAST_NUMBER, MAX_ROWS}
use Rattle.packed_rows.specs.Columns.{kinds}
use Rattle.query_checks.specs.Checks.{Checked}
use Rattle.having_filter.specs.Meaning.{meaning}
use Rattle.hash_agg.specs.declared.work.Work.{Work}
use Rattle.origin_prefix.specs.Parts.{Batches, Part, rows_at, IsBehind, IsEarly, IsPartOf, Drains, Folds, following}
use Rattle.origin_prefix.specs.Joins.{either, put_into, with_rows, gaining, settled, Unites, Joins, JoinIsCounted, KeepsGroups, StandAside}
use Rattle.origin_prefix.specs.Joins.{longer, Joining, JoiningAside, JoinTells}
use Rattle.origin_prefix.specs.declared.error.JoinError.{JoinError}
use Rattle.origin_prefix.specs.Lemmas.ByNumber.{numbers, at_head, behind_head, none_found, first_alone}
use Rattle.origin_prefix.specs.Lemmas.ByNumber.{found_holds, all_found, put_same, put_else, same_entries}
use Rattle.origin_prefix.specs.Lemmas.Lists.{is_itself, is_same, is_other, same_or_other}
use Rattle.origin_prefix.proofs.CountLaws.{none_counted}
use Rattle.origin_prefix.proofs.PartLaws.{drained_part}

abbrev pub Rows : Type 0
Rows = List (List ℕ)

-- ---- places

abbrev pub no_rows : Rows → Rows
no_rows rows = []

abbrev no_batch : Option Rows
no_batch = None

-- a place more
pub placed : (old rest : Batches) (number : ℕ) (rows : Rows) (all : Option Rows) (n : ℕ)
    → either (rows_at old n) (option_map no_rows (rows_at ((number, rows) ∷ rest) n)) ≡ option_map no_rows all
    → either (rows_at (insert_entry nat_cmp old number []) n) (option_map no_rows (rows_at rest n)) ≡ option_map no_rows all
placed old rest number rows all n before = go (same_or_other n number)
  where
    is_place : (x all : Option Rows) → either x (Some []) ≡ option_map no_rows all → Some [] ≡ option_map no_rows all
    is_place x (Some q) e = refl
    is_place None None e = e
    is_place (Some q) None e = absurd (true≢false (ap is_some e))

    go : (n ≡ number) ⊎ (n ≢ number) → either (rows_at (insert_entry nat_cmp old number []) n) (option_map no_rows (rows_at rest n))
        ≡ option_map no_rows all
    go (inl same) =
        let here : rows_at ((number, rows) ∷ rest) n ≡ Some rows = ap (rows_at ((number, rows) ∷ rest)) same ∙ at_head number rows rest in
        let put : rows_at (insert_entry nat_cmp old number []) n ≡ Some [] = ap (rows_at (insert_entry nat_cmp old number [])) same
        ∙ put_same old number [] in
        ap (λ x. either x (option_map no_rows (rows_at rest n))) put
        ∙ is_place (rows_at old n) all (sym (ap (λ x. either (rows_at old n) (option_map no_rows x)) here) ∙ before)
    go (inr other) =
        ap (λ x. either x (option_map no_rows (rows_at rest n))) (put_else old number [] n other)
        ∙ ap (λ x. either (rows_at old n) (option_map no_rows x)) (sym (behind_head n number rows rest other))
        ∙ before

-- ---- rows put into places

-- what a place holds after rows were written into it
pub written_at : (old new : BTreeMap ℕ Rows) (number : ℕ) (before rows : Rows) → rows_at old.entries number ≡ Some before
    → WritesThrough nat_cmp (nat_cmp number) old rows new
    → (n : ℕ) → rows_at new.entries n
    ≡ cond (eq_by_cmp nat_cmp n number) (put_into (rows_at old.entries n) (Some rows)) (rows_at old.entries n)
written_at old new number before rows there written n = go (same_or_other n number)
  where
    go : (n ≡ number) ⊎ (n ≢ number) → rows_at new.entries n
        ≡ cond (eq_by_cmp nat_cmp n number) (put_into (rows_at old.entries n) (Some rows)) (rows_at old.entries n)
    go (inl same) =
        subst (λ k. rows_at new.entries k
        ≡ cond (eq_by_cmp nat_cmp k number) (put_into (rows_at old.entries k) (Some rows)) (rows_at old.entries k))
        (sym same)
        ((written.3 (ap is_some there)).1
        ∙ sym (ap (λ b. cond b (put_into (rows_at old.entries number) (Some rows)) (rows_at old.entries number)) (is_itself number)
        ∙ ap (λ x. put_into x (Some rows)) there))
    go (inr other) =
        (written.3 (ap is_some there)).2 n (is_other number n (λ e. other (sym e)))
        ∙ sym (ap (λ b. cond b (put_into (rows_at old.entries n) (Some rows)) (rows_at old.entries n)) (is_other n number other))

-- one batch more was put
pub put_more : (old rest : Batches) (number : ℕ) (rows : Rows) (new : Batches)
    → IsStrictlySortedBy nat_cmp (numbers ((number, rows) ∷ rest))
    → ((n : ℕ) → rows_at new n ≡ cond (eq_by_cmp nat_cmp n number) (put_into (rows_at old n) (Some rows)) (rows_at old n))
    → (n : ℕ) → put_into (rows_at new n) (rows_at rest n) ≡ put_into (rows_at old n) (rows_at ((number, rows) ∷ rest) n)
put_more old rest number rows new rising put n = go (same_or_other n number)
  where
    kept : (x : Option Rows) → put_into (put_into x (Some rows)) None ≡ put_into x (Some rows)
    kept None = refl
    kept (Some q) = refl

    go : (n ≡ number) ⊎ (n ≢ number) → put_into (rows_at new n) (rows_at rest n)
        ≡ put_into (rows_at old n) (rows_at ((number, rows) ∷ rest) n)
    go (inl same) =
        subst (λ k. put_into (rows_at new k) (rows_at rest k) ≡ put_into (rows_at old k) (rows_at ((number, rows) ∷ rest) k)) (sym same)
        ((λ i. put_into
        ((put number ∙ ap (λ b. cond b (put_into (rows_at old number) (Some rows)) (rows_at old number)) (is_itself number)) i)
        (first_alone number rows rest rising i))
        ∙ kept (rows_at old number)
        ∙ sym (ap (put_into (rows_at old number)) (at_head number rows rest)))
    go (inr other) =
        (λ i. put_into
        ((put n ∙ ap (λ b. cond b (put_into (rows_at old n) (Some rows)) (rows_at old n)) (is_other n number other)) i)
        (rows_at rest n))
        ∙ ap (put_into (rows_at old n)) (sym (behind_head n number rows rest other))

pub put_none : (x : Option Rows) → put_into x None ≡ x
put_none None = refl
put_none (Some rows) = refl

-- what stands in places that kept rows were put into
pub with_rows_at : (kept places : Batches) (n : ℕ) → rows_at (with_rows kept places) n ≡ put_into (rows_at places n) (rows_at kept n)
with_rows_at kept [] n = refl
with_rows_at kept (place ∷ places) n =
    elim (eq_by_cmp nat_cmp n place.0) as (λ b. eq_by_cmp nat_cmp n place.0 ≡ b
    → cond b (Some (unwrap_or (rows_at kept place.0) place.1)) (rows_at (with_rows kept places) n)
    ≡ put_into (cond b (Some place.1) (rows_at places n)) (rows_at kept n)) [
      | true ↦ λ e. ap (λ m. Some (unwrap_or (rows_at kept m) place.1)) (sym (is_same n place.0 e)) ∙ unwrapped (rows_at kept n) place.1
      | false ↦ λ e. with_rows_at kept places n
    ] refl
  where
    unwrapped : (x : Option Rows) (rows : Rows) → Some (unwrap_or x rows) ≡ either x (Some rows)
    unwrapped None rows = refl
    unwrapped (Some kept) rows = refl

pub with_rows_numbers : (kept places : Batches) → numbers (with_rows kept places) ≡ numbers places
with_rows_numbers kept [] = refl
with_rows_numbers kept (place ∷ places) = ap (λ ns. place.0 ∷ ns) (with_rows_numbers kept places)

-- places in which all rows that are kept were put
pub put_is : (kept places new : Batches) → IsStrictlySortedBy nat_cmp (numbers places) → IsStrictlySortedBy nat_cmp (numbers new)
    → ((n : ℕ) → rows_at new n ≡ put_into (rows_at places n) (rows_at kept n)) → new ≡ with_rows kept places
put_is kept places new rises rising put =
    same_entries new (with_rows kept places) rising (subst (IsStrictlySortedBy nat_cmp) (sym (with_rows_numbers kept places)) rises)
    (λ n. put n ∙ sym (with_rows_at kept places n))

-- ---- what stands aside of a part that keeps its groups

none_at : (batches : Batches) → length batches ≡ 0 → (n : ℕ) → rows_at batches n ≡ None
none_at [] none n = refl
none_at (b ∷ batches) none n = absurd (omega (arith, none))

-- behind a gap nothing follows
none_follows : (prefix : ℕ) (batches : Batches) → rows_at batches (prefix + 1) ≡ None → following prefix batches ≡ 0
none_follows prefix [] none = refl
none_follows prefix (batch ∷ batches) none =
    elim (batch.0 == prefix + 1) as (λ t. (batch.0 == prefix + 1) ≡ t → (if t then suc (following (prefix + 1) batches) else 0) ≡ 0) [
      | true ↦ λ e.
          let next : batch.0 ≡ prefix + 1 = grind arith in
          absurd (true≢false (ap is_some (sym (at_head batch.0 batch.1 batches) ∙ ap (rows_at (batch ∷ batches)) next ∙ none)))
      | false ↦ λ e. refl
    ] refl

module _ (query : Checked) (own other aside : Part) (is : IsPartOf query own) (other_is : IsPartOf query other)
    (keeps : KeepsGroups own other) (stand : StandAside own other aside) where
  abbrev both : Batches
  both = (gaining own aside).early

  test : nat_lt own.prefix other.prefix ≡ false
  test = let low = keeps.longer in grind (arith, low)

  abbrev theirs : ℕ → Option Rows
  theirs n = if nat_lt own.prefix n then rows_at other.early n else None

  gained : (x y : Option Rows) → put_into (either (option_map no_rows x) y) x ≡ either x y
  gained None None = refl
  gained None (Some rows) = refl
  gained (Some rows) y = refl

  neither : (x y : Option Rows) → either (option_map no_rows x) y ≡ None → x ≡ either x y
  neither (Some x) y e = refl
  neither None y e = sym e

  -- the early batches are those of both
  both_at : (n : ℕ) → rows_at both n ≡ either (rows_at own.early n) (theirs n)
  both_at n = elim (nat_eq (length aside.early) 0) as (λ b. nat_eq (length aside.early) 0 ≡ b
      → rows_at (if b then own.early else with_rows own.early aside.early) n ≡ either (rows_at own.early n) (theirs n)) [
        | true ↦ λ e.
            let none : length aside.early ≡ 0 = grind arith in
            neither (rows_at own.early n) (theirs n) (sym (stand.rows n) ∙ none_at aside.early none n)
        | false ↦ λ e.
            with_rows_at own.early aside.early n ∙ ap (λ x. put_into x (rows_at own.early n)) (stand.rows n)
            ∙ gained (rows_at own.early n) (theirs n)
      ] refl

  both_rise : IsStrictlySortedBy nat_cmp (numbers both)
  both_rise = elim (nat_eq (length aside.early) 0) as (λ b. IsStrictlySortedBy nat_cmp
      (numbers (if b then own.early else with_rows own.early aside.early))) [
        | true ↦ is.rising
        | false ↦ subst (IsStrictlySortedBy nat_cmp) (sym (with_rows_numbers own.early aside.early)) stand.rising
      ]

  behind_of : (n : ℕ) (rows : Rows) (x y : Option Rows) → rows_at own.early n ≡ x → rows_at other.early n ≡ y
      → either x (if nat_lt own.prefix n then y else None) ≡ Some rows → IsBehind (kinds query.columns) own.prefix (n, rows)
  behind_of n rows (Some x) y mine its e =
      let early = found_holds (IsEarly (kinds query.columns) own.prefix) own.early n rows is.early (mine ∙ e) in
      let high = early.behind in
      record { behind = omega (arith, high); within = early.within; rows = early.rows }
  behind_of n rows None y mine its e = elim (cases_lt own.prefix n) [
    | inl low ↦
        let above : nat_lt own.prefix n ≡ true = grind (arith, low) in
        let early = found_holds (IsEarly (kinds query.columns) other.prefix) other.early n rows other_is.early
        (its ∙ sym (ap (λ b. if b then y else None) above) ∙ e) in
        record { behind = low; within = early.within; rows = early.rows }
    | inr high ↦
        let above : nat_lt own.prefix n ≡ false = grind (arith, high) in
        absurd (true≢false (ap is_some (sym e ∙ ap (λ b. if b then y else None) above)))
  ]

  all_behind : AllByRecursion (IsBehind (kinds query.columns) own.prefix) both
  all_behind = all_found (IsBehind (kinds query.columns) own.prefix) both both_rise
      (λ n rows there. behind_of n rows (rows_at own.early n) (rows_at other.early n) refl refl (sym (both_at n) ∙ there))

  all_above : AllByRecursion (λ (batch : ℕ × Rows). own.prefix < batch.0) both
  all_above = all_found (λ (batch : ℕ × Rows). own.prefix < batch.0) both both_rise
      (λ n rows there. (found_holds (IsBehind (kinds query.columns) own.prefix) both n rows all_behind there).behind)

  united : Unites own.prefix own other both
  united = record {
    rising = both_rise;
    above = all_above;
    rows = λ n low.
        let above : nat_lt own.prefix n ≡ true = grind (arith, low) in
        both_at n ∙ ap (λ b. either (rows_at own.early n) (if b then rows_at other.early n else None)) above;
  }

  own_gap : rows_at own.early (own.prefix + 1) ≡ None
  own_gap = none_found (IsEarly (kinds query.columns) own.prefix) own.early (own.prefix + 1) is.early
      (λ rows early. let high = early.behind in omega (arith, high))

  none : following own.prefix both ≡ 0
  none = none_follows own.prefix both (both_at (own.prefix + 1)
      ∙ (λ i. either (own_gap i) (if nat_lt own.prefix (own.prefix + 1) then keeps.gap i else None))
      ∙ nothing (nat_lt own.prefix (own.prefix + 1)))
    where
      nothing : (b : Bool) → (if b then no_batch else no_batch) ≡ no_batch
      nothing true = refl
      nothing false = refl

  abbrev part : Part
  part = gaining own aside

  drained : (honest : Bool) → Drains honest (meaning query) own.prefix own.run both part
  drained honest = record {
    upto = omega (arith, none);
    folded = subst (λ (k : ℕ). Folds honest (meaning query) own.run (own.prefix * MAX_ROWS)
        (map (λ (batch : ℕ × Rows). batch.1) (take k both)) own.run) (sym none) refl;
    early = ap (λ (k : ℕ). drop k both) (sym none);
  }

  settled_is : settled own aside ≡ part
  settled_is = let low = stand.prefix in let e : nat_eq aside.prefix 0 ≡ true = grind (arith, low) in
      ap (λ b. if b then gaining own aside else aside) e

  pub aside_joins : (honest : Bool) → Joins honest (meaning query) own other (settled own aside)
  aside_joins honest = subst (Joins honest (meaning query) own other) (sym settled_is)
      (record { behind = both; united = rw test united; drained = rw test (drained honest) })

  pub aside_part : IsPartOf query (settled own aside)
  aside_part = subst (IsPartOf query) (sym settled_is)
      (drained_part true query own.prefix own.run both part
      (record { within = is.within; is_run = is.run; few = is.few; rising = both_rise; above = all_behind }) (drained true))

  pub aside_counted : (setting : Setting) (work : Work) (writes : ℕ) → JoinIsCounted own other (meaning query) setting work writes work
      writes
  aside_counted setting work writes = record {
    behind = both;
    united = rw test united;
    counted = rw test (none_counted own.prefix both (meaning query) setting work writes none);
  }

-- parts that are joined otherwise have a prefix
longer_none : (a b : Part) → (longer a b).prefix ≡ 0 → (a.prefix ≡ 0) × (b.prefix ≡ 0)
longer_none a b none =
    elim (nat_lt a.prefix b.prefix) as (λ t. nat_lt a.prefix b.prefix ≡ t → (if t then b else a).prefix ≡ 0 → (a.prefix ≡ 0)
    × (b.prefix ≡ 0)) [
      | true ↦ λ e low. let less : a.prefix < b.prefix = grind arith in absurd (omega (arith, less, low))
      | false ↦ λ e low. let less : b.prefix ≤ a.prefix = grind arith in (low, omega (arith, less, low))
    ] refl none

has_prefix : (honest : Bool) (query : Checked) (own other new : Part) → IsPartOf query other
    → ((own.prefix ≢ LAST_NUMBER) × KeepsGroups own other → ⊥) → Joins honest (meaning query) own other new → new.prefix ≢ 0
has_prefix honest query own other new other_is apart joins none =
    let upto = joins.drained.upto in
    let long : (longer own other).prefix ≡ 0 = omega (arith, none, upto) in
    let low = longer_none own other long in
    let mine = low.0 in
    let its = low.1 in
    apart (
      omega (arith, mine),
      record {
        longer = omega (arith, mine, its);
        gap = none_found (IsEarly (kinds query.columns) other.prefix) other.early (own.prefix + 1) other_is.early
            (λ rows early. let high = early.behind in omega (arith, high, mine, its));
      },
    )

-- what becomes of a call that joins both
pub joining_aside : (honest : Bool) (query : Checked) (own other : Part) (result : Result Part JoinError) → IsPartOf query other
    → ((own.prefix ≢ LAST_NUMBER) × KeepsGroups own other → ⊥) → Joining honest query own other result
    → JoiningAside honest query own other result
joining_aside honest query own other (Ok new) other_is apart joining =
    let some = has_prefix honest query own other new other_is apart joining.joins in
    let pos : 0 < new.prefix = omega (arith, some) in
    let none : nat_eq new.prefix 0 ≡ false = grind (arith, pos) in
    let same : new ≡ settled own new = sym (ap (λ b. if b then gaining own new else new) none) in
    record {
      joins = subst (Joins honest (meaning query) own other) same joining.joins;
      part = subst (IsPartOf query) same joining.part;
      groups = λ e. absurd (some e);
      agree = joining.agree;
      tells = tt;
    }
joining_aside honest query own other (Err why) other_is apart joining = record {
  joins = tt;
  part = tt;
  groups = tt;
  agree = tt;
  tells = joining.tells;
}

-- what refuses to join parts says of them why
pub refused_aside : (honest : Bool) (query : Checked) (a b : Part) (r : Result Part JoinError) (error : JoinError)
    → IsErrAnd r (λ e. e ≡ error) → JoinTells error a b → JoiningAside honest query a b r
refused_aside honest query a b (Ok x) error given tells = absurd given
refused_aside honest query a b (Err e) error given tells = record {
  joins = tt;
  part = tt;
  groups = tt;
  agree = tt;
  tells = subst (λ why. JoinTells why a b) (sym given) tells;
}

-- ---- whether a part keeps its groups

abbrev pub Keeps : Part → Part → Type 0
Keeps own other = (own.prefix ≢ LAST_NUMBER) × KeepsGroups own other

-- a part that is seen by its fields does or not
pub keeps_seen : (b : Bool) (own mine other its : Part) → own ≡ mine → other ≡ its → IsTrue b ↔ Keeps own other → IsTrue b ↔ Keeps mine its
keeps_seen b own mine other its view other_view is =
    subst (λ (p : Part). IsTrue b ↔ Keeps p its) view (subst (λ (p : Part). IsTrue b ↔ Keeps own p) other_view is)

pub keeps_not : (own other : Part) → (Keeps own other → ⊥) → IsTrue false ↔ Keeps own other
keeps_not own other never = (λ t. absurd (true≢false (sym t)), λ keeps. absurd (never keeps))

pub keeps_where : (there : Bool) (own other : Part) → own.prefix ≢ LAST_NUMBER → other.prefix ≤ own.prefix
    → there ≡ is_some (rows_at other.early (own.prefix + 1)) → IsTrue (not there) ↔ Keeps own other
keeps_where true own other within long found = (
  λ t. absurd (true≢false (sym t)),
  λ keeps. absurd (true≢false (found ∙ ap is_some keeps.1.gap)),
)
keeps_where false own other within long found = (
  λ t. (within, record { longer = long; gap = none_there (rows_at other.early (own.prefix + 1)) (sym found) }),
  λ keeps. refl,
)

-- ---- what stands aside, by the fields of both parts

pub stand_by : (own mine other its aside : Part) (places all : Batches) → own ≡ mine → other ≡ its
    → aside ≡ record { prefix = 0; run = []; early = all } → IsStrictlySortedBy nat_cmp (numbers all)
    → ((n : ℕ) → rows_at places n ≡ option_map no_rows (rows_at own.early n))
    → ((n : ℕ) → rows_at all n ≡ either (rows_at places n) (if nat_lt own.prefix n then rows_at other.early n else None))
    → StandAside mine its aside
stand_by own mine other its aside places all view other_view is rising placed copied =
    subst (λ (p : Part). StandAside p its aside) view (subst (λ (p : Part). StandAside own p aside) other_view
    (subst (StandAside own other) (sym is) (record {
      prefix = refl;
      run = refl;
      rising = rising;
      rows = λ n. copied n ∙ ap (λ x. either x (if nat_lt own.prefix n then rows_at other.early n else None)) (placed n);
    })))
