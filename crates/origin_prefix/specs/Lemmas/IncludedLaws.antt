-- A part that includes another one stays where it is joined with that.
use Rattle.std.specs.Prelude.{◌≡◌, refl, ℕ, suc, ◌+◌, ◌<◌, ◌*◌, ◌==◌, nat_lt, Bool, false, List, [], ◌∷◌, map}
use Rattle.std.specs.Prelude.{take, drop}
use Rattle.std.specs.Prelude.{Option, Some, None, if◌then◌else◌}
use Rattle.std.proofs.Common.{◌∙◌, sym, ap, subst, inl, inr, arith}
use Rattle.std.specs.List.{AllByRecursion}
use Rattle.list_laws.specs.Each.{each_weaker}
use Rattle.aggregation_cost.specs.Space.{Setting}
use Rattle.grouping_model.specs.Datum.{Kind}
use Rattle.grouping_model.specs.declared.limits.TheConstants.{MAX_ROWS}
use Rattle.packed_rows.specs.Columns.{kinds}
use Rattle.query_checks.specs.Checks.{Checked}
use Rattle.having_filter.specs.Meaning.{meaning}
use Rattle.hash_agg.specs.Counting.{AreCounted}
use Rattle.hash_agg.specs.declared.work.Work.{Work}
use Rattle.origin_prefix.specs.Parts.{Batches, Part, rows_at, IsEarly, IsPartOf, Drains, Folds, following, aggregation_of}
use Rattle.origin_prefix.specs.Parts.{aggregations_behind}
use Rattle.origin_prefix.specs.Joins.{either, Unites, PartsDisagree, Includes, StaysJoined}
use Rattle.origin_prefix.specs.Lemmas.ByNumber.{some_is}

-- where the first is what the second is, if that is there, it is either of both
first_alone_is : {X : Type 0} (x y : Option X) → ((v : X) → y ≡ Some v → x ≡ Some v) → x ≡ either x y
first_alone_is (Some x) y there = refl
first_alone_is None None there = refl
first_alone_is None (Some v) there = there v refl

-- behind a gap nothing follows
none_follows : (ks : List Kind) (prefix : ℕ) (early : Batches) → AllByRecursion (IsEarly ks prefix) early → following prefix early ≡ 0
none_follows ks prefix [] all = refl
none_follows ks prefix (batch ∷ early) all =
    let high = all.0.behind in
    let apart : (batch.0 == prefix + 1) ≡ false = grind (arith, high) in
    ap (λ (t : Bool). if t then suc (following (prefix + 1) early) else 0) apart

module _ (query : Checked) (own other : Part) (is : IsPartOf query own) (has : Includes own other) where
  test : nat_lt own.prefix other.prefix ≡ false
  test = let low = has.longer in grind (arith, low)

  none : following own.prefix own.early ≡ 0
  none = none_follows (kinds query.columns) own.prefix own.early is.early

  united : Unites own.prefix own other own.early
  united = record {
    rising = is.rising;
    above = each_weaker (IsEarly (kinds query.columns) own.prefix) (λ (batch : ℕ × List (List ℕ)). own.prefix < batch.0)
        (λ batch early. let high = early.behind in omega (arith, high)) own.early is.early;
    rows = λ number low. first_alone_is (rows_at own.early number) (rows_at other.early number) (has.early number low);
  }

  drained : (honest : Bool) → Drains honest (meaning query) own.prefix own.run own.early own
  drained honest = record {
    upto = omega (arith, none);
    folded = subst (λ (k : ℕ). Folds honest (meaning query) own.run (own.prefix * MAX_ROWS)
        (map (λ (batch : ℕ × List (List ℕ)). batch.1) (take k own.early)) own.run) (sym none) refl;
    early = ap (λ (k : ℕ). drop k own.early) (sym none);
  }

  agree : ¬ (PartsDisagree own other)
  agree d = elim d [
    | inl groups ↦ groups.1 (has.groups groups.0)
    | inr rows ↦
        let at = rows.1 in
        let behind = at.behind in
        at.differ (some_is at.rows at.those (sym at.there ∙ has.early rows.0 (omega (arith, behind)) at.those at.there_too))
  ]

  counted : (setting : Setting) (work : Work) (writes : ℕ)
      → AreCounted (aggregations_behind own.prefix own.early) (meaning query) setting work writes work writes
  counted setting work writes = subst (λ (k : ℕ). AreCounted (aggregation_of (map (λ (batch : ℕ × List (List ℕ)). batch.1)
      (take k own.early))) (meaning query) setting work writes work writes) (sym none) (refl, refl)

  pub included : StaysJoined query own other
  included = record {
    joins = λ honest. record { behind = own.early; united = rw test united; drained = rw test (drained honest) };
    agree = agree;
    counted = λ setting work writes. record {
      behind = own.early;
      united = rw test united;
      counted = rw test (counted setting work writes);
    };
  }
