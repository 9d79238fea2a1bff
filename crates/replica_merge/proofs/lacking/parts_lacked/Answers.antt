use Rattle.std.specs.Prelude.{◌≡◌, ◌++◌, ◌∷◌, ℕ, []}
use Rattle.std.proofs.Common.{◌∙◌, sym, ap, subst}
use Rattle.std.specs.List.Sorted.{IsStrictlySortedBy}
use Rattle.std.specs.Ordering.{nat_cmp}
use Rattle.origin_prefix.specs.Parts.{Part, is_nothing}
use Rattle.origin_prefix.specs.Lemmas.ByNumber.{numbers, rising_rest}
use Rattle.replica_merge.specs.Lacking.{lacked_parts}
use Rattle.replica_merge.specs.Lemmas.Words.{Parts}
use Rattle.replica_merge.specs.Lemmas.DeliveredLaws.{when_fine}
use Rattle.replica_merge.proofs.LackingLaws.{AreBelow, put_last, below_less, below_more}
use Rattle.replica_merge.proofs.LackedLaws.{parts_more, parts_less}
use Rattle.replica_merge.proofs.lacking.parts_lacked.Goals as goal

pub loop-origin-preserved : goal.loop-origin-preserved
loop-origin-preserved c =
    let old : Parts = c.loop-origin.lacked.entries in
    let origin : ℕ = c.in-Some.origin.now in
    let part : Part = c.in-Some.part.now in
    let out : Part = c.in_ok-part.part in
    let rest : Parts = c.next.new.self in
    let all : Parts = c.into_iter-origin-iterator.result in
    let below : AreBelow old ((origin, part) ∷ rest) = subst (λ (es : Parts). AreBelow old es) c.in-Some.ensures.steps
    c.loop-origin.invariant.below in
    let rising : IsStrictlySortedBy nat_cmp (numbers ((origin, part) ∷ rest)) = subst (λ (es : Parts). IsStrictlySortedBy nat_cmp (numbers
    es)) c.in-Some.ensures.steps c.loop-origin.invariant.rising in
    let put : c.insert.new.self.entries ≡ old ++ ((origin, out) ∷ []) = when_fine c.insert.result _ c.insert.ensures.entries
    (sym c.if-is_err.ensures.value) ∙ put_last old origin part rest out below in
    record {
      so_far = λ known lists.
          let is = c.in_ok-part.ensures known lists in
          parts_more known origin part old c.insert.new.self.entries rest (lacked_parts known all)
          (ap is_nothing (sym is) ∙ sym c.is_empty.ensures ∙ c.if-is_empty.false)
          (put ∙ ap (λ (p : Part). old ++ ((origin, p) ∷ [])) is)
          (subst (λ (es : Parts). old ++ lacked_parts known es ≡ lacked_parts known all) c.in-Some.ensures.steps
          (c.loop-origin.invariant.so_far known lists));
      below = subst (λ (done : Parts). AreBelow done rest) (sym put) (below_more old origin part rest out rising below);
      rising = rising_rest (origin, part) rest rising;
      can = tt;
      finite = tt;
    }

pub loop-origin-preserved-then-is_empty : goal.loop-origin-preserved-then-is_empty
loop-origin-preserved-then-is_empty c =
    let old : Parts = c.loop-origin.lacked.entries in
    let origin : ℕ = c.in-Some.origin.now in
    let part : Part = c.in-Some.part.now in
    let rest : Parts = c.next.new.self in
    let all : Parts = c.into_iter-origin-iterator.result in
    let below : AreBelow old ((origin, part) ∷ rest) = subst (λ (es : Parts). AreBelow old es) c.in-Some.ensures.steps
    c.loop-origin.invariant.below in
    let rising : IsStrictlySortedBy nat_cmp (numbers ((origin, part) ∷ rest)) = subst (λ (es : Parts). IsStrictlySortedBy nat_cmp (numbers
    es)) c.in-Some.ensures.steps c.loop-origin.invariant.rising in
    record {
      so_far = λ known lists.
          parts_less known origin part old rest (lacked_parts known all)
          (ap is_nothing (sym (c.in_ok-part.ensures known lists)) ∙ sym c.is_empty.ensures ∙ c.if-is_empty.true)
          (subst (λ (es : Parts). old ++ lacked_parts known es ≡ lacked_parts known all) c.in-Some.ensures.steps
          (c.loop-origin.invariant.so_far known lists));
      below = below_less old origin part rest below;
      rising = rising_rest (origin, part) rest rising;
      can = tt;
      finite = tt;
    }
