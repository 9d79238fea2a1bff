use Rattle.std.specs.Prelude.{◌≡◌, ◌++◌, ◌∷◌, ℕ, List, []}
use Rattle.std.proofs.Common.{◌∙◌, sym, ap, subst}
use Rattle.std.specs.List.Sorted.{IsStrictlySortedBy}
use Rattle.std.specs.Ordering.{nat_cmp}
use Rattle.origin_prefix.specs.Parts.{Batches}
use Rattle.origin_prefix.specs.Lemmas.ByNumber.{numbers, rising_rest}
use Rattle.replica_merge.specs.Lacking.{lacked_early}
use Rattle.replica_merge.specs.Lemmas.DeliveredLaws.{when_fine}
use Rattle.replica_merge.proofs.LackingLaws.{AreBelow, put_last, below_less, below_more}
use Rattle.replica_merge.proofs.LackedLaws.{early_more, early_less}
use Rattle.replica_merge.proofs.lacking.early_lacked.Goals as goal

pub loop-number-preserved : goal.loop-number-preserved
loop-number-preserved c =
    let old : Batches = c.loop-number.lacked.entries in
    let number : ℕ = c.in-Some.number.now in
    let rows : List (List ℕ) = c.in-Some.rows.now in
    let rest : Batches = c.next.new.self in
    let all : Batches = c.into_iter-number-iterator.result in
    let below : AreBelow old ((number, rows) ∷ rest) = subst (λ (es : Batches). AreBelow old es) c.in-Some.ensures.steps
    c.loop-number.invariant.below in
    let rising : IsStrictlySortedBy nat_cmp (numbers ((number, rows) ∷ rest)) = subst (λ (es : Batches). IsStrictlySortedBy nat_cmp (numbers
    es)) c.in-Some.ensures.steps c.loop-number.invariant.rising in
    let put : c.insert.new.self.entries ≡ old ++ ((number, rows) ∷ []) = when_fine c.insert.result _
    c.insert.ensures.entries (sym c.if-is_err.ensures.value)
    ∙ put_last old number rows rest c.in_ok-rows.rows below
    ∙ ap (λ (r : List (List ℕ)). old ++ ((number, r) ∷ [])) c.in_ok-rows.ensures in
    record {
      so_far = λ known lists.
          early_more known c.args.origin number rows old c.insert.new.self.entries rest (lacked_early known c.args.origin all)
          (sym (lists (c.args.origin, number)) ∙ sym c.tells.ensures ∙ c.if-tells.false) put
          (subst (λ (es : Batches). old ++ lacked_early known c.args.origin es ≡ lacked_early known c.args.origin all)
          c.in-Some.ensures.steps (c.loop-number.invariant.so_far known lists));
      below = subst (λ (done : Batches). AreBelow done rest) (sym put) (below_more old number rows rest rows rising below);
      rising = rising_rest (number, rows) rest rising;
      can = tt;
      finite = tt;
    }

pub loop-number-preserved-then-tells : goal.loop-number-preserved-then-tells
loop-number-preserved-then-tells c =
    let old : Batches = c.loop-number.lacked.entries in
    let number : ℕ = c.in-Some.number.now in
    let rows : List (List ℕ) = c.in-Some.rows.now in
    let rest : Batches = c.next.new.self in
    let all : Batches = c.into_iter-number-iterator.result in
    let below : AreBelow old ((number, rows) ∷ rest) = subst (λ (es : Batches). AreBelow old es) c.in-Some.ensures.steps
    c.loop-number.invariant.below in
    let rising : IsStrictlySortedBy nat_cmp (numbers ((number, rows) ∷ rest)) = subst (λ (es : Batches). IsStrictlySortedBy nat_cmp (numbers
    es)) c.in-Some.ensures.steps c.loop-number.invariant.rising in
    record {
      so_far = λ known lists.
          early_less known c.args.origin number rows old rest (lacked_early known c.args.origin all)
          (sym (lists (c.args.origin, number)) ∙ sym c.tells.ensures ∙ c.if-tells.true)
          (subst (λ (es : Batches). old ++ lacked_early known c.args.origin es ≡ lacked_early known c.args.origin all)
          c.in-Some.ensures.steps (c.loop-number.invariant.so_far known lists));
      below = below_less old number rows rest below;
      rising = rising_rest (number, rows) rest rising;
      can = tt;
      finite = tt;
    }
