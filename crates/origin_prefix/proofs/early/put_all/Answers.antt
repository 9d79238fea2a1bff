use Rattle.std.specs.Prelude.{◌≡◌, []}
use Rattle.std.proofs.Common.{◌∙◌, sym, ap, subst}
use Rattle.std.specs.List.Sorted.{IsStrictlySortedBy}
use Rattle.std.specs.Ordering.{nat_cmp}
use Rattle.origin_prefix.specs.Lemmas.ByNumber.{numbers, rising_rest}
use Rattle.origin_prefix.specs.Parts.{Batches, rows_at}
use Rattle.origin_prefix.specs.Joins.{put_into}
use Rattle.origin_prefix.proofs.AsideLaws.{put_more, put_none, put_is}
use Rattle.origin_prefix.proofs.early.put_all.Goals as goal

pub loop-number-preserved : goal.loop-number-preserved
loop-number-preserved c =
    let old : Batches = c.loop-number.places.entries in
    let rising = subst (λ rest. IsStrictlySortedBy nat_cmp (numbers rest)) c.in-Some.ensures.steps c.loop-number.invariant.rest in
    record {
      put = λ n. put_more old c.next.new.self c.in-Some.number c.in-Some.rows c.put_rows.new.places.entries rising c.put_rows.ensures.rows n
          ∙ ap (λ rest. put_into (rows_at old n) (rows_at rest n)) (sym c.in-Some.ensures.steps) ∙ c.loop-number.invariant.put n;
      rest = rising_rest (c.in-Some.number, c.in-Some.rows) c.next.new.self rising;
      rising = c.put_rows.ensures.rising;
      can = tt;
      finite = tt;
    }

pub returns : goal.returns
returns c =
    let done : c.loop-number.number-iterator ≡ [] = c.in-None.ensures.steps.0 in
    let all : c.into_iter-number-iterator.result ≡ c.args.kept.entries = c.into_iter-number-iterator.ensures.into_iter_gives.0 in
    put_is c.args.kept.entries c.args.places.now.entries c.loop-number.places.entries c.requires c.loop-number.invariant.rising
    (λ n. sym (put_none (rows_at c.loop-number.places.entries n))
    ∙ ap (λ rest. put_into (rows_at c.loop-number.places.entries n) (rows_at rest n)) (sym done) ∙ c.loop-number.invariant.put n
    ∙ ap (λ rest. put_into (rows_at c.args.places.now.entries n) (rows_at rest n)) all)
