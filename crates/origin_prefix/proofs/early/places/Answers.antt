use Rattle.std.specs.Prelude.{◌≡◌, [], option_map}
use Rattle.std.proofs.Common.{◌∙◌, ap, subst}
use Rattle.std.specs.BTreeMap.{insert_entry}
use Rattle.std.specs.Ordering.{nat_cmp}
use Rattle.origin_prefix.specs.Parts.{Batches, rows_at}
use Rattle.origin_prefix.specs.Joins.{either}
use Rattle.origin_prefix.proofs.AsideLaws.{no_rows, placed}
use Rattle.origin_prefix.proofs.early.places.Goals as goal

pub loop-number-preserved : goal.loop-number-preserved
loop-number-preserved c =
    let old : Batches = c.loop-number.places.entries in
    let all : Batches = c.into_iter-number-iterator.result in
    let put : c.insert.new.self.entries ≡ insert_entry nat_cmp old c.in-Some.number.now [] = c.in_ok-insert.ensures.entries
    ∙ ap (insert_entry nat_cmp old c.in-Some.number.now) c.new.ensures in
    record {
      rows = λ n.
          ap (λ bs. either (rows_at bs n) (option_map no_rows (rows_at c.next.new.self n))) put
          ∙ placed old c.next.new.self c.in-Some.number.now _ (rows_at all n) n
          (subst (λ rest. either (rows_at old n) (option_map no_rows (rows_at rest n)) ≡ option_map no_rows (rows_at all n))
          c.in-Some.ensures.steps (c.loop-number.invariant.rows n));
      rising = c.insert.ensures.ordered;
      can = tt;
      finite = tt;
    }

pub loop-number-preserved-in_ok-insert : goal.loop-number-preserved-in_ok-insert
loop-number-preserved-in_ok-insert c =
    let old : Batches = c.loop-number.places.entries in
    let all : Batches = c.into_iter-number-iterator.result in
    let put : c.insert.new.self.entries ≡ insert_entry nat_cmp old c.in-Some.number.now [] = c.in_ok-insert.ensures.entries
    ∙ ap (insert_entry nat_cmp old c.in-Some.number.now) c.new.ensures in
    record {
      rows = λ n.
          ap (λ bs. either (rows_at bs n) (option_map no_rows (rows_at c.next.new.self n))) put
          ∙ placed old c.next.new.self c.in-Some.number.now _ (rows_at all n) n
          (subst (λ rest. either (rows_at old n) (option_map no_rows (rows_at rest n)) ≡ option_map no_rows (rows_at all n))
          c.in-Some.ensures.steps (c.loop-number.invariant.rows n));
      rising = c.insert.ensures.ordered;
      can = tt;
      finite = tt;
    }
