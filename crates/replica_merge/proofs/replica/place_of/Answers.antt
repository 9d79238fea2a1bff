use Rattle.std.specs.Prelude.{refl}
use Rattle.std.proofs.Common.{rules, sym, ◌∙◌, ap}
use Rattle.std.specs.BTreeMap.{insert_entry}
use Rattle.std.specs.Ordering.{nat_cmp}
use Rattle.list_laws.specs.Outcomes.{none_there}
use Rattle.replica_merge.specs.Lemmas.Words.{Parts, part_at}
use Rattle.replica_merge.specs.Lemmas.DeliveredLaws.{when_fine}
use Rattle.replica_merge.proofs.replica.place_of.Goals as goal

pub returns-then-contains_key-clause-place : goal.returns-then-contains_key-clause-place
returns-then-contains_key-clause-place c = (sym c.contains_key.ensures ∙ c.if-contains_key.true, refl)

pub returns-then-is_err-clause-none : goal.returns-then-is_err-clause-none
returns-then-is_err-clause-none c = (
  none_there (part_at c.args.parts.now.entries c.args.origin) (sym c.contains_key.ensures ∙ c.if-contains_key.false),
  search rules,
)

pub returns-clause-place : goal.returns-clause-place
returns-clause-place c =
    let old : Parts = c.args.parts.now.entries in (
      none_there (part_at old c.args.origin) (sym c.contains_key.ensures ∙ c.if-contains_key.false),
      when_fine c.insert.result _ c.insert.ensures.entries (sym c.if-is_err.ensures.value)
          ∙ ap (insert_entry nat_cmp old c.args.origin) c.empty.ensures,
    )
