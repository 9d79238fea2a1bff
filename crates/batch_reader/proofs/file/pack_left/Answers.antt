use Rattle.std.proofs.Common.{◌≡◌, take, sym, ◌∙◌}
use Rattle.list_laws.specs.Outcomes.{none_there}
use Rattle.batch_reader.proofs.FileLaws.{all_taken, one_more}
use Rattle.batch_reader.proofs.file.pack_left.Goals.{Else-is_some}
use Rattle.batch_reader.proofs.file.pack_left.Goals as goal

-- the records that were told are all
all_of : (c : Else-is_some) → take c.args.told c.args.records.now ≡ c.args.records.now
all_of c =
    let none = none_there c.in_ok-next.field-0 (sym c.is_some.ensures ∙ c.if-is_some.false) in
    let ended = rw none at c.in_ok-next.ensures in
    all_taken c.args.records.now c.args.told (sym c.in_ok-rows.ensures.left ∙ ended.0)

pub returns-clause-packed : goal.returns-clause-packed
returns-clause-packed c = let all = all_of (goal.at.returns-clause-packed c).Else-is_some in rw all at c.in_ok-rows.ensures.packed

pub returns-clause-refused : goal.returns-clause-refused
returns-clause-refused c = let all = all_of (goal.at.returns-clause-refused c).Else-is_some in rw all at c.in_ok-rows.ensures.refused

pub returns-then-is_some-clause-refused : goal.returns-then-is_some-clause-refused
returns-then-is_some-clause-refused c = λ origin number head. (
  head,
  c.requires,
  one_more c.args.records.now c.pack_next.new.records c.next.new.self c.args.told c.in_ok-next.field-0 (sym c.is_some.ensures
      ∙ c.if-is_some.true)
      c.in_ok-rows.ensures.left c.in_ok-next.ensures,
)
