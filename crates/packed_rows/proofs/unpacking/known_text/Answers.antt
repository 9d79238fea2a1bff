use Rattle.std.proofs.Common.{subst, sym}
use Rattle.grouping_model.specs.Datum.{IsText}
use Rattle.packed_rows.proofs.RowLaws.{text_ends, text_there}
use Rattle.packed_rows.proofs.unpacking.known_text.Goals as goal

pub from_utf8_unchecked-requires : goal.from_utf8_unchecked-requires
from_utf8_unchecked-requires c =
    let found = c.in-Some.ensures.found in
    (text_ends c.args.bytes.now c.in-Some.text.now c.in-Some.rest.now c.requires found.0 found.1).0

pub unreachable-requires : goal.unreachable-requires
unreachable-requires c = text_there c.args.bytes.now c.requires c.in-None.ensures.none

pub returns-clause-text : goal.returns-clause-text
returns-clause-text c =
    let found = c.in-Some.ensures.found in
    subst IsText (sym c.from_utf8_unchecked.ensures)
    (text_ends c.args.bytes.now c.in-Some.text.now c.in-Some.rest.now c.requires found.0 found.1)
