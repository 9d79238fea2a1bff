use Rattle.packed_rows.proofs.FieldLaws.{plain_utf8}
use Rattle.packed_rows.proofs.field.read_text.Goals as goal

pub from_utf8_unchecked-requires : goal.from_utf8_unchecked-requires
from_utf8_unchecked-requires c = plain_utf8 c.args.field.now (c.are_plain.ensures c.if-are_plain.true)
