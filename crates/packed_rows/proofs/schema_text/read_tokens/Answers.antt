use Rattle.std.specs.Prelude.{◌≡◌, ◌*◌, ◌<◌, List, Ok, IfNone, length}
use Rattle.std.proofs.Common.{subst}
use Rattle.grouping_model.specs.declared.limits.TheConstants.{MAX_COLUMNS}
use Rattle.query_tokens.specs.Words.{Placed}
use Rattle.query_tokens.specs.Tokens.{tokens_in}
use Rattle.packed_rows.proofs.DescribedColumns.{too_many_tokens}
use Rattle.packed_rows.proofs.schema_text.read_tokens.Goals as goal

pub returns-in-Ok-None-clause-refused : goal.returns-in-Ok-None-clause-refused
returns-in-Ok-None-clause-refused c =
    let none = c.in-Ok-None in
    too_many_tokens c.args.text.now
    (subst (λ found. IfNone found ((ts : List Placed) → tokens_in c.args.text.now ≡ Ok ts → 3 * MAX_COLUMNS < length ts))
    none.field-0-is none.ensures.more)
