-- Why two texts make no replica, and the replica that they make.
use Rattle.std.specs.Prelude.{◌≡◌, ◌≢◌, ℕ, List, [], refl}
use Rattle.std.proofs.Common.{subst, sym}
use Rattle.packed_rows.specs.Columns.{Column, IsSchemaText}
use Rattle.packed_rows.specs.Refusal.{ParseFault}
use Rattle.packed_rows.specs.declared.error.RowError.{RowError}
use Rattle.packed_rows.specs.declared.error.RowError.TheVariants as row
use Rattle.query_checks.specs.Checks.{Checked}
use Rattle.group_parser.specs.Parsing.{Accepts}
use Rattle.refusals.specs.QueryLaws.{read_over}
use Rattle.summary_codec.specs.Reading.{HasFault}
use Rattle.summary_codec.specs.declared.error.SummaryError.{SummaryError}
use Rattle.summary_codec.specs.declared.error.SummaryError.TheVariants as summary
use Rattle.refusals.specs.Refusals.{columns_refusal, summary_refusal}
use Rattle.refusals.specs.declared.refusal.Refusal.{Refusal}
use Rattle.refusals.specs.declared.refusal.Refusal.TheVariants as refuse
use Rattle.command_replicas.specs.Commands.{IsNew, IsNotNew, IsNoSummary}

-- a text tells no columns, by the refusal
pub no_columns : (text query : List ℕ) (e : RowError) → ParseFault text e → columns_refusal e ≢ refuse.NoMemory
    → IsNotNew text query (columns_refusal e)
no_columns text query row.NoMemory fault other = absurd (other refl)
no_columns text query row.BadSchema fault other = fault
no_columns text query (row.BadField column) fault other = absurd fault
no_columns text query row.WrongWidth fault other = absurd fault
no_columns text query row.BadPacked fault other = absurd fault

-- the replica of a query that a text says over the columns of another
pub new_replica : (text query : List ℕ) (columns : List Column) (q : Checked) → IsSchemaText text columns → Accepts columns query q
    → IsNew text query (record { query = q; parts = [] })
new_replica text query columns q is_schema accepted =
    let same : columns ≡ q.columns = sym (read_over columns query q accepted) in
    record { columns_are = subst (IsSchemaText text) same is_schema; query_is = subst (λ c. Accepts c query q) same accepted; empty = refl }

-- why bytes are loaded as no replica, by the refusal
pub no_summary : (file : List ℕ) (error : SummaryError) (why : Refusal) → why ≡ summary_refusal error
    → (error ≢ summary.NoMemory → HasFault file error) → IsNoSummary file why
no_summary file error why named fault = subst (IsNoSummary file) (sym named) (go error fault)
  where
    go : (error : SummaryError) → (error ≢ summary.NoMemory → HasFault file error) → IsNoSummary file (summary_refusal error)
    go summary.NoMemory fault = tt
    go error fault = fault (λ e. cc)
