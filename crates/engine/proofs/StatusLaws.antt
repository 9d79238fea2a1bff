-- The status of a refusal has its name, and a number of its own.
use Rattle.std.specs.Prelude.{◌≡◌, refl, Some}
use Rattle.query_checks.specs.Names.{query_name}
use Rattle.query_checks.specs.declared.error.QueryError.{QueryError}
use Rattle.query_checks.specs.declared.error.QueryError.TheVariants as query
use Rattle.group_parser.specs.Names.{parse_name}
use Rattle.group_parser.specs.declared.error.ParseError.{ParseError}
use Rattle.group_parser.specs.declared.error.ParseError.TheVariants as parse
use Rattle.batch_reader.specs.Names.{batch_name}
use Rattle.batch_reader.specs.declared.error.BatchError.{BatchError}
use Rattle.batch_reader.specs.declared.error.BatchError.TheVariants as batch
use Rattle.summary_codec.specs.Names.{summary_name}
use Rattle.summary_codec.specs.declared.error.SummaryError.{SummaryError}
use Rattle.summary_codec.specs.declared.error.SummaryError.TheVariants as summary
use Rattle.refusals.specs.Names.{run_name, refusal_name}
use Rattle.refusals.specs.declared.error.RunError.{RunError}
use Rattle.refusals.specs.declared.error.RunError.TheVariants as stop
use Rattle.refusals.specs.declared.refusal.Refusal.{Refusal}
use Rattle.refusals.specs.declared.refusal.Refusal.TheVariants as refuse
use Rattle.engine.specs.declared.status.Status.{Status}
use Rattle.engine.specs.declared.status.Status.TheVariants as says
use Rattle.engine.specs.Statuses.{status_number, status_at, status_name, status_of, query_status, parse_status, batch_status}
use Rattle.engine.specs.Statuses.{summary_status, run_status}

query_name_is : (e : QueryError) → status_name (query_status e) ≡ query_name e
query_name_is query.NoMemory = refl
query_name_is query.NoSuchColumn = refl
query_name_is query.NotGrouped = refl
query_name_is query.TypeMismatch = refl
query_name_is query.AggregateHere = refl
query_name_is query.TooMany = refl
query_name_is query.TooDeep = refl
query_name_is query.AmbiguousOrder = refl

parse_name_is : (e : ParseError) → status_name (parse_status e) ≡ parse_name e
parse_name_is (parse.Syntax at) = refl
parse_name_is parse.NumberTooLarge = refl
parse_name_is (parse.Query error) = query_name_is error

batch_name_is : (e : BatchError) → status_name (batch_status e) ≡ batch_name e
batch_name_is batch.NoMemory = refl
batch_name_is batch.BadBatchHead = refl
batch_name_is batch.TooManyRows = refl
batch_name_is batch.RowCount = refl
batch_name_is (batch.WrongWidth row) = refl
batch_name_is (batch.BadField row column) = refl

summary_name_is : (e : SummaryError) → status_name (summary_status e) ≡ summary_name e
summary_name_is summary.NoMemory = refl
summary_name_is summary.NotASummary = refl
summary_name_is summary.Truncated = refl
summary_name_is summary.Trailing = refl
summary_name_is summary.NotCanonical = refl
summary_name_is summary.OutOfRange = refl
summary_name_is summary.BadSchema = refl
summary_name_is summary.BadPacked = refl
summary_name_is summary.BadState = refl
summary_name_is (summary.Query error) = parse_name_is error

run_name_is : (e : RunError) → status_name (run_status e) ≡ run_name e
run_name_is stop.NoMemory = refl
run_name_is stop.InputTooLong = refl
run_name_is stop.ReadFault = refl
run_name_is stop.WriteFault = refl

pub name_is : (why : Refusal) → status_name (status_of why) ≡ refusal_name why
name_is refuse.NoMemory = refl
name_is refuse.BadSchema = refl
name_is (refuse.Limit error) = refl
name_is (refuse.Query error) = parse_name_is error
name_is (refuse.Batch error) = batch_name_is error
name_is (refuse.Summary error) = summary_name_is error
name_is refuse.DifferentQuery = refl
name_is (refuse.OriginDisagrees origin number) = refl
name_is refuse.TapeFault = refl
name_is refuse.TapeDamaged = refl
name_is (refuse.Run error) = run_name_is error
name_is refuse.BadCommand = refl
name_is refuse.NoSuchName = refl
name_is refuse.NameTaken = refl

-- each status has a number of its own
pub number_is : (s : Status) → status_at (status_number s) ≡ Some s
number_is says.Done = refl
number_is says.NoMemory = refl
number_is says.TooShort = refl
number_is says.NotOpen = refl
number_is says.AlreadyOpen = refl
number_is says.BadCommand = refl
number_is says.NoSuchName = refl
number_is says.NameTaken = refl
number_is says.LimitOutOfRange = refl
number_is says.BadSchema = refl
number_is says.Syntax = refl
number_is says.NumberTooLarge = refl
number_is says.NoSuchColumn = refl
number_is says.NotGrouped = refl
number_is says.TypeMismatch = refl
number_is says.AggregateHere = refl
number_is says.TooMany = refl
number_is says.TooDeep = refl
number_is says.AmbiguousOrder = refl
number_is says.BadBatchHead = refl
number_is says.TooManyRows = refl
number_is says.RowCount = refl
number_is says.WrongWidth = refl
number_is says.BadField = refl
number_is says.NotASummary = refl
number_is says.Truncated = refl
number_is says.Trailing = refl
number_is says.NotCanonical = refl
number_is says.OutOfRange = refl
number_is says.BadPacked = refl
number_is says.BadState = refl
number_is says.DifferentQuery = refl
number_is says.OriginDisagrees = refl
number_is says.TapeFault = refl
number_is says.TapeDamaged = refl
number_is says.InputTooLong = refl
number_is says.ReadFault = refl
number_is says.WriteFault = refl
