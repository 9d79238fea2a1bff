-- The statuses that calls return: the status of each refusal, its number, which never changes, and its name, which is the refusal's. All
-- of this is our own.
use Rattle.std.specs.Prelude.{ℕ, ◌==◌, List, [], ◌∷◌, codes, find, Option, Result, Ok, Err}
use Rattle.query_checks.specs.declared.error.QueryError.{QueryError}
use Rattle.query_checks.specs.declared.error.QueryError.TheVariants as query
use Rattle.group_parser.specs.declared.error.ParseError.{ParseError}
use Rattle.group_parser.specs.declared.error.ParseError.TheVariants as parse
use Rattle.batch_reader.specs.declared.error.BatchError.{BatchError}
use Rattle.batch_reader.specs.declared.error.BatchError.TheVariants as batch
use Rattle.summary_codec.specs.declared.error.SummaryError.{SummaryError}
use Rattle.summary_codec.specs.declared.error.SummaryError.TheVariants as summary
use Rattle.refusals.specs.declared.error.RunError.{RunError}
use Rattle.refusals.specs.declared.error.RunError.TheVariants as stop
use Rattle.refusals.specs.declared.refusal.Refusal.{Refusal}
use Rattle.refusals.specs.declared.refusal.Refusal.TheVariants as refuse
use Rattle.engine.specs.declared.status.Status.{Status}
use Rattle.engine.specs.declared.status.Status.TheVariants as says

abbrev pub status_number : Status → ℕ
status_number says.Done = 0
status_number says.NoMemory = 1
status_number says.TooShort = 2
status_number says.NotOpen = 3
status_number says.AlreadyOpen = 4
status_number says.BadCommand = 10
status_number says.NoSuchName = 11
status_number says.NameTaken = 12
status_number says.LimitOutOfRange = 13
status_number says.BadSchema = 14
status_number says.Syntax = 20
status_number says.NumberTooLarge = 21
status_number says.NoSuchColumn = 22
status_number says.NotGrouped = 23
status_number says.TypeMismatch = 24
status_number says.AggregateHere = 25
status_number says.TooMany = 26
status_number says.TooDeep = 27
status_number says.AmbiguousOrder = 28
status_number says.BadBatchHead = 30
status_number says.TooManyRows = 31
status_number says.RowCount = 32
status_number says.WrongWidth = 33
status_number says.BadField = 34
status_number says.NotASummary = 40
status_number says.Truncated = 41
status_number says.Trailing = 42
status_number says.NotCanonical = 43
status_number says.OutOfRange = 44
status_number says.BadPacked = 45
status_number says.BadState = 46
status_number says.DifferentQuery = 50
status_number says.OriginDisagrees = 51
status_number says.TapeFault = 60
status_number says.TapeDamaged = 61
status_number says.InputTooLong = 70
status_number says.ReadFault = 71
status_number says.WriteFault = 72

-- all statuses, by ascending number
abbrev pub all_statuses : List Status
all_statuses =
    says.Done ∷ says.NoMemory ∷ says.TooShort ∷ says.NotOpen ∷ says.AlreadyOpen ∷ says.BadCommand ∷ says.NoSuchName ∷
    says.NameTaken ∷ says.LimitOutOfRange ∷ says.BadSchema ∷ says.Syntax ∷ says.NumberTooLarge ∷ says.NoSuchColumn ∷
    says.NotGrouped ∷ says.TypeMismatch ∷ says.AggregateHere ∷ says.TooMany ∷ says.TooDeep ∷ says.AmbiguousOrder ∷
    says.BadBatchHead ∷ says.TooManyRows ∷ says.RowCount ∷ says.WrongWidth ∷ says.BadField ∷ says.NotASummary ∷ says.Truncated ∷
    says.Trailing ∷ says.NotCanonical ∷ says.OutOfRange ∷ says.BadPacked ∷ says.BadState ∷ says.DifferentQuery ∷
    says.OriginDisagrees ∷ says.TapeFault ∷ says.TapeDamaged ∷ says.InputTooLong ∷ says.ReadFault ∷ says.WriteFault ∷ []

-- the status of a number, if there is one
abbrev pub status_at : ℕ → Option Status
status_at number = find (λ s. status_number s == number) all_statuses

abbrev pub status_name : Status → List ℕ
status_name says.Done = codes "Done"
status_name says.NoMemory = codes "NoMemory"
status_name says.TooShort = codes "TooShort"
status_name says.NotOpen = codes "NotOpen"
status_name says.AlreadyOpen = codes "AlreadyOpen"
status_name says.BadCommand = codes "BadCommand"
status_name says.NoSuchName = codes "NoSuchName"
status_name says.NameTaken = codes "NameTaken"
status_name says.LimitOutOfRange = codes "LimitOutOfRange"
status_name says.BadSchema = codes "BadSchema"
status_name says.Syntax = codes "Syntax"
status_name says.NumberTooLarge = codes "NumberTooLarge"
status_name says.NoSuchColumn = codes "NoSuchColumn"
status_name says.NotGrouped = codes "NotGrouped"
status_name says.TypeMismatch = codes "TypeMismatch"
status_name says.AggregateHere = codes "AggregateHere"
status_name says.TooMany = codes "TooMany"
status_name says.TooDeep = codes "TooDeep"
status_name says.AmbiguousOrder = codes "AmbiguousOrder"
status_name says.BadBatchHead = codes "BadBatchHead"
status_name says.TooManyRows = codes "TooManyRows"
status_name says.RowCount = codes "RowCount"
status_name says.WrongWidth = codes "WrongWidth"
status_name says.BadField = codes "BadField"
status_name says.NotASummary = codes "NotASummary"
status_name says.Truncated = codes "Truncated"
status_name says.Trailing = codes "Trailing"
status_name says.NotCanonical = codes "NotCanonical"
status_name says.OutOfRange = codes "OutOfRange"
status_name says.BadPacked = codes "BadPacked"
status_name says.BadState = codes "BadState"
status_name says.DifferentQuery = codes "DifferentQuery"
status_name says.OriginDisagrees = codes "OriginDisagrees"
status_name says.TapeFault = codes "TapeFault"
status_name says.TapeDamaged = codes "TapeDamaged"
status_name says.InputTooLong = codes "InputTooLong"
status_name says.ReadFault = codes "ReadFault"
status_name says.WriteFault = codes "WriteFault"

-- the status of a refusal, which has its name
abbrev pub query_status : QueryError → Status
query_status query.NoMemory = says.NoMemory
query_status query.NoSuchColumn = says.NoSuchColumn
query_status query.NotGrouped = says.NotGrouped
query_status query.TypeMismatch = says.TypeMismatch
query_status query.AggregateHere = says.AggregateHere
query_status query.TooMany = says.TooMany
query_status query.TooDeep = says.TooDeep
query_status query.AmbiguousOrder = says.AmbiguousOrder

abbrev pub parse_status : ParseError → Status
parse_status (parse.Syntax at) = says.Syntax
parse_status parse.NumberTooLarge = says.NumberTooLarge
parse_status (parse.Query error) = query_status error

abbrev pub batch_status : BatchError → Status
batch_status batch.NoMemory = says.NoMemory
batch_status batch.BadBatchHead = says.BadBatchHead
batch_status batch.TooManyRows = says.TooManyRows
batch_status batch.RowCount = says.RowCount
batch_status (batch.WrongWidth row) = says.WrongWidth
batch_status (batch.BadField row column) = says.BadField

abbrev pub summary_status : SummaryError → Status
summary_status summary.NoMemory = says.NoMemory
summary_status summary.NotASummary = says.NotASummary
summary_status summary.Truncated = says.Truncated
summary_status summary.Trailing = says.Trailing
summary_status summary.NotCanonical = says.NotCanonical
summary_status summary.OutOfRange = says.OutOfRange
summary_status summary.BadSchema = says.BadSchema
summary_status summary.BadPacked = says.BadPacked
summary_status summary.BadState = says.BadState
summary_status (summary.Query error) = parse_status error

abbrev pub run_status : RunError → Status
run_status stop.NoMemory = says.NoMemory
run_status stop.InputTooLong = says.InputTooLong
run_status stop.ReadFault = says.ReadFault
run_status stop.WriteFault = says.WriteFault

abbrev pub status_of : Refusal → Status
status_of refuse.NoMemory = says.NoMemory
status_of refuse.BadSchema = says.BadSchema
status_of (refuse.Limit error) = says.LimitOutOfRange
status_of (refuse.Query error) = parse_status error
status_of (refuse.Batch error) = batch_status error
status_of (refuse.Summary error) = summary_status error
status_of refuse.DifferentQuery = says.DifferentQuery
status_of (refuse.OriginDisagrees origin number) = says.OriginDisagrees
status_of refuse.TapeFault = says.TapeFault
status_of refuse.TapeDamaged = says.TapeDamaged
status_of (refuse.Run error) = run_status error
status_of refuse.BadCommand = says.BadCommand
status_of refuse.NoSuchName = says.NoSuchName
status_of refuse.NameTaken = says.NameTaken

-- an outcome, as callers get it
abbrev pub told_by : {T : Type 0} → Result T Refusal → Result T Status
told_by (Ok done) = Ok done
told_by (Err why) = Err (status_of why)

-- the number of an outcome, which is 0 for success
abbrev pub number_told : {T : Type 0} → Result T Status → ℕ
number_told (Ok done) = 0
number_told (Err status) = status_number status
