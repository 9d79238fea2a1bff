-- The names of what is wrong with a batch, as replies show them. All of this is our own.
use Rattle.std.specs.Prelude.{ℕ, List, codes}
use Rattle.batch_reader.specs.declared.error.BatchError.{BatchError}
use Rattle.batch_reader.specs.declared.error.BatchError.TheVariants.{NoMemory, BadBatchHead, TooManyRows, RowCount, WrongWidth, BadField}

abbrev pub batch_name : BatchError → List ℕ
batch_name NoMemory = codes "NoMemory"
batch_name BadBatchHead = codes "BadBatchHead"
batch_name TooManyRows = codes "TooManyRows"
batch_name RowCount = codes "RowCount"
batch_name (WrongWidth row) = codes "WrongWidth"
batch_name (BadField row column) = codes "BadField"
