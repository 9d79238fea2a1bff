-- What a clause sees of the header of a batch file in code.
use Rattle.batch_reader.specs.File as file
use Rattle.batch_reader.specs.declared.file.FileHead.{FileHead}

-- a header, whatever place in memory its fields have
abbrev pub head_view : FileHead → file.FileHead
head_view h = record { origin = h.origin.now; number = h.number.now; told = h.told }
