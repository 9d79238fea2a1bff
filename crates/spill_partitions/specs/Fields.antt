-- The fields of partitions.
use Rattle.std.specs.Prelude.{List, [], ◌∷◌, Option, Some, None}
use Rattle.spill_partitions.specs.Standing.{PartitionsState, ArePartitions}
use Rattle.spill_partitions.specs.declared.partitions.OnTape.{OnTape}
use Rattle.spill_partitions.specs.declared.partitions.SpillPartitions.TheInside.{Inside}

abbrev pub one_or_none : Option OnTape → List OnTape
one_or_none None = []
one_or_none (Some tape) = tape ∷ []

abbrev pub fields_of : Inside → PartitionsState
fields_of s = record {
  tapes = s.tapes;
  level = s.level;
  partitions = s.partitions.items;
  reading = one_or_none s.reading;
  pending =
      s.pending.items;
}

abbrev pub AreFields : Inside → Type 0
AreFields s = ArePartitions (fields_of s)
