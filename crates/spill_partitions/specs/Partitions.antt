-- The partitions to which a pass of hash aggregation spills its records (PostgreSQL 17, `src/backend/executor/nodeAgg.c`: "spill
-- partitions", chosen by bits of the hash that no earlier pass used). That there are 16, and how bits are taken, is our own.
use Rattle.std.specs.Prelude.{ℕ, ◌+◌, ◌-◌, ◌/◌, ◌%◌, ◌^◌, ◌==◌, nat_lt, if◌then◌else◌, Bool, true, false, not, List, [], ◌∷◌, map, filter}
use Rattle.std.specs.List.{range_with_len}
use Rattle.spill_tapes.specs.Records.{Record}
use Rattle.spill_partitions.specs.declared.partitions.TheConstants.{PARTITIONS, LAST_LEVEL}

-- the partition on which a hash of 32 bits falls at a level: its digit to base 16 there, from the top; below its eight digits, the
-- one partition
abbrev pub partition_of : ℕ → ℕ → ℕ
partition_of level hash = if nat_lt level LAST_LEVEL then hash / PARTITIONS ^ (LAST_LEVEL - 1 - level) % PARTITIONS else 0

-- the records that fall on one of the 16 partitions, in their order
abbrev pub on_partition : ℕ → List Record → ℕ → List Record
on_partition level records i = filter (λ (entry : Record). partition_of level entry.hash == i) records

-- a partition that is to be read: how deep the pass is that will read it, and its records. Below the eighth level, all are as deep
pub record PendingPartition : Type 0 where
  pub level : ℕ
  pub records : List Record

abbrev pub deeper : ℕ → ℕ
deeper level = if nat_lt level LAST_LEVEL then level + 1 else LAST_LEVEL

abbrev pub is_none : List Record → Bool
is_none [] = true
is_none (entry ∷ records) = false

-- the 16 partitions of what a pass spills, and those of them that a later pass is to read
abbrev pub partitions_of : ℕ → List Record → List PendingPartition
partitions_of level spilled = map (λ i. record { level = deeper level; records = on_partition level spilled i })
    (range_with_len 0 PARTITIONS)

abbrev pub left_by : ℕ → List Record → List PendingPartition
left_by level spilled = filter (λ (partition : PendingPartition). not (is_none partition.records)) (partitions_of level spilled)
