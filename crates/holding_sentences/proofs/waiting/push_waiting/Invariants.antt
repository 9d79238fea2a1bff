use Rattle.std.proofs.Common.{◌≡◌, ◌-◌, ◌^◌, length, map, min, take}
use Rattle.replica_merge.specs.Replicas.{known_of}
use Rattle.holding_sentences.specs.Waiting.{waiting}
use Rattle.holding_sentences.proofs.waiting.push_waiting.Given as goal

-- a line for each of ten origins at most, and how many others there are
abbrev pub invariant-loop-known : goal.invariant-loop-known
invariant-loop-known l = (length l.lines.items ≡ min 10 (waiting (map known_of (take l.known-index l.list))))
    × (l.others ≡ min (waiting (map known_of (take l.known-index l.list)) - 10) (2 ^ 64 - 1))
