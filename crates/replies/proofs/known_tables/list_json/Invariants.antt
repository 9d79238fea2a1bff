use Rattle.std.proofs.Common.{◌≡◌, map, take}
use Rattle.replica_merge.specs.Replicas.{known_of}
use Rattle.replies.specs.KnownTables.{known_json}
use Rattle.replies.proofs.known_tables.list_json.Given as goal

abbrev pub invariant-loop-known : goal.invariant-loop-known
invariant-loop-known l = l.text.items ≡ known_json (map known_of (take l.known-index l.list))
