use Rattle.std.proofs.Common.{◌≡◌, ◌++◌, map, take}
use Rattle.replica_merge.specs.Replicas.{known_of}
use Rattle.replies.specs.Text.{origins_text}
use Rattle.replies.proofs.texts.push_origins.Given as goal

abbrev pub invariant-loop-known : goal.invariant-loop-known
invariant-loop-known l = l.text.items ≡ l.fn.text.items ++ origins_text (map known_of (take l.known-index l.list))
