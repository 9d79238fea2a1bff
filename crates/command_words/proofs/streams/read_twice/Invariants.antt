use Rattle.std.specs.Prelude.{◌≡◌, MatchOption}
use Rattle.std.proofs.Common.{take}
use Rattle.command_words.specs.Streams.{streams_of}
use Rattle.command_words.proofs.streams.read_twice.Given as goal

-- how many streams were seen
abbrev pub invariant-loop-input : goal.invariant-loop-input
invariant-loop-input l =
    MatchOption l.first (streams_of (take l.input-index l.inputs) ≡ 0) (λ _. streams_of (take l.input-index l.inputs) ≡ 1)
