use Rattle.std.specs.Prelude.{◌≡◌, ◌++◌, map}
use Rattle.std.proofs.Common.{take}
use Rattle.command_words.proofs.streams.push_all.Given as goal

-- those that were added
abbrev pub invariant-loop-path : goal.invariant-loop-path
invariant-loop-path l =
    map (λ input. input.path.now) l.inputs.items
    ≡ map (λ input. input.path.now) l.initial.inputs.items ++ map (λ path. path.now) (take l.path-index l.paths)
