use Rattle.std.proofs.Common.{◌≡◌, ◌++◌, flat_map, take}
use Rattle.std.specs.Fmt.{decimal}
use Rattle.replies.proofs.known_tables.push_behind.Given as goal

abbrev pub invariant-loop-number : goal.invariant-loop-number
invariant-loop-number l = l.text.items
    ≡ l.fn.text.items ++ flat_map (λ number. l.separator ++ decimal number) (take l.number-index l.numbers)
