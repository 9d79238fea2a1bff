use Rattle.std.specs.Prelude.{◌≡◌, ℕ, ◌++◌, flat_map}
use Rattle.std.specs.List.{AllByRecursion}
use Rattle.origin_prefix.specs.Parts.{Part}
use Rattle.summary_codec.specs.Short.{IsShortPart}
use Rattle.summary_codec.specs.File.{part_bytes}
use Rattle.summary_codec.proofs.writing.push_parts.Given as goal

abbrev pub invariant-loop-origin : goal.invariant-loop-origin
invariant-loop-origin l =
    record {
      so_far : l.out.items ++ flat_map part_bytes l.origin-iterator ≡ l.initial.out.items ++ flat_map part_bytes l.initial.origin-iterator;
      short : AllByRecursion (λ (held : ℕ × Part). IsShortPart held.1) l.origin-iterator;
      can : (goal.iterator-loop-origin).can_next l.origin-iterator;
      finite : (goal.iterator-loop-origin).is_finite l.origin-iterator;
    }
