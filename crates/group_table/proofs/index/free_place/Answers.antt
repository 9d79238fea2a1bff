use Rattle.std.specs.Prelude.{ℕ, Option, Some, None, IfNone, IsSome}
use Rattle.std.proofs.Common.{refl}
use Rattle.group_table.proofs.IndexLaws.{not_all}
use Rattle.group_table.proofs.index.free_place.Goals as goal

some : (P : Type 0) (o : Option ℕ) → IfNone o P → (P → ⊥) → IsSome o
some P None none never = absurd (never none)
some P (Some place) none never = refl

pub unwrap-requires : goal.unwrap-requires
unwrap-requires c = some _ _ c.first_free-2.ensures.none (not_all c.args.array.now c.args.count c.args.start c.requires.room
    c.in_default.ensures.none)
