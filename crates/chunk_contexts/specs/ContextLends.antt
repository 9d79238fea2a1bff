-- What a context ends as, once a `&mut` to a chunk has ended.
use Rattle.std.specs.Prelude.{ℕ, List}
use Rattle.std.specs.Borrow.{Fml, RattleType, MutBor, Array, Lends, u8}

abbrev pub lends_chunk : (R : RattleType) → MutBor R.Denot → (List ℕ → R.Denot) → MutBor (List ℕ) → Fml
lends_chunk R c f r = Lends R (Array u8 0) c r f
