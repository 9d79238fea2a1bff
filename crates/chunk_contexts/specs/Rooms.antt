-- How many bytes a chunk has room for.
use Rattle.std.specs.Prelude.{ℕ, ◌+◌, ◌*◌, ◌/◌, max, nat_le, nat_lt, List, [], ◌∷◌, get_or, Option, Some, None, if◌then◌else◌}
use Rattle.std.specs.List.{position_or_len}
use Rattle.chunk_contexts.specs.declared.error.ContextError.{ContextError}
use Rattle.chunk_contexts.specs.declared.error.ContextError.TheVariants.{TooLarge}
use Rattle.chunk_contexts.specs.declared.rooms.TheConstants.{MOST}

-- a number of bytes raised to a multiple of 8, at least 8
abbrev pub rounded : ℕ → ℕ
rounded n = (max n 1 + 7) / 8 * 8

-- a request that is too long for any kind
abbrev pub over_most : ℕ → Option ContextError
over_most n = if nat_lt MOST n then Some TooLarge else None

-- the rooms of the chunks of a set that lie together in blocks
unfoldable pub rooms : List ℕ
rooms = 8 ∷ 16 ∷ 32 ∷ 64 ∷ 128 ∷ 256 ∷ 512 ∷ 1024 ∷ 2048 ∷ 4096 ∷ 8192 ∷ []

unfoldable pub rooms_down : List ℕ
rooms_down = 8192 ∷ 4096 ∷ 2048 ∷ 1024 ∷ 512 ∷ 256 ∷ 128 ∷ 64 ∷ 32 ∷ 16 ∷ 8 ∷ []

unfoldable pub room_of : ℕ → ℕ
room_of class = get_or rooms class 0

-- the first class with room for n bytes
unfoldable pub class_of : ℕ → ℕ
class_of n = position_or_len (λ room. nat_le n room) rooms
