-- The limit of a table of groups that a command tells. All of this is our own.
use Rattle.std.specs.Prelude.{◌≡◌, ◌<◌, ◌⊎◌, ℕ, List, Option, Some, None}
use Rattle.hash_agg.specs.declared.means.TheConstants.{DEFAULT_LIMIT, MIN_LIMIT, MAX_LIMIT}
use Rattle.command_words.specs.Bytes.{bytes_told}
use Rattle.refusals.specs.Refusals.{limit_out_of_range}
use Rattle.refusals.specs.declared.refusal.Refusal.{Refusal}
use Rattle.refusals.specs.declared.refusal.Refusal.TheVariants.{BadCommand}

-- the limit that an option tells, if its text is a number of bytes, with a suffix or none. It is the usual one where the option is not told
abbrev pub limit_of : Option (List ℕ) → Option ℕ
limit_of None = Some DEFAULT_LIMIT
limit_of (Some text) = bytes_told text

-- a number is out of range for a limit, and refused as that
abbrev pub IsOutOfRange : (limit : ℕ) → Refusal → Type 0
IsOutOfRange limit why = (why ≡ limit_out_of_range) × ((limit < MIN_LIMIT) ⊎ (MAX_LIMIT < limit))

-- why a limit is refused: it is no number of bytes, or it is out of range
abbrev pub IsNoLimit : Option ℕ → Refusal → Type 0
IsNoLimit None why = why ≡ BadCommand
IsNoLimit (Some limit) why = IsOutOfRange limit why
