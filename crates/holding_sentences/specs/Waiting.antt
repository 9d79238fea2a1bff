-- Which origins a report of early batches tells of. All of this is our own.
use Rattle.std.specs.Prelude.{ℕ, Bool, ◌==◌, List, length, filter, not}
use Rattle.grouping_model.specs.Replies.{KnownOrigin}

-- whether batches of an origin came early
abbrev pub has_early : KnownOrigin → Bool
has_early known = not (length known.early == 0)

-- how many of these origins have such batches
abbrev pub waiting : List KnownOrigin → ℕ
waiting list = length (filter has_early list)
