-- The truth values of the code.
use Rattle.std.specs.Prelude.{Bool, Option, Some, None}
use Rattle.grouping_model.specs.Condition.{Truth, Unknown, truth_of_bool}

-- a truth value that is absent is unknown (own)
abbrev pub truth_of : Option Bool → Truth
truth_of (Some b) = truth_of_bool b
truth_of None = Unknown
