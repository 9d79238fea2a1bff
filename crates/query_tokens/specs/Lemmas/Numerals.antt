-- The digits of an integer, in std's words.
use Rattle.std.proofs.Common.{◌≡◌, true, rules}
use Rattle.std.specs.Str.{all_ascii_digits}
use Rattle.std.proofs.lemmas.Str.Parse.{IsNumeralModel, numerals_by_fold}
use Rattle.query_tokens.specs.Tokens.{number_after}

pub own : IsNumeralModel (λ ds. all_ascii_digits ds ≡ true) (number_after 0)
own = numerals_by_fold _ (search rules) number_after (search rules)
