use Rattle.std.proofs.Common.{◌≤◌, ◌<◌, ℕ, List, sym, length, Ok, Err, ◌^◌, inl, inr}
use Rattle.query_tokens.specs.Tokens.{number_after}
use Rattle.std.proofs.lemmas.Str.Parse.{parse_digits}
use Rattle.std.specs.declared.num.ParseIntError.{ParseIntError}
use Rattle.std.proofs.lemmas.Bool.{cases_lt}
use Rattle.query_tokens.specs.Lemmas.Numerals.{own}
use Rattle.query_tokens.proofs.Numerals.{too_large}
use Rattle.query_tokens.proofs.reading.integer_of.Goals as goal

pub returns-in-Ok : goal.returns-in-Ok
returns-in-Ok c =
    let value = parse_digits own {E = ParseIntError} 64 c.args.digits.now (Ok c.in-Ok.magnitude) c.in-Ok.ensures.value.0 c.requires.digits
    in
    rw (← value.1) c.signed_integer.ensures

great : (n : ℕ) (ds : List ℕ) → 0 < length ds → ((0 < length ds) × (n < 2 ^ 64) → ⊥) → 2 ^ 64 ≤ n
great n ds some h = elim (cases_lt n (2 ^ 64)) [ inl lt ↦ absurd (h (some, lt)) | inr le ↦ le ]

pub returns-in-Err : goal.returns-in-Err
returns-in-Err c =
    let wrong = parse_digits own 64 c.args.digits.now (Err c.in-Err.field-0) c.in-Err.ensures.value.0 c.requires.digits in
    sym (too_large c.args.negative (number_after 0 c.args.digits.now) (great (number_after 0 c.args.digits.now) c.args.digits.now
    c.requires.some wrong))
