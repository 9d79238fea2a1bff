-- Conditions after any number of NOTs (own).
use Rattle.std.specs.Prelude.{ℕ, zero, suc, Ok}
use Rattle.query_checks.specs.Forms as form
use Rattle.query_grammar.specs.Grammar.{Named}
use Rattle.query_grammar.specs.Reading.{Read, ◌>>=◌}

abbrev pub negated : ℕ → Named → Named
negated zero x = x
negated (suc n) x = form.Not (negated n x)

-- what is read after this many NOTs, with them
abbrev pub nots : ℕ → Read Named → Read Named
nots zero r = r
nots (suc n) r = nots n (r >>= λ x. Ok (form.Not x.0, x.1))
