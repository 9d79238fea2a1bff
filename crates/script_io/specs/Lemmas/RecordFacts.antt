-- A text has no more records than bytes, and one.
use Rattle.std.proofs.Common.{◌≤◌, ◌+◌, ℕ, zero, suc, List, [], ◌∷◌, length, Option, Some, None, arith}
use Rattle.csv.specs.Machine.{Read, next_record}
use Rattle.csv.specs.Reading.{default_config, records_from, records_next, strip_bom}
use Rattle.csv.specs.declared.parser.State.{State}
use Rattle.csv.specs.declared.parser.State.TheVariants as st
use Rattle.script_io.specs.Records.{records_of}

few_next : (n : ℕ) (o : Option Read) → ((r : Read) → length (records_from default_config n r.1 r.2) ≤ n)
    → length (records_next (records_from default_config n) o) ≤ suc n
few_next n None h = omega arith
few_next n (Some r) h = let short = h r in omega arith

-- this many turns read no more records
pub records-few : (n : ℕ) (s : State) (text : List ℕ) → length (records_from default_config n s text) ≤ n
unfolding records_from
records-few zero s text = omega arith
records-few (suc n) s text = few_next n (next_record default_config s [] [] text) (λ r. records-few n r.1 r.2)

pub strip-short : (xs : List ℕ) → length (strip_bom xs) ≤ length xs
unfolding strip_bom
strip-short [] = omega arith
strip-short (a ∷ []) = omega arith
strip-short (a ∷ b ∷ []) = omega arith
strip-short (a ∷ b ∷ c ∷ rest) = grind arith

pub length-records_of : (script : List ℕ) → length (records_of script) ≤ length script + 1
length-records_of script = let few = records-few (length (strip_bom script) + 1) st.StartRecord (strip_bom script) in let short =
    strip-short script in omega arith
