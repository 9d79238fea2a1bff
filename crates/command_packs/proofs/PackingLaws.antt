-- What `pack` reads of standard input.
use Rattle.std.specs.Prelude.{◌≡◌, true, false, ℕ, List, [], length, Option}
use Rattle.std.proofs.Common.{refl, subst}
use Rattle.std.proofs.lemmas.List.{nil_from_length}
use Rattle.std.proofs.KnownBytes.{Consumes-whole}
use Rattle.std.specs.Io.KnownBytes.{Consumes, IsAtEnd}
use Rattle.command_words.specs.Streams.{is_stream}
use Rattle.command_packs.specs.Packing.{IsGiven, IsGivenCsv}
use Rattle.command_packs.specs.declared.options.Words.{Words}

-- what was read of standard input is all that it had
pub whole : (word : List ℕ) (old new : Option (List ℕ)) (bytes : List ℕ) → (is_stream word ≡ true → Consumes old new bytes × IsAtEnd new)
    → IsGiven word old bytes
whole word old new bytes read told =
    let all = read told in
    Consumes-whole old new bytes (λ text. bytes ≡ text) all.0 all.1 refl

-- so is a CSV, where the summary was not read from there
pub given : (words : Words) (old mid new : Option (List ℕ)) (csv : List ℕ) → (is_stream words.summary.now ≡ false → mid ≡ old)
    → (is_stream words.csv.now ≡ true → Consumes mid new csv × IsAtEnd new) → IsGivenCsv words old csv
given words old mid new csv others read other =
    subst (λ (input : Option (List ℕ)). IsGiven words.csv.now input csv) (others other) (whole words.csv.now mid new csv read)

-- a CSV of no byte is given as one
pub given_none : (words : Words) (input : Option (List ℕ)) (csv : List ℕ) → length csv ≡ 0 → IsGivenCsv words input csv
    → IsGivenCsv words input []
given_none words input csv none is = subst (λ (text : List ℕ). IsGivenCsv words input text) (nil_from_length csv none) is
