-- Single fields of a file.
use Rattle.std.proofs.Common.{◌≡◌, ◌≢◌, refl, ℕ, ◌^◌, ◌<◌, List, [], ◌++◌, true, false, take, drop, length, slice_index, nat_eq, sym, ap}
use Rattle.std.proofs.Common.{◌∙◌, append-nil}
use Rattle.std.proofs.lemmas.List.{take-append-drop}
use Rattle.std.proofs.Math.Seq.{take-append_seam}
use Rattle.std.specs.List.{starts_with}
use Rattle.std.specs.Cmp.Lexicographic.{pointwise, same_text, other_text}
use Rattle.std.specs.Int.{bytes_high_first}
use Rattle.byteorder.specs.Endian.{big_from}
use Rattle.byteorder.specs.Numbers.{big_from-lt}
use Rattle.agg_protocol.specs.Lemmas.Bytes.{own_bytes}
use Rattle.summary_codec.specs.Versions.{opening}
use Rattle.summary_codec.specs.Reading.{IsCutShort}
use Rattle.summary_codec.specs.declared.version.Version.{Version}
use Rattle.summary_codec.specs.declared.version.Version.TheVariants.{First, Second}

-- bytes spell the number in them
pub spelled : (bytes : List ℕ) → ((i : ℕ) → slice_index bytes i < 256) → bytes
    ≡ bytes_high_first (length bytes) (big_from 0 (length bytes) bytes)
spelled bytes fits = own_bytes (length bytes) bytes fits refl

pub spelled_fits : (bytes : List ℕ) → ((i : ℕ) → slice_index bytes i < 256) → big_from 0 (length bytes) bytes < 256 ^ length bytes
spelled_fits bytes fits = big_from-lt 0 (length bytes) bytes fits

-- ---- what a file begins with, which is some bytes

pub begins : (own bytes behind : List ℕ) → pointwise nat_eq (take (length own) bytes) own ≡ true → behind ≡ drop (length own) bytes → bytes
    ≡ own ++ behind
begins own bytes behind front rest =
    sym (take-append-drop (length own) bytes) ∙ (λ i. same_text (take (length own) bytes) own (sym front) i ++ sym rest i)

pub front_goes_on : (own bytes : List ℕ) → starts_with nat_eq own bytes ≡ true → (more : List ℕ) × (own ≡ bytes ++ more)
front_goes_on own bytes front = (
  drop (length bytes) own,
  sym (take-append-drop (length bytes) own)
      ∙ ap (λ b. b ++ drop (length bytes) own) (sym (same_text bytes (take (length bytes) own) (sym front))),
)

pub goes_on_front : (own bytes : List ℕ) → (more : List ℕ) × (own ≡ bytes ++ more) → starts_with nat_eq own bytes ≡ true
goes_on_front own bytes more =
    elim (starts_with nat_eq own bytes) as (λ b. starts_with nat_eq own bytes ≡ b → b ≡ true) [
      | true ↦ λ e. refl
      | false ↦ λ e. absurd (other_text bytes (take (length bytes) own) (sym e)
          (sym (ap (take (length bytes)) more.1 ∙ take-append_seam bytes more.0)))
    ] refl

-- ---- bytes that don't begin as a file of any version does

-- they are cut short, where they are the front of what one begins with
pub cut_short : (version : Version) (bytes : List ℕ) → ((rest : List ℕ) → bytes ≢ opening version ++ rest) → (more : List ℕ)
    × (opening version ≡ bytes ++ more) → IsCutShort bytes
cut_short version bytes other (more, front) = (
  version,
  more,
  (λ none. other [] (sym (front ∙ ap (λ m. bytes ++ m) none ∙ append-nil bytes) ∙ sym (append-nil (opening version)))),
  front,
)

-- or else no file
pub no_opening : (bytes : List ℕ) → ((rest : List ℕ) → bytes ≢ opening First ++ rest) → ((rest : List ℕ) → bytes ≢ opening Second ++ rest)
    → ¬ ((more : List ℕ) × (opening First ≡ bytes ++ more))
    → ¬ ((more : List ℕ) × (opening Second ≡ bytes ++ more)) → ((version : Version) (rest : List ℕ) → bytes ≢ opening version ++ rest)
    × (¬ (IsCutShort bytes))
no_opening bytes first second no_first no_second = (other, short)
  where
    other : (version : Version) (rest : List ℕ) → bytes ≢ opening version ++ rest
    other First = first
    other Second = second

    short : IsCutShort bytes → ⊥
    short (First, more, some, front) = no_first (more, front)
    short (Second, more, some, front) = no_second (more, front)
