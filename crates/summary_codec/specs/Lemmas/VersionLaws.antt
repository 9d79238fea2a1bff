-- What the versions of a file have in common, and how they differ.
use Rattle.std.proofs.Common.{◌≡◌, refl, ℕ, ◌*◌, ◌^◌, ◌<◌, ◌≤◌, List, ◌++◌, length, slice_index, ap, sym, ◌∙◌, arith}
use Rattle.std.proofs.lemmas.List.{append_cancel_left}
use Rattle.summary_codec.specs.Lemmas.Words.{each_weaker, LAST_NUMBER, MAX_ROWS, kinds, Checked, Part, IsEarly, IsPartOf, Parts, IsHeldPart}
use Rattle.summary_codec.specs.Lemmas.Words.{AreHeldParts, opening, last_number, most_batch_rows, IsBatchWithin, IsWithin, AreWithin}
use Rattle.summary_codec.specs.Lemmas.Words.{Version, First, Second}

-- ---- openings

pub opening_length : (version : Version) → length (opening version) ≡ 8
opening_length First = refl
opening_length Second = refl

-- bytes begin as files of one version do
pub one_version : (version other : Version) (rest behind : List ℕ) → opening version ++ rest ≡ opening other ++ behind → version ≡ other
one_version First First rest behind same = refl
one_version First Second rest behind same = absurd (let byte : 49 ≡ 50 = ap (λ bytes. slice_index bytes 7) same in omega (arith, byte))
one_version Second First rest behind same = absurd (let byte : 50 ≡ 49 = ap (λ bytes. slice_index bytes 7) same in omega (arith, byte))
one_version Second Second rest behind same = refl

-- and are equal behind it
pub one_body : (version other : Version) (rest behind : List ℕ) → opening version ++ rest ≡ opening other ++ behind → rest ≡ behind
one_body version other rest behind same =
    append_cancel_left (opening other) rest behind (ap (λ v. opening v ++ rest) (sym (one_version version other rest behind same)) ∙ same)

-- ---- bounds

pub number_low : (version : Version) → last_number version ≤ LAST_NUMBER
number_low First = omega arith
number_low Second = omega arith

pub rows_low : (version : Version) → most_batch_rows version ≤ MAX_ROWS
rows_low First = omega arith
rows_low Second = omega arith

pub product_low : (version : Version) (number : ℕ) → number * most_batch_rows version ≤ number * MAX_ROWS
product_low First number = omega arith
product_low Second number = omega arith

-- the fields of these numbers have four bytes
pub number_fits : (version : Version) (n : ℕ) → n ≤ last_number version → n < 256 ^ 4
number_fits version n within = let low = number_low version in omega (arith, low, within)

pub rows_fit : (version : Version) (n : ℕ) → n ≤ most_batch_rows version → n < 256 ^ 4
rows_fit version n within = let low = rows_low version in omega (arith, low, within)

-- ---- what may be held is within the bounds of the second version

part_within : (query : Checked) (part : Part) → IsPartOf query part → IsWithin Second query part
part_within query part is =
    record {
      prefix = is.within;
      run = is.run;
      few = is.few;
      early = each_weaker (IsEarly (kinds query.columns) part.prefix) (IsBatchWithin Second)
          (λ batch early. record { number = early.within; rows = early.rows.few }) part.early is.early;
    }

pub held_within : (query : Checked) (held : Parts) → AreHeldParts query held → AreWithin Second query held
held_within query held are = each_weaker (IsHeldPart query) (λ (h : ℕ × Part). IsWithin Second query h.1)
    (λ h is. part_within query h.1 is.part) held are.each
