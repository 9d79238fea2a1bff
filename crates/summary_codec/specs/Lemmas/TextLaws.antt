-- The text of a schema is UTF-8, since names and kinds are ASCII.
use Rattle.std.specs.Prelude.{◌≡◌, refl, ℕ, zero, suc, ◌<◌, ◌||◌, ◌==◌, ◌&&◌, nat_lt, Bool, true, false, List, [], ◌∷◌, ◌++◌, slice_index}
use Rattle.std.specs.Prelude.{codes, IsUtf8}
use Rattle.std.proofs.Common.{arith}
use Rattle.std.proofs.lemmas.Bool.{ltb-true}
use Rattle.std.proofs.lemmas.Str.{IsUtf8-from_ascii}
use Rattle.std.specs.Char.{is_ascii_alphanumeric}
use Rattle.std.specs.List.{AllByRecursion, list_all}
use Rattle.summary_codec.specs.Lemmas.Words.{each_append, Kind, Bigint_kind, Boolean_kind, Text_kind, Column, names, printed, column_text}
use Rattle.summary_codec.specs.Lemmas.Words.{kind_text, AreColumns, IsColumnName}
use Rattle.grouping_model.specs.MemberLaws.{false_is_not_true}

abbrev AreLow : List ℕ → Type 0
AreLow bytes = AllByRecursion (λ b. b < 128) bytes

all_passing : (t : ℕ → Bool) → ((b : ℕ) → t b ≡ true → b < 128) → (bytes : List ℕ) → list_all t bytes ≡ true → AreLow bytes
all_passing t low [] all = tt
all_passing t low (b ∷ bytes) all =
    elim (t b) as (λ p. t b ≡ p → (p && list_all t bytes) ≡ true → AreLow (b ∷ bytes)) [
      | true ↦ λ e all. (low b e, all_passing t low bytes all)
      | false ↦ λ e all. false_is_not_true all
    ] refl all

name_low : (b : ℕ) → (is_ascii_alphanumeric b || b == 95) ≡ true → b < 128
name_low b e = grind arith

tested_low : (bytes : List ℕ) → list_all (λ b. nat_lt b 128) bytes ≡ true → AreLow bytes
tested_low bytes all = all_passing (λ b. nat_lt b 128) (λ b e. ltb-true b 128 e) bytes all

kind_low : (kind : Kind) → AreLow (kind_text kind)
kind_low Bigint_kind = tested_low (codes "bigint") refl
kind_low Boolean_kind = tested_low (codes "boolean") refl
kind_low Text_kind = tested_low (codes "text") refl

column_low : (column : Column) → IsColumnName column.name → AreLow (column_text column)
column_low column named =
    each_append (λ b. b < 128) (column.name ++ codes " ") (kind_text column.kind)
    (each_append (λ b. b < 128) column.name (codes " ") (all_passing (λ b. is_ascii_alphanumeric b || b == 95) name_low column.name
    named.legal.continues) (tested_low (codes " ") refl))
    (kind_low column.kind)

columns_low : (columns : List Column) → AllByRecursion IsColumnName (names columns) → AreLow (printed columns)
columns_low [] named = tt
columns_low (column ∷ []) named = column_low column named.0
columns_low (column ∷ next ∷ columns) named =
    each_append (λ b. b < 128) (column_text column ++ codes ", ") (printed (next ∷ columns))
    (each_append (λ b. b < 128) (column_text column) (codes ", ") (column_low column named.0) (tested_low (codes ", ") refl))
    (columns_low (next ∷ columns) named.1)

low_at : (bytes : List ℕ) → AreLow bytes → (i : ℕ) → slice_index bytes i < 128
low_at [] all zero = omega arith
low_at [] all (suc i) = omega arith
low_at (b ∷ bytes) all zero = all.0
low_at (b ∷ bytes) all (suc i) = low_at bytes all.1 i

pub schema_text : (columns : List Column) → AreColumns columns → IsUtf8 (printed columns)
schema_text columns are = IsUtf8-from_ascii (printed columns) (low_at (printed columns) (columns_low columns are.named))
