-- What an input field stands for.
use Rattle.std.specs.Prelude.{slice_index, ℤ, codes, map, ◌≡◌, ℕ, Bool, true, false, List, [], ◌∷◌}
use Rattle.std.specs.Char.{to_ascii_lowercase}
use Rattle.std.proofs.Common.{refl, sym, ap, ◌∙◌, inl, inr, arith}
use Rattle.grouping_model.specs.Datum.{Datum, Kind, Null, Bigint, Boolean, Text, Bigint_kind, Boolean_kind, Text_kind, Row, null_field}
use Rattle.packed_rows.specs.Field.{Reads, ReadsRow, IsBigintField, IsBooleanField, SpellsWord}
use Rattle.std.proofs.lemmas.Bool.Decides.{nat_tests}
use Rattle.std.proofs.lemmas.Grind.{common_steps}

-- no word is two words
apart : (field : List ℕ) → IsBooleanField field true → IsBooleanField field false → ⊥
apart field (inl p) (inl q) = omega (arith, ap (λ w. slice_index w 0) (sym p ∙ q))
apart field (inl p) (inr q) = omega (arith, ap (λ w. slice_index w 0) (sym p ∙ q))
apart field (inr p) (inl q) = omega (arith, ap (λ w. slice_index w 0) (sym p ∙ q))
apart field (inr p) (inr q) = omega (arith, ap (λ w. slice_index w 0) (sym p ∙ q))

null_no_number : (field : List ℕ) (z : ℤ) → field ≡ null_field → IsBigintField field z → ⊥
null_no_number field z e h = grind (arith, nat_tests, common_steps)

no_word : (field word : List ℕ) → field ≡ null_field → SpellsWord word field → slice_index word 0 ≡ 92
no_word field word e h = ap (λ w. slice_index w 0) (sym h ∙ ap (map to_ascii_lowercase) e)

null_no_boolean : (field : List ℕ) (b : Bool) → field ≡ null_field → IsBooleanField field b → ⊥
null_no_boolean field true e (inl h) = omega (arith, no_word field (codes "t") e h)
null_no_boolean field true e (inr h) = omega (arith, no_word field (codes "true") e h)
null_no_boolean field false e (inl h) = omega (arith, no_word field (codes "f") e h)
null_no_boolean field false e (inr h) = omega (arith, no_word field (codes "false") e h)

-- a field stands for one value at most
pub one_value : (kind : Kind) (field : List ℕ) (d e : Datum) → Reads kind field d → Reads kind field e → d ≡ e
one_value kind field Null Null p q = refl
one_value Bigint_kind field (Bigint x) (Bigint y) p q = ap Bigint (sym p.2 ∙ q.2)
one_value Text_kind field (Text x) (Text y) p q = ap Text (sym p.1 ∙ q.1)
one_value Boolean_kind field (Boolean true) (Boolean true) p q = refl
one_value Boolean_kind field (Boolean false) (Boolean false) p q = refl
one_value Boolean_kind field (Boolean true) (Boolean false) p q = absurd (apart field p q)
one_value Boolean_kind field (Boolean false) (Boolean true) p q = absurd (apart field q p)
one_value Bigint_kind field Null (Bigint y) p q = absurd (null_no_number field y p q)
one_value Bigint_kind field (Bigint x) Null p q = absurd (null_no_number field x q p)
one_value Boolean_kind field Null (Boolean b) p q = absurd (null_no_boolean field b p q)
one_value Boolean_kind field (Boolean b) Null p q = absurd (null_no_boolean field b q p)
one_value Text_kind field Null (Text y) p q = absurd (q.0.3 p)
one_value Text_kind field (Text x) Null p q = absurd (p.0.3 q)
one_value Bigint_kind field (Boolean b) e p q = absurd p
one_value Bigint_kind field (Text x) e p q = absurd p
one_value Boolean_kind field (Bigint x) e p q = absurd p
one_value Boolean_kind field (Text x) e p q = absurd p
one_value Text_kind field (Bigint x) e p q = absurd p
one_value Text_kind field (Boolean b) e p q = absurd p
one_value kind field d e p q = absurd q

pub one_row : (kinds : List Kind) (fields : List (List ℕ)) (x y : Row) → ReadsRow kinds fields x → ReadsRow kinds fields y → x ≡ y
one_row [] [] [] [] p q = refl
one_row (kind ∷ kinds) (field ∷ fields) (d ∷ x) (e ∷ y) p q = λ i. one_value kind field d e p.0 q.0 i ∷ one_row kinds fields x y p.1 q.1 i
one_row [] [] [] (e ∷ y) p q = absurd q
one_row (kind ∷ kinds) (field ∷ fields) (d ∷ x) [] p q = absurd q
one_row kinds fields x y p q = absurd p
