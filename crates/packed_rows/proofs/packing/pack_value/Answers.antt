use Rattle.std.specs.Prelude.{◌≡◌, ℕ, ◌-◌, ◌^◌, ℤ, pos, negsuc, ◌-ℤ◌, FitsSigned, List, ◌∷◌, [], ◌++◌, Bool, true, false, if◌then◌else◌}
use Rattle.std.proofs.Common.{refl, sym, ap, ◌∙◌, append_assoc, append-nil, arith, rules}
use Rattle.std.proofs.lemmas.Int.{ints, to_z-of_z}
use mir.Val.{bool_byte}
use Rattle.std.proofs.Math.IntN.{nat_abs}
use Rattle.std.specs.Int.{w64, to_be_bytes}
use Rattle.packed_rows.specs.View.{datum_of}
use Rattle.packed_rows.specs.Packing.{AppendsFront, above_least, value_packing}
use Rattle.packed_rows.proofs.RowLaws.{on_match}
use Rattle.packed_rows.proofs.packing.pack_value.Goals as goal

-- where nothing was appended
none_appended : (old new bytes : List ℕ) → new ≡ old → AppendsFront old new bytes
none_appended old new bytes same = ([], bytes, refl, same ∙ sym (append-nil old))

byte_of : (truth : Bool) → bool_byte truth ≡ (if truth then 1 else 0)
byte_of true = refl
byte_of false = refl

-- how far a number is from the least
above_is : (z : ℤ) → FitsSigned w64 z → nat_abs (z -ℤ negsuc (2 ^ 63 - 1)) ≡ above_least z
above_is (pos n) fits = omega (arith, ints)
above_is (negsuc n) fits = omega (arith, ints)

-- where a mark and more were appended
marked_and : (old marked new bytes more : List ℕ) → marked ≡ old ++ 1 ∷ [] → new ≡ marked ++ bytes → bytes ≡ more → new ≡ old ++ 1 ∷ more
marked_and old marked new bytes more m e same = e ∙ ap (λ xs. xs ++ bytes) m ∙ append_assoc old (1 ∷ []) bytes
    ∙ ap (λ xs. old ++ 1 ∷ xs) same

pub returns-in_err-push-in-Null : goal.returns-in_err-push-in-Null
returns-in_err-push-in-Null c =
    on_match c.from_residual.result _ c.from_residual.ensures.0 (none_appended c.args.out.now.items c.push.new.self.items
    (value_packing (datum_of c.args.value)) c.in_err-push-in-Null.ensures.items)

pub returns-in_err-push-in-Bigint : goal.returns-in_err-push-in-Bigint
returns-in_err-push-in-Bigint c =
    on_match c.from_residual-in_err-push-in-Bigint.result _ c.from_residual-in_err-push-in-Bigint.ensures.0
    (none_appended c.args.out.now.items c.push-in-Bigint.new.self.items (value_packing (datum_of c.args.value))
    c.in_err-push-in-Bigint.ensures.items)

pub returns-in_err-push-in-Text : goal.returns-in_err-push-in-Text
returns-in_err-push-in-Text c =
    on_match c.from_residual-in_err-push-in-Text.result _ c.from_residual-in_err-push-in-Text.ensures.0
    (none_appended c.args.out.now.items c.push-in-Text.new.self.items (value_packing (datum_of c.args.value))
    c.in_err-push-in-Text.ensures.items)

pub returns-in_err-extend_from_slice-in-Boolean : goal.returns-in_err-extend_from_slice-in-Boolean
returns-in_err-extend_from_slice-in-Boolean c =
    on_match c.from_residual-in_err-extend_from_slice-in-Boolean.result _ c.from_residual-in_err-extend_from_slice-in-Boolean.ensures.0
    (none_appended c.args.out.now.items c.extend_from_slice-in-Boolean.new.self.items (value_packing (datum_of c.args.value))
    c.in_err-extend_from_slice-in-Boolean.ensures.items)

-- the mark before the number was appended
pub returns-in_err-extend_from_slice-in-Bigint : goal.returns-in_err-extend_from_slice-in-Bigint
returns-in_err-extend_from_slice-in-Bigint c =
    on_match c.from_residual-in_err-extend_from_slice-in-Bigint.result _ c.from_residual-in_err-extend_from_slice-in-Bigint.ensures.0 (
      1 ∷ [],
      to_be_bytes w64 (above_least c.in-Bigint.number),
      ap (λ v. value_packing (datum_of v)) c.in-Bigint.is,
      c.in_err-extend_from_slice-in-Bigint.ensures.items ∙ c.in_ok-push-in-Bigint.ensures.items,
    )

-- the mark before the text was appended
pub returns-in_err-extend_from_slice-in-Text : goal.returns-in_err-extend_from_slice-in-Text
returns-in_err-extend_from_slice-in-Text c =
    on_match c.from_residual-in_err-extend_from_slice-in-Text.result _ c.from_residual-in_err-extend_from_slice-in-Text.ensures.0 (
      1 ∷ [],
      c.in-Text.text.now ++ 0 ∷ [],
      ap (λ v. value_packing (datum_of v)) c.in-Text.is,
      c.in_err-extend_from_slice-in-Text.ensures.items ∙ c.in_ok-push-in-Text.ensures.items,
    )

-- all but the zero behind the text was appended
pub returns-in_err-push-in-Text-2 : goal.returns-in_err-push-in-Text-2
returns-in_err-push-in-Text-2 c =
    on_match c.from_residual-in_err-push-in-Text-2.result _ c.from_residual-in_err-push-in-Text-2.ensures.0 (
      1 ∷ c.in-Text.text.now,
      0 ∷ [],
      ap (λ v. value_packing (datum_of v)) c.in-Text.is,
      c.in_err-push-in-Text-2.ensures.items
          ∙ marked_and c.args.out.now.items c.push-in-Text.new.self.items c.extend_from_slice-in-Text.new.self.items c.as_bytes.result.now
          c.in-Text.text.now c.in_ok-push-in-Text.ensures.items c.in_ok-extend_from_slice-in-Text.ensures.items
          c.as_bytes.ensures.value,
    )

pub returns-in_ok-push-in-Null : goal.returns-in_ok-push-in-Null
returns-in_ok-push-in-Null c = c.in_ok-push-in-Null.ensures.items ∙ ap (λ v. c.args.out.now.items ++ value_packing (datum_of v))
    (sym c.in-Null.is)

pub returns-in_ok-push-in-Text-2 : goal.returns-in_ok-push-in-Text-2
returns-in_ok-push-in-Text-2 c =
    c.in_ok-push-in-Text-2.ensures.items
    ∙ ap (λ xs. xs ++ 0 ∷ []) (marked_and c.args.out.now.items c.push-in-Text.new.self.items c.extend_from_slice-in-Text.new.self.items
    c.as_bytes.result.now c.in-Text.text.now c.in_ok-push-in-Text.ensures.items c.in_ok-extend_from_slice-in-Text.ensures.items
    c.as_bytes.ensures.value)
    ∙ append_assoc c.args.out.now.items (1 ∷ c.in-Text.text.now) (0 ∷ [])
    ∙ ap (λ v. c.args.out.now.items ++ value_packing (datum_of v)) (sym c.in-Text.is)

pub returns-in_ok-extend_from_slice-in-Boolean : goal.returns-in_ok-extend_from_slice-in-Boolean
returns-in_ok-extend_from_slice-in-Boolean c =
    c.in_ok-extend_from_slice-in-Boolean.ensures.items
    ∙ ap (λ byte. c.args.out.now.items ++ 1 ∷ byte ∷ []) (byte_of c.in-Boolean.truth)
    ∙ ap (λ v. c.args.out.now.items ++ value_packing (datum_of v)) (sym c.in-Boolean.is)

pub returns-in_ok-extend_from_slice-in-Bigint : goal.returns-in_ok-extend_from_slice-in-Bigint
returns-in_ok-extend_from_slice-in-Bigint c =
    let number = c.in-Bigint.number in
    let fits : FitsSigned w64 c.in-Bigint.number = search rules in
    let far : c.abs_diff.result ≡ above_least c.in-Bigint.number = c.abs_diff.ensures
    ∙ ap (λ z. nat_abs (z -ℤ negsuc (2 ^ 63 - 1))) (to_z-of_z w64 number fits) ∙ above_is number fits in
    let bytes : c.to_be_bytes.result ≡ to_be_bytes w64 (above_least c.in-Bigint.number) = c.to_be_bytes.ensures
    ∙ ap (to_be_bytes w64) far in
    marked_and c.args.out.now.items c.push-in-Bigint.new.self.items c.extend_from_slice.new.self.items c.to_be_bytes.result
    (to_be_bytes w64 (above_least number)) c.in_ok-push-in-Bigint.ensures.items c.in_ok-extend_from_slice-in-Bigint.ensures.items bytes
    ∙ ap (λ v. c.args.out.now.items ++ value_packing (datum_of v)) (sym c.in-Bigint.is)
