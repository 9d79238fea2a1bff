use Rattle.std.specs.Prelude.{◌≡◌, ℕ, ◌-◌, ◌^◌, ◌<◌, ℤ, pos, negsuc, ◌+ℤ◌, FitsSigned, ◌++◌}
use Rattle.std.proofs.Common.{sym, ap, subst, ◌∙◌, arith}
use Rattle.std.proofs.lemmas.Int.{ints, to_z-of_z}
use Rattle.std.proofs.lemmas.List.{take-append-drop}
use Rattle.std.proofs.lemmas.Grind.{common_steps}
use Rattle.std.proofs.lemmas.Nat.{be_bytes_8}
use Rattle.std.specs.Int.{Width, w64, w128, cast_signed, cast_unsigned, to_be_bytes}
use Rattle.packed_rows.specs.Packing.{above_least}
use Rattle.packed_rows.proofs.unpacking.unpack_bigint.Goals as goal

abbrev least : ℤ
least = negsuc (2 ^ 63 - 1)

abbrev cast : Width → ℤ → ℤ
cast w z = cast_signed w (cast_unsigned w z)

-- the number so far above the least one
fits_64 : (d : ℕ) → d < 2 ^ 64 → FitsSigned w64 (pos d +ℤ least)
fits_64 d h = record { sfits = grind (arith, ints) }

fits_128 : (d : ℕ) → d < 2 ^ 64 → FitsSigned w128 (pos d +ℤ least)
fits_128 d h = record { sfits = grind (arith, ints) }

above_is : (d : ℕ) → d < 2 ^ 64 → above_least (pos d +ℤ least) ≡ d
above_is d h = grind (arith, ints)

-- the same as the code adds it up
sum_is : (a b : ℤ) (d : ℕ) → a ≡ pos d → b ≡ least → d < 2 ^ 64 → cast w128 a +ℤ cast w128 b ≡ pos d +ℤ least
sum_is a b d ea eb h =
    λ j. ((ap (cast w128) ea ∙ to_z-of_z w128 (pos d) (record { sfits = omega (arith, ints) })) j) +ℤ
    ((ap (cast w128) eb ∙ to_z-of_z w128 least (record { sfits = omega (arith, ints) })) j)

wide_is : (a b : ℤ) (d : ℕ) → a ≡ pos d → b ≡ least → d < 2 ^ 64 → cast w128 (cast w128 a +ℤ cast w128 b) ≡ pos d +ℤ least
wide_is a b d ea eb h = ap (cast w128) (sum_is a b d ea eb h) ∙ to_z-of_z w128 (pos d +ℤ least) (fits_128 d h)

pub overflow_add-number : goal.overflow_add-number
overflow_add-number c =
    let d = c.from_be_bytes-distance.result in let h = c.from_be_bytes-distance.type_inv in
    subst (FitsSigned w128) (sym (sum_is c.from.result c.from-2.result d c.from.ensures c.from-2.ensures h)) (fits_128 d h)

pub overflow_cast-number : goal.overflow_cast-number
overflow_cast-number c =
    let d = c.from_be_bytes-distance.result in let h = c.from_be_bytes-distance.type_inv in
    subst (FitsSigned w64) (sym (wide_is c.from.result c.from-2.result d c.from.ensures c.from-2.ensures h)) (fits_64 d h)

pub returns-clause-found : goal.returns-clause-found
returns-clause-found c =
    let d = c.from_be_bytes-distance.result in let h = c.from_be_bytes-distance.type_inv in
    let far : above_least (cast w64 (cast w128 (cast w128 c.from.result +ℤ cast w128 c.from-2.result))) ≡ d =
    ap above_least (ap (cast w64) (wide_is c.from.result c.from-2.result d c.from.ensures c.from-2.ensures h)
    ∙ to_z-of_z w64 (pos d +ℤ least) (fits_64 d h)) ∙ above_is d h in
    let digits : to_be_bytes w64 d ≡ c.split_at.result.0.now = be_bytes_8 c.split_at.result.0.now d c.split_at.ensures.front_len
    (λ i. let fits = c.type_inv.bytes i in grind (arith, common_steps)) c.from_be_bytes-distance.ensures in
    sym (take-append-drop 8 c.args.bytes.now) ∙ (λ j. (sym c.split_at.ensures.front ∙ sym digits ∙ ap (to_be_bytes w64) (sym far)) j
    ++ sym c.split_at.ensures.back j)
