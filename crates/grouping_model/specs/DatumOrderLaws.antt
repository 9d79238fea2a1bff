-- Laws: the order of values and of tuples is total, and only equal ones tie; these definitions serve the laws alone.
use Rattle.std.specs.Prelude.{◌≡◌, ◌≢◌, refl, ℕ, Bool, true, false, T, List, [], ℤ, pos, IsTrue}
use Rattle.std.proofs.Common.{sym, ◌∙◌, ap, subst}
use Rattle.std.specs.declared.cmp.Ordering.{Ordering}
use Rattle.std.specs.declared.cmp.Ordering.TheVariants.{Less, Equal, Greater}
use Rattle.std.specs.Ordering.{nat_cmp, int_cmp, bool_cmp, then_cmp, on, ordering_then, is_eq}
use Rattle.std.specs.Cmp.{IsTotalOrder, then_total, on_total, nat_cmp_total, int_cmp_total, bool_cmp_total, tied_itself, Equal-is}
use Rattle.std.specs.Cmp.Lexicographic.{slice_cmp, nat_list_cmp_total, lists_total}
use Rattle.std.specs.FinMap.{IsAntisymmetric, nat_cmp-IsAntisymmetric, int_cmp-IsAntisymmetric, slice_cmp-IsAntisymmetric}
use Rattle.grouping_model.specs.Datum.{Datum, Null, Bigint, Boolean, Text, kind_rank, datum_cmp, Row, row_cmp, same_row}

-- what a value has of each kind
number_in : Datum → ℤ
number_in (Bigint z) = z
number_in value = pos 0

boolean_in : Datum → Bool
boolean_in (Boolean b) = b
boolean_in value = false

bytes_in : Datum → List ℕ
bytes_in (Text bytes) = bytes
bytes_in value = []

-- the order by the kind first, and then by each part
abbrev by_parts : Datum → Datum → Ordering
by_parts = then_cmp (on kind_rank nat_cmp)
    (then_cmp (on number_in int_cmp) (then_cmp (on boolean_in bool_cmp) (on bytes_in (slice_cmp nat_cmp))))

by_parts_total : IsTotalOrder by_parts
by_parts_total =
    then_total (on_total kind_rank nat_cmp_total)
    (then_total (on_total number_in int_cmp_total)
    (then_total (on_total boolean_in bool_cmp_total) (on_total bytes_in nat_list_cmp_total)))

then_equal : (r : Ordering) → ordering_then r Equal ≡ r
then_equal Less = refl
then_equal Equal = refl
then_equal Greater = refl

is_by_parts : (x y : Datum) → by_parts x y ≡ datum_cmp x y
unfolding number_in boolean_in bytes_in
is_by_parts (Bigint x) (Bigint y) = then_equal (int_cmp x y)
is_by_parts (Bigint x) (Boolean y) = refl
is_by_parts (Bigint x) (Text y) = refl
is_by_parts (Bigint x) Null = refl
is_by_parts (Boolean x) (Bigint y) = refl
is_by_parts (Boolean x) (Boolean y) = then_equal (bool_cmp x y)
is_by_parts (Boolean x) (Text y) = refl
is_by_parts (Boolean x) Null = refl
is_by_parts (Text x) (Bigint y) = refl
is_by_parts (Text x) (Boolean y) = refl
is_by_parts (Text x) (Text y) = refl
is_by_parts (Text x) Null = refl
is_by_parts Null (Bigint y) = refl
is_by_parts Null (Boolean y) = refl
is_by_parts Null (Text y) = refl
is_by_parts Null Null = refl

pub datum_cmp_total : IsTotalOrder datum_cmp
datum_cmp_total = subst IsTotalOrder (λ i x y. is_by_parts x y i) by_parts_total

pub row_cmp_total : IsTotalOrder row_cmp
row_cmp_total = lists_total datum_cmp_total

untied : {A : Type 0} (r : Ordering) → is_eq r ≡ false → r ≡ Equal → A
untied r apart e = absurd (subst T (sym (ap is_eq e) ∙ apart) tt)

booleans_tie : (x y : Bool) → bool_cmp x y ≡ Equal → x ≡ y
booleans_tie true true e = refl
booleans_tie true false e = untied Greater refl e
booleans_tie false true e = untied Less refl e
booleans_tie false false e = refl

pub datum_cmp_ties : IsAntisymmetric datum_cmp
datum_cmp_ties (Bigint x) (Bigint y) e = ap Bigint (int_cmp-IsAntisymmetric x y e)
datum_cmp_ties (Bigint x) (Boolean y) e = untied Less refl e
datum_cmp_ties (Bigint x) (Text y) e = untied Less refl e
datum_cmp_ties (Bigint x) Null e = untied Less refl e
datum_cmp_ties (Boolean x) (Bigint y) e = untied Greater refl e
datum_cmp_ties (Boolean x) (Boolean y) e = ap Boolean (booleans_tie x y e)
datum_cmp_ties (Boolean x) (Text y) e = untied Less refl e
datum_cmp_ties (Boolean x) Null e = untied Less refl e
datum_cmp_ties (Text x) (Bigint y) e = untied Greater refl e
datum_cmp_ties (Text x) (Boolean y) e = untied Greater refl e
datum_cmp_ties (Text x) (Text y) e = ap Text (slice_cmp-IsAntisymmetric nat_cmp-IsAntisymmetric x y e)
datum_cmp_ties (Text x) Null e = untied Less refl e
datum_cmp_ties Null (Bigint y) e = untied Greater refl e
datum_cmp_ties Null (Boolean y) e = untied Greater refl e
datum_cmp_ties Null (Text y) e = untied Greater refl e
datum_cmp_ties Null Null e = refl

pub row_cmp_ties : IsAntisymmetric row_cmp
row_cmp_ties = slice_cmp-IsAntisymmetric datum_cmp_ties

-- two tuples are the same exactly if they are equal
pub same_row-is : (x y : Row) → (IsTrue (same_row x y) → x ≡ y) × (x ≡ y → IsTrue (same_row x y))
same_row-is x y = (
  λ same. row_cmp_ties x y ((Equal-is (row_cmp x y)).0 same),
  λ e. ap (λ z. is_eq (row_cmp x z)) (sym e)
      ∙ ap is_eq (tied_itself row_cmp_total x),
)

pub null_last : (value : Datum) → value ≢ Null → datum_cmp value Null ≡ Less
null_last (Bigint z) apart = refl
null_last (Boolean b) apart = refl
null_last (Text bytes) apart = refl
null_last Null apart = absurd (apart refl)
