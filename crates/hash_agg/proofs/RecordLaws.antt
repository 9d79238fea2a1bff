-- Records on tapes, and rows that are passed over.
use Rattle.std.specs.Prelude.{◌≡◌, refl, ℕ, ◌≤◌, false, List, [], ◌∷◌, ◌++◌, length}
use Rattle.std.proofs.Common.{sym, ap, subst, arith}
use Rattle.hash_agg.proofs.Words.{Row, HasKinds, is_met, Query, Group, column_of, packing, IsWellFormed, meaning, Plan, StandsFor, Piece}
use Rattle.hash_agg.proofs.Words.{Of_row, Of_group, group_record, IsRowRecord, IsGroupRecord, ArePieces, made_of, CountUpTo, Stands, Spills}
use Rattle.hash_agg.proofs.Words.{setting_of, PassState, CanRead, Reads, AreRows, AreOfRun}
use Rattle.group_runs.specs.Lemmas.RunLaws.{packed_once}
use Rattle.hash_agg.proofs.PassLaws.{reads_over}
use Rattle.hash_agg.proofs.SpillLaws.{spills_over}
use Rattle.hash_agg.proofs.StepLaws.{one_row, passed_over, can_count, of_group_record}

-- ---- a row

pub the_row : (q : Query) (packed : List ℕ) (more : List Piece) → AreRows q (packed ∷ []) more → (row : Row) × HasKinds q.kinds row
    × (packed ≡ packing row)
the_row q packed more ([], are, made) = let long = ap length are.packings_are in absurd (omega (arith, long))
the_row q packed more (row ∷ rows, are, made) =
    let both = are.packings_are in
    let is : packed ≡ packing row = cc in
    (row, are.of_kinds.0, is)

pub can_row : (plan : Plan) (hf : List ℕ → ℕ) (packed : List ℕ) (old : PassState)
    → CanRead plan hf (AreRows (meaning plan.query.now) (packed ∷ [])) old → (row : Row) × HasKinds (meaning plan.query.now).kinds row
    × (packed ≡ packing row)
can_row plan hf packed old (pieces, more, ahead, pending, holds, are, count) = the_row (meaning plan.query.now) packed more are

pub row_over : (plan : Plan) (hf : List ℕ → ℕ) (packed : List ℕ) (row : Row) (old : PassState) → HasKinds (meaning plan.query.now).kinds row
    → packed ≡ packing row → is_met (column_of row) (meaning plan.query.now).condition ≡ false
    → Reads plan hf (AreRows (meaning plan.query.now) (packed ∷ [])) old old
row_over plan hf packed row old has is unmet pieces more ahead pending (spilled, lists, stands, spills) are count = (
  spilled,
  lists,
  subst (λ more. Stands (meaning plan.query.now) hf (pieces ++ more) old.entries spilled)
      (sym (one_row (meaning plan.query.now) packed row more has is are))
      (reads_over (meaning plan.query.now) hf old.entries spilled pieces (Of_row row)
      (passed_over (meaning plan.query.now) (made_of (meaning plan.query.now) pieces) row unmet) stands),
  subst (λ more. Spills (meaning plan.query.now) (setting_of plan hf) (pieces ++ more) old.entries old.spill.partitions spilled)
      (sym (one_row (meaning plan.query.now) packed row more has is are))
      (spills_over (meaning plan.query.now) (setting_of plan hf) pieces row old.entries old.spill.partitions spilled unmet spills),
)

-- ---- a record of a row

pub row_record : (q : Query) (hf : List ℕ → ℕ) (hash : ℕ) (packed : List ℕ) (more : List Piece)
    → ArePieces q hf (record { hash = hash; tag = 0; bytes = packed } ∷ []) more → (row : Row) × (more ≡ Of_row row ∷ [])
    × IsRowRecord q hf (record { hash = hash; tag = 0; bytes = packed }) row
row_record q hf hash packed [] are = absurd are
row_record q hf hash packed (Of_row row ∷ []) are = (row, refl, are.0)
row_record q hf hash packed (Of_group group most ∷ []) are = absurd (let tag = are.0.tag in omega (arith, tag))
row_record q hf hash packed (p ∷ (other ∷ more)) are = absurd are.1

pub record_is_row : (q : Query) (hf : List ℕ → ℕ) (hash : ℕ) (packed : List ℕ) (more : List Piece)
    → ArePieces q hf (record { hash = hash; tag = 0; bytes = packed } ∷ []) more → AreRows q (packed ∷ []) more
record_is_row q hf hash packed more are =
    let one = row_record q hf hash packed more are in
    (one.0 ∷ [], record { of_kinds = (one.2.of_kinds, tt); packings_are = ap (λ bytes. bytes ∷ []) one.2.bytes }, one.1)

pub can_row_record : (plan : Plan) (hf : List ℕ → ℕ) (hash : ℕ) (packed : List ℕ) (old : PassState)
    → CanRead plan hf (ArePieces (meaning plan.query.now) hf (record { hash = hash; tag = 0; bytes = packed } ∷ [])) old → (row : Row)
    × IsRowRecord (meaning plan.query.now) hf (record { hash = hash; tag = 0; bytes = packed }) row
can_row_record plan hf hash packed old (pieces, more, ahead, pending, holds, are, count) =
    let one = row_record (meaning plan.query.now) hf hash packed more are in
    (one.0, one.2)

-- it is just this row: WHERE is true of it, and its hash is that of its key
pub row_right : (plan : Plan) (hf : List ℕ → ℕ) (hash : ℕ) (packed : List ℕ) (row : Row) (old : PassState)
    → HasKinds (meaning plan.query.now).kinds row → packed ≡ packing row
    → CanRead plan hf (ArePieces (meaning plan.query.now) hf (record { hash = hash; tag = 0; bytes = packed } ∷ [])) old
    → IsRowRecord (meaning plan.query.now) hf (record { hash = hash; tag = 0; bytes = packed }) row
row_right plan hf hash packed row old has is can =
    let one = can_row_record plan hf hash packed old can in
    subst (IsRowRecord (meaning plan.query.now) hf (record { hash = hash; tag = 0; bytes = packed }))
    (packed_once (meaning plan.query.now).kinds packed one.0 row one.1.of_kinds has one.1.bytes is) one.1

-- ---- a record of a group

pub group_of_record : (q : Query) (hf : List ℕ → ℕ) (hash : ℕ) (bytes : List ℕ) (more : List Piece)
    → ArePieces q hf (record { hash = hash; tag = 1; bytes = bytes } ∷ []) more
    → (group : Group) × (most : ℕ) × (more ≡ Of_group group most ∷ []) × IsGroupRecord q hf (record { hash = hash; tag = 1; bytes = bytes })
    group most
group_of_record q hf hash bytes [] are = absurd are
group_of_record q hf hash bytes (Of_row row ∷ []) are = absurd (let tag = are.0.tag in omega (arith, tag))
group_of_record q hf hash bytes (Of_group group most ∷ []) are = (group, most, refl, are.0)
group_of_record q hf hash bytes (p ∷ (other ∷ more)) are = absurd are.1

pub can_group_record : (plan : Plan) (hf : List ℕ → ℕ) (hash : ℕ) (bytes : List ℕ) (old : PassState)
    → CanRead plan hf (ArePieces (meaning plan.query.now) hf (record { hash = hash; tag = 1; bytes = bytes } ∷ [])) old
    → (group : Group) × (most : ℕ) × IsGroupRecord (meaning plan.query.now) hf (record { hash = hash; tag = 1; bytes = bytes }) group most
    × (most ≤ plan.most)
can_group_record plan hf hash bytes old (pieces, more, ahead, pending, holds, are, count) =
    let one = group_of_record (meaning plan.query.now) hf hash bytes more are in
    let few = can_count (meaning plan.query.now) plan.most pieces (Of_group one.0 one.1)
    (subst (λ more. CountUpTo (meaning plan.query.now) plan.most (pieces ++ more)) one.2 count) in
    (one.0, one.1, one.3, omega (arith, few))

-- such a record can be read, so it has just this key and these states
pub split_right : (plan : Plan) (hf : List ℕ → ℕ) (hash : ℕ) (bytes key states : List ℕ) (old : PassState)
    → IsWellFormed (meaning plan.query.now) → length key ≤ 65535 → bytes ≡ group_record key states
    → CanRead plan hf (ArePieces (meaning plan.query.now) hf (record { hash = hash; tag = 1; bytes = bytes } ∷ [])) old
    → (group : Group) × (most : ℕ) × StandsFor (meaning plan.query.now) most (key, states) group × (hash ≡ hf key) × (most ≤ plan.most)
split_right plan hf hash bytes key states old formed short split can =
    let one = can_group_record plan hf hash bytes old can in
    let is = of_group_record (meaning plan.query.now) hf one.1 (record { hash = hash; tag = 1; bytes = bytes }) key states one.0 formed
    short split one.2 in
    (one.0, one.1, is.0, is.1, one.3)

-- a key and states that are the bytes of a record are what is read by it
pub record_is_group : (q : Query) (hf : List ℕ → ℕ) (hash : ℕ) (bytes key states : List ℕ) → IsWellFormed q → length key ≤ 65535 → bytes
    ≡ group_record key states
    → (more : List Piece) → ArePieces q hf (record { hash = hash; tag = 1; bytes = bytes } ∷ []) more → (m : ℕ)
    × AreOfRun q m ((key, states) ∷ []) more
record_is_group q hf hash bytes key states formed short split more are =
    let one = group_of_record q hf hash bytes more are in
    let is = of_group_record q hf one.1 (record { hash = hash; tag = 1; bytes = bytes }) key states one.0 formed short split one.3 in
    (one.1, (one.0 ∷ [], (is.0, tt), one.2))
