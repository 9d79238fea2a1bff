-- A list that a pass reads, record by record.
use Rattle.std.specs.Prelude.{◌≡◌, refl, ℕ, ◌+◌, ◌<◌, ◌⊎◌, List, [], ◌∷◌, ◌++◌, Some, None}
use Rattle.std.proofs.Common.{sym, ◌∙◌, ap, subst, arith, append-nil, append_assoc, inl, inr}
use Rattle.hash_agg.proofs.Words.{Query, Record, PendingPartition, PartitionsState, HasPartitions, count_of, spilled_number, ahead_number}
use Rattle.hash_agg.proofs.Words.{meaning, Plan, Entry, Piece, ArePieces, CountUpTo, Stands, Spills, setting_of, PassState, Holds, CanRead}
use Rattle.hash_agg.proofs.Words.{Reads, Proceeds}
use Rattle.spill_tapes.specs.Tape.{Gives}
use Rattle.hash_agg.proofs.PassLaws.{rows_append}
use Rattle.hash_agg.proofs.SpillLaws.{nothing_spills}
use Rattle.hash_agg.proofs.UnionLaws.{nothing_stands}

-- of these pieces some were read, and the records of the others are still to be read
pub record IsReading (plan : Plan) (hf : List ℕ → ℕ) (now : PassState) (pieces : List Piece) (pending : List PendingPartition) :
    Type 0 where
  pub done : List Piece
  pub rest : List Piece
  pub ahead : List Record
  pub is : pieces ≡ done ++ rest
  pub are : ArePieces (meaning plan.query.now) hf ahead rest
  pub holds : Holds (meaning plan.query.now) (setting_of plan hf) now done ahead pending

pub reading_begins : (plan : Plan) (hf : List ℕ → ℕ) (now : PassState) (records : List Record) (pieces : List Piece)
    (pending : List PendingPartition) → now.entries ≡ [] → now.spill.partitions ≡ [] → HasPartitions now.last now.spill [] records pending
    → ArePieces (meaning plan.query.now) hf records pieces → IsReading plan hf now pieces pending
reading_begins plan hf now records pieces pending empty clear has are =
    record {
      done = [];
      rest = pieces;
      ahead = records;
      is = refl;
      are = are;
      holds = (
        [],
        has,
        nothing_stands (meaning plan.query.now) hf
            now.entries [] empty refl,
        nothing_spills (meaning plan.query.now) (setting_of plan hf) now.entries now.spill.partitions [] empty
            clear refl,
      );
    }

count_next : (q : Query) (m : ℕ) (done ps : List Piece) (p : Piece) → CountUpTo q m (done ++ p ∷ ps) → CountUpTo q m (done ++ p ∷ [])
count_next q m done ps p count k =
    let all = count k in
    let whole = rows_append q k done (p ∷ ps) in
    let split = rows_append q k (p ∷ []) ps in
    let front = rows_append q k done (p ∷ []) in
    omega (arith, all, whole, split, front)

module _ (plan : Plan) (hf : List ℕ → ℕ) (pieces : List Piece) (pending : List PendingPartition) (entries : List Entry)
    (before after : PartitionsState) (last now : ℕ → ℕ → Type 0) (hash tag : ℕ) (bytes : List ℕ)
    (count : CountUpTo (meaning plan.query.now) plan.most pieces) (same : after.partitions ≡ before.partitions)
    (gives : (spilled ahead : List Record) (pending : List PendingPartition) → HasPartitions last before spilled ahead pending
    → Gives (λ rest. HasPartitions now after spilled rest pending) ahead bytes (Some (hash, tag))) where
  -- the record that was given is the next one
  next_given : IsReading plan hf (record { entries = entries; spill = before; last = last }) pieces pending
      → (done rest : List Piece) × (p : Piece) × (ahead spilled : List Record) × (pieces ≡ done ++ p ∷ rest)
      × (ArePieces (meaning plan.query.now) hf (record { hash = hash; tag = tag; bytes = bytes } ∷ []) (p ∷ []))
      × ArePieces (meaning plan.query.now) hf ahead rest
      × HasPartitions now after spilled ahead pending × Stands (meaning plan.query.now) hf done entries spilled
      × Spills (meaning plan.query.now) (setting_of plan hf) done entries after.partitions spilled
  next_given r =
      let spilled = r.holds.0 in
      let g = gives spilled r.ahead pending r.holds.1 in
      found g.0 r.rest r.is (subst (λ ahead. ArePieces (meaning plan.query.now) hf ahead r.rest) g.1 r.are) g.2
    where
      found : (ahead : List Record) (rest : List Piece) → pieces ≡ r.done ++ rest
          → ArePieces (meaning plan.query.now) hf (record { hash = hash; tag = tag; bytes = bytes } ∷ ahead) rest
          → HasPartitions now after r.holds.0 ahead pending
          → (done rest : List Piece) × (p : Piece) × (ahead spilled : List Record) × (pieces ≡ done ++ p ∷ rest)
          × (ArePieces (meaning plan.query.now) hf (record { hash = hash; tag = tag; bytes = bytes } ∷ []) (p ∷ []))
          × ArePieces (meaning plan.query.now) hf ahead rest
          × HasPartitions now after spilled ahead pending × Stands (meaning plan.query.now) hf done entries spilled
          × Spills (meaning plan.query.now) (setting_of plan hf) done entries after.partitions spilled
      found ahead [] is are has = absurd are
      found ahead (p ∷ ps) is (first, others) has = (
        r.done,
        ps,
        p,
        ahead,
        r.holds.0,
        is,
        (first, tt),
        others,
        has,
        r.holds.2,
        subst (λ partitions. Spills (meaning plan.query.now) (setting_of plan hf) r.done entries partitions r.holds.0) (sym same)
            r.holds.3,
      )

  pub can_read_next : IsReading plan hf (record { entries = entries; spill = before; last = last }) pieces pending
      → CanRead plan hf (ArePieces (meaning plan.query.now) hf (record { hash = hash; tag = tag; bytes = bytes } ∷ []))
      (record { entries = entries; spill = after; last = now })
  can_read_next r =
      let n = next_given r in (
        n.0,
        n.2 ∷ [],
        n.3,
        pending,
        (n.4, n.8, n.9, n.10),
        n.6,
        count_next (meaning plan.query.now) plan.most n.0 n.1 n.2
            (subst (CountUpTo (meaning plan.query.now) plan.most) n.5 count),
      )

  pub reads_next : (new : PassState)
      → Reads plan hf (ArePieces (meaning plan.query.now) hf (record { hash = hash; tag = tag; bytes = bytes } ∷ []))
      (record { entries = entries; spill = after; last = now }) new
      → IsReading plan hf (record { entries = entries; spill = before; last = last }) pieces pending → IsReading plan hf new pieces pending
  reads_next new reads r =
      let n = next_given r in
      record {
        done = n.0 ++ n.2 ∷ [];
        rest = n.1;
        ahead = n.3;
        is = n.5 ∙ sym (append_assoc n.0 (n.2 ∷ []) n.1);
        are = n.7;
        holds = reads n.0 (n.2 ∷ []) n.3 pending (n.4, n.8, n.9, n.10) n.6 (count_next (meaning plan.query.now) plan.most n.0 n.1 n.2
            (subst (CountUpTo (meaning plan.query.now) plan.most) n.5 count));
      }

-- no record is left
pub reading_ends : (plan : Plan) (hf : List ℕ → ℕ) (pieces : List Piece) (pending : List PendingPartition) (entries : List Entry)
    (before after : PartitionsState) (last now : ℕ → ℕ → Type 0) (bytes : List ℕ)
    → after.partitions ≡ before.partitions → ((spilled ahead : List Record) (pending : List PendingPartition)
    → HasPartitions last before spilled ahead pending → Gives (λ rest. HasPartitions now after spilled rest pending) ahead bytes None)
    → IsReading plan hf (record { entries = entries; spill = before; last = last }) pieces pending
    → Holds (meaning plan.query.now) (setting_of plan hf) (record { entries = entries; spill = after; last = now }) pieces [] pending
reading_ends plan hf pieces pending entries before after last now bytes same gives r =
    let g = gives r.holds.0 r.ahead pending r.holds.1 in
    let all : pieces ≡ r.done = ended r.rest r.is (subst (λ ahead. ArePieces (meaning plan.query.now) hf ahead r.rest) g.0 r.are) in (
      r.holds.0,
      g.1,
      subst (λ pieces. Stands (meaning plan.query.now) hf pieces entries r.holds.0) (sym all) r.holds.2,
      subst (λ pieces. Spills (meaning plan.query.now) (setting_of plan hf) pieces entries after.partitions r.holds.0) (sym all)
          (subst (λ partitions. Spills (meaning plan.query.now) (setting_of plan hf) r.done entries partitions r.holds.0) (sym same)
          r.holds.3),
    )
  where
    ended : (rest : List Piece) → pieces ≡ r.done ++ rest → ArePieces (meaning plan.query.now) hf [] rest → pieces ≡ r.done
    ended [] is are = is ∙ append-nil r.done
    ended (p ∷ rest) is are = absurd are

-- ---- how many records are spilled of those that are read

-- nothing was read of so many records yet; or fewer are spilled and to be read than there were
abbrev pub IsSpent : ℕ → List Entry → PartitionsState → Type 0
IsSpent number entries lists =
    ((entries ≡ []) × (lists.partitions ≡ []) × (ahead_number lists ≡ number)) ⊎ (spilled_number lists + ahead_number lists < number)

pub spent_next : (number : ℕ) (old new : List Entry) (before between after : PartitionsState) → IsSpent number old before
    → between.partitions ≡ before.partitions → ahead_number before ≡ ahead_number between + 1 → after.reading ≡ between.reading
    → Proceeds old between new after → IsSpent number new after
spent_next number old new before between after spent partitions counted reading goes = cases spent
  where
    same : ahead_number after ≡ ahead_number between
    same = ap (λ tapes. ahead_number
        (record { tapes = after.tapes; level = after.level; partitions = after.partitions; reading = tapes; pending = after.pending }))
        reading

    spilled : spilled_number between ≡ spilled_number before
    spilled = ap (λ tapes. spilled_number
        (record { tapes = before.tapes; level = before.level; partitions = tapes; reading = before.reading; pending = before.pending }))
        partitions

    none : after.partitions ≡ [] → spilled_number after ≡ 0
    none is = ap (λ tapes. spilled_number
        (record { tapes = after.tapes; level = after.level; partitions = tapes; reading = after.reading; pending = after.pending })) is

    cases : IsSpent number old before → IsSpent number new after
    cases (inl (empty, clear, all)) = let zero = none (goes.first empty (partitions ∙ clear)) in let e = same in inr
        (omega (arith, zero, e, counted, all))
    cases (inr low) = let slow = goes.slow in let e = same in let s = spilled in inr (omega (arith, low, slow, e, s, counted))

-- no record is left to be read
pub spent_ends : (number : ℕ) (entries : List Entry) (before after : PartitionsState) → IsSpent number entries before → after.partitions
    ≡ before.partitions → ahead_number before ≡ 0 → 0 < number → spilled_number after < number
spent_ends number entries before after (inl (empty, clear, all)) partitions none some = absurd (omega (arith, all, none, some))
spent_ends number entries before after (inr low) partitions none some = let same : spilled_number after
    ≡ spilled_number before = ap count_of partitions in omega (arith, low, same)
