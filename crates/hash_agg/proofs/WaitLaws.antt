-- Lists of records that are left to later passes.
use Rattle.std.specs.Prelude.{◌≡◌, ◌≢◌, refl, ℕ, zero, suc, ◌+◌, ◌<◌, ◌≤◌, ◌⊎◌, ◌==◌, ◌-◌, ◌/◌, ◌%◌, ◌^◌, nat_lt, Bool, true, false, not}
use Rattle.std.specs.Prelude.{cond, List, [], ◌∷◌, ◌++◌, map, filter, slice_get, Option, Some, None}
use Rattle.std.specs.List.{AllByRecursion, range_with_len}
use Rattle.std.specs.Option.{option_or}
use Rattle.std.proofs.Common.{sym, ◌∙◌, ap, subst, inl, inr, arith}
use Rattle.std.proofs.lemmas.List.{map-append}
use Rattle.std.proofs.lemmas.List.Filters.{sum_by-filter_both}
use Rattle.hash_agg.proofs.Words.{each_append, each_front, each_behind, each_weaker, Row, same_row, Partial, is_met, Query, Group}
use Rattle.hash_agg.proofs.Words.{column_of, partials_at, with_row, packing, is_empty, Record}
use Rattle.hash_agg.proofs.Words.{PendingPartition, partition_of, on_partition, deeper}
use Rattle.hash_agg.proofs.Words.{is_none, partitions_of, left_by, Entry, Piece, Of_row, Of_group}
use Rattle.hash_agg.proofs.Words.{IsPiece, ArePieces, piece_key, piece_added}
use Rattle.hash_agg.proofs.Words.{pieces_added, made_of, weight, rows_at, CountUpTo, AreOnce, Stands, AreListed, AreNone, IsOneOf, each_at}
use Rattle.hash_agg.proofs.Words.{Waits, key_kinds}
use Rattle.grouping_model.specs.DatumOrderLaws.{same_row-is}
use Rattle.aggregation_cost.specs.ListLaws.{each_of_filter}
use Rattle.spill_partitions.specs.Lemmas.CountLaws.{is_not, is_it, is_past}
use Rattle.hash_agg.proofs.PassLaws.{after, added_with, IsKept, or_none, at_append, set_with, found_in, by_append, by_raised, by_at}
use Rattle.hash_agg.proofs.PassLaws.{once_apart}
use Rattle.hash_agg.proofs.OneByOneLaws.{one_append, none_to_none, one_filtered, LastOf, last_of, as_none}
use Rattle.hash_agg.proofs.SpillLaws.{piece_hash}
use Rattle.hash_agg.proofs.UnionLaws.{once_append}
use Rattle.group_runs.specs.Lemmas.RunLaws.{packed_once}

-- ---- one of some

-- what is found at a key, or nothing
abbrev Found : Type 0
Found = Option (List Partial)

none_parts : (xs ys : List Found) → AreNone (xs ++ ys) → AreNone xs × AreNone ys
none_parts xs ys gone = (each_front (λ (o : Found). o ≡ None) xs ys gone, each_behind (λ (o : Found). o ≡ None) xs ys gone)

none_append : (xs ys : List Found) → AreNone xs → AreNone ys → AreNone (xs ++ ys)
none_append xs ys gone more = each_append (λ (o : Found). o ≡ None) xs ys gone more

one_none : (all : Found) (xs : List Found) → all ≡ None → IsOneOf all xs → AreNone xs
one_none all [] none one = tt
one_none all (x ∷ xs) none (inl (is, others)) = (is ∙ none, others)
one_none all (x ∷ xs) none (inr (gone, one)) = (gone, one_none all xs none one)

none_one : (all : Found) (xs : List Found) → all ≡ None → AreNone xs → IsOneOf all xs
none_one all [] none gone = none
none_one all (x ∷ xs) none (first, gone) = inr (first, none_one all xs none gone)

-- in place of the last of them, what it is one of
one_last : (all o : Found) (xs ys : List Found) → IsOneOf all (xs ++ o ∷ []) → IsOneOf o ys → IsOneOf all (xs ++ ys)
one_last all o [] ys (inl (is, others)) one = subst (λ o. IsOneOf o ys) is one
one_last all o [] ys (inr (none, gone)) one = subst (λ o. IsOneOf o ys) (none ∙ sym gone) one
one_last all o (x ∷ xs) ys (inl (is, others)) one = let both = none_parts xs (o ∷ []) others in inl
    (is, none_append xs ys both.0 (one_none o ys both.1.0 one))
one_last all o (x ∷ xs) ys (inr (none, rest)) one = inr (none, one_last all o xs ys rest one)

-- one of them moves to the front
one_first : (all b : Found) (xs zs : List Found) → IsOneOf all (xs ++ b ∷ zs) → IsOneOf all (b ∷ (xs ++ zs))
one_first all b [] zs one = one
one_first all b (x ∷ xs) zs (inl (is, others)) = let both = none_parts xs (b ∷ zs) others in inr
    (both.1.0, inl (is, none_append xs zs both.0 both.1.1))
one_first all b (x ∷ xs) zs (inr (none, one)) = behind (one_first all b xs zs one)
  where
    behind : IsOneOf all (b ∷ (xs ++ zs)) → IsOneOf all (b ∷ x ∷ (xs ++ zs))
    behind (inl (is, others)) = inl (is, (none, others))
    behind (inr (gone, rest)) = inr (gone, inr (none, rest))

-- two of them become one
one_merged : (all a b : Found) (xs zs : List Found) → IsOneOf all (a ∷ (xs ++ b ∷ zs)) → IsOneOf all (option_or a b ∷ (xs ++ zs))
one_merged all a b xs zs (inl (is, others)) = let both = none_parts xs (b ∷ zs) others in inl (
  ap (option_or a) both.1.0 ∙ or_none a
      ∙ is,
  none_append xs zs both.0 both.1.1,
)
one_merged all a b xs zs (inr (none, one)) = subst (λ o. IsOneOf all (o ∷ (xs ++ zs))) (sym (ap (λ o. option_or o b) none))
    (one_first all b xs zs one)

-- ---- pieces of some keys

-- WHERE keeps a piece, or it changes no groups
kept_or_over : (q : Query) (p : Piece) → IsKept q p ⊎ ((gs : List Group) → piece_added q gs p ≡ gs)
kept_or_over q (Of_row row) =
    elim (is_met (column_of row) q.condition) as (λ b. is_met (column_of row) q.condition ≡ b → (is_met (column_of row) q.condition ≡ true)
    ⊎ ((gs : List Group) → piece_added q gs (Of_row row) ≡ gs)) [
      | true ↦ λ e. inl e
      | false ↦ λ e. inr (λ gs. ap (λ b. cond b (with_row q gs row) gs) e)
    ] refl
kept_or_over q (Of_group group most) = inl tt

-- a piece changes nothing at another key
added_other : (q : Query) (p : Piece) (gs : List Group) (k : Row) → same_row (piece_key q p) k ≡ false → partials_at k (piece_added q gs p)
    ≡ partials_at k gs
added_other q p gs k other = chosen (kept_or_over q p)
  where
    chosen : IsKept q p ⊎ ((gs : List Group) → piece_added q gs p ≡ gs) → partials_at k (piece_added q gs p) ≡ partials_at k gs
    chosen (inl kept) = added_with q p gs kept k ∙ ap (λ b. cond b (Some (after q (partials_at (piece_key q p) gs) p)) (partials_at k gs))
        other
    chosen (inr over) = ap (partials_at k) (over gs)

-- what is the same at a key stays the same there
added_same : (q : Query) (p : Piece) (gs hs : List Group) (k : Row) → partials_at k gs ≡ partials_at k hs
    → partials_at k (piece_added q gs p) ≡ partials_at k (piece_added q hs p)
added_same q p gs hs k same = chosen (kept_or_over q p)
  where
    chosen : IsKept q p ⊎ ((gs : List Group) → piece_added q gs p ≡ gs) → partials_at k (piece_added q gs p)
        ≡ partials_at k (piece_added q hs p)
    chosen (inl kept) =
        added_with q p gs kept k
        ∙ (elim (same_row (piece_key q p) k) as (λ b. same_row (piece_key q p) k ≡ b
        → cond b (Some (after q (partials_at (piece_key q p) gs) p)) (partials_at k gs)
        ≡ cond b (Some (after q (partials_at (piece_key q p) hs) p)) (partials_at k hs)) [
          | true ↦ λ e. ap (λ o. Some (after q o p))
              (subst (λ k. partials_at k gs ≡ partials_at k hs) (sym ((same_row-is (piece_key q p) k).0 e)) same)
          | false ↦ λ e. same
        ] refl)
        ∙ sym (added_with q p hs kept k)
    chosen (inr over) = ap (partials_at k) (over gs) ∙ same ∙ sym (ap (partials_at k) (over hs))

-- those whose key passes a test
abbrev of_keys : Query → (Row → Bool) → List Piece → List Piece
of_keys q t ps = filter (λ (p : Piece). t (piece_key q p)) ps

keys_differ : (t : Row → Bool) (x k : Row) (b : Bool) → t x ≡ not b → t k ≡ b → same_row x k ≡ false
keys_differ t x k b at here =
    elim (same_row x k) as (λ s. same_row x k ≡ s → s ≡ false) [
      | true ↦ λ s. neither b (sym here ∙ sym (ap t ((same_row-is x k).0 s)) ∙ at)
      | false ↦ λ s. refl
    ] refl
  where
    neither : (b : Bool) → b ≡ not b → true ≡ false
    neither true e = e
    neither false e = sym e

-- those of a key make up what all make up there
found_on : (q : Query) (t : Row → Bool) (k : Row) → t k ≡ true → (ps : List Piece) (gs hs : List Group) → partials_at k gs
    ≡ partials_at k hs → partials_at k (pieces_added q gs (of_keys q t ps)) ≡ partials_at k (pieces_added q hs ps)
found_on q t k on [] gs hs same = same
found_on q t k on (p ∷ ps) gs hs same =
    elim (t (piece_key q p)) as (λ b. t (piece_key q p) ≡ b
    → partials_at k (pieces_added q gs (cond b (p ∷ of_keys q t ps) (of_keys q t ps)))
    ≡ partials_at k (pieces_added q (piece_added q hs p) ps)) [
      | true ↦ λ e. found_on q t k on ps (piece_added q gs p) (piece_added q hs p) (added_same q p gs hs k same)
      | false ↦ λ e. found_on q t k on ps gs (piece_added q hs p) (same
          ∙ sym (added_other q p hs k (keys_differ t (piece_key q p) k true e on)))
    ] refl

-- and nothing at another
found_off : (q : Query) (t : Row → Bool) (k : Row) → t k ≡ false → (ps : List Piece) (gs : List Group) → partials_at k gs ≡ None
    → partials_at k (pieces_added q gs (of_keys q t ps)) ≡ None
found_off q t k off [] gs none = none
found_off q t k off (p ∷ ps) gs none =
    elim (t (piece_key q p)) as (λ b. t (piece_key q p) ≡ b
    → partials_at k (pieces_added q gs (cond b (p ∷ of_keys q t ps) (of_keys q t ps))) ≡ None) [
      | true ↦ λ e. found_off q t k off ps (piece_added q gs p) (added_other q p gs k (keys_differ t (piece_key q p) k false e off) ∙ none)
      | false ↦ λ e. found_off q t k off ps gs none
    ] refl

fewer_of : (q : Query) (t : Row → Bool) (ps : List Piece) (k : Row) → rows_at q k (of_keys q t ps) ≤ rows_at q k ps
fewer_of q t ps k =
    let both = sum_by-filter_both (λ (p : Piece). t (piece_key q p)) (λ (p : Piece). not (t (piece_key q p))) (λ p. refl)
    (λ p. cond (same_row (piece_key q p) k) (weight p) 0) ps in
    omega (arith, both)

-- ---- the lists of a pass

-- a key falls on a list
abbrev falls_on : (List ℕ → ℕ) → ℕ → ℕ → Row → Bool
falls_on hf level i k = partition_of level (hf (packing k)) == i

are_on : (q : Query) (hf : List ℕ → ℕ) (level i : ℕ) (rs : List Record) (ps : List Piece) → ArePieces q hf rs ps
    → ArePieces q hf (on_partition level rs i) (of_keys q (falls_on hf level i) ps)
are_on q hf level i = one_filtered (IsPiece q hf) (λ one. partition_of level one.hash == i) (λ p. falls_on hf level i (piece_key q p))
    (λ one p is. ap (λ h. partition_of level h == i) (piece_hash q hf one p is))

-- the pieces of n lists from a on
abbrev some_rests : Query → (List ℕ → ℕ) → ℕ → List Piece → ℕ → ℕ → List (List Piece)
some_rests q hf level ps a n = map (λ i. of_keys q (falls_on hf level i) ps) (range_with_len a n)

some_listed : (q : Query) (hf : List ℕ → ℕ) (level : ℕ) (rs : List Record) (ps : List Piece) → ArePieces q hf rs ps → (a n : ℕ)
    → AreListed q hf (map (λ i. record { level = deeper level; records = on_partition level rs i }) (range_with_len a n))
    (some_rests q hf level ps a n)
some_listed q hf level rs ps are a zero = tt
some_listed q hf level rs ps are a (suc n) = (are_on q hf level a rs ps are, some_listed q hf level rs ps are (a + 1) n)

some_fewer : (q : Query) (hf : List ℕ → ℕ) (level : ℕ) (ps : List Piece) (a n : ℕ)
    → AllByRecursion (λ rest. (k : Row) → rows_at q k rest ≤ rows_at q k ps) (some_rests q hf level ps a n)
some_fewer q hf level ps a zero = tt
some_fewer q hf level ps a (suc n) = (fewer_of q (falls_on hf level a) ps, some_fewer q hf level ps (a + 1) n)

list_few : (level h : ℕ) → partition_of level h < 16
list_few level h =
    elim (nat_lt level 8) as (λ b. cond b (h / 16 ^ (7 - level) % 16) 0 < 16) [
      | true ↦ omega arith
      | false ↦ omega arith
    ]

-- a key that falls on an earlier list, and one that falls on one of these
past_all : (q : Query) (hf : List ℕ → ℕ) (level : ℕ) (ps : List Piece) (k : Row) (a n : ℕ) → partition_of level (hf (packing k)) < a
    → AreNone (each_at q k (some_rests q hf level ps a n))
past_all q hf level ps k a zero past = tt
past_all q hf level ps k a (suc n) past = (
  found_off q (falls_on hf level a) k (is_not (partition_of level (hf (packing k))) a past) ps [] refl,
  past_all q hf level ps k (a + 1) n (omega (arith, past)),
)

among_all : (q : Query) (hf : List ℕ → ℕ) (level : ℕ) (ps : List Piece) (k : Row) (a n : ℕ) → a ≤ partition_of level (hf (packing k))
    → partition_of level (hf (packing k)) < a + n → IsOneOf (partials_at k (made_of q ps)) (each_at q k (some_rests q hf level ps a n))
among_all q hf level ps k a zero low high = absurd (omega (arith, low, high))
among_all q hf level ps k a (suc n) low high =
    elim (falls_on hf level a k) as (λ b. falls_on hf level a k ≡ b
    → IsOneOf (partials_at k (made_of q ps)) (each_at q k (some_rests q hf level ps a (suc n)))) [
      | true ↦ λ e. let is = is_it (partition_of level (hf (packing k))) a e in inl (
        found_on q (falls_on hf level a) k e ps [] [] refl,
        past_all
            q hf level ps k (a + 1) n (omega (arith, is)),
      )
      | false ↦ λ e.
          let past : a < partition_of level (hf (packing k)) = is_past (partition_of level (hf (packing k))) a e low in
          inr (
            found_off q (falls_on hf level a) k e ps [] refl,
            among_all q hf level ps k (a + 1) n (omega (arith, past))
                (omega (arith, high)),
          )
    ] refl

-- ---- those that have records

-- only these are read
abbrev with_pieces : List (List Piece) → List (List Piece)
with_pieces rests = filter (λ (rest : List Piece). not (is_empty rest)) rests

listed_with : (q : Query) (hf : List ℕ → ℕ) (ls : List PendingPartition) (rests : List (List Piece)) → AreListed q hf ls rests
    → AreListed q hf (filter (λ (list : PendingPartition). not (is_none list.records)) ls) (with_pieces rests)
listed_with q hf = one_filtered (λ list rest. ArePieces q hf list.records rest) (λ list. not (is_none list.records))
    (λ rest. not (is_empty rest)) (λ list rest are. ap not (as_none (IsPiece q hf) list.records rest are))

none_with : (q : Query) (k : Row) (rests : List (List Piece)) → AreNone (each_at q k rests) → AreNone (each_at q k (with_pieces rests))
none_with q k [] gone = tt
none_with q k ([] ∷ rests) (first, gone) = none_with q k rests gone
none_with q k ((p ∷ ps) ∷ rests) (first, gone) = (first, none_with q k rests gone)

one_with : (q : Query) (all : Found) (k : Row) (rests : List (List Piece)) → IsOneOf all (each_at q k rests)
    → IsOneOf all (each_at q k (with_pieces rests))
one_with q all k [] one = one
one_with q all k ([] ∷ rests) (inl (is, gone)) = none_one all (each_at q k (with_pieces rests)) (sym is) (none_with q k rests gone)
one_with q all k ([] ∷ rests) (inr (none, one)) = one_with q all k rests one
one_with q all k ((p ∷ ps) ∷ rests) (inl (is, gone)) = inl (is, none_with q k rests gone)
one_with q all k ((p ∷ ps) ∷ rests) (inr (none, one)) = inr (none, one_with q all k rests one)

-- ---- after the first pass

pub waits_first : (q : Query) (hf : List ℕ → ℕ) (ps : List Piece) (es : List Entry) (left : List Record) (level : ℕ)
    → Stands q hf ps es left → Waits q hf ps es (left_by level left)
waits_first q hf ps es left level s =
    let rests : List (List Piece) = some_rests q hf level s.rest 0 16 in
    record {
      entered = s.entered;
      rests = with_pieces rests;
      are = s.are;
      read = listed_with q hf (partitions_of level left) rests (some_listed q hf level left s.rest s.read 0 16);
      parted = λ k. partitions k (s.parted k) (among k);
      fewer =
          each_weaker (λ rest. ((k : Row) → rows_at q k rest ≤ rows_at q k s.rest) × (not (is_empty rest) ≡ true)) (λ rest. (k : Row)
          → rows_at q k rest ≤ rows_at q k ps)
          (λ rest low k. let a = low.0 k in let b = s.fewer k in omega (arith, a, b)) (with_pieces rests)
          (each_of_filter (λ rest. (k : Row) → rows_at q k rest ≤ rows_at q k s.rest) (λ (rest : List Piece). not (is_empty rest)) rests
          (some_fewer q hf level s.rest 0 16));
    }
  where
    among : (k : Row) → IsOneOf (partials_at k (made_of q s.rest)) (each_at q k (with_pieces (some_rests q hf level s.rest 0 16)))
    among k =
        let few = list_few level (hf (packing k)) in
        one_with q (partials_at k (made_of q s.rest)) k (some_rests q hf level s.rest 0 16)
        (among_all q hf level s.rest k 0 16 (omega arith) (omega (arith, few)))

    partitions : (k : Row)
        → ((partials_at k (made_of q ps) ≡ partials_at k s.entered) × (partials_at k (made_of q s.rest) ≡ None))
        ⊎ ((partials_at k (made_of q ps) ≡ partials_at k (made_of q s.rest)) × (partials_at k s.entered ≡ None))
        → IsOneOf (partials_at k (made_of q s.rest)) (each_at q k (with_pieces (some_rests q hf level s.rest 0 16)))
        → IsOneOf (partials_at k (made_of q ps)) (partials_at k s.entered ∷ each_at q k (with_pieces (some_rests q hf level s.rest 0 16)))
    partitions k (inl (is, gone)) one = inl (
      sym is,
      one_none (partials_at k (made_of q s.rest))
          (each_at q k (with_pieces (some_rests q hf level s.rest 0 16))) gone one,
    )
    partitions k (inr (is, none)) one = inr (
      none,
      subst (λ o. IsOneOf o (each_at q k (with_pieces (some_rests q hf level s.rest 0 16))))
          (sym is) one,
    )

-- ---- after the last

pub waits_end : (q : Query) (hf : List ℕ → ℕ) (ps : List Piece) (es : List Entry) → Waits q hf ps es [] → Stands q hf ps es []
waits_end q hf ps es w = record {
  entered = w.entered;
  rest = [];
  are = w.are;
  read = tt;
  parted = λ k. inl (
    alone (partials_at k (made_of q ps)) (partials_at k w.entered)
        (subst (λ rests. IsOneOf (partials_at k (made_of q ps)) (partials_at k w.entered ∷ each_at q k rests))
        (none_to_none (λ (list : PendingPartition) rest. ArePieces q hf list.records rest) w.rests w.read) (w.parted k)),
    refl,
  );
  fewer = λ k. omega arith;
}
  where
    alone : (all o : Found) → IsOneOf all (o ∷ []) → all ≡ o
    alone all o (inl (is, gone)) = sym is
    alone all o (inr (none, is)) = is ∙ sym none

-- ---- after one pass more

-- what a pass finds that reads the last list, and what it leaves
pub record Next (q : Query) (hf : List ℕ → ℕ) (ps : List Piece) (es : List Entry) (others : List PendingPartition) (list : PendingPartition)
    : Type 0 where
  pub rest : List Piece
  pub are : ArePieces q hf list.records rest
  pub count : (m : ℕ) → CountUpTo q m ps → CountUpTo q m rest
  pub waits : (more : List Entry) (left : List Record) (level : ℕ) → Stands q hf rest more left
      → Waits q hf ps (es ++ more) (others ++ left_by level left)
  pub once : (more : List Entry) (left : List Record) → Stands q hf rest more left → AreOnce es → AreOnce more → AreOnce (es ++ more)

module _ (q : Query) (hf : List ℕ → ℕ) (ps : List Piece) (es : List Entry) (others : List PendingPartition) (list : PendingPartition)
    (w : Waits q hf ps es (others ++ list ∷ [])) where
  last : LastOf (λ (list : PendingPartition) rest. ArePieces q hf list.records rest) others list w.rests
  last = last_of (λ list rest. ArePieces q hf list.records rest) others list w.rests w.read

  low : AllByRecursion (λ rest. (k : Row) → rows_at q k rest ≤ rows_at q k ps) last.front
      × ((k : Row) → rows_at q k last.last ≤ rows_at q k ps)
  low =
      let all : AllByRecursion (λ rest. (k : Row) → rows_at q k rest ≤ rows_at q k ps) (last.front ++ last.last
      ∷ []) = subst (AllByRecursion (λ rest. (k : Row) → rows_at q k rest ≤ rows_at q k ps)) last.is w.fewer in (
        each_front (λ rest. (k : Row) → rows_at q k rest ≤ rows_at q k ps) last.front (last.last ∷ []) all,
        (each_behind (λ rest. (k : Row) → rows_at q k rest ≤ rows_at q k ps) last.front (last.last ∷ []) all).0,
      )

  -- at a key
  here : (k : Row) → IsOneOf (partials_at k (made_of q ps)) (partials_at k w.entered
      ∷ (each_at q k last.front ++ partials_at k (made_of q last.last) ∷ []))
  here k =
      subst (λ os. IsOneOf (partials_at k (made_of q ps)) (partials_at k w.entered ∷ os))
      (map-append (λ rest. partials_at k (made_of q rest)) last.front (last.last ∷ []))
      (subst (λ rests. IsOneOf (partials_at k (made_of q ps)) (partials_at k w.entered ∷ each_at q k rests)) last.is (w.parted k))

  next_waits : (more : List Entry) (pending : List PendingPartition) → Waits q hf last.last more pending
      → Waits q hf ps (es ++ more) (others ++ pending)
  next_waits more pending v = record {
    entered = w.entered ++ v.entered;
    rests = last.front ++ v.rests;
    are = by_append q (λ k. rows_at q k ps) es more w.entered v.entered w.are
        (by_raised q (λ k. rows_at q k last.last) (λ k. rows_at q k ps) more v.entered low.1 v.are);
    read = one_append (λ list rest. ArePieces q hf list.records rest) others pending last.front v.rests last.are v.read;
    parted = λ k.
        let all : Found = partials_at k (made_of q ps) in
        let two = one_last all (partials_at k (made_of q last.last)) (partials_at k w.entered ∷ each_at q k last.front)
        (partials_at k v.entered ∷ each_at q k v.rests) (here k) (v.parted k) in
        let one = one_merged all (partials_at k w.entered) (partials_at k v.entered) (each_at q k last.front) (each_at q k v.rests) two in
        subst (λ o. IsOneOf all (o ∷ each_at q k (last.front ++ v.rests))) (sym (at_append k w.entered v.entered))
        (subst (λ os. IsOneOf all (option_or (partials_at k w.entered) (partials_at k v.entered) ∷ os))
        (sym (map-append (λ rest. partials_at k (made_of q rest)) last.front v.rests)) one);
    fewer =
        each_append (λ rest. (k : Row) → rows_at q k rest ≤ rows_at q k ps) last.front v.rests low.0
        (each_weaker (λ rest. (k : Row) → rows_at q k rest ≤ rows_at q k last.last) (λ rest. (k : Row) → rows_at q k rest ≤ rows_at q k ps)
        (λ rest less k. let a = less k in let b = low.1 k in omega (arith, a, b)) v.rests v.fewer);
  }

  -- no key is in the entries and in the last list
  not_both : (all a o : Found) (xs : List Found) (u v : List Partial) → IsOneOf all (a ∷ (xs ++ o ∷ [])) → a ≡ Some u → o ≡ Some v → ⊥
  not_both all a o xs u v (inl (is, others)) at there = let none : o ≡ None = (none_parts xs (o ∷ []) others).1.0 in absurd cc
  not_both all a o xs u v (inr (none, one)) at there = absurd cc

  next_once : (more : List Entry) (left : List Record) → Stands q hf last.last more left → AreOnce es → AreOnce more → AreOnce (es ++ more)
  next_once more left t a b = once_append es more a b shared
    where
      shared : (i j : ℕ) (x y : Entry) → slice_get es i ≡ Some x → slice_get more j ≡ Some y → x.0 ≢ y.0
      shared i j x y at bt same =
          let g = by_at q (λ k. rows_at q k ps) es w.entered i x w.are at in
          let h = by_at q (λ k. rows_at q k last.last) more t.entered j y t.are bt in
          let key : h.group.0 ≡ g.group.0 = packed_once (key_kinds q) y.0 h.group.0 g.group.0 h.stands.of_kinds g.stands.of_kinds
          h.stands.key (sym same ∙ g.stands.key) in
          let entered = (set_with g.group.0 [] g.group.1 w.entered i (once_apart q (λ k. rows_at q k ps) es w.entered w.are a) g.at).1 in
          let later = (set_with h.group.0 [] h.group.1 t.entered j (once_apart q (λ k. rows_at q k last.last) more t.entered t.are b)
          h.at).1 in
          let left = (found_in (made_of q last.last) t.entered (made_of q t.rest) h.group.0 h.group.1 t.parted later).0 in
          not_both (partials_at g.group.0 (made_of q ps)) (partials_at g.group.0 w.entered) (partials_at g.group.0 (made_of q last.last))
          (each_at q g.group.0 last.front) g.group.1 h.group.1
          (here g.group.0) entered (subst (λ k. partials_at k (made_of q last.last) ≡ Some h.group.1) key left)

  pub waits_next : Next q hf ps es others list
  waits_next = record {
    rest = last.last;
    are = last.one;
    count = λ m few k. let a = few k in let b = low.1 k in omega (arith, a, b);
    waits = λ more left level t. next_waits more (left_by level left) (waits_first q hf last.last more left level t);
    once = next_once;
  }
