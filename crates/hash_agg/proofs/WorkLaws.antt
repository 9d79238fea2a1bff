-- What the passes that were made took, and what those that are to be made will take, is what the cost says.
use Rattle.std.specs.Prelude.{◌≡◌, refl, ℕ, zero, suc, ◌+◌, ◌*◌, ◌<◌, ◌≤◌, ◌-◌, ◌/◌, ◌%◌, ◌^◌, ◌==◌, nat_lt, max, true, false, cond, not}
use Rattle.std.specs.Prelude.{List, [], ◌∷◌, ◌++◌, map, filter, flat_map, length}
use Rattle.std.specs.List.{AllByRecursion, sum_by, range_with_len}
use Rattle.std.proofs.Common.{sym, ◌∙◌, ap, subst, arith, append-nil}
use Rattle.std.proofs.lemmas.Bool.Decides.{nat_tests}
use Rattle.std.proofs.lemmas.List.Elements.{recursion_from_All}
use Rattle.std.proofs.lemmas.List.{length-append}
use Rattle.std.proofs.lemmas.Nat.{mul-le}
use Rattle.std.proofs.lemmas.List.Sums.{sum_by-cons}
use Rattle.std.proofs.lemmas.List.Sorted.{IsPermutation-append_comm}
use Rattle.hash_agg.proofs.Words.{each_append, each_front, each_behind, Query, Row, packing, Cost, greatest, pages_by, needs_by, cost_of}
use Rattle.hash_agg.proofs.Words.{both, cost_from, Setting, need, fronts, Record, header_of, record_bytes, tape_bytes, PendingPartition}
use Rattle.hash_agg.proofs.Words.{partition_of, on_partition, deeper, is_none, partitions_of, left_by, partition_pages}
use Rattle.hash_agg.proofs.Words.{pages_of, OnTape, IsWellFormed, Entry}
use Rattle.hash_agg.proofs.Words.{packed_keys, Piece, Of_row, Of_group, IsPiece, ArePieces, cost_records, records_of, IsCosted, AreCosted}
use Rattle.hash_agg.proofs.Words.{Spills, capped, IsLeft, AreLeft, Costs, AddsUp, pass_cost, IsWork, Work}
use Rattle.aggregation_cost.specs.Passes as cost
use Rattle.aggregation_cost.specs.Cost as costs
use Rattle.aggregation_cost.specs.Lemmas.WorkLaws.{cost_of_next, cost_reordered, fits_further_down}
use Rattle.group_runs.specs.Lemmas.RunLaws.{packed_once}
use Rattle.hash_agg.proofs.StepLaws.{key_short, group_apart}
use Rattle.hash_agg.proofs.OneByOneLaws.{one_append, as_long, none_to_none, one_filtered, LastOf, last_of, as_none}

-- ---- the pieces of records are told by their bytes

same_costs : (q : Query) (s : Setting) (one : Record) (c : cost.Record) (p r : Piece) → IsWellFormed q → IsPiece q s.hash one p
    → IsPiece q s.hash one r → cost_records q s.width r ≡ c ∷ [] → cost_records q s.width p ≡ c ∷ []
same_costs q s one c (Of_row row) (Of_row other) formed is are costs =
    ap (λ (row : Row). cost_records q s.width (Of_row row)) (packed_once q.kinds one.bytes row other is.of_kinds are.of_kinds is.bytes
    are.bytes) ∙ costs
same_costs q s one c (Of_row row) (Of_group group most) formed is are costs = absurd
    (let a = is.tag in let b = are.tag in omega (arith, a, b))
same_costs q s one c (Of_group group most) (Of_row row) formed is are costs = absurd
    (let a = is.tag in let b = are.tag in omega (arith, a, b))
same_costs q s one c (Of_group group most) (Of_group other more) formed is are costs =
    let apart = group_apart (packing group.0) (packing other.0) is.states are.states (key_short q (packing group.0) group.0 formed refl
    is.stands.of_kinds) (key_short q (packing other.0) other.0 formed refl are.stands.of_kinds) (sym is.bytes ∙ are.bytes) in
    ap (λ (key : List ℕ). record { key = key; on_tape = 9 + (2 + length key + s.width) } ∷ []) apart.0 ∙ costs

pub told_costs : (q : Query) (s : Setting) (records : List Record) (pieces : List Piece) (cs : List cost.Record) → IsWellFormed q
    → ArePieces q s.hash records pieces → AreCosted q s records cs → records_of q s.width pieces ≡ cs
told_costs q s [] [] [] formed are costed = refl
told_costs q s [] [] (c ∷ cs) formed are costed = absurd costed
told_costs q s [] (p ∷ ps) cs formed are costed = absurd are
told_costs q s (one ∷ records) [] cs formed are costed = absurd are
told_costs q s (one ∷ records) (p ∷ ps) [] formed are costed = absurd costed
told_costs q s (one ∷ records) (p ∷ ps) (c ∷ cs) formed (first, are) (is, costed) =
    (λ i. same_costs q s one c p is.piece formed first is.is is.costs i ++ told_costs q s records ps cs formed are costed i)

-- ---- a list is one of the cost

capped_list : (level h : ℕ) → partition_of (capped level) h ≡ cond (nat_lt level 8) (h / 16 ^ (7 - level) % 16) 0
capped_list level h =
    elim (nat_lt level 8) as (λ b. nat_lt level 8 ≡ b → partition_of (cond b level 8) h ≡ cond b (h / 16 ^ (7 - level) % 16) 0) [
      | true ↦ λ e. ap (λ b. cond b (h / 16 ^ (7 - level) % 16) 0) e
      | false ↦ λ e. refl
    ] refl

capped_deeper : (level : ℕ) → deeper (capped level) ≡ capped (level + 1)
capped_deeper level = grind (arith, nat_tests)

module _ (q : Query) (s : Setting) (level : ℕ) where
  same_list : (one : Record) (c : cost.Record) → IsCosted q s one c → partition_of (capped level) one.hash ≡ cost.list_of s level c.key
  same_list one c is = ap (partition_of (capped level)) is.hashed ∙ capped_list level (s.hash c.key)

  costed_on : (i : ℕ) (rs : List Record) (cs : List cost.Record) → AreCosted q s rs cs
      → AreCosted q s (on_partition (capped level) rs i) (cost.on_list s level cs i)
  costed_on i = one_filtered (IsCosted q s) (λ one. partition_of (capped level) one.hash == i) (λ c. cost.list_of s level c.key == i)
      (λ one c is. ap (λ n. n == i) (same_list one c is))

  abbrev lists_of_some : List Record → ℕ → ℕ → List PendingPartition
  lists_of_some rs a n = map (λ i. record { level = deeper (capped level); records = on_partition (capped level) rs i })
      (range_with_len a n)

  abbrev those_left : List PendingPartition → List PendingPartition
  those_left ls = filter (λ (list : PendingPartition). not (is_none list.records)) ls

  abbrev passes_left : List (List cost.Record) → List cost.Pass
  passes_left lists = map (cost.one_deeper level) (filter (λ records. not (cost.is_empty records)) lists)

  some_left : (rs : List Record) (cs : List cost.Record) → AreCosted q s rs cs → (a n : ℕ)
      → AreLeft q s (those_left (lists_of_some rs a n)) (passes_left (map (cost.on_list s level cs) (range_with_len a n)))
  some_left rs cs are a zero = tt
  some_left rs cs are a (suc n) =
      let rest = some_left rs cs are (a + 1) n in
      let here = costed_on a rs cs are in
      let xs : List Record = on_partition (capped level) rs a in
      let ys : List cost.Record = cost.on_list s level cs a in
      let list : PendingPartition = record { level = deeper (capped level); records = xs } in
      let more : List PendingPartition = those_left (lists_of_some rs (a + 1) n) in
      let others : List (List cost.Record) = filter (λ records. not (cost.is_empty records))
      (map (cost.on_list s level cs) (range_with_len (a + 1) n)) in
      subst (λ b. AreLeft q s (cond (not b) (list ∷ more) more)
      (map (cost.one_deeper level) (cond (not (cost.is_empty ys)) (ys ∷ others) others))) (sym (as_none (IsCosted q s) xs ys here))
      (elim (cost.is_empty ys) as (λ b. AreLeft q s (cond (not b) (list ∷ more) more)
      (map (cost.one_deeper level) (cond (not b) (ys ∷ others) others))) [
        | true ↦ rest
        | false ↦ (record { records = here; level = capped_deeper level }, rest)
      ])

-- the lists that a pass leaves are those of the cost
pub lists_left : (q : Query) (s : Setting) (pass : cost.Pass) (rs : List Record) → AreCosted q s rs (cost.spilled_by s pass)
    → AreLeft q s (left_by (capped pass.level) rs) (cost.left_by s pass)
lists_left q s pass rs are = some_left q s pass.level rs (cost.spilled_by s pass) are 0 16

-- ---- one pass after the other

pub both_once : (a b c : Cost) → both (both a b) c ≡ both a (both b c)
both_once a b c =
    let passes : (a.passes + b.passes) + c.passes ≡ a.passes + (b.passes + c.passes) = omega arith in
    let spilled : (a.spilled + b.spilled) + c.spilled ≡ a.spilled + (b.spilled + c.spilled) = omega arith in
    let pages : (a.pages + b.pages) + c.pages ≡ a.pages + (b.pages + c.pages) = omega arith in
    let most : max (max a.most_held b.most_held) c.most_held ≡ max a.most_held (max b.most_held c.most_held) = omega arith in
    λ i. record { passes = passes i; spilled = spilled i; pages = pages i; most_held = most i }

abbrev pub none_yet : Cost
none_yet = record { passes = 0; spilled = 0; pages = 0; most_held = 0 }

pub none_after : (made : Cost) → both made none_yet ≡ made
none_after made =
    let passes : made.passes + 0 ≡ made.passes = omega arith in
    let spilled : made.spilled + 0 ≡ made.spilled = omega arith in
    let pages : made.pages + 0 ≡ made.pages = omega arith in
    let most : max made.most_held 0 ≡ made.most_held = omega arith in
    λ i. record { passes = passes i; spilled = spilled i; pages = pages i; most_held = most i }

none_made : (one : Cost) → both none_yet one ≡ one
none_made one =
    let passes : 0 + one.passes ≡ one.passes = omega arith in
    let spilled : 0 + one.spilled ≡ one.spilled = omega arith in
    let pages : 0 + one.pages ≡ one.pages = omega arith in
    let most : max 0 one.most_held ≡ one.most_held = omega arith in
    λ i. record { passes = passes i; spilled = spilled i; pages = pages i; most_held = most i }

-- the last of the passes that are to be made is made
one_made : (s : Setting) (made : Cost) (others : List cost.Pass) (pass : cost.Pass) → cost.EachFits s pass.records
    → both made (cost_of s (flat_map (cost.passes_from s) (others ++ pass ∷ [])))
    ≡ both (both made (cost_of s (pass ∷ []))) (cost_of s (flat_map (cost.passes_from s) (others ++ cost.left_by s pass)))
one_made s made others pass fit =
    ap (both made) (cost_reordered s (pass ∷ others) (others ++ pass ∷ []) (IsPermutation-append_comm (pass ∷ []) others)
    ∙ cost_of_next s pass others fit)
    ∙ sym (both_once made (cost_of s (pass ∷ [])) (cost_of s (flat_map (cost.passes_from s) (cost.left_by s pass ++ others))))
    ∙ ap (both (both made (cost_of s (pass ∷ [])))) (cost_reordered s (others ++ cost.left_by s pass) (cost.left_by s pass ++ others)
    (IsPermutation-append_comm others (cost.left_by s pass)))

-- ---- pages

header_long : (hash tag len : ℕ) → length (header_of hash tag len) ≡ 9
unfolding header_of
header_long hash tag len = refl

tape_long : (q : Query) (s : Setting) (rs : List Record) (cs : List cost.Record) → AreCosted q s rs cs → length (tape_bytes rs)
    ≡ sum_by (λ (one : cost.Record). one.on_tape) cs
tape_long q s [] [] are = refl
tape_long q s [] (c ∷ cs) are = absurd are
tape_long q s (r ∷ rs) [] are = absurd are
tape_long q s (r ∷ rs) (c ∷ cs) (first, are) =
    let rest = tape_long q s rs cs are in
    let sum = sum_by-cons (λ (one : cost.Record). one.on_tape) c cs in
    let header = header_long r.hash r.tag (length r.bytes) in
    let one = length-append (header_of r.hash r.tag (length r.bytes)) r.bytes in
    let all = length-append (record_bytes r) (tape_bytes rs) in
    let long = first.long in
    omega (arith, rest, sum, header, one, all, long)

some_pages : (q : Query) (s : Setting) (level : ℕ) (rs : List Record) (cs : List cost.Record) → AreCosted q s rs cs → (a n : ℕ)
    → pages_of (lists_of_some q s level rs a n) ≡ sum_by costs.pages_of (map (cost.on_list s level cs) (range_with_len a n))
some_pages q s level rs cs are a zero = refl
some_pages q s level rs cs are a (suc n) =
    let here = tape_long q s (on_partition (capped level) rs a) (cost.on_list s level cs a) (costed_on q s level a rs cs are) in
    let one : partition_pages (on_partition (capped level) rs a)
    ≡ costs.pages_of (cost.on_list s level cs a) = ap (λ n. (n + 8191) / 8192) here in
    let rest = some_pages q s level rs cs are (a + 1) n in
    let x = sum_by-cons (λ (list : PendingPartition). partition_pages list.records)
    (record { level = deeper (capped level); records = on_partition (capped level) rs a }) (lists_of_some q s level rs (a + 1) n) in
    let y = sum_by-cons costs.pages_of (cost.on_list s level cs a) (map (cost.on_list s level cs) (range_with_len (a + 1) n)) in
    omega (arith, one, rest, x, y)

pub pages_left : (q : Query) (s : Setting) (pass : cost.Pass) (rs : List Record) → AreCosted q s rs (cost.spilled_by s pass)
    → pages_of (partitions_of (capped pass.level) rs) ≡ pages_by s pass
pages_left q s pass rs are = some_pages q s pass.level rs (cost.spilled_by s pass) are 0 16

-- what a pass costs by itself
cost_of_one : (s : Setting) (pass : cost.Pass) → cost_of s (pass ∷ [])
    ≡ record {
      passes = 1;
      spilled = length (cost.spilled_from s pass.records);
      pages = pages_by s pass;
      most_held = greatest
          (map (need s.width) (fronts (cost.taken_from s pass.records)));
    }
cost_of_one s pass =
    let sum = sum_by-cons (λ pass. length (cost.spilled_by s pass)) pass [] in
    let spilled : sum_by (λ pass. length (cost.spilled_by s pass)) (pass ∷ [])
    ≡ length (cost.spilled_from s pass.records) = omega (arith, sum) in
    let written = sum_by-cons (pages_by s) pass [] in
    let pages : sum_by (pages_by s) (pass ∷ []) ≡ pages_by s pass = omega (arith, written) in
    λ i. record { passes = 1; spilled = spilled i; pages = pages i; most_held = greatest (append-nil (needs_by s pass) i) }

-- after the first pass
pub costs_first : (q : Query) (s : Setting) (pieces : List Piece) (entries : List Entry) (partitions : List OnTape) (spilled : List Record)
    → cost.EachFits s (records_of q s.width pieces) → Spills q s pieces entries partitions spilled
    → Costs q s pieces (pass_cost s.width entries (length spilled) (pages_of (partitions_of 0 spilled))) (left_by 0 spilled)
costs_first q s pieces entries partitions spilled fit sp =
    let first : cost.Pass = record { level = 0; records = records_of q s.width pieces } in
    let long = as_long (IsCosted q s) spilled (cost.spilled_from s first.records) sp.spilled in
    let pages = pages_left q s first spilled sp.spilled in
    let made : cost_of s (first ∷ []) ≡ pass_cost s.width entries (length spilled) (pages_of (partitions_of 0 spilled)) =
    cost_of_one s first ∙
    (λ i. record {
      passes = 1;
      spilled = sym long i;
      pages = sym pages i;
      most_held = greatest
          (map (need s.width) (fronts (sym sp.took i)));
    }) in
    record {
      passes = cost.left_by s first;
      left = lists_left q s first spilled sp.spilled;
      fit = recursion_from_All (λ (next : cost.Pass). cost.EachFits s next.records) (cost.left_by s first) (fits_further_down s first fit);
      whole =
          ap (λ made. both made (cost_of s (flat_map (cost.passes_from s) (cost.left_by s first)))) (sym made)
          ∙ ap (λ made. both made (cost_of s (flat_map (cost.passes_from s) (cost.left_by s first))))
          (sym (none_made (cost_of s (first ∷ []))))
          ∙ sym (one_made s none_yet [] first fit)
          ∙ none_made (cost_of s (cost.passes_from s first ++ []))
          ∙ ap (cost_of s) (append-nil (cost.passes_from s first));
    }

-- after one pass more, which read the last list
module _ (q : Query) (s : Setting) (pieces : List Piece) (made : Cost) (others : List PendingPartition) (list : PendingPartition)
    (c : Costs q s pieces made (others ++ list ∷ [])) where
  last : LastOf (IsLeft q s) others list c.passes
  last = last_of (IsLeft q s) others list c.passes c.left

  pub costs_next : (rest : List Piece) (entries : List Entry) (partitions : List OnTape) (spilled : List Record) (level : ℕ)
      → IsWellFormed q → level ≡ list.level → ArePieces q s.hash list.records rest → Spills q s rest entries partitions spilled
      → Costs q s pieces (both made (pass_cost s.width entries (length spilled) (pages_of (partitions_of level spilled)))) (others
      ++ left_by level spilled)
  costs_next rest entries partitions spilled level formed deep are sp =
      let pass : cost.Pass = last.last in
      let told : records_of q s.width rest ≡ pass.records = told_costs q s list.records rest pass.records formed are last.one.records in
      let fits : AllByRecursion (λ (pass : cost.Pass). cost.EachFits s pass.records) (last.front ++ pass
      ∷ []) = subst (AllByRecursion (λ (pass : cost.Pass). cost.EachFits s pass.records)) last.is c.fit in
      let fit = (each_behind (λ (pass : cost.Pass). cost.EachFits s pass.records) last.front (pass ∷ []) fits).0 in
      let took : packed_keys entries ≡ cost.taken_from s pass.records = sp.took ∙ ap (cost.taken_from s) told in
      let sent : AreCosted q s spilled (cost.spilled_from s pass.records) =
      subst (λ records. AreCosted q s spilled (cost.spilled_from s records)) told sp.spilled in
      let long = as_long (IsCosted q s) spilled (cost.spilled_from s pass.records) sent in
      let level_is : level ≡ capped pass.level = deep ∙ last.one.level in
      let pages : pages_of (partitions_of level spilled) ≡ pages_by s pass = ap (λ level. pages_of (partitions_of level spilled)) level_is
      ∙ pages_left q s pass spilled sent in
      let by : cost_of s (pass ∷ []) ≡ pass_cost s.width entries (length spilled) (pages_of (partitions_of level spilled)) =
      cost_of_one s pass ∙ (λ i. record {
        passes = 1;
        spilled = sym long i;
        pages = sym pages i;
        most_held = greatest
            (map (need s.width) (fronts (sym took i)));
      }) in
      record {
        passes = last.front ++ cost.left_by s pass;
        left = one_append (IsLeft q s) others (left_by level spilled) last.front (cost.left_by s pass) last.are
            (subst (λ level. AreLeft q s (left_by level spilled) (cost.left_by s pass)) (sym level_is) (lists_left q s pass spilled sent));
        fit = each_append (λ (pass : cost.Pass). cost.EachFits s pass.records) last.front (cost.left_by s pass)
            (each_front (λ (pass : cost.Pass). cost.EachFits s pass.records) last.front (pass ∷ []) fits)
            (recursion_from_All (λ (next : cost.Pass). cost.EachFits s next.records) (cost.left_by s pass) (fits_further_down s pass fit));
        whole =
            ap (λ one. both (both made one) (cost_of s (flat_map (cost.passes_from s) (last.front ++ cost.left_by s pass)))) (sym by)
            ∙ sym (one_made s made last.front pass fit)
            ∙ ap (λ passes. both made (cost_of s (flat_map (cost.passes_from s) passes))) (sym last.is)
            ∙ c.whole;
      }

-- no list is left
pub costs_end : (q : Query) (s : Setting) (pieces : List Piece) (made : Cost) → Costs q s pieces made [] → made
    ≡ cost_from s (record { level = 0; records = records_of q s.width pieces })
costs_end q s pieces made c = sym (none_after made) ∙ ap (λ passes. both made (cost_of s (flat_map (cost.passes_from s) passes)))
    (sym (none_to_none (IsLeft q s) c.passes c.left)) ∙ c.whole

-- ---- what was counted

pub adds_twice : (a b c : Work) (m n : Cost) → AddsUp a m b → AddsUp b n c → AddsUp a (both m n) c
adds_twice a b c m n first second =
    let p = first.passes in
    let q = second.passes in
    let s = first.spilled in
    let t = second.spilled in
    let u = first.most_held in
    let v = second.most_held in
    record { passes = omega (arith, p, q); spilled = omega (arith, s, t); most_held = omega (arith, u, v) }

-- what was counted on top of nothing
pub is_work : (none work : Work) (c : Cost) → none ≡ record { passes = 0; spilled = 0; most_held = 0 } → AddsUp none c work
    → c.passes ≤ 18446744073709551615 → c.spilled ≤ 340282366920938463463374607431768211455 → IsWork work c
is_work none work c nothing adds few short =
    let from : AddsUp (record { passes = 0; spilled = 0; most_held = 0 }) c work = subst (λ old. AddsUp old c work) nothing adds in
    let p = from.passes in
    let s = from.spilled in
    let m = from.most_held in
    record { passes = omega (arith, p, few); spilled = omega (arith, s, short); most_held = omega (arith, m) }

-- the counters have room for the cost of fewer than 2^63 records
pub cost_counts : (c : Cost) (records : ℕ) → c.passes ≤ max 1 records → c.spilled ≤ c.passes * records → records < 2 ^ 63
    → (c.passes ≤ 18446744073709551615) × (c.spilled ≤ 340282366920938463463374607431768211455)
cost_counts c records few some low =
    let passes : c.passes ≤ 2 ^ 63 = omega (arith, few, low) in
    let most = mul-le c.passes records (2 ^ 63) (2 ^ 63) passes (omega (arith, low)) in
    (omega (arith, few, low), omega (arith, some, most))

pub work_few : (work : Work) (c : Cost) (most : ℕ) → IsWork work c → c.passes ≤ most → work.passes ≤ most
work_few work c most is few = let p = is.passes in omega (arith, p, few)
