-- One later pass after the other.
use Rattle.std.specs.Prelude.{◌≡◌, refl, ℕ, ◌+◌, ◌≤◌, List, [], ◌∷◌, ◌++◌, length, IsTrue}
use Rattle.std.proofs.Common.{sym, ◌∙◌, ap, subst, arith}
use Rattle.std.specs.List.Sorted.{IsPermutation}
use Rattle.hash_agg.proofs.Words.{Query, Cost, both, Setting, IsWellFormed, Record}
use Rattle.hash_agg.proofs.Words.{PendingPartition, partitions_of, left_by, PartitionsState}
use Rattle.hash_agg.proofs.Words.{HasPartitions, BeginsLast, AreOn, pages_of, written_pages, meaning, Plan}
use Rattle.hash_agg.proofs.Words.{Entry, Rises, Ghosts}
use Rattle.hash_agg.proofs.Words.{IsDone, IsSafeRun, IsUnderway, MadeAll, MadeFirst, MadeLater, query_of, setting_in, Brought, Given, AllGive, Pass}
use Rattle.hash_agg.proofs.Words.{Piece, AreOnce, CountUpTo, Stands, setting_of, ReadsPartition, CanReadPartition, all_pieces}
use Rattle.hash_agg.proofs.Words.{Waits}
use Rattle.hash_agg.proofs.Words.{Costs, AddsUp, pass_cost, Work}
use Rattle.hash_agg.proofs.SortLaws.{rises_once}
use Rattle.hash_agg.proofs.UnionLaws.{ends}
use Rattle.hash_agg.proofs.WaitLaws.{waits_next, waits_end}
use Rattle.hash_agg.proofs.WorkLaws.{adds_twice, costs_next, costs_end}

-- what an aggregation has under way between two passes, no two of whose entries have the same key
pub record IsWaiting (q : Query) (s : Setting) (pieces : List Piece) (entries : List Entry) (lists : PartitionsState) (last : ℕ → ℕ
    → Type 0) (start now : Work) (from written : ℕ) : Type 0 where
  pub underway : IsUnderway q s pieces entries (HasPartitions last lists [] []) start now from written
  pub once : AreOnce entries

module _ (plan : Plan) (hf : List ℕ → ℕ) (pieces : List Piece) (entries none : List Entry) (before begun : PartitionsState) (last : ℕ → ℕ
    → Type 0) (start mid : Work) (from there : ℕ) (w : IsWaiting (meaning plan.query.now) (setting_of plan hf) pieces entries before last
    start mid from there) (count : CountUpTo (meaning plan.query.now) plan.most pieces)
    (begins : (pending : List PendingPartition) → HasPartitions last before [] [] pending → BeginsLast last begun pending) where
  pub pass_can : CanReadPartition plan hf (record { entries = none; spill = begun; last = last })
  pass_can =
      let u = w.underway in
      let b = begins u.pending u.has in
      let n = waits_next (meaning plan.query.now) hf pieces entries b.0 b.1 (subst (Waits (meaning plan.query.now) hf pieces entries) b.2
      u.waits) in
      (b.1.records, n.rest, b.0, b.4, n.are, n.count plan.most count)

  pub pass_made : (read after : PartitionsState) (then now : ℕ → ℕ → Type 0) (es run : List Entry) (done : Work) (read_to end : ℕ)
      → IsWellFormed (meaning plan.query.now) → read.level ≡ begun.level
      → ReadsPartition plan hf (record { entries = none; spill = begun; last = last }) (record { entries = es; spill = read; last = then })
      → IsPermutation es run → Rises run
      → ((spilled ahead : List Record) (pending : List PendingPartition) → HasPartitions then read spilled ahead pending
      → HasPartitions now after [] ahead (pending ++ left_by read.level spilled))
      → ((spilled ahead : List Record) (pending : List PendingPartition) (pages : ℕ) → HasPartitions then read spilled ahead pending
      → AddsUp mid (pass_cost (length plan.first.items) es (length spilled) pages) done)
      → (read_to ≡ there + written_pages read)
      → ((spilled ahead : List Record) (pending : List PendingPartition) → HasPartitions then read spilled ahead pending → end
      + written_pages read ≡ read_to + pages_of (partitions_of read.level spilled))
      → IsWaiting (meaning plan.query.now) (setting_of plan hf) pieces (entries ++ run) after now start done from end
  pass_made read after then now es run done read_to end formed deep reads moved rises left adds so_far paged =
      let q : Query = meaning plan.query.now in
      let set : Setting = setting_of plan hf in
      let u = w.underway in
      let b = begins u.pending u.has in
      let n = waits_next q hf pieces entries b.0 b.1 (subst (Waits q hf pieces entries) b.2 u.waits) in
      let h = reads b.1.records n.rest b.0 b.4 n.are (n.count plan.most count) in
      let s : Stands q hf n.rest run h.0 = ends q hf n.rest es run h.0 h.0 moved rises refl h.2 in
      let more : Cost = pass_cost set.width es (length h.0) (pages_of (partitions_of read.level h.0)) in
      let all = u.paged in
      let sum = paged h.0 [] b.0 h.1 in
      record {
        underway =
            record {
              pending = b.0 ++ left_by read.level h.0;
              has = left h.0 [] b.0 h.1;
              waits = n.waits run h.0 read.level s;
              made = both u.made more;
              costs = costs_next q set pieces u.made b.0 b.1 (subst (Costs q set pieces u.made) b.2 u.costs) n.rest es read.partitions h.0
                  read.level formed (deep ∙ b.3) n.are h.3;
              adds = adds_twice start mid done u.made more u.adds (adds h.0 [] b.0 (pages_of (partitions_of read.level h.0)) h.1);
              paged = omega (arith, all, sum, so_far);
            };
        once = n.once run h.0 s w.once (rises_once run rises);
      }

-- no list is left
pub waiting_ends : (q : Query) (s : Setting) (pieces : List Piece) (entries : List Entry) (lists : PartitionsState) (last : ℕ → ℕ
    → Type 0) (start now : Work) (from written : ℕ) → lists.pending ≡ []
    → IsUnderway q s pieces entries (HasPartitions last lists [] []) start
    now from written
    → IsDone q s pieces entries start now from written
waiting_ends q s pieces entries lists last start now from written none u =
    let all = gone u.pending (subst (λ tapes. AreOn last lists.tapes tapes u.pending) none u.has.pending_are) in
    let whole = costs_end q s pieces u.made (subst (Costs q s pieces u.made) all u.costs) in
    record {
      stands = waits_end q s.hash pieces entries (subst (Waits q s.hash pieces entries) all u.waits);
      adds = subst (λ made. AddsUp start made now) whole u.adds;
      paged = u.paged ∙ ap (λ (made : Cost). from + made.pages) whole;
    }
  where
    gone : (pending : List PendingPartition) → AreOn last lists.tapes [] pending → pending ≡ []
    gone [] are = refl
    gone (list ∷ pending) are = absurd are

-- ---- all passes

module _ {H D : Type 0} (hash_of : H → List ℕ → ℕ) (g : Ghosts D) (inputs : List Brought) (old : Pass H) (before : D) (work : Work)
    (first : List Entry) (mid : Pass H) (between : D) (counted : Work) (made : MadeFirst hash_of g inputs old before work first mid between
    counted) where
  -- what is under way after the first pass is so for the later ones
  pub begun : (givens : List Given) → AllGive (query_of old) inputs givens
      → IsUnderway (query_of mid) (setting_in hash_of mid) (all_pieces inputs givens) first (HasPartitions (g.last between) mid.spill [] [])
      work
      counted (g.writes before) (g.writes between)
  begun givens give =
      subst (λ (plan : Plan). IsUnderway (meaning plan.query.now) (setting_of plan (hash_of mid.groups.hash)) (all_pieces inputs givens)
      first (HasPartitions (g.last between) mid.spill [] []) work counted (g.writes before) (g.writes between)) (sym made.plan)
      (subst (λ hash. IsUnderway (query_of old) (setting_of old.plan (hash_of hash)) (all_pieces inputs givens) first
      (HasPartitions (g.last between) mid.spill [] []) work counted (g.writes before) (g.writes between)) (sym made.hash)
      (made.underway givens give))

  pub made_all : (run : List Entry) (after : D) (done : Work) → g.honest between ≡ g.honest before
      → MadeLater hash_of g mid between first counted run after done → MadeAll hash_of g inputs old before work run after done
  made_all run after done honesty later = record {
    whole = λ honest givens give count.
        subst (λ hash. IsDone (query_of old) (setting_of old.plan (hash_of hash)) (all_pieces inputs givens) run work done (g.writes before)
        (g.writes after)) made.hash
        (subst (λ (plan : Plan). IsDone (meaning plan.query.now) (setting_of plan (hash_of mid.groups.hash)) (all_pieces inputs givens) run
        work done (g.writes before) (g.writes after)) made.plan
        (later.whole (subst IsTrue (sym honesty) honest) (all_pieces inputs givens) work (g.writes before) (begun givens give)
        (subst (λ (plan : Plan). CountUpTo (meaning plan.query.now) plan.most (all_pieces inputs givens)) (sym made.plan) count)));
    few = λ givens give. let a = made.few givens give in let b = later.few in omega (arith, a, b);
    safe = subst (λ (plan : Plan). IsSafeRun (meaning plan.query.now) plan.most run) made.plan later.safe;
    within =
        record {
          counted = later.within.counted;
          held = λ low. subst (λ (plan : Plan). done.most_held ≤ plan.limit) made.plan
              (later.within.held (subst (λ (plan : Plan). counted.most_held ≤ plan.limit) (sym made.plan) (made.within.held low)));
        };
  }
