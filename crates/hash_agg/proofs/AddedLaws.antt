-- What a pass adds: one thing, and one thing after the other.
use Rattle.std.specs.Prelude.{◌≡◌, ◌≢◌, refl, ℕ, ◌+◌, ◌≤◌, ◌&&◌, true, false, cond, List, [], ◌∷◌, ◌++◌, length, slice_get, Some, None}
use Rattle.std.specs.Prelude.{OnOk, Ok, Err, IsErrAnd}
use Rattle.std.specs.declared.result.Result.{Result}
use Rattle.std.proofs.Common.{sym, ◌∙◌, ap, subst, arith}
use Rattle.std.proofs.lemmas.List.Sums.{sum_by-cons}
use Rattle.std.proofs.lemmas.Result.{err_from_is_err_and, on_ok_weaker, IfErr-weaker}
use Rattle.hash_agg.proofs.Words.{DiskFrame, Query, Group, Partial, functions, Record, Ghosts, PartitionsState, KeepsRest, Spilled}
use Rattle.hash_agg.proofs.Words.{spill_faults, TapeDamaged, TapeFault, Names, HasNo, state_in, Slot, Entry, packed_keys, is_empty, fits}
use Rattle.hash_agg.proofs.Words.{AreStates, StandsFor, AreWithin, Piece, Of_row, Of_group, AreOnce, AreSafe, GroupsState, IsPiece}
use Rattle.hash_agg.proofs.Words.{IsSameTable, Proceeds, WritesAt, WritesPages, Brings, CanRead, entries_of, standing, setting_of, weight}
use Rattle.hash_agg.proofs.Words.{brings, brought_by, Source, Entries, Are, Added, AddedBy, AddedOne, Adds, HasRoom, IsReady, KeepsLater}
use Rattle.hash_agg.proofs.Words.{KeepsPass, Refused, RefusedBy, enters, query_of, Pass, Plan}
use Rattle.tape_disks.specs.DiskLaws.{leaves_none}
use Rattle.hash_agg.specs.Added.{AddedGenuine, IsGenuine}
use Rattle.spill_partitions.specs.declared.error.SpillError.{SpillError}
use Rattle.hash_agg.proofs.DiskLaws.{left_out, leaves_still}
use Rattle.hash_agg.proofs.NeedLaws.{first_fits}
use Rattle.hash_agg.proofs.PassLaws.{IsKept, after}
use Rattle.hash_agg.proofs.ReturnLaws.{same_table, same_table_twice, same_rest, keeps_rest_twice, moved_table, moved_proceeds}
use Rattle.hash_agg.proofs.ReturnLaws.{spilled_proceeds}
use Rattle.hash_agg.proofs.StepLaws.{err_out, BringsSome, IsAt, ReadsSome, Told, one_there, one_new, one_left, safe_there, safe_new}
use Rattle.hash_agg.proofs.StepLaws.{there_room, fit_told, proceeds_new, group_is_at, next_room, next_read, none_read, all_read}
use Rattle.hash_agg.proofs.StepLaws.{next_brings, all_brings}

-- ---- a pass that stays what it is

pub same_pass : {H : Type 0} (pass : Pass H) → KeepsPass pass pass
same_pass pass = record { plan = refl; table = same_table pass.plan.limit pass.groups; spill = same_rest pass.spill }

pub keeps_twice : {H : Type 0} (a b c : Pass H) → KeepsPass a b → KeepsPass b c → KeepsPass a c
keeps_twice a b c first second = record {
  plan = second.plan ∙ first.plan;
  table = same_table_twice a.groups b.groups c.groups first.table (subst (λ (plan : Plan). IsSameTable plan.limit b.groups c.groups)
      first.plan second.table);
  spill = keeps_rest_twice a.spill b.spill c.spill first.spill second.spill;
}

pub later_none : {H : Type 0} (pass : Pass H) → KeepsLater pass pass
later_none pass = record { plan = refl; table = same_table pass.plan.limit pass.groups; pending = refl; level = refl }

-- with other lists, which leave the same to later passes
pub later_same : {H : Type 0} (a b : Pass H) (lists : PartitionsState) → KeepsLater a b → lists.pending ≡ b.spill.pending → lists.level
    ≡ b.spill.level → KeepsLater a (record b { spill = lists })
later_same a b lists kept pending level = record {
  plan = kept.plan;
  table = kept.table;
  pending = pending ∙ kept.pending;
  level = level
      ∙ kept.level;
}

pub later_next : {H : Type 0} (a b c : Pass H) → KeepsLater a b → KeepsPass b c → KeepsLater a c
later_next a b c first second = record {
  plan = second.plan ∙ first.plan;
  table = same_table_twice a.groups b.groups c.groups first.table (subst (λ (plan : Plan). IsSameTable plan.limit b.groups c.groups)
      first.plan second.table);
  pending = second.spill.pending ∙ first.pending;
  level = second.spill.level ∙ first.level;
}

pub ready_with : {H : Type 0} (pass : Pass H) (groups : GroupsState H) → IsReady pass → IsSameTable pass.plan.limit pass.groups groups
    → IsReady (record pass { groups = groups })
ready_with pass groups ready same = record {
  plan = ready.plan;
  width = same.width
      ∙ ready.width;
  held = same.within ready.held;
  alive = ready.alive;
}

-- a first key enters
pub fresh_enters : {H : Type 0} (hash : List ℕ → ℕ) (pass : Pass H) (key : List ℕ) → IsReady pass → length key ≤ 8192
    → entries_of pass.groups ≡ [] → pass.spill.partitions ≡ [] → enters hash pass key ≡ true
fresh_enters hash pass key ready short empty clear =
    (λ i. is_empty (clear i) && fits (setting_of pass.plan hash) (packed_keys (empty i) ++ key ∷ []))
    ∙ first_fits (setting_of pass.plan hash) key ready.plan.limit ready.plan.narrow short

-- ---- a refusal that a `?` hands on

pub refused_out : {H D T : Type 0} {Done : (H → List ℕ → ℕ) → Ghosts D → Source → Pass H → D → Pass H → D → Type 0} {hash_of : H → List ℕ
    → ℕ} {g : Ghosts D} {what : Source} {old new : Pass H} {before after : D}
    → (r : Result T SpillError) (e : SpillError) → IsErrAnd r (λ x. x ≡ e) → Refused hash_of g what old before e new
    → DiskFrame g (spill_faults e) before after → Adds Done hash_of g what old before r new after
refused_out {Done = Done} {hash_of = hash_of} {g = g} {what = what} {old = old} {new = new} {before = before} {after = after} r e given
    refusal leaves =
    record {
      added = subst (λ r. OnOk r (Done hash_of g what old before new after)) (sym (err_from_is_err_and r given).1) tt;
      refused = err_out r e (λ e. Refused hash_of g what old before e new) given refusal;
      disk = left_out g r e before after given leaves;
    }

pub refused_still : {H D T : Type 0} {Done : (H → List ℕ → ℕ) → Ghosts D → Source → Pass H → D → Pass H → D → Type 0} {hash_of : H → List ℕ
    → ℕ} {g : Ghosts D} {what : Source} {old new : Pass H} {before : D}
    → (r : Result T SpillError) (e : SpillError) → IsErrAnd r (λ x. x ≡ e) → Refused hash_of g what old before e new → e ≢ TapeFault
    → Adds Done hash_of g what old before r new before
refused_still {g = g} {before = before} r e given refusal none = refused_out r e given refusal (leaves_still g e before none)

-- before which the pass was not changed
pub refused_here : {H D T : Type 0} {Done : (H → List ℕ → ℕ) → Ghosts D → Source → Pass H → D → Pass H → D → Type 0} {hash_of : H → List ℕ
    → ℕ} {g : Ghosts D} {what : Source} {old : Pass H} {before : D}
    → (r : Result T SpillError) (e : SpillError) → IsErrAnd r (λ x. x ≡ e)
    → (CanRead old.plan (hash_of old.groups.hash) (Are (query_of old) (hash_of old.groups.hash) what)
    (standing old.groups old.spill (g.last before)) → e ≢ TapeDamaged)
    → e ≢ TapeFault → Adds Done hash_of g what old before r old before
refused_here {old = old} r e given right none = refused_still r e given (record { undamaged = right; kept = same_pass old }) none

-- what is read was added, without the disk
pub added_here : {H D T : Type 0} {Done : (H → List ℕ → ℕ) → Ghosts D → Source → Pass H → D → Pass H → D → Type 0} {hash_of : H → List ℕ
    → ℕ} {g : Ghosts D} {what : Source} {old new : Pass H} {before : D}
    → (x : T) → Done hash_of g what old before new before → Adds Done hash_of g what old before (Ok x) new before
added_here {g = g} {before = before} x done = record { added = done; refused = tt; disk = leaves_none g before }

-- a tape that gave back what was not written to it is found by the call itself
pub damaged_here : {H D T : Type 0} {Done : (H → List ℕ → ℕ) → Ghosts D → Source → Pass H → D → Pass H → D → Type 0} {hash_of : H → List ℕ
    → ℕ} {g : Ghosts D} {what : Source} {old new : Pass H} {before : D}
    → (CanRead old.plan (hash_of old.groups.hash) (Are (query_of old) (hash_of old.groups.hash) what)
    (standing old.groups old.spill (g.last before)) → ⊥)
    → KeepsPass old new → Adds {T = T} Done hash_of g what old before (Err TapeDamaged) new before
damaged_here {g = g} {before = before} never kept =
    record { added = tt; refused = record { undamaged = λ can same. never can; kept = kept }; disk = leaves_none g before }

-- ---- one thing

brought_one : (q : Query) (p : Piece) → IsKept q p → brings q p ≡ 1
brought_one q (Of_row row) met = ap (λ b. cond b 1 0) met
brought_one q (Of_group group most) kept = refl

module _ {H D : Type 0} (hash_of : H → List ℕ → ℕ) (g : Ghosts D) (what : Source) (old : Pass H) (disk : D) (key : List ℕ) (Moved : List ℕ
    → List ℕ → Type 0) (ready : IsReady old)
    (told : (more : List Piece) → Are (query_of old) (hash_of old.groups.hash) what more
    → Told (query_of old) old.plan.most key Moved more) where
  abbrev hf : List ℕ → ℕ
  hf = hash_of old.groups.hash

  one_brings : (new : List Entry) (after : PartitionsState) → Proceeds (entries_of old.groups) old.spill new after
      → Brings (query_of old) (Are (query_of old) hf what) (entries_of old.groups) old.spill new after
  one_brings new after goes more are =
      let few = goes.few in
      let t = told more are in
      let one = brought_one (query_of old) t.piece t.kept in
      let same : brought_by (query_of old) more ≡ brought_by (query_of old) (t.piece ∷ []) = ap (brought_by (query_of old)) t.is in
      let sum = sum_by-cons (brings (query_of old)) t.piece [] in
      omega (arith, few, one, same, sum)

  -- it goes to the group of its key
  pub there_added : (groups : GroupsState H) (slot : Slot) → AreOnce (entries_of old.groups)
      → Names old.groups.table old.groups.tree slot key → WritesAt old.groups slot (Moved (state_in old.groups.table old.groups.tree slot))
      groups → groups.table ≡ old.groups.table → groups.hash ≡ old.groups.hash → groups.most_held ≡ old.groups.most_held
      → ((new : List ℕ) → Moved (state_in old.groups.table old.groups.tree slot) new
      → AreWithin (functions (query_of old)) old.plan.most new) → AddedOne hash_of g what old disk (record old { groups = groups }) disk
  there_added groups slot once named writes same hashed held within =
      let goes = moved_proceeds old.groups groups old.spill same in
      let table = moved_table old.plan.limit old.groups groups same hashed held in
      record {
        added =
            record {
              reads = one_there old.plan hf old.groups old.spill (g.last disk) key (Are (query_of old) hf what) Moved told groups slot once
                  named writes;
              brings = one_brings (entries_of groups) old.spill goes;
              safe = safe_there (query_of old) old.plan.most old.groups groups slot key
                  (Moved (state_in old.groups.table old.groups.tree slot)) within named writes;
              pages = refl;
              ready = ready_with old groups ready table;
              kept = record { plan = refl; table = table; spill = same_rest old.spill };
            };
        proceeds = goes;
      }

  -- it finds no room there
  pub there_damaged : {T : Type 0} (groups : GroupsState H) (slot : Slot) → Names old.groups.table old.groups.tree slot key → groups.table
      ≡ old.groups.table → groups.hash ≡ old.groups.hash → groups.most_held ≡ old.groups.most_held
      → ((more : List Piece) (are : Are (query_of old) hf what more) (m : ℕ) (found : List Partial)
      → AreStates (functions (query_of old)) m (state_in old.groups.table old.groups.tree slot) found
      → m + weight (told more are).piece ≤ old.plan.most → ⊥)
      → Adds {T = T} AddedOne hash_of g what old disk (Err TapeDamaged) (record old { groups = groups }) disk
  there_damaged groups slot named same hashed held full =
      damaged_here
      (λ can.
      let room = there_room old.plan hf old.groups old.spill (g.last disk) key (Are (query_of old) hf what) Moved told slot named can in
      full room.0 room.1 room.2 room.3 room.4 room.5)
      (record { plan = refl; table = moved_table old.plan.limit old.groups groups same hashed held; spill = same_rest old.spill })

  -- it makes a group of its own
  pub new_added : (groups : GroupsState H) (states : List ℕ) (bytes : ℕ) → HasNo old.groups.table old.groups.tree key
      → HasRoom old key bytes → true ≡ enters hf old key → entries_of groups ≡ entries_of old.groups ++ (key, states) ∷ []
      → ((limit : ℕ) → bytes ≤ limit → IsSameTable limit old.groups groups)
      → ((more : List Piece) (are : Are (query_of old) hf what more) → weight (told more are).piece ≤ old.plan.most
      → AreStates (functions (query_of old)) (weight (told more are).piece) states (after (query_of old) None (told more are).piece))
      → (group : Group) → StandsFor (query_of old) old.plan.most (key, states) group
      → AddedOne hash_of g what old disk (record old { groups = groups }) disk
  new_added groups states bytes absent room fit entered same makes group stands =
      let goes = proceeds_new old.groups groups old.spill (key, states) entered in
      let table = same old.plan.limit room.within in
      record {
        added =
            record {
              reads = one_new old.plan hf old.groups old.spill (g.last disk) key (Are (query_of old) hf what) Moved told groups states
                  absent room.none (fit_told _ _ fit) entered makes;
              brings = one_brings (entries_of groups) old.spill goes;
              safe = safe_new (query_of old) old.plan.most old.groups groups key states group stands entered;
              pages = refl;
              ready = ready_with old groups ready table;
              kept = record { plan = refl; table = table; spill = same_rest old.spill };
            };
        proceeds = goes;
      }

  -- it is spilled
  pub left_added : {T E : Type 0} (r : Result T E) (lists : PartitionsState) (end : D) (one : Record)
      → HasNo old.groups.table old.groups.tree key → length key ≤ 8192 → enters hf old key ≡ false
      → ((more : List Piece) (are : Are (query_of old) hf what more) → IsPiece (query_of old) hf one (told more are).piece)
      → KeepsRest old.spill lists
      → OnOk r (Spilled g one old.spill disk lists end)
      → OnOk r (AddedOne hash_of g what old disk (record old { spill = lists }) end)
  left_added (Err e) lists end one absent short out is kept spilled = tt
  left_added (Ok x) lists end one absent short out is kept spilled =
      let goes = spilled_proceeds (entries_of old.groups) old.spill lists (λ empty clear. sym out
      ∙ fresh_enters hf old key ready short empty clear) spilled.counted in
      record {
        added =
            record {
              reads = one_left old.plan hf old.groups old.spill (g.last disk) key (Are (query_of old) hf what) Moved told old.groups lists
                  (g.last end) one absent ready.plan.width out refl is spilled.added;
              brings = one_brings (entries_of old.groups) lists goes;
              safe = λ is. is;
              pages = spilled.paged;
              ready = record { plan = ready.plan; width = ready.width; held = ready.held; alive = spilled.alive };
              kept = record { plan = refl; table = same_table old.plan.limit old.groups; spill = kept };
            };
        proceeds = goes;
      }

-- ---- other words for it

module _ {H D : Type 0} (hash_of : H → List ℕ → ℕ) (g : Ghosts D) (what other : Source) (old : Pass H) (before : D)
    (gives : (more : List Piece) → Are (query_of old) (hash_of old.groups.hash) what more
    → Are (query_of old) (hash_of old.groups.hash) other more) where
  added_by : {T E : Type 0} (r : Result T E) (new : Pass H) (after : D) → OnOk r (AddedOne hash_of g other old before new after)
      → OnOk r (AddedOne hash_of g what old before new after)
  added_by (Err e) new after one = tt
  added_by (Ok x) new after one = record {
    added =
        record {
          reads = λ pieces more ahead pending holds are count. one.added.reads pieces more ahead pending holds (gives more are) count;
          brings = λ more are. one.added.brings more (gives more are);
          safe = one.added.safe;
          pages = one.added.pages;
          ready = one.added.ready;
          kept = one.added.kept;
        };
    proceeds = one.proceeds;
  }

  refused_by : (new : Pass H) (error : SpillError) → Refused hash_of g other old before error new
      → Refused hash_of g what old before error new
  refused_by new error refusal = record {
    undamaged = λ (pieces, more, ahead, pending, holds, are, count). refusal.undamaged (
      pieces,
      more,
      ahead,
      pending,
      holds,
      gives more are,
      count,
    );
    kept = refusal.kept;
  }

  -- a record of which it is known that it is one
  pub genuine_by : {T : Type 0} (r : Result T SpillError) (new : Pass H) (after : D) → IsGenuine hash_of old what
      → Adds AddedOne hash_of g other old before r new after → Adds AddedGenuine hash_of g what old before r new after
  genuine_by r new after genuine adds = record {
    added = on_ok_weaker r (λ added. record { added = added; genuine = genuine }) (added_by r new after adds.added);
    refused = IfErr-weaker r _ _ (refused_by new) adds.refused;
    disk = adds.disk;
  }

-- ---- one thing after the other

-- the first of what is read, so many, were added
pub record AddedSome {H D : Type 0} (hash_of : H → List ℕ → ℕ) (g : Ghosts D) (what : Source) (number : ℕ) (old : Pass H) (before : D)
    (new : Pass H) (after : D) : Type 0 where
  pub reads : ReadsSome old.plan (hash_of old.groups.hash) (Are (query_of old) (hash_of old.groups.hash) what) number
      (standing old.groups old.spill (g.last before)) (standing new.groups new.spill (g.last after))
  pub brings : BringsSome (query_of old) (Are (query_of old) (hash_of old.groups.hash) what) number (entries_of old.groups) old.spill
      (entries_of new.groups) new.spill
  pub safe : AreSafe (query_of old) old.plan.most (entries_of old.groups) → AreSafe (query_of old) old.plan.most (entries_of new.groups)
  pub pages : WritesPages (g.writes before) old.spill (g.writes after) new.spill
  pub ready : IsReady new
  pub kept : KeepsPass old new

-- by a plan and a hash function that are the same
module _ {H D : Type 0} (hash_of : H → List ℕ → ℕ) (g : Ghosts D) (one : Source) (old now : Pass H) (at : D) (next : Pass H)
    (same : now.plan ≡ old.plan) (hashed : now.groups.hash ≡ old.groups.hash) where
  pub added_first : (after : D) → Added hash_of g one now at next after → AddedBy old.plan (hash_of old.groups.hash) g one now at next after
  added_first after added = subst (λ plan. AddedBy plan (hash_of old.groups.hash) g one now at next after) same
      (subst (λ hash. AddedBy now.plan (hash_of hash) g one now at next after) hashed added)

  pub refused_first : (error : SpillError) → Refused hash_of g one now at error next
      → RefusedBy old.plan (hash_of old.groups.hash) g one now at error next
  refused_first error refusal = subst (λ plan. RefusedBy plan (hash_of old.groups.hash) g one now at error next) same
      (subst (λ hash. RefusedBy now.plan (hash_of hash) g one now at error next) hashed refusal)

module _ {H D : Type 0} (hash_of : H → List ℕ → ℕ) (g : Ghosts D) (what : Source) (old : Pass H) (before : D) where
  abbrev AreAll : List Piece → Type 0
  AreAll = Are (query_of old) (hash_of old.groups.hash) what

  pub none_added : IsReady old → AddedSome hash_of g what 0 old before old before
  none_added ready = record {
    reads = none_read old.plan (hash_of old.groups.hash) AreAll (standing old.groups old.spill (g.last before));
    brings = λ more are. omega arith;
    safe = λ is. is;
    pages = refl;
    ready = ready;
    kept = same_pass old;
  }

  module _ (one : Source) (i : ℕ) (now : Pass H) (at : D) (some : AddedSome hash_of g what i old before now at)
      (place : IsAt AreAll i (Are (query_of old) (hash_of old.groups.hash) one)) where
    abbrev AreOne : List Piece → Type 0
    AreOne = Are (query_of old) (hash_of old.groups.hash) one

    pub next_added : (next : Pass H) (after : D) → Added hash_of g one now at next after
        → AddedSome hash_of g what (i + 1) old before next after
    next_added next after added =
        let a = added_first hash_of g one old now at next some.kept.plan some.kept.table.hash after added in
        let so_far = some.pages in
        let more = a.pages in
        record {
          reads = next_read old.plan (hash_of old.groups.hash) AreAll AreOne (standing old.groups old.spill (g.last before)) i
              (standing now.groups now.spill (g.last at)) some.reads place (standing next.groups next.spill (g.last after)) a.reads;
          brings = next_brings (query_of old) AreAll AreOne i (entries_of old.groups) (entries_of now.groups) (entries_of next.groups)
              old.spill now.spill next.spill place some.brings a.brings;
          safe = λ is. a.safe (some.safe is);
          pages = omega (arith, so_far, more);
          ready = a.ready;
          kept = keeps_twice old now next some.kept a.kept;
        }

    pub next_refused : (error : SpillError) (next : Pass H) → Refused hash_of g one now at error next
        → Refused hash_of g what old before error next
    next_refused error next refused =
        let refusal = refused_first hash_of g one old now at next some.kept.plan some.kept.table.hash error refused in
        record {
          undamaged = λ can. refusal.undamaged (next_room old.plan (hash_of old.groups.hash) AreAll AreOne
              (standing old.groups old.spill (g.last before)) i (standing now.groups now.spill (g.last at)) some.reads place can);
          kept = keeps_twice old now next some.kept refusal.kept;
        }

  pub all_added : (i : ℕ) (new : Pass H) (after : D) → AddedSome hash_of g what i old before new after
      → ((more : List Piece) → AreAll more → length more ≤ i) → Added hash_of g what old before new after
  all_added i new after some short = record {
    reads = all_read old.plan (hash_of old.groups.hash) AreAll (standing old.groups old.spill (g.last before)) i
        (standing new.groups new.spill (g.last after)) some.reads short;
    brings = all_brings (query_of old) AreAll i (entries_of old.groups) (entries_of new.groups) old.spill new.spill some.brings short;
    safe = some.safe;
    pages = some.pages;
    ready = some.ready;
    kept = some.kept;
  }

-- a group of a run
pub entry_is_at : (q : Query) (hf : List ℕ → ℕ) (run : List Entry) (i : ℕ) (key states : List ℕ) → slice_get run i ≡ Some (key, states)
    → IsAt (Are q hf (Entries run)) i (Are q hf (Entries ((key, states) ∷ [])))
entry_is_at q hf run i key states at more (most, are) = let found = group_is_at q most run i key states at more are in
    (found.0, found.1, (most, found.2))
