-- What is the same at most returns of a pass.
use Rattle.std.specs.Prelude.{◌≡◌, refl, ℕ, ◌+◌, ◌≤◌, true, false, List, [], IfOk, OnOk, Ok, Err}
use Rattle.std.specs.Result.{IsErr}
use Rattle.std.specs.declared.result.Result.{Result}
use Rattle.std.proofs.Common.{sym, ◌∙◌, ap, subst, arith}
use Rattle.hash_agg.proofs.Words.{TableState, Entry, IsRun, Query, PartitionsState, KeepsRest, spilled_number, GroupsState, entries_of}
use Rattle.hash_agg.proofs.Words.{IsSameTable, Proceeds}
use Rattle.key_hashes.specs.declared.sip_hash.SipHash.{SipHash}
use Rattle.group_runs.specs.StandingLaws.{groups_raised}
use Rattle.hash_agg.proofs.StepLaws.{as_many}

-- an error has nothing to say of a success
pub no_ok : {T E : Type 0} (r : Result T E) (P : Type 0) → IsErr r → OnOk r P
no_ok (Ok x) P is = absurd cc
no_ok (Err e) P is = tt

pub no_if_ok : {T E : Type 0} (r : Result T E) (P : T → Type 0) → IsErr r → IfOk r P
no_if_ok (Ok x) P is = absurd cc
no_if_ok (Err e) P is = tt

-- what holds anyway holds of a success
pub all_if_ok : {T E : Type 0} (r : Result T E) (P : Type 0) → P → IfOk r (λ _. P)
all_if_ok (Ok x) P is = is
all_if_ok (Err e) P is = tt

-- nothing moved; or states alone; or a record was spilled
pub same_table : {Hash : Type 0} (limit : ℕ) (g : GroupsState Hash) → IsSameTable limit g g
same_table limit g = record { width = refl; hash = refl; finds = refl; within = λ is. is }

pub same_rest : (lists : PartitionsState) → KeepsRest lists lists
same_rest lists = record { reading = refl; pending = refl; level = refl }

pub moved_table : {Hash : Type 0} (limit : ℕ) (g h : GroupsState Hash) → h.table ≡ g.table → h.hash ≡ g.hash → h.most_held ≡ g.most_held
    → IsSameTable limit g h
moved_table limit g h same hashed held = record {
  width = ap (λ (t : TableState SipHash). t.width) same;
  hash = hashed;
  finds = ap (λ (t : TableState SipHash). t.hash) same;
  within = λ is. subst (λ held. held ≤ limit) (sym held) is;
}

pub moved_proceeds : {Hash : Type 0} (g h : GroupsState Hash) (lists : PartitionsState) → h.table ≡ g.table
    → Proceeds (entries_of g) lists (entries_of h) lists
moved_proceeds g h lists same =
    let many = as_many g h same in
    record { first = λ none clear. clear; slow = omega arith; few = omega (arith, many) }

pub spilled_proceeds : (entries : List Entry) (before after : PartitionsState) → (entries ≡ [] → before.partitions ≡ [] → false ≡ true)
    → spilled_number after ≡ spilled_number before + 1 → Proceeds entries before entries after
spilled_proceeds entries before after late counted = record {
  first = λ none clear. let is = late none clear in absurd cc;
  slow = omega (arith, counted);
  few = omega (arith, counted);
}

-- ---- twice

pub same_table_twice : {Hash : Type 0} {limit : ℕ} (a b c : GroupsState Hash) → IsSameTable limit a b → IsSameTable limit b c
    → IsSameTable limit a c
same_table_twice a b c first second = record {
  width = second.width ∙ first.width;
  hash = second.hash
      ∙ first.hash;
  finds = second.finds ∙ first.finds;
  within = λ is. second.within (first.within is);
}

pub keeps_rest_twice : (a b c : PartitionsState) → KeepsRest a b → KeepsRest b c → KeepsRest a c
keeps_rest_twice a b c first second = record {
  reading = second.reading ∙ first.reading;
  pending = second.pending
      ∙ first.pending;
  level = second.level ∙ first.level;
}

-- a run whose states count at most as many rows as are allowed
pub run_within : (q : Query) (m most : ℕ) (run : List Entry) → m ≤ most → IsRun q m run → IsRun q most run
run_within q m most run low is = record { groups = is.groups; are = groups_raised q m most run is.groups low is.are; rises = is.rises }
