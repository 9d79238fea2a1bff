use Rattle.std.specs.Prelude.{◌≡◌, refl, ◌∷◌, ◌≤◌, [], length}
use Rattle.std.proofs.Common.{sym, ◌∙◌, subst}
use Rattle.std.proofs.lemmas.Result.{IfErr-weaker}
use Rattle.hash_agg.proofs.Words.{Record, NoMemory, Query, partials, functions, AreCombined, Entries, query_of, group_record}
use Rattle.hash_agg.proofs.AddedLaws.{added_here, there_added, there_damaged, new_added, left_added, refused_still, refused_here}
use Rattle.hash_agg.proofs.ReturnLaws.{same_table, same_rest}
use Rattle.hash_agg.proofs.StepLaws.{key_brief, key_short, group_short, same_wide, entry_told, one_group, is_group_record}
use Rattle.hash_agg.proofs.pass.Pass.add_group.Goals as goal

pub returns-in-Ok : goal.returns-in-Ok
returns-in-Ok g c =
    let q : Query = query_of c.args.self.now in
    added_here _
    (there_added g.H.KeyHash.hash_of g.D.TapeDisk (Entries ((c.args.key.now, c.args.states.now) ∷ [])) c.args.self.now c.args.disk.now
    c.args.key.now
    (λ old new. AreCombined (functions q) c.args.self.now.plan.most old c.args.states.now new) c.requires.ready
    (entry_told q c.args.self.now.plan.most c.args.key.now c.args.states.now)
    c.combine.new.self c.in-Found.slot c.look_up.ensures.once c.in-Found.ensures.found c.in-Ok.ensures.written c.combine.ensures.table
    c.combine.ensures.hash c.combine.ensures.held (λ new moved. moved.within))

pub returns-in-Err : goal.returns-in-Err
returns-in-Err g c =
    let q : Query = query_of c.args.self.now in
    there_damaged g.H.KeyHash.hash_of g.D.TapeDisk (Entries ((c.args.key.now, c.args.states.now) ∷ [])) c.args.self.now c.args.disk.now
    c.args.key.now
    (λ old new. AreCombined (functions q) c.args.self.now.plan.most old c.args.states.now new) c.requires.ready
    (entry_told q c.args.self.now.plan.most c.args.key.now c.args.states.now)
    c.combine.new.self c.in-Found.slot c.in-Found.ensures.found c.combine.ensures.table c.combine.ensures.hash c.combine.ensures.held
    (λ more are m found states low.
    let one = one_group q are.0 c.args.key.now c.args.states.now more are.1 in
    c.in-Err.ensures.refused (m, are.0, found, one.0.1, states, one.2.states, low))

pub need_to_insert-requires-clause-key : goal.need_to_insert-requires-clause-key
need_to_insert-requires-clause-key g c =
    let group = c.requires.group in
    key_brief (query_of c.args.self.now) c.args.key.now group.0.0 c.requires.ready.plan.formed group.1.key group.1.of_kinds

pub insert-requires-clause-key : goal.insert-requires-clause-key
insert-requires-clause-key g c =
    let group = c.requires.group in
    key_short (query_of c.args.self.now) c.args.key.now group.0.0 c.requires.ready.plan.formed group.1.key group.1.of_kinds

pub insert-requires-clause-states : goal.insert-requires-clause-states
insert-requires-clause-states g c =
    let q : Query = query_of c.args.self.now in
    let group = c.requires.group in
    same_wide (functions q) c.args.self.now.plan.most 0 c.args.states.now c.args.self.now.plan.first.items group.0.1 (partials q [])
    group.1.states c.requires.ready.plan.states ∙ sym c.requires.ready.width

pub returns-in-Some : goal.returns-in-Some
returns-in-Some g c =
    let q : Query = query_of c.args.self.now in
    let group = c.requires.group in
    added_here _
    (new_added g.H.KeyHash.hash_of g.D.TapeDisk (Entries ((c.args.key.now, c.args.states.now) ∷ [])) c.args.self.now c.args.disk.now
    c.args.key.now
    (λ old new. AreCombined (functions q) c.args.self.now.plan.most old c.args.states.now new) c.requires.ready
    (entry_told q c.args.self.now.plan.most c.args.key.now c.args.states.now)
    c.insert.new.self c.args.states.now c.in-Some.need c.in-Vacant.ensures.found.0 c.in-Some.ensures.room
    (c.in-Some.ensures.exact (g.H.KeyHash.hash_of c.args.self.now.groups.hash))
    c.in_ok-insert.ensures.entered c.insert.ensures.table
    (λ more are low. (one_group q are.0 c.args.key.now c.args.states.now more are.1).2.states) group.0 group.1)

pub write_group-requires : goal.write_group-requires
write_group-requires g c =
    let group = c.requires.group in
    key_short (query_of c.args.self.now) c.args.key.now group.0.0 c.requires.ready.plan.formed group.1.key group.1.of_kinds

pub spill-requires-clause-len : goal.spill-requires-clause-len
spill-requires-clause-len g c =
    let group = c.requires.group in
    let written : c.deref.result.now ≡ group_record c.args.key.now c.args.states.now = c.deref.ensures.value
    ∙ c.in_ok-write_group.ensures in
    subst (λ bytes. length bytes ≤ 65535) (sym written) (group_short (query_of c.args.self.now) c.args.self.now.plan.most c.args.key.now
    c.args.states.now group.0 c.requires.ready.plan.formed group.1)

pub returns : goal.returns
returns g c =
    let q : Query = query_of c.args.self.now in
    let group = c.requires.group in
    let one : Record = record { hash = c.hash-hash.result; tag = 1; bytes = c.deref.result.now } in
    let written : c.deref.result.now ≡ group_record c.args.key.now c.args.states.now = c.deref.ensures.value
    ∙ c.in_ok-write_group.ensures in
    record {
      added =
          left_added g.H.KeyHash.hash_of g.D.TapeDisk (Entries ((c.args.key.now, c.args.states.now) ∷ [])) c.args.self.now c.args.disk.now
          c.args.key.now
          (λ old new. AreCombined (functions q) c.args.self.now.plan.most old c.args.states.now new) c.requires.ready
          (entry_told q c.args.self.now.plan.most c.args.key.now c.args.states.now)
          c.spill.result c.spill.new.self c.spill.new.disk one c.in-Vacant.ensures.found.0
          (key_brief q c.args.key.now group.0.0 c.requires.ready.plan.formed group.1.key group.1.of_kinds)
          (sym (c.in_default.ensures.exact (g.H.KeyHash.hash_of c.args.self.now.groups.hash)))
          (λ more are.
          is_group_record q (g.H.KeyHash.hash_of c.args.self.now.groups.hash) are.0 one c.args.key.now c.args.states.now
          (one_group q are.0 c.args.key.now c.args.states.now more are.1).0 refl written c.hash-hash.ensures
          (one_group q are.0 c.args.key.now c.args.states.now more are.1).2)
          c.spill.ensures.rest c.spill.ensures.spilled;
      refused = IfErr-weaker c.spill.result _ _
          (λ error right. record {
            undamaged = λ can. right;
            kept = record {
              plan = refl;
              table = same_table _ _;
              spill =
                  c.spill.ensures.rest;
            };
          }) c.spill.ensures.undamaged;
      disk = c.spill.ensures.disk;
    }

pub returns-in_err-insert : goal.returns-in_err-insert
returns-in_err-insert g c =
    refused_still c.from_residual.result NoMemory c.from_residual.ensures.1
    (record {
      undamaged = λ can same. cc;
      kept = record {
        plan = refl;
        table = c.insert.ensures.table c.args.self.now.plan.limit
            c.in-Some.ensures.room.within;
        spill = same_rest _;
      };
    })
    (λ same. cc)

pub returns-in_err-write_group : goal.returns-in_err-write_group
returns-in_err-write_group g c =
    refused_here c.from_residual-in_err-write_group.result NoMemory c.from_residual-in_err-write_group.ensures.1 (λ can same. cc)
    (λ same. cc)
