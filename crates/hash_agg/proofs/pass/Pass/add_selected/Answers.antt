use Rattle.std.specs.Prelude.{refl, ◌∷◌, ◌++◌, []}
use Rattle.std.proofs.Common.{sym, ◌∙◌, ap, arith}
use Rattle.std.proofs.lemmas.Result.{IfErr-weaker}
use Rattle.hash_agg.proofs.Words.{partials, Query, row_of, AreAdvanced, NoMemory, Packed_rows, query_of, AreRows, entries_of}
use Rattle.grouping_model.specs.Grouping.{key_of}
use Rattle.hash_agg.proofs.AddedLaws.{added_here, there_added, there_damaged, new_added, left_added, refused_still, refused_here}
use Rattle.hash_agg.specs.Lemmas.KeyLaws.{key_has}
use Rattle.hash_agg.proofs.ReturnLaws.{same_table, same_rest}
use Rattle.hash_agg.proofs.StepLaws.{key_brief, key_short, packed_short, row_told, new_room}
use Rattle.hash_agg.proofs.pass.Pass.add_selected.Goals as goal

pub returns-in-Ok : goal.returns-in-Ok
returns-in-Ok g c =
    let q : Query = query_of c.args.self.now in
    added_here _
    (there_added g.H.KeyHash.hash_of g.D.TapeDisk (Packed_rows (c.args.packed.now ∷ [])) c.args.self.now c.args.disk.now c.args.key.now
    (λ old new. AreAdvanced q.aggregates c.args.self.now.plan.most old (row_of c.args.row.now) new) c.requires.ready
    (row_told q c.args.self.now.plan.most c.args.packed.now c.args.key.now (row_of c.args.row.now) c.requires.ready.plan.formed
    c.requires.selected)
    c.advance.new.self c.in-Found.slot c.look_up.ensures.once c.in-Found.ensures.found c.in-Ok.ensures.written c.advance.ensures.table
    c.advance.ensures.hash c.advance.ensures.held (λ new moved. moved.within))

pub returns-in-Err : goal.returns-in-Err
returns-in-Err g c =
    let q : Query = query_of c.args.self.now in
    there_damaged g.H.KeyHash.hash_of g.D.TapeDisk (Packed_rows (c.args.packed.now ∷ [])) c.args.self.now c.args.disk.now c.args.key.now
    (λ old new. AreAdvanced q.aggregates c.args.self.now.plan.most old (row_of c.args.row.now) new) c.requires.ready
    (row_told q c.args.self.now.plan.most c.args.packed.now c.args.key.now (row_of c.args.row.now) c.requires.ready.plan.formed
    c.requires.selected)
    c.advance.new.self c.in-Found.slot c.in-Found.ensures.found c.advance.ensures.table c.advance.ensures.hash c.advance.ensures.held
    (λ more are m found states low. c.in-Err.ensures.refused (m, found, states, omega (arith, low)))

pub need_to_insert-requires-clause-key : goal.need_to_insert-requires-clause-key
need_to_insert-requires-clause-key g c =
    let q : Query = query_of c.args.self.now in
    key_brief q c.args.key.now (key_of q (row_of c.args.row.now)) c.requires.ready.plan.formed c.requires.selected.named
    (key_has q (row_of c.args.row.now) c.requires.ready.plan.formed.keys c.requires.selected.has)

pub returns-in_err-first_after : goal.returns-in_err-first_after
returns-in_err-first_after g c =
    let q : Query = query_of c.args.self.now in
    refused_here c.from_residual.result c.in_err-first_after.field-0.0 c.from_residual.ensures.1
    (λ can.
    let room = new_room c.args.self.now.plan (g.H.KeyHash.hash_of c.args.self.now.groups.hash) c.args.self.now.groups c.args.self.now.spill
    (g.D.TapeDisk.last c.args.disk.now) c.args.key.now
    (AreRows q (c.args.packed.now ∷ [])) (λ old new. AreAdvanced q.aggregates c.args.self.now.plan.most old (row_of c.args.row.now) new)
    (row_told q c.args.self.now.plan.most c.args.packed.now c.args.key.now (row_of c.args.row.now) c.requires.ready.plan.formed
    c.requires.selected) can in
    let low = room.2 in
    c.in_err-first_after.ensures.undamaged (0, partials q [], c.requires.ready.plan.states, omega (arith, low)))
    c.in_err-first_after.ensures.faultless

pub insert-requires-clause-key : goal.insert-requires-clause-key
insert-requires-clause-key g c =
    let q : Query = query_of c.args.self.now in
    key_short q c.args.key.now (key_of q (row_of c.args.row.now)) c.requires.ready.plan.formed c.requires.selected.named
    (key_has q (row_of c.args.row.now) c.requires.ready.plan.formed.keys c.requires.selected.has)

pub returns-in-Some : goal.returns-in-Some
returns-in-Some g c =
    let q : Query = query_of c.args.self.now in
    let within = c.in_ok-first_after.ensures.advanced.within in
    added_here _
    (new_added g.H.KeyHash.hash_of g.D.TapeDisk (Packed_rows (c.args.packed.now ∷ [])) c.args.self.now c.args.disk.now c.args.key.now
    (λ old new. AreAdvanced q.aggregates c.args.self.now.plan.most old (row_of c.args.row.now) new) c.requires.ready
    (row_told q c.args.self.now.plan.most c.args.packed.now c.args.key.now (row_of c.args.row.now) c.requires.ready.plan.formed
    c.requires.selected)
    c.insert.new.self c.first_after.new.states.items c.in-Some.need c.in-Vacant.ensures.found.0
    c.in-Some.ensures.room
    (c.in-Some.ensures.exact (g.H.KeyHash.hash_of c.args.self.now.groups.hash))
    (c.in_ok-insert.ensures.entered ∙ ap (λ states. entries_of c.args.self.now.groups ++ (c.args.key.now, states)
    ∷ []) c.deref.ensures.value) c.insert.ensures.table
    (λ more are low. c.in_ok-first_after.ensures.advanced.moved 0 (partials q []) (omega (arith, low)) c.requires.ready.plan.states)
    (key_of q (row_of c.args.row.now), within.0)
    (record {
      key = c.requires.selected.named;
      of_kinds = key_has q (row_of c.args.row.now) c.requires.ready.plan.formed.keys
          c.requires.selected.has;
      states = within.1;
    }))

pub spill-requires-clause-len : goal.spill-requires-clause-len
spill-requires-clause-len g c = packed_short c.args.self.now.plan.query.now.columns c.args.packed.now (row_of c.args.row.now)
    c.requires.ready.plan.columns c.requires.selected.is c.requires.selected.has

pub returns : goal.returns
returns g c =
    let q : Query = query_of c.args.self.now in
    record {
      added =
          left_added g.H.KeyHash.hash_of g.D.TapeDisk (Packed_rows (c.args.packed.now ∷ [])) c.args.self.now c.args.disk.now c.args.key.now
          (λ old new. AreAdvanced q.aggregates c.args.self.now.plan.most old (row_of c.args.row.now) new) c.requires.ready
          (row_told q c.args.self.now.plan.most c.args.packed.now c.args.key.now (row_of c.args.row.now) c.requires.ready.plan.formed
          c.requires.selected)
          c.spill.result c.spill.new.self c.spill.new.disk (record { hash = c.hash-hash.result; tag = 0; bytes = c.args.packed.now })
          c.in-Vacant.ensures.found.0
          (key_brief q c.args.key.now (key_of q (row_of c.args.row.now)) c.requires.ready.plan.formed c.requires.selected.named
          (key_has q (row_of c.args.row.now) c.requires.ready.plan.formed.keys c.requires.selected.has))
          (sym (c.in_default.ensures.exact (g.H.KeyHash.hash_of c.args.self.now.groups.hash)))
          (λ more are. record {
            tag = refl;
            of_kinds = c.requires.selected.has;
            bytes = c.requires.selected.is;
            met =
                c.requires.selected.met;
            hashed = c.hash-hash.ensures
                ∙ ap (g.H.KeyHash.hash_of c.args.self.now.groups.hash) c.requires.selected.named;
          })
          c.spill.ensures.rest c.spill.ensures.spilled;
      refused = IfErr-weaker c.spill.result _ _
          (λ error right. record {
            undamaged = λ can. right;
            kept = record {
              plan = refl;
              table = same_table _ _;
              spill =
                  c.spill.ensures.rest;
            };
          }) c.spill.ensures.undamaged;
      disk = c.spill.ensures.disk;
    }

pub returns-in_err-insert : goal.returns-in_err-insert
returns-in_err-insert g c =
    refused_still c.from_residual-in_err-insert.result NoMemory c.from_residual-in_err-insert.ensures.1
    (record {
      undamaged = λ can same. cc;
      kept = record {
        plan = refl;
        table = c.insert.ensures.table c.args.self.now.plan.limit
            c.in-Some.ensures.room.within;
        spill = same_rest _;
      };
    })
    (λ same. cc)
