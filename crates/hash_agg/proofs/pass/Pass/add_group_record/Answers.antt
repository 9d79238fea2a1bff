use Rattle.std.specs.Prelude.{refl, ◌∷◌, [], List, ℕ}
use Rattle.std.proofs.Common.{sym, ◌∙◌}
use Rattle.hash_agg.proofs.Words.{Query, packing, Entries, On_tape, query_of, Of_group, standing}
use Rattle.hash_agg.proofs.AddedLaws.{same_pass, genuine_by, refused_here, damaged_here}
use Rattle.hash_agg.proofs.RecordLaws.{can_group_record, split_right, record_is_group}
use Rattle.hash_agg.proofs.StepLaws.{key_short, is_group_record}
use Rattle.hash_agg.proofs.pass.Pass.add_group_record.Goals as goal

pub returns-in_default : goal.returns-in_default
returns-in_default g c =
    damaged_here
    (λ can.
    let one = can_group_record c.args.self.now.plan (g.H.KeyHash.hash_of c.args.self.now.groups.hash) c.args.hash c.args.bytes.now
    (standing c.args.self.now.groups c.args.self.now.spill (g.D.TapeDisk.last c.args.disk.now)) can in
    c.in_default.ensures (packing one.0.0) one.2.states (key_short (query_of c.args.self.now) (packing one.0.0) one.0.0
    c.requires.ready.plan.formed refl one.2.stands.of_kinds) one.2.bytes)
    (same_pass c.args.self.now)

pub returns-in_err-check_group : goal.returns-in_err-check_group
returns-in_err-check_group g c =
    refused_here c.from_residual.result c.in_err-check_group.field-0.0 c.from_residual.ensures.1
    (λ can.
    let is = split_right c.args.self.now.plan (g.H.KeyHash.hash_of c.args.self.now.groups.hash) c.args.hash c.args.bytes.now
    c.in-Some.key.now c.in-Some.states.now
    (standing c.args.self.now.groups c.args.self.now.spill (g.D.TapeDisk.last c.args.disk.now)) c.requires.ready.plan.formed
    c.in-Some.ensures.0 c.in-Some.ensures.1 can in
    c.in_err-check_group.ensures.undamaged is.1 is.0 is.4 is.2)
    c.in_err-check_group.ensures.faultless

pub returns-then-hash : goal.returns-then-hash
returns-then-hash g c =
    damaged_here
    (λ can.
    let is = split_right c.args.self.now.plan (g.H.KeyHash.hash_of c.args.self.now.groups.hash) c.args.hash c.args.bytes.now
    c.in-Some.key.now c.in-Some.states.now
    (standing c.args.self.now.groups c.args.self.now.spill (g.D.TapeDisk.last c.args.disk.now)) c.requires.ready.plan.formed
    c.in-Some.ensures.0 c.in-Some.ensures.1 can in
    c.if-hash.true (is.3 ∙ sym c.hash.ensures))
    (same_pass c.args.self.now)

pub returns : goal.returns
returns g c =
    let q : Query = query_of c.args.self.now in
    let hf : List ℕ → ℕ = g.H.KeyHash.hash_of c.args.self.now.groups.hash in
    let stands = c.in_ok-check_group.ensures.stands in
    genuine_by g.H.KeyHash.hash_of g.D.TapeDisk (On_tape c.args.hash 1 c.args.bytes.now) (Entries ((c.in-Some.key.now, c.in-Some.states.now)
    ∷ [])) c.args.self.now c.args.disk.now
    (record_is_group q hf c.args.hash c.args.bytes.now c.in-Some.key.now c.in-Some.states.now c.requires.ready.plan.formed
    c.in-Some.ensures.0 c.in-Some.ensures.1)
    c.add_group.result c.add_group.new.self c.add_group.new.disk (
      Of_group stands.0 c.args.self.now.plan.most,
      (
        is_group_record q hf c.args.self.now.plan.most (record { hash = c.args.hash; tag = 1; bytes = c.args.bytes.now }) c.in-Some.key.now
            c.in-Some.states.now stands.0 refl c.in-Some.ensures.1 (c.if-hash.false ∙ c.hash.ensures) stands.1,
        tt,
      ),
    )
    c.add_group.ensures
