use Rattle.std.specs.Prelude.{◌≡◌, refl, Ok, Err, Some, unwrap_or}
use Rattle.std.proofs.Common.{◌∙◌, ap, sym, subst}
use Rattle.hash_agg.specs.Lemmas.RanLaws.{refused_still}
use Rattle.hash_agg.specs.Ran.{Ran, Done, Refused}
use Rattle.origin_prefix.specs.Errors.{join_reason}
use Rattle.spill_partitions.specs.declared.error.SpillError.TheVariants as spill
use Rattle.replica_merge.specs.Lemmas.Words.{AreCounted, BatchTells, DeliversBatch, Held, IsPartOf, Part, Parts, aggregations_on}
use Rattle.replica_merge.specs.Lemmas.Words.{empty, AreHeldParts}
use Rattle.replica_merge.specs.Lemmas.Words.{part_of}
use Rattle.replica_merge.specs.Lemmas.DeliveredLaws.{delivered_held, none_tells, part_is, placed_delivers, placed_part, placed_refused}
use Rattle.replica_merge.specs.Lemmas.DeliveredLaws.{placed_there}
use Rattle.replica_merge.specs.Lemmas.DeliveredLaws.{taken_at}
use Rattle.replica_merge.proofs.replica.Replica.deliver.Goals as goal

pub deliver-requires-clause-part : goal.deliver-requires-clause-part
deliver-requires-clause-part g c =
    let old : Parts = c.self.inside.parts.entries in
    let origin = c.args.batch.origin in
    let own : c.in-Some.part.now ≡ part_of old origin = ap (λ o. unwrap_or o empty) c.in-Some.ensures.value
    ∙ placed_part old c.place_of.new.parts.entries origin c.in-Ok.is_new c.in-Ok.ensures.place in
    subst (IsPartOf c.self.inside.query) (sym own) (part_is c.self.inside.query old c.self.invariant origin)

pub unreachable-requires : goal.unreachable-requires
unreachable-requires g c =
    placed_there c.self.inside.parts.entries c.place_of.new.parts.entries c.args.batch.origin c.in-Ok.is_new c.in-Ok.ensures.place
    (sym c.in_default-get_mut.ensures.value)

pub invariant_of-self-in-Ok-deliver : goal.invariant_of-self-in-Ok-deliver
invariant_of-self-in-Ok-deliver g c =
    let honest = g.D.TapeDisk.honest c.args.disk.now in
    let old : Parts = c.self.inside.parts.entries in
    let batch = c.args.batch in
    let after = c.get_mut.follows.lender c.deliver.new.self in
    let taken = taken_at (Ok c.in-Ok-deliver.delivered) honest c.self.inside.query c.place_of.new.parts after batch c.in-Some.part.now
    c.deliver.new.self (sym c.in-Some.ensures.value) (c.get_mut.follows.holds c.deliver.new.self) c.in-Ok-deliver.ensures.delivery in
    delivered_held honest c.self.inside.query old after.entries batch.origin batch.number batch.rows c.in-Ok-deliver.delivered
    c.self.invariant c.requires.limits
    (placed_delivers honest c.self.inside.query old c.place_of.new.parts.entries after.entries batch.origin batch.number batch.rows
    c.in-Ok-deliver.delivered c.in-Ok.is_new c.in-Ok.ensures.place taken.0)

pub invariant_of-self-in-Err : goal.invariant_of-self-in-Err
invariant_of-self-in-Err g c =
    let honest = g.D.TapeDisk.honest c.args.disk.now in
    let old : Parts = c.self.inside.parts.entries in
    let batch = c.args.batch in
    let after = c.get_mut.follows.lender c.deliver.new.self in
    let refused = taken_at (Err c.in-Err.refused) honest c.self.inside.query c.place_of.new.parts after batch c.in-Some.part.now
    c.deliver.new.self (sym c.in-Some.ensures.value) (c.get_mut.follows.holds c.deliver.new.self) c.in-Err.ensures.delivery in
    let back = placed_refused old c.place_of.new.parts.entries after.entries c.take_back.new.parts.entries batch c.in-Err.refused
    c.in-Ok.is_new c.in-Ok.ensures.place refused.1 c.take_back.ensures in
    subst (AreHeldParts c.self.inside.query) (sym back.same) c.self.invariant

pub returns-in_default-clause-delivers : goal.returns-in_default-clause-delivers
returns-in_default-clause-delivers g c =
    let old : Parts = c.self.inside.parts.entries in
    let batch = c.args.batch in
    let none = c.in_default.ensures.none in
    subst (λ (h : Held). DeliversBatch (g.D.TapeDisk.honest c.args.disk.now) h batch
    (record { query = c.self.inside.query; parts = c.place_of.new.parts.entries })
    (Err (record { batch = batch; why = c.from-why.result }))) c.self.view_is
    (record {
      held = c.self.invariant;
      limits = c.requires.limits;
      asked = refl;
      taken = tt;
      refused = record {
        back = refl;
        same = none.1;
        tells = subst (λ w. BatchTells w (part_of old batch.origin) batch.number batch.rows) (sym c.from-why.ensures)
            (none_tells old batch.origin batch.number none.0, λ other. absurd (other refl));
      };
    })

pub returns-in_default-clause-ran : goal.returns-in_default-clause-ran
returns-in_default-clause-ran g c =
    let batch = c.args.batch in
    subst (λ w. Ran g.D.TapeDisk g.H.KeyHash.hash_of c.args.self.now.query c.args.means.now
    (AreCounted (aggregations_on (part_of c.args.self.now.parts batch.origin) batch.number batch.rows)) (Refused (join_reason w))
    c.args.disk.now c.args.executor.now c.args.disk.now c.args.executor.now) (sym c.from-why.ensures)
    (refused_still g.D.TapeDisk g.H.KeyHash.hash_of c.args.self.now.query c.args.means.now
    (AreCounted (aggregations_on (part_of c.args.self.now.parts batch.origin) batch.number batch.rows)) (Some spill.NoMemory)
    c.args.disk.now c.args.executor.now refl (λ honest same. cc))

pub returns-in-Ok-deliver-clause-delivers : goal.returns-in-Ok-deliver-clause-delivers
returns-in-Ok-deliver-clause-delivers g c =
    let honest = g.D.TapeDisk.honest c.args.disk.now in
    let old : Parts = c.self.inside.parts.entries in
    let batch = c.args.batch in
    let after = c.get_mut.follows.lender c.deliver.new.self in
    let taken = taken_at (Ok c.in-Ok-deliver.delivered) honest c.self.inside.query c.place_of.new.parts after batch c.in-Some.part.now
    c.deliver.new.self (sym c.in-Some.ensures.value) (c.get_mut.follows.holds c.deliver.new.self) c.in-Ok-deliver.ensures.delivery in
    subst (λ (h : Held). DeliversBatch honest h batch (record { query = c.self.inside.query; parts = after.entries })
    (Ok c.in-Ok-deliver.delivered)) c.self.view_is
    (record {
      held = c.self.invariant;
      limits = c.requires.limits;
      asked = refl;
      taken = placed_delivers honest c.self.inside.query old c.place_of.new.parts.entries after.entries batch.origin batch.number
          batch.rows c.in-Ok-deliver.delivered c.in-Ok.is_new c.in-Ok.ensures.place taken.0;
      refused = tt;
    })

pub returns-in-Ok-deliver-clause-ran : goal.returns-in-Ok-deliver-clause-ran
returns-in-Ok-deliver-clause-ran g c =
    let old : Parts = c.self.inside.parts.entries in
    let batch = c.args.batch in
    let own : c.in-Some.part.now ≡ part_of old batch.origin = ap (λ o. unwrap_or o empty) c.in-Some.ensures.value
    ∙ placed_part old c.place_of.new.parts.entries batch.origin c.in-Ok.is_new c.in-Ok.ensures.place in
    subst (λ (h : Held). Ran g.D.TapeDisk g.H.KeyHash.hash_of h.query c.args.means.now
    (AreCounted (aggregations_on (part_of h.parts batch.origin) batch.number batch.rows)) Done c.args.disk.now c.args.executor.now
    c.deliver.new.disk c.deliver.new.executor) c.self.view_is
    (subst (λ (p : Part). Ran g.D.TapeDisk g.H.KeyHash.hash_of c.self.inside.query c.args.means.now
    (AreCounted (aggregations_on p batch.number batch.rows)) Done c.args.disk.now c.args.executor.now
    c.deliver.new.disk c.deliver.new.executor) own c.in-Ok-deliver.ensures.ran)

pub returns-in-Err-clause-delivers : goal.returns-in-Err-clause-delivers
returns-in-Err-clause-delivers g c =
    let honest = g.D.TapeDisk.honest c.args.disk.now in
    let old : Parts = c.self.inside.parts.entries in
    let batch = c.args.batch in
    let after = c.get_mut.follows.lender c.deliver.new.self in
    let refused = taken_at (Err c.in-Err.refused) honest c.self.inside.query c.place_of.new.parts after batch c.in-Some.part.now
    c.deliver.new.self (sym c.in-Some.ensures.value) (c.get_mut.follows.holds c.deliver.new.self) c.in-Err.ensures.delivery in
    subst (λ (h : Held). DeliversBatch honest h batch (record { query = c.self.inside.query; parts = c.take_back.new.parts.entries })
    (Err c.in-Err.refused)) c.self.view_is
    (record {
      held = c.self.invariant;
      limits = c.requires.limits;
      asked = refl;
      taken = tt;
      refused = placed_refused old c.place_of.new.parts.entries after.entries c.take_back.new.parts.entries batch c.in-Err.refused
          c.in-Ok.is_new c.in-Ok.ensures.place refused.1 c.take_back.ensures;
    })

pub returns-in-Err-clause-ran : goal.returns-in-Err-clause-ran
returns-in-Err-clause-ran g c =
    let old : Parts = c.self.inside.parts.entries in
    let batch = c.args.batch in
    let ended = Refused (join_reason c.in-Err.refused.why) in
    let own : c.in-Some.part.now ≡ part_of old batch.origin = ap (λ o. unwrap_or o empty) c.in-Some.ensures.value
    ∙ placed_part old c.place_of.new.parts.entries batch.origin c.in-Ok.is_new c.in-Ok.ensures.place in
    subst (λ (h : Held). Ran g.D.TapeDisk g.H.KeyHash.hash_of h.query c.args.means.now
    (AreCounted (aggregations_on (part_of h.parts batch.origin) batch.number batch.rows)) ended c.args.disk.now c.args.executor.now
    c.deliver.new.disk c.deliver.new.executor) c.self.view_is
    (subst (λ (p : Part). Ran g.D.TapeDisk g.H.KeyHash.hash_of c.self.inside.query c.args.means.now
    (AreCounted (aggregations_on p batch.number batch.rows)) ended c.args.disk.now c.args.executor.now
    c.deliver.new.disk c.deliver.new.executor) own c.in-Err.ensures.ran)
