use Rattle.std.specs.Prelude.{◌≡◌, Some}
use Rattle.std.proofs.Common.{ap, sym, subst}
use Rattle.std.specs.Option.{is_some}
use Rattle.replica_merge.specs.MergeLaws.{merged_told, merged_fits}
use Rattle.replica_merge.specs.Results.{JoinsHeld, MergesHeld}
use Rattle.script_machine.proofs.Words.{Held, Store, Updates, replica_at}
use Rattle.script_machine.proofs.StoreLaws.{merge_refused, merged, one_there, store_replaced, turns_it, updated}
use Rattle.script_machine.proofs.session.Session.merge.Goals as goal

pub returns-in-Err : goal.returns-in-Err
returns-in-Err g c = λ owned. record {
  answers = merge_refused c.args.self.now c.args.into.now c.args.from.now owned c.in-Err.why c.in-Err.ensures.joins
      c.in-Err.ensures.undamaged;
  tells = c.in-Err.ensures.tells owned;
  disk = c.in-Err.ensures.disk;
  limit = λ right. c.in-Err.ensures.limit right owned;
}

pub commit-requires : goal.commit-requires
commit-requires g c =
    let honest = g.D.TapeDisk.honest c.args.disk.now in
    let found = subst (λ (s : Store). (own theirs : Held) × (replica_at s c.args.into.now ≡ Some own)
    × (replica_at s c.args.from.now ≡ Some theirs) × JoinsHeld honest own theirs c.in-Ok.joined) (sym c.self.view_is)
    c.in-Ok.ensures.joins in (
      honest,
      found.1,
      subst (λ (h : Held). JoinsHeld honest h found.1 c.in-Ok.joined)
          (one_there found.0 c.in-Some.replica.now found.2 (sym c.in-Some.ensures.value)) found.4,
    )

pub invariant_of-self : goal.invariant_of-self
invariant_of-self g c =
    let honest = g.D.TapeDisk.honest c.args.disk.now in
    let there = sym c.in-Some.ensures.value in
    let found = subst (λ (s : Store). (own theirs : Held) × (replica_at s c.args.into.now ≡ Some own)
    × (replica_at s c.args.from.now ≡ Some theirs) × JoinsHeld honest own theirs c.in-Ok.joined) (sym c.self.view_is)
    c.in-Ok.ensures.joins in
    let joins = subst (λ (h : Held). JoinsHeld honest h found.1 c.in-Ok.joined) (one_there found.0 c.in-Some.replica.now found.2 there)
    found.4 in
    store_replaced c.self.inside.means c.self.inside.columns c.self.inside.query c.self.inside.saved.entries c.args.into.now
    c.in-Some.replica.now c.commit.new.self c.self.inside.replicas (c.get_mut.follows.lender c.commit.new.self)
    c.self.invariant there (c.commit.ensures honest found.1 joins).asked ((c.get_mut.follows.holds c.commit.new.self).3 (ap is_some there))

pub returns : goal.returns
returns g c = λ owned.
    let honest = g.D.TapeDisk.honest c.args.disk.now in
    let there = sym c.in-Some.ensures.value in
    let old : Store = record {
      columns = c.self.inside.columns;
      query = c.self.inside.query;
      replicas = c.self.inside.replicas.entries;
      saved = c.self.inside.saved.entries;
      limit = c.self.inside.means.limit;
      seed = c.self.inside.means.seed;
    } in
    let new : Store = record {
      columns = c.self.inside.columns;
      query = c.self.inside.query;
      replicas =
          (c.get_mut.follows.lender c.commit.new.self).entries;
      saved = c.self.inside.saved.entries;
      limit = c.self.inside.means.limit;
      seed = c.self.inside.means.seed;
    } in
    let u : Updates old new c.args.into.now c.commit.new.self =
    updated c.self.inside.means c.self.inside.columns c.self.inside.query c.self.inside.saved.entries c.args.into.now
    c.commit.new.self c.self.inside.replicas (c.get_mut.follows.lender c.commit.new.self)
    ((c.get_mut.follows.holds c.commit.new.self).3 (ap is_some there)) in
    let found = subst (λ (s : Store). (own theirs : Held) × (replica_at s c.args.into.now ≡ Some own)
    × (replica_at s c.args.from.now ≡ Some theirs) × JoinsHeld honest own theirs c.in-Ok.joined)
    (sym c.self.view_is) c.in-Ok.ensures.joins in
    let own : Held = c.in-Some.replica.now in
    let theirs : Held = found.1 in
    let later : Held = c.commit.new.self in
    let joins : JoinsHeld honest own theirs c.in-Ok.joined =
    subst (λ (h : Held). JoinsHeld honest h theirs c.in-Ok.joined) (one_there found.0 own found.2 there) found.4 in
    let held : MergesHeld honest own theirs later = c.commit.ensures honest theirs joins in
    record {
      answers = turns_it c.self.view_is (merged old new c.args.into.now c.args.from.now owned own theirs later c.self.invariant there
          found.3 (merged_told honest own theirs later held) (merged_fits honest own theirs later held) held u);
      tells = c.in-Ok.ensures.tells owned;
      disk = c.in-Ok.ensures.disk;
      limit = λ right. c.in-Ok.ensures.limit right owned;
    }
