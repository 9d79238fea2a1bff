use Rattle.std.specs.Prelude.{◌≡◌, ℕ, Bool, refl}
use Rattle.std.proofs.Common.{◌∙◌, sym, subst}
use Rattle.replica_merge.specs.Lemmas.Words.{Parts, Held, part_at, JoinedAside, JoinsHeld, MergesHeld, filled}
use Rattle.replica_merge.specs.Lemmas.MergedLaws.{merges, merged_held, aside_agree}
use Rattle.replica_merge.proofs.replica.Replica.commit.Goals as goal

pub invariant_of-self : goal.invariant_of-self
invariant_of-self c =
    let old : Parts = c.self.inside.parts.entries in
    let joined : Parts = c.joined.inside.parts.entries in
    let back : (o : ℕ) → part_at c.fill.new.parts.entries o ≡ filled (part_at joined o) (part_at old o) = λ o.
    c.fill.ensures.at o ∙ (λ i. filled (part_at (c.replace-old.ensures.after i).entries o)
    (part_at (c.replace-old.ensures.value i).entries o)) in
    let there = subst (λ (h : Held). (honest : Bool) × (other : Held) × JoinsHeld honest h other c.args.joined) (sym c.self.view_is)
    c.requires in
    merged_held there.0 c.self.inside.query old there.1.parts joined c.fill.new.parts.entries c.self.invariant there.2.held
    (subst (JoinedAside there.0 c.self.inside.query old there.1.parts) (sym c.joined.view_is) there.2.aside) back c.fill.ensures.rising

pub returns : goal.returns
returns c =
    let query = c.self.inside.query in
    let old : Parts = c.self.inside.parts.entries in
    let joined : Parts = c.joined.inside.parts.entries in
    let new : Parts = c.fill.new.parts.entries in
    let back : (o : ℕ) → part_at new o ≡ filled (part_at joined o) (part_at old o) = λ o.
    c.fill.ensures.at o ∙ (λ i. filled (part_at (c.replace-old.ensures.after i).entries o)
    (part_at (c.replace-old.ensures.value i).entries o)) in
    subst (λ (h : Held). (honest : Bool) (other : Held) → JoinsHeld honest h other c.args.joined
    → MergesHeld honest h other (record { query = query; parts = new })) c.self.view_is
    (λ honest other joins.
    let aside : JoinedAside honest query old other.parts joined = subst (JoinedAside honest query old other.parts) (sym c.joined.view_is)
    joins.aside in
    record {
      same = joins.same;
      asked = refl;
      held = c.self.invariant;
      other_held = joins.held;
      new_held = merged_held honest query old other.parts joined new c.self.invariant joins.held aside back c.fill.ensures.rising;
      agree = aside_agree honest query old other.parts joined aside;
      merges = merges honest query old other.parts joined new c.self.invariant joins.held aside back;
    })
