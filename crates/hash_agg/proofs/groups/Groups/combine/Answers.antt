use Rattle.std.specs.Prelude.{◌≡◌, length, OnOk, OnErr}
use Rattle.std.proofs.Common.{subst, rules}
use Rattle.hash_agg.proofs.Words.{functions, meaning, HaveRoomWithin, AreCombined}
use Rattle.hash_agg.proofs.NeedLaws.{still_held, written_over, no_room_over}
use Rattle.context_tree.specs.TreeLends.{with_bytes_in}
use Rattle.hash_agg.proofs.groups.Groups.combine.Goals as goal

pub returns-clause-written : goal.returns-clause-written
returns-clause-written g c =
    let wide : length c.combine_within.new.states ≡ c.self.inside.table.width = search rules in
    written_over c.combine_within.result _ c.args.self.now c.args.slot _ c.self.view_is c.state_mut-states.ensures.state
    (with_bytes_in c.self.inside.tree c.self.inside.table.states c.args.slot.state c.combine_within.new.states) c.combine_within.new.states
    (λ old new. AreCombined (functions (meaning c.args.query.now)) c.args.most old c.args.more.now new)
    (λ place at. (c.state_mut-states.ensures.written c.combine_within.new.states).written wide place at)
    (subst (λ these. OnOk c.combine_within.result (AreCombined these c.args.most c.state_mut-states.result.now c.args.more.now
    c.combine_within.new.states)) c.agg_kinds.ensures.functions c.combine_within.ensures.combined)

pub returns-clause-refused : goal.returns-clause-refused
returns-clause-refused g c =
    no_room_over c.combine_within.result _ c.args.self.now c.args.slot _ c.self.view_is c.state_mut-states.ensures.state
    (λ states. HaveRoomWithin (functions (meaning c.args.query.now)) c.args.most states c.args.more.now)
    (subst (λ these. OnErr c.combine_within.result (¬ (HaveRoomWithin these c.args.most c.state_mut-states.result.now c.args.more.now)))
    c.agg_kinds.ensures.functions c.combine_within.ensures.refused)

pub invariant_of-self : goal.invariant_of-self
invariant_of-self g c =
    let wide : length c.combine_within.new.states ≡ c.self.inside.table.width = search rules in
    still_held _ c.args.self.now c.args.slot _ c.combine_within.new.states c.self.view_is c.self.invariant c.requires.slot
    ((c.state_mut-states.ensures.written c.combine_within.new.states).stands wide) ((c.state_mut-states.ensures.written c.combine_within.new.states).holds wide)
    (λ place at. (c.state_mut-states.ensures.written c.combine_within.new.states).written wide place at)
