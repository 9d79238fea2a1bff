use Rattle.std.specs.Prelude.{◌++◌, ◌∷◌, []}
use Rattle.std.proofs.Common.{subst, rules}
use Rattle.group_runs.specs.Runs.{LieAs}
use Rattle.group_runs.proofs.FlatLaws.{cut_is, are_run, pushed}
use Rattle.group_runs.proofs.segment.Segment.push.Goals as goal

pub invariant_of-self-2 : goal.invariant_of-self-2
invariant_of-self-2 c =
    let old = c.self.inside in
    let lie : LieAs old.keys.items old.states.items old.ends.items c.args.self.now =
    subst (LieAs old.keys.items old.states.items old.ends.items) c.self.view_is c.self.invariant.lie in
    are_run c.extend_from_slice.new.self.items c.extend_from_slice-2.new.self.items c.push.new.self.items (c.args.self.now
    ++ (c.args.key.now, c.args.states.now) ∷ [])
    (pushed old.keys.items old.states.items old.ends.items c.args.self.now c.args.key.now c.args.states.now
    c.extend_from_slice.new.self.items c.extend_from_slice-2.new.self.items c.push.new.self.items (c.len.result, c.len-2.result) lie
    (search rules) (search rules) (search rules) (search rules) (search rules))
    c.requires

pub returns-clause-pushed : goal.returns-clause-pushed
returns-clause-pushed c =
    let old = c.self.inside in
    let lie : LieAs old.keys.items old.states.items old.ends.items c.args.self.now =
    subst (LieAs old.keys.items old.states.items old.ends.items) c.self.view_is c.self.invariant.lie in
    cut_is c.extend_from_slice.new.self.items c.extend_from_slice-2.new.self.items c.push.new.self.items (c.args.self.now
    ++ (c.args.key.now, c.args.states.now) ∷ [])
    (pushed old.keys.items old.states.items old.ends.items c.args.self.now c.args.key.now c.args.states.now
    c.extend_from_slice.new.self.items c.extend_from_slice-2.new.self.items c.push.new.self.items (c.len.result, c.len-2.result) lie
    (search rules) (search rules) (search rules) (search rules) (search rules))
