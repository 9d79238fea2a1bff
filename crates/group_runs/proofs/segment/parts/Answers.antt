use Rattle.std.proofs.Common.{◌∙◌}
use Rattle.group_runs.specs.Runs.{all_cut}
use Rattle.group_runs.proofs.FlatLaws.{cut_long, range_found}
use Rattle.group_runs.proofs.segment.parts.Goals as goal

pub part-requires-clause-rises : goal.part-requires-clause-rises
part-requires-clause-rises c = (range_found c.args.keys.now c.args.states.now c.args.ends.now
    (all_cut c.args.keys.now c.args.states.now c.args.ends.now) c.args.from c.args.to c.bound-start.result c.bound-end.result c.requires.lie
    (cut_long c.args.keys.now c.args.states.now (0, 0) c.args.ends.now) c.requires.rises c.requires.within c.bound-start.ensures
    c.bound-end.ensures).keys_low

pub part-requires-clause-within : goal.part-requires-clause-within
part-requires-clause-within c = (range_found c.args.keys.now c.args.states.now c.args.ends.now
    (all_cut c.args.keys.now c.args.states.now c.args.ends.now) c.args.from c.args.to c.bound-start.result c.bound-end.result c.requires.lie
    (cut_long c.args.keys.now c.args.states.now (0, 0) c.args.ends.now) c.requires.rises c.requires.within c.bound-start.ensures
    c.bound-end.ensures).keys_high

pub part-requires-2-clause-rises : goal.part-requires-2-clause-rises
part-requires-2-clause-rises c = (range_found c.args.keys.now c.args.states.now c.args.ends.now
    (all_cut c.args.keys.now c.args.states.now c.args.ends.now) c.args.from c.args.to c.bound-start.result c.bound-end.result c.requires.lie
    (cut_long c.args.keys.now c.args.states.now (0, 0) c.args.ends.now) c.requires.rises c.requires.within c.bound-start.ensures
    c.bound-end.ensures).states_low

pub part-requires-2-clause-within : goal.part-requires-2-clause-within
part-requires-2-clause-within c = (range_found c.args.keys.now c.args.states.now c.args.ends.now
    (all_cut c.args.keys.now c.args.states.now c.args.ends.now) c.args.from c.args.to c.bound-start.result c.bound-end.result c.requires.lie
    (cut_long c.args.keys.now c.args.states.now (0, 0) c.args.ends.now) c.requires.rises c.requires.within c.bound-start.ensures
    c.bound-end.ensures).states_high

pub returns : goal.returns
returns c = record {
  keys = c.part.ensures
      ∙ (range_found c.args.keys.now c.args.states.now c.args.ends.now (all_cut c.args.keys.now c.args.states.now c.args.ends.now)
      c.args.from c.args.to c.bound-start.result c.bound-end.result c.requires.lie (cut_long c.args.keys.now c.args.states.now (0, 0)
      c.args.ends.now) c.requires.rises c.requires.within c.bound-start.ensures c.bound-end.ensures).keys_there;
  states = c.part-2.ensures
      ∙ (range_found c.args.keys.now c.args.states.now c.args.ends.now (all_cut c.args.keys.now c.args.states.now c.args.ends.now)
      c.args.from c.args.to c.bound-start.result c.bound-end.result c.requires.lie (cut_long c.args.keys.now c.args.states.now (0, 0)
      c.args.ends.now) c.requires.rises c.requires.within c.bound-start.ensures c.bound-end.ensures).states_there;
}
