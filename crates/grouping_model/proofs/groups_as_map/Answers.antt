use Rattle.grouping_model.specs.Lemmas.PartLaws as laws
use Rattle.grouping_model.specs.PartLaws.{partials_at-part}
use Rattle.grouping_model.proofs.groups_as_map.Goals as goal

pub returns : goal.returns
returns c = record {
  keys = laws.keys_of-part;
  found = partials_at-part;
  appended = laws.part-append;
  not_selected = laws.part_passes;
  one_more_key = laws.keys_one_more;
}
