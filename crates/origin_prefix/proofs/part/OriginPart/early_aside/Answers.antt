use Rattle.std.specs.Prelude.{List}
use Rattle.std.proofs.Common.{◌∙◌, ap}
use Rattle.group_runs.specs.Runs.{Entry}
use Rattle.origin_prefix.specs.Parts.{Batches, Part}
use Rattle.origin_prefix.proofs.AsideLaws.{stand_by}
use Rattle.origin_prefix.proofs.part.OriginPart.early_aside.Goals as goal

pub returns : goal.returns
returns c =
    let a : Part = record { prefix = c.self.inside.prefix; run = c.self.inside.run; early = c.self.inside.early.entries } in
    let b : Part = record { prefix = c.other.inside.prefix; run = c.other.inside.run; early = c.other.inside.early.entries } in
    let both : Batches = c.copy_above.new.into.entries in
    stand_by a c.args.self.now b c.args.other.now c.from_fields.result c.in_ok-early.early.entries both c.self.view_is c.other.view_is
    (c.from_fields.ensures ∙ ap (λ (run : List Entry). record { prefix = 0; run = run; early = both }) c.new.ensures)
    c.in_ok-copy_above.ensures.rising c.in_ok-early.ensures.rows c.in_ok-copy_above.ensures.rows
