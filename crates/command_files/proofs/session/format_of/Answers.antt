use Rattle.std.proofs.Common.{◌∙◌, ap}
use Rattle.command_files.specs.Formats.{format_told}
use Rattle.command_files.proofs.session.format_of.Goals as goal

pub returns : goal.returns
returns c = c.format_named.ensures ∙ ap format_told c.value.ensures
