use Rattle.std.proofs.Common.{◌∙◌, ap}
use Rattle.command_files.specs.Formats.{known_format_told}
use Rattle.command_files.proofs.session.known_format_of.Goals as goal

pub returns : goal.returns
returns c = c.known_format_named.ensures ∙ ap known_format_told c.value.ensures
