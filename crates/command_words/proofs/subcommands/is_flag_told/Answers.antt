use Rattle.std.proofs.Common.{◌∙◌}
use Rattle.command_words.proofs.Flags.{is_true}
use Rattle.command_words.proofs.subcommands.is_flag_told.Goals as goal

pub returns : goal.returns
returns c = c.unwrap_or.ensures ∙ is_true _ c.get_one.result c.get_one.ensures.none c.get_one.ensures.value
