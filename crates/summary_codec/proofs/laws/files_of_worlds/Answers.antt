use Rattle.std.proofs.Common.{sym, subst}
use Rattle.summary_codec.specs.Reading.{IsSummaryIn}
use Rattle.summary_codec.specs.Worlds.{world_parts}
use Rattle.summary_codec.specs.Lemmas.WorldLaws.{second_keeps, world_read}
use Rattle.summary_codec.proofs.laws.files_of_worlds.Goals as goal

pub returns : goal.returns
returns c = record {
  read = λ version query world known bytes is_query utf8 is_world keeps is.
      subst (λ b. IsSummaryIn version b query (world_parts query world known)) (sym is.bytes_are)
      (world_read query world known is_query is_world is.of_world version keeps utf8);
  second = second_keeps;
}
