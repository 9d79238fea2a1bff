use Rattle.summary_codec.specs.Lemmas.OneReading.{one_file_version}
use Rattle.summary_codec.specs.Lemmas.ReadQueries.{same_behind}
use Rattle.summary_codec.specs.Lemmas.VersionLaws.{held_within}
use Rattle.summary_codec.proofs.laws.versions.Goals as goal

pub returns-clause-one : goal.returns-clause-one
returns-clause-one c = one_file_version

pub returns-clause-within : goal.returns-clause-within
returns-clause-within c = held_within

pub returns-clause-written_again : goal.returns-clause-written_again
returns-clause-written_again c = same_behind
