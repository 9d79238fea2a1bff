use Rattle.summary_codec.specs.Lemmas.SpelledRead as spelled
use Rattle.summary_codec.specs.Lemmas.WrittenRead as written
use Rattle.summary_codec.proofs.laws.one_spelling.Goals as goal

pub returns : goal.returns
returns c = record { read_again = written.read_again; spelled = spelled.spelled }
