use Rattle.summary_codec.specs.Lemmas.OneReading.{read_or_refused}
use Rattle.summary_codec.specs.declared.version.Version.TheVariants.{Second}
use Rattle.script_machine.proofs.saved.replica_of.Goals as goal

pub unreachable-requires : goal.unreachable-requires
unreachable-requires c =
    let held = c.requires.0 in
    read_or_refused c.args.file.now held.query held.parts c.in-Err.why (Second, c.requires.1)
    (c.in-Err.ensures.fault c.in_default.not-NoMemory)
