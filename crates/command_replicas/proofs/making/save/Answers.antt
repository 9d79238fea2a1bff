use Rattle.std.specs.Prelude.{◌≡◌, length}
use Rattle.std.proofs.Common.{sym, ◌∙◌, ap, arith}
use Rattle.summary_codec.specs.Lemmas.SpelledRead.{spelled}
use Rattle.summary_codec.specs.declared.version.Version.TheVariants.{Second}
use Rattle.command_replicas.proofs.making.save.Goals as goal

pub new-requires : goal.new-requires
new-requires c =
    let q = c.args.replica.now.query in
    let parts = c.args.replica.now.parts in
    let told = c.in_ok-len.ensures in
    let one : c.in_ok-file.file.items ≡ told.file = (spelled Second c.in_ok-file.file.items q parts c.in_ok-file.ensures.summary).0
    ∙ sym (spelled Second told.file q parts told.is).0 in
    let same = ap length one in
    let counted = told.counted in
    let low = c.if-len-gt-MAX_INPUT_LEN.false in
    record { held = c.args.replica.now; is = c.in_ok-file.ensures.summary; short = omega (arith, same, counted, low) }
