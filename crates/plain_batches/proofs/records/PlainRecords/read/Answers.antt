use Rattle.std.proofs.Common.{◌≡◌, ◌∙◌, Bool, true, false, not, ap, inl, refl, sym, subst}
use Rattle.std.proofs.lemmas.Bool.{false≢true}
use Rattle.csv.specs.Records.{fields_of}
use Rattle.csv.specs.declared.parser.Config.{Config}
use Rattle.plain_batches.specs.Plain.{config_of}
use Rattle.plain_batches.proofs.ReadingFacts.{reader-next, reader-read}
use Rattle.plain_batches.specs.Left.{records_left, delimiter_of}
use Rattle.plain_batches.proofs.records.PlainRecords.read.Goals as goal

is_found : (found : Bool) → not found ≡ false → found ≡ true
is_found true e = refl
is_found false e = absurd (false≢true (sym e))

pub invariant_of-self-2 : goal.invariant_of-self-2
invariant_of-self-2 c = λ more.
    let d = delimiter_of c.self.inside in
    let old = c.self.inside.reader in
    let new = c.read_byte_record.new.self in
    let between = c.self.invariant c.if-self.false in
    let found = is_found c.in-Ok.found more in
    let read = rw found at (c.in-Ok.ensures.reads between.1 between.2) in
    let next = reader-next d old new (fields_of c.read_byte_record.new.row) between.0 between.4 between.5 read in
    let same = subst (λ (config : Config). config ≡ config_of config.delimiter) (sym read.2) between.4 in
    (next.0, read.3 ∙ between.1, inl (c.in-Ok.ensures.ready between.1), c.in-Ok.ensures.flexible ∙ between.3, same, next.1)

pub returns : goal.returns
returns c =
    let old = c.self.inside.reader in
    let new = c.read_byte_record.new.self in
    let between = c.self.invariant c.if-self.false in
    let left : records_left c.self.inside ≡ records_left (record c.self.inside { has_ended = false }) = ap
    (λ (b : Bool). records_left (record c.self.inside { has_ended = b })) c.if-self.false in
    reader-read (delimiter_of c.self.inside) old new c.in-Ok.found (fields_of c.read_byte_record.new.row) c.args.self.now
    between.0 between.4
    between.5 (c.in-Ok.ensures.reads between.1 between.2) (sym c.self.view_is ∙ left)
