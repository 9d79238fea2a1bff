use Rattle.std.proofs.Common.{◌+◌, ◌++◌, ap, ◌∙◌, subst}
use Rattle.spill_tapes.specs.Pages.{TakesPages}
use Rattle.spill_tapes.specs.Records.{header_of}
use Rattle.spill_tapes.specs.Tape.{TapeState}
use Rattle.spill_tapes.proofs.TapeLaws.{appended}
use Rattle.spill_tapes.proofs.PageLaws.{same_written, written_parts}
use Rattle.spill_tapes.proofs.PoolLaws.{takes_twice}
use Rattle.spill_tapes.proofs.tape.Tape.append.Goals as goal

pub returns-clause-appended : goal.returns-clause-appended
returns-clause-appended g c =
    let header = c.args.header in let view = c.self.view_is in let first = c.in_ok-put.ensures in let second = c.in_ok-put-2.ensures in
    appended (g.D.TapeDisk.last c.args.disk.now) (g.D.TapeDisk.last c.put-2.new.disk) c.args.self.now c.put-2.new.self _
    (record { hash = header.hash; tag = header.tag; bytes = c.args.bytes.now }) c.requires.record
    (λ bytes had. written_parts (g.D.TapeDisk.last c.put-2.new.disk) c.put-2.new.self bytes c.to_bytes.result c.args.bytes.now _
    (ap (λ bs. bs ++ c.args.bytes.now) (c.to_bytes.ensures ∙ ap (header_of header.hash header.tag) c.requires.len))
    (second.written (bytes ++ c.to_bytes.result)
    (first.written bytes (same_written (g.D.TapeDisk.last c.args.disk.now) c.args.self.now _ (ap (λ (t : TapeState). t.pages) view)
    (c.reserve_exact.ensures.items ∙ ap (λ (t : TapeState). t.buffer) view) bytes had))))
    (ap (λ (t : TapeState). t.pages) c.self-2.view_is)
    (ap (λ (t : TapeState). t.buffer) c.self-2.view_is)
    (ap (λ (t : TapeState). t.records + 1) c.self-2.view_is ∙ ap (λ n. n + 1) (second.same.records ∙ first.same.records
    ∙ ap (λ (t : TapeState). t.records) view))

pub returns-in_err-put-2-clause-pages : goal.returns-in_err-put-2-clause-pages
returns-in_err-put-2-clause-pages g c =
    subst (λ (t : TapeState). TakesPages c.args.pool.now t.pages c.put-2.new.pool c.put-2.new.self.pages) c.self.view_is
    (takes_twice _ _ _ _ _ _ c.in_ok-put.ensures.pages c.in_err-put-2.ensures.pages)
