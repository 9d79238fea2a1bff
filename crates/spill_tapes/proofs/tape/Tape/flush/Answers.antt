use Rattle.std.proofs.Common.{◌≡◌, ◌*◌, ◌++◌, ◌∷◌, [], length, ap, ◌∙◌, subst}
use Rattle.tape_disks.specs.Calls.{AreLast}
use Rattle.spill_tapes.specs.Pages.{KeepsPages}
use Rattle.spill_tapes.specs.Tape.{TapeState}
use Rattle.spill_tapes.proofs.PageLaws.{flushed, keeps_pages}
use Rattle.spill_tapes.proofs.tape.Tape.flush.Goals as goal

pub returns-clause-written : goal.returns-clause-written
returns-clause-written g c =
    let told = c.in_ok-write_at.ensures in
    let pool = c.args.pool.now in let now = c.args.self.now in let view = c.self.view_is in let page = c.in_ok-page.page in let taken =
    c.in_ok-page.ensures in
    let last = g.D.TapeDisk.last c.args.disk.now in let last' = g.D.TapeDisk.last c.write_at.new.self in
    let same : c.deref.result.now ≡ now.buffer = c.deref.ensures.value ∙ ap (λ (t : TapeState). t.buffer) view in
    let keeps : KeepsPages pool last last' = keeps_pages last last' pool page (length c.deref.result.now) taken.fresh (ap length same
    ∙ c.requires.full) told.keeps in
    flushed last last' pool now _ page c.requires.pages.apart keeps c.requires.full
    (subst (λ bs. AreLast last' (page * 8192) bs) same told.written)
    (taken.taken ∙ ap (λ (t : TapeState). t.pages ++ page ∷ []) view)
    c.clear.ensures.items
