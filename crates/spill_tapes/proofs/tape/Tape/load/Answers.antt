use Rattle.std.proofs.Common.{rules, ◌≡◌, ◌<◌, ◌*◌, ◌^◌, ◌∷◌, refl, arith, ap, ◌∙◌, sym, subst, length}
use Rattle.std.proofs.lemmas.Grind.{common_steps}
use Rattle.std.proofs.lemmas.List.{with_items_is}
use Rattle.std.specs.Vec.{with_items}
use Rattle.std.proofs.lemmas.Result.{on_ok_weaker}
use Rattle.tape_disks.specs.Calls.{AreReadAt}
use Rattle.spill_tapes.specs.Pages.{PoolState, GivesBack}
use Rattle.spill_tapes.proofs.PoolLaws.{back, apart_first}
use Rattle.spill_tapes.proofs.PageLaws.{loaded}
use Rattle.spill_tapes.proofs.tape.Tape.load.Goals as goal

pub overflow_mul-page : goal.overflow_mul-page
overflow_mul-page g c =
    let first : c.args.self.now.pages ≡ c.unwrap-page.result ∷ c.pop_front.new.self.items = grind (arith, common_steps) in
    let small : c.unwrap-page.result < 2 ^ 49 = apart_first c.args.pool.now c.args.self.now.pages c.pop_front.new.self.items
    c.unwrap-page.result c.requires.pages.pool c.requires.pages.apart first in
    search rules

pub read_at-requires : goal.read_at-requires
read_at-requires g c =
    let first : c.args.self.now.pages ≡ c.unwrap-page.result ∷ c.pop_front.new.self.items = grind (arith, common_steps) in
    let small : c.unwrap-page.result < 2 ^ 49 = apart_first c.args.pool.now c.args.self.now.pages c.pop_front.new.self.items
    c.unwrap-page.result c.requires.pages.pool c.requires.pages.apart first in
    omega (arith, c.deref_mut.ensures.len, c.in_ok-resize.ensures.len)

pub returns-clause-pages : goal.returns-clause-pages
returns-clause-pages g c =
    let first : c.args.self.now.pages ≡ c.unwrap-page.result ∷ c.pop_front.new.self.items = grind (arith, common_steps) in
    subst (λ (p : PoolState). GivesBack c.args.pool.now c.args.self.now.pages p c.pop_front.new.self.items) (sym c.give_back.ensures)
    (back c.args.pool.now c.args.self.now.pages c.pop_front.new.self.items c.unwrap-page.result c.requires.pages first)

pub returns-clause-loaded : goal.returns-clause-loaded
returns-clause-loaded g c =
    let first : c.args.self.now.pages ≡ c.unwrap-page.result ∷ c.pop_front.new.self.items = grind (arith, common_steps) in
    let len : length c.read_at.new.bytes ≡ c.resize.new.self.len = c.read_at.ensures.len ∙ c.deref_mut.ensures.len in
    let same : (with_items c.resize.new.self c.read_at.new.bytes).items
    ≡ c.read_at.new.bytes = with_items_is c.resize.new.self c.read_at.new.bytes len in
    let full : length c.read_at.new.bytes ≡ 8192 = c.read_at.ensures.len ∙ c.deref_mut.ensures.len ∙ c.in_ok-resize.ensures.len in
    on_ok_weaker c.read_at.result
    (λ read honest bytes had. loaded (g.D.TapeDisk.last c.args.disk.now) (g.D.TapeDisk.last c.read_at.new.self) c.args.self.now _
    c.unwrap-page.result first c.requires.spent refl (ap length same ∙ full)
    (subst (λ bs. AreReadAt (g.D.TapeDisk.last c.args.disk.now) (c.unwrap-page.result * 8192) bs) (sym same) (read honest))
    c.read_at.ensures.keeps bytes had)
    c.read_at.ensures.read
