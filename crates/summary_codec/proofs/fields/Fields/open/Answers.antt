use Rattle.std.proofs.Common.{◌≡◌, ℕ, List, ◌++◌, sym, subst, ◌∙◌}
use Rattle.std.proofs.lemmas.Bool.{true≢false}
use Rattle.summary_codec.specs.Reading.{opened}
use Rattle.summary_codec.specs.Versions.{opening}
use Rattle.summary_codec.specs.declared.version.Version.TheVariants.{First, Second}
use Rattle.summary_codec.proofs.FieldLaws.{cut_short, no_opening}
use Rattle.summary_codec.proofs.fields.Fields.open.Goals as goal

pub returns-then-opens-clause-opened : goal.returns-then-opens-clause-opened
unfolding opened
returns-then-opens-clause-opened c = c.opens.ensures.opens c.if-opens.true

pub returns-then-opens-2-clause-opened : goal.returns-then-opens-2-clause-opened
unfolding opened
returns-then-opens-2-clause-opened c = sym (c.opens.ensures.other c.if-opens.false).0 ∙ c.opens-2.ensures.opens c.if-opens-2.true

pub returns-then-is_front-clause-fault : goal.returns-then-is_front-clause-fault
unfolding opened
returns-then-is_front-clause-fault c =
    let one = c.opens.ensures.other c.if-opens.false in
    let two = c.opens-2.ensures.other c.if-opens-2.false in
    cut_short Second c.args.self.now one.1 (subst (λ bytes. (more : List ℕ) × (opening Second ≡ bytes ++ more)) (two.0
    ∙ one.0) (c.is_front.ensures.0 c.if-is_front.true))

pub returns-then-is_front-2-clause-fault : goal.returns-then-is_front-2-clause-fault
unfolding opened
returns-then-is_front-2-clause-fault c =
    let one = c.opens.ensures.other c.if-opens.false in
    let two = c.opens-2.ensures.other c.if-opens-2.false in
    cut_short First c.args.self.now (λ rest is. two.1 rest (one.0 ∙ is)) (subst (λ bytes. (more : List ℕ) × (opening First ≡ bytes ++ more))
    (two.0 ∙ one.0) (c.is_front-2.ensures.0 c.if-is_front-2.true))

pub returns-clause-fault : goal.returns-clause-fault
unfolding opened
returns-clause-fault c =
    let one = c.opens.ensures.other c.if-opens.false in
    let two = c.opens-2.ensures.other c.if-opens-2.false in
    let same = two.0 ∙ one.0 in
    no_opening c.args.self.now (λ rest is. two.1 rest (one.0 ∙ is)) one.1
    (λ more. true≢false (sym (c.is_front-2.ensures.1 (subst (λ bytes. (m : List ℕ) × (opening First ≡ bytes ++ m)) (sym same) more))
    ∙ c.if-is_front-2.false))
    (λ more. true≢false (sym (c.is_front.ensures.1 (subst (λ bytes. (m : List ℕ) × (opening Second ≡ bytes ++ m)) (sym same) more))
    ∙ c.if-is_front.false))
