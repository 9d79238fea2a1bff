use Rattle.std.specs.Prelude.{◌≤◌, ℕ}
use Rattle.std.proofs.Common.{◌∙◌, sym, ap, subst}
use Rattle.std.proofs.lemmas.Bool.{true≢false}
use Rattle.origin_prefix.specs.Parts.{Batches, Part}
use Rattle.replica_merge.specs.Lacking.{lacked_early}
use Rattle.replica_merge.proofs.LackedLaws.{part_short, part_long}
use Rattle.replica_merge.proofs.lacking.part_lacked.Goals as goal

pub returns-then-tells_upto : goal.returns-then-tells_upto
returns-then-tells_upto c = λ known lists.
    let origin : ℕ = c.args.origin in
    let part : Part = c.args.part.now in
    let early : Batches = c.in_ok-early.early.entries in
    c.from_fields.ensures
    ∙ (λ i. record { prefix = 0; run = c.new.ensures i; early = early })
    ∙ part_short known origin part early (c.in_ok-early.ensures known lists ∙ ap (lacked_early known origin) c.early.ensures)
    (λ n low high. sym (lists (origin, n)) ∙ c.tells_upto.ensures.0 c.if-tells_upto.true n low (subst (λ (m : ℕ). n ≤ m)
    (sym c.prefix.ensures) high))

pub returns : goal.returns
returns c = λ known lists.
    let origin : ℕ = c.args.origin in
    let part : Part = c.args.part.now in
    let early : Batches = c.in_ok-early.early.entries in
    c.from_fields-2.ensures
    ∙ (λ i. record { prefix = c.prefix-2.ensures i; run = (c.in_ok-run.ensures ∙ c.run.ensures) i; early = early })
    ∙ part_long known origin part early (c.in_ok-early.ensures known lists ∙ ap (lacked_early known origin) c.early.ensures)
    (λ all. absurd (true≢false (sym (c.tells_upto.ensures.1 (λ n low high. lists (origin, n) ∙ all n low (subst (λ (m : ℕ). n ≤ m)
    c.prefix.ensures high))) ∙ c.if-tells_upto.false)))
