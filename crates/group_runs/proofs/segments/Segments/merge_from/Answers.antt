use Rattle.std.specs.Prelude.{◌≡◌, length}
use Rattle.std.proofs.Common.{sym, ◌∙◌, ap, subst, arith}
use Rattle.std.proofs.lemmas.List.{nil_from_length}
use Rattle.group_runs.proofs.Words.{Rises, HasRoomForRun, AddsRun, concatenated, replaced}
use Rattle.group_runs.proofs.JoinLaws.{adds_all, added_rises, added_few}
use Rattle.group_runs.proofs.RunLaws.{rises_of}
use Rattle.group_runs.proofs.segments.Segments.merge_from.Goals as goal

pub returns-then-len-eq0-clause-added : goal.returns-then-len-eq0-clause-added
returns-then-len-eq0-clause-added c =
    λ q same.
    let none = nil_from_length (concatenated c.args.self.now) (sym c.len.ensures.length ∙ c.if-len-eq0.true) in
    subst (λ new. AddsRun q (concatenated c.args.self.now) (concatenated c.args.more.now) (concatenated new)) (sym c.in_ok-self.ensures)
    (subst (λ old. AddsRun q old (concatenated c.args.more.now) (concatenated c.args.more.now)) (sym none)
    (adds_all q (concatenated c.args.more.now) (rises_of _ _ _ c.requires)))

pub replace-requires-clause-rises : goal.replace-requires-clause-rises
replace-requires-clause-rises c =
    let (q, named, has) = c.requires in
    let cut = concatenated c.cut_large.new.self in
    let same : cut ≡ concatenated c.args.self.now = c.in_ok-cut_large.ensures.same in
    added_rises q cut (concatenated c.args.more.now) (concatenated (replaced c.in_ok-fresh.fresh.items c.cut_large.new.self))
    (subst Rises (sym same) c.len.ensures.rises) (subst (λ es. HasRoomForRun q es (concatenated c.args.more.now)) (sym same) has)
    (c.in_ok-fresh.ensures q named).added

pub replace-requires-clause-few : goal.replace-requires-clause-few
replace-requires-clause-few c =
    let (q, named, has) = c.requires in
    let cut = concatenated c.cut_large.new.self in
    let same : cut ≡ concatenated c.args.self.now = c.in_ok-cut_large.ensures.same in
    let few = added_few q cut (concatenated c.args.more.now) (concatenated (replaced c.in_ok-fresh.fresh.items c.cut_large.new.self))
    (subst (λ es. HasRoomForRun q es (concatenated c.args.more.now)) (sym same) has) (c.in_ok-fresh.ensures q named).added in
    let long = ap length same in
    let second = c.len-2.ensures.length in
    let third = c.len-3.ensures.length in
    let test = c.if-len.false in
    let bound = c.len-3.type_inv in
    omega (arith, few, long, second, third, test, bound)
