use Rattle.std.specs.Prelude.{◌≡◌, ◌++◌, ◌∷◌, [], ℕ, Bool, true, false, not, List}
use Rattle.std.proofs.Common.{sym, ◌∙◌, ap}
use Rattle.std.proofs.lemmas.Slice.Eq.{bytes_eq-Decides}
use Rattle.std.specs.Str.{bytes_eq}
use Rattle.group_runs.specs.Runs.{Entry}
use Rattle.group_runs.specs.PlaceLaws.{take_found}
use Rattle.group_runs.proofs.run.Run.same_groups.Goals as goal

not_other : (b : Bool) → false ≡ not b → b ≡ true
not_other true e = sym (ap not e)
not_other false e = e

same : (xs ys : List ℕ) → false ≡ not (bytes_eq xs ys) → xs ≡ ys
same xs ys e = (bytes_eq-Decides xs ys).0 (not_other (bytes_eq xs ys) e)

pub loop-place-preserved : goal.loop-place-preserved
loop-place-preserved c =
    let n = c.loop-place.place in
    let one : Entry = (c.group.result.0.now, c.group.result.1.now) in
    let other : Entry = (c.group-in-loop-place.result.0.now, c.group-in-loop-place.result.1.now) in
    let keys : one.0 ≡ other.0 = same one.0 other.0 c.if-ne.ensures in
    let states : one.1 ≡ other.1 = same one.1 other.1 c.if-ne-2.ensures in
    take_found c.args.self.now n one c.group.ensures
    ∙ (λ i. c.loop-place.invariant i ++ (keys i, states i) ∷ [])
    ∙ sym (take_found c.args.other.now n other c.group-in-loop-place.ensures)
