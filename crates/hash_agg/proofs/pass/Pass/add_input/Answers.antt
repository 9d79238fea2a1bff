use Rattle.std.specs.Prelude.{◌∷◌, []}
use Rattle.std.proofs.Common.{sym, subst, arith}
use Rattle.std.proofs.lemmas.List.Sums.{sum_by-cons}
use Rattle.hash_agg.proofs.Words.{Input, Added, Adds, AreInputs, query_of, source_of, Counted, brought, rows_in}
use Rattle.hash_agg.proofs.ReturnLaws.{run_within}
use Rattle.hash_agg.proofs.pass.Pass.add_input.Goals as goal

pub add_run-requires-clause-run : goal.add_run-requires-clause-run
add_run-requires-clause-run g c =
    let given = subst (λ (input : Input). AreInputs (query_of c.args.self.now) c.args.self.now.plan.most (brought input ∷ []))
    c.in-Groups.is c.requires.input in
    let few = given.few in
    let sum = sum_by-cons rows_in (Counted c.in-Groups.run'.now c.in-Groups.rows) [] in
    run_within (query_of c.args.self.now) c.in-Groups.rows c.args.self.now.plan.most c.in-Groups.run'.now (omega (arith, few, sum))
    given.are.0

pub add_rows-requires-clause-packings : goal.add_rows-requires-clause-packings
add_rows-requires-clause-packings g c =
    let given = subst (λ (input : Input). AreInputs (query_of c.args.self.now) c.args.self.now.plan.most (brought input ∷ []))
    c.in-Rows.is c.requires.input in
    given.are.0

pub add_rows-requires-in-Packed-clause-packings : goal.add_rows-requires-in-Packed-clause-packings
add_rows-requires-in-Packed-clause-packings g c =
    let given = subst (λ (input : Input). AreInputs (query_of c.args.self.now) c.args.self.now.plan.most (brought input ∷ []))
    c.in-Packed.is c.requires.input in
    given.are.0

pub returns-in-Rows : goal.returns-in-Rows
returns-in-Rows g c =
    subst (λ (input : Input). Adds Added g.H.KeyHash.hash_of g.D.TapeDisk (source_of (brought input)) c.args.self.now c.args.disk.now
    c.add_rows.result c.add_rows.new.self c.add_rows.new.disk) (sym c.in-Rows.is) c.add_rows.ensures

pub returns-in-Packed : goal.returns-in-Packed
returns-in-Packed g c =
    subst (λ (input : Input). Adds Added g.H.KeyHash.hash_of g.D.TapeDisk (source_of (brought input)) c.args.self.now c.args.disk.now
    c.add_rows-in-Packed.result c.add_rows-in-Packed.new.self c.add_rows-in-Packed.new.disk) (sym c.in-Packed.is)
    c.add_rows-in-Packed.ensures

pub returns-in-Groups : goal.returns-in-Groups
returns-in-Groups g c =
    subst (λ (input : Input). Adds Added g.H.KeyHash.hash_of g.D.TapeDisk (source_of (brought input)) c.args.self.now c.args.disk.now
    c.add_run.result c.add_run.new.self c.add_run.new.disk) (sym c.in-Groups.is) c.add_run.ensures
