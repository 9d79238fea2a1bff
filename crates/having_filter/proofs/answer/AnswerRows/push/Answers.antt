use Rattle.std.specs.Prelude.{◌++◌, ◌∷◌, [], map}
use Rattle.std.proofs.Common.{subst, rules}
use Rattle.having_filter.proofs.Words.{outcome_of, LieAs}
use Rattle.packed_rows.specs.ConcatenatedRowsLaws.{cut_is, are_rows, pushed}
use Rattle.having_filter.proofs.answer.AnswerRows.push.Goals as goal

-- the rows with one more
lie : (c : goal.In_ok-push) → LieAs c.extend.new.self c.push.new.self.items (c.args.self.now ++ map outcome_of c.args.row.now ∷ [])
lie c =
    let old = c.self.inside in
    pushed old.values old.ends.items c.args.self.now (map outcome_of c.args.row.now) c.extend.new.self c.push.new.self.items c.len.result
    (subst (LieAs old.values old.ends.items) c.self.view_is c.self.invariant)
    (search rules) (search rules) (search rules)

pub invariant_of-self-2 : goal.invariant_of-self-2
invariant_of-self-2 c = are_rows c.extend.new.self c.push.new.self.items (c.args.self.now ++ map outcome_of c.args.row.now ∷ []) (lie c)

pub returns-clause-pushed : goal.returns-clause-pushed
returns-clause-pushed c = cut_is c.extend.new.self c.push.new.self.items (c.args.self.now ++ map outcome_of c.args.row.now ∷ []) (lie c)
