use Rattle.std.specs.Prelude.{◌++◌, ◌∷◌, []}
use Rattle.std.proofs.Common.{subst, rules}
use Rattle.packed_rows.specs.ConcatenatedRows.{LieAs}
use Rattle.packed_rows.specs.ConcatenatedRowsLaws.{cut_is, are_rows, pushed}
use Rattle.packed_rows.proofs.rows_concatenated.RowBlock.push.Goals as goal

-- the rows with one more
lie : (c : goal.In_ok-push) → LieAs c.extend_from_slice.new.self.items c.push.new.self.items (c.args.self.now ++ c.args.packed.now ∷ [])
lie c =
    let old = c.self.inside in
    pushed old.bytes.items old.ends.items c.args.self.now c.args.packed.now c.extend_from_slice.new.self.items c.push.new.self.items
    c.len.result
    (subst (LieAs old.bytes.items old.ends.items) c.self.view_is c.self.invariant)
    (search rules) (search rules) (search rules)

pub invariant_of-self-2 : goal.invariant_of-self-2
invariant_of-self-2 c = are_rows c.extend_from_slice.new.self.items c.push.new.self.items (c.args.self.now ++ c.args.packed.now
    ∷ []) (lie c)

pub returns-clause-pushed : goal.returns-clause-pushed
returns-clause-pushed c = cut_is c.extend_from_slice.new.self.items c.push.new.self.items (c.args.self.now ++ c.args.packed.now
    ∷ []) (lie c)
