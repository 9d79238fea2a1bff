use Rattle.std.proofs.Common.{Option, ◌≤◌, ◌+◌, ◌-◌, Some, sym, subst, arith}
use Rattle.std.specs.Vec.{vec_capacity, vec_len}
use Rattle.group_table.proofs.Words.{ChunkName, held_by, TreeState, context_at, TableState, IsSetWith, IsStanding, HasNext, IsSpare, OnlyIn}
use Rattle.group_table.proofs.Words.{HoldsArray, HoldsNext}
use Rattle.group_table.proofs.MoveLaws.{first_moved, larger_moved, only_moved, less_held, first_holds, larger_holds}
use Rattle.context_tree.specs.CallLaws.{freed}
use Rattle.group_table.proofs.TreeFacts.{only_once}
use Rattle.group_table.proofs.table.GroupTable.replace_array.Goals as goal
use Rattle.group_table.proofs.table.GroupTable.replace_array.Goals.{in-Some-array, in_default-array}

pub returns-clause-only : goal.returns-clause-only
returns-clause-only g c =
    let hash = g.H.KeyHash.hash_of in let tree = c.args.tree.now in let name = c.in-Some.name in
    let is = subst (λ (x : TableState g.row.H.Denot). IsStanding hash x tree) (sym c.self.view_is) c.requires.standing in
    let spare = subst (λ (x : TableState g.row.H.Denot). IsSpare x tree name) (sym c.self.view_is)
    (subst (λ (next : Option ChunkName). HasNext c.args.self.now tree next) c.in-Some.is c.requires.next) in
    subst (λ (x : TableState g.row.H.Denot). OnlyIn x.buckets tree c.match-self.tree) c.self.view_is
    (elim c.match-self.branch [
      | in-Some-array w ↦ subst (λ (x : TreeState). OnlyIn c.self.inside.buckets tree x) (sym w.tree-is)
          (only_moved hash _ name tree is spare w.in-Some-array.old w.in-Some-array.is w.refill.new.tree w.give_up.new.tree
          w.refill.ensures.only w.refill.ensures.rewritten w.refill.ensures.all
          (freed _ _ _ _ w.give_up.ensures) w.give_up.ensures.does.keeps)
      | in_default-array w ↦ subst (λ (x : TreeState). OnlyIn c.self.inside.buckets tree x) (sym w.tree-is)
          (only_once c.self.inside.buckets tree is.placed.buckets.within)
    ])

pub returns-clause-standing : goal.returns-clause-standing
returns-clause-standing g c =
    let hash = g.H.KeyHash.hash_of in let tree = c.args.tree.now in let name = c.in-Some.name in
    let is = subst (λ (x : TableState g.row.H.Denot). IsStanding hash x tree) (sym c.self.view_is) c.requires.standing in
    let spare = subst (λ (x : TableState g.row.H.Denot). IsSpare x tree name) (sym c.self.view_is)
    (subst (λ (next : Option ChunkName). HasNext c.args.self.now tree next) c.in-Some.is c.requires.next) in
    let x = c.self.inside in
    let moved : TableState g.row.H.Denot = record {
      parent = x.parent;
      buckets = x.buckets;
      keys = x.keys;
      states = x.states;
      width =
          x.width;
      hash = x.hash;
      array = Some name;
      slots = x.slots.items;
      spare = vec_capacity x.slots - vec_len x.slots;
    } in
    elim c.match-self.branch [
      | in-Some-array w ↦ subst (λ (x : TreeState). IsStanding hash moved x) (sym w.tree-is)
          (larger_moved hash _ name tree is spare w.in-Some-array.old w.in-Some-array.is w.refill.new.tree w.give_up.new.tree
          w.refill.ensures.only w.refill.ensures.rewritten w.refill.ensures.all
          (freed _ _ _ _ w.give_up.ensures) w.give_up.ensures.does.keeps)
      | in_default-array w ↦ subst (λ (x : TreeState). IsStanding hash moved x) (sym w.tree-is)
          (first_moved hash _ name tree is spare w.in_default-array.is (only_once c.self.inside.buckets tree is.placed.buckets.within))
    ]

pub returns-clause-held : goal.returns-clause-held
returns-clause-held g c =
    let hash = g.H.KeyHash.hash_of in let tree = c.args.tree.now in let name = c.in-Some.name in
    let is = subst (λ (x : TableState g.row.H.Denot). IsStanding hash x tree) (sym c.self.view_is) c.requires.standing in
    let spare = subst (λ (x : TableState g.row.H.Denot). IsSpare x tree name) (sym c.self.view_is)
    (subst (λ (next : Option ChunkName). HasNext c.args.self.now tree next) c.in-Some.is c.requires.next) in
    subst (λ (x : TableState g.row.H.Denot). held_by (context_at c.match-self.tree x.buckets) ≤ held_by (context_at tree x.buckets))
    c.self.view_is
    (elim c.match-self.branch [
      | in-Some-array w ↦ subst (λ (x : TreeState). held_by (context_at x c.self.inside.buckets) ≤ held_by
          (context_at tree c.self.inside.buckets)) (sym w.tree-is)
          (less_held hash _ name tree is spare w.in-Some-array.old w.in-Some-array.is w.refill.new.tree w.give_up.new.tree
          w.refill.ensures.only w.refill.ensures.rewritten w.refill.ensures.all
          (freed _ _ _ _ w.give_up.ensures) w.give_up.ensures.does.keeps)
      | in_default-array w ↦ subst (λ (x : TreeState). held_by (context_at x c.self.inside.buckets) ≤ held_by
          (context_at tree c.self.inside.buckets)) (sym w.tree-is) (omega arith)
    ])

pub returns-clause-holds : goal.returns-clause-holds
returns-clause-holds g c number given =
    let hash = g.H.KeyHash.hash_of in let tree = c.args.tree.now in let name = c.in-Some.name in
    let is = subst (λ (x : TableState g.row.H.Denot). IsStanding hash x tree) (sym c.self.view_is) c.requires.standing in
    let spare = subst (λ (x : TableState g.row.H.Denot). IsSpare x tree name) (sym c.self.view_is)
    (subst (λ (next : Option ChunkName). HasNext c.args.self.now tree next) c.in-Some.is c.requires.next) in
    let next = subst (λ (next : Option ChunkName). IsSetWith (HoldsNext c.args.self.now.array next number)
    (context_at tree c.args.self.now.buckets)) c.in-Some.is given in
    (subst (λ (x : TableState g.row.H.Denot). IsSetWith (HoldsNext x.array (Some name) number) (context_at tree x.buckets)
    → IsSetWith (HoldsArray (Some name) (number + 1)) (context_at c.match-self.tree x.buckets)) c.self.view_is
    (λ holds. elim c.match-self.branch [
      | in-Some-array w ↦ subst (λ (x : TreeState). IsSetWith (HoldsArray (Some name) (number + 1)) (context_at x c.self.inside.buckets))
          (sym w.tree-is)
          (larger_holds hash _ name tree is spare w.in-Some-array.old w.in-Some-array.is w.refill.new.tree w.give_up.new.tree
          w.refill.ensures.only w.refill.ensures.rewritten w.refill.ensures.all
          (freed _ _ _ _ w.give_up.ensures) w.give_up.ensures.does.keeps number
          holds)
      | in_default-array w ↦ subst (λ (x : TreeState). IsSetWith (HoldsArray (Some name) (number + 1)) (context_at x c.self.inside.buckets))
          (sym w.tree-is) (first_holds hash _ name tree is spare w.in_default-array.is number holds)
    ])) next
