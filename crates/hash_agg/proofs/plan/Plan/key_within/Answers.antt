use Rattle.std.specs.Prelude.{◌≡◌, ◌<◌, ℕ, List, length, map}
use Rattle.std.proofs.Common.{sym, ◌∙◌, ap, subst}
use Rattle.std.proofs.lemmas.List.{length-map}
use Rattle.std.specs.List.{AllByRecursion}
use Rattle.packed_rows.specs.ConcatenatedRowsLaws.{ends_long}
use Rattle.hash_agg.proofs.Words.{at_place, Query, row_of, packing, value_packing, meaning}
use Rattle.hash_agg.proofs.KeyLaws.{if_some_weaker, kinds_long}
use Rattle.hash_agg.proofs.plan.Plan.key_within.Goals as goal

pub part_at-requires-clause-lie : goal.part_at-requires-clause-lie
part_at-requires-clause-lie c = (row_of c.args.row.now, c.requires.lie)

pub part_at-requires-clause-within : goal.part_at-requires-clause-within
part_at-requires-clause-within c =
    let q : Query = meaning c.args.self.now.query.now in
    let row = row_of c.args.row.now in
    let long : length q.kinds ≡ length c.args.ends.now =
    sym (ap length c.requires.lie.ends_are ∙ ends_long 0 (map value_packing row) ∙ length-map row value_packing
    ∙ kinds_long q.kinds row c.requires.row) in
    subst (λ many. AllByRecursion (λ place. place < many) c.keys.result.now) long
    (subst (AllByRecursion (λ place. place < length q.kinds)) (sym c.keys.ensures.keys) c.requires.plan.formed.keys)

pub returns : goal.returns
returns c =
    let row = row_of c.args.row.now in
    if_some_weaker c.part_at.result _ _
    (λ part is. is row c.requires.lie ∙ ap (λ (places : List ℕ). packing (map (at_place row) places)) c.keys.ensures.keys)
    c.part_at.ensures
