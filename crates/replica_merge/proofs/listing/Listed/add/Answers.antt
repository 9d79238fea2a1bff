use Rattle.std.specs.Prelude.{ℕ, ◌+◌, ◌||◌, ◌&&◌, nat_le, Bool, List, map, take, unwrap_or}
use Rattle.std.proofs.Common.{◌∙◌, sym, ap, get_or}
use Rattle.std.specs.BTreeMap.{get}
use Rattle.std.specs.BTreeSet.{contains}
use Rattle.std.specs.Ordering.{nat_cmp, eq_by_cmp}
use Rattle.grouping_model.specs.Rising.{is_among}
use Rattle.grouping_model.specs.Rising.Facts.{or_assoc}
use Rattle.grouping_model.specs.World.{batch_cmp}
use Rattle.replica_merge.specs.Lacking.{is_listed}
use Rattle.replica_merge.proofs.ListingLaws.{among_more, one_more}
use Rattle.replica_merge.proofs.listing.Listed.add.Goals as goal

pub loop-number-preserved : goal.loop-number-preserved
loop-number-preserved c = λ batch.
    let origin : ℕ = c.args.entry.now.origin in
    let numbers : List ℕ = c.deref-number-items.result.now in
    let i : ℕ = c.loop-number.number-index in
    let old : Bool = is_listed c.raise.new.self batch in
    let within : Bool = nat_le 1 batch.1 && nat_le batch.1 (unwrap_or (get nat_cmp c.loop-number.self.upto batch.0) 0) in
    let same : Bool = eq_by_cmp batch_cmp (origin, get_or numbers i 0) batch in
    ap (λ b. within || b) (c.in_ok-insert.ensures.updates.0 batch)
    ∙ one_more within (contains batch_cmp c.loop-number.self.others batch) same
    ∙ ap (λ b. b || same) (c.loop-number.invariant batch)
    ∙ ap (λ (list : List ℕ). (old || is_among batch_cmp batch (map (λ (m : ℕ). (origin, m)) (take i list))) || same)
    (sym c.deref-number-items.ensures.value)
    ∙ or_assoc old (is_among batch_cmp batch (map (λ (m : ℕ). (origin, m)) (take i numbers))) same
    ∙ ap (λ b. old || b) (sym (among_more origin numbers i batch c.loop-number-test.true))
    ∙ ap (λ (list : List ℕ). old || is_among batch_cmp batch (map (λ (m : ℕ). (origin, m)) (take (i + 1) list)))
    c.deref-number-items.ensures.value
