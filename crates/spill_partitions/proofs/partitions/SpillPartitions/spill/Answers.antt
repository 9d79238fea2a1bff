use Rattle.std.proofs.Common.{◌≡◌, ◌+◌, ◌<◌, ◌++◌, false, length, set, refl, arith, ap, sym, subst, ◌∙◌}
use Rattle.spill_partitions.proofs.Words.{Record, OnTape, fields_of, one_or_none, PartitionsState}
use Rattle.spill_partitions.proofs.Words.{HasPartitions, OwnsOpen, spilled_number, written_pages}
use Rattle.spill_partitions.proofs.ApartLaws.{written_here}
use Rattle.spill_partitions.proofs.CountLaws.{count_put}
use Rattle.spill_partitions.proofs.CloseLaws.{own_moved, times_put}
use Rattle.spill_partitions.proofs.StandingLaws.{state, partitions_put, has_put}
use Rattle.spill_partitions.proofs.PageLaws.{put_pages, parts_once}
use Rattle.spill_partitions.proofs.partitions.SpillPartitions.spill.Goals as goal

pub append-requires-clause-written : goal.append-requires-clause-written
append-requires-clause-written g c alive =
    let less : c.partition_of-place.result < length c.self.inside.partitions.items = omega (
      arith,
      c.partition_of-place.ensures.within,
      c.in_ok-open_partitions.ensures.opened.sixteen,
      ap (λ (s : PartitionsState). length s.partitions)
          c.self.view_is,
    ) in
    written_here c.self.inside.tapes c.self.inside.partitions.items c.partition_of-place.result c.index-partition.result.now less
    c.index-partition.ensures
    (c.self.invariant.written alive)

pub invariant_of-self : goal.invariant_of-self
invariant_of-self g c =
    let alive : c.self.inside.tapes.is_dead ≡ false = ap (λ (s : PartitionsState). s.tapes.is_dead) c.self.view_is
    ∙ c.in_ok-open_partitions.ensures.alive in
    let y : OnTape = record
    { tape = c.index-partition.result.now.tape; records = c.in-Some.records; level = c.index-partition.result.now.level } in
    partitions_put c.self.inside.tapes c.append.new.self c.self.inside.level c.self.inside.partitions.items
    (one_or_none c.self.inside.reading)
    c.self.inside.pending.items c.partition_of-place.result c.index-partition.result.now y c.index-partition.ensures refl
    c.append.ensures.phases
    (λ _. alive) c.self.invariant

pub returns-in-Ok-clause-spilled : goal.returns-in-Ok-clause-spilled
returns-in-Ok-clause-spilled g c =
    let last = g.D.TapeDisk.last c.args.disk.now in let last' = g.D.TapeDisk.last c.append.new.disk in let place =
    c.partition_of-place.result in
    let made = c.in_ok-open_partitions.ensures in
    let partitions = c.self.inside.partitions.items in let reading = one_or_none c.self.inside.reading in let todo_on =
    c.self.inside.pending.items in
    let x : OnTape = c.index-partition.result.now in
    let y : OnTape = record { tape = x.tape; records = c.in-Some.records; level = x.level } in
    let r : Record = record { hash = c.args.hash; tag = c.args.tag; bytes = c.args.bytes.now } in
    let less : place < length partitions = omega (
      arith,
      c.partition_of-place.ensures.within,
      made.opened.sixteen,
      ap
          (λ (s : PartitionsState). length s.partitions) c.self.view_is,
    ) in
    let put = put_pages last last' c.self.inside.tapes c.append.new.self partitions place x y less c.index-partition.ensures
    (parts_once partitions reading todo_on x.tape.index c.self.invariant.apart) c.append.ensures.others refl in
    let counted = c.in-Ok.ensures.appended.counted in
    let old : written_pages (fields_of c.self.inside) ≡ written_pages c.args.self.now = ap written_pages c.self.view_is
    ∙ made.opened.paged in
    record {
      added = λ spilled ahead pending had.
          has_put last last' c.self.inside.tapes c.append.new.self c.self.inside.level partitions reading todo_on spilled ahead pending
          place x y r less c.index-partition.ensures refl (c.in-Some.ensures).1 refl c.partition_of-place.ensures.is c.self.invariant.apart
          c.append.ensures.others c.in-Ok.ensures.appended.records
          (subst (λ (s : PartitionsState). HasPartitions last s spilled ahead pending) (sym c.self.view_is)
          (made.opened.opened spilled ahead pending had));
      counted = count_put partitions place x y less c.index-partition.ensures (c.in-Some.ensures).1
          ∙ ap (λ (s : PartitionsState). spilled_number s + 1) c.self.view_is ∙ ap (λ n. n + 1) made.opened.counted;
      paged = omega (arith, put, counted, old);
      alive = c.in-Ok.ensures.dies.alive;
    }

pub returns-in-Ok-clause-owns : goal.returns-in-Ok-clause-owns
returns-in-Ok-clause-owns g c =
    let made = c.in_ok-open_partitions.ensures in
    let x : OnTape = c.index-partition.result.now in
    let y : OnTape = record { tape = x.tape; records = c.in-Some.records; level = x.level } in
    let s = c.self.inside in
    let alive : s.tapes.is_dead ≡ false = ap (λ (s : PartitionsState). s.tapes.is_dead) c.self.view_is ∙ made.alive in
    λ own.
    own_moved (fields_of s) (state c.append.new.self s.level (set s.partitions.items c.partition_of-place.result y)
    (one_or_none s.reading) s.pending.items) c.append.ensures.phases
    (λ index. times_put index s.partitions.items (one_or_none s.reading ++ s.pending.items) c.partition_of-place.result x y
    c.index-partition.ensures refl) (λ _. alive)
    (subst OwnsOpen (sym c.self.view_is) (made.owns own))
