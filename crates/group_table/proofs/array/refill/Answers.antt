use Rattle.std.proofs.Common.{◌∙◌, sym, ap, subst, ◌+◌, arith}
use Rattle.group_table.proofs.Words.{TreeState, context_at, bucket_at, HasAll, IsRewritten, OnlyIn, bytes_at, count_of}
use Rattle.group_table.proofs.ArrayLaws.{not_rewritten, rewritten_twice, other_bytes, as_named}
use Rattle.group_table.proofs.IndexLaws.{none_yet, passed_over, put_over, room}
use Rattle.group_table.proofs.TreeFacts.{only_once, only_twice}
use Rattle.group_table.proofs.array.refill.Goals as goal
use Rattle.group_table.proofs.array.refill.Goals.{in-Some, in_default}

pub loop-place-init : goal.loop-place-init
loop-place-init c =
    let t = c.args.tree.now in let id = c.args.id in let to = c.args.to in (
      only_once id t c.requires.to.within,
      not_rewritten (context_at t id) c.requires.to.set to c.requires.to.is_set c.requires.to.lives,
      none_yet (bytes_at t id to) (count_of to) (bytes_at t id c.args.from) (as_named (context_at t id) to c.requires.to.lives
          ∙ c.requires.to.whole) c.requires.empty,
    )

pub put_into-requires-clause-room : goal.put_into-requires-clause-room
put_into-requires-clause-room c =
    let t = c.args.tree.now in let id = c.args.id in
    room (bytes_at c.loop-place.tree id c.args.to) (count_of c.args.to) (bytes_at t id c.args.from) c.loop-place.place
    (count_of c.args.from) c.loop-place.invariant.2 c.loop-place-test.true (omega (arith, c.requires.longer))

pub loop-place-preserved : goal.loop-place-preserved
loop-place-preserved c =
    let t = c.args.tree.now in let now = c.loop-place.tree in let id = c.args.id in let to = c.args.to in let from = c.args.from in
    let read = c.bucket_at.ensures ∙ ap (λ bs. bucket_at bs c.loop-place.place) (c.chunk.ensures.bytes
    ∙ other_bytes (context_at t id) (context_at now id) to from c.loop-place.invariant.1 c.requires.apart c.requires.from.lives) in
    elim c.match-bucket_at.branch [
      | in-Some w ↦ subst (λ (x : TreeState). OnlyIn id t x × IsRewritten (context_at t id) (context_at x id) to
          × HasAll (bytes_at x id to) (count_of to) (bytes_at t id from) (c.loop-place.place + 1)) (sym w.tree-is) (
            only_twice id t now w.put_into.new.tree c.loop-place.invariant.0 w.put_into.ensures.only,
            rewritten_twice (context_at t id) (context_at now id) (context_at w.put_into.new.tree id) to c.loop-place.invariant.1
                w.put_into.ensures.rewritten,
            put_over (bytes_at now id to) (bytes_at w.put_into.new.tree id to) (count_of to) (bytes_at t id from) c.loop-place.place
                w.in-Some.bucket c.loop-place.invariant.2 (sym read ∙ w.in-Some.is) w.put_into.ensures.index w.put_into.ensures.more
                w.put_into.ensures.put,
          )
      | in_default w ↦ subst (λ (x : TreeState). OnlyIn id t x × IsRewritten (context_at t id) (context_at x id) to
          × HasAll (bytes_at x id to) (count_of to) (bytes_at t id from) (c.loop-place.place + 1)) (sym w.tree-is) (
            c.loop-place.invariant.0,
            c.loop-place.invariant.1,
            passed_over (bytes_at now id to) (count_of to) (bytes_at t id from) c.loop-place.place c.loop-place.invariant.2 (sym read
                ∙ w.in_default.is),
          )
    ]

pub returns-clause-all : goal.returns-clause-all
returns-clause-all c =
    let t = c.args.tree.now in let id = c.args.id in
    subst (HasAll (bytes_at c.loop-place.tree id c.args.to) (count_of c.args.to) (bytes_at t id c.args.from))
    (omega (arith, c.loop-place-test.false, c.loop-place.auto)) c.loop-place.invariant.2
