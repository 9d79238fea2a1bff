-- A handle may go to another thread, and what it owns goes with it: a box of what is kept, and the right to give its block back.
-- What is kept holds conditions, which are recursive, so the kit has no lemma that it is Send; it follows from those of its parts.
use Rattle.agg_protocol.proofs.kind.AggKind.TheSendSync as agg_kind
use Rattle.engine.specs.contracts.session.Session as Session
use Rattle.engine_c.specs.Handles.{handle_owns, Content}
use Rattle.engine_c.specs.contracts.handle.Handle.{the_row, the_type}
use Rattle.engine_calls.proofs.last.Asked.TheSendSync as asking
use Rattle.engine_calls.proofs.last.CallReason.TheSendSync as call_reason
use Rattle.engine_calls.proofs.last.Last.TheSendSync as last
use Rattle.engine_calls.specs.contracts.kept.Kept as Kept
use Rattle.sentences.proofs.reason.Reason.TheSendSync as reason
use Rattle.hash_agg.proofs.means.Means.TheSendSync as means
use Rattle.having_filter.proofs.plan.Source.TheSendSync as source
use Rattle.having_filter.proofs.texts.Texts.TheSendSync as texts
use Rattle.having_filter.specs.contracts.plan.Plan as plan
use Rattle.having_filter.specs.contracts.query.Kept as asked
use Rattle.having_filter.specs.contracts.query.Query as Query
use Rattle.origin_prefix.proofs.part.OriginPart.TheSendSync as part
use Rattle.packed_rows.proofs.schema.Schema.TheSendSync as schema
use Rattle.packed_rows.proofs.value.ValueKind.TheSendSync as value_kind
use Rattle.query_checks.proofs.arrangement.Arrangement.TheSendSync as arrangement
use Rattle.query_checks.proofs.condition.Cond.TheLaws.TheKnot.{send-Cond, sync-Cond, send-AggCall, sync-AggCall}
use Rattle.query_checks.proofs.order.OrderTerm.TheSendSync as term
use Rattle.query_checks.specs.contracts.condition.Item as item
use Rattle.query_checks.specs.contracts.parts.Parts as parts
use Rattle.replica_merge.specs.contracts.replica.Replica as Replica
use Rattle.replica_merge.specs.contracts.replica.Replica.TheInside as held
use Rattle.refusals.proofs.refusal.Refusal.TheSendSync as refusal
use Rattle.std.below.std_heap.proofs.GlobalAllocator.TheSendSync as free
use Rattle.std.proofs.Crossing.{crosses, frees}
use Rattle.std.proofs.alloc.Global.TheSendSync as heap
use Rattle.std.proofs.collections.BTreeMap.TheSendSync as map
use Rattle.std.specs.Box.Ownership.{box_owns}
use Rattle.std.specs.contracts.impls.GlobalAllocator.TheImpl.{ghosts}
use Rattle.std.specs.contracts.prelude.U16Ord.TheImpl as ord
use Rattle.std.specs.contracts.prelude.U16PartialEq.TheImpl as eq
use Rattle.std.specs.contracts.prelude.U16PartialOrd.TheImpl as partial
use Rattle.std.specs.declared.alloc.Global.{Global}
use Rattle.std.specs.declared.option.Option.TheVariants.{None, Some}
use Rattle.std.specs.declared.option.Option.{Option}
use base.Fraction.{full_share}
use base.Shift.{Keyless}
use denote.Builtin.{u16}
use denote.Memory.{lone}
use denote.RattleType.{RattleType}
use denote.RawPtr.{Ptr, block_ptr, null_ptr}
use denote.Struct.Declared.{shape}
use mir.Raw.{raw}
use denote.Param.Send.{IsSend, IsSync, part_keyless, owning_send, view_send, recorded_send, recorded_sync, struct_send, struct_sync}
use denote.Param.Send.{plain_send, sendable}

item_send : (C : RattleType) → IsSend C → IsSend (item.the_row C)
item_send C c = search (sendable, crosses, send-AggCall) depth 20

item_sync : (C : RattleType) → IsSync C → IsSync (item.the_row C)
item_sync C c = search (sendable, crosses, sync-AggCall) depth 20

parts_field_send : IsSend (parts.the_field).row
parts_field_send =
    struct_send (shape parts.the_type) (
      search (sendable, crosses, item_send) depth 20,
      (
        search (sendable, crosses, send-Cond) depth 20,
        (
          search (sendable, crosses) depth 20,
          (
            search (sendable, crosses, send-Cond) depth 20,
            (search (sendable, crosses, arrangement.the_send, arrangement.the_field_send) depth 20, tt),
          ),
        ),
      ),
    )

plan_field_send : IsSend (plan.the_field).row
plan_field_send =
    struct_send (shape plan.the_type) (
      search (sendable, crosses, send-AggCall) depth 20,
      (
        search (sendable, crosses, agg_kind.the_send, agg_kind.the_field_send) depth 20,
        (
          search (sendable, crosses, value_kind.the_send, value_kind.the_field_send) depth 20,
          (
            search (sendable, crosses, source.the_send, source.the_field_send) depth 20,
            (search (sendable, crosses, send-Cond, source.the_send, source.the_field_send) depth 20, tt),
          ),
        ),
      ),
    )

asked_send : IsSend asked.the_row
asked_send =
    recorded_send (asked.the_field).row _ _ (asked.the_type).to_one (struct_send (shape asked.the_type)
    (schema.the_send, (texts.the_field_send, (parts_field_send, (plan_field_send, tt)))))

parts_field_sync : IsSync (parts.the_field).row
parts_field_sync =
    struct_sync (shape parts.the_type) (
      search (sendable, crosses, item_sync) depth 20,
      (
        search (sendable, crosses, sync-Cond) depth 20,
        (
          search (sendable, crosses) depth 20,
          (
            search (sendable, crosses, sync-Cond) depth 20,
            (search (sendable, crosses, arrangement.the_sync, arrangement.the_field_sync) depth 20, tt),
          ),
        ),
      ),
    )

plan_field_sync : IsSync (plan.the_field).row
plan_field_sync =
    struct_sync (shape plan.the_type) (
      search (sendable, crosses, sync-AggCall) depth 20,
      (
        search (sendable, crosses, agg_kind.the_sync, agg_kind.the_field_sync) depth 20,
        (
          search (sendable, crosses, value_kind.the_sync, value_kind.the_field_sync) depth 20,
          (
            search (sendable, crosses, source.the_sync, source.the_field_sync) depth 20,
            (search (sendable, crosses, sync-Cond, source.the_sync, source.the_field_sync) depth 20, tt),
          ),
        ),
      ),
    )

asked_sync : IsSync asked.the_row
asked_sync =
    recorded_sync (asked.the_field).row _ _ (asked.the_type).to_one (struct_sync (shape asked.the_type)
    (schema.the_sync, (texts.the_field_sync, (parts_field_sync, (plan_field_sync, tt)))))

query_send : IsSend Query.the_row
query_send = search (sendable, crosses, asked_send, asked_sync) depth 20

replica_send : IsSend Replica.the_row
replica_send =
    view_send held.the_row _ _ _ _ (recorded_send (held.the_field).row _ _ (held.the_type).to_one (struct_send (shape held.the_type) (
      heap.the_field_send,
      (
        query_send,
        (
          map.the_send u16 _ _ ord.ghosts eq.ghosts partial.ghosts _ (plain_send _ _ _ _ _) part.the_send
              heap.the_send free.the_frees,
          tt,
        ),
      ),
    )))

session_send : IsSend Session.the_row
session_send = search (sendable, crosses, replica_send, means.the_send) depth 20

kept_send : IsSend Kept.the_row
kept_send =
    search (
      sendable,
      crosses,
      session_send,
      refusal.the_send,
      reason.the_send,
      reason.the_field_send,
      asking.the_send,
      asking.the_field_send,
      call_reason.the_send,
      call_reason.the_field_send,
      last.the_send,
      last.the_field_send,
    ) depth 20

box_keyless : (a : Global) (p : Ptr) (x : Content) → Keyless (box_owns (ghosts.dealloc_token a) Kept.the_row p x)
box_keyless a (block_ptr b o) x = (
  part_keyless Kept.the_row kept_send full_share x b o,
  frees.frees a (raw (lone Kept.the_row.mir))
      (block_ptr b o),
)
box_keyless a null_ptr x = (tt, frees.frees a (raw (lone Kept.the_row.mir)) null_ptr)

owns_keyless : (a : Global) (p : Ptr) (kept : Option Content) → Keyless (handle_owns a p kept)
unfolding handle_owns
owns_keyless a p None = tt
owns_keyless a p (Some x) = box_keyless a p x

pub send : IsSend the_row
send = owning_send the_type (search sendable, (heap.the_field_send, tt)) (λ h. owns_keyless h.alloc h.at h.kept) (λ k x w. tt)
