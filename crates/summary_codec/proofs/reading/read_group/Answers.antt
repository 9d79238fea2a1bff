use Rattle.std.proofs.Common.{◌≡◌, inl, inr, sym, subst, Ok, Err}
use Rattle.packed_rows.specs.Packing.{IsPacking}
use Rattle.packed_rows.specs.View.{kinds_of}
use Rattle.grouping_model.specs.Parts.{key_kinds}
use Rattle.having_filter.specs.Meaning.{meaning}
use Rattle.summary_codec.specs.Reading.{taken, group}
use Rattle.summary_codec.proofs.FaultLaws.{handed_on}
use Rattle.summary_codec.proofs.GroupLaws.{run_rises}
use Rattle.summary_codec.proofs.reading.read_group.Goals as goal

pub returns-in_err-check_packing-clause-fault : goal.returns-in_err-check_packing-clause-fault
unfolding group
returns-in_err-check_packing-clause-fault c =
    let kinds : kinds_of c.key_kinds.result.now ≡ key_kinds (meaning c.args.query.now) = c.key_kinds.ensures in
    handed_on c.from_residual-in_err-check_packing.result c.in_err-check_packing.field-0.0 _ c.from_residual-in_err-check_packing.ensures.1
    (λ memory.
    let fault = c.in_err-check_packing.ensures.fault memory in
    inr (
      c.in_ok-key.key.now,
      c.sized.new.self,
      c.in_ok-key.ensures.read,
      inr
          ((λ packed. fault.0 (subst (λ ks. IsPacking ks c.in_ok-key.key.now) (sym kinds) packed)), fault.1),
    ))

pub returns-in_err-states-clause-fault : goal.returns-in_err-states-clause-fault
unfolding group
returns-in_err-states-clause-fault c =
    handed_on c.from_residual-in_err-states.result c.in_err-states.field-0.0 _ c.from_residual-in_err-states.ensures.1
    (λ memory. inr (
      c.in_ok-key.key.now,
      c.sized.new.self,
      c.in_ok-key.ensures.read,
      inl (
        subst (λ ks. IsPacking ks c.in_ok-key.key.now) c.key_kinds.ensures c.in_ok-check_packing.ensures.packed,
        inl (
          c.is_key_above.ensures.above.0 c.if-not-is_key_above.false,
          inl
              (subst (λ n. taken n c.sized.new.self (Err c.in_err-states.field-0.0)) c.width_of_states.ensures
              c.in_err-states.ensures.short),
        ),
      ),
    ))

pub returns-in_err-check_states-clause-fault : goal.returns-in_err-check_states-clause-fault
unfolding group
returns-in_err-check_states-clause-fault c =
    handed_on c.from_residual-in_err-check_states.result c.in_err-check_states.field-0.0 _ c.from_residual-in_err-check_states.ensures.1
    (λ memory. inr (
      c.in_ok-key.key.now,
      c.sized.new.self,
      c.in_ok-key.ensures.read,
      inl (
        subst (λ ks. IsPacking ks c.in_ok-key.key.now) c.key_kinds.ensures c.in_ok-check_packing.ensures.packed,
        inl (
          c.is_key_above.ensures.above.0 c.if-not-is_key_above.false,
          inr (
            c.in_ok-states.states.now,
            c.take.new.self,
            subst (λ n. taken n c.sized.new.self (Ok (c.in_ok-states.states.now, c.take.new.self))) c.width_of_states.ensures
                c.in_ok-states.ensures.taken,
            inr c.in_err-check_states.ensures.fault,
          ),
        ),
      ),
    ))

pub push-requires : goal.push-requires
push-requires c =
    run_rises c.args.run.now c.in_ok-key.key.now c.in_ok-states.states.now c.is_key_above.ensures.rises
    (c.is_key_above.ensures.above.0 c.if-not-is_key_above.false)
