use Rattle.packed_rows.proofs.RowLaws.{no_zero, no_text, null_text}
use Rattle.packed_rows.proofs.unpacking.unpack_text.Goals as goal

pub returns-in_err-front-clause-none : goal.returns-in_err-front-clause-none
returns-in_err-front-clause-none c =
    rw c.from_residual.ensures (λ text rest p. no_zero c.args.bytes.now text rest c.in_err-front.ensures.none)

pub returns-then-is_null-clause-none : goal.returns-then-is_null-clause-none
returns-then-is_null-clause-none c = λ text rest p.
    let found = c.in_ok-front.ensures.found in
    null_text c.args.bytes.now c.in_ok-front.front.now c.in_ok-front.rest.now text rest found.0 found.1
    (c.is_null.ensures.0 c.if-is_null.true) p

pub returns-in_err-text-clause-none : goal.returns-in_err-text-clause-none
returns-in_err-text-clause-none c =
    let found = c.in_ok-front.ensures.found in
    rw c.from_residual-in_err-text.ensures (λ text rest p. no_text c.args.bytes.now c.in_ok-front.front.now c.in_ok-front.rest.now text rest
    found.0 found.1 c.in_err-text.ensures.none p)
