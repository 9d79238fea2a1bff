use Rattle.std.proofs.Common.{◌≡◌, ◌≤◌, ◌+◌, ℕ, List, ◌++◌, length, take, sym, ap, ◌∙◌, arith, rules, length-append}
use Rattle.std.proofs.KnownBytes.{Consumes-trans}
use Rattle.script_io.proofs.input.read_input.Goals as goal

-- a text and the front of a chunk
length-read : (text chunk : List ℕ) (n : ℕ) → n ≡ length (take n chunk) → length (text ++ take n chunk) ≡ length text + n
length-read text chunk n h = length-append text (take n chunk) ∙ ap (λ k. length text + k) (sym h)

pub returns-in-Ok-clause-why : goal.returns-in-Ok-clause-why
returns-in-Ok-clause-why g c =
    let text = c.loop-text.text.items in
    let size = length-read text c.read.new.buf c.in-Ok.count c.in-Ok.ensures.bound.1 in (
      text ++ take c.in-Ok.count c.read.new.buf,
      Consumes-trans _ _ _ _ _ c.loop-text.invariant.2 c.in-Ok.ensures.bytes.0,
      omega (arith, size, c.loop-text.invariant.0, c.if-count-left.true),
    )

pub returns-in-Ok-clause-taken : goal.returns-in-Ok-clause-taken
returns-in-Ok-clause-taken g c = let why = returns-in-Ok-clause-why g c in (why.0, why.1, omega (arith, why.2))

pub returns-then-is_err-clause-why : goal.returns-then-is_err-clause-why
returns-then-is_err-clause-why g c =
    let text = c.loop-text.text.items in
    let size = length-read text c.read.new.buf c.in-Ok-2.count c.in-Ok-2.ensures.bound.1 in
    let room : length c.read.new.buf ≤ c.loop-text.left = search rules in (
      text ++ take c.in-Ok-2.count c.read.new.buf,
      Consumes-trans _ _ _ _ _ c.loop-text.invariant.2 c.in-Ok-2.ensures.bytes.0,
      omega (arith, size, c.in-Ok.count-test, c.in-Ok-2.count-is),
      omega (arith, size, room, c.in-Ok-2.ensures.bound.0, c.loop-text.invariant.0, c.if-count-left.false, c.in-Ok-2.count-is),
    )

pub returns-then-is_err-clause-taken : goal.returns-then-is_err-clause-taken
returns-then-is_err-clause-taken g c = let why = returns-then-is_err-clause-why g c in (why.0, why.1, omega (arith, why.3))
