use Rattle.std.proofs.Common.{◌≡◌, ◌++◌, ◌∷◌, [], ◌<◌, ◌-◌, ◌∙◌, length, get_or, sym, true, false, arith, rules}
use Rattle.std.proofs.lemmas.Result.{err_from_is_err_and}
use Rattle.std.proofs.lemmas.List.{map_push, length-append, length-drop, length-map}
use Rattle.query_tokens.specs.declared.word.Token.{Token}
use Rattle.query_tokens.specs.Words.{lexeme_of, placed_of, all_placed}
use Rattle.query_tokens.specs.Bytes.{is_space}
use Rattle.query_tokens.specs.Tokens.{tokens_in, begins_with}
use Rattle.query_tokens.specs.Lemmas.Legal.{tokens_legal}
use Rattle.query_tokens.proofs.Steps.{passes_space, goes_on, shorter, ends, is_done, more_left, begins_past_space, begins_further}
use Rattle.query_tokens.proofs.Steps.{begins_all, begins_short}
use Rattle.query_tokens.proofs.reading.tokens_up_to.Goals as goal

pub loop-rest-preserved-then-is_space : goal.loop-rest-preserved-then-is_space
loop-rest-preserved-then-is_space c =
    let rest = c.loop-rest.rest.now in
    let some : 0 < length rest = rw (← c.as_bytes.ensures.value) c.in-len1-up.len_at_least in
    let blank : is_space (get_or rest 0 0) ≡ true = rw (← c.as_bytes.ensures.value) (sym c.is_space.ensures ∙ c.if-is_space.true) in
    let back = c.cut.ensures.back in
    record {
      text = search rules;
      few = rw back (omega (arith, length-drop 1 rest, c.loop-rest.invariant.few, some));
      told = rw back (passes_space (length c.args.text.now) (all_placed c.loop-rest.found.items) rest (tokens_in c.args.text.now) some
          (omega (arith, c.loop-rest.invariant.few)) blank c.loop-rest.invariant.told);
      up_to = c.loop-rest.invariant.up_to;
      begun = rw back (begins_past_space c.args.most (length c.loop-rest.found.items) (length c.args.text.now) rest
          (begins_with c.args.most 0 0 c.args.text.now) some (omega (arith, c.loop-rest.invariant.few)) blank
          c.loop-rest.invariant.begun);
    }

pub loop-rest-preserved : goal.loop-rest-preserved
loop-rest-preserved c =
    let rest = c.loop-rest.rest.now in
    let some : 0 < length rest = rw (← c.as_bytes.ensures.value) c.in-len1-up.len_at_least in
    let solid : is_space (get_or rest 0 0) ≡ false = rw (← c.as_bytes.ensures.value) (sym c.is_space.ensures ∙ c.if-is_space.false) in
    let low : length c.loop-rest.found.items < c.args.most =
    omega (arith, c.loop-rest.invariant.up_to, c.len.ensures, c.if-len-most.false) in
    let at = length c.args.text.now - length rest in
    let token : Token = record { at = at; word = c.in_ok-word.word } in
    let e : all_placed c.push.new.self.items ≡ all_placed c.loop-rest.found.items ++ placed_of token
    ∷ [] = rw c.in_ok-push.ensures.items (map_push placed_of c.loop-rest.found.items token) in
    record {
      text = search rules;
      few = rw c.in_ok-push.ensures.items
          (omega (
            arith,
            length-append c.loop-rest.found.items (token ∷ []),
            shorter at rest (lexeme_of c.in_ok-word.word)
                c.in_ok-word.after.now some c.in_ok-word.ensures,
            c.loop-rest.invariant.few,
          ));
      told = rw e (goes_on (length c.args.text.now) (all_placed c.loop-rest.found.items) rest (lexeme_of c.in_ok-word.word)
          c.in_ok-word.after.now (tokens_in c.args.text.now) some (omega (arith, c.loop-rest.invariant.few)) solid c.in_ok-word.ensures
          c.loop-rest.invariant.told);
      up_to = rw c.in_ok-push.ensures.items (omega (arith, length-append c.loop-rest.found.items (token ∷ []), low));
      begun = rw c.in_ok-push.ensures.items (rw (length-append c.loop-rest.found.items (token ∷ []))
          (begins_further c.args.most (length c.loop-rest.found.items) (length c.args.text.now) rest (lexeme_of c.in_ok-word.word)
          c.in_ok-word.after.now (begins_with c.args.most 0 0 c.args.text.now) low some
          (omega (arith, c.loop-rest.invariant.few)) solid c.in_ok-word.ensures c.loop-rest.invariant.begun));
    }

pub loop-rest-smaller : goal.loop-rest-smaller
loop-rest-smaller c =
    let rest = c.loop-rest.rest.now in
    let some : 0 < length rest = rw (← c.as_bytes.ensures.value) c.in-len1-up.len_at_least in
    shorter (length c.args.text.now - length rest) rest (lexeme_of c.in_ok-word.word) c.in_ok-word.after.now some c.in_ok-word.ensures

pub returns-in_err-word-clause-refused : goal.returns-in_err-word-clause-refused
returns-in_err-word-clause-refused c =
    let rest = c.loop-rest.rest.now in
    let some : 0 < length rest = rw (← c.as_bytes.ensures.value) c.in-len1-up.len_at_least in
    let solid : is_space (get_or rest 0 0) ≡ false = rw (← c.as_bytes.ensures.value) (sym c.is_space.ensures ∙ c.if-is_space.false) in
    let p = err_from_is_err_and c.from_residual.result c.from_residual.ensures.1 in
    rw (p.1, p.2) (ends c.in_err-word.field-0.0 (length c.args.text.now) (all_placed c.loop-rest.found.items) rest
    (tokens_in c.args.text.now) some solid c.in_err-word.ensures c.loop-rest.invariant.told)

pub returns-in_err-word-clause-early : goal.returns-in_err-word-clause-early
returns-in_err-word-clause-early c =
    let rest = c.loop-rest.rest.now in
    let some : 0 < length rest = rw (← c.as_bytes.ensures.value) c.in-len1-up.len_at_least in
    let solid : is_space (get_or rest 0 0) ≡ false = rw (← c.as_bytes.ensures.value) (sym c.is_space.ensures ∙ c.if-is_space.false) in
    let low : length c.loop-rest.found.items < c.args.most =
    omega (arith, c.loop-rest.invariant.up_to, c.len.ensures, c.if-len-most.false) in
    let p = err_from_is_err_and c.from_residual.result c.from_residual.ensures.1 in
    rw (p.1, p.2) (begins_short c.in_err-word.field-0.0 c.args.most (length c.loop-rest.found.items) (length c.args.text.now) rest
    (begins_with c.args.most 0 0 c.args.text.now) low some solid c.in_err-word.ensures c.loop-rest.invariant.begun)

pub returns-then-len-most-clause-more : goal.returns-then-len-most-clause-more
returns-then-len-most-clause-more c =
    λ ts told.
    let rest = c.loop-rest.rest.now in
    let some : 0 < length rest = rw (← c.as_bytes.ensures.value) c.in-len1-up.len_at_least in
    let solid : is_space (get_or rest 0 0) ≡ false = rw (← c.as_bytes.ensures.value) (sym c.is_space.ensures ∙ c.if-is_space.false) in
    let more = more_left (length c.args.text.now) (all_placed c.loop-rest.found.items) rest (tokens_in c.args.text.now) ts some solid
    c.loop-rest.invariant.told told in
    let count = length-map c.loop-rest.found.items placed_of in
    omega (arith, more, count, c.len.ensures, c.if-len-most.true)

pub returns-then-len-most-clause-longer : goal.returns-then-len-most-clause-longer
returns-then-len-most-clause-longer c =
    let rest = c.loop-rest.rest.now in
    let some : 0 < length rest = rw (← c.as_bytes.ensures.value) c.in-len1-up.len_at_least in
    omega (arith, some, c.loop-rest.invariant.few, c.len.ensures, c.if-len-most.true)

pub returns-then-len-most-clause-first : goal.returns-then-len-most-clause-first
returns-then-len-most-clause-first c =
    begins_all c.args.most (length c.loop-rest.found.items) (length c.args.text.now) c.loop-rest.rest.now
    (begins_with c.args.most 0 0 c.args.text.now) (omega (arith, c.len.ensures, c.if-len-most.true)) c.loop-rest.invariant.begun

pub returns-clause-exact : goal.returns-clause-exact
returns-clause-exact c =
    is_done (length c.args.text.now) (all_placed c.loop-rest.found.items) c.loop-rest.rest.now (tokens_in c.args.text.now)
    (rw (← c.as_bytes.ensures.value) c.in_default.len_below) c.loop-rest.invariant.told

pub returns-clause-legal : goal.returns-clause-legal
returns-clause-legal c =
    tokens_legal c.args.text.now c.loop-rest.found.items
    (is_done (length c.args.text.now) (all_placed c.loop-rest.found.items) c.loop-rest.rest.now (tokens_in c.args.text.now)
    (rw (← c.as_bytes.ensures.value) c.in_default.len_below) c.loop-rest.invariant.told)
