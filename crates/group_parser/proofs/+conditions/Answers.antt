use Rattle.std.proofs.Common.{◌-◌, ◌∙◌, arith, refl, sym}
use Rattle.std.specs.Prelude.{codes}
use Rattle.query_tokens.specs.declared.word.Symbol.TheVariants as symbols
use Rattle.agg_protocol.specs.Kinds.{function_of}
use Rattle.query_grammar.specs.Queries.{most_open}
use Rattle.query_grammar.specs.Terminals.{function_named, is_word, is_sign}
use Rattle.query_grammar.specs.Reading.{expect, argument_at, filter_at, call_at, function_or_column, enclosed_at, prim_at, cmp_at}
use Rattle.query_grammar.specs.Reading.{looked_for, test_at, not_at, and_at, condition_at, conditions}
use Rattle.query_grammar.specs.Lemmas.Chains.{chain_done}
use Rattle.query_grammar.specs.Lemmas.Complete.{or_begins, or_begins_not, or_goes, or_stops, and_begins, and_begins_not, and_goes}
use Rattle.query_grammar.specs.Lemmas.Complete.{and_stops, test_begins, test_begins_not, test_goes, test_stops}
use Rattle.group_parser.specs.Views.{lexemes, condition_read, alias_read}
use Rattle.group_parser.proofs.Readers.{fails_on, fails_out, not_fails, not_reads, inside_first}
use Rattle.group_parser.proofs.+conditions.Goals.{operands::column_or_call-in-Some+in_default-after_symbol}
use Rattle.group_parser.proofs.+conditions.Goals.{operands::column_or_call-in_default}
use Rattle.group_parser.proofs.+conditions.Goals as goal

-- ---- OR

pub conditions::condition-returns-in_err-read-clause-read :
    goal.conditions::condition-returns-in_err-read-clause-read
conditions::condition-returns-in_err-read-clause-read t c =
    let ts = lexemes c.args.tokens.now in
    fails_out _ c.from_residual.result _ _ c.from_residual.ensures.1
    (fails_on c.in_err-read.field-0.0 (and_at (conditions most_open) c.args.room ts) (condition_at most_open c.args.room ts)
    (or_begins_not most_open c.args.room ts) c.in_err-read.ensures.read)

pub conditions::condition-loop-behind-init : goal.conditions::condition-loop-behind-init
conditions::condition-loop-behind-init t c = record {
  goes = or_begins most_open c.args.room (lexemes c.args.tokens.now) (condition_read c.in_ok-read.read) (lexemes c.in_ok-read.rest.now)
      c.in_ok-read.ensures.read;
  shorter = c.in_ok-read.ensures.shorter;
}

pub conditions::condition-returns-in_err-right-clause-read :
    goal.conditions::condition-returns-in_err-right-clause-read
conditions::condition-returns-in_err-right-clause-read t c =
    let ts = lexemes c.args.tokens.now in
    let behind = lexemes c.in-Some.behind.now in
    fails_out _ c.from_residual-in_err-right.result _ _ c.from_residual-in_err-right.ensures.1
    (fails_on c.in_err-right.field-0.0 (and_at (conditions most_open) c.args.room behind) (condition_at most_open c.args.room ts)
    (λ f h. or_stops most_open c.args.room ts (condition_read c.loop-behind.read) f (lexemes c.loop-behind.rest.now) behind
    c.loop-behind.invariant.goes (sym c.in-Some.ensures.found) h) c.in_err-right.ensures.read)

pub conditions::condition-loop-behind-preserved : goal.conditions::condition-loop-behind-preserved
conditions::condition-loop-behind-preserved t c = record {
  goes = rw c.in_ok-read-2.ensures (or_goes most_open c.args.room (lexemes c.args.tokens.now) (condition_read c.loop-behind.read)
      (condition_read c.in_ok-right.right) (lexemes c.loop-behind.rest.now) (lexemes c.in-Some.behind.now) (lexemes c.in_ok-right.next.now)
      c.loop-behind.invariant.goes (sym c.in-Some.ensures.found) c.in_ok-right.ensures.read);
  shorter = omega (arith, c.loop-behind.invariant.shorter, c.in-Some.ensures.shorter, c.in_ok-right.ensures.shorter);
}

pub conditions::condition-returns-clause-read : goal.conditions::condition-returns-clause-read
conditions::condition-returns-clause-read t c = chain_done _ _ _ _ _ c.loop-behind.invariant.goes (sym c.in_default.ensures.found)

-- ---- AND

pub conditions::conjunction-returns-in_err-read-clause-read :
    goal.conditions::conjunction-returns-in_err-read-clause-read
conditions::conjunction-returns-in_err-read-clause-read t c =
    let ts = lexemes c.args.tokens.now in
    fails_out _ c.from_residual.result _ _ c.from_residual.ensures.1
    (fails_on c.in_err-read.field-0.0 (not_at (conditions most_open) c.args.room ts) (and_at (conditions most_open) c.args.room ts)
    (and_begins_not most_open c.args.room ts) c.in_err-read.ensures.read)

pub conditions::conjunction-loop-behind-init : goal.conditions::conjunction-loop-behind-init
conditions::conjunction-loop-behind-init t c = record {
  goes = and_begins most_open c.args.room (lexemes c.args.tokens.now) (condition_read c.in_ok-read.read) (lexemes c.in_ok-read.rest.now)
      c.in_ok-read.ensures.read;
  shorter = c.in_ok-read.ensures.shorter;
}

pub conditions::conjunction-returns-in_err-right-clause-read :
    goal.conditions::conjunction-returns-in_err-right-clause-read
conditions::conjunction-returns-in_err-right-clause-read t c =
    let ts = lexemes c.args.tokens.now in
    let behind = lexemes c.in-Some.behind.now in
    fails_out _ c.from_residual-in_err-right.result _ _ c.from_residual-in_err-right.ensures.1
    (fails_on c.in_err-right.field-0.0 (not_at (conditions most_open) c.args.room behind) (and_at (conditions most_open) c.args.room ts)
    (λ f h. and_stops most_open c.args.room ts (condition_read c.loop-behind.read) f (lexemes c.loop-behind.rest.now) behind
    c.loop-behind.invariant.goes (sym c.in-Some.ensures.found) h) c.in_err-right.ensures.read)

pub conditions::conjunction-loop-behind-preserved :
    goal.conditions::conjunction-loop-behind-preserved
conditions::conjunction-loop-behind-preserved t c = record {
  goes = rw c.in_ok-read-2.ensures (and_goes most_open c.args.room (lexemes c.args.tokens.now) (condition_read c.loop-behind.read)
      (condition_read c.in_ok-right.right) (lexemes c.loop-behind.rest.now) (lexemes c.in-Some.behind.now) (lexemes c.in_ok-right.next.now)
      c.loop-behind.invariant.goes (sym c.in-Some.ensures.found) c.in_ok-right.ensures.read);
  shorter = omega (arith, c.loop-behind.invariant.shorter, c.in-Some.ensures.shorter, c.in_ok-right.ensures.shorter);
}

pub conditions::conjunction-returns-clause-read : goal.conditions::conjunction-returns-clause-read
conditions::conjunction-returns-clause-read t c = chain_done _ _ _ _ _ c.loop-behind.invariant.goes (sym c.in_default.ensures.found)

-- ---- NOT

pub conditions::negation-returns-in_err-read-clause-read :
    goal.conditions::negation-returns-in_err-read-clause-read
conditions::negation-returns-in_err-read-clause-read t c =
    let ts = lexemes c.args.tokens.now in
    let behind = lexemes c.count_nots-count.result.1.now in
    fails_out _ c.from_residual.result _ _ c.from_residual.ensures.1
    (fails_on c.in_err-read.field-0.0 (test_at (conditions most_open) c.args.room behind) (not_at (conditions most_open) c.args.room ts)
    (λ f h. not_fails (conditions most_open) c.args.room c.count_nots-count.result.0 ts behind f
    (c.count_nots-count.ensures.counted c.args.room) h) c.in_err-read.ensures.read)

pub conditions::negation-returns-clause-read : goal.conditions::negation-returns-clause-read
conditions::negation-returns-clause-read t c =
    not_reads (conditions most_open) c.args.room c.count_nots-count.result.0 (lexemes c.args.tokens.now)
    (lexemes c.count_nots-count.result.1.now) (condition_read c.in_ok-read.read) _ (lexemes c.in_ok-read.rest.now)
    (c.count_nots-count.ensures.counted c.args.room) c.in_ok-read.ensures.read c.in_ok-negated.ensures

-- ---- IS

pub conditions::test-returns-in_err-read-clause-read :
    goal.conditions::test-returns-in_err-read-clause-read
conditions::test-returns-in_err-read-clause-read t c =
    let ts = lexemes c.args.tokens.now in
    fails_out _ c.from_residual.result _ _ c.from_residual.ensures.1
    (fails_on c.in_err-read.field-0.0 (cmp_at (conditions most_open) c.args.room ts) (test_at (conditions most_open) c.args.room ts)
    (test_begins_not most_open c.args.room ts) c.in_err-read.ensures.read)

pub conditions::test-loop-behind-init : goal.conditions::test-loop-behind-init
conditions::test-loop-behind-init t c = record {
  goes = test_begins most_open c.args.room (lexemes c.args.tokens.now) (condition_read c.in_ok-read.read) (lexemes c.in_ok-read.rest.now)
      c.in_ok-read.ensures.read;
  shorter = c.in_ok-read.ensures.shorter;
}

pub conditions::test-returns-in_err-test-clause-read :
    goal.conditions::test-returns-in_err-test-clause-read
conditions::test-returns-in_err-test-clause-read t c =
    let ts = lexemes c.args.tokens.now in
    let x = condition_read c.loop-behind.read in
    fails_out _ c.from_residual-in_err-test.result _ _ c.from_residual-in_err-test.ensures.1
    (fails_on c.in_err-test.field-0.0 (looked_for (lexemes c.is_not-negated.result.1.now))
    (test_at (conditions most_open) c.args.room ts)
    (λ f h. test_stops most_open c.args.room ts x f (lexemes c.loop-behind.rest.now) (lexemes c.in-Some.behind.now)
    c.loop-behind.invariant.goes (sym c.in-Some.ensures.found) (c.is_not-negated.ensures.read x ∙ rw h refl))
    c.in_err-test.ensures.read)

pub conditions::test-loop-behind-preserved : goal.conditions::test-loop-behind-preserved
conditions::test-loop-behind-preserved t c = record {
  goes = rw c.in_ok-read-2.ensures (test_goes most_open c.args.room (lexemes c.args.tokens.now) (condition_read c.loop-behind.read) _
      (lexemes c.loop-behind.rest.now) (lexemes c.in-Some.behind.now) (lexemes c.in_ok-test.next.now) c.loop-behind.invariant.goes
      (sym c.in-Some.ensures.found) (c.is_not-negated.ensures.read (condition_read c.loop-behind.read)
      ∙ rw c.in_ok-test.ensures.read refl));
  shorter = omega (
    arith,
    c.loop-behind.invariant.shorter,
    c.in-Some.ensures.shorter,
    c.is_not-negated.ensures.shorter,
    c.in_ok-test.ensures.shorter,
  );
}

pub conditions::test-returns-clause-read : goal.conditions::test-returns-clause-read
conditions::test-returns-clause-read t c = chain_done _ _ _ _ _ c.loop-behind.invariant.goes (sym c.in_default.ensures.found)

-- ---- comparisons

pub conditions::comparison-returns-in_err-left-clause-read : goal.conditions::comparison-returns-in_err-left-clause-read
unfolding cmp_at
conditions::comparison-returns-in_err-left-clause-read t c =
    fails_out _ c.from_residual.result _ _ c.from_residual.ensures.1
    (fails_on c.in_err-left.field-0.0 (prim_at (conditions most_open) c.args.room (lexemes c.args.tokens.now))
    (cmp_at (conditions most_open) c.args.room (lexemes c.args.tokens.now)) (λ f h. rw h refl) c.in_err-left.ensures.read)

pub conditions::comparison-returns-in_default-clause-read : goal.conditions::comparison-returns-in_default-clause-read
unfolding cmp_at
conditions::comparison-returns-in_default-clause-read t c = rw (c.in_ok-left.ensures.read, ← c.in_default.ensures.found) refl

pub conditions::comparison-returns-in_err-right-clause-read : goal.conditions::comparison-returns-in_err-right-clause-read
unfolding cmp_at
conditions::comparison-returns-in_err-right-clause-read t c =
    fails_out _ c.from_residual-in_err-right.result _ _ c.from_residual-in_err-right.ensures.1
    (fails_on c.in_err-right.field-0.0 (prim_at (conditions most_open) c.args.room (lexemes c.in-Some.behind.now))
    (cmp_at (conditions most_open) c.args.room (lexemes c.args.tokens.now))
    (λ f h. rw (c.in_ok-left.ensures.read, ← c.in-Some.ensures.found, h) refl) c.in_err-right.ensures.read)

pub conditions::comparison-returns-clause-read : goal.conditions::comparison-returns-clause-read
unfolding cmp_at
conditions::comparison-returns-clause-read t c = rw (
  c.in_ok-compared.ensures,
  c.in_ok-left.ensures.read,
  ← c.in-Some.ensures.found,
  c.in_ok-right.ensures.read,
) refl

-- ---- calls

pub operands::filtered-returns-in_default-clause-read : goal.operands::filtered-returns-in_default-clause-read
unfolding filter_at
operands::filtered-returns-in_default-clause-read t c = rw (← c.in_default.ensures.found) refl

pub operands::filtered-returns-in_err-behind-clause-read : goal.operands::filtered-returns-in_err-behind-clause-read
unfolding filter_at
operands::filtered-returns-in_err-behind-clause-read t c =
    fails_out _ c.from_residual.result _ _ c.from_residual.ensures.1
    (fails_on c.in_err-behind.field-0.0 (expect (is_sign symbols.Open) (lexemes c.in-Some.behind.now))
    (filter_at (conditions most_open) (function_of c.args.kind, alias_read c.args.column) (lexemes c.args.tokens.now))
    (λ f h. rw (← c.in-Some.ensures.found, h) refl) c.in_err-behind.ensures.read)

pub operands::filtered-returns-in_err-behind-2-clause-read : goal.operands::filtered-returns-in_err-behind-2-clause-read
unfolding filter_at
operands::filtered-returns-in_err-behind-2-clause-read t c =
    fails_out _ c.from_residual-in_err-behind-2.result _ _ c.from_residual-in_err-behind-2.ensures.1
    (fails_on c.in_err-behind-2.field-0.0 (expect (is_word (codes "where")) (lexemes c.in_ok-behind.behind.now))
    (filter_at (conditions most_open) (function_of c.args.kind, alias_read c.args.column) (lexemes c.args.tokens.now))
    (λ f h. rw (← c.in-Some.ensures.found, c.in_ok-behind.ensures.read, h) refl) c.in_err-behind-2.ensures.read)

pub operands::filtered-returns-in_err-filter-clause-read : goal.operands::filtered-returns-in_err-filter-clause-read
unfolding filter_at
operands::filtered-returns-in_err-filter-clause-read t c =
    fails_out _ c.from_residual-in_err-filter.result _ _ c.from_residual-in_err-filter.ensures.1
    (fails_on c.in_err-filter.field-0.0 (condition_at most_open most_open (lexemes c.in_ok-behind-2.behind.now))
    (filter_at (conditions most_open) (function_of c.args.kind, alias_read c.args.column) (lexemes c.args.tokens.now))
    (λ f h. rw (← c.in-Some.ensures.found, c.in_ok-behind.ensures.read, c.in_ok-behind-2.ensures.read, h) refl)
    c.in_err-filter.ensures.read)

pub operands::filtered-returns-in_err-rest-clause-read : goal.operands::filtered-returns-in_err-rest-clause-read
unfolding filter_at
operands::filtered-returns-in_err-rest-clause-read t c =
    fails_out _ c.from_residual-in_err-rest.result _ _ c.from_residual-in_err-rest.ensures.1
    (fails_on c.in_err-rest.field-0.0 (expect (is_sign symbols.Close) (lexemes c.in_ok-filter.behind.now))
    (filter_at (conditions most_open) (function_of c.args.kind, alias_read c.args.column) (lexemes c.args.tokens.now))
    (λ f h. rw (← c.in-Some.ensures.found, c.in_ok-behind.ensures.read, c.in_ok-behind-2.ensures.read, c.in_ok-filter.ensures.read, h)
    refl) c.in_err-rest.ensures.read)

pub operands::filtered-returns-clause-read : goal.operands::filtered-returns-clause-read
unfolding filter_at
operands::filtered-returns-clause-read t c = rw (
  ← c.in-Some.ensures.found,
  c.in_ok-behind.ensures.read,
  c.in_ok-behind-2.ensures.read,
  c.in_ok-filter.ensures.read,
  c.in_ok-rest.ensures.read,
) refl

pub operands::call-returns-in_err-kind-clause-read : goal.operands::call-returns-in_err-kind-clause-read
unfolding call_at
operands::call-returns-in_err-kind-clause-read t c =
    fails_out _ c.from_residual.result _ _ c.from_residual.ensures.1
    (fails_on c.in_err-kind.field-0.0 (argument_at (function_of c.args.kind) (lexemes c.args.tokens.now))
    (call_at (conditions most_open) (function_of c.args.kind) (lexemes c.args.tokens.now)) (λ f h. rw h refl)
    c.in_err-kind.ensures.read)

pub operands::call-returns-in_err-behind-clause-read : goal.operands::call-returns-in_err-behind-clause-read
unfolding call_at
operands::call-returns-in_err-behind-clause-read t c =
    fails_out _ c.from_residual-in_err-behind.result _ _ c.from_residual-in_err-behind.ensures.1
    (fails_on c.in_err-behind.field-0.0 (expect (is_sign symbols.Close) (lexemes c.in_ok-kind.behind.now))
    (call_at (conditions most_open) (function_of c.args.kind) (lexemes c.args.tokens.now))
    (λ f h. rw (c.in_ok-kind.ensures.read, h) refl) c.in_err-behind.ensures.read)

pub operands::call-returns-clause-read : goal.operands::call-returns-clause-read
unfolding call_at
operands::call-returns-clause-read t c = rw (c.in_ok-kind.ensures.read, c.in_ok-behind.ensures.read) c.filtered.ensures.read

pub operands::column_or_call-returns-in_err-call-clause-read : goal.operands::column_or_call-returns-in_err-call-clause-read
operands::column_or_call-returns-in_err-call-clause-read t c =
    fails_out _ c.from_residual.result _ _ c.from_residual.ensures.1
    (fails_on c.in_err-call.field-0.0 (call_at (conditions most_open) (function_of c.in-Some.kind)
    (lexemes c.in-Some-after_symbol.behind.now)) (function_or_column (conditions most_open) c.args.name.now
    (function_named c.args.name.now) (lexemes c.args.tokens.now))
    (λ f h. rw (← c.in-Some.ensures, ← c.in-Some-after_symbol.ensures.found, h) refl) c.in_err-call.ensures.read)

pub operands::column_or_call-returns-in-Some-after_symbol-clause-read :
    goal.operands::column_or_call-returns-in-Some-after_symbol-clause-read
operands::column_or_call-returns-in-Some-after_symbol-clause-read t c = rw (← c.in-Some.ensures, ← c.in-Some-after_symbol.ensures.found)
    c.in_ok-call.ensures.read

pub operands::column_or_call-returns-clause-read : goal.operands::column_or_call-returns-clause-read
operands::column_or_call-returns-clause-read t c =
    rw c.in_ok-from_str.ensures.ok (
    elim c.match-named.branch [
      | operands::column_or_call-in-Some+in_default-after_symbol w ↦ rw (← w.in-Some.ensures, ← w.in_default-after_symbol.ensures.found)
          refl
      | operands::column_or_call-in_default w ↦ rw (← w.in_default.ensures) refl
    ])

-- ---- parentheses

pub operands::enclosed-returns-in_err-inside-clause-read : goal.operands::enclosed-returns-in_err-inside-clause-read
operands::enclosed-returns-in_err-inside-clause-read t c =
    fails_out _ c.from_residual.result _ _ c.from_residual.ensures.1
    (fails_on c.in_err-inside.field-0.0 (condition_at most_open (c.args.room - 1) (lexemes c.args.tokens.now))
    (enclosed_at (conditions most_open) c.args.room (lexemes c.args.tokens.now))
    (λ f h. rw (inside_first (conditions most_open) c.args.room (lexemes c.args.tokens.now) c.if-room-eq0.false, h) refl)
    c.in_err-inside.ensures.read)

pub operands::enclosed-returns-in_err-rest-clause-read : goal.operands::enclosed-returns-in_err-rest-clause-read
operands::enclosed-returns-in_err-rest-clause-read t c =
    fails_out _ c.from_residual-in_err-rest.result _ _ c.from_residual-in_err-rest.ensures.1
    (fails_on c.in_err-rest.field-0.0 (expect (is_sign symbols.Close) (lexemes c.in_ok-inside.behind.now))
    (enclosed_at (conditions most_open) c.args.room (lexemes c.args.tokens.now))
    (λ f h. rw (
      inside_first (conditions most_open) c.args.room (lexemes c.args.tokens.now) c.if-room-eq0.false,
      c.in_ok-inside.ensures.read,
      h,
    ) refl) c.in_err-rest.ensures.read)

pub operands::enclosed-returns-clause-read : goal.operands::enclosed-returns-clause-read
operands::enclosed-returns-clause-read t c = rw (
  inside_first (conditions most_open) c.args.room (lexemes c.args.tokens.now)
      c.if-room-eq0.false,
  c.in_ok-inside.ensures.read,
  c.in_ok-rest.ensures.read,
) refl
