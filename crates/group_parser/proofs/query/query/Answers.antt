use Rattle.std.proofs.Common.{length, refl}
use Rattle.std.specs.Prelude.{codes}
use Rattle.query_grammar.specs.Queries.{most_open}
use Rattle.query_grammar.specs.Terminals.{is_word}
use Rattle.query_grammar.specs.Reading.{expect}
use Rattle.query_grammar.specs.Lists.{list_at}
use Rattle.query_grammar.specs.Arrangement.{order_at, arrangement_at}
use Rattle.query_grammar.specs.Whole.{item_at, clause_at, keys_at, end_at, query_at}
use Rattle.group_parser.specs.Views.{lexemes}
use Rattle.group_parser.proofs.Readers.{fails_on, fails_out}
use Rattle.group_parser.proofs.query.query.Goals as goal

pub returns-in_err-rest : goal.returns-in_err-rest
unfolding query_at
returns-in_err-rest c =
    let ts = lexemes c.args.tokens.now in
    fails_out _ c.from_residual.result _ _ c.from_residual.ensures.1
    (fails_on c.in_err-rest.field-0.0 (expect (is_word (codes "select")) ts) (query_at most_open ts) (λ f h. rw h refl)
    c.in_err-rest.ensures.read)

pub returns-in_err-items : goal.returns-in_err-items
unfolding query_at
returns-in_err-items c =
    let ts = lexemes c.args.tokens.now in
    fails_out _ c.from_residual-in_err-items.result _ _ c.from_residual-in_err-items.ensures.1
    (fails_on c.in_err-items.field-0.0 (list_at (item_at most_open) (length (lexemes c.in_ok-rest.rest.now))
    (lexemes c.in_ok-rest.rest.now)) (query_at most_open ts) (λ f h. rw (c.in_ok-rest.ensures.read, h) refl)
    c.in_err-items.ensures.read)

pub returns-in_err-rest-2 : goal.returns-in_err-rest-2
unfolding query_at
returns-in_err-rest-2 c =
    let ts = lexemes c.args.tokens.now in
    fails_out _ c.from_residual-in_err-rest-2.result _ _ c.from_residual-in_err-rest-2.ensures.1
    (fails_on c.in_err-rest-2.field-0.0 (expect (is_word (codes "from")) (lexemes c.in_ok-items.rest.now)) (query_at most_open ts)
    (λ f h. rw (c.in_ok-rest.ensures.read, c.in_ok-items.ensures.read, h) refl) c.in_err-rest-2.ensures.read)

pub returns-in_err-rest-3 : goal.returns-in_err-rest-3
unfolding query_at
returns-in_err-rest-3 c =
    let ts = lexemes c.args.tokens.now in
    fails_out _ c.from_residual-in_err-rest-3.result _ _ c.from_residual-in_err-rest-3.ensures.1
    (fails_on c.in_err-rest-3.field-0.0 (expect (is_word (codes "batches")) (lexemes c.in_ok-rest-2.rest.now)) (query_at most_open ts)
    (λ f h. rw (c.in_ok-rest.ensures.read, c.in_ok-items.ensures.read, c.in_ok-rest-2.ensures.read, h) refl)
    c.in_err-rest-3.ensures.read)

pub returns-in_err-condition : goal.returns-in_err-condition
unfolding query_at
returns-in_err-condition c =
    let ts = lexemes c.args.tokens.now in
    fails_out _ c.from_residual-in_err-condition.result _ _ c.from_residual-in_err-condition.ensures.1
    (fails_on c.in_err-condition.field-0.0 (clause_at most_open (codes "where") (lexemes c.in_ok-rest-3.rest.now))
    (query_at most_open ts)
    (λ f h. rw (c.in_ok-rest.ensures.read, c.in_ok-items.ensures.read, c.in_ok-rest-2.ensures.read, c.in_ok-rest-3.ensures.read, h)
    refl) c.in_err-condition.ensures)

pub returns-in_err-keys : goal.returns-in_err-keys
unfolding query_at
returns-in_err-keys c =
    let ts = lexemes c.args.tokens.now in
    fails_out _ c.from_residual-in_err-keys.result _ _ c.from_residual-in_err-keys.ensures.1
    (fails_on c.in_err-keys.field-0.0 (keys_at (lexemes c.in_ok-condition.rest.now)) (query_at most_open ts)
    (λ f h. rw (
      c.in_ok-rest.ensures.read,
      c.in_ok-items.ensures.read,
      c.in_ok-rest-2.ensures.read,
      c.in_ok-rest-3.ensures.read,
      c.in_ok-condition.ensures,
      h,
    ) refl) c.in_err-keys.ensures)

pub returns-in_err-having : goal.returns-in_err-having
unfolding query_at
returns-in_err-having c =
    let ts = lexemes c.args.tokens.now in
    fails_out _ c.from_residual-in_err-having.result _ _ c.from_residual-in_err-having.ensures.1
    (fails_on c.in_err-having.field-0.0 (clause_at most_open (codes "having") (lexemes c.in_ok-keys.rest.now)) (query_at most_open ts)
    (λ f h. rw (
      c.in_ok-rest.ensures.read,
      c.in_ok-items.ensures.read,
      c.in_ok-rest-2.ensures.read,
      c.in_ok-rest-3.ensures.read,
      c.in_ok-condition.ensures,
      c.in_ok-keys.ensures,
      h,
    ) refl) c.in_err-having.ensures)

pub returns-in_err-order : goal.returns-in_err-order
unfolding query_at arrangement_at
returns-in_err-order c =
    let ts = lexemes c.args.tokens.now in
    fails_out _ c.from_residual-in_err-order.result _ _ c.from_residual-in_err-order.ensures.1
    (fails_on c.in_err-order.field-0.0 (order_at (lexemes c.in_ok-having.rest.now)) (query_at most_open ts)
    (λ f h. rw (
      c.in_ok-rest.ensures.read,
      c.in_ok-items.ensures.read,
      c.in_ok-rest-2.ensures.read,
      c.in_ok-rest-3.ensures.read,
      c.in_ok-condition.ensures,
      c.in_ok-keys.ensures,
      c.in_ok-having.ensures,
      h,
    ) refl) c.in_err-order.ensures)

pub returns-in_err-end : goal.returns-in_err-end
unfolding query_at arrangement_at
returns-in_err-end c =
    let ts = lexemes c.args.tokens.now in
    fails_out _ c.from_residual-in_err-end.result _ _ c.from_residual-in_err-end.ensures.1
    (fails_on c.in_err-end.field-0.0 (end_at (lexemes c.in_ok-order.rest.now)) (query_at most_open ts)
    (λ f h. rw (
      c.in_ok-rest.ensures.read,
      c.in_ok-items.ensures.read,
      c.in_ok-rest-2.ensures.read,
      c.in_ok-rest-3.ensures.read,
      c.in_ok-condition.ensures,
      c.in_ok-keys.ensures,
      c.in_ok-having.ensures,
      c.in_ok-order.ensures,
      h,
    ) refl) c.in_err-end.ensures)

pub returns : goal.returns
unfolding query_at arrangement_at
returns c = rw (
  c.in_ok-rest.ensures.read,
  c.in_ok-items.ensures.read,
  c.in_ok-rest-2.ensures.read,
  c.in_ok-rest-3.ensures.read,
  c.in_ok-condition.ensures,
  c.in_ok-keys.ensures,
  c.in_ok-having.ensures,
  c.in_ok-order.ensures,
  c.in_ok-end.ensures,
) refl
