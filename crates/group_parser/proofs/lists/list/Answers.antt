use Rattle.std.proofs.Common.{length, arith}
use Rattle.query_grammar.specs.Lists.{list_at}
use Rattle.query_grammar.specs.Lemmas.Chains.{list_fails}
use Rattle.group_parser.specs.Views.{lexemes}
use Rattle.group_parser.proofs.Readers.{fails_on, fails_out, list_init, list_next, list_next_fails, list_ends}
use Rattle.group_parser.proofs.lists.list.Goals as goal

pub returns-in_err-first-clause-read : goal.returns-in_err-first-clause-read
returns-in_err-first-clause-read g c =
    let one = g.T.Listed.one_at in
    let ts = lexemes c.args.tokens.now in
    fails_out _ c.from_residual.result _ _ c.from_residual.ensures.1
    (fails_on c.in_err-first.field-0.0 (one ts) (list_at one (length ts) ts) (list_fails one ts) c.in_err-first.ensures.read)

pub loop-behind-init : goal.loop-behind-init
loop-behind-init g c = record {
  lists = list_init g.T.Listed.one_at g.met.T.Listed.stays g.T.Listed.said (lexemes c.args.tokens.now) (lexemes c.in_ok-first.rest.now)
      c.new-found.result.items c.push.new.self.items c.in_ok-first.first c.new-found.ensures.items c.in_ok-push.ensures.items
      c.in_ok-first.ensures.read;
  shorter = c.in_ok-first.ensures.shorter;
}

pub returns-in_err-more-clause-read : goal.returns-in_err-more-clause-read
returns-in_err-more-clause-read g c =
    let one = g.T.Listed.one_at in
    let ts = lexemes c.args.tokens.now in
    let whole = list_at one (length ts) ts in
    let behind = lexemes c.in-Some.behind.now in
    fails_out _ c.from_residual-in_err-more.result _ _ c.from_residual-in_err-more.ensures.1
    (fails_on c.in_err-more.field-0.0 (one behind) whole
    (λ f h. list_next_fails one whole _ (lexemes c.loop-behind.rest.now) behind f c.loop-behind.invariant.lists c.in-Some.ensures.found h)
    c.in_err-more.ensures.read)

pub loop-behind-preserved : goal.loop-behind-preserved
loop-behind-preserved g c =
    let one = g.T.Listed.one_at in
    let ts = lexemes c.args.tokens.now in
    record {
      lists = list_next one g.met.T.Listed.stays g.T.Listed.said (list_at one (length ts) ts) c.loop-behind.found.items
          c.push-in-Some.new.self.items c.in_ok-more.more (lexemes c.loop-behind.rest.now) (lexemes c.in-Some.behind.now)
          (lexemes c.in_ok-more.next.now) c.loop-behind.invariant.lists c.in-Some.ensures.found c.in_ok-more.ensures.read
          c.in_ok-push-2.ensures.items;
      shorter = omega (arith, c.loop-behind.invariant.shorter, c.in-Some.ensures.shorter, c.in_ok-more.ensures.shorter);
    }

pub returns-clause-read : goal.returns-clause-read
returns-clause-read g c =
    let one = g.T.Listed.one_at in
    let ts = lexemes c.args.tokens.now in
    list_ends one (list_at one (length ts) ts) _ (lexemes c.loop-behind.rest.now) c.loop-behind.invariant.lists c.in_default.ensures.found
