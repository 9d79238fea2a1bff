use Rattle.std.proofs.Common.{◌≡◌, ℕ, List, arith, rules, true, false, Bor, Some, None}
use Rattle.std.proofs.lemmas.Str.Pattern.{split_once_first, strip_prefix_char, IsSplitOnceResult}
use Rattle.std.specs.String.{string_bytes}
use Rattle.query_tokens.specs.Tokens.{string_content}
use Rattle.query_tokens.proofs.Quotes.{with_front, is_open, to_quote, ends, goes_on}
use Rattle.query_tokens.proofs.reading.string_content.Goals as goal

parts : (rest : List ℕ) (piece after : Bor (List ℕ)) → IsSplitOnceResult 39 rest (Some (piece, after)) → string_content false rest
    ≡ with_front piece.now (string_content true after.now)
parts rest piece after h =
    let s = split_once_first 39 rest (Some (piece, after)) h (omega arith) in
    rw (s.1, s.2) (to_quote rest s.0)

pub returns-in-None : goal.returns-in-None
returns-in-None c =
    let p = parts c.loop-piece.rest.now c.in-Some.piece c.in-Some.after c.in-Some.ensures.cases in
    let closes = strip_prefix_char 39 c.in-Some.after.now None c.in-None.ensures.cases (omega arith) in
    rw (c.in_ok-push_str.ensures.bytes) (ends (string_bytes c.loop-piece.content) c.loop-piece.rest.now c.in-Some.piece.now
    c.in-Some.after.now (string_content false c.args.text.now) p closes c.loop-piece.invariant.told)

pub loop-piece-preserved : goal.loop-piece-preserved
loop-piece-preserved c =
    let p = parts c.loop-piece.rest.now c.in-Some.piece c.in-Some.after c.in-Some.ensures.cases in
    let more = c.in-Some-strip_prefix.more in
    let e = strip_prefix_char 39 c.in-Some.after.now (Some more) c.in-Some-strip_prefix.ensures.cases (omega arith) in
    record {
      text = search rules;
      told = rw (
        c.in_ok-push-in-Some-strip_prefix.ensures.bytes,
        c.in_ok-push-in-Some-strip_prefix.ensures.ascii (omega arith),
        c.in_ok-push_str.ensures.bytes,
      ) (goes_on (string_bytes c.loop-piece.content) c.loop-piece.rest.now c.in-Some.piece.now more.now
          (string_content false c.args.text.now) (rw e at p) c.loop-piece.invariant.told);
    }

pub returns : goal.returns
returns c =
    let none = split_once_first 39 c.loop-piece.rest.now None c.in_default.ensures.cases (omega arith) in
    let told = c.loop-piece.invariant.told in
    rw (is_open c.loop-piece.rest.now none) at told
