use Rattle.std.proofs.Common.{◌≡◌, ℕ, List, [], ◌∷◌, ◌++◌, arith, rules, Bor, Some, None, sym, ap, ◌∙◌, append_assoc}
use Rattle.std.specs.List.{flat_map}
use Rattle.std.proofs.lemmas.Str.Pattern.{split_once_first, IsSplitOnceResult}
use Rattle.std.specs.String.{string_bytes}
use Rattle.query_tokens.specs.Spelling.{spell_byte}
use Rattle.query_checks.proofs.QuoteLaws.{no_quote, to_quote}
use Rattle.query_checks.proofs.spelling.push_quoted.Goals as goal

parts : (rest : List ℕ) (piece behind : Bor (List ℕ)) → IsSplitOnceResult 39 rest (Some (piece, behind)) → flat_map spell_byte rest
    ≡ piece.now ++ 39 ∷ 39 ∷ flat_map spell_byte behind.now
parts rest piece behind h =
    let s = split_once_first 39 rest (Some (piece, behind)) h (omega arith) in
    rw (s.1, s.2) (to_quote rest s.0)

regroup : (a p more : List ℕ) → ((a ++ p) ++ 39 ∷ 39 ∷ []) ++ more ≡ a ++ (p ++ 39 ∷ 39 ∷ more)
regroup a p more = append_assoc (a ++ p) (39 ∷ 39 ∷ []) more ∙ append_assoc a p (39 ∷ 39 ∷ more)

pub loop-piece-preserved : goal.loop-piece-preserved
loop-piece-preserved c =
    let p = parts c.loop-piece.rest.now c.in-Some.piece c.in-Some.behind c.in-Some.ensures.cases in
    record {
      text = search rules;
      pushed =
          rw (c.in_ok-push_str-2.ensures.bytes, c.in_ok-push_str.ensures.bytes)
          (regroup (string_bytes c.loop-piece.text) c.in-Some.piece.now (flat_map spell_byte c.in-Some.behind.now))
          ∙ ap (λ more. string_bytes c.loop-piece.text ++ more) (sym p) ∙ c.loop-piece.invariant.pushed;
    }

pub returns : goal.returns
returns c =
    let none = split_once_first 39 c.loop-piece.rest.now None c.in_default.ensures.cases (omega arith) in
    c.in_ok-push_str-3.ensures.bytes ∙ ap (λ more. string_bytes c.loop-piece.text ++ more) (sym (no_quote c.loop-piece.rest.now none))
    ∙ c.loop-piece.invariant.pushed
