use Rattle.std.specs.Prelude.{Some}
use Rattle.std.proofs.Common.{inr, refl, arith}
use Rattle.std.proofs.lemmas.Str.Pattern.{strip_suffix_char}
use Rattle.command_words.proofs.LineEnd.{drops}
use Rattle.command_words.proofs.line_end.without_line_end.Goals as goal

pub returns-in-Some : goal.returns-in-Some
returns-in-Some c =
    let feed = strip_suffix_char 10 c.args.text.now (Some c.in-Some.line) c.in-Some.ensures.cases (omega arith) in
    let return = strip_suffix_char 13 c.in-Some.line.now c.strip_suffix-in-Some.result c.strip_suffix-in-Some.ensures.cases (omega arith) in
    drops c.args.text.now c.in-Some.line c.strip_suffix-in-Some.result c.unwrap_or.result feed return c.unwrap_or.ensures

pub returns-in-None : goal.returns-in-None
unfolding lib.Utf8.encode
returns-in-None c = inr (inr (refl, c.in-None.ensures.cases))
