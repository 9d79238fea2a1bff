use Rattle.std.proofs.Common.{sym, subst}
use Rattle.std.specs.List.{AllByRecursion}
use Rattle.query_tokens.specs.Words.{all_placed}
use Rattle.query_tokens.specs.Spelling.{IsLexeme, lexemes_of}
use Rattle.query_tokens.specs.Lemmas.Legal.{read_legal}
use Rattle.packed_rows.specs.DescribedLaws.{all_members}
use Rattle.packed_rows.proofs.schema.Schema.parse.Goals as goal

pub read_columns-requires : goal.read_columns-requires
read_columns-requires c =
    let read = c.in_ok-tokens.ensures.read in
    subst (λ ts. AllByRecursion IsLexeme (lexemes_of (all_placed ts))) (sym c.deref.ensures.value)
    (all_members IsLexeme (lexemes_of (all_placed c.in_ok-tokens.tokens.items)) (λ w member. read_legal c.args.text.now _ w read member))
