-- Laws: what was read, from the lexemes that were read, and a text has the columns of one schema at most; nothing here is a definition.
use Rattle.std.specs.Prelude.{◌≡◌, refl, ℕ, List, [], ◌∷◌, Result, Ok, Err}
use Rattle.std.proofs.Common.{sym, ◌∙◌, ap, subst}
use Rattle.query_tokens.specs.declared.word.Symbol.TheVariants.{Comma}
use Rattle.query_tokens.specs.declared.fault.Fault.{Fault}
use Rattle.query_tokens.specs.Words.{Lexeme, Name, Sign, Placed}
use Rattle.query_tokens.specs.Spelling.{lexemes_of, lexemes_read}
use Rattle.std.proofs.lemmas.Option.{none-some, same_Some}
use Rattle.std.specs.Result.{result_ok}
use Rattle.packed_rows.specs.Columns.{Column, DescribesColumn, Describes, IsSchemaText}
use Rattle.packed_rows.specs.DescribedLaws.{column_is, none_described}

-- what was read, from the lexemes that were read
pub read_ok : (read : Result (List Placed) Fault) (ws : List Lexeme) → lexemes_read read ≡ Ok ws → (ts : List Placed) × (read ≡ Ok ts)
    × (lexemes_of ts ≡ ws)
read_ok (Ok ts) ws e = (ts, refl, same_Some (lexemes_of ts) ws (ap result_ok e))
read_ok (Err f) ws e = absurd (none-some ws (ap result_ok e))

same_column : (name word : List ℕ) (c d : Column) → DescribesColumn name word c → DescribesColumn name word d → c ≡ d
same_column name word c d x y = column_is name word d.kind c x y.of_kind ∙ sym (column_is name word d.kind d y y.of_kind)

-- lexemes describe one list of columns at most
one_description : (a b : List Column) (lexemes : List Lexeme) → Describes lexemes a → Describes lexemes b → a ≡ b
unfolding Describes
one_description (c ∷ []) (d ∷ []) (Name name ∷ Name word ∷ []) p q = ap (λ x. x ∷ []) (same_column name word c d p q)
one_description (c ∷ tail) (d ∷ rest) (Name name ∷ Name word ∷ Sign Comma ∷ more) p q = λ i. same_column name word c d p.0 q.0 i
    ∷ one_description tail rest more p.1 q.1 i
one_description (c ∷ []) (d ∷ next ∷ rest) (Name name ∷ Name word ∷ []) p q = absurd q
one_description [] b lexemes p q = absurd (none_described lexemes p)
one_description a [] lexemes p q = absurd (none_described lexemes q)
one_description a b lexemes p q = absurd p

pub one_schema : (text : List ℕ) (a b : List Column) → IsSchemaText text a → IsSchemaText text b → a ≡ b
one_schema text a b x y =
    let same : x.tokens ≡ y.tokens = ok_same x.tokens y.tokens (sym x.read ∙ y.read) in
    one_description a b (lexemes_of x.tokens) x.described (subst (λ ts. Describes (lexemes_of ts) b) (sym same) y.described)
  where
    ok_same : (s t : List Placed) → (◌≡◌ {A = Result (List Placed) Fault} (Ok s) (Ok t)) → s ≡ t
    ok_same s t e = same_Some s t (ap result_ok e)
