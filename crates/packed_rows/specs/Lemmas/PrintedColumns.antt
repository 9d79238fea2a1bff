-- A schema that is printed is read again, and a text has the columns of one schema at most.
use Rattle.std.specs.Prelude.{◌≡◌, refl, ℕ, List, [], ◌∷◌, ◌++◌, codes, Some}
use Rattle.std.proofs.Common.{sym, ◌∙◌, ap, subst, arith, append_assoc}
use Rattle.std.proofs.lemmas.List.{append-nil}
use Rattle.query_tokens.specs.Tokens.{tokens_in}
use Rattle.query_tokens.specs.Spelling.{IsName, text_of, lexemes_in, AreApart, Piece, Space, Spelled}
use Rattle.query_tokens.specs.Lemmas.Pieces.{pieces_again}
use Rattle.grouping_model.specs.Datum.{Kind, Bigint_kind, Boolean_kind, Text_kind}
use Rattle.std.specs.List.{AllByRecursion}
use Rattle.query_tokens.specs.declared.word.Symbol.TheVariants.{Comma}
use Rattle.query_tokens.specs.Words.{Name, Sign}
use Rattle.packed_rows.specs.Columns.{Column, names, IsColumnName, AreColumns, kind_text, Describes, IsSchemaText, column_text, printed}
use Rattle.packed_rows.specs.Columns.{kind_named}
use Rattle.packed_rows.specs.PrintedLaws.{read_ok}

-- a schema's text in pieces
pieces_of : List Column → List Piece
pieces_of [] = []
pieces_of (c ∷ []) = Spelled (Name c.name) ∷ Space ∷ Spelled (Name (kind_text c.kind)) ∷ []
pieces_of (c ∷ d ∷ cs) = Spelled (Name c.name) ∷ Space ∷ Spelled (Name (kind_text c.kind)) ∷ Spelled (Sign Comma) ∷ Space
    ∷ pieces_of (d ∷ cs)

printed-is : (cs : List Column) → printed cs ≡ text_of (pieces_of cs)
unfolding pieces_of
printed-is [] = refl
printed-is (c ∷ []) = append_assoc c.name (codes " ") (kind_text c.kind)
    ∙ ap (λ (w : List ℕ). c.name ++ (32 ∷ w)) (sym (append-nil (kind_text c.kind)))
printed-is (c ∷ d ∷ cs) =
    append_assoc (column_text c) (codes ", ") (printed (d ∷ cs))
    ∙ append_assoc (c.name ++ codes " ") (kind_text c.kind) (44 ∷ 32 ∷ printed (d ∷ cs))
    ∙ append_assoc c.name (codes " ") (kind_text c.kind ++ 44 ∷ 32 ∷ printed (d ∷ cs))
    ∙ ap (λ (w : List ℕ). c.name ++ (32 ∷ (kind_text c.kind ++ 44 ∷ 32 ∷ w))) (printed-is (d ∷ cs))

kind_name : (kind : Kind) → IsName (kind_text kind)
kind_name Bigint_kind = record { begins = refl; continues = refl; lower = refl; within = omega arith }
kind_name Boolean_kind = record { begins = refl; continues = refl; lower = refl; within = omega arith }
kind_name Text_kind = record { begins = refl; continues = refl; lower = refl; within = omega arith }

apart : (cs : List Column) → AllByRecursion IsColumnName (names cs) → AreApart (pieces_of cs)
unfolding pieces_of
apart [] named = tt
apart (c ∷ []) named = (named.0.legal, refl, (kind_name c.kind, refl, tt))
apart (c ∷ d ∷ cs) named = (named.0.legal, refl, (kind_name c.kind, refl, (tt, refl, apart (d ∷ cs) named.1)))

kind_read : (kind : Kind) → kind_named (kind_text kind) ≡ Some kind
unfolding kind_named
kind_read Bigint_kind = refl
kind_read Boolean_kind = refl
kind_read Text_kind = refl

described : (c : Column) (cs : List Column) → Describes (lexemes_in (pieces_of (c ∷ cs))) (c ∷ cs)
unfolding pieces_of Describes
described c [] = record { named = refl; of_kind = kind_read c.kind }
described c (d ∷ cs) = (record { named = refl; of_kind = kind_read c.kind }, described d cs)

described_all : (cs : List Column) → AreColumns cs → Describes (lexemes_in (pieces_of cs)) cs
described_all [] are = absurd (let some = are.some in omega (arith, some))
described_all (c ∷ cs) are = described c cs

pub printed_again : (cs : List Column) → AreColumns cs → IsSchemaText (printed cs) cs
printed_again cs are =
    let read = read_ok (tokens_in (text_of (pieces_of cs))) (lexemes_in (pieces_of cs)) (pieces_again 0 (pieces_of cs) (apart cs are.named))
    in
    record {
      tokens = read.0;
      read = ap tokens_in (printed-is cs) ∙ read.1;
      described = subst (λ ws. Describes ws cs) (sym read.2) (described_all cs are);
      columns_are = are;
    }
