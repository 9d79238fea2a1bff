-- Laws: reading columns from the front of lexemes that describe them; these definitions serve the laws alone.
use Rattle.std.specs.Prelude.{◌≡◌, refl, ℕ, List, [], ◌∷◌, Contains, Some}
use Rattle.std.proofs.Common.{sym, ◌∙◌, suc, suc-le-suc, zero-le}
use Rattle.std.proofs.lemmas.Option.{same_Some}
use Rattle.std.specs.List.{AllByRecursion}
use Rattle.query_tokens.specs.declared.word.Symbol.TheVariants.{Comma}
use Rattle.query_tokens.specs.Words.{Lexeme, Name, Sign}
use Rattle.grouping_model.specs.Datum.{Kind}
use Rattle.packed_rows.specs.Columns.{Column, kind_named, DescribesColumn, Describes}

-- lexemes describe some columns or none at all
pub none_described : (lexemes : List Lexeme) → Describes lexemes [] → ⊥
unfolding Describes
none_described (Name name ∷ Name word ∷ []) d = d
none_described (Name name ∷ Name word ∷ Sign Comma ∷ more) d = d
none_described lexemes d = d

abbrev pub column : List ℕ → Kind → Column
column name kind = record { name = name; kind = kind }

pub column_is : (name word : List ℕ) (kind : Kind) (c : Column) → DescribesColumn name word c → kind_named word ≡ Some kind → c
    ≡ column name kind
column_is name word kind c d e = let same : c.kind
    ≡ kind = same_Some c.kind kind (sym d.of_kind ∙ e) in λ i. record { name = d.named i; kind = same i }

-- what holds of every member, by recursion
pub all_members : {X : Type 0} (P : X → Type 0) (xs : List X) → ((x : X) → Contains xs x → P x) → AllByRecursion P xs
all_members P [] each = tt
all_members P (x ∷ xs) each = (each x (0, suc-le-suc zero-le, refl), all_members P xs (λ y c. each y (suc c.0, suc-le-suc c.1, c.2)))
