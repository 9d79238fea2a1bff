-- Reading columns from the front of lexemes that describe them.
use Rattle.std.specs.Prelude.{◌≡◌, ◌≢◌, refl, ℕ, ◌+◌, ◌*◌, ◌<◌, ◌≤◌, ◌==◌, true, false, ◌||◌, List, [], ◌∷◌, ◌++◌, length, Option, Some}
use Rattle.std.specs.Prelude.{None, Ok}
use Rattle.std.proofs.Common.{sym, ◌∙◌, ap, subst, inl, inr, arith, append_assoc}
use Rattle.std.proofs.lemmas.List.{length-append, length-map}
use Rattle.std.specs.List.{AllByRecursion, IsDistinct, list_any}
use Rattle.std.specs.Str.{bytes_eq}
use Rattle.std.proofs.lemmas.Slice.Eq.{bytes_eq-Decides}
use Rattle.query_tokens.specs.declared.word.Symbol.TheVariants.{Comma}
use Rattle.query_tokens.specs.declared.word.Token.{Token}
use Rattle.query_tokens.specs.Words.{Lexeme, Name, Sign, Placed, all_placed}
use Rattle.query_tokens.specs.Spelling.{IsLexeme, lexemes_of}
use Rattle.query_tokens.specs.Tokens.{tokens_in}
use Rattle.std.proofs.lemmas.Bool.{eqb-true}
use Rattle.grouping_model.specs.declared.limits.TheConstants.{MAX_COLUMNS}
use Rattle.grouping_model.specs.Datum.{Kind}
use Rattle.packed_rows.specs.Columns.{Column, names, IsSchemaText, IsColumnName, AreColumns, kind_named, DescribesColumn, Describes}
use Rattle.packed_rows.specs.Columns.{BeginsWithColumn}
use Rattle.packed_rows.specs.Refusal.{AddFault, ReadFault}
use Rattle.packed_rows.specs.declared.error.RowError.{RowError}
use Rattle.packed_rows.specs.declared.error.RowError.TheVariants.{NoMemory, BadSchema}
use Rattle.packed_rows.specs.DescribedLaws.{column, column_is, none_described}
use Rattle.std.proofs.lemmas.Bool.Decides.{nat_tests}
use Rattle.std.proofs.lemmas.Grind.{common_steps}

-- the columns so far, and what is left to read
pub record ReadSoFar (all rest : List Lexeme) (columns : List Column) : Type 0 where
  pub only : (whole : List Column) → Describes all whole → (tail : List Column) × (whole ≡ columns ++ tail) × Describes rest tail
  pub back : (tail : List Column) → Describes rest tail → Describes all (columns ++ tail)
  pub legal : AllByRecursion IsLexeme rest
  pub few : length columns ≤ MAX_COLUMNS
  pub named : AllByRecursion IsColumnName (names columns)

-- what may follow a column: nothing, or a comma and what describes more columns
unfoldable pub Follows : List Lexeme → List Column → Type 0
Follows [] [] = Unit {0}
Follows (Sign Comma ∷ lexemes) columns = Describes lexemes columns
Follows lexemes columns = ⊥

split : (name word : List ℕ) (after : List Lexeme) (c : Column) (tail : List Column) → Describes (Name name ∷ Name word ∷ after) (c ∷ tail)
    → DescribesColumn name word c × Follows after tail
unfolding Describes Follows
split name word [] c [] d = (d, tt)
split name word [] c (t ∷ ts) d = absurd d
split name word (Sign Comma ∷ lexemes) c tail d = d
split name word (x ∷ lexemes) c tail d = absurd d

join : (name word : List ℕ) (after : List Lexeme) (c : Column) (tail : List Column) → DescribesColumn name word c → Follows after tail
    → Describes (Name name ∷ Name word ∷ after) (c ∷ tail)
unfolding Describes Follows
join name word [] c [] d f = d
join name word [] c (t ∷ ts) d f = absurd f
join name word (Sign Comma ∷ lexemes) c tail d f = (d, f)
join name word (x ∷ lexemes) c tail d f = absurd f

-- columns whose lexemes begin with a column begin with that column
first_column : (rest : List Lexeme) (name : List ℕ) (kind : Kind) (after : List Lexeme) → BeginsWithColumn rest name kind after
    → (cs : List Column) → Describes rest cs → (tail : List Column) × (cs ≡ column name kind ∷ tail) × Follows after tail
first_column rest name kind after b cs d = of_cases cs (subst (λ w. Describes w cs) b.begins d)
  where
    of_cases : (cs : List Column) → Describes (Name name ∷ Name b.word ∷ after) cs → (tail : List Column) × (cs ≡ column name kind ∷ tail)
        × Follows after tail
    of_cases [] d = absurd (none_described (Name name ∷ Name b.word ∷ after) d)
    of_cases (c ∷ tail) d = let parts = split name b.word after c tail d in
        (tail, ap (λ x. x ∷ tail) (column_is name b.word kind c parts.0 b.of_kind), parts.1)

more_columns : (rest : List Lexeme) (name : List ℕ) (kind : Kind) (after : List Lexeme) → BeginsWithColumn rest name kind after
    → (tail : List Column) → Follows after tail → Describes rest (column name kind ∷ tail)
more_columns rest name kind after b tail f =
    subst (λ w. Describes w (column name kind ∷ tail)) (sym b.begins)
    (join name b.word after (column name kind) tail (record { named = refl; of_kind = b.of_kind }) f)

pub nothing_read : (all : List Lexeme) → AllByRecursion IsLexeme all → ReadSoFar all all []
nothing_read all legal = record { only = λ whole d. (whole, refl, d); back = λ tail d. d; legal = legal; few = omega arith; named = tt }

names_push : (columns : List Column) (c : Column) → AllByRecursion IsColumnName (names columns) → IsColumnName c.name
    → AllByRecursion IsColumnName (names (columns ++ c ∷ []))
names_push [] c all n = (n, tt)
names_push (x ∷ columns) c all n = (all.0, names_push columns c all.1 n)

-- the length of columns with one more
one_longer : (columns : List Column) (c : Column) (tail : List Column) → length (columns ++ c ∷ tail) ≡ length columns + 1 + length tail
one_longer columns c tail = let e = length-append columns (c ∷ tail) in omega (arith, e)

-- the name of a new column that is right
new_name : (rest after : List Lexeme) (name : List ℕ) (kind : Kind) (columns : List Column) → AllByRecursion IsLexeme rest
    → BeginsWithColumn rest name kind after → ¬ (AddFault name columns BadSchema) → IsColumnName name
new_name rest after name kind columns legal b right = grind (arith, nat_tests, common_steps)

-- few columns, and not as many as there may be, have room for one more
room : (columns : List Column) (name : List ℕ) → length columns ≤ MAX_COLUMNS → ¬ (AddFault name columns BadSchema) → length columns
    + 1 ≤ MAX_COLUMNS
room columns name few right = let other : length columns ≢ MAX_COLUMNS = λ e. right (inl e) in omega arith

pub column_read : (all rest after more : List Lexeme) (name : List ℕ) (kind : Kind) (columns : List Column) → ReadSoFar all rest columns
    → BeginsWithColumn rest name kind after → after ≡ Sign Comma ∷ more → ¬ (AddFault name columns BadSchema)
    → ReadSoFar all more (columns ++ column name kind ∷ [])
unfolding Follows
column_read all rest after more name kind columns r b comma right =
    let legal_after : AllByRecursion IsLexeme after = (subst (AllByRecursion IsLexeme) b.begins r.legal).1.1 in
    record {
      only = λ whole d.
          let found = r.only whole d in
          let first = first_column rest name kind after b found.0 found.2 in (
            first.0,
            found.1 ∙ ap (λ w. columns ++ w) first.1 ∙ sym (append_assoc columns (column name kind ∷ []) first.0),
            subst (λ w. Follows w first.0) comma first.2,
          );
      back = λ tail d.
          subst (Describes all) (sym (append_assoc columns (column name kind ∷ []) tail))
          (r.back (column name kind ∷ tail) (more_columns rest name kind after b tail (subst (λ w. Follows w tail) (sym comma) d)));
      legal = (subst (AllByRecursion IsLexeme) comma legal_after).1;
      few = (let long = one_longer columns (column name kind) [] in let space = room columns name r.few right in omega
          (arith, long, space));
      named = names_push columns (column name kind) r.named (new_name rest after name kind columns r.legal b right);
    }

pub last_read : (all rest after : List Lexeme) (name : List ℕ) (kind : Kind) (columns : List Column) → ReadSoFar all rest columns
    → BeginsWithColumn rest name kind after → after ≡ [] → ¬ (AddFault name columns BadSchema)
    → IsDistinct bytes_eq (names (columns ++ column name kind ∷ [])) → Describes all (columns ++ column name kind ∷ [])
    × AreColumns (columns ++ column name kind ∷ [])
unfolding Follows
last_read all rest after name kind columns r b end right distinct =
    let long = one_longer columns (column name kind) [] in
    let space = room columns name r.few right in (
      r.back (column name kind ∷ []) (more_columns rest name kind after b [] (subst (λ w. Follows w []) (sym end) tt)),
      record {
        some = omega (arith, long);
        most = omega (arith, long, space);
        named = names_push columns (column name kind) r.named (new_name rest after name kind columns r.legal b right);
        distinct = distinct;
      },
    )

pub no_column : (all rest : List Lexeme) (columns : List Column) → ReadSoFar all rest columns → ((cs : List Column) → ¬ (Describes rest cs))
    → (whole : List Column) → Describes all whole → ¬ (AreColumns whole)
no_column all rest columns r none whole d = λ are. let found = r.only whole d in none found.0 found.2

-- a name that is there already
not_distinct : (columns tail : List Column) (name : List ℕ) (kind : Kind) → list_any (bytes_eq name) (names columns) ≡ true
    → ¬ (IsDistinct bytes_eq (names (columns ++ column name kind ∷ tail)))
unfolding IsDistinct
not_distinct [] tail name kind e = λ d. absurd cc
not_distinct (x ∷ columns) tail name kind e =
    elim (bytes_eq name x.name) as (λ b. bytes_eq name x.name ≡ b → (b || list_any (bytes_eq name) (names columns)) ≡ true
    → ¬ (IsDistinct bytes_eq (names ((x ∷ columns) ++ column name kind ∷ tail)))) [
      | true ↦ λ same e d. apart columns x.name d.0 (same_bytes name x.name same)
      | false ↦ λ other e d. not_distinct columns tail name kind e d.1
    ] refl e
  where
    same_bytes : (x y : List ℕ) → bytes_eq x y ≡ true → bytes_eq y x ≡ true
    same_bytes x y e = subst (λ z. bytes_eq z x ≡ true) ((bytes_eq-Decides x y).0 e) ((bytes_eq-Decides x x).1 refl)

    apart : (cs : List Column) (first : List ℕ) → AllByRecursion (λ n. bytes_eq first n ≡ false) (names (cs ++ column name kind ∷ tail))
        → bytes_eq first name ≡ true → ⊥
    apart [] first all e = let clash : true ≡ false = sym e ∙ all.0 in absurd cc
    apart (c ∷ cs) first all e = apart cs first all.1 e

named_at : (columns tail : List Column) (c : Column) → AllByRecursion IsColumnName (names (columns ++ c ∷ tail)) → IsColumnName c.name
named_at [] tail c all = all.0
named_at (x ∷ columns) tail c all = named_at columns tail c all.1

pub bad_column : (all rest after : List Lexeme) (name : List ℕ) (kind : Kind) (columns : List Column) → ReadSoFar all rest columns
    → BeginsWithColumn rest name kind after → AddFault name columns BadSchema → (whole : List Column) → Describes all whole
    → ¬ (AreColumns whole)
bad_column all rest after name kind columns r b fault whole d = λ are.
    let found = r.only whole d in
    let first = first_column rest name kind after b found.0 found.2 in
    let parts : whole ≡ columns ++ column name kind ∷ first.0 = found.1 ∙ ap (λ w. columns ++ w) first.1 in
    let are' = subst AreColumns parts are in
    elim fault [
      | inl full ↦ let long = one_longer columns (column name kind) first.0 in let most = are'.most in omega (arith, long, most, full)
      | inr other ↦ elim other [
        | inl there ↦ not_distinct columns first.0 name kind there are'.distinct
        | inr reserved ↦ let clash : true ≡ false = sym reserved ∙ (named_at columns first.0 (column name kind) are'.named).free in absurd
            cc
      ]
    ]

nothing_follows : (after : List Lexeme) (tail : List Column) → after ≢ [] → ((more : List Lexeme) → after ≢ Sign Comma ∷ more)
    → Follows after tail → ⊥
unfolding Follows
nothing_follows [] tail some none f = some refl
nothing_follows (Sign Comma ∷ more) tail some none f = none more refl
nothing_follows (x ∷ more) tail some none f = f

pub no_comma : (all rest after : List Lexeme) (name : List ℕ) (kind : Kind) (columns : List Column) → ReadSoFar all rest columns
    → BeginsWithColumn rest name kind after → after ≢ [] → ((more : List Lexeme) → after ≢ Sign Comma ∷ more) → (whole : List Column)
    → Describes all whole → ¬ (AreColumns whole)
no_comma all rest after name kind columns r b some none whole d = λ are.
    let found = r.only whole d in
    let first = first_column rest name kind after b found.0 found.2 in
    nothing_follows after first.0 some none first.2

-- what describes columns begins with two names, the second of a kind
pub no_name : (lexemes : List Lexeme) → ((name : List ℕ) (rest : List Lexeme) → lexemes ≢ Name name ∷ rest) → (cs : List Column)
    → ¬ (Describes lexemes cs)
unfolding Describes
no_name (Name name ∷ rest) none cs = λ d. none name rest refl
no_name lexemes none cs = λ d. d

after_name : (name : List ℕ) (rest : List Lexeme) → ((word : List ℕ) (more : List Lexeme) → rest ≢ Name word ∷ more) → (cs : List Column)
    → Describes (Name name ∷ rest) cs → ⊥
unfolding Describes
after_name name (Name word ∷ more) none cs d = none word more refl
after_name name rest none cs d = d

pub no_second_name : (lexemes : List Lexeme) (name : List ℕ) (rest : List Lexeme) → lexemes ≡ Name name ∷ rest
    → ((word : List ℕ) (more : List Lexeme) → rest ≢ Name word ∷ more) → (cs : List Column) → ¬ (Describes lexemes cs)
no_second_name lexemes name rest e none cs = λ d. after_name name rest none cs (subst (λ w. Describes w cs) e d)

pub no_kind : (lexemes : List Lexeme) (name word : List ℕ) (rest after : List Lexeme) → lexemes ≡ Name name ∷ rest → rest ≡ Name word
    ∷ after → None ≡ kind_named word → (cs : List Column) → ¬ (Describes lexemes cs)
no_kind lexemes name word rest after e f none [] = λ d. none_described (Name name ∷ Name word
    ∷ after) (subst (λ w. Describes w []) (e ∙ ap (λ w. Name name ∷ w) f) d)
no_kind lexemes name word rest after e f none (c ∷ cs) = λ d.
    let parts = split name word after c cs (subst (λ w. Describes w (c ∷ cs)) (e ∙ ap (λ w. Name name ∷ w) f) d) in
    some_none c.kind (sym parts.0.of_kind ∙ sym none)
  where
    some_none : (k : Kind) → (◌≡◌ {A = Option Kind} (Some k) None) → ⊥
    some_none k e = cc

-- a refused column is the fault of all lexemes
pub fault_read : (all rest after : List Lexeme) (name : List ℕ) (kind : Kind) (columns : List Column) (error : RowError)
    → ReadSoFar all rest columns → BeginsWithColumn rest name kind after → AddFault name columns error → ReadFault all error
fault_read all rest after name kind columns NoMemory r b fault = tt
fault_read all rest after name kind columns BadSchema r b fault = bad_column all rest after name kind columns r b fault
fault_read all rest after name kind columns error r b fault = absurd fault

-- fewer lexemes are left behind a column and a comma
pub fewer_left : (rest after more : List Lexeme) (name : List ℕ) (kind : Kind) → BeginsWithColumn rest name kind after → after ≡ Sign Comma
    ∷ more → length more < length rest
fewer_left rest after more name kind b comma = grind (arith, nat_tests, common_steps)

-- no lexemes of no tokens, and some of some
pub no_lexemes : (ts : List Token) → true ≡ (length ts == 0) → lexemes_of (all_placed ts) ≡ []
no_lexemes [] e = refl
no_lexemes (t ∷ ts) e = absurd (let zero_long = eqb-true (length (t ∷ ts)) 0 (sym e) in omega (arith, zero_long))

pub some_lexemes : (ts : List Token) → false ≡ (length ts == 0) → lexemes_of (all_placed ts) ≢ []
some_lexemes [] e = grind (arith, nat_tests, common_steps)
some_lexemes (t ∷ ts) e = λ empty. cc

-- a column is told by a name and a kind, and a comma parts it from the next one
lexemes_of_columns : (lexemes : List Lexeme) (columns : List Column) → Describes lexemes columns → length lexemes + 1 ≡ 3 * length columns
unfolding Describes
lexemes_of_columns (Name name ∷ Name word ∷ []) (column ∷ []) d = refl
lexemes_of_columns (Name name ∷ Name word ∷ Sign Comma ∷ lexemes) (column ∷ columns) d = let more = lexemes_of_columns lexemes columns d.1
    in omega (arith, more)
lexemes_of_columns lexemes columns d = absurd d

-- a text of more tokens than the most columns are told by is that of no schema
pub too_many_tokens : (text : List ℕ) → ((ts : List Placed) → tokens_in text ≡ Ok ts → 3 * MAX_COLUMNS < length ts)
    → (columns : List Column) → ¬ (IsSchemaText text columns)
too_many_tokens text more columns is =
    let count = lexemes_of_columns (lexemes_of is.tokens) columns is.described in
    let same = length-map is.tokens (λ t. t.lexeme) in
    let over = more is.tokens is.read in
    omega (arith, count, same, over, is.columns_are.most)
