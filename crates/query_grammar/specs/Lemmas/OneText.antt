-- Checked queries are told apart by their texts.
use Rattle.std.specs.Prelude.{◌≡◌, Result, Ok, Err}
use Rattle.std.proofs.Common.{sym, ◌∙◌, ap, subst}
use Rattle.query_grammar.specs.Lemmas.Words.{tokens_in, lexemes_of, IsSchemaText, checked, Checked, spelling, Asked, most_open, IsQuery}
use Rattle.packed_rows.specs.Columns.{printed}
use Rattle.packed_rows.specs.PrintedLaws.{one_schema}
use Rattle.packed_rows.specs.Lemmas.PrintedColumns.{printed_again}
use Rattle.having_filter.specs.Kept as kept
use Rattle.having_filter.specs.Kept.{by_names}
use Rattle.having_filter.specs.Lemmas.PassedLaws.{passes_first, passes_places}
use Rattle.having_filter.specs.NormalLaws.{columns_of_query}
use Rattle.having_filter.specs.Lemmas.NormalLaws.{asked_again}
use Rattle.std.specs.List.{AllByRecursion}
use Rattle.query_checks.specs.Arrangement.{CanBeArranged}
use Rattle.query_grammar.specs.Canonical.{canonical}
use Rattle.query_grammar.specs.Laws.{IsSpelled}
use Rattle.query_grammar.specs.Lemmas.PrintedQuery.{text_says}
use Rattle.query_grammar.specs.Lemmas.Whole_complete.{one_query}

-- the query by names is the one that its canonical text says
pub is_canonical : (q : Checked) → checked q.columns (by_names q) ≡ Ok q → canonical (by_names q) ≡ by_names q
is_canonical q passed =
    let w = by_names q in
    let first = passes_first q.columns w q passed in
    let same = (passes_places q passed).same in
    sym (ap by_names same ∙ asked_again q.columns w (columns_of_query q.columns w.written first.columns_there))

spelled : (q : Checked) → kept.IsCheckedQuery q → IsSpelled (spelling (by_names q)) (by_names q)
spelled q is =
    let w = by_names q in
    let first = passes_first q.columns w q is.passed in
    let fits = subst (λ (a : Asked). CanBeArranged a.arrangement) (sym (is_canonical q is.passed)) is.writable.arrangement in
    let says = text_says w is.writable.written first.shallow fits in
    record {
      tokens = says.tokens;
      read = says.read;
      is_query = subst (IsQuery most_open (lexemes_of says.tokens))
          (is_canonical q is.passed) says.is_query;
    }

ok_is : {T E : Type 0} (x y : T) → ◌≡◌ {A = Result T E} (Ok x) (Ok y) → x ≡ y
ok_is {T} {E} x y e = ap taken e
  where
    taken : Result T E → T
    taken (Ok z) = z
    taken (Err z) = x

pub one_text : (q r : Checked) → kept.IsCheckedQuery q → kept.IsCheckedQuery r → printed q.columns ≡ printed r.columns
    → spelling (by_names q) ≡ spelling (by_names r) → q ≡ r
one_text q r is_q is_r schemas texts =
    let one = spelled q is_q in
    let two = spelled r is_r in
    let columns : q.columns ≡ r.columns = one_schema (printed q.columns) q.columns r.columns (printed_again q.columns is_q.columns_are)
    (subst (λ t. IsSchemaText t r.columns) (sym schemas) (printed_again r.columns is_r.columns_are)) in
    let tokens : one.tokens ≡ two.tokens = ok_is one.tokens two.tokens (sym one.read ∙ ap tokens_in texts ∙ two.read) in
    let written : by_names q ≡ by_names r =
    one_query most_open (lexemes_of two.tokens) (by_names q) (by_names r) (subst (λ ts. IsQuery most_open (lexemes_of ts) (by_names q))
    tokens one.is_query) two.is_query in
    ok_is q r (sym is_q.passed ∙ (λ i. checked (columns i) (written i)) ∙ is_r.passed)
