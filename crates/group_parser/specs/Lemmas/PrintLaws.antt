-- The canonical text of a checked query is parsed as the query.
use Rattle.std.proofs.Common.{◌≡◌, ℕ, ◌≤◌, false, List, length, sym, subst}
use Rattle.std.specs.Prelude.{nat_lt, ◌||◌}
use Rattle.std.specs.Str.{bytes_eq}
use Rattle.std.specs.List.{AllByRecursion}
use Rattle.std.proofs.lemmas.Bool.{ltb-false, or_parts}
use Rattle.query_tokens.specs.Spelling.{lexemes_of}
use Rattle.grouping_model.specs.declared.limits.TheConstants.{MAX_ITEMS, MAX_KEYS, MAX_CALLS, MAX_QUERY_LEN}
use Rattle.query_checks.specs.Order.{Asked}
use Rattle.query_checks.specs.Sameness.{first_of_each}
use Rattle.query_checks.specs.Checks.{Checked, has_too_many}
use Rattle.query_checks.specs.Arrangement.{CanBeArranged}
use Rattle.query_checks.specs.Calls.{distinct_calls}
use Rattle.query_checks.specs.Spelling.{spelling}
use Rattle.having_filter.specs.Kept as kept
use Rattle.having_filter.specs.Kept.{by_names}
use Rattle.having_filter.specs.Lemmas.PassedLaws.{passes_first}
use Rattle.query_grammar.specs.Queries.{most_open, IsQuery}
use Rattle.query_grammar.specs.Lemmas.OneText.{is_canonical}
use Rattle.query_grammar.specs.Lemmas.PrintedQuery.{text_says}
use Rattle.group_parser.specs.Parsing.{Accepts}

short_of : (w : Asked) → has_too_many w ≡ false → length (spelling w) ≤ MAX_QUERY_LEN
short_of w few =
    let items = nat_lt MAX_ITEMS (length w.written.items) in
    let keys = nat_lt MAX_KEYS (length (first_of_each bytes_eq w.written.keys)) in
    let calls = nat_lt MAX_CALLS (length (distinct_calls bytes_eq w.written)) in
    let bytes = nat_lt MAX_QUERY_LEN (length (spelling w)) in
    let one = or_parts items (keys || (calls || bytes)) few in
    let two = or_parts keys (calls || bytes) one.1 in
    let three = or_parts calls bytes two.1 in
    ltb-false MAX_QUERY_LEN (length (spelling w)) three.1

pub parsed_again : (q : Checked) (text : List ℕ) → kept.IsCheckedQuery q → text ≡ spelling (by_names q) → Accepts q.columns text q
parsed_again q text is same =
    let w = by_names q in
    let first = passes_first q.columns w q is.passed in
    let fits = subst (λ (a : Asked). CanBeArranged a.arrangement) (sym (is_canonical q is.passed)) is.writable.arrangement in
    let says = text_says w is.writable.written first.shallow fits in
    subst (λ (t : List ℕ). Accepts q.columns t q) (sym same)
    (record {
      tokens = says.tokens;
      asked = w;
      short = short_of w first.few;
      read = says.read;
      is_query = subst (IsQuery most_open (lexemes_of says.tokens)) (is_canonical q is.passed) says.is_query;
      passed = is.passed;
    })
