-- What parsing gives, in the words of the grammar.
use Rattle.std.proofs.Common.{◌≡◌, ℕ, ◌≤◌, Bool, true, false, cond, List, length, Ok, Err, refl, sym, ap, subst, ◌∙◌, arith}
use Rattle.std.specs.Prelude.{nat_lt, Result}
use Rattle.std.proofs.lemmas.Bool.{ltb-true, ltb-false, le-ltb, lt-ltb}
use Rattle.query_tokens.specs.declared.fault.Fault.{Fault}
use Rattle.query_tokens.specs.Words.{Placed}
use Rattle.query_tokens.specs.Tokens.{tokens_in}
use Rattle.query_tokens.specs.Spelling.{IsLexeme, lexemes_of}
use Rattle.query_tokens.specs.Lemmas.Legal.{read_legal}
use Rattle.packed_rows.specs.Columns.{Column}
use Rattle.packed_rows.specs.DescribedLaws.{all_members}
use Rattle.query_checks.specs.declared.error.QueryError.{QueryError}
use Rattle.query_checks.specs.Order.{Asked}
use Rattle.query_checks.specs.Checks.{Checked, checked}
use Rattle.query_checks.specs.Writable.{IsWritable}
use Rattle.query_grammar.specs.Queries.{most_open, IsQuery}
use Rattle.query_grammar.specs.Reading.{Read, Unexpected, Too_deep}
use Rattle.query_grammar.specs.Whole.{query_at}
use Rattle.query_grammar.specs.Lemmas.Whole_complete.{query_reads}
use Rattle.query_grammar.specs.Lemmas.Faults.{is_query, is_unexpected, is_too_deep}
use Rattle.query_grammar.specs.Lemmas.FirstFaults.{unexpected_found, too_deep_found}
use Rattle.query_grammar.specs.Lemmas.Writables.{query_writable}
use Rattle.group_parser.specs.declared.error.ParseError.{ParseError}
use Rattle.group_parser.specs.Parsing as parsing
use Rattle.group_parser.specs.declared.error.ParseError.TheVariants.{Syntax, Query}
use Rattle.query_checks.specs.declared.error.QueryError.TheVariants.{TooMany, TooDeep}
use Rattle.group_parser.specs.Parsing.{most_bytes, of_fault, place_of_left, Accepts, Refuses, query_read, tokens_read, asked_in}
use Rattle.group_parser.specs.Parsing.{query_checked, asked_checked}

-- the tokens of a query, where one is asked in a text
pub record IsAskedIn (text : List ℕ) (asked : Asked) : Type 0 where
  tokens : List Placed
  short : length text ≤ most_bytes
  read : tokens_in text ≡ Ok tokens
  is_query : IsQuery most_open (lexemes_of tokens) asked

of_read : (text : List ℕ) (ts : List Placed) (asked : Asked) (r : Read Asked) → length text ≤ most_bytes → tokens_in text ≡ Ok ts
    → query_at most_open (lexemes_of ts) ≡ r
    → query_read (length text) ts r ≡ Ok asked → IsAskedIn text asked
of_read text ts asked (Ok x) short read e f =
    let same : x.0 ≡ asked = cc in
    record {
      tokens = ts;
      short = short;
      read = read;
      is_query = subst (IsQuery most_open (lexemes_of ts)) same
          (is_query most_open (lexemes_of ts) x.0 x.1 e);
    }
of_read text ts asked (Err (Unexpected left)) short read e f = absurd cc
of_read text ts asked (Err (Too_deep left)) short read e f = absurd cc

of_tokens : (text : List ℕ) (asked : Asked) (r : Result (List Placed) Fault) → length text ≤ most_bytes → tokens_in text ≡ r
    → tokens_read (length text) r ≡ Ok asked → IsAskedIn text asked
of_tokens text asked (Ok ts) short read e = of_read text ts asked (query_at most_open (lexemes_of ts)) short read refl e
of_tokens text asked (Err fault) short read e = absurd cc

of_size : (text : List ℕ) (asked : Asked) (b : Bool) → nat_lt most_bytes (length text) ≡ b
    → cond b (Err (Query TooMany)) (tokens_read (length text) (tokens_in text)) ≡ Ok asked → IsAskedIn text asked
of_size text asked true size e = absurd cc
of_size text asked false size e = of_tokens text asked (tokens_in text) (omega (arith, ltb-false most_bytes (length text) size)) refl e

is_asked_in : (text : List ℕ) (asked : Asked) → asked_in text ≡ Ok asked → IsAskedIn text asked
unfolding asked_in
is_asked_in text asked e = of_size text asked (nat_lt most_bytes (length text)) refl e

pub can_be_written : (text : List ℕ) (asked : Asked) → asked_in text ≡ Ok asked → IsWritable asked.written
can_be_written text asked e =
    let w = is_asked_in text asked e in
    (query_writable most_open (lexemes_of w.tokens) asked w.is_query
    (all_members IsLexeme (lexemes_of w.tokens) (λ v member. read_legal text w.tokens v w.read member))).written

pub accepts : (columns : List Column) (text : List ℕ) (asked : Asked) (q : Checked) → asked_in text ≡ Ok asked → checked columns asked
    ≡ Ok q → Accepts columns text q
accepts columns text asked q e f =
    let w = is_asked_in text asked e in
    record { tokens = w.tokens; asked = asked; short = w.short; read = w.read; is_query = w.is_query; passed = f }

-- ---- refusals

by_read : (columns : List Column) (text : List ℕ) (ts : List Placed) (error : ParseError) (r : Read Asked) → length text ≤ most_bytes
    → tokens_in text ≡ Ok ts → query_at most_open (lexemes_of ts) ≡ r
    → query_read (length text) ts r ≡ Err error → Refuses columns text error
by_read columns text ts error (Ok x) short read e f = absurd cc
by_read columns text ts error (Err (Unexpected left)) short read e f =
    let same : Syntax (place_of_left (length text) ts left) ≡ error = cc in
    subst (Refuses columns text) same (parsing.unexpected ts left short read (is_unexpected most_open (lexemes_of ts) left e))
by_read columns text ts error (Err (Too_deep left)) short read e f =
    let same : Query TooDeep ≡ error = cc in
    subst (Refuses columns text) same (parsing.too_deep ts left short read (is_too_deep most_open (lexemes_of ts) left e))

by_tokens : (columns : List Column) (text : List ℕ) (error : ParseError) (r : Result (List Placed) Fault) → length text ≤ most_bytes
    → tokens_in text ≡ r → tokens_read (length text) r ≡ Err error → Refuses columns text error
by_tokens columns text error (Ok ts) short read e = by_read columns text ts error (query_at most_open (lexemes_of ts)) short read refl e
by_tokens columns text error (Err fault) short read e =
    let same : of_fault fault ≡ error = cc in
    subst (Refuses columns text) same (parsing.no_tokens fault short read)

by_size : (columns : List Column) (text : List ℕ) (error : ParseError) (b : Bool) → nat_lt most_bytes (length text) ≡ b
    → cond b (Err (Query TooMany)) (tokens_read (length text) (tokens_in text)) ≡ Err error → Refuses columns text error
by_size columns text error true size e =
    let same : Query TooMany ≡ error = cc in
    subst (Refuses columns text) same (parsing.too_long (ltb-true most_bytes (length text) size))
by_size columns text error false size e = by_tokens columns text error (tokens_in text)
    (omega (arith, ltb-false most_bytes (length text) size)) refl e

pub refuses_text : (columns : List Column) (text : List ℕ) (error : ParseError) → asked_in text ≡ Err error → Refuses columns text error
unfolding asked_in
refuses_text columns text error e = by_size columns text error (nat_lt most_bytes (length text)) refl e

pub refuses_query : (columns : List Column) (text : List ℕ) (asked : Asked) (error : QueryError) → asked_in text ≡ Ok asked
    → checked columns asked ≡ Err error → Refuses columns text (Query error)
refuses_query columns text asked error e f =
    let w = is_asked_in text asked e in
    parsing.unchecked w.tokens asked error w.short w.read w.is_query f

-- ---- what is accepted is parsed, and not refused

not_long : (text : List ℕ) → length text ≤ most_bytes → nat_lt most_bytes (length text) ≡ false
not_long text short = le-ltb most_bytes (length text) short

pub accepts_parses : (columns : List Column) (text : List ℕ) (q : Checked) → Accepts columns text q → parsing.parsing columns text ≡ Ok q
unfolding asked_in
accepts_parses columns text q a =
    let e = query_reads most_open (lexemes_of a.tokens) a.asked a.is_query in
    rw (not_long text a.short, a.read, e, a.passed) refl

pub one_accepted : (columns : List Column) (text : List ℕ) (q r : Checked) → Accepts columns text q → Accepts columns text r → q ≡ r
one_accepted columns text q r a b =
    let e : Ok q ≡ Ok r = sym (accepts_parses columns text q a) ∙ accepts_parses columns text r b in cc

of_parsing : (columns : List Column) (text : List ℕ) (q : Checked) (r : Result Asked ParseError) → asked_in text ≡ r
    → asked_checked columns r ≡ Ok q → Accepts columns text q
of_parsing columns text q (Ok asked) e f = of_checks (checked columns asked) refl f
  where
    of_checks : (c : Result Checked QueryError) → checked columns asked ≡ c → query_checked c ≡ Ok q → Accepts columns text q
    of_checks (Ok p) g h = let same : p ≡ q = cc in accepts columns text asked q e (g ∙ ap (λ (x : Checked). Ok x) same)
    of_checks (Err error) g h = absurd cc
of_parsing columns text q (Err error) e f = absurd cc

pub parses_accepts : (columns : List Column) (text : List ℕ) (q : Checked) → parsing.parsing columns text ≡ Ok q → Accepts columns text q
parses_accepts columns text q e = of_parsing columns text q (asked_in text) refl e

of_refusal : (columns : List Column) (text : List ℕ) (error : ParseError) (r : Result Asked ParseError) → asked_in text ≡ r
    → asked_checked columns r ≡ Err error → Refuses columns text error
of_refusal columns text error (Ok asked) e f = of_checks (checked columns asked) refl f
  where
    of_checks : (c : Result Checked QueryError) → checked columns asked ≡ c → query_checked c ≡ Err error → Refuses columns text error
    of_checks (Ok p) g h = absurd cc
    of_checks (Err fault) g h = let same : Query fault
        ≡ error = cc in subst (Refuses columns text) same (refuses_query columns text asked fault e g)
of_refusal columns text error (Err fault) e f = let same : fault ≡ error = cc in refuses_text columns text error (e
    ∙ ap (λ (x : ParseError). Err x) same)

pub parses_refuses : (columns : List Column) (text : List ℕ) (error : ParseError) → parsing.parsing columns text ≡ Err error
    → Refuses columns text error
parses_refuses columns text error e = of_refusal columns text error (asked_in text) refl e

pub refuses_parses : (columns : List Column) (text : List ℕ) (error : ParseError) → Refuses columns text error
    → parsing.parsing columns text ≡ Err error
unfolding asked_in
refuses_parses columns text _ (parsing.too_long long) = rw (lt-ltb most_bytes (length text) long) refl
refuses_parses columns text _ (parsing.no_tokens fault short read) = rw (not_long text short, read) refl
refuses_parses columns text _ (parsing.unexpected ts left short read fault) =
    let e = unexpected_found most_open (lexemes_of ts) left fault in
    rw (not_long text short, read, e) refl
refuses_parses columns text _ (parsing.too_deep ts left short read fault) =
    let e = too_deep_found most_open (lexemes_of ts) left fault in
    rw (not_long text short, read, e) refl
refuses_parses columns text _ (parsing.unchecked ts asked error short read is refused) =
    let e = query_reads most_open (lexemes_of ts) asked is in
    rw (not_long text short, read, e, refused) refl

pub one_refused : (columns : List Column) (text : List ℕ) (a b : ParseError) → Refuses columns text a → Refuses columns text b → a ≡ b
one_refused columns text a b r s =
    let e : parsing.parsing columns text ≡ Err b = refuses_parses columns text b s in
    let f : parsing.parsing columns text ≡ Err a = refuses_parses columns text a r in
    cc

pub not_both : (columns : List Column) (text : List ℕ) (q : Checked) (error : ParseError) → Accepts columns text q
    → Refuses columns text error → ⊥
not_both columns text q error a r = let clash = sym (accepts_parses columns text q a) ∙ refuses_parses columns text error r in absurd cc
