-- The canonical text of a condition is read as the condition.
use Rattle.std.proofs.Common.{◌≡◌, ℕ, zero, suc, ◌+◌, ◌≤◌, Bool, true, false, cond, List, [], ◌∷◌, ◌++◌, Option, Some, None, refl, sym}
use Rattle.std.proofs.Common.{subst, append_assoc, arith}
use Rattle.std.specs.Prelude.{codes, nat_lt, nat_le, max}
use Rattle.std.proofs.lemmas.Bool.{ltb-false, leb-true, and_parts}
use Rattle.query_grammar.specs.Lemmas.Words.{Symbol, Lexeme, Name, Integer, Text, Sign, IsName, is_reserved, IsColumnName, Function}
use Rattle.query_grammar.specs.Lemmas.Words.{function_name, call_text, level, operand, spelled, depth, filters_pass, IsWritableArgument}
use Rattle.query_grammar.specs.Lemmas.Words.{IsLiteral, IsForm, comparison_named, comparison_text, symbol_for, test_text, test_word}
use Rattle.query_grammar.specs.Lemmas.Words.{function_named, Named, opening, closing, word, IsTest, IsCondition, IsAnd, IsNot, IsTested}
use Rattle.query_grammar.specs.Lemmas.Words.{IsCompared, IsOperand, IsCall}
use Rattle.query_tokens.specs.declared.word.Symbol.TheVariants as symbols
use Rattle.grouping_model.specs.Datum as datum
use Rattle.grouping_model.specs.Datum.{Datum}
use Rattle.grouping_model.specs.Aggregates as function
use Rattle.grouping_model.specs.Condition as model
use Rattle.query_checks.specs.Forms as form
use Rattle.query_grammar.specs.Grammar as grammar
use Rattle.query_grammar.specs.Lemmas.Texts.{reads_space, reads_spelled, never_first, Quiet, Spells, Opens, spells_lexeme, spells_two}
use Rattle.query_grammar.specs.Lemmas.Texts.{opens_then, spells_between, spells_enclosed, spells_word, opens_word, opens_between, opens_two}
use Rattle.query_grammar.specs.Lemmas.Texts.{spells_test}
use Rattle.std.proofs.lemmas.Bool.Decides.{nat_tests}
use Rattle.std.proofs.lemmas.Grind.{common_steps}

-- ---- what a condition's tokens are, at each level of binding

pub record Printed (limit : ℕ) (x : Named) : Type 0 where
  pub tokens : List Lexeme
  pub spells : Spells (spelled x) tokens
  pub condition : (room : ℕ) → depth x ≤ suc room → IsCondition limit room tokens x
  pub and : 2 ≤ level x → (room : ℕ) → depth x ≤ suc room → IsAnd limit room tokens x
  pub not : 3 ≤ level x → (room : ℕ) → depth x ≤ suc room → IsNot limit room tokens x
  pub test : 4 ≤ level x → (room : ℕ) → depth x ≤ suc room → IsTested limit room tokens x
  pub compared : 5 ≤ level x → (room : ℕ) → depth x ≤ suc room → IsCompared limit room tokens x
  pub operand : 6 ≤ level x → (room : ℕ) → depth x ≤ suc room → IsOperand limit room tokens x

-- an operand in its place, which asks for a level
record Placed (limit asked : ℕ) (x : Named) : Type 0 where
  tokens : List Lexeme
  spells : Spells (operand asked x (spelled x)) tokens
  condition : (room : ℕ) → depth x ≤ room → IsCondition limit room tokens x
  and : 2 ≤ asked → (room : ℕ) → depth x ≤ room → IsAnd limit room tokens x
  not : 3 ≤ asked → (room : ℕ) → depth x ≤ room → IsNot limit room tokens x
  test : 4 ≤ asked → (room : ℕ) → depth x ≤ room → IsTested limit room tokens x
  operand_is : 6 ≤ asked → (room : ℕ) → depth x ≤ room → IsOperand limit room tokens x

some_depth : (x : Named) → 1 ≤ depth x
some_depth (form.Column w) = omega arith
some_depth (form.Call f c) = omega arith
some_depth (form.Call_where f c x) = omega arith
some_depth (form.Literal v) = omega arith
some_depth (form.Unary operator x) = omega arith
some_depth (form.Binary operator x y) = omega arith

enclosed_in : (limit : ℕ) (x : Named) (p : Printed limit x) (room : ℕ) → depth x ≤ room
    → IsOperand limit room (opening ∷ (p.tokens ++ closing ∷ [])) x
enclosed_in limit x p zero le = absurd (omega (arith, le, some_depth x))
enclosed_in limit x p (suc room) le = grammar.enclosed p.tokens (p.condition room le)

placed_if : (limit asked : ℕ) (x : Named) (b : Bool) → nat_lt (level x) asked ≡ b → Printed limit x → operand asked x (spelled x)
    ≡ cond b (codes "(" ++ spelled x ++ codes ")") (spelled x) → Placed limit asked x
placed_if limit asked x true e p text = record {
  tokens = opening ∷ (p.tokens ++ closing ∷ []);
  spells = rw text (spells_enclosed (spelled x) p.tokens p.spells);
  condition = λ room le. grammar.only_and
      (grammar.only_not (grammar.only_tested (grammar.only_compared (grammar.only_operand (enclosed_in limit x p room le)))));
  and = λ _ room le. grammar.only_not (grammar.only_tested (grammar.only_compared (grammar.only_operand (enclosed_in limit x p room le))));
  not = λ _ room le. grammar.only_tested (grammar.only_compared (grammar.only_operand (enclosed_in limit x p room le)));
  test = λ _ room le. grammar.only_compared (grammar.only_operand (enclosed_in limit x p room le));
  operand_is = λ _ room le. enclosed_in limit x p room le;
}
placed_if limit asked x false e p text =
    let h : asked ≤ level x = ltb-false (level x) asked e in
    record {
      tokens = p.tokens;
      spells = rw text p.spells;
      condition = λ room le. p.condition room (omega (arith, le));
      and = λ a room le. p.and (omega (arith, a, h)) room (omega (arith, le));
      not = λ a room le. p.not (omega (arith, a, h)) room (omega (arith, le));
      test = λ a room le. p.test (omega (arith, a, h)) room (omega (arith, le));
      operand_is = λ a room le. p.operand (omega (arith, a, h)) room (omega (arith, le));
    }

placed : (limit asked : ℕ) (x : Named) → Printed limit x → Placed limit asked x
placed limit asked x p = placed_if limit asked x (nat_lt (level x) asked) refl p refl

-- ---- what is printed at each level

of_operand : (limit : ℕ) (x : Named) (ts : List Lexeme) → Spells (spelled x) ts
    → ((room : ℕ) → depth x ≤ suc room → IsOperand limit room ts x) → Printed limit x
of_operand limit x ts s p = record {
  tokens = ts;
  spells = s;
  condition = λ room le. grammar.only_and
      (grammar.only_not (grammar.only_tested (grammar.only_compared (grammar.only_operand (p room le)))));
  and = λ _ room le. grammar.only_not (grammar.only_tested (grammar.only_compared (grammar.only_operand (p room le))));
  not = λ _ room le. grammar.only_tested (grammar.only_compared (grammar.only_operand (p room le)));
  test = λ _ room le. grammar.only_compared (grammar.only_operand (p room le));
  compared = λ _ room le. grammar.only_operand (p room le);
  operand = λ _ room le. p room le;
}

of_compared : (limit : ℕ) (x : Named) (ts : List Lexeme) → level x ≡ 5 → Spells (spelled x) ts
    → ((room : ℕ) → depth x ≤ suc room → IsCompared limit room ts x) → Printed limit x
of_compared limit x ts five s p = record {
  tokens = ts;
  spells = s;
  condition = λ room le. grammar.only_and (grammar.only_not (grammar.only_tested (grammar.only_compared (p room le))));
  and = λ _ room le. grammar.only_not (grammar.only_tested (grammar.only_compared (p room le)));
  not = λ _ room le. grammar.only_tested (grammar.only_compared (p room le));
  test = λ _ room le. grammar.only_compared (p room le);
  compared = λ _ room le. p room le;
  operand = λ a. absurd (omega (arith, a, five));
}

of_test : (limit : ℕ) (x : Named) (ts : List Lexeme) → level x ≡ 4 → Spells (spelled x) ts
    → ((room : ℕ) → depth x ≤ suc room → IsTested limit room ts x) → Printed limit x
of_test limit x ts four s p = record {
  tokens = ts;
  spells = s;
  condition = λ room le. grammar.only_and (grammar.only_not (grammar.only_tested (p room le)));
  and = λ _ room le. grammar.only_not (grammar.only_tested (p room le));
  not = λ _ room le. grammar.only_tested (p room le);
  test = λ _ room le. p room le;
  compared = λ a. absurd (omega (arith, a, four));
  operand = λ a. absurd (omega (arith, a, four));
}

of_not : (limit : ℕ) (x : Named) (ts : List Lexeme) → level x ≡ 3 → Spells (spelled x) ts
    → ((room : ℕ) → depth x ≤ suc room → IsNot limit room ts x) → Printed limit x
of_not limit x ts three s p = record {
  tokens = ts;
  spells = s;
  condition = λ room le. grammar.only_and (grammar.only_not (p room le));
  and = λ _ room le. grammar.only_not (p room le);
  not = λ _ room le. p room le;
  test = λ a. absurd (omega (arith, a, three));
  compared = λ a. absurd (omega (arith, a, three));
  operand = λ a. absurd (omega (arith, a, three));
}

of_and : (limit : ℕ) (x : Named) (ts : List Lexeme) → level x ≡ 2 → Spells (spelled x) ts
    → ((room : ℕ) → depth x ≤ suc room → IsAnd limit room ts x) → Printed limit x
of_and limit x ts two s p = record {
  tokens = ts;
  spells = s;
  condition = λ room le. grammar.only_and (p room le);
  and = λ _ room le. p room le;
  not = λ a. absurd (omega (arith, a, two));
  test = λ a. absurd (omega (arith, a, two));
  compared = λ a. absurd (omega (arith, a, two));
  operand = λ a. absurd (omega (arith, a, two));
}

of_or : (limit : ℕ) (x : Named) (ts : List Lexeme) → level x ≡ 1 → Spells (spelled x) ts
    → ((room : ℕ) → depth x ≤ suc room → IsCondition limit room ts x) → Printed limit x
of_or limit x ts one s p = grind (arith, nat_tests, common_steps)

-- ---- literals

literal_printed : (limit : ℕ) (v : Datum) → IsLiteral v → Printed limit (form.Literal v)
literal_printed limit datum.Null legal = of_operand limit (form.Literal datum.Null) (word (codes "null")
    ∷ []) (spells_word (codes "NULL") refl) (λ room le. grammar.null_word)
literal_printed limit (datum.Bigint z) legal = of_operand limit (form.Literal (datum.Bigint z)) (Integer z
    ∷ []) (spells_lexeme (Integer z) legal) (λ room le. grammar.integer)
literal_printed limit (datum.Boolean true) legal = of_operand limit (form.Literal (datum.Boolean true)) (word (codes "true")
    ∷ []) (spells_word (codes "TRUE") refl) (λ room le. grammar.true_word)
literal_printed limit (datum.Boolean false) legal = of_operand limit (form.Literal (datum.Boolean false)) (word (codes "false")
    ∷ []) (spells_word (codes "FALSE") refl) (λ room le. grammar.false_word)
literal_printed limit (datum.Text s) legal = of_operand limit (form.Literal (datum.Text s)) (Text s ∷ []) (spells_lexeme (Text s) legal)
    (λ room le. grammar.text)

-- ---- calls

-- a function's name, with the function that it calls and the argument
pub record Calls (f : Function) (column : Option (List ℕ)) : Type 0 where
  pub called : Function
  pub inside : List Lexeme
  pub named : IsName (function_name f)
  pub free : is_reserved (function_name f) ≡ false
  pub calls : function_named (function_name f) ≡ Some called
  pub argument : grammar.IsCallArgument called inside (f, column)
  pub spells : Spells (call_text f column) (Name (function_name f) ∷ opening ∷ (inside ++ closing ∷ []))

record IsFunction (f : Function) : Type 0 where
  named : IsName (function_name f)
  free : is_reserved (function_name f) ≡ false
  calls : function_named (function_name f) ≡ Some f

opens_paren : Opens (codes "(") (opening ∷ [])
opens_paren = record { on = λ rest ws more. reads_spelled opening rest ws tt (never_first rest) more }

named_call : (f : Function) (name : List ℕ) → IsFunction f → IsColumnName name → Spells (function_name f ++ codes "(" ++ name ++ codes ")")
    (Name (function_name f) ∷ opening ∷ (Name name ∷ closing ∷ []))
named_call f name is legal =
    subst (λ (text : List ℕ). Spells text (Name (function_name f) ∷ opening ∷ (Name name ∷ closing ∷ [])))
    (sym (append_assoc (function_name f ++ codes "(") name (codes ")")))
    (spells_between (function_name f) (codes "(") (name ++ codes ")") (Name (function_name f) ∷ []) (opening ∷ []) (Name name ∷ closing
    ∷ []) (spells_lexeme (Name (function_name f)) is.named) (λ rest. refl) opens_paren
    (spells_two name (codes ")") (Name name ∷ []) (closing ∷ []) (spells_lexeme (Name name) legal.legal) (λ rest q. refl)
    (spells_lexeme closing tt)))

column_call : (f : Function) (name : List ℕ) → IsFunction f → IsColumnName name → Calls f (Some name)
column_call f name is legal = record {
  called = f;
  inside = Name name ∷ [];
  named = is.named;
  free = is.free;
  calls = is.calls;
  argument = grammar.a_column legal.free;
  spells = named_call f name is legal;
}

count_named : IsName (codes "count")
count_named = record { begins = refl; continues = refl; lower = refl; within = omega arith }

rows_spelled : Spells (codes "count" ++ codes "(*)") (Name (codes "count") ∷ opening ∷ Sign symbols.Star ∷ closing ∷ [])
rows_spelled =
    spells_two (codes "count") (codes "(*)") (Name (codes "count") ∷ []) (opening ∷ Sign symbols.Star ∷ closing
    ∷ []) (spells_lexeme (Name (codes "count")) count_named) (λ rest q. refl)
    (record {
      on = λ rest ws q more. reads_spelled opening _ _ tt refl
          (reads_spelled (Sign symbols.Star) _ _ tt refl (reads_spelled closing rest ws tt (never_first rest) more));
    })

pub the_calls : (f : Function) (column : Option (List ℕ)) → IsWritableArgument IsColumnName f column → Calls f column
unfolding function_named is_reserved
the_calls function.Count_rows None a = record {
  called = function.Count;
  inside = Sign symbols.Star
      ∷ [];
  named = count_named;
  free = refl;
  calls = refl;
  argument = grammar.all_rows;
  spells = rows_spelled;
}
the_calls function.Count_rows (Some name) a = absurd a
the_calls f (Some name) a = column_call f name
    (record { named = record { begins = refl; continues = refl; lower = refl; within = omega arith }; free = refl; calls = refl }) a
the_calls f None a = absurd a

pub call_is : (limit : ℕ) (f : Function) (column : Option (List ℕ)) (c : Calls f column)
    → IsCall limit (Name (function_name f) ∷ opening ∷ (c.inside ++ closing ∷ [])) (form.Call f column)
call_is limit f column c = grammar.plain c.inside c.free c.calls c.argument

opens_filter : Opens (codes " FILTER (WHERE ") (word (codes "filter") ∷ opening ∷ word (codes "where") ∷ [])
opens_filter = opens_two (codes " FILTER ") (codes "(WHERE ") (word (codes "filter") ∷ []) (opening ∷ word (codes "where")
    ∷ []) (opens_between (codes "FILTER") refl)
    (opens_two (codes "(") (codes "WHERE ") (opening ∷ []) (word (codes "where") ∷ []) opens_paren (opens_word (codes "WHERE") refl))

pub filtered_spelled : (limit : ℕ) (f : Function) (column : Option (List ℕ)) (x : Named) (c : Calls f column) (p : Printed limit x)
    → Spells (call_text f column ++ codes " FILTER (WHERE " ++ spelled x ++ codes ")")
    (Name (function_name f) ∷ opening ∷ (c.inside ++ closing ∷ word (codes "filter") ∷ opening ∷ word (codes "where")
    ∷ (p.tokens ++ closing ∷ [])))
filtered_spelled limit f column x c p =
    let back = spells_two (spelled x) (codes ")") p.tokens (closing ∷ []) p.spells (λ rest q. refl) (spells_lexeme closing tt) in
    let all = spells_between (call_text f column) (codes " FILTER (WHERE ") (spelled x ++ codes ")") (Name (function_name f) ∷ opening
    ∷ (c.inside ++ closing ∷ [])) (word (codes "filter") ∷ opening ∷ word (codes "where") ∷ [])
    (p.tokens ++ closing ∷ []) c.spells (λ rest. refl) opens_filter back in
    let texts = append_assoc (call_text f column ++ codes " FILTER (WHERE ") (spelled x) (codes ")") in
    let tokens = append_assoc c.inside (closing ∷ []) (word (codes "filter") ∷ opening ∷ word (codes "where") ∷ (p.tokens ++ closing ∷ []))
    in
    subst (λ (text : List ℕ). Spells text (Name (function_name f) ∷ opening ∷ (c.inside ++ closing ∷ word (codes "filter") ∷ opening
    ∷ word (codes "where") ∷ (p.tokens ++ closing ∷ [])))) (sym texts)
    (subst (λ (ts : List Lexeme). Spells (call_text f column ++ codes " FILTER (WHERE " ++ (spelled x ++ codes ")")) (Name (function_name f)
    ∷ opening ∷ ts)) tokens all)

pub filtered_is : (limit : ℕ) (f : Function) (column : Option (List ℕ)) (x : Named) (c : Calls f column) (p : Printed limit x)
    → depth x ≤ suc limit
    → IsCall limit (Name (function_name f) ∷ opening ∷ (c.inside ++ closing ∷ word (codes "filter") ∷ opening ∷ word (codes "where")
    ∷ (p.tokens ++ closing ∷ []))) (form.Call_where f column x)
filtered_is limit f column x c p le = grammar.filtered c.inside p.tokens c.free c.calls c.argument (p.condition limit le)

-- ---- comparisons and tests

record Compares (c : model.Comparison) : Type 0 where
  symbol : Symbol
  is : comparison_named symbol ≡ Some c
  quiet : (rest : List ℕ) → Quiet (comparison_text c ++ rest)
  opens : Opens (comparison_text c) (Sign symbol ∷ [])

compares : (c : model.Comparison) → Compares c
unfolding comparison_named
compares model.Equal = record {
  symbol = symbols.Equal;
  is = refl;
  quiet = λ rest. refl;
  opens =
      record { on = λ rest ws more. reads_space _ _ (reads_spelled (Sign symbols.Equal) _ _ tt refl (reads_space rest ws more)) };
}
compares c = record {
  symbol = symbol_for c;
  is = refl;
  quiet = λ rest. refl;
  opens =
      record { on = λ rest ws more. reads_space _ _ (reads_spelled (Sign (symbol_for c)) _ _ tt refl (reads_space rest ws more)) };
}

record Tests (t : model.Test) : Type 0 where
  tokens : List Lexeme
  is : IsTest tokens t
  spells : Spells (test_text t) tokens

tests : (t : model.Test) → Tests t
tests t = record { tokens = word (test_word t) ∷ []; is = grammar.for_word t; spells = spells_test t }

opens_is_not : Opens (codes " IS NOT ") (word (codes "is") ∷ word (codes "not") ∷ [])
opens_is_not = opens_two (codes " IS ") (codes "NOT ") (word (codes "is") ∷ []) (word (codes "not") ∷ []) (opens_between (codes "IS") refl)
    (opens_word (codes "NOT") refl)

-- ---- conditions

left_depth : (a b room : ℕ) → max a b + 1 ≤ suc room → a ≤ room
left_depth a b room h = grind (arith, h)

right_depth : (a b room : ℕ) → max a b + 1 ≤ suc room → b ≤ room
right_depth a b room h = grind (arith, h)

-- each FILTER is at most as deep as may be
abbrev Shallow : ℕ → Named → Type 0
Shallow limit x = filters_pass (λ c. nat_le (depth c) limit) x ≡ true

pub printed : (limit : ℕ) (x : Named) → IsForm IsColumnName x → Shallow limit x → Printed limit x
printed limit (form.Column w) legal shallow = of_operand limit (form.Column w) (Name w ∷ []) (spells_lexeme (Name w) legal.legal)
    (λ room le. grammar.column legal.free)
printed limit (form.Literal v) legal shallow = literal_printed limit v legal
printed limit (form.Call f column) legal shallow =
    let c = the_calls f column legal in
    of_operand limit (form.Call f column) (Name (function_name f) ∷ opening ∷ (c.inside ++ closing ∷ [])) c.spells
    (λ room le. grammar.call (call_is limit f column c))
printed limit (form.Call_where f column x) legal shallow =
    let c = the_calls f column legal.0 in
    let parts = and_parts (nat_le (depth x) limit) (filters_pass (λ c. nat_le (depth c) limit) x) shallow in
    let p = printed limit x legal.1 parts.1 in
    let le : depth x ≤ limit = leb-true (depth x) limit parts.0 in
    of_operand limit (form.Call_where f column x) (Name (function_name f) ∷ opening ∷ (c.inside ++ closing ∷ word (codes "filter") ∷ opening
    ∷ word (codes "where") ∷ (p.tokens ++ closing ∷ [])))
    (filtered_spelled limit f column x c p) (λ room _. grammar.call (filtered_is limit f column x c p (omega (arith, le))))
printed limit (form.Unary form.Negation x) legal shallow =
    let p = placed limit 3 x (printed limit x legal shallow) in
    of_not limit (form.Not x) (word (codes "not") ∷ p.tokens) refl (opens_then (codes "NOT ") (operand 3 x (spelled x)) (word (codes "not")
    ∷ []) p.tokens (opens_word (codes "NOT") refl) p.spells)
    (λ room le. grammar.by_not (p.not (omega arith) room (omega (arith, le))))
printed limit (form.Binary form.Conjunction x y) legal shallow =
    let parts = and_parts (filters_pass (λ c. nat_le (depth c) limit) x) (filters_pass (λ c. nat_le (depth c) limit) y) shallow in
    let p = placed limit 2 x (printed limit x legal.0 parts.0) in
    let q = placed limit 3 y (printed limit y legal.1 parts.1) in
    of_and limit (form.And x y) (p.tokens ++ word (codes "and") ∷ q.tokens) refl
    (spells_between (operand 2 x (spelled x)) (codes " AND ") (operand 3 y (spelled y)) p.tokens (word (codes "and") ∷ []) q.tokens p.spells
    (λ rest. refl) (opens_between (codes "AND") refl) q.spells)
    (λ room le. grammar.by_and p.tokens q.tokens (p.and (omega arith) room (left_depth (depth x) (depth y) room le))
    (q.not (omega arith) room (right_depth (depth x) (depth y) room le)))
printed limit (form.Binary form.Disjunction x y) legal shallow =
    let parts = and_parts (filters_pass (λ c. nat_le (depth c) limit) x) (filters_pass (λ c. nat_le (depth c) limit) y) shallow in
    let p = placed limit 1 x (printed limit x legal.0 parts.0) in
    let q = placed limit 2 y (printed limit y legal.1 parts.1) in
    of_or limit (form.Or x y) (p.tokens ++ word (codes "or") ∷ q.tokens) refl
    (spells_between (operand 1 x (spelled x)) (codes " OR ") (operand 2 y (spelled y)) p.tokens (word (codes "or") ∷ []) q.tokens p.spells
    (λ rest. refl) (opens_between (codes "OR") refl) q.spells)
    (λ room le. grammar.by_or p.tokens q.tokens (p.condition room (left_depth (depth x) (depth y) room le))
    (q.and (omega arith) room (right_depth (depth x) (depth y) room le)))
printed limit (form.Binary (form.Comparing c) x y) legal shallow =
    let parts = and_parts (filters_pass (λ c. nat_le (depth c) limit) x) (filters_pass (λ c. nat_le (depth c) limit) y) shallow in
    let p = placed limit 6 x (printed limit x legal.0 parts.0) in
    let q = placed limit 6 y (printed limit y legal.1 parts.1) in
    let k = compares c in
    of_compared limit (form.Compare c x y) (p.tokens ++ Sign k.symbol ∷ q.tokens) refl
    (spells_between (operand 6 x (spelled x)) (comparison_text c) (operand 6 y (spelled y)) p.tokens (Sign k.symbol ∷ []) q.tokens p.spells
    k.quiet k.opens q.spells)
    (λ room le. grammar.by_comparison p.tokens q.tokens k.symbol (p.operand_is (omega arith) room (left_depth (depth x) (depth y) room le))
    k.is (q.operand_is (omega arith) room (right_depth (depth x) (depth y) room le)))
printed limit (form.Unary (form.Testing t false) x) legal shallow =
    let p = placed limit 4 x (printed limit x legal shallow) in
    let k = tests t in
    of_test limit (form.Is t x) (p.tokens ++ word (codes "is") ∷ k.tokens) refl
    (spells_between (operand 4 x (spelled x)) (codes " IS ") (test_text t) p.tokens (word (codes "is") ∷ []) k.tokens p.spells
    (λ rest. refl) (opens_between (codes "IS") refl) k.spells)
    (λ room le. grammar.by_is p.tokens k.tokens (p.test (omega arith) room (omega (arith, le))) k.is)
printed limit (form.Unary (form.Testing t true) x) legal shallow =
    let p = placed limit 4 x (printed limit x legal shallow) in
    let k = tests t in
    of_test limit (form.Is_not t x) (p.tokens ++ word (codes "is") ∷ word (codes "not") ∷ k.tokens) refl
    (spells_between (operand 4 x (spelled x)) (codes " IS NOT ") (test_text t) p.tokens (word (codes "is") ∷ word (codes "not")
    ∷ []) k.tokens p.spells (λ rest. refl) opens_is_not k.spells)
    (λ room le. grammar.by_is_not p.tokens k.tokens (p.test (omega arith) room (omega (arith, le))) k.is)
