-- What is read is in the grammar, and what stands before a token that is refused can be completed: operands and
-- comparisons, and any chain.
use Rattle.std.proofs.Common.{◌≡◌, ℕ, zero, suc, Bool, true, false, cond, List, [], ◌∷◌, ◌++◌, Option, Some, None, Ok, refl, sym, subst}
use Rattle.std.proofs.Common.{append_assoc}
use Rattle.std.specs.Prelude.{codes}
use Rattle.std.specs.Str.{bytes_eq}
use Rattle.std.proofs.lemmas.List.{append-nil}
use Rattle.query_grammar.specs.Lemmas.Words.{Symbol, Lexeme, Name, Integer, Text, Sign, is_reserved, Function, Comparison, comparison_named}
use Rattle.query_grammar.specs.Lemmas.Words.{function_named, is_word, is_sign, Named, opening, closing, word, IsCallArgument, IsCondition}
use Rattle.query_grammar.specs.Lemmas.Words.{IsAnd, IsNot, IsTested, IsCompared, IsOperand, IsCall, Read, Inner, unexpected, expect}
use Rattle.query_grammar.specs.Lemmas.Words.{filter_at, argument_at, call_at, function_or_column, enclosed_at, prim_at, with_rest}
use Rattle.query_grammar.specs.Lemmas.Words.{after_comparison, right_side, cmp_at, chain_at}
use Rattle.query_tokens.specs.declared.word.Symbol.TheVariants as symbols
use Rattle.grouping_model.specs.Datum as datum
use Rattle.grouping_model.specs.Aggregates as function
use Rattle.query_checks.specs.Forms as form
use Rattle.query_grammar.specs.Grammar as grammar
use Rattle.query_grammar.specs.Reading.{◌>>=◌, name_at, word_at}
use Rattle.query_grammar.specs.Laws.{Part, Means, CanBecome}
use Rattle.query_grammar.specs.Lemmas.Marks.{the_word, same_bytes, the_sign}
use Rattle.query_grammar.specs.Lemmas.Steps.{behind, done, refused, widen, weaken, bind, mapped, chosen, expected}

-- ---- the parts of the grammar, with one parenthesis more or not

-- as many parentheses, or one more
abbrev pub allowed : Bool → ℕ → ℕ
allowed true n = suc n
allowed false n = n

abbrev pub Condition_part : ℕ → ℕ → Part Named
Condition_part limit room = λ b ts x. IsCondition (allowed b limit) (allowed b room) ts x

abbrev pub And_part : ℕ → ℕ → Part Named
And_part limit room = λ b ts x. IsAnd (allowed b limit) (allowed b room) ts x

abbrev pub Not_part : ℕ → ℕ → Part Named
Not_part limit room = λ b ts x. IsNot (allowed b limit) (allowed b room) ts x

abbrev pub Tested_part : ℕ → ℕ → Part Named
Tested_part limit room = λ b ts x. IsTested (allowed b limit) (allowed b room) ts x

abbrev pub Compared_part : ℕ → ℕ → Part Named
Compared_part limit room = λ b ts x. IsCompared (allowed b limit) (allowed b room) ts x

abbrev pub Operand_part : ℕ → ℕ → Part Named
Operand_part limit room = λ b ts x. IsOperand (allowed b limit) (allowed b room) ts x

abbrev pub Call_part : ℕ → Part Named
Call_part limit = λ b ts x. IsCall (allowed b limit) ts x

abbrev Argument_part : Function → Part (Function × Option (List ℕ))
Argument_part f = λ b ts x. IsCallArgument f ts x

abbrev pub Name_part : Part (List ℕ)
Name_part = λ b ts w. (is_reserved w ≡ false) × (ts ≡ Name w ∷ [])

abbrev pub InnerMeans : Inner → Type 0
InnerMeans inner = (room : ℕ) (ts : List Lexeme) → Means (Condition_part inner.limit room) ts (inner.inside room ts)

pub word_law : (w : List ℕ) → (t : Lexeme) → is_word w t ≡ true → t ≡ Name w
word_law w t h = the_word w t h

-- ---- the smallest parts

abbrev pub null_form : Named
null_form = form.Literal datum.Null

null_within : (limit room : ℕ) → IsCondition limit room (word (codes "null") ∷ []) null_form
null_within limit room = grammar.only_and
    (grammar.only_not (grammar.only_tested (grammar.only_compared (grammar.only_operand grammar.null_word))))

pub null_condition : (b : Bool) (limit room : ℕ) → Condition_part limit room b (word (codes "null") ∷ []) null_form
null_condition b limit room = null_within (allowed b limit) (allowed b room)

null_operand : (limit room : ℕ) (b : Bool) → CanBecome (Operand_part limit room b) []
null_operand limit room b = (word (codes "null") ∷ [], null_form, grammar.null_word)

pub a_name : is_reserved (codes "a") ≡ false
unfolding is_reserved
a_name = refl

any_name : (b : Bool) → CanBecome (Name_part b) []
any_name b = (Name (codes "a") ∷ [], codes "a", (a_name, refl))

name_or_refused : (b : Bool) (w : List ℕ) (ts : List Lexeme) → is_reserved w ≡ b
    → Means Name_part (Name w ∷ ts) (cond b (unexpected (Name w ∷ ts)) (Ok (w, ts)))
name_or_refused true w ts e = refused Name_part (Name w ∷ ts) any_name
name_or_refused false w ts e = record { that = (Name w ∷ [], refl, λ b. (e, refl)) }

-- ---- calls

pub name_means : (ts : List Lexeme) → Means Name_part ts (name_at ts)
name_means [] = refused Name_part [] any_name
name_means (Integer z ∷ ts) = refused Name_part (Integer z ∷ ts) any_name
name_means (Text s ∷ ts) = refused Name_part (Text s ∷ ts) any_name
name_means (Sign s ∷ ts) = refused Name_part (Sign s ∷ ts) any_name
name_means (Name w ∷ ts) = name_or_refused (is_reserved w) w ts refl

close_means : {A : Type 0} (Q : Part A) (ts : List Lexeme) (x : A) → ((b : Bool) → Q b (closing ∷ []) x)
    → Means Q ts (expect (is_sign symbols.Close) ts >>= λ closed. Ok (x, closed.1))
close_means Q ts x q =
    expected Q closing (is_sign symbols.Close) (the_sign symbols.Close) ts (λ rest. Ok (x, rest))
    (λ rest. done (λ b u y. Q b (closing ∷ u) y) rest x q) (λ b. ([], x, q b))

-- what a FILTER's parentheses hold, behind its WHERE
filter_inside : (inner : Inner) (h : InnerMeans inner) (c : Function × Option (List ℕ)) (Q : Part Named)
    → ((b : Bool) (us : List Lexeme) (x : Named) → Condition_part inner.limit inner.limit b us x
    → Q b (us ++ closing ∷ []) (form.Call_where c.0 c.1 x))
    → (ts : List Lexeme) → Means Q ts (inner.inside inner.limit ts >>= λ x. expect (is_sign symbols.Close) x.1 >>= λ closed. Ok
    (form.Call_where c.0 c.1 x.0, closed.1))
filter_inside inner h c Q q ts =
    bind (Condition_part inner.limit inner.limit) Q ts (inner.inside inner.limit ts) (λ x. expect (is_sign symbols.Close) x.1 >>= λ closed.
    Ok (form.Call_where c.0 c.1 x.0, closed.1)) (h inner.limit ts)
    (λ us rest x p. close_means (behind us Q) rest (form.Call_where c.0 c.1 x) (λ b. q b us x (p b)))
    (λ b us x p. (closing ∷ [], form.Call_where c.0 c.1 x, q b us x p))

filter_means : (inner : Inner) (h : InnerMeans inner) (c : Function × Option (List ℕ)) (Q : Part Named)
    → ((b : Bool) → Q b [] (form.Call c.0 c.1))
    → ((b : Bool) (us : List Lexeme) (x : Named) → Condition_part inner.limit inner.limit b us x
    → Q b (word (codes "filter") ∷ opening ∷ word (codes "where") ∷ (us ++ closing ∷ [])) (form.Call_where c.0 c.1 x))
    → (ts : List Lexeme) → Means Q ts (filter_at inner c ts)
unfolding filter_at
filter_means inner h c Q plain q ts =
    let some : (b : Bool) → Q b (word (codes "filter") ∷ opening ∷ word (codes "where") ∷ word (codes "null") ∷ closing
    ∷ []) (form.Call_where c.0 c.1 null_form) =
    λ b. q b (word (codes "null") ∷ []) null_form (null_condition b inner.limit inner.limit) in
    chosen Q (word (codes "filter")) (is_word (codes "filter")) (word_law (codes "filter")) ts
    (λ rest. expect (is_sign symbols.Open) rest >>= λ opened. expect (is_word (codes "where")) opened.1 >>= λ where_. inner.inside
    inner.limit where_.1 >>= λ x. expect (is_sign symbols.Close) x.1 >>= λ closed. Ok (form.Call_where c.0 c.1 x.0, closed.1))
    (Ok (form.Call c.0 c.1, ts))
    (λ rest. expected (λ b u x. Q b (word (codes "filter") ∷ u) x) opening (is_sign symbols.Open) (the_sign symbols.Open) rest
    (λ rest2. expect (is_word (codes "where")) rest2 >>= λ where_. inner.inside inner.limit where_.1 >>= λ x. expect (is_sign symbols.Close)
    x.1 >>= λ closed. Ok (form.Call_where c.0 c.1 x.0, closed.1))
    (λ rest2. expected (λ b u x. Q b (word (codes "filter") ∷ opening ∷ u) x) (word (codes "where")) (is_word (codes "where"))
    (word_law (codes "where")) rest2
    (λ rest3. inner.inside inner.limit rest3 >>= λ x. expect (is_sign symbols.Close) x.1 >>= λ closed. Ok
    (form.Call_where c.0 c.1 x.0, closed.1))
    (λ rest3. filter_inside inner h c (λ b u x. Q b (word (codes "filter") ∷ opening ∷ word (codes "where") ∷ u) x) q rest3)
    (λ b. (word (codes "null") ∷ closing ∷ [], form.Call_where c.0 c.1 null_form, some b)))
    (λ b. (word (codes "where") ∷ word (codes "null") ∷ closing ∷ [], form.Call_where c.0 c.1 null_form, some b)))
    (done Q ts (form.Call c.0 c.1) plain)

name_argument_means : (f : Function) (ts : List Lexeme) → Means (Argument_part f) ts (name_at ts >>= λ name. Ok ((f, Some name.0), name.1))
name_argument_means f ts =
    mapped Name_part (Argument_part f) ts (name_at ts) (λ w. (f, Some w)) (name_means ts)
    (λ b u w p. subst (λ (v : List Lexeme). IsCallArgument f v (f, Some w)) (sym p.1) (grammar.a_column p.0))

pub argument_means : (f : Function) (ts : List Lexeme) → Means (Argument_part f) ts (argument_at f ts)
unfolding argument_at
argument_means function.Count ts =
    chosen (Argument_part function.Count) (Sign symbols.Star) (is_sign symbols.Star) (the_sign symbols.Star) ts
    (λ rest. Ok ((function.Count_rows, None), rest))
    (name_at ts >>= λ name. Ok ((function.Count, Some name.0), name.1))
    (λ rest. done (λ b u x. IsCallArgument function.Count (Sign symbols.Star ∷ u) x) rest (function.Count_rows, None)
    (λ b. grammar.all_rows))
    (name_argument_means function.Count ts)
argument_means f ts = name_argument_means f ts

pub call_means : (inner : Inner) (h : InnerMeans inner) (w : List ℕ) (f : Function) → is_reserved w ≡ false → function_named w ≡ Some f
    → (ts : List Lexeme)
    → Means (λ b u x. Call_part inner.limit b (Name w ∷ opening ∷ u) x) ts (call_at inner f ts)
unfolding call_at
call_means inner h w f free is_f ts =
    let Q : Part Named = λ b u x. Call_part inner.limit b (Name w ∷ opening ∷ u) x in
    bind (Argument_part f) Q ts (argument_at f ts) (λ argument. expect (is_sign symbols.Close) argument.1 >>= λ closed. filter_at inner
    argument.0 closed.1) (argument_means f ts)
    (λ us rest c p. expected (behind us Q) closing (is_sign symbols.Close) (the_sign symbols.Close) rest (λ rest2. filter_at inner c rest2)
    (λ rest2. filter_means inner h c (λ b u x. Call_part inner.limit b (Name w ∷ opening ∷ (us ++ closing ∷ u)) x)
    (λ b. grammar.plain us free is_f (p b)) (λ b vs x q. grammar.filtered us vs free is_f (p b) q) rest2)
    (λ b. ([], form.Call c.0 c.1, grammar.plain us free is_f (p b))))
    (λ b us c p. (closing ∷ [], form.Call c.0 c.1, grammar.plain us free is_f p))

-- ---- operands

column_or_call : (inner : Inner) (h : InnerMeans inner) (room : ℕ) (w : List ℕ) (o : Option Function) → is_reserved w ≡ false
    → function_named w ≡ o → (ts : List Lexeme)
    → Means (λ b u x. Operand_part inner.limit room b (Name w ∷ u) x) ts (function_or_column inner w o ts)
column_or_call inner h room w None free is_f ts = done (λ b u x. Operand_part inner.limit room b (Name w ∷ u) x) ts (form.Column w)
    (λ b. grammar.column free)
column_or_call inner h room w (Some f) free is_f ts =
    chosen (λ b u x. Operand_part inner.limit room b (Name w ∷ u) x) opening (is_sign symbols.Open) (the_sign symbols.Open) ts
    (λ rest. call_at inner f rest) (Ok (form.Column w, ts))
    (λ rest. weaken (λ b u x. Call_part inner.limit b (Name w ∷ opening ∷ u) x) (λ b u x. Operand_part inner.limit room b (Name w ∷ opening
    ∷ u) x) rest (call_at inner f rest) (λ b u x p. grammar.call p) (call_means inner h w f free is_f rest))
    (done (λ b u x. Operand_part inner.limit room b (Name w ∷ u) x) ts (form.Column w) (λ b. grammar.column free))

-- a word that is this one, or another
this_word : (limit room : ℕ) (b : Bool) (w v : List ℕ) (x : Named) (ts : List Lexeme) (otherwise : Read Named) → bytes_eq w v ≡ b
    → ((b : Bool) → Operand_part limit room b (Name v ∷ []) x)
    → Means (Operand_part limit room) (Name w ∷ ts) otherwise
    → Means (Operand_part limit room) (Name w ∷ ts) (cond b (Ok (x, ts)) otherwise)
this_word limit room true w v x ts otherwise e p k =
    let q : (b : Bool) → Operand_part limit room b (Name w ∷ []) x = λ b. subst (λ (y : List ℕ). Operand_part limit room b (Name y ∷ []) x)
    (sym (same_bytes w v e)) (p b) in
    widen (Operand_part limit room) (Name w ∷ []) ts (Name w ∷ ts) (Ok (x, ts)) refl
    (done (λ b u y. Operand_part limit room b (Name w ∷ u) y) ts x q)
this_word limit room false w v x ts otherwise e p k = k

free_word : (inner : Inner) (h : InnerMeans inner) (room : ℕ) (b : Bool) (w : List ℕ) (ts : List Lexeme) → is_reserved w ≡ b
    → Means (Operand_part inner.limit room) (Name w
    ∷ ts) (cond b (unexpected (Name w ∷ ts)) (function_or_column inner w (function_named w) ts))
free_word inner h room true w ts e = refused (Operand_part inner.limit room) (Name w ∷ ts) (null_operand inner.limit room)
free_word inner h room false w ts e =
    widen (Operand_part inner.limit room) (Name w ∷ []) ts (Name w ∷ ts) (function_or_column inner w (function_named w) ts) refl
    (column_or_call inner h room w (function_named w) e refl ts)

word_means : (inner : Inner) (h : InnerMeans inner) (room : ℕ) (w : List ℕ) (ts : List Lexeme)
    → Means (Operand_part inner.limit room) (Name w ∷ ts) (word_at inner w ts)
unfolding word_at
word_means inner h room w ts =
    let last = cond (is_reserved w) (unexpected (Name w ∷ ts)) (function_or_column inner w (function_named w) ts) in
    let third = cond (bytes_eq w (codes "null")) (Ok (null_form, ts)) last in
    let second = cond (bytes_eq w (codes "false")) (Ok (form.Literal (datum.Boolean false), ts)) third in
    this_word inner.limit room (bytes_eq w (codes "true")) w (codes "true") (form.Literal (datum.Boolean true)) ts second refl
    (λ b. grammar.true_word) (
    this_word inner.limit room (bytes_eq w (codes "false")) w (codes "false") (form.Literal (datum.Boolean false)) ts third refl
    (λ b. grammar.false_word) (
    this_word inner.limit room (bytes_eq w (codes "null")) w (codes "null") null_form ts last refl (λ b. grammar.null_word) (
    free_word inner h room (is_reserved w) w ts refl)))

-- one parenthesis more in each
in_parentheses : (b : Bool) (limit room : ℕ) (us : List Lexeme) (x : Named) → Condition_part limit room b us x
    → Operand_part limit (suc room) b (opening ∷ (us ++ closing ∷ [])) x
in_parentheses true limit room us x p = grammar.enclosed us p
in_parentheses false limit room us x p = grammar.enclosed us p

enclosed_means : (inner : Inner) (h : InnerMeans inner) (room : ℕ) (ts : List Lexeme)
    → Means (Operand_part inner.limit room) (opening ∷ ts) (enclosed_at inner room ts)
unfolding enclosed_at
enclosed_means inner h zero ts =
    record {
      that = (
        [],
        ts,
        refl,
        refl,
        null_operand inner.limit zero,
        (
          word (codes "null") ∷ closing
              ∷ [],
          null_form,
          grammar.enclosed (word (codes "null") ∷ []) (null_within (allowed true inner.limit) 0),
        ),
      );
    }
enclosed_means inner h (suc room) ts =
    widen (Operand_part inner.limit (suc room)) (opening ∷ []) ts (opening
    ∷ ts) (inner.inside room ts >>= λ x. expect (is_sign symbols.Close) x.1 >>= λ closed. Ok (x.0, closed.1)) refl
    (bind (Condition_part inner.limit room) (λ b u x. Operand_part inner.limit (suc room) b (opening ∷ u) x) ts (inner.inside room ts)
    (λ x. expect (is_sign symbols.Close) x.1 >>= λ closed. Ok (x.0, closed.1)) (h room ts)
    (λ us rest x p. close_means (λ b u x. Operand_part inner.limit (suc room) b (opening ∷ (us ++ u)) x) rest x
    (λ b. in_parentheses b inner.limit room us x (p b)))
    (λ b us x p. (closing ∷ [], x, in_parentheses b inner.limit room us x p)))

sign_means : (inner : Inner) (h : InnerMeans inner) (room : ℕ) (b : Bool) (s : Symbol) (ts : List Lexeme) → is_sign symbols.Open (Sign s)
    ≡ b
    → Means (Operand_part inner.limit room) (Sign s ∷ ts) (cond b (enclosed_at inner room ts) (unexpected (Sign s ∷ ts)))
sign_means inner h room true s ts e =
    subst (λ (t : Lexeme). Means (Operand_part inner.limit room) (t ∷ ts) (enclosed_at inner room ts))
    (sym (the_sign symbols.Open (Sign s) e)) (enclosed_means inner h room ts)
sign_means inner h room false s ts e = refused (Operand_part inner.limit room) (Sign s ∷ ts) (null_operand inner.limit room)

pub prim_means : (inner : Inner) (h : InnerMeans inner) (room : ℕ) (ts : List Lexeme)
    → Means (Operand_part inner.limit room) ts (prim_at inner room ts)
unfolding prim_at
prim_means inner h room [] = refused (Operand_part inner.limit room) [] (null_operand inner.limit room)
prim_means inner h room (Name w ∷ ts) = word_means inner h room w ts
prim_means inner h room (Integer z ∷ ts) =
    widen (Operand_part inner.limit room) (Integer z ∷ []) ts (Integer z ∷ ts) (Ok (form.Literal (datum.Bigint z), ts)) refl
    (done (λ b u x. Operand_part inner.limit room b (Integer z ∷ u) x) ts (form.Literal (datum.Bigint z)) (λ b. grammar.integer))
prim_means inner h room (Text s ∷ ts) =
    widen (Operand_part inner.limit room) (Text s ∷ []) ts (Text s ∷ ts) (Ok (form.Literal (datum.Text s), ts)) refl
    (done (λ b u x. Operand_part inner.limit room b (Text s ∷ u) x) ts (form.Literal (datum.Text s)) (λ b. grammar.text))
prim_means inner h room (Sign s ∷ ts) = sign_means inner h room (is_sign symbols.Open (Sign s)) s ts refl

-- ---- comparisons

alone : (limit room : ℕ) (front : List Lexeme) (x : Named) (ts : List Lexeme) → ((b : Bool) → Operand_part limit room b front x)
    → Means (λ b u y. Compared_part limit room b (front ++ u) y) ts (Ok (x, ts))
alone limit room front x ts p =
    done (λ b u y. Compared_part limit room b (front ++ u) y) ts x (λ b. subst (λ (u : List Lexeme). Compared_part limit room b u x)
    (sym (append-nil front)) (grammar.only_operand (p b)))

sign_side : (inner : Inner) (h : InnerMeans inner) (room : ℕ) (front : List Lexeme) (x : Named) (s : Symbol) (o : Option Comparison)
    (ts : List Lexeme) → comparison_named s ≡ o → ((b : Bool) → Operand_part inner.limit room b front x)
    → Means (λ b u y. Compared_part inner.limit room b (front ++ u) y) (Sign s
    ∷ ts) (right_side inner room x (Sign s ∷ ts) (with_rest o ts))
sign_side inner h room front x s None ts e p = alone inner.limit room front x (Sign s ∷ ts) p
sign_side inner h room front x s (Some c) ts e p =
    widen (λ b u y. Compared_part inner.limit room b (front ++ u) y) (Sign s ∷ []) ts (Sign s
    ∷ ts) (prim_at inner room ts >>= λ y. Ok (form.Compare c x y.0, y.1)) refl
    (mapped (Operand_part inner.limit room) (λ b u y. Compared_part inner.limit room b (front ++ Sign s ∷ u) y) ts (prim_at inner room ts)
    (λ y. form.Compare c x y) (prim_means inner h room ts) (λ b u y q. grammar.by_comparison front u s (p b) e q))

side_means : (inner : Inner) (h : InnerMeans inner) (room : ℕ) (front : List Lexeme) (x : Named) (ts : List Lexeme)
    → ((b : Bool) → Operand_part inner.limit room b front x)
    → Means (λ b u y. Compared_part inner.limit room b (front ++ u) y) ts (right_side inner room x ts (after_comparison ts))
side_means inner h room front x (Sign s ∷ ts) p = sign_side inner h room front x s (comparison_named s) ts refl p
side_means inner h room front x [] p = alone inner.limit room front x [] p
side_means inner h room front x (Name w ∷ ts) p = alone inner.limit room front x (Name w ∷ ts) p
side_means inner h room front x (Integer z ∷ ts) p = alone inner.limit room front x (Integer z ∷ ts) p
side_means inner h room front x (Text s ∷ ts) p = alone inner.limit room front x (Text s ∷ ts) p

pub cmp_means : (inner : Inner) (h : InnerMeans inner) (room : ℕ) (ts : List Lexeme)
    → Means (Compared_part inner.limit room) ts (cmp_at inner room ts)
unfolding cmp_at
cmp_means inner h room ts =
    bind (Operand_part inner.limit room) (Compared_part inner.limit room) ts (prim_at inner room ts)
    (λ x. right_side inner room x.0 x.1 (after_comparison x.1)) (prim_means inner h room ts)
    (λ front rest x p. side_means inner h room front x rest p)
    (λ b front x p. (
      [],
      x,
      subst (λ (u : List Lexeme). Compared_part inner.limit room b u x) (sym (append-nil front))
          (grammar.only_operand p),
    ))

-- ---- chains. Q is the part of the grammar for what was read so far

pub chain_means : (operator : List ℕ) (step : Named → List Lexeme → Read Named) (Q : Part Named)
    → ((front : List Lexeme) (x : Named) (ts : List Lexeme) → ((b : Bool) → Q b front x)
    → Means (λ b u y. Q b (front ++ word operator ∷ u) y) ts (step x ts))
    → (turns : ℕ) (front : List Lexeme) (x : Named) (ts : List Lexeme) → ((b : Bool) → Q b front x)
    → Means (behind front Q) ts (chain_at operator step turns x ts)
unfolding chain_at
chain_means operator step Q h zero front x ts so_far = done (behind front Q) ts x
    (λ b. subst (λ (u : List Lexeme). Q b u x) (sym (append-nil front)) (so_far b))
chain_means operator step Q h (suc turns) front x ts so_far =
    chosen (behind front Q) (word operator) (is_word operator) (word_law operator) ts
    (λ rest. step x rest >>= λ y. chain_at operator step turns y.0 y.1) (Ok (x, ts))
    (λ rest. bind (λ b u y. Q b (front ++ word operator ∷ u) y) (λ b u y. Q b (front ++ word operator ∷ u) y) rest (step x rest)
    (λ y. chain_at operator step turns y.0 y.1) (h front x rest so_far)
    (λ u rest2 y p. weaken (λ b v z. Q b ((front ++ word operator ∷ u) ++ v) z) (λ b v z. Q b (front ++ word operator ∷ (u ++ v)) z) rest2
    (chain_at operator step turns y rest2)
    (λ b v z q. subst (λ (w : List Lexeme). Q b w z) (append_assoc front (word operator ∷ u) v) q)
    (chain_means operator step Q h turns (front ++ word operator ∷ u) y rest2 p))
    (λ b u y p. ([], y, subst (λ (w : List Lexeme). Q b (front ++ word operator ∷ w) y) (sym (append-nil u)) p)))
    (done (behind front Q) ts x (λ b. subst (λ (u : List Lexeme). Q b u x) (sym (append-nil front)) (so_far b)))
