-- Readers read alike before two tails: those of operands and comparisons, and any chain.
use Rattle.std.proofs.Common.{◌≡◌, ℕ, zero, suc, ◌≤◌, ◌<◌, Bool, true, false, cond, List, [], ◌∷◌, ◌++◌, length, Option, Some, None, Ok}
use Rattle.std.proofs.Common.{Err, refl, ap, arith}
use Rattle.std.specs.Prelude.{codes}
use Rattle.std.specs.Str.{bytes_eq}
use Rattle.std.proofs.lemmas.List.{length-append}
use Rattle.query_grammar.specs.Lemmas.Words.{Symbol, Lexeme, Name, Integer, Text, Sign, is_reserved, Function, Comparison, comparison_named}
use Rattle.query_grammar.specs.Lemmas.Words.{function_named, is_word, is_sign, Named, opening, Read, Unexpected, Too_deep, Inner}
use Rattle.query_grammar.specs.Lemmas.Words.{unexpected, expect, filter_at, argument_at, call_at, function_or_column, enclosed_at, prim_at}
use Rattle.query_grammar.specs.Lemmas.Words.{with_rest, after_comparison, right_side, cmp_at, chain_at}
use Rattle.query_tokens.specs.declared.word.Symbol.TheVariants as symbols
use Rattle.grouping_model.specs.Datum as datum
use Rattle.grouping_model.specs.Aggregates as function
use Rattle.query_checks.specs.Forms as form
use Rattle.query_grammar.specs.Reading.{◌>>=◌, name_at, word_at}
use Rattle.query_grammar.specs.Laws.{Part, Means}
use Rattle.query_grammar.specs.Lemmas.Sound.{Name_part, InnerMeans, name_means, prim_means}
use Rattle.query_grammar.specs.Lemmas.Alike.{Tails, none, both, Within, Stays, Alike, same, refused, deep, past, deeper, Agree, within_more}
use Rattle.query_grammar.specs.Lemmas.Alike.{past_within, within_bind, within_chosen, alike_bind, alike_choose, done, binds, chooses}
use Rattle.query_grammar.specs.Lemmas.Alike.{expects, maps}

-- ---- what reading means bounds what is left

means_within : {A : Type 0} (P : Part A) (ts : List Lexeme) (r : Read A) → Means P ts r → Within (length ts) r
means_within P ts (Ok x) m = let t = m.that in omega (arith, ap (length {A = Lexeme}) t.1, length-append t.0 x.1)
means_within P ts (Err (Unexpected left)) m = let t = m.that in omega (arith, ap (length {A = Lexeme}) t.2, length-append t.0 t.1, t.3)
means_within P ts (Err (Too_deep left)) m = let t = m.that in omega (
  arith,
  ap (length {A = Lexeme}) t.2,
  length-append t.0 (opening
      ∷ t.1),
  t.3,
)

pub stays_of : {A : Type 0} (P : Part A) (f : List Lexeme → Read A) → ((ts : List Lexeme) → Means P ts (f ts)) → Stays f
stays_of P f h = record { within = λ ts. means_within P ts (f ts) (h ts) }

-- ---- names and calls

name_in : (d : Bool) (one two us : List Lexeme) (b : Bool) (w : List ℕ)
    → Alike d one two (cond b (unexpected (Name w ∷ (us ++ one))) (Ok (w, us ++ one)))
    (cond b (unexpected (Name w ∷ (us ++ two))) (Ok (w, us ++ two)))
name_in d one two us true w = refused (Name w ∷ us)
name_in d one two us false w = same w us

name_past : (d : Bool) (rest more : List Lexeme) (b : Bool) (w : List ℕ)
    → Alike d (Name w ∷ rest) (Name w ∷ more) (cond b (unexpected (Name w ∷ rest)) (Ok (w, rest)))
    (cond b (unexpected (Name w ∷ more)) (Ok (w, more)))
name_past d rest more true w = refused []
name_past d rest more false w = past (Ok (w, rest)) (Ok (w, more)) (omega arith)

name_alike : (d : Bool) (one two : List Lexeme) → Tails one two → (u : List Lexeme)
    → Alike d one two (name_at (u ++ one)) (name_at (u ++ two))
name_alike d one two tails (Name w ∷ us) = name_in d one two us (is_reserved w) w
name_alike d one two tails (Integer z ∷ us) = refused (Integer z ∷ us)
name_alike d one two tails (Text s ∷ us) = refused (Text s ∷ us)
name_alike d one two tails (Sign s ∷ us) = refused (Sign s ∷ us)
name_alike d _ _ none [] = refused []
name_alike d _ _ (both (Name w) rest more) [] = name_past d rest more (is_reserved w) w
name_alike d _ _ (both (Integer z) rest more) [] = refused []
name_alike d _ _ (both (Text s) rest more) [] = refused []
name_alike d _ _ (both (Sign s) rest more) [] = refused []

pub names_agree : (d : Bool) (one two : List Lexeme) (tails : Tails one two) (most : ℕ) → Agree d one two most name_at name_at
names_agree d one two tails most = record {
  alike = λ u lt. name_alike d one two tails u;
  stays = stays_of Name_part name_at name_means;
  stays_too = stays_of Name_part name_at name_means;
}

arguments_agree : (d : Bool) (one two : List Lexeme) (tails : Tails one two) (most : ℕ) (f : Function)
    → Agree d one two most (argument_at f) (argument_at f)
unfolding argument_at
arguments_agree d one two tails most function.Count =
    chooses d one two tails most (is_sign symbols.Star) (λ rest. Ok ((function.Count_rows, None), rest))
    (λ rest. Ok ((function.Count_rows, None), rest))
    (λ ts. name_at ts >>= λ name. Ok ((function.Count, Some name.0), name.1))
    (λ ts. name_at ts >>= λ name. Ok ((function.Count, Some name.0), name.1))
    (done d one two most (function.Count_rows, None))
    (maps d one two most name_at name_at (λ name. (function.Count, Some name)) (names_agree d one two tails most))
arguments_agree d one two tails most f = maps d one two most name_at name_at (λ name. (f, Some name)) (names_agree d one two tails most)

-- the second reader allows as many parentheses, or more (d)
abbrev pub Rooms : Bool → ℕ → ℕ → Type 0
Rooms true room wide = room ≤ wide
Rooms false room wide = room ≡ wide

-- readers of the conditions inside agree
pub record InnerAgree (d : Bool) (one two : List Lexeme) (most : ℕ) (f g : Inner) : Type 0 where
  pub inside : (room wide : ℕ) → Rooms d room wide → Agree d one two most (f.inside room) (g.inside wide)
  pub limits : Rooms d f.limit g.limit

-- one more parenthesis is allowed in each
fewer_rooms : (d : Bool) (room wide : ℕ) → Rooms d (suc room) (suc wide) → Rooms d room wide
fewer_rooms true room wide h = omega (arith, h)
fewer_rooms false room wide h = omega (arith, h)

no_room : (d : Bool) (wide : ℕ) → Rooms d zero (suc wide) → d ≡ true
no_room true wide h = refl
no_room false wide h = absurd (omega (arith, h))

some_room : (d : Bool) (room : ℕ) → Rooms d (suc room) zero → ⊥
some_room true room h = omega (arith, h)
some_room false room h = omega (arith, h)

-- a condition and the parenthesis behind it
abbrev closed_by : {A : Type 0} → (Named → A) → Inner → ℕ → List Lexeme → Read A
closed_by h f room ts = f.inside room ts >>= λ x. expect (is_sign symbols.Close) x.1 >>= λ closed. Ok (h x.0, closed.1)

closed_agree : (d : Bool) (one two : List Lexeme) (tails : Tails one two) (most : ℕ) (f g : Inner) → InnerAgree d one two most f g
    → (h : Named → Named) (room wide : ℕ) (fits : Rooms d room wide) → Agree d one two most (closed_by h f room) (closed_by h g wide)
closed_agree d one two tails most f g a h room wide fits =
    binds d one two most (f.inside room) (g.inside wide) (λ x ts. expect (is_sign symbols.Close) ts >>= λ closed. Ok (h x, closed.1))
    (λ x ts. expect (is_sign symbols.Close) ts >>= λ closed. Ok (h x, closed.1)) (a.inside room wide fits)
    (λ x. expects d one two tails most (is_sign symbols.Close) (λ rest. Ok (h x, rest)) (λ rest. Ok (h x, rest))
    (done d one two most (h x)))

filters_agree : (d : Bool) (one two : List Lexeme) (tails : Tails one two) (most : ℕ) (f g : Inner) → InnerAgree d one two most f g
    → (c : Function × Option (List ℕ)) → Agree d one two most (filter_at f c) (filter_at g c)
unfolding filter_at
filters_agree d one two tails most f g a c =
    let inside : Inner → List Lexeme → Read Named = λ i. closed_by (λ x. form.Call_where c.0 c.1 x) i i.limit in
    let behind_open : Inner → List Lexeme → Read Named = λ i ts. expect (is_word (codes "where")) ts >>= λ where_. inside i where_.1 in
    let behind_filter : Inner → List Lexeme → Read Named = λ i ts. expect (is_sign symbols.Open) ts >>= λ opened. behind_open i opened.1 in
    chooses d one two tails most (is_word (codes "filter")) (behind_filter f) (behind_filter g) (λ ts. Ok (form.Call c.0 c.1, ts))
    (λ ts. Ok (form.Call c.0 c.1, ts))
    (expects d one two tails most (is_sign symbols.Open) (behind_open f) (behind_open g)
    (expects d one two tails most (is_word (codes "where")) (inside f) (inside g)
    (closed_agree d one two tails most f g a (λ x. form.Call_where c.0 c.1 x) f.limit g.limit a.limits)))
    (done d one two most (form.Call c.0 c.1))

calls_agree : (d : Bool) (one two : List Lexeme) (tails : Tails one two) (most : ℕ) (f g : Inner) → InnerAgree d one two most f g
    → (w : Function) → Agree d one two most (call_at f w) (call_at g w)
unfolding call_at
calls_agree d one two tails most f g a w =
    binds d one two most (argument_at w) (argument_at w) (λ c ts. expect (is_sign symbols.Close) ts >>= λ closed. filter_at f c closed.1)
    (λ c ts. expect (is_sign symbols.Close) ts >>= λ closed. filter_at g c closed.1)
    (arguments_agree d one two tails most w)
    (λ c. expects d one two tails most (is_sign symbols.Close) (filter_at f c) (filter_at g c) (filters_agree d one two tails most f g a c))

pub functions_agree : (d : Bool) (one two : List Lexeme) (tails : Tails one two) (most : ℕ) (f g : Inner) → InnerAgree d one two most f g
    → (w : List ℕ) (o : Option Function) → Agree d one two most (function_or_column f w o) (function_or_column g w o)
functions_agree d one two tails most f g a w None = done d one two most (form.Column w)
functions_agree d one two tails most f g a w (Some i) =
    chooses d one two tails most (is_sign symbols.Open) (call_at f i) (call_at g i) (λ ts. Ok (form.Column w, ts))
    (λ ts. Ok (form.Column w, ts)) (calls_agree d one two tails most f g a i) (done d one two most (form.Column w))

-- ---- operands

word_in : (d : Bool) (one two us : List Lexeme) (b : Bool) (x : Named) (r s : Read Named) → Alike d one two r s
    → Alike d one two (cond b (Ok (x, us ++ one)) r) (cond b (Ok (x, us ++ two)) s)
word_in d one two us true x r s a = same x us
word_in d one two us false x r s a = a

word_past : (d : Bool) (t : Lexeme) (rest more : List Lexeme) (b : Bool) (x : Named) (r s : Read Named) → Alike d (t ∷ rest) (t ∷ more) r s
    → Alike d (t ∷ rest) (t ∷ more) (cond b (Ok (x, rest)) r) (cond b (Ok (x, more)) s)
word_past d t rest more true x r s a = past (Ok (x, rest)) (Ok (x, more)) (omega arith)
word_past d t rest more false x r s a = a

free_in : (d : Bool) (one two us : List Lexeme) (t : Lexeme) (b : Bool) (r s : Read Named) → Alike d one two r s
    → Alike d one two (cond b (unexpected (t ∷ (us ++ one))) r) (cond b (unexpected (t ∷ (us ++ two))) s)
free_in d one two us t true r s a = refused (t ∷ us)
free_in d one two us t false r s a = a

free_past : (d : Bool) (t : Lexeme) (rest more : List Lexeme) (b : Bool) (f g : List Lexeme → Read Named) → Stays f
    → Alike d (t ∷ rest) (t ∷ more) (cond b (unexpected (t ∷ rest)) (f rest)) (cond b (unexpected (t ∷ more)) (g more))
free_past d t rest more true f g h = refused []
free_past d t rest more false f g h = past (f rest) (g more) (past_within (length rest) (t ∷ rest) (f rest) (omega arith) (h.within rest))

pub free_word_in : (d : Bool) (one two : List Lexeme) (tails : Tails one two) (most : ℕ) (f g : Inner) → InnerAgree d one two most f g
    → (w : List ℕ) (us : List Lexeme) → length us < most
    → Alike d one two (cond (is_reserved w) (unexpected (Name w ∷ (us ++ one))) (function_or_column f w (function_named w) (us ++ one)))
    (cond (is_reserved w) (unexpected (Name w ∷ (us ++ two))) (function_or_column g w (function_named w) (us ++ two)))
free_word_in d one two tails most f g a w us lt =
    free_in d one two us (Name w) (is_reserved w) (function_or_column f w (function_named w) (us ++ one))
    (function_or_column g w (function_named w) (us ++ two)) ((functions_agree d one two tails most f g a w (function_named w)).alike us
    lt)

pub free_word_past : (d : Bool) (most : ℕ) (f g : Inner) (w : List ℕ) (rest more : List Lexeme)
    → InnerAgree d (Name w ∷ rest) (Name w ∷ more) most f g
    → Alike d (Name w ∷ rest) (Name w
    ∷ more) (cond (is_reserved w) (unexpected (Name w ∷ rest)) (function_or_column f w (function_named w) rest))
    (cond (is_reserved w) (unexpected (Name w ∷ more)) (function_or_column g w (function_named w) more))
free_word_past d most f g w rest more a =
    free_past d (Name w) rest more (is_reserved w) (function_or_column f w (function_named w)) (function_or_column g w (function_named w))
    ((functions_agree d (Name w ∷ rest) (Name w ∷ more) (both (Name w) rest more) most f g a w (function_named w)).stays)

words_in : (d : Bool) (one two : List Lexeme) (tails : Tails one two) (most : ℕ) (f g : Inner) → InnerAgree d one two most f g
    → (w : List ℕ) (us : List Lexeme) → length us < most → Alike d one two (word_at f w (us ++ one)) (word_at g w (us ++ two))
unfolding word_at
words_in d one two tails most f g a w us lt =
    let free = free_word_in d one two tails most f g a w us lt in
    word_in d one two us (bytes_eq w (codes "true")) (form.Literal (datum.Boolean true)) _ _ (
    word_in d one two us (bytes_eq w (codes "false")) (form.Literal (datum.Boolean false)) _ _ (
    word_in d one two us (bytes_eq w (codes "null")) (form.Literal datum.Null) _ _ free))

words_past : (d : Bool) (most : ℕ) (f g : Inner) (w : List ℕ) (rest more : List Lexeme)
    → InnerAgree d (Name w ∷ rest) (Name w ∷ more) most f g → Alike d (Name w ∷ rest) (Name w ∷ more) (word_at f w rest) (word_at g w more)
unfolding word_at
words_past d most f g w rest more a =
    let free = free_word_past d most f g w rest more a in
    word_past d (Name w) rest more (bytes_eq w (codes "true")) (form.Literal (datum.Boolean true)) _ _ (
    word_past d (Name w) rest more (bytes_eq w (codes "false")) (form.Literal (datum.Boolean false)) _ _ (
    word_past d (Name w) rest more (bytes_eq w (codes "null")) (form.Literal datum.Null) _ _ free))

sign_in : (d : Bool) (one two : List Lexeme) (tails : Tails one two) (most : ℕ) (f g : Inner) → InnerAgree d one two most f g
    → (room wide : ℕ) (fits : Rooms d room wide) (b : Bool) (s : Symbol) (us : List Lexeme) → length us < most
    → Alike d one two (cond b (enclosed_at f room (us ++ one)) (unexpected (Sign s ∷ (us ++ one))))
    (cond b (enclosed_at g wide (us ++ two)) (unexpected (Sign s ∷ (us ++ two))))
unfolding enclosed_at
sign_in d one two tails most f g a room wide fits false s us lt = refused (Sign s ∷ us)
sign_in d one two tails most f g a zero zero fits true s us lt = deep (Sign s ∷ us)
sign_in d one two tails most f g a zero (suc wide) fits true s us lt = deeper (no_room d wide fits) (length (opening ∷ (us ++ one)))
    (enclosed_at g (suc wide) (us ++ two))
sign_in d one two tails most f g a (suc room) zero fits true s us lt = absurd (some_room d room fits)
sign_in d one two tails most f g a (suc room) (suc wide) fits true s us lt = (closed_agree d one two tails most f g a (λ x. x) room wide
    (fewer_rooms d room wide fits)).alike us lt

sign_past : (d : Bool) (most : ℕ) (f g : Inner) (room wide : ℕ) (fits : Rooms d room wide) (b : Bool) (s : Symbol) (rest more : List Lexeme)
    → InnerAgree d (Sign s ∷ rest) (Sign s ∷ more) most f g
    → Alike d (Sign s ∷ rest) (Sign s ∷ more) (cond b (enclosed_at f room rest) (unexpected (Sign s ∷ rest)))
    (cond b (enclosed_at g wide more) (unexpected (Sign s ∷ more)))
unfolding enclosed_at
sign_past d most f g room wide fits false s rest more a = refused []
sign_past d most f g zero zero fits true s rest more a = deep []
sign_past d most f g zero (suc wide) fits true s rest more a = deeper (no_room d wide fits) (length (opening ∷ rest))
    (enclosed_at g (suc wide) more)
sign_past d most f g (suc room) zero fits true s rest more a = absurd (some_room d room fits)
sign_past d most f g (suc room) (suc wide) fits true s rest more a =
    let h = (closed_agree d (Sign s ∷ rest) (Sign s ∷ more) (both (Sign s) rest more) most f g a (λ x. x) room wide
    (fewer_rooms d room wide fits)).stays in
    past (closed_by (λ x. x) f room rest) (closed_by (λ x. x) g wide more)
    (past_within (length rest) (Sign s ∷ rest) (closed_by (λ x. x) f room rest) (omega arith) (h.within rest))

prim_alike : (d : Bool) (one two : List Lexeme) (tails : Tails one two) (most : ℕ) (f g : Inner) → InnerAgree d one two most f g
    → (room wide : ℕ) (fits : Rooms d room wide) (u : List Lexeme) → length u < suc most
    → Alike d one two (prim_at f room (u ++ one)) (prim_at g wide (u ++ two))
unfolding prim_at
prim_alike d one two tails most f g a room wide fits (Name w ∷ us) lt = words_in d one two tails most f g a w us (omega (arith, lt))
prim_alike d one two tails most f g a room wide fits (Integer z ∷ us) lt = same (form.Literal (datum.Bigint z)) us
prim_alike d one two tails most f g a room wide fits (Text s ∷ us) lt = same (form.Literal (datum.Text s)) us
prim_alike d one two tails most f g a room wide fits (Sign s ∷ us) lt = sign_in d one two tails most f g a room wide fits
    (is_sign symbols.Open (Sign s)) s us (omega (arith, lt))
prim_alike d _ _ none most f g a room wide fits [] lt = refused []
prim_alike d _ _ (both (Name w) rest more) most f g a room wide fits [] lt = words_past d most f g w rest more a
prim_alike d _ _ (both (Integer z) rest more) most f g a room wide fits [] lt = past (Ok (form.Literal (datum.Bigint z), rest))
    (Ok (form.Literal (datum.Bigint z), more)) (omega arith)
prim_alike d _ _ (both (Text s) rest more) most f g a room wide fits [] lt = past (Ok (form.Literal (datum.Text s), rest))
    (Ok (form.Literal (datum.Text s), more)) (omega arith)
prim_alike d _ _ (both (Sign s) rest more) most f g a room wide fits [] lt = sign_past d most f g room wide fits
    (is_sign symbols.Open (Sign s)) s rest more a

-- two readers of the conditions inside, which agree and are right
pub record Inners (d : Bool) (one two : List Lexeme) (most : ℕ) (f g : Inner) : Type 0 where
  pub tails : Tails one two
  pub agree : InnerAgree d one two most f g
  pub right : InnerMeans f
  pub right_too : InnerMeans g

pub prims_agree : (d : Bool) (one two : List Lexeme) (most : ℕ) (f g : Inner) → Inners d one two most f g
    → (room wide : ℕ) (fits : Rooms d room wide) → Agree d one two (suc most) (prim_at f room) (prim_at g wide)
prims_agree d one two most f g a room wide fits = record {
  alike = prim_alike d one two a.tails most f g a.agree room wide fits;
  stays = stays_of _ (prim_at f room) (prim_means f a.right room);
  stays_too = stays_of _ (prim_at g wide) (prim_means g a.right_too wide);
}

-- ---- comparisons

-- the right side of a comparison, behind its symbol
abbrev right_of : Inner → ℕ → Named → Comparison → List Lexeme → Read Named
right_of f room x c ts = prim_at f room ts >>= λ y. Ok (form.Compare c x y.0, y.1)

rights_agree : (d : Bool) (one two : List Lexeme) (most : ℕ) (f g : Inner) → Inners d one two most f g
    → (room wide : ℕ) (fits : Rooms d room wide) (x : Named) (c : Comparison)
    → Agree d one two (suc most) (right_of f room x c) (right_of g wide x c)
rights_agree d one two most f g a room wide fits x c = maps d one two (suc most) (prim_at f room) (prim_at g wide) (λ y. form.Compare c x y)
    (prims_agree d one two most f g a room wide fits)

side_in : (d : Bool) (one two : List Lexeme) (most : ℕ) (f g : Inner) → Inners d one two most f g
    → (room wide : ℕ) (fits : Rooms d room wide) (x : Named) (s : Symbol) (o : Option Comparison) (us : List Lexeme) → length us < suc most
    → Alike d one two (right_side f room x (Sign s ∷ (us ++ one)) (with_rest o (us ++ one)))
    (right_side g wide x (Sign s ∷ (us ++ two)) (with_rest o (us ++ two)))
side_in d one two most f g a room wide fits x s None us lt = same x (Sign s ∷ us)
side_in d one two most f g a room wide fits x s (Some c) us lt = (rights_agree d one two most f g a room wide fits x c).alike us lt

side_past : (d : Bool) (most : ℕ) (f g : Inner) (room wide : ℕ) (fits : Rooms d room wide) (x : Named) (s : Symbol) (o : Option Comparison)
    (rest more : List Lexeme) → Inners d (Sign s ∷ rest) (Sign s ∷ more) most f g
    → Alike d (Sign s ∷ rest) (Sign s ∷ more) (right_side f room x (Sign s ∷ rest) (with_rest o rest))
    (right_side g wide x (Sign s ∷ more) (with_rest o more))
side_past d most f g room wide fits x s None rest more a = same x []
side_past d most f g room wide fits x s (Some c) rest more a =
    let h = (rights_agree d (Sign s ∷ rest) (Sign s ∷ more) most f g a room wide fits x c).stays in
    past (right_of f room x c rest) (right_of g wide x c more) (past_within (length rest) (Sign s ∷ rest) (right_of f room x c rest)
    (omega arith) (h.within rest))

side_alike : (d : Bool) (one two : List Lexeme) (tails : Tails one two) (most : ℕ) (f g : Inner) → Inners d one two most f g
    → (room wide : ℕ) (fits : Rooms d room wide) (x : Named) (u : List Lexeme) → length u < suc most
    → Alike d one two (right_side f room x (u ++ one) (after_comparison (u ++ one)))
    (right_side g wide x (u ++ two) (after_comparison (u ++ two)))
side_alike d one two tails most f g a room wide fits x (Sign s ∷ us) lt = side_in d one two most f g a room wide fits x s
    (comparison_named s) us (omega (arith, lt))
side_alike d one two tails most f g a room wide fits x (Name w ∷ us) lt = same x (Name w ∷ us)
side_alike d one two tails most f g a room wide fits x (Integer z ∷ us) lt = same x (Integer z ∷ us)
side_alike d one two tails most f g a room wide fits x (Text s ∷ us) lt = same x (Text s ∷ us)
side_alike d _ _ none most f g a room wide fits x [] lt = same x []
side_alike d _ _ (both (Sign s) rest more) most f g a room wide fits x [] lt = side_past d most f g room wide fits x s (comparison_named s)
    rest more a
side_alike d _ _ (both (Name w) rest more) most f g a room wide fits x [] lt = same x []
side_alike d _ _ (both (Integer z) rest more) most f g a room wide fits x [] lt = same x []
side_alike d _ _ (both (Text s) rest more) most f g a room wide fits x [] lt = same x []

side_within : (f : Inner) → InnerMeans f → (room : ℕ) (x : Named) (s : Symbol) (o : Option Comparison) (ts : List Lexeme)
    → Within (length (Sign s ∷ ts)) (right_side f room x (Sign s ∷ ts) (with_rest o ts))
side_within f h room x s None ts = omega arith
side_within f h room x s (Some c) ts =
    let k = stays_of _ (prim_at f room) (prim_means f h room) in
    within_more (length ts) (length (Sign s ∷ ts)) (right_of f room x c ts) (omega arith)
    (within_bind (length ts) (prim_at f room ts) (λ y ts. Ok (form.Compare c x y, ts)) (k.within ts)
    (λ y. record { within = λ ts. omega arith }))

side_stays : (f : Inner) → InnerMeans f → (room : ℕ) (x : Named) → Stays (λ ts. right_side f room x ts (after_comparison ts))
side_stays f h room x = record { within = go }
  where
    go : (ts : List Lexeme) → Within (length ts) (right_side f room x ts (after_comparison ts))
    go [] = omega arith
    go (Sign s ∷ ts) = side_within f h room x s (comparison_named s) ts
    go (Name w ∷ ts) = omega arith
    go (Integer z ∷ ts) = omega arith
    go (Text s ∷ ts) = omega arith

pub comparisons_agree : (d : Bool) (one two : List Lexeme) (most : ℕ) (f g : Inner) → Inners d one two most f g
    → (room wide : ℕ) (fits : Rooms d room wide) → Agree d one two (suc most) (cmp_at f room) (cmp_at g wide)
unfolding cmp_at
comparisons_agree d one two most f g a room wide fits =
    binds d one two (suc most) (prim_at f room) (prim_at g wide) (λ x ts. right_side f room x ts (after_comparison ts))
    (λ x ts. right_side g wide x ts (after_comparison ts)) (prims_agree d one two most f g a room wide fits)
    (λ x. record {
      alike = side_alike d one two a.tails most f g a room wide fits x;
      stays = side_stays f a.right room x;
      stays_too =
          side_stays g a.right_too wide x;
    })

-- ---- chains

chain_stays : (operator : List ℕ) (step : Named → List Lexeme → Read Named) → ((x : Named) → Stays (step x)) → (turns : ℕ) (x : Named)
    → Stays (chain_at operator step turns x)
unfolding chain_at
chain_stays operator step h zero x = record { within = λ ts. omega arith }
chain_stays operator step h (suc turns) x =
    within_chosen (is_word operator) (λ rest. step x rest >>= λ y. chain_at operator step turns y.0 y.1) (λ ts. Ok (x, ts))
    (record {
      within = λ ts. within_bind (length ts) (step x ts) (chain_at operator step turns) ((h x).within ts)
          (chain_stays operator step h turns);
    })
    (record { within = λ ts. omega arith })

chain_nothing : (operator : List ℕ) (step : Named → List Lexeme → Read Named) (turns : ℕ) (x : Named) → chain_at operator step turns x []
    ≡ Ok (x, [])
unfolding chain_at
chain_nothing operator step zero x = refl
chain_nothing operator step (suc turns) x = refl

chains_end : (d : Bool) (operator : List ℕ) (f g : Named → List Lexeme → Read Named) (k m : ℕ) (x : Named)
    → Alike d [] [] (chain_at operator f k x []) (chain_at operator g m x [])
chains_end d operator f g k m x = rw (chain_nothing operator f k x, chain_nothing operator g m x) (same x [])

chain_alike : (d : Bool) (one two : List Lexeme) (tails : Tails one two) (most : ℕ) (operator : List ℕ) (f g : Named → List Lexeme
    → Read Named) → ((x : Named) → Agree d one two most (f x) (g x))
    → (k m : ℕ) (x : Named) (u : List Lexeme) → length (u ++ one) ≤ k → length (u ++ two) ≤ m → length u < most
    → Alike d one two (chain_at operator f k x (u ++ one)) (chain_at operator g m x (u ++ two))
unfolding chain_at
chain_alike d one two tails most operator f g a zero m x (t ∷ us) le also lt = absurd (omega (arith, le))
chain_alike d one two tails most operator f g a (suc k) zero x (t ∷ us) le also lt = absurd (omega (arith, also))
chain_alike d _ _ none most operator f g a zero m x [] le also lt = chains_end d operator f g zero m x
chain_alike d _ _ (both t rest more) most operator f g a zero m x [] le also lt = absurd (omega (arith, le))
chain_alike d _ _ none most operator f g a (suc k) zero x [] le also lt = chains_end d operator f g (suc k) zero x
chain_alike d _ _ (both t rest more) most operator f g a (suc k) zero x [] le also lt = absurd (omega (arith, also))
chain_alike d one two tails most operator f g a (suc k) (suc m) x u le also lt =
    alike_choose d one two tails (is_word operator) u (λ rest. f x rest >>= λ y. chain_at operator f k y.0 y.1)
    (λ rest. g x rest >>= λ y. chain_at operator g m y.0 y.1) (Ok (x, u ++ one)) (Ok (x, u ++ two))
    (λ v less. alike_bind d one two v (f x (v ++ one)) (g x (v ++ two)) (chain_at operator f k) (chain_at operator g m)
    ((a x).alike v (omega (arith, lt, less))) ((a x).stays.within (v ++ one))
    (λ y w short. chain_alike d one two tails most operator f g a k m y w
    (omega (arith, le, less, short, length-append w one, length-append u one))
    (omega (arith, also, less, short, length-append w two, length-append u two)) (omega (arith, lt, less, short)))
    (chain_stays operator f (λ x. (a x).stays) k))
    (record {
      within = λ ts. within_bind (length ts) (f x ts) (chain_at operator f k) ((a x).stays.within ts)
          (chain_stays operator f (λ x. (a x).stays) k);
    })
    (same x u)

pub chains_agree : (d : Bool) (one two : List Lexeme) (tails : Tails one two) (most : ℕ) (operator : List ℕ) (f g : Named → List Lexeme
    → Read Named) → ((x : Named) → Agree d one two most (f x) (g x))
    → (x : Named) → Agree d one two most (λ ts. chain_at operator f (length ts) x ts) (λ ts. chain_at operator g (length ts) x ts)
chains_agree d one two tails most operator f g a x = record {
  alike = λ u lt. chain_alike d one two tails most operator f g a (length (u ++ one)) (length (u ++ two)) x u (omega arith) (omega arith)
      lt;
  stays = record { within = λ ts. (chain_stays operator f (λ x. (a x).stays) (length ts) x).within ts };
  stays_too = record { within = λ ts. (chain_stays operator g (λ x. (a x).stays_too) (length ts) x).within ts };
}
