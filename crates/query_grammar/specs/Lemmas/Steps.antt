-- How the meaning of reading goes through the steps that readers are made of.
use Rattle.std.proofs.Common.{◌≡◌, Bool, true, false, cond, List, [], ◌∷◌, ◌++◌, Some, None, Ok, Err, refl, sym, ap, subst, ◌∙◌}
use Rattle.std.proofs.Common.{append_assoc, arith}
use Rattle.query_grammar.specs.Lemmas.Words.{Lexeme, opening, Read, Unexpected, Too_deep, unexpected, after, choose, expect}
use Rattle.query_grammar.specs.Reading.{◌>>=◌}
use Rattle.query_grammar.specs.Laws.{Part, Means, MeansThat, CanBecome}
use Rattle.std.proofs.lemmas.Bool.Decides.{nat_tests}
use Rattle.std.proofs.lemmas.Grind.{common_steps}

abbrev pub Pred : Type 0 → Type 1
Pred A = List Lexeme → A → Type 0

-- what follows a front
abbrev pub behind : {A : Type 0} → List Lexeme → Part A → Part A
behind front Q = λ e u x. Q e (front ++ u) x

pub done : {A : Type 0} (Q : Part A) (ts : List Lexeme) (x : A) → ((e : Bool) → Q e [] x) → Means Q ts (Ok (x, ts))
done Q ts x q = record { that = ([], refl, q) }

pub refused : {A : Type 0} (Q : Part A) (ts : List Lexeme) → ((e : Bool) → CanBecome (Q e) []) → Means Q ts (unexpected ts)
refused Q ts can = record { that = ([], ts, refl, refl, can) }

-- what can become a part behind a front, with the front before it
wide_can : {A : Type 0} (Q : Pred A) (front u : List Lexeme) → CanBecome (λ v x. Q (front ++ v) x) u → CanBecome Q (front ++ u)
wide_can Q front u can = (can.0, can.1, subst (λ (v : List Lexeme). Q v can.1) (sym (append_assoc front u can.0)) can.2)

-- the same where the first part stands for the second in the end
closed_can : {A B : Type 0} (P : Pred A) (Q : Pred B) (front : List Lexeme) → ((u : List Lexeme) (a : A) → P u a → CanBecome Q u)
    → CanBecome P front → CanBecome Q front
closed_can P Q front closes can = grind (arith, nat_tests, common_steps)

widen_that : {A : Type 0} (Q : Part A) (front rest ts : List Lexeme) (r : Read A) → ts ≡ front ++ rest → MeansThat (behind front Q) rest r
    → MeansThat Q ts r
widen_that Q front rest ts (Ok x) e m = (front ++ m.0, e ∙ ap (λ (u : List Lexeme). front ++ u) m.1 ∙ sym (append_assoc front m.0 x.1), m.2)
widen_that Q front rest ts (Err (Unexpected left)) e m = (
  front ++ m.0,
  m.1,
  e ∙ ap (λ (u : List Lexeme). front ++ u) m.2 ∙ sym (append_assoc front m.0 m.1),
  m.3,
  λ b. wide_can (Q b) front m.0
      (m.4 b),
)
widen_that Q front rest ts (Err (Too_deep left)) e m = (
  front ++ m.0,
  m.1,
  e ∙ ap (λ (u : List Lexeme). front ++ u) m.2 ∙ sym (append_assoc front m.0 (opening ∷ m.1)),
  m.3,
  λ b. wide_can (Q b) front m.0 (m.4 b),
  subst (λ (u : List Lexeme). CanBecome (Q true) u) (sym (append_assoc front m.0 (opening ∷ []))) (wide_can (Q true) front (m.0 ++ opening
      ∷ []) m.5),
)

pub widen : {A : Type 0} (Q : Part A) (front rest ts : List Lexeme) (r : Read A) → ts ≡ front ++ rest → Means (behind front Q) rest r
    → Means Q ts r
widen Q front rest ts r e m = record { that = widen_that Q front rest ts r e m.that }

-- a part within another
within_can : {A : Type 0} (P Q : Pred A) (front : List Lexeme) → ((u : List Lexeme) (x : A) → P u x → Q u x) → CanBecome P front
    → CanBecome Q front
within_can P Q front f can = (can.0, can.1, f (front ++ can.0) can.1 can.2)

weaken_that : {A : Type 0} (P Q : Part A) (ts : List Lexeme) (r : Read A) → ((e : Bool) (u : List Lexeme) (x : A) → P e u x → Q e u x)
    → MeansThat P ts r → MeansThat Q ts r
weaken_that P Q ts (Ok x) f m = (m.0, m.1, λ e. f e m.0 x.0 (m.2 e))
weaken_that P Q ts (Err (Unexpected left)) f m = (m.0, m.1, m.2, m.3, λ e. within_can (P e) (Q e) m.0 (f e) (m.4 e))
weaken_that P Q ts (Err (Too_deep left)) f m =
    (m.0, m.1, m.2, m.3, λ e. within_can (P e) (Q e) m.0 (f e) (m.4 e), within_can (P true) (Q true) (m.0 ++ opening ∷ []) (f true) m.5)

pub weaken : {A : Type 0} (P Q : Part A) (ts : List Lexeme) (r : Read A) → ((e : Bool) (u : List Lexeme) (x : A) → P e u x → Q e u x)
    → Means P ts r → Means Q ts r
weaken P Q ts r f m = record { that = weaken_that P Q ts r f m.that }

-- one reader after another
pub bind : {A B : Type 0} (P : Part A) (Q : Part B) (ts : List Lexeme) (r : Read A) (f : A × List Lexeme → Read B) → Means P ts r
    → ((front rest : List Lexeme) (a : A) → ((e : Bool) → P e front a) → Means (behind front Q) rest (f (a, rest)))
    → ((e : Bool) (front : List Lexeme) (a : A) → P e front a → CanBecome (Q e) front) → Means Q ts (r >>= f)
bind P Q ts (Ok x) f m next closes = let t = m.that in widen Q t.0 x.1 ts (f x) t.1 (next t.0 x.1 x.0 t.2)
bind P Q ts (Err (Unexpected left)) f m next closes =
    let t = m.that in record { that = (t.0, t.1, t.2, t.3, λ e. closed_can (P e) (Q e) t.0 (closes e) (t.4 e)) }
bind P Q ts (Err (Too_deep left)) f m next closes =
    let t = m.that in
    record {
      that = (
        t.0,
        t.1,
        t.2,
        t.3,
        λ e. closed_can (P e) (Q e) t.0 (closes e) (t.4 e),
        closed_can (P true) (Q true) (t.0 ++ opening
            ∷ []) (closes true) t.5,
      );
    }

-- a reader's value put into another
mapped_can : {A B : Type 0} (P : Pred A) (Q : Pred B) (front : List Lexeme) (g : A → B) → ((u : List Lexeme) (a : A) → P u a → Q u (g a))
    → CanBecome P front → CanBecome Q front
mapped_can P Q front g f can = (can.0, g can.1, f (front ++ can.0) can.1 can.2)

pub mapped : {A B : Type 0} (P : Part A) (Q : Part B) (ts : List Lexeme) (r : Read A) (g : A → B) → Means P ts r
    → ((e : Bool) (u : List Lexeme) (a : A) → P e u a → Q e u (g a))
    → Means Q ts (r >>= λ x. Ok (g x.0, x.1))
mapped P Q ts (Ok x) g m f = let t = m.that in record { that = (t.0, t.1, λ e. f e t.0 x.0 (t.2 e)) }
mapped P Q ts (Err (Unexpected left)) g m f = let t = m.that in
    record { that = (t.0, t.1, t.2, t.3, λ e. mapped_can (P e) (Q e) t.0 g (f e) (t.4 e)) }
mapped P Q ts (Err (Too_deep left)) g m f =
    let t = m.that in
    record {
      that = (
        t.0,
        t.1,
        t.2,
        t.3,
        λ e. mapped_can (P e) (Q e) t.0 g (f e) (t.4 e),
        mapped_can (P true) (Q true) (t.0 ++ opening
            ∷ []) g (f true) t.5,
      );
    }

choose_at : {A : Type 0} (Q : Part A) (b : Bool) (t : Lexeme) (us : List Lexeme) (there : List Lexeme → Read A) (otherwise : Read A)
    → (b ≡ true → Means (behind (t ∷ []) Q) us (there us)) → Means Q (t ∷ us) otherwise
    → Means Q (t ∷ us) (choose (cond b (Some us) None) there otherwise)
choose_at Q true t us there otherwise h k = widen Q (t ∷ []) us (t ∷ us) (there us) refl (h refl)
choose_at Q false t us there otherwise h k = k

-- an optional token
pub chosen : {A : Type 0} (Q : Part A) (tok : Lexeme) (test : Lexeme → Bool) → ((t : Lexeme) → test t ≡ true → t ≡ tok)
    → (ts : List Lexeme) (there : List Lexeme → Read A) (otherwise : Read A)
    → ((rest : List Lexeme) → Means (λ e u x. Q e (tok ∷ u) x) rest (there rest)) → Means Q ts otherwise
    → Means Q ts (choose (after test ts) there otherwise)
chosen Q tok test law [] there otherwise h k = k
chosen Q tok test law (t ∷ us) there otherwise h k =
    choose_at Q (test t) t us there otherwise (λ b. subst (λ (v : Lexeme). Means (λ e u x. Q e (v ∷ u) x) us (there us)) (sym (law t b))
    (h us)) k

expected_at : {A : Type 0} (Q : Part A) (b : Bool) (t : Lexeme) (us : List Lexeme) (f : List Lexeme → Read A)
    → (b ≡ true → Means (behind (t ∷ []) Q) us (f us)) → ((e : Bool) → CanBecome (Q e) [])
    → Means Q (t ∷ us) (choose (cond b (Some us) None) (λ rest. Ok (tt {0}, rest)) (unexpected (t ∷ us)) >>= λ x. f x.1)
expected_at Q true t us f h can = widen Q (t ∷ []) us (t ∷ us) (f us) refl (h refl)
expected_at Q false t us f h can = refused Q (t ∷ us) can

-- a token that must stand here, and what follows it
pub expected : {A : Type 0} (Q : Part A) (tok : Lexeme) (test : Lexeme → Bool) → ((t : Lexeme) → test t ≡ true → t ≡ tok)
    → (ts : List Lexeme) (f : List Lexeme → Read A)
    → ((rest : List Lexeme) → Means (λ e u x. Q e (tok ∷ u) x) rest (f rest)) → ((e : Bool) → CanBecome (λ u x. Q e (tok ∷ u) x) [])
    → Means Q ts (expect test ts >>= λ x. f x.1)
expected Q tok test law [] f h can = refused Q [] (λ e. (tok ∷ (can e).0, (can e).1, (can e).2))
expected Q tok test law (t ∷ us) f h can =
    expected_at Q (test t) t us f (λ b. subst (λ (v : Lexeme). Means (λ e u x. Q e (v ∷ u) x) us (f us)) (sym (law t b)) (h us))
    (λ e. (tok ∷ (can e).0, (can e).1, (can e).2))
