-- Tokens have one first fault, and reading finds it.
use Rattle.std.proofs.Common.{◌≡◌, ℕ, suc, List, [], ◌∷◌, ◌++◌, ◌+◌, length, Ok, Err, refl, sym, ap, subst, ◌∙◌, arith, append_assoc}
use Rattle.std.proofs.lemmas.List.{append-nil, length-append}
use Rattle.query_grammar.specs.Lemmas.Words.{Lexeme, Asked, opening, IsQuery, Begins, Read, Unexpected, Too_deep, query_at}
use Rattle.query_grammar.specs.Laws.{NoneGoesOn, IsUnexpected, IsTooDeep}
use Rattle.query_grammar.specs.Lemmas.Faults.{is_query, is_unexpected, is_too_deep}

-- a query doesn't go on as it does where none goes on
pub goes_on : (limit : ℕ) (ts front rest : List Lexeme) (asked : Asked) → IsQuery limit ts asked → ts ≡ front ++ rest
    → NoneGoesOn limit front rest → ⊥
goes_on limit ts front [] asked is split none = none asked (subst (λ (u : List Lexeme). IsQuery limit u asked) (split ∙ append-nil front)
    is)
goes_on limit ts front (t ∷ rest) asked is split none =
    none (record {
      more = rest;
      asked = asked;
      is_query = subst (λ (u : List Lexeme). IsQuery limit u asked) (split
          ∙ sym (append_assoc front (t ∷ []) rest)) is;
    })

-- what begins a query begins one without its last tokens
begins_before : (limit : ℕ) (front : List Lexeme) (t : Lexeme) (more : List Lexeme) → Begins limit (front ++ t ∷ more)
    → Begins limit (front ++ t ∷ [])
begins_before limit front t more b =
    record {
      more = more ++ b.more;
      asked = b.asked;
      is_query = subst (λ (u : List Lexeme). IsQuery limit u b.asked) (append_assoc front (t ∷ more) b.more
          ∙ sym (append_assoc front (t ∷ []) (more ++ b.more))) b.is_query;
    }

-- none goes on so, but one does
clash : (limit : ℕ) (front rest : List Lexeme) (t : Lexeme) (more others : List Lexeme) → NoneGoesOn limit front rest → rest ≡ t ∷ others
    → Begins limit (front ++ t ∷ more) → ⊥
clash limit front rest t more others none is b = subst (λ (u : List Lexeme). NoneGoesOn limit front u) is none
    (begins_before limit front t more b)

-- tokens behind which no query goes on are parted in one way into what begins a query and what can't follow
same_front : (limit : ℕ) (done f r g s : List Lexeme) → f ++ r ≡ g ++ s → Begins limit (done ++ f) → NoneGoesOn limit (done ++ f) r
    → Begins limit (done ++ g) → NoneGoesOn limit (done ++ g) s → f ≡ g
same_front limit done [] r [] s e bf nf bg ng = refl
same_front limit done [] r (t ∷ g) s e bf nf bg ng = absurd
    (clash limit done r t g (g ++ s) (subst (λ (u : List Lexeme). NoneGoesOn limit u r) (append-nil done) nf) e bg)
same_front limit done (t ∷ f) r [] s e bf nf bg ng = absurd
    (clash limit done s t f (f ++ r) (subst (λ (u : List Lexeme). NoneGoesOn limit u s) (append-nil done) ng) (sym e) bf)
same_front limit done (t ∷ f) r (u ∷ g) s e bf nf bg ng =
    let same : t ≡ u = cc in
    let rest : f ++ r ≡ g ++ s = cc in
    let one : done ++ t ∷ f ≡ (done ++ t ∷ []) ++ f = sym (append_assoc done (t ∷ []) f) in
    let other : done ++ u ∷ g ≡ (done ++ t ∷ []) ++ g = ap (λ (v : Lexeme). done ++ v ∷ g) (sym same)
    ∙ sym (append_assoc done (t ∷ []) g) in
    let below : f ≡ g =
    same_front limit (done ++ t ∷ []) f r g s rest (subst (Begins limit) one bf) (subst (λ (v : List Lexeme). NoneGoesOn limit v r) one nf)
    (subst (Begins limit) other bg)
    (subst (λ (v : List Lexeme). NoneGoesOn limit v s) other ng) in
    λ i. same i ∷ below i

same_left : (ts f r g s : List Lexeme) → ts ≡ f ++ r → ts ≡ g ++ s → f ≡ g → length r ≡ length s
same_left ts f r g s e h same =
    let first : length ts ≡ length f + length r = ap length e ∙ length-append f r in
    let second : length ts ≡ length g + length s = ap length h ∙ length-append g s in
    let long : length f ≡ length g = ap length same in
    omega (arith, first, second, long)

one_unexpected : (limit : ℕ) (ts : List Lexeme) (left other : ℕ) → IsUnexpected limit ts left → IsUnexpected limit ts other → left ≡ other
one_unexpected limit ts left other a b =
    let same : a.front ≡ b.front = same_front limit [] a.front a.rest b.front b.rest (sym a.split ∙ b.split) a.begins a.ends b.begins b.ends
    in
    sym a.place ∙ same_left ts a.front a.rest b.front b.rest a.split b.split same ∙ b.place

one_too_deep : (limit : ℕ) (ts : List Lexeme) (left other : ℕ) → IsTooDeep limit ts left → IsTooDeep limit ts other → left ≡ other
one_too_deep limit ts left other a b =
    let same : a.front ≡ b.front = same_front limit [] a.front (opening ∷ a.rest) b.front (opening ∷ b.rest) (sym a.split ∙ b.split)
    a.begins a.ends b.begins b.ends in
    sym a.place ∙ same_left ts a.front (opening ∷ a.rest) b.front (opening ∷ b.rest) a.split b.split same ∙ b.place

-- a token that is unexpected is no parenthesis too many
not_also : (limit : ℕ) (front rest more : List Lexeme) → rest ≡ opening ∷ more → NoneGoesOn (suc limit) front rest
    → Begins (suc limit) (front ++ opening ∷ []) → ⊥
not_also limit front rest more is none allowed = clash (suc limit) front rest opening [] more none is allowed

same_rest : (f r s : List Lexeme) → f ++ r ≡ f ++ s → r ≡ s
same_rest [] r s e = e
same_rest (t ∷ f) r s e = same_rest f r s cc

one_kind : (limit : ℕ) (ts : List Lexeme) (left other : ℕ) → IsUnexpected limit ts left → IsTooDeep limit ts other → ⊥
one_kind limit ts left other a b =
    let same : a.front ≡ b.front = same_front limit [] a.front a.rest b.front (opening ∷ b.rest) (sym a.split ∙ b.split) a.begins a.ends
    b.begins b.ends in
    let rest : a.rest ≡ opening ∷ b.rest = same_rest b.front a.rest (opening ∷ b.rest) (ap (λ (f : List Lexeme). f ++ a.rest) (sym same)
    ∙ sym a.split ∙ b.split) in
    not_also limit b.front a.rest b.rest rest (subst (λ (f : List Lexeme). NoneGoesOn (suc limit) f a.rest) same a.ends_also) b.allowed

-- ---- reading finds the first fault

finds_unexpected : (limit : ℕ) (ts : List Lexeme) (left : ℕ) (r : Read Asked) → query_at limit ts ≡ r → IsUnexpected limit ts left
    → query_at limit ts ≡ Err (Unexpected left)
finds_unexpected limit ts left (Ok x) e a = absurd (goes_on limit ts a.front a.rest x.0 (is_query limit ts x.0 x.1 e) a.split a.ends)
finds_unexpected limit ts left (Err (Unexpected other)) e a = e
    ∙ ap (λ n. Err (Unexpected n)) (one_unexpected limit ts other left (is_unexpected limit ts other e) a)
finds_unexpected limit ts left (Err (Too_deep other)) e a = absurd (one_kind limit ts left other a (is_too_deep limit ts other e))

finds_too_deep : (limit : ℕ) (ts : List Lexeme) (left : ℕ) (r : Read Asked) → query_at limit ts ≡ r → IsTooDeep limit ts left
    → query_at limit ts ≡ Err (Too_deep left)
finds_too_deep limit ts left (Ok x) e a = absurd (goes_on limit ts a.front (opening ∷ a.rest) x.0 (is_query limit ts x.0 x.1 e) a.split
    a.ends)
finds_too_deep limit ts left (Err (Unexpected other)) e a = absurd (one_kind limit ts other left (is_unexpected limit ts other e) a)
finds_too_deep limit ts left (Err (Too_deep other)) e a = e
    ∙ ap (λ n. Err (Too_deep n)) (one_too_deep limit ts other left (is_too_deep limit ts other e) a)

pub unexpected_found : (limit : ℕ) (ts : List Lexeme) (left : ℕ) → IsUnexpected limit ts left → query_at limit ts ≡ Err (Unexpected left)
unexpected_found limit ts left a = finds_unexpected limit ts left (query_at limit ts) refl a

pub too_deep_found : (limit : ℕ) (ts : List Lexeme) (left : ℕ) → IsTooDeep limit ts left → query_at limit ts ≡ Err (Too_deep left)
too_deep_found limit ts left a = finds_too_deep limit ts left (query_at limit ts) refl a
