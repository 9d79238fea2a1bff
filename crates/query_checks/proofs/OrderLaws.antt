-- The terms of ORDER BY, as the code goes over them.
use Rattle.std.proofs.Common.{◌≡◌, ℕ, ◌+◌, ◌<◌, take, get_or, Bool, true, false, cond, not, filter, ◌&&◌, List, [], ◌∷◌, ◌++◌, map, length}
use Rattle.std.proofs.Common.{find, position, Option, Some, None, option_map, refl, ap, sym, ◌∙◌, subst, String, Global}
use Rattle.std.specs.List.{list_any, list_all, filter_map, cons_option, prefix_len}
use Rattle.std.specs.Prelude.{◌||◌}
use Rattle.std.specs.Str.{bytes_eq}
use Rattle.std.specs.Option.{option_map_or}
use Rattle.std.proofs.lemmas.Bool.{or_parts, false≢true}
use Rattle.std.proofs.lemmas.List.{length-map, append-nil}
use Rattle.query_checks.specs.declared.condition.Item.{Item}
use Rattle.query_checks.specs.Forms.{Form, item_of, items_of}
use Rattle.query_checks.specs.declared.order.RawTerm.{RawTerm}
use Rattle.query_checks.specs.declared.order.OrderTerm.{OrderTerm}
use Rattle.query_checks.specs.Order.{By_name, Term, term_of, has_name, differ, is_ambiguous, same_item}
use Rattle.query_checks.specs.Sameness.{form_eq, with_one, first_of_each}
use Rattle.query_checks.specs.SameLaws.{form_one}
use Rattle.query_checks.proofs.DistinctLaws.{next_front, one_more}

-- the first of some that passes a test, over what they stand for
prefix_mapped : {A B : Type 0} (p : B → Bool) (f : A → B) (xs : List A) → prefix_len p (map f xs) ≡ prefix_len (λ x. p (f x)) xs
prefix_mapped p f [] = refl
prefix_mapped p f (x ∷ xs) = ap (λ n. cond (p (f x)) (1 + n) 0) (prefix_mapped p f xs)

position_mapped : {A B : Type 0} (p : B → Bool) (f : A → B) (xs : List A) → position p (map f xs) ≡ position (λ x. p (f x)) xs
position_mapped p f xs = rw (prefix_mapped (λ x. not (p x)) f xs) (rw (length-map xs f) refl)

pub position_named : (name : List ℕ) (items : List (Item (String Global) × Option (String Global)))
    → position (λ item. has_name name (item_of item)) items ≡ position (has_name name) (items_of items)
position_named name items = sym (position_mapped (has_name name) item_of items)

find_if : {A B : Type 0} (b : Bool) (f : A → B) (x : A) (behind : Option A) (others : Option B) → others ≡ option_map f behind
    → cond b (Some (f x)) others ≡ option_map f (cond b (Some x) behind)
find_if true f x behind others e = refl
find_if false f x behind others e = e

find_mapped : {A B : Type 0} (p : B → Bool) (f : A → B) (xs : List A) → find p (map f xs) ≡ option_map f (find (λ x. p (f x)) xs)
find_mapped p f [] = refl
find_mapped p f (x ∷ xs) = find_if (p (f x)) f x (find (λ y. p (f y)) xs) (find p (map f xs)) (find_mapped p f xs)

any_mapped : {A B : Type 0} (p : B → Bool) (f : A → B) (xs : List A) → list_any p (map f xs) ≡ list_any (λ x. p (f x)) xs
any_mapped p f [] = refl
any_mapped p f (x ∷ xs) = rw (any_mapped p f xs) refl

-- ---- items of one name that differ

abbrev Named : Type 0
Named = Form (List ℕ) × Option (List ℕ)

abbrev unlike : Named → Named → Bool
unlike a b = not (form_eq bytes_eq a.0 b.0)

any_if : (b : Bool) (q : Named → Bool) (x : Named) (xs : List Named) (behind : Bool) → behind ≡ list_any q xs → ((b && q x) || behind)
    ≡ list_any q (cond b (x ∷ xs) xs)
any_if true q x xs behind e = ap (λ those. q x || those) e
any_if false q x xs behind e = e

any_passing : (p q : Named → Bool) (xs : List Named) → list_any (λ x. p x && q x) xs ≡ list_any q (filter p xs)
any_passing p q [] = refl
any_passing p q (x ∷ xs) = any_if (p x) q x (filter p xs) (list_any (λ y. p y && q y) xs) (any_passing p q xs)

abbrev first_of : List Named → Option Named
first_of [] = None
first_of (x ∷ xs) = Some x

first_if : (b : Bool) (x : Named) (xs : List Named) (found : Option Named) → found ≡ first_of xs → cond b (Some x) found
    ≡ first_of (cond b (x ∷ xs) xs)
first_if true x xs found e = refl
first_if false x xs found e = e

first_passing : (p : Named → Bool) (xs : List Named) → find p xs ≡ first_of (filter p xs)
first_passing p [] = refl
first_passing p (x ∷ xs) = first_if (p x) x (filter p xs) (find p xs) (first_passing p xs)

-- items that are all the same as one are the same as one another
same_as : (a b : Named) → unlike a b ≡ false → a.0 ≡ b.0
same_as a b e = form_one a.0 b.0 (not_false (form_eq bytes_eq a.0 b.0) e)
  where
    not_false : (t : Bool) → not t ≡ false → t ≡ true
    not_false true e = refl
    not_false false e = absurd (false≢true (sym e))

none_differs : (f : Named) (xs all : List Named) → list_any (unlike f) all ≡ false → list_any (unlike f) xs ≡ false
    → list_any (λ a. list_any (unlike a) all) xs ≡ false
none_differs f [] all none e = refl
none_differs f (x ∷ xs) all none e =
    let parts = or_parts (unlike f x) (list_any (unlike f) xs) e in
    let here : list_any (unlike x) all ≡ false = subst (λ (y : Form (List ℕ)). list_any (λ (b : Named). not (form_eq bytes_eq y b.0)) all
    ≡ false) (same_as f x parts.0) none in
    λ i. here i || none_differs f xs all none parts.1 i

first_differs : (f : Named) (xs : List Named) (some : Bool) → list_any (unlike f) (f ∷ xs) ≡ some → some ≡ differ (f ∷ xs)
first_differs f xs true e = sym (ap (λ those. those || list_any (λ a. list_any (unlike a) (f ∷ xs)) xs) e)
first_differs f xs false e = sym (none_differs f (f ∷ xs) (f ∷ xs) e e)

those_differ : (items : List Named) → option_map_or (λ leftmost. list_any (unlike leftmost) items) (first_of items) false ≡ differ items
those_differ [] = refl
those_differ (f ∷ xs) = first_differs f xs (list_any (unlike f) (f ∷ xs)) refl

named_differ : (p : Named → Bool) (items : List Named) → option_map_or (λ leftmost. list_any (λ item. p item && unlike leftmost item) items)
    (find p items) false ≡ differ (filter p items)
named_differ p items =
    (λ i. option_map_or (λ leftmost. any_passing p (unlike leftmost) items i) (first_passing p items i) false)
    ∙ those_differ (filter p items)

-- over what the items stand for
ambiguous_named : (name : List ℕ) (items : List (Item (String Global) × Option (String Global)))
    → option_map_or (λ leftmost. list_any (λ item. has_name name (item_of item) && unlike (item_of leftmost) (item_of item)) items)
    (find (λ item. has_name name (item_of item)) items) false ≡ is_ambiguous (items_of items) (By_name name)
ambiguous_named name items = over_items (find (λ item. has_name name (item_of item)) items)
    ∙ ap (λ (found : Option Named). option_map_or differs found false) (sym (find_mapped (has_name name) item_of items))
    ∙ named_differ (has_name name) (items_of items)
  where
    differs : Named → Bool
    differs leftmost = list_any (λ item. has_name name item && unlike leftmost item) (items_of items)

    over_items : (found : Option (Item (String Global) × Option (String Global)))
        → option_map_or (λ leftmost. list_any (λ item. has_name name (item_of item) && unlike (item_of leftmost) (item_of item)) items)
        found false ≡ option_map_or differs (option_map item_of found) false
    over_items None = refl
    over_items (Some leftmost) = sym (any_mapped (λ (item : Named). has_name name item && unlike (item_of leftmost) item) item_of items)

pub leftmost_differs : (name : List ℕ) (items : List (Item (String Global) × Option (String Global))) (leftmost : Item (String Global)
    × Option (String Global)) → find (λ item. has_name name (item_of item)) items ≡ Some leftmost
    → list_any (λ item. has_name name (item_of item) && not (form_eq bytes_eq (item_of leftmost).0 (item_of item).0)) items
    ≡ is_ambiguous (items_of items) (By_name name)
leftmost_differs name items leftmost found =
    sym (ap (λ (o : Option (Item (String Global) × Option (String Global))). option_map_or
    (λ leftmost. list_any (λ item. has_name name (item_of item) && unlike (item_of leftmost) (item_of item)) items) o false) found)
    ∙ ambiguous_named name items

pub none_named : (name : List ℕ) (items : List (Item (String Global) × Option (String Global)))
    → find (λ item. has_name name (item_of item)) items ≡ None → false ≡ is_ambiguous (items_of items) (By_name name)
none_named name items none =
    sym (ap (λ (o : Option (Item (String Global) × Option (String Global))). option_map_or
    (λ leftmost. list_any (λ item. has_name name (item_of item) && unlike (item_of leftmost) (item_of item)) items) o false) none)
    ∙ ambiguous_named name items

-- the terms that are left of one more
cons_behind : {B : Type 0} (o : Option B) (all front behind : List B) → all ≡ front ++ behind → cons_option o all ≡ cons_option o front
    ++ behind
cons_behind None all front behind e = e
cons_behind {B} (Some y) all front behind e = ap (λ (rest : List B). y ∷ rest) e

mapped_behind : {A B : Type 0} (h : A → Option B) (xs : List A) (x : A) → filter_map h (xs ++ x ∷ []) ≡ filter_map h xs
    ++ cons_option (h x) []
mapped_behind h [] x = refl
mapped_behind h (y ∷ ys) x = cons_behind (h y) (filter_map h (ys ++ x ∷ [])) (filter_map h ys) (cons_option (h x) []) (mapped_behind h ys x)

meant_more : (f : RawTerm → Option OrderTerm) (terms : List RawTerm) (i : ℕ) (term : RawTerm) → i < length terms → term
    ≡ get_or terms i term
    → first_of_each same_item (filter_map f (take (i + 1) terms)) ≡ first_of_each same_item (filter_map f (take i terms)
    ++ cons_option (f term) [])
meant_more f terms i term low is = ap (λ front. first_of_each same_item (filter_map f front)) (next_front terms i term low is)
    ∙ ap (first_of_each same_item) (mapped_behind f (take i terms) term)

pub meant_one : (f : RawTerm → Option OrderTerm) (terms : List RawTerm) (i : ℕ) (term : RawTerm) (found : OrderTerm) → i < length terms
    → term ≡ get_or terms i term → f term ≡ Some found
    → first_of_each same_item (filter_map f (take (i + 1) terms))
    ≡ with_one same_item (first_of_each same_item (filter_map f (take i terms))) found
meant_one f terms i term found low is meant =
    meant_more f terms i term low is
    ∙ ap (λ (o : Option OrderTerm). first_of_each same_item (filter_map f (take i terms) ++ cons_option o [])) meant
    ∙ one_more same_item (filter_map f (take i terms)) found

pub meant_none : (f : RawTerm → Option OrderTerm) (terms : List RawTerm) (i : ℕ) (term : RawTerm) → i < length terms → term
    ≡ get_or terms i term → f term ≡ None
    → first_of_each same_item (filter_map f (take (i + 1) terms)) ≡ first_of_each same_item (filter_map f (take i terms))
meant_none f terms i term low is none =
    meant_more f terms i term low is
    ∙ ap (λ (o : Option OrderTerm). first_of_each same_item (filter_map f (take i terms) ++ cons_option o [])) none
    ∙ ap (first_of_each same_item) (append-nil (filter_map f (take i terms)))

-- the terms over what they stand for
pub meant_mapped : (h : Term → Option OrderTerm) (terms : List RawTerm) → filter_map h (map term_of terms)
    ≡ filter_map (λ term. h (term_of term)) terms
meant_mapped h [] = refl
meant_mapped h (term ∷ terms) = ap (cons_option (h (term_of term))) (meant_mapped h terms)

pub all_terms : (p : Term → Bool) (terms : List RawTerm) → list_all p (map term_of terms) ≡ list_all (λ term. p (term_of term)) terms
all_terms p [] = refl
all_terms p (term ∷ terms) = rw (all_terms p terms) refl

pub any_term : (p : Term → Bool) (terms : List RawTerm) → list_any p (map term_of terms) ≡ list_any (λ term. p (term_of term)) terms
any_term p terms = any_mapped p term_of terms
