-- What stands behind a query's HAVING is what its canonical text says.
use Rattle.std.proofs.Common.{◌≡◌, ◌<◌, ◌≤◌, ◌+◌, ◌-◌, ◌&&◌, ℕ, pos, ℤ, Bool, true, false, cond, List, [], ◌∷◌, map, length, position}
use Rattle.std.proofs.Common.{Option, Some, None, option_map, refl, ap, sym, ◌∙◌, subst, arith}
use Rattle.std.specs.Prelude.{nat_le, is_some, Ok, FitsSigned}
use Rattle.std.specs.Int.{w64}
use Rattle.std.proofs.lemmas.Int.{ints}
use Rattle.grouping_model.specs.declared.limits.TheConstants.{MAX_ITEMS}
use Rattle.std.specs.List.{AllByRecursion, list_any, list_all, filter_map, cons_option}
use Rattle.std.proofs.lemmas.List.{length-map}
use Rattle.std.proofs.lemmas.List.Quantifiers.{position-Some}
use Rattle.query_checks.specs.declared.order.OrderTerm.{OrderTerm}
use Rattle.query_checks.specs.Forms.{Form, Column}
use Rattle.query_checks.specs.Order.{Target, By_name, By_place, Term, Asked, has_name, item_at, item_meant, is_ambiguous, ordered_by}
use Rattle.query_checks.specs.Order.{term_meant, same_item, order_of, names_items, canonical_term, IsTerm}
use Rattle.query_checks.specs.Sameness.{first_of_each}
use Rattle.query_checks.specs.Spelling.{canonical_item, canonical}
use Rattle.query_checks.specs.Arrangement.{checked_arrangement, arrangement_of, canonical_arrangement, CanBeArranged}
use Rattle.query_checks.specs.DistinctLaws.{all_distinct, distinct_again}
use Rattle.having_filter.specs.Kept.{IsTermOf}
use Rattle.std.proofs.lemmas.Bool.Decides.{nat_tests}
use Rattle.std.proofs.lemmas.Grind.{common_steps}

abbrev Named : Type 0
Named = Form (List ℕ) × Option (List ℕ)

-- ---- a term that means an item means one that is there

abbrev IsIn : ℕ → Option ℕ → Type 0
IsIn many None = Unit {0}
IsIn many (Some item) = item < many

position_in : (p : Named → Bool) (items : List Named) (found : Option ℕ) → position p items ≡ found → IsIn (length items) found
position_in p items None e = tt
position_in p items (Some item) e = (position-Some p items item (Column [], None) e).0

place_in : (many place : ℕ) (there : Bool) → (nat_le 1 place && nat_le place many) ≡ there → IsIn many (cond there (Some (place - 1)) None)
place_in many place true e = grind (arith, nat_tests, common_steps)
place_in many place false e = tt

at_in : (many : ℕ) (place : ℤ) → IsIn many (item_at many place)
at_in many (pos place) = place_in many place (nat_le 1 place && nat_le place many) refl
at_in many other = tt

meant_in : (items : List Named) (target : Target) → IsIn (length items) (item_meant items target)
meant_in items (By_name name) = position_in (has_name name) items (position (has_name name) items) refl
meant_in items (By_place place) = at_in (length items) place

abbrev IsTermIn : List Named → Option OrderTerm → Type 0
IsTermIn items None = Unit {0}
IsTermIn items (Some term) = IsTermOf items term

ordered_in : (items : List Named) (term : Term) (found : Option ℕ) → IsIn (length items) found
    → IsTermIn items (option_map (ordered_by term) found)
ordered_in items term None h = tt
ordered_in items term (Some item) h = record { within = h }

term_if : (items : List Named) (ambiguous : Bool) (found : Option OrderTerm) → IsTermIn items found
    → IsTermIn items (cond ambiguous None found)
term_if items true found h = tt
term_if items false found h = h

term_in : (items : List Named) (term : Term) → IsTermIn items (term_meant items term)
term_in items term = term_if items (is_ambiguous items term.target) (option_map (ordered_by term) (item_meant items term.target))
    (ordered_in items term (item_meant items term.target) (meant_in items term.target))

cons_in : (items : List Named) (found : Option OrderTerm) (terms : List OrderTerm) → IsTermIn items found
    → AllByRecursion (IsTermOf items) terms → AllByRecursion (IsTermOf items) (cons_option found terms)
cons_in items None terms h all = all
cons_in items (Some term) terms h all = (h, all)

terms_in : (items : List Named) (terms : List Term) → AllByRecursion (IsTermOf items) (filter_map (term_meant items) terms)
terms_in items [] = tt
terms_in items (term ∷ terms) = cons_in items (term_meant items term) (filter_map (term_meant items) terms) (term_in items term)
    (terms_in items terms)

pub order_in : (q : Asked) → AllByRecursion (IsTermOf q.written.items) (order_of q)
order_in q = all_distinct (IsTermOf q.written.items) same_item (filter_map (term_meant q.written.items) q.arrangement.order)
    (terms_in q.written.items q.arrangement.order)

-- the same of as many items
pub same_length : {A B : Type 0} (items : List A) (others : List B) → length items ≡ length others → (terms : List OrderTerm)
    → AllByRecursion (IsTermOf items) terms → AllByRecursion (IsTermOf others) terms
same_length items others e [] all = tt
same_length items others e (term ∷ terms) all = (
  record { within = subst (λ n. term.item < n) e all.0.within },
  same_length items others e
      terms all.1,
)

-- the place of one of so few items is a number that a text can have
place_fits : (many item : ℕ) → many ≤ MAX_ITEMS → item < many → FitsSigned w64 (pos (item + 1))
place_fits many item few h = omega (arith, ints, few, h)

terms_fit : {A : Type 0} (items : List A) → length items ≤ MAX_ITEMS → (terms : List OrderTerm) → AllByRecursion (IsTermOf items) terms
    → AllByRecursion IsTerm (map canonical_term terms)
terms_fit items few [] all = tt
terms_fit items few (term ∷ terms) all = (
  record { target = place_fits (length items) term.item few all.0.within },
  terms_fit items few
      terms all.1,
)

pub arrangement_fits : (q : Asked) → length q.written.items ≤ MAX_ITEMS → CanBeArranged (canonical_arrangement (arrangement_of q))
arrangement_fits q few = record { terms = terms_fit q.written.items few (order_of q) (order_in q) }

-- ---- a term by the place of its item means this item again

place_back : (many item : ℕ) → item < many → item_at many (pos (item + 1)) ≡ Some item
place_back many item h = grind (arith, nat_tests, common_steps)

term_back : (items : List Named) (term : OrderTerm) → IsTermOf items term → term_meant items (canonical_term term) ≡ Some term
term_back items term h = grind (arith, nat_tests, common_steps)

terms_back : (items : List Named) (terms : List OrderTerm) → AllByRecursion (IsTermOf items) terms
    → filter_map (term_meant items) (map canonical_term terms) ≡ terms
terms_back items [] all = refl
terms_back items (term ∷ terms) all = λ i. cons_option (term_back items term all.0 i) (terms_back items terms all.1 i)

there_back : (items : List Named) (terms : List OrderTerm) → AllByRecursion (IsTermOf items) terms
    → list_all (λ term. is_some (item_meant items term.target)) (map canonical_term terms) ≡ true
there_back items [] all = refl
there_back items (term ∷ terms) all = λ i. is_some (place_back (length items) term.item all.0.within i) && there_back items terms all.1 i

never_ambiguous : (items : List Named) (terms : List OrderTerm)
    → list_any (λ term. is_ambiguous items term.target) (map canonical_term terms) ≡ false
never_ambiguous items [] = refl
never_ambiguous items (term ∷ terms) = never_ambiguous items terms

-- ---- the canonical query

order_in_canonical : (q : Asked) → AllByRecursion (IsTermOf (map canonical_item q.written.items)) (order_of q)
order_in_canonical q = same_length q.written.items (map canonical_item q.written.items) (sym (length-map q.written.items canonical_item))
    (order_of q) (order_in q)

pub order_again : (q : Asked) → order_of (canonical q) ≡ order_of q
order_again q =
    ap (first_of_each same_item) (terms_back (map canonical_item q.written.items) (order_of q) (order_in_canonical q))
    ∙ distinct_again same_item (filter_map (term_meant q.written.items) q.arrangement.order)

pub arrangement_again : (q : Asked) → arrangement_of (canonical q) ≡ arrangement_of q
arrangement_again q = λ i. record { order = order_again q i }

pub names_again : (q : Asked) → names_items (canonical q) ≡ true
names_again q = there_back (map canonical_item q.written.items) (order_of q) (order_in_canonical q)

pub arranged_again : (q : Asked) → checked_arrangement (canonical q) ≡ Ok (arrangement_of q)
unfolding checked_arrangement
arranged_again q = rw (never_ambiguous (map canonical_item q.written.items) (order_of q))
    (ap (λ arrangement. Ok arrangement) (arrangement_again q))
