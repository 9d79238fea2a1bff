use Rattle.std.specs.Prelude.{◌≡◌, ◌≢◌, ℕ, Bool, true, false, ◌||◌, List, [], ◌∷◌}
use Rattle.std.proofs.Common.{refl, sym, ap, ◌∙◌}
use Rattle.std.proofs.lemmas.Slice.Eq.{bytes_eq-Decides}
use Rattle.std.specs.List.{list_any, AllByRecursion}
use Rattle.std.specs.Str.{bytes_eq}
use Rattle.query_tokens.specs.Reserved.{is_reserved, reserved_words}
use Rattle.query_tokens.proofs.reserved.is_reserved.Goals as goal

no_test : (test : Bool) → (test ≡ true → ⊥) → test ≡ false
no_test true h = absurd (h refl)
no_test false h = refl

-- a name is none of some words if it differs from each
none_of : (name : List ℕ) (words : List (List ℕ)) → AllByRecursion (λ word. name ≢ word) words → list_any (bytes_eq name) words ≡ false
none_of name [] h = refl
none_of name (word ∷ words) h =
    ap (λ b. b || list_any (bytes_eq name) words) (no_test (bytes_eq name word) (λ e. h.0 ((bytes_eq-Decides name word).0 e)))
    ∙ none_of name words h.1

pub returns-in_default : goal.returns-in_default
unfolding is_reserved
returns-in_default c =
    let n = c.in_default in
    sym
    (none_of c.args.name.now reserved_words (
      n.not-and,
      (
        n.not-as,
        (
          n.not-asc,
          (
            n.not-by,
            (
              n.not-desc,
              (
                n.not-false,
                (
                  n.not-filter,
                  (
                    n.not-from,
                    (
                      n.not-group,
                      (
                        n.not-having,
                        (
                          n.not-is,
                          (
                            n.not-not,
                            (
                              n.not-null,
                              (
                                n.not-nulls,
                                (n.not-or, (n.not-order, (n.not-select, (n.not-true, (n.not-unknown, (n.not-where₀, tt)))))),
                              ),
                            ),
                          ),
                        ),
                      ),
                    ),
                  ),
                ),
              ),
            ),
          ),
        ),
      ),
    ))

pub returns-in-and : goal.returns-in-and
unfolding is_reserved
returns-in-and c = sym (ap is_reserved c.in-and.is-and)

pub returns-in-and-2 : goal.returns-in-and-2
unfolding is_reserved
returns-in-and-2 c = sym (ap is_reserved c.in-and.is-as)

pub returns-in-and-3 : goal.returns-in-and-3
unfolding is_reserved
returns-in-and-3 c = sym (ap is_reserved c.in-and.is-asc)

pub returns-in-and-4 : goal.returns-in-and-4
unfolding is_reserved
returns-in-and-4 c = sym (ap is_reserved c.in-and.is-by)

pub returns-in-and-5 : goal.returns-in-and-5
unfolding is_reserved
returns-in-and-5 c = sym (ap is_reserved c.in-and.is-desc)

pub returns-in-and-6 : goal.returns-in-and-6
unfolding is_reserved
returns-in-and-6 c = sym (ap is_reserved c.in-and.is-false)

pub returns-in-and-7 : goal.returns-in-and-7
unfolding is_reserved
returns-in-and-7 c = sym (ap is_reserved c.in-and.is-filter)

pub returns-in-and-8 : goal.returns-in-and-8
unfolding is_reserved
returns-in-and-8 c = sym (ap is_reserved c.in-and.is-from)

pub returns-in-and-9 : goal.returns-in-and-9
unfolding is_reserved
returns-in-and-9 c = sym (ap is_reserved c.in-and.is-group)

pub returns-in-and-10 : goal.returns-in-and-10
unfolding is_reserved
returns-in-and-10 c = sym (ap is_reserved c.in-and.is-having)

pub returns-in-and-11 : goal.returns-in-and-11
unfolding is_reserved
returns-in-and-11 c = sym (ap is_reserved c.in-and.is-is)

pub returns-in-and-12 : goal.returns-in-and-12
unfolding is_reserved
returns-in-and-12 c = sym (ap is_reserved c.in-and.is-not)

pub returns-in-and-13 : goal.returns-in-and-13
unfolding is_reserved
returns-in-and-13 c = sym (ap is_reserved c.in-and.is-null)

pub returns-in-and-14 : goal.returns-in-and-14
unfolding is_reserved
returns-in-and-14 c = sym (ap is_reserved c.in-and.is-nulls)

pub returns-in-and-15 : goal.returns-in-and-15
unfolding is_reserved
returns-in-and-15 c = sym (ap is_reserved c.in-and.is-or)

pub returns-in-and-16 : goal.returns-in-and-16
unfolding is_reserved
returns-in-and-16 c = sym (ap is_reserved c.in-and.is-order)

pub returns-in-and-17 : goal.returns-in-and-17
unfolding is_reserved
returns-in-and-17 c = sym (ap is_reserved c.in-and.is-select)

pub returns-in-and-18 : goal.returns-in-and-18
unfolding is_reserved
returns-in-and-18 c = sym (ap is_reserved c.in-and.is-true)

pub returns-in-and-19 : goal.returns-in-and-19
unfolding is_reserved
returns-in-and-19 c = sym (ap is_reserved c.in-and.is-unknown)

pub returns-in-and-20 : goal.returns-in-and-20
unfolding is_reserved
returns-in-and-20 c = sym (ap is_reserved c.in-and.is-where₀)
