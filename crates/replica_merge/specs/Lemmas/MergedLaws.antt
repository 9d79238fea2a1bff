-- What a replica holds and tells after a merge.
use Rattle.std.specs.Prelude.{◌≡◌, ◌≢◌, refl, ℕ, ◌<◌, ◌⊎◌, ◌||◌, nat_eq, Bool, true, false, cond, [], ◌∷◌, ◌++◌, length, Option}
use Rattle.std.specs.Prelude.{Some, None, option_map, unwrap_or, if◌then◌else◌, IsTrue}
use Rattle.std.proofs.Common.{◌∙◌, sym, ap, subst, inl, inr, arith}
use Rattle.std.proofs.lemmas.Bool.{true≢false, or_right}
use Rattle.std.proofs.Math.Bool.{or-false}
use Rattle.std.specs.Option.{is_some}
use Rattle.std.specs.List.Sorted.{IsStrictlySortedBy}
use Rattle.std.specs.BTreeMap.{BTreeMap, insert_entry, WritesThrough}
use Rattle.std.specs.Ordering.{eq_by_cmp, nat_cmp}
use Rattle.replica_merge.specs.Lemmas.Words.{World, IsWorld, union, Query, kinds, Checked, meaning, Part, empty, tells}
use Rattle.replica_merge.specs.Lemmas.Words.{IsPartOf}
use Rattle.replica_merge.specs.Lemmas.Words.{either, Joins, PartsDisagree, DisagreeAt, JoinTells, JoinIsCounted, OriginDisagrees}
use Rattle.replica_merge.specs.Lemmas.Words.{StaysJoined}
use Rattle.replica_merge.specs.Lemmas.Words.{FitsOrigin}
use Rattle.replica_merge.specs.Lemmas.Words.{Parts, part_at, part_of, told, Fits, IsHeldPart, AreHeldParts, AsideAt, JoinedAside, JoinsAt}
use Rattle.replica_merge.specs.Lemmas.Words.{MergesParts, StandsAside}
use Rattle.replica_merge.specs.Lemmas.Words.{DisagreeSomewhere, IsFirstRefused, filled, MergeIsCounted}
use Rattle.origin_prefix.specs.Parts.{Batches}
use Rattle.origin_prefix.specs.Joins.{gaining, settled, with_rows}
use Rattle.grouping_model.specs.KnowledgeLaws.{same_knowledge, knows_union}
use Rattle.aggregation_cost.specs.Space.{Setting}
use Rattle.hash_agg.specs.declared.work.Work.{Work}
use Rattle.origin_prefix.specs.declared.error.JoinError.{JoinError}
use Rattle.origin_prefix.specs.Lemmas.Lists.{is_itself, is_other, same_or_other}
use Rattle.origin_prefix.specs.Lemmas.ByNumber.{numbers, at, at_head, behind_head, none_found, above_first, all_found, put_same, put_else}
use Rattle.origin_prefix.specs.Lemmas.ByNumber.{first_alone, some_is}
use Rattle.origin_prefix.specs.Lemmas.TellingLaws.{joined_tells}
use Rattle.origin_prefix.specs.Lemmas.FittingLaws.{fits_joined, agrees_joined}
use Rattle.replica_merge.specs.Lemmas.ToldLaws.{held_part}
use Rattle.replica_merge.specs.Lemmas.ToldLaws.{told_is, some_told, empty_tells, part_here}
use Rattle.replica_merge.specs.Lemmas.DeliveredLaws.{part_is, some_if_tells}

-- what stands aside of an origin while some of the other's parts are left
abbrev pub JoinedSoFar : (honest : Bool) → Checked → Part → Option Part → Option Part → Option Part → Option Part → Type 0
JoinedSoFar honest query own old theirs None new = AsideAt honest query own old theirs new
JoinedSoFar honest query own old theirs (Some left) new = (theirs ≡ Some left) × (new ≡ option_map (λ (_ : Part). empty) old)

-- ---- places

-- a place more
pub placed : (old rest : Parts) (n : ℕ) (p : Part) (all : Option Part) (o : ℕ)
    → either (part_at old o) (option_map (λ (_ : Part). empty) (part_at ((n, p) ∷ rest) o)) ≡ option_map (λ (_ : Part). empty) all
    → either (part_at (insert_entry nat_cmp old n empty) o) (option_map (λ (_ : Part). empty) (part_at rest o))
    ≡ option_map (λ (_ : Part). empty) all
placed old rest n p all o before = go (same_or_other o n)
  where
    is_empty : (x : Option Part) (all : Option Part) → either x (Some empty) ≡ option_map (λ (_ : Part). empty) all → Some empty
        ≡ option_map (λ (_ : Part). empty) all
    is_empty x (Some q) e = refl
    is_empty None None e = e
    is_empty (Some q) None e = absurd (true≢false (ap is_some e))

    go : (o ≡ n) ⊎ (o ≢ n) → either (part_at (insert_entry nat_cmp old n empty) o) (option_map (λ (_ : Part). empty) (part_at rest o))
        ≡ option_map (λ (_ : Part). empty) all
    go (inl same) =
        let here : part_at ((n, p) ∷ rest) o ≡ Some p = ap (part_at ((n, p) ∷ rest)) same ∙ at_head n p rest in
        let put : part_at (insert_entry nat_cmp old n empty) o ≡ Some empty = ap (part_at (insert_entry nat_cmp old n empty)) same
        ∙ put_same old n empty in
        ap (λ x. either x (option_map (λ (_ : Part). empty) (part_at rest o))) put
        ∙ is_empty (part_at old o) all (sym (ap (λ x. either (part_at old o) (option_map (λ (_ : Part). empty) x)) here) ∙ before)
    go (inr other) =
        (λ i. either (put_else old n empty o other i) (option_map (λ (_ : Part). empty) (part_at rest o)))
        ∙ ap (λ x. either (part_at old o) (option_map (λ (_ : Part). empty) x)) (sym (behind_head o n p rest other))
        ∙ before

-- ---- joining

-- where nothing was held, what stands aside is what is held
kept_alone : (places : Batches) → with_rows [] places ≡ places
kept_alone [] = refl
kept_alone (place ∷ places) = ap (λ rest. place ∷ rest) (kept_alone places)

settled_none : (aside : Part) → (aside.prefix ≡ 0 → aside.run ≡ []) → settled empty aside ≡ aside
settled_none aside groups =
    elim (nat_eq aside.prefix 0) as (λ b. nat_eq aside.prefix 0 ≡ b → (if b then gaining empty aside else aside) ≡ aside) [
      | true ↦ λ e.
          let none : aside.prefix ≡ 0 = grind arith in
          λ i. record { prefix = sym none i; run = sym (groups none) i; early = early i }
      | false ↦ λ e. refl
    ] refl
  where
    no_batches : (batches : Batches) → length batches ≡ 0 → [] ≡ batches
    no_batches [] e = refl
    no_batches (b ∷ batches) e = absurd (omega (arith, e))

    early : (if nat_eq (length aside.early) 0 then [] else with_rows [] aside.early) ≡ aside.early
    early = elim (nat_eq (length aside.early) 0) as (λ b. nat_eq (length aside.early) 0 ≡ b
        → (if b then [] else with_rows [] aside.early) ≡ aside.early) [
          | true ↦ λ e. no_batches aside.early (grind arith)
          | false ↦ λ e. kept_alone aside.early
        ] refl

-- the own part, if there is one, becomes what is joined
stands_aside : (mine : Option Part) (aside : Part) → (aside.prefix ≡ 0 → aside.run ≡ [])
    → StandsAside mine (Some aside) (settled (unwrap_or mine empty) aside)
stands_aside None aside groups = ap Some (sym (settled_none aside groups))
stands_aside (Some mine) aside groups = refl

-- one origin more was joined
pub joined_more : (honest : Bool) (query : Checked) (own old_parts theirs_all old rest : Parts) (n : ℕ) (p new : Part)
    → IsStrictlySortedBy nat_cmp (numbers ((n, p) ∷ rest))
    → Joins honest (meaning query) (part_of own n) p (settled (part_of own n) new) → IsPartOf query (settled (part_of own n) new)
    → (new.prefix ≡ 0 → new.run ≡ []) → ¬ (PartsDisagree (part_of own n) p)
    → (o : ℕ) → JoinedSoFar honest query (part_of own o) (part_at own o) (part_at theirs_all o) (part_at ((n, p) ∷ rest) o) (part_at old o)
    → JoinedSoFar honest query (part_of own o) (part_at own o) (part_at theirs_all o) (part_at rest o)
    (part_at (insert_entry nat_cmp old n new) o)
joined_more honest query own old_parts all old rest n p new rising joins is groups agree o before = go (same_or_other o n)
  where
    at_one : (all_o : Option Part) → all_o ≡ Some p → JoinedSoFar honest query (part_of own n) (part_at own n) all_o None (Some new)
    at_one None e = absurd (true≢false (sym (ap is_some e)))
    at_one (Some q) e = (
      settled (part_of own n) new,
      stands_aside (part_at own n) new groups,
      subst (λ (t : Part). Joins honest (meaning query) (part_of own n) t (settled (part_of own n) new)) new_is joins,
      is,
      λ d. agree
          (subst (PartsDisagree (part_of own n)) (sym new_is) d),
    )
      where
        new_is : p ≡ q
        new_is = some_is p q (sym e)

    here : JoinedSoFar honest query (part_of own n) (part_at own n) (part_at all n) (Some p) (part_at old n)
        → JoinedSoFar honest query (part_of own n) (part_at own n) (part_at all n) (part_at rest n)
        (part_at (insert_entry nat_cmp old n new) n)
    here had =
        subst (λ left. JoinedSoFar honest query (part_of own n) (part_at own n) (part_at all n) left
        (part_at (insert_entry nat_cmp old n new) n)) (sym (first_alone n p rest rising))
        (subst (λ found. JoinedSoFar honest query (part_of own n) (part_at own n) (part_at all n) None found) (sym (put_same old n new))
        (at_one (part_at all n) had.0))

    go : (o ≡ n) ⊎ (o ≢ n) → JoinedSoFar honest query (part_of own o) (part_at own o) (part_at all o) (part_at rest o)
        (part_at (insert_entry nat_cmp old n new) o)
    go (inl same) =
        subst (λ k. JoinedSoFar honest query (part_of own k) (part_at own k) (part_at all k) (part_at rest k)
        (part_at (insert_entry nat_cmp old n new) k)) (sym same)
        (here (subst (λ left. JoinedSoFar honest query (part_of own n) (part_at own n) (part_at all n) left (part_at old n))
        (at_head n p rest)
        (subst (λ k. JoinedSoFar honest query (part_of own k) (part_at own k) (part_at all k) (part_at ((n, p) ∷ rest) k) (part_at old k))
        same before)))
    go (inr other) =
        subst (λ found. JoinedSoFar honest query (part_of own o) (part_at own o) (part_at all o) (part_at rest o) found)
        (sym (put_else old n new o other))
        (subst (λ left. JoinedSoFar honest query (part_of own o) (part_at own o) (part_at all o) left (part_at old o))
        (behind_head o n p rest other) before)

-- one origin more whose own part stays, since it includes the other's: it has its place
pub stays_more : (honest : Bool) (query : Checked) (own theirs_all old rest : Parts) (n : ℕ) (p mine : Part)
    → IsStrictlySortedBy nat_cmp (numbers ((n, p) ∷ rest))
    → part_at own n ≡ Some mine → IsPartOf query mine → StaysJoined query mine p
    → (o : ℕ) → JoinedSoFar honest query (part_of own o) (part_at own o) (part_at theirs_all o) (part_at ((n, p) ∷ rest) o) (part_at old o)
    → JoinedSoFar honest query (part_of own o) (part_at own o) (part_at theirs_all o) (part_at rest o) (part_at old o)
stays_more honest query own all old rest n p mine rising own_is is stays o before = go (same_or_other o n)
  where
    mine_is : mine ≡ part_of own n
    mine_is = sym (ap (λ found. unwrap_or found empty) own_is)

    aside : AsideAt honest query (part_of own n) (part_at own n) (Some p) (Some empty)
    aside = subst (λ (t : Part). AsideAt honest query t (part_at own n) (Some p) (Some empty)) mine_is (
      mine,
      ap (filled (Some empty)) own_is,
      stays.joins honest,
      is,
      stays.agree,
    )

    here : JoinedSoFar honest query (part_of own n) (part_at own n) (part_at all n) (Some p) (part_at old n)
        → JoinedSoFar honest query (part_of own n) (part_at own n) (part_at all n) (part_at rest n) (part_at old n)
    here had =
        subst (λ left. JoinedSoFar honest query (part_of own n) (part_at own n) (part_at all n) left (part_at old n))
        (sym (first_alone n p rest rising))
        (subst (λ found. AsideAt honest query (part_of own n) (part_at own n) found (part_at old n)) (sym had.0)
        (subst (λ place. AsideAt honest query (part_of own n) (part_at own n) (Some p) place)
        (sym (had.1 ∙ ap (option_map (λ (_ : Part). empty)) own_is)) aside))

    go : (o ≡ n) ⊎ (o ≢ n) → JoinedSoFar honest query (part_of own o) (part_at own o) (part_at all o) (part_at rest o) (part_at old o)
    go (inl same) =
        subst (λ k. JoinedSoFar honest query (part_of own k) (part_at own k) (part_at all k) (part_at rest k) (part_at old k)) (sym same)
        (here (subst (λ left. JoinedSoFar honest query (part_of own n) (part_at own n) (part_at all n) left (part_at old n))
        (at_head n p rest)
        (subst (λ k. JoinedSoFar honest query (part_of own k) (part_at own k) (part_at all k) (part_at ((n, p) ∷ rest) k) (part_at old k))
        same before)))
    go (inr other) =
        subst (λ left. JoinedSoFar honest query (part_of own o) (part_at own o) (part_at all o) left (part_at old o))
        (behind_head o n p rest other) before

-- the parts of an origin are not joined, and those of all lower ones were
pub found_refused : (honest : Bool) (query : Checked) (own all old : Parts) (n : ℕ) (p : Part) (rest : Parts) (why : JoinError)
    → IsStrictlySortedBy nat_cmp (numbers ((n, p) ∷ rest))
    → ((o : ℕ) → JoinedSoFar honest query (part_of own o) (part_at own o) (part_at all o) (part_at ((n, p) ∷ rest) o) (part_at old o))
    → JoinTells why (part_of own n) p → IsFirstRefused own all n why
found_refused honest query own all old n p rest why rising before tells =
    record {
      part = p;
      there = (subst (λ left. JoinedSoFar honest query (part_of own n) (part_at own n) (part_at all n) left (part_at old n))
          (at_head n p rest) (before n)).0;
      tells = tells;
      below = λ lower low other there d.
          let apart : lower ≢ n = λ same. omega (arith, low, same) in
          let none : part_at rest lower ≡ None = none_found (λ (e : ℕ × Part). n < e.0) rest lower (above_first n p rest rising)
          (λ x high. omega (arith, low, high)) in
          let aside : AsideAt honest query (part_of own lower) (part_at own lower) (part_at all lower) (part_at old lower) =
          subst (λ left. JoinedSoFar honest query (part_of own lower) (part_at own lower) (part_at all lower) left (part_at old lower))
          (behind_head lower n p rest apart ∙ none) (before lower) in
          (subst (λ found. AsideAt honest query (part_of own lower) (part_at own lower) found (part_at old lower)) there aside).4 d;
    }

-- ---- putting back

-- a part was put back
pub back_at : (old rest : Parts) (n : ℕ) (p : Part) (new : Parts) → IsStrictlySortedBy nat_cmp (numbers ((n, p) ∷ rest))
    → ((o : ℕ) → part_at new o ≡ cond (eq_by_cmp nat_cmp o n) (filled (part_at old o) (Some p)) (part_at old o))
    → (o : ℕ) → filled (part_at new o) (part_at rest o) ≡ filled (part_at old o) (part_at ((n, p) ∷ rest) o)
back_at old rest n p new rising put o = go (same_or_other o n)
  where
    drained : (x : Option Part) → filled (filled x (Some p)) None ≡ filled x (Some p)
    drained None = refl
    drained (Some q) = refl

    go : (o ≡ n) ⊎ (o ≢ n) → filled (part_at new o) (part_at rest o) ≡ filled (part_at old o) (part_at ((n, p) ∷ rest) o)
    go (inl same) =
        subst (λ k. filled (part_at new k) (part_at rest k) ≡ filled (part_at old k) (part_at ((n, p) ∷ rest) k)) (sym same)
        ((λ i. filled ((put n ∙ ap (λ b. cond b (filled (part_at old n) (Some p)) (part_at old n)) (is_itself n)) i)
        (first_alone n p rest rising i))
        ∙ drained (part_at old n)
        ∙ sym (ap (filled (part_at old n)) (at_head n p rest)))
    go (inr other) =
        (λ i. filled ((put o ∙ ap (λ b. cond b (filled (part_at old o) (Some p)) (part_at old o)) (is_other o n other)) i) (part_at rest o))
        ∙ ap (filled (part_at old o)) (sym (behind_head o n p rest other))

-- what a place holds after something was written through it, or nothing
pub written_at : (old new : BTreeMap ℕ Part) (n : ℕ) (before after : Part) (p : Part) → part_at old.entries n ≡ Some before
    → WritesThrough nat_cmp (nat_cmp n) old after new
    → Some after ≡ filled (Some before) (Some p) → (o : ℕ) → part_at new.entries o
    ≡ cond (eq_by_cmp nat_cmp o n) (filled (part_at old.entries o) (Some p)) (part_at old.entries o)
written_at old new n before after p there written is o = go (same_or_other o n)
  where
    go : (o ≡ n) ⊎ (o ≢ n) → part_at new.entries o ≡ cond (eq_by_cmp nat_cmp o n) (filled (part_at old.entries o) (Some p))
        (part_at old.entries o)
    go (inl same) =
        subst (λ k. part_at new.entries k ≡ cond (eq_by_cmp nat_cmp k n) (filled (part_at old.entries k) (Some p)) (part_at old.entries k))
        (sym same)
        ((written.3 (ap is_some there)).1 ∙ is
        ∙ sym (ap (λ b. cond b (filled (part_at old.entries n) (Some p)) (part_at old.entries n)) (is_itself n)
        ∙ ap (λ x. filled x (Some p)) there))
    go (inr other) =
        (written.3 (ap is_some there)).2 o (is_other n o (λ e. other (sym e)))
        ∙ sym (ap (λ b. cond b (filled (part_at old.entries o) (Some p)) (part_at old.entries o)) (is_other o n other))

-- ---- the whole merge

-- parts that are joined with one that tells something tell something
some_joined : (honest : Bool) (query : Checked) (own theirs new : Part) (o : ℕ) → IsPartOf query own → IsHeldPart query (o, theirs)
    → Joins honest (meaning query) own theirs new → (0 < new.prefix) ⊎ (new.early ≢ [])
some_joined honest query own theirs new o is held joins =
    let some = some_told query o theirs held in
    some_if_tells new some.0 (joined_tells honest query (meaning query) own theirs new is held.part joins some.0
    ∙ or_right (tells own some.0) (tells theirs some.0) some.2)

-- what is told after a merge
merges_tells : (honest : Bool) (query : Checked) (old other new : Parts) → AreHeldParts query old → AreHeldParts query other
    → MergesParts honest query old other new
    → (o n : ℕ) → tells (part_of new o) n ≡ (tells (part_of old o) n || tells (part_of other o) n)
merges_tells honest query old other new held theirs merges o n = go (part_at other o) refl (merges o)
  where
    go : (found : Option Part) → part_at other o ≡ found → JoinsAt honest query (part_of old o) (part_at old o) found (part_at new o)
        → tells (part_of new o) n ≡ (tells (part_of old o) n || tells (unwrap_or (part_at other o) empty) n)
    go None e at =
        ap (λ x. tells (unwrap_or x empty) n) at ∙ sym (or-false (tells (part_of old o) n))
        ∙ sym (ap (λ b. tells (part_of old o) n || b) (ap (λ x. tells (unwrap_or x empty) n) e ∙ empty_tells n))
    go (Some t) e at =
        ap (λ x. tells (unwrap_or x empty) n) at.1
        ∙ joined_tells honest query (meaning query) (part_of old o) t at.0 (part_is query old held o)
        (held_part query other theirs o t e).part at.2 n
        ∙ sym (ap (λ x. tells (part_of old o) n || tells (unwrap_or x empty) n) e)

pub merges_told : (honest : Bool) (query : Checked) (old other new : Parts) → AreHeldParts query old → AreHeldParts query other
    → IsStrictlySortedBy nat_cmp (numbers new) → MergesParts honest query old other new → told new ≡ union (told old) (told other)
merges_told honest query old other new held theirs rising merges =
    same_knowledge (told new) (union (told old) (told other)) (λ batch.
    told_is new rising batch.0 batch.1 ∙ merges_tells honest query old other new held theirs merges batch.0 batch.1
    ∙ sym (knows_union (told old) (told other) batch
    ∙ (λ i. told_is old held.rising batch.0 batch.1 i || told_is other theirs.rising batch.0 batch.1 i)))

-- it fits each world that both fitted
pub merges_fit : (honest : Bool) → IsTrue honest → (query : Checked) (old other new : Parts) → MergesParts honest query old other new
    → (world : World) → IsWorld (kinds query.columns) world
    → Fits world (record { query = query; parts = old }) → Fits world (record { query = query; parts = other })
    → Fits world (record { query = query; parts = new })
merges_fit honest so query old other new merges world is fits fits_other o = go (part_at other o) refl (merges o)
  where
    go : (found : Option Part) → part_at other o ≡ found → JoinsAt honest query (part_of old o) (part_at old o) found (part_at new o)
        → FitsOrigin (meaning query) world o (part_of new o)
    go None e at = subst (λ x. FitsOrigin (meaning query) world o (unwrap_or x empty)) (sym at) (fits o)
    go (Some t) e at =
        subst (λ x. FitsOrigin (meaning query) world o (unwrap_or x empty)) (sym at.1)
        (fits_joined honest so query world is o (part_of old o) t at.0 (fits o)
        (subst (FitsOrigin (meaning query) world o) (part_here other o t e) (fits_other o)) at.2)

module _ (honest : Bool) (query : Checked) (old other joined new : Parts) (held : AreHeldParts query old)
    (theirs : AreHeldParts query other) (aside : JoinedAside honest query old other joined)
    (back : (o : ℕ) → part_at new o ≡ filled (part_at joined o) (part_at old o)) where
  own_back : (mine : Option Part) → filled (option_map (λ (_ : Part). empty) mine) mine ≡ mine
  own_back None = refl
  own_back (Some p) = refl

  merges_at : (o : ℕ) → JoinsAt honest query (part_of old o) (part_at old o) (part_at other o) (part_at new o)
  merges_at o = go (part_at other o) refl (aside.at o)
    where
      go : (found : Option Part) → part_at other o ≡ found → AsideAt honest query (part_of old o) (part_at old o) found (part_at joined o)
          → JoinsAt honest query (part_of old o) (part_at old o) found (part_at new o)
      go None e at = back o ∙ ap (λ x. filled x (part_at old o)) at ∙ own_back (part_at old o)
      go (Some t) e at = (
        at.0,
        back o ∙ at.1,
        at.2,
      )

  pub merges : MergesParts honest query old other new
  merges = merges_at

  pub merged_held : IsStrictlySortedBy nat_cmp (numbers new) → AreHeldParts query new
  merged_held rising =
      record {
        rising = rising;
        each = all_found (IsHeldPart query) new rising
            (λ o p there. go o p there (part_at other o) refl (aside.at o));
      }
    where
      go : (o : ℕ) (p : Part) → part_at new o ≡ Some p → (found : Option Part) → part_at other o ≡ found
          → AsideAt honest query (part_of old o) (part_at old o) found (part_at joined o) → IsHeldPart query (o, p)
      go o p there None e at = held_part query old held o p (sym (back o ∙ ap (λ x. filled x (part_at old o)) at ∙ own_back (part_at old o))
          ∙ there)
      go o p there (Some t) e at =
          let h : IsHeldPart query (o, t) = held_part query other theirs o t e in
          let some = some_joined honest query (part_of old o) t at.0 o (part_is query old held o) h at.2 in
          let is : at.0 ≡ p = some_is at.0 p (sym (back o ∙ at.1) ∙ there) in
          subst (λ q. IsHeldPart query (o, q)) is (record { within = h.within; part = at.3; some = some })

  pub merged_told : IsStrictlySortedBy nat_cmp (numbers new) → told new ≡ union (told old) (told other)
  merged_told rising = merges_told honest query old other new held theirs rising merges_at

  pub merged_fits : IsTrue honest → (world : World) → IsWorld (kinds query.columns) world
      → Fits world (record { query = query; parts = old }) → Fits world (record { query = query; parts = other })
      → Fits world (record { query = query; parts = new })
  merged_fits so world is fits fits_other = merges_fit honest so query old other new merges_at world is fits fits_other

-- where there are joined parts aside of each origin, none disagree
pub aside_agree : (honest : Bool) (query : Checked) (old other joined : Parts) → JoinedAside honest query old other joined
    → ¬ (DisagreeSomewhere old other)
aside_agree honest query old other joined aside d =
    (subst (λ found. AsideAt honest query (part_of old d.origin) (part_at old d.origin) found (part_at joined d.origin)) d.there
    (aside.at d.origin)).4 d.parts

-- replicas that fit one world never disagree
pub never_refused : (query : Checked) (own theirs : Parts) (origin : ℕ) (number : Option ℕ)
    → IsFirstRefused own theirs origin (OriginDisagrees number)
    → (world : World) → Fits world (record { query = query; parts = own }) → Fits world (record { query = query; parts = theirs }) → ⊥
never_refused query own theirs origin number d world fits fits_other =
    absurd (agrees_joined (meaning query) world origin (part_of own origin) d.part (fits origin)
    (subst (FitsOrigin (meaning query) world origin) (part_here theirs origin d.part d.there) (fits_other origin)) (go number d.tells))
  where
    go : (told : Option ℕ) → DisagreeAt told (part_of own origin) d.part → PartsDisagree (part_of own origin) d.part
    go None groups = inl groups
    go (Some n) first = inr (n, first.1.0)

-- one part more is joined and counted
pub counted_more : (own front : Parts) (held : ℕ × Part) (query : Query) (setting : Setting) (old : Work) (writes : ℕ) (work : Work)
    (pages : ℕ) (new : Work) (written : ℕ)
    → MergeIsCounted own front query setting old writes work pages → JoinIsCounted (part_of own held.0) held.1 query setting work pages new
    written
    → MergeIsCounted own (front ++ (held ∷ [])) query setting old writes new written
counted_more own [] held query setting old writes work pages new written (same, none) joined = (
  new,
  written,
  subst (λ (w : Work). JoinIsCounted (part_of own held.0) held.1 query setting w writes new written) same
      (subst (λ (n : ℕ). JoinIsCounted (part_of own held.0) held.1 query setting work n new written) none joined),
  (refl, refl),
)
counted_more own (first ∷ front) held query setting old writes work pages new written (one, mid, counted, rest) joined =
    (one, mid, counted, counted_more own front held query setting one mid work pages new written rest joined)
