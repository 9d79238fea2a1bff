-- Parts of a run that come into segments.
use Rattle.std.specs.Prelude.{◌≡◌, refl, ℕ, ◌+◌, ◌-◌, ◌<◌, ◌≤◌, List, [], ◌∷◌, ◌++◌, length, take, drop, slice_set, slice_range}
use Rattle.std.proofs.Common.{sym, ◌∙◌, ap, subst, arith, append_assoc, append-nil}
use Rattle.std.proofs.lemmas.List.{take-append-drop, length-take, take_all}
use Rattle.std.proofs.lemmas.List.Folds.{drop_split}
use Rattle.std.proofs.Math.Seq.{take-add}
use Rattle.std.specs.List.{AllByRecursion}
use Rattle.group_runs.proofs.Words.{each_append, each_behind, each_front, each_weaker, Query, Entry, Rises, IsBelow, AddsRun, concatenated}
use Rattle.group_runs.proofs.Words.{AreBefore, ComeInto, replaced, AddSegments}
use Rattle.group_runs.specs.Places.{AllBelow}
use Rattle.group_runs.specs.PlaceLaws.{drop_at, take_found}
use Rattle.group_runs.proofs.PlaceLaws.{range_more}
use Rattle.group_runs.proofs.JoinLaws.{adds_both, adds_nothing, rises_before}
use Rattle.group_runs.proofs.SegmentLaws.{set_between, got_low, concatenated-append, concatenated-push, replaced_more}

-- ---- parts of lists

pub taken_parts : {X : Type 0} (xs : List X) (a b : ℕ) → a ≤ b → take b xs ≡ take a xs ++ slice_range xs a b
taken_parts xs a b low = let whole : b ≡ a + (b - a) = omega (arith, low) in ap (λ n. take n xs) whole ∙ take-add a (b - a) xs

-- parts of groups that are before others are before parts of these
pub before_front : (xs ys zs : List Entry) → AreBefore xs (ys ++ zs) → AreBefore xs ys
before_front xs ys zs before = each_front (λ (e : Entry). AllBelow e.0 xs) ys zs before

pub backs_before : (xs ys zs : List Entry) → AreBefore (xs ++ ys) zs → AreBefore ys zs
backs_before xs ys zs before = each_weaker (λ (e : Entry). AllBelow e.0 (xs ++ ys)) (λ (e : Entry). AllBelow e.0 ys)
    (λ e all. each_behind (IsBelow e.0) xs ys all) zs before

pub none_before : (ys : List Entry) → AreBefore [] ys
none_before [] = tt
none_before (e ∷ ys) = (tt, none_before ys)

range_front : (more : List Entry) (from to : ℕ) → from ≤ to → drop from more ≡ slice_range more from to ++ drop to more
range_front more from to low = drop_split more from to low

-- ---- a walk over the parts

-- the segments up to some place with the groups up to another
pub record Merges (q : Query) (segments : List (List Entry)) (more : List Entry) (first from : ℕ) (fresh : List (ℕ × List Entry)) :
    Type 0 where
  pub news : List (List Entry)
  pub is : (rest : List (List Entry)) → replaced fresh (take first segments ++ rest) ≡ news ++ rest
  pub there : AllByRecursion (λ (one : ℕ × List Entry). one.0 < length segments) fresh
  pub below : AreBefore (take from more) (concatenated (drop first segments))
  pub above : AreBefore (concatenated (take first segments)) (drop from more)
  pub added : AddsRun q (concatenated (take first segments)) (take from more) (concatenated news)
  pub left : from < length more → first < length segments
  pub within : from ≤ length more

pub merges_none : (q : Query) (segments : List (List Entry)) (more : List Entry) → 0 < length (concatenated segments)
    → Merges q segments more 0 0 []
merges_none q segments more some =
    record {
      news = [];
      is = λ rest. refl;
      there = tt;
      below = none_before (concatenated segments);
      above = none_before more;
      added = adds_nothing q [];
      left = λ low. some_segment segments some;
      within = omega arith;
    }
  where
    some_segment : (segments : List (List Entry)) → 0 < length (concatenated segments) → 0 < length segments
    some_segment [] some = absurd (omega (arith, some))
    some_segment (segment ∷ segments) some = omega arith

module _ (q : Query) (segments : List (List Entry)) (more : List Entry) (first from at to : ℕ) (fresh : List (ℕ × List Entry))
    (new : List Entry) (m : Merges q segments more first from fresh) (come : ComeInto segments first more from at to) where
  taken : take (at + 1) segments ≡ take first segments ++ (slice_range segments first at ++ come.segment ∷ [])
  taken =
      take_found segments at come.segment come.is
      ∙ ap (λ cs. cs ++ come.segment ∷ []) (taken_parts segments first at come.order)
      ∙ append_assoc (take first segments) (slice_range segments first at) (come.segment ∷ [])

  -- the segments that are there then
  news_are : (rest : List (List Entry)) → replaced (fresh ++ (at, new) ∷ []) (take (at + 1) segments ++ rest)
      ≡ (m.news ++ (slice_range segments first at ++ new ∷ [])) ++ rest
  news_are rest =
      let low = got_low segments at come.segment come.is in
      let long = length-take at segments in
      replaced_more fresh (at, new) (take (at + 1) segments ++ rest)
      ∙ ap (replaced fresh)
      (ap (λ cs. slice_set (cs ++ rest) at new) (take_found segments at come.segment come.is)
      ∙ ap (λ cs. slice_set cs at new) (append_assoc (take at segments) (come.segment ∷ []) rest)
      ∙ set_between (take at segments) rest come.segment new at (omega (arith, low, long))
      ∙ ap (λ cs. cs ++ new ∷ rest) (taken_parts segments first at come.order)
      ∙ append_assoc (take first segments) (slice_range segments first at) (new ∷ rest))
      ∙ m.is (slice_range segments first at ++ new ∷ rest)
      ∙ ap (λ cs. m.news ++ cs) (sym (append_assoc (slice_range segments first at) (new ∷ []) rest))
      ∙ sym (append_assoc m.news (slice_range segments first at ++ new ∷ []) rest)

  before_concatenated : concatenated (take at segments) ≡ concatenated (take first segments) ++ concatenated (slice_range segments first at)
  before_concatenated = ap concatenated (taken_parts segments first at come.order)
      ∙ concatenated-append (take first segments) (slice_range segments first at)

  middle_concatenated : (segment : List Entry) → concatenated (slice_range segments first at ++ segment ∷ [])
      ≡ concatenated (slice_range segments first at) ++ segment
  middle_concatenated segment = concatenated-push (slice_range segments first at) segment

  left_concatenated : concatenated (drop first segments) ≡ (concatenated (slice_range segments first at) ++ come.segment)
      ++ concatenated (drop (at + 1) segments)
  left_concatenated =
      let order = come.order in
      ap concatenated (drop_split segments first (at + 1) (omega (arith, order)))
      ∙ concatenated-append (slice_range segments first (at + 1)) (drop (at + 1) segments)
      ∙ ap (λ cs. concatenated cs ++ concatenated (drop (at + 1) segments)) range_is
      ∙ ap (λ es. es ++ concatenated (drop (at + 1) segments)) (middle_concatenated come.segment)
    where
      range_is : slice_range segments first (at + 1) ≡ slice_range segments first at ++ come.segment ∷ []
      range_is = range_more segments first at come.segment come.order (drop_at segments at come.segment come.is)

  pub merges_next : Rises more → AddsRun q come.segment (slice_range more from to) new
      → Merges q segments more (at + 1) to (fresh ++ (at, new) ∷ [])
  merges_next rises adds =
      let some = come.some in
      let split : drop from more ≡ slice_range more from to ++ drop to more = range_front more from to (omega (arith, some)) in
      let inner : AddsRun q (concatenated (slice_range segments first at) ++ come.segment) (slice_range more from to)
      (concatenated (slice_range segments first at) ++ new) =
      adds_both q (concatenated (slice_range segments first at)) [] (concatenated (slice_range segments first at)) come.segment
      (slice_range more from to) new
      (before_front (concatenated (slice_range segments first at)) (slice_range more from to) (drop to more)
      (subst (AreBefore (concatenated (slice_range segments first at))) split (backs_before (concatenated (take first segments))
      (concatenated (slice_range segments first at)) (drop from more) (subst (λ es. AreBefore es (drop from more)) before_concatenated
      come.before))))
      (none_before come.segment) (none_before (slice_range more from to)) (adds_nothing q (concatenated (slice_range segments first at)))
      adds in
      let outer : AddsRun q (concatenated (take first segments) ++ (concatenated (slice_range segments first at) ++ come.segment))
      (take from more ++ slice_range more from to) (concatenated m.news ++ (concatenated (slice_range segments first at) ++ new)) =
      adds_both q (concatenated (take first segments)) (take from more) (concatenated m.news) (concatenated (slice_range segments first at)
      ++ come.segment) (slice_range more from to) (concatenated (slice_range segments first at) ++ new)
      (before_front (concatenated (take first segments)) (slice_range more from to) (drop to more)
      (subst (AreBefore (concatenated (take first segments))) split m.above))
      (before_front (take from more) (concatenated (slice_range segments first at) ++ come.segment) (concatenated (drop (at + 1) segments))
      (subst (AreBefore (take from more)) left_concatenated m.below))
      (before_front (take from more) (slice_range more from to) (drop to more)
      (subst (AreBefore (take from more)) split
      (rises_before (take from more) (drop from more) (subst Rises (sym (take-append-drop from more)) rises))))
      m.added inner in
      let old : concatenated (take (at + 1) segments) ≡ concatenated (take first segments)
      ++ (concatenated (slice_range segments first at) ++ come.segment) =
      ap concatenated taken ∙ concatenated-append (take first segments) (slice_range segments first at ++ come.segment ∷ [])
      ∙ ap (λ es. concatenated (take first segments) ++ es) (middle_concatenated come.segment) in
      let made : concatenated (m.news ++ (slice_range segments first at ++ new ∷ [])) ≡ concatenated m.news
      ++ (concatenated (slice_range segments first at) ++ new) =
      concatenated-append m.news (slice_range segments first at ++ new ∷ [])
      ∙ ap (λ es. concatenated m.news ++ es) (middle_concatenated new) in
      let come_to : take to more ≡ take from more ++ slice_range more from to = taken_parts more from to (omega (arith, some)) in
      record {
        news = m.news ++ (slice_range segments first at ++ new ∷ []);
        is = news_are;
        there = each_append (λ (one : ℕ × List Entry). one.0 < length segments) fresh ((at, new) ∷ []) m.there
            (got_low segments at come.segment come.is, tt);
        below = come.behind;
        above = come.beyond;
        added = subst (λ es. AddsRun q es (take to more) (concatenated (m.news ++ (slice_range segments first at ++ new ∷ [])))) (sym old)
            (subst (λ es. AddsRun q (concatenated (take first segments) ++ (concatenated (slice_range segments first at) ++ come.segment))
            es (concatenated (m.news ++ (slice_range segments first at ++ new ∷ [])))) (sym come_to)
            (subst (AddsRun q (concatenated (take first segments) ++ (concatenated (slice_range segments first at) ++ come.segment))
            (take from more ++ slice_range more from to)) (sym made) outer));
        left = come.left;
        within = come.within;
      }

-- where all of the groups have come, the other segments stay
pub merges_end : (q : Query) (segments : List (List Entry)) (more : List Entry) (first from : ℕ) (fresh : List (ℕ × List Entry))
    → length more ≤ from → Merges q segments more first from fresh → AddSegments q segments more fresh
merges_end q segments more first from fresh past m =
    let rest : List Entry = concatenated (drop first segments) in
    let all : AddsRun q (concatenated (take first segments) ++ rest) (take from more ++ []) (concatenated m.news ++ rest) =
    adds_both q (concatenated (take first segments)) (take from more) (concatenated m.news) rest [] rest tt m.below tt m.added
    (adds_nothing q rest) in
    let old : concatenated (take first segments) ++ rest
    ≡ concatenated segments = sym (concatenated-append (take first segments) (drop first segments))
    ∙ ap concatenated (take-append-drop first segments) in
    let come : take from more ++ [] ≡ more = append-nil (take from more) ∙ take_all from more past in
    let made : concatenated m.news ++ rest ≡ concatenated (replaced fresh segments) =
    sym (concatenated-append m.news (drop first segments)) ∙ ap concatenated (sym (m.is (drop first segments))
    ∙ ap (replaced fresh) (take-append-drop first segments)) in
    record {
      there = m.there;
      added = subst (λ es. AddsRun q es more (concatenated (replaced fresh segments))) old
          (subst (λ es. AddsRun q (concatenated (take first segments) ++ rest) es (concatenated (replaced fresh segments))) come
          (subst (AddsRun q (concatenated (take first segments) ++ rest) (take from more ++ [])) made all));
    }
