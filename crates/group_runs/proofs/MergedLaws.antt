-- A group that came to its place in a merge.
use Rattle.std.specs.Prelude.{◌≡◌, ℕ, ◌+◌, ◌∷◌, ◌++◌, [], List, length, drop, slice_range}
use Rattle.std.proofs.Common.{sym, ◌∙◌, ap, subst, append_assoc, append-nil}
use Rattle.std.proofs.lemmas.List.{length-append}
use Rattle.group_runs.proofs.Words.{each_append, Query, functions, Entry, Rises, AreUpTo, AddsGroup, CombineWith}
use Rattle.group_runs.proofs.FlatLaws.{same_keys_rise}
use Rattle.group_runs.specs.Lemmas.PlaceLaws.{Moves, Passes, rises_between}
use Rattle.group_runs.proofs.RunLaws.{run_front_rises}
use Rattle.group_runs.proofs.PlaceLaws.{below_up_to, itself_up_to}
use Rattle.group_runs.proofs.SpliceLaws.{present_added, absent_added}

-- what holds of the groups that are done then, and of those that are left
pub record Merged (q : Query) (whole : List Entry) (key these : List ℕ) (run left : List Entry) : Type 0 where
  pub rises : Rises (run ++ left)
  pub up_to : AreUpTo key run
  pub added : AddsGroup q whole (key, these) (run ++ left)

-- the groups up to the key came to those that are done: its group is the last
pub long_there : (done old : List Entry) (from place : ℕ) (key : List ℕ) (run : List Entry) (n : ℕ) (here : Moves done old from place key)
    → run ≡ done ++ slice_range old from (place + 1) → n ≡ length run → n ≡ length (done ++ slice_range old from place) + 1
long_there done old from place key run n here is long = long ∙ ap length (is ∙ here.front)
    ∙ length-append (done ++ slice_range old from place) ((key, here.states) ∷ [])

-- a group of its key was there, and these states were combined with its own
pub merged_there : (q : Query) (done old : List Entry) (from place : ℕ) (key these new : List ℕ) (run : List Entry)
    (here : Moves done old from place key) → Rises (done ++ drop from old)
    → run ≡ (done ++ slice_range old from place) ++ (key, new) ∷ [] → CombineWith (functions q) here.states these new
    → Merged q (done ++ drop from old) key these run (drop (place + 1) old)
merged_there q done old from place key these new run here rises is combine =
    let front : List Entry = done ++ slice_range old from place in
    let left : List Entry = drop (place + 1) old in
    let whole : run ++ left ≡ front ++ (key, new) ∷ left = ap (λ es. es ++ left) is ∙ append_assoc front ((key, new) ∷ []) left in
    record {
      rises = subst Rises (sym whole) (same_keys_rise front key here.states new left (subst Rises here.whole rises));
      up_to = subst (AreUpTo key) (sym is) (each_append _ front ((key, new) ∷ []) (below_up_to key front here.below)
          (itself_up_to key, tt));
      added = subst (AddsGroup q (done ++ drop from old) (key, these)) (sym whole)
          (subst (λ es. AddsGroup q es (key, these) (front ++ (key, new) ∷ left)) (sym here.whole)
          (present_added q key here.states these new front left here.below combine));
    }

-- there was none, and it comes behind those below it
pub pushed_rises : (done old : List Entry) (from place : ℕ) (key these : List ℕ) (run : List Entry) (here : Passes done old from place key)
    → Rises (done ++ drop from old)
    → run ≡ done ++ slice_range old from place → Rises (run ++ (key, these) ∷ [])
pushed_rises done old from place key these run here rises is =
    let front : List Entry = done ++ slice_range old from place in
    let below : Rises front = run_front_rises front (drop place old) (subst Rises here.whole rises) in
    subst (λ run. Rises (run ++ (key, these) ∷ [])) (sym is) (rises_between front [] key these (subst Rises (sym (append-nil front)) below)
    here.below tt)

-- there was none, and it is new
pub merged_new : (q : Query) (done old : List Entry) (from place : ℕ) (key these : List ℕ) (run : List Entry)
    (here : Passes done old from place key) → Rises (done ++ drop from old)
    → run ≡ (done ++ slice_range old from place) ++ (key, these) ∷ [] → Merged q (done ++ drop from old) key these run (drop place old)
merged_new q done old from place key these run here rises is =
    let front : List Entry = done ++ slice_range old from place in
    let left : List Entry = drop place old in
    let whole : run ++ left ≡ front ++ (key, these) ∷ left = ap (λ es. es ++ left) is ∙ append_assoc front ((key, these) ∷ []) left in
    record {
      rises = subst Rises (sym whole) (rises_between front left key these (subst Rises here.whole rises) here.below here.above);
      up_to = subst (AreUpTo key) (sym is) (each_append _ front ((key, these) ∷ []) (below_up_to key front here.below)
          (itself_up_to key, tt));
      added = subst (AddsGroup q (done ++ drop from old) (key, these)) (sym whole)
          (subst (λ es. AddsGroup q es (key, these) (front ++ (key, these) ∷ left)) (sym here.whole)
          (absent_added q key these front left here.below here.above));
    }
