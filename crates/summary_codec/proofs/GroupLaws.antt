-- Groups of a file.
use Rattle.std.proofs.Common.{◌≡◌, ℕ, ◌-◌, List, [], ◌∷◌, ◌++◌, length, slice_get, Some, sym, ap, subst, ◌∙◌, option_map}
use Rattle.std.proofs.lemmas.List.{length-map, map-append}
use Rattle.std.proofs.lemmas.Option.{slice_get-map}
use Rattle.std.specs.List.Sorted.{IsStrictlySortedBy}
use Rattle.std.specs.Ordering.{nat_cmp}
use Rattle.std.specs.Cmp.Lexicographic.{slice_cmp}
use Rattle.group_runs.specs.Runs.{Entry, Rises, packed_keys}
use Rattle.group_runs.specs.PlaceLaws.{key_total}
use Rattle.summary_codec.specs.Reading.{IsNext}
use Rattle.summary_codec.specs.Lemmas.RisingLaws.{rises_next}

-- the last key of a run
pub last_key : (run : List Entry) (n : ℕ) (key states : List ℕ) → n ≡ length run - 1 → slice_get run n ≡ Some (key, states)
    → slice_get (packed_keys run) (length (packed_keys run) - 1) ≡ Some key
last_key run n key states last there =
    ap (λ k. slice_get (packed_keys run) (k - 1)) (length-map run (λ (e : Entry). e.0))
    ∙ ap (slice_get (packed_keys run)) (sym last)
    ∙ slice_get-map (λ (e : Entry). e.0) run n
    ∙ ap (option_map (λ (e : Entry). e.0)) there

pub run_rises : (run : List Entry) (key states : List ℕ) → Rises run → IsNext (slice_cmp nat_cmp) (packed_keys run) key
    → Rises (run ++ (key, states) ∷ [])
run_rises run key states rises above =
    subst (IsStrictlySortedBy (slice_cmp nat_cmp)) (sym (map-append (λ (e : Entry). e.0) run ((key, states) ∷ [])))
    (rises_next (slice_cmp nat_cmp) key_total (packed_keys run) key rises above)
