-- The groups of a run that rises have rising keys.
use Rattle.std.specs.Prelude.{ℕ, List}
use Rattle.std.proofs.Common.{subst}
use Rattle.std.specs.List.Sorted.{IsStrictlySortedBy}
use Rattle.grouping_model.specs.Datum.{row_cmp}
use Rattle.grouping_model.specs.Query.{Query}
use Rattle.grouping_model.specs.Grouping.{Group}
use Rattle.grouping_model.specs.Parts.{keys_of, key_kinds}
use Rattle.group_runs.specs.Runs.{Entry, Rises}
use Rattle.group_runs.specs.Standing.{AreGroups}
use Rattle.group_runs.specs.StandingLaws.{keys_packed, keys_of_kinds}
use Rattle.group_runs.specs.Lemmas.RunLaws.{rises_keys}

pub run_keys_rise : (q : Query) (most : ℕ) (run : List Entry) (groups : List Group) → AreGroups q most run groups → Rises run
    → IsStrictlySortedBy row_cmp (keys_of groups)
run_keys_rise q most run groups are rises = rises_keys (key_kinds q) (keys_of groups) (keys_of_kinds q most run groups are)
    (subst (IsStrictlySortedBy _) (keys_packed q most run groups are) rises)
