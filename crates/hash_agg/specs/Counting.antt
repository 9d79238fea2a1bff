-- What is counted of aggregations that come one after the other. All of this is our own.
use Rattle.std.specs.Prelude.{◌≡◌, ℕ, ◌+◌, ◌≤◌, max, List, [], ◌∷◌, Result, Ok, Err}
use Rattle.grouping_model.specs.Query.{Query}
use Rattle.aggregation_cost.specs.Space.{Setting}
use Rattle.aggregation_cost.specs.Cost.{Cost, cost}
use Rattle.agg_protocol.specs.States.{most_rows}
use Rattle.hash_agg.specs.Inputs.{Brought, all_groups, Given, AllGive}
use Rattle.hash_agg.specs.Means.{MeansState}
use Rattle.group_runs.specs.Standing.{states_width}
use Rattle.hash_agg.specs.Passes.{setting_for, records_of, all_pieces}
use Rattle.hash_agg.specs.Waiting.{AddsUp, IsWork}
use Rattle.hash_agg.specs.declared.work.Work.{Work}

-- the limit and the hash function of some means, for the groups of a query
abbrev pub setting_by : {H : Type 0} → (H → List ℕ → ℕ) → Query → MeansState H → Setting
setting_by hash_of query means = setting_for query means.limit (hash_of means.hash)

-- what an aggregation of inputs costs that give these rows and groups
abbrev pub cost_given : Query → Setting → List Brought → List Given → Cost
cost_given query setting inputs givens = cost setting (records_of query (states_width query) (all_pieces inputs givens))

-- it makes at most this many passes, and at least one
abbrev pub HasFewPasses : Query → Setting → List Brought → ℕ → Type 0
HasFewPasses query setting inputs most = (givens : List Given) → AllGive query inputs givens
    → (cost_given query setting inputs givens).passes ≤ max 1 most

-- the work of no aggregation
abbrev pub no_work : Work
no_work = record { passes = 0; spilled = 0; most_held = 0 }

-- the work that an aggregation returns beside its run
abbrev pub told_work : {Answer Error : Type 0} → Result (Answer × Work) Error → Work
told_work (Ok done) = done.1
told_work (Err error) = no_work

-- the work that is counted went from one to another, under a limit of bytes of blocks. No counter went down, and what was counted since
-- held no more blocks than the limit
pub record HasGrown (limit : ℕ) (begun done : Work) : Type 0 where
  pub passes : begun.passes ≤ done.passes
  pub spilled : begun.spilled ≤ done.spilled
  pub held : begun.most_held ≤ done.most_held
  pub within : done.most_held ≤ max begun.most_held limit

-- an aggregation of inputs was counted: what it costs was added to the work, and its pages to those that were written
pub record IsCounted (inputs : List Brought) (query : Query) (setting : Setting) (old : Work) (writes : ℕ) (new : Work) (written : ℕ) :
    Type 0 where
  pub work : (givens : List Given) → AllGive query inputs givens → AddsUp old (cost_given query setting inputs givens) new
  pub pages : (givens : List Given) → AllGive query inputs givens → written ≡ writes + (cost_given query setting inputs givens).pages

-- it was, and the work returned is exactly what it costs, unless it has more groups than a counter of passes can hold
pub record Took (inputs : List Brought) (query : Query) (setting : Setting) (old : Work) (writes : ℕ) (told : Work) (written : ℕ) :
    Type 0 where
  pub counted : IsCounted inputs query setting old writes told written
  pub work : all_groups inputs ≤ most_rows → (givens : List Given) → AllGive query inputs givens
      → IsWork told (cost_given query setting inputs givens)

-- some aggregations were counted, one after the other, and nothing else
abbrev pub AreCounted : List (List Brought) → Query → Setting → Work → ℕ → Work → ℕ → Type 0
AreCounted [] query setting old writes new written = (new ≡ old) × (written ≡ writes)
AreCounted (inputs ∷ more) query setting old writes new written =
    (work : Work) × (pages : ℕ) × IsCounted inputs query setting old writes work pages
    × AreCounted more query setting work pages new written
