-- What a session keeps as plain parts, which tell two of them apart. Only types that no other crate sees cite this. All of this is our own.
use Rattle.std.specs.Prelude.{ℕ, List, Option}
use mathlib.Core.Path.{refl}
use base.Stored.{Coded}
use Rattle.std.specs.Coded.{code_by, coded×, coded_list, coded_option, coded_ℕ}
use Rattle.std.specs.declared.alloc.Global.{Global}
use Rattle.std.specs.declared.vec.Vec.{Vec}
use Rattle.grouping_model.specs.Datum.{Kind}
use Rattle.packed_rows.specs.Columns.{Column}
use Rattle.having_filter.specs.Coding.{coded_kind, coded_checked}
use Rattle.key_hashes.specs.declared.sip_hash.Seed.{Seed}
use Rattle.query_checks.specs.Checks.{Checked}
use Rattle.replica_merge.specs.Coding.{coded_held}
use Rattle.replica_merge.specs.Replicas.{Held}
use Rattle.script_machine.specs.Views.{Store}

abbrev pub coded_column : Coded Column
coded_column = code_by (List ℕ × Kind) (coded× (coded_list coded_ℕ) coded_kind) (λ c. (c.name, c.kind))
    (λ p. record { name = p.0; kind = p.1 }) (λ _. refl)

abbrev pub coded_seed : Coded Seed
coded_seed = code_by (ℕ × ℕ) (coded× coded_ℕ coded_ℕ) (λ s. (s.low, s.high)) (λ p. record { low = p.0; high = p.1 }) (λ _. refl)

-- given how names are told apart
abbrev pub coded_store : Coded (Vec ℕ Global) → Coded Store
coded_store coded_name =
    code_by (Option (List Column) × (Option Checked × (List (Vec ℕ Global × Held) × (List (Vec ℕ Global × List ℕ) × (ℕ × Seed)))))
    (coded× (coded_option (coded_list coded_column))
    (coded× (coded_option coded_checked) (coded× (coded_list (coded× coded_name coded_held))
    (coded× (coded_list (coded× coded_name (coded_list coded_ℕ))) (coded× coded_ℕ coded_seed)))))
    (λ s. (s.columns, (s.query, (s.replicas, (s.saved, (s.limit, s.seed))))))
    (λ p. record { columns = p.0; query = p.1.0; replicas = p.1.1.0; saved = p.1.1.1.0; limit = p.1.1.1.1.0; seed = p.1.1.1.1.1 })
    (λ _. refl)
