-- What a replica holds as plain parts, which tell two of them apart. All of this is our own.
use mathlib.Core.Path.{refl}
use base.Stored.{Coded}
use Rattle.std.specs.Coded.{code_by, coded×, coded_list, coded_ℕ}
use Rattle.query_checks.specs.Checks.{Checked}
use Rattle.having_filter.specs.Coding.{coded_checked}
use Rattle.origin_prefix.specs.Coding.{coded_part}
use Rattle.replica_merge.specs.Replicas.{Parts, Held}

abbrev pub coded_parts : Coded Parts
coded_parts = coded_list (coded× coded_ℕ coded_part)

abbrev pub coded_held : Coded Held
coded_held = code_by (Checked × Parts) (coded× coded_checked coded_parts) (λ h. (h.query, h.parts))
    (λ p. record { query = p.0; parts = p.1 }) (λ _. refl)
