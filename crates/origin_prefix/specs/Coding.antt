-- What is held of an origin as plain parts, which tell two of them apart. All of this is our own.
use Rattle.std.specs.Prelude.{ℕ, List}
use mathlib.Core.Path.{refl}
use base.Stored.{Coded}
use Rattle.std.specs.Coded.{code_by, coded×, coded_list, coded_ℕ}
use Rattle.group_runs.specs.Runs.{Entry}
use Rattle.origin_prefix.specs.Parts.{Batches, Part}

abbrev coded_bytes : Coded (List ℕ)
coded_bytes = coded_list coded_ℕ

abbrev pub coded_part : Coded Part
coded_part =
    code_by (ℕ × (List Entry × Batches))
    (coded× coded_ℕ (coded× (coded_list (coded× coded_bytes coded_bytes)) (coded_list (coded× coded_ℕ (coded_list coded_bytes)))))
    (λ p. (p.prefix, (p.run, p.early))) (λ q. record { prefix = q.0; run = q.1.0; early = q.1.1 }) (λ _. refl)
