-- What a session holds as plain parts, which tell two of them apart. All of this is our own.
use mathlib.Core.Path.{refl}
use base.Stored.{Coded}
use Rattle.std.specs.Prelude.{ℕ}
use Rattle.std.specs.Coded.{code_by, coded×, coded_ℕ}
use Rattle.replica_merge.specs.Coding.{coded_held}
use Rattle.replica_merge.specs.Replicas.{Held}
use Rattle.engine.specs.Sessions.{SessionState}

abbrev pub coded_session : Coded SessionState
coded_session =
    code_by (Held × (ℕ × ((ℕ × ℕ) × (ℕ × (ℕ × ℕ)))))
    (coded× coded_held (coded× coded_ℕ (coded× (coded× coded_ℕ coded_ℕ) (coded× coded_ℕ (coded× coded_ℕ coded_ℕ)))))
    (λ s. (s.held, (s.limit, ((s.seed.low, s.seed.high), (s.work.passes, (s.work.spilled, s.work.most_held))))))
    (λ p. record {
      held = p.0;
      limit = p.1.0;
      seed = record { low = p.1.1.0.0; high = p.1.1.0.1 };
      work = record { passes = p.1.1.1.0; spilled = p.1.1.1.1.0; most_held = p.1.1.1.1.1 };
    }) (λ _. refl)
