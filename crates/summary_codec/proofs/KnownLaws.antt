-- The file of a world depends on what is known alone.
use Rattle.std.specs.Prelude.{◌≡◌, refl, ℕ, List, [], ◌∷◌, map, unwrap_or, IsTrue}
use Rattle.std.proofs.Common.{ap, inl, inr, arith}
use Rattle.grouping_model.specs.Grouping.{part}
use Rattle.grouping_model.specs.World.{World, Knowledge, knows, origins, prefix, early, count_up, batch_rows, origin_rows}
use Rattle.grouping_model.specs.MemberLaws.{Member, to_contains}
use Rattle.grouping_model.specs.Lemmas.AnswerLaws.{flat_map_members, counted_within}
use Rattle.grouping_model.specs.EarlyLaws.{early_are}
use Rattle.grouping_model.specs.Lemmas.PrefixLaws.{prefix_unbroken}
use Rattle.batch_reader.specs.Rows.{packings}
use Rattle.query_checks.specs.Checks.{Checked}
use Rattle.having_filter.specs.Meaning.{meaning}
use Rattle.group_runs.specs.Standing.{run_bytes}
use Rattle.summary_codec.specs.File.{file_in}
use Rattle.summary_codec.specs.WorldFile.{world_part, world_file_in}
use Rattle.summary_codec.specs.declared.version.Version.{Version}

map_members : {X Y : Type 0} (f g : X → Y) (xs : List X) → ((x : X) → Member xs x → f x ≡ g x) → map f xs ≡ map g xs
map_members f g [] same = refl
map_members f g (x ∷ xs) same = λ i. same x (inl refl) i ∷ map_members f g xs (λ y m. same y (inr m)) i

-- an early batch of a world
abbrev early_batch : World → ℕ → ℕ → ℕ × List (List ℕ)
early_batch world origin n = (n, packings (batch_rows world origin n))

module _ (query : Checked) (world other : World) (known : Knowledge) (same : (origin number : ℕ) → IsTrue (knows known (origin, number))
    → world origin number ≡ other origin number) where
  same_prefix : (origin : ℕ) → origin_rows world known origin ≡ origin_rows other known origin
  same_prefix origin =
      flat_map_members (batch_rows world origin) (batch_rows other origin) (count_up 1 (prefix known origin)) (λ number counted.
      let within = counted_within 1 (prefix known origin) number counted in
      ap (λ rows. unwrap_or rows []) (same origin number (prefix_unbroken known origin number within.0 (omega arith))))

  same_early : (origin : ℕ) → map (early_batch world origin) (early known origin) ≡ map (early_batch other origin) (early known origin)
  same_early origin =
      map_members (early_batch world origin) (early_batch other origin) (early known origin) (λ number listed.
      let known_too = (early_are known origin number).0 (to_contains (early known origin) number listed) in
      ap (λ rows. (number, packings (unwrap_or rows []))) (same origin number known_too.0))

  same_part : (origin : ℕ) → world_part query world known origin ≡ world_part query other known origin
  same_part origin =
      (λ i. (
        origin,
        record {
          prefix = prefix known origin;
          run = run_bytes (part (meaning query) (same_prefix origin i));
          early =
              same_early origin i;
        },
      ))

  pub known_file : (version : Version) → world_file_in version query world known ≡ world_file_in version query other known
  known_file version = ap (file_in version query) (map_members (world_part query world known) (world_part query other known) (origins known)
      (λ origin listed. same_part origin))
