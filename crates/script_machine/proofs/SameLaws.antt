-- Replicas that know the same are answered by the same text, and saved as the same file.
use Rattle.std.specs.Prelude.{◌≡◌, List, [], ◌∷◌, ℕ, refl, map, length, IsTrue, unwrap_or, Some, codes, decimal}
use Rattle.std.proofs.Common.{sym, ap, inl, inr, arith}
use Rattle.grouping_model.specs.Grouping.{part}
use Rattle.script_machine.proofs.Words.{World, Knowledge, knows, prefix, early, count_up, origins, origin_rows, batch_rows, Checked}
use Rattle.script_machine.proofs.Words.{packings, meaning, line, KnowTheSame, State, file_saved}
use Rattle.script_machine.proofs.Reasons.{answer_reply, known_reply, save_reply}
use Rattle.grouping_model.specs.EarlyLaws.{early_are}
use Rattle.grouping_model.specs.KnowledgeLaws.{same_knowledge}
use Rattle.grouping_model.specs.MemberLaws.{Member, to_contains}
use Rattle.grouping_model.specs.Lemmas.AnswerLaws.{known_alone, flat_map_members, counted_within}
use Rattle.grouping_model.specs.Lemmas.PrefixLaws.{prefix_unbroken}
use Rattle.group_runs.specs.Standing.{run_bytes}
use Rattle.summary_codec.specs.File.{file_in}
use Rattle.summary_codec.specs.WorldFile.{world_part, world_file}
use Rattle.summary_codec.specs.declared.version.Version.TheVariants.{Second}
use Rattle.script_machine.specs.Machine.{Reply}
use Rattle.script_machine.specs.Text.{reply_text}

-- what is known is one set
same_set : {here there : State} {a b : List ℕ} {world other : World} (k : KnowTheSame here there a b world other) → k.known ≡ k.known_there
same_set k = same_knowledge k.known k.known_there k.same

pub same_answers : (here there : State) (a b : List ℕ) (world other : World) (r s : Reply) → KnowTheSame here there a b world other
    → r ≡ answer_reply here.query (here.replicas a) → s ≡ answer_reply there.query (there.replicas b)
    → (reply_text world r ≡ reply_text other s) × (file_saved world r ≡ file_saved other s)
same_answers here there a b world other r s k one two =
    rw (
      one,
      two,
      k.asked,
      k.asked_there,
      k.knows_here,
      k.knows_there,
      sym (same_set k),
      known_alone (meaning k.query) world other k.known
          k.rows,
    ) (refl, refl)

pub same_lists : (here there : State) (a b : List ℕ) (world other : World) (r s : Reply) → KnowTheSame here there a b world other
    → r ≡ known_reply (here.replicas a) → s ≡ known_reply (there.replicas b)
    → (reply_text world r ≡ reply_text other s) × (file_saved world r ≡ file_saved other s)
same_lists here there a b world other r s k one two =
    rw (one, two, k.knows_here, k.knows_there, sym (same_set k)) (refl, refl)

-- two worlds have the same rows of what is known
abbrev SameKnown : Knowledge → World → World → Type 0
SameKnown known world other = (origin number : ℕ) → IsTrue (knows known (origin, number)) → world origin number ≡ other origin number

map_members : {X Y : Type 0} (f g : X → Y) (xs : List X) → ((x : X) → Member xs x → f x ≡ g x) → map f xs ≡ map g xs
map_members f g [] same = refl
map_members f g (x ∷ xs) same = λ i. same x (inl refl) i ∷ map_members f g xs (λ y m. same y (inr m)) i

same_rows : (known : Knowledge) (world other : World) → SameKnown known world other → (origin : ℕ) → origin_rows world known origin
    ≡ origin_rows other known origin
same_rows known world other same origin =
    flat_map_members (batch_rows world origin) (batch_rows other origin) (count_up 1 (prefix known origin)) (λ number counted.
    let within = counted_within 1 (prefix known origin) number counted in
    ap (λ rows. unwrap_or rows []) (same origin number (prefix_unbroken known origin number within.0 (omega arith))))

abbrev packed_batch : World → ℕ → ℕ → ℕ × List (List ℕ)
packed_batch world origin number = (number, packings (batch_rows world origin number))

same_early : (known : Knowledge) (world other : World) → SameKnown known world other → (origin : ℕ)
    → map (packed_batch world origin) (early known origin) ≡ map (packed_batch other origin) (early known origin)
same_early known world other same origin =
    map_members (packed_batch world origin) (packed_batch other origin) (early known origin) (λ number listed.
    λ i. (
      number,
      packings
          (unwrap_or (same origin number ((early_are known origin number).0 (to_contains (early known origin) number listed)).0 i) []),
    ))

same_part : (query : Checked) (known : Knowledge) (world other : World) → SameKnown known world other → (origin : ℕ)
    → world_part query world known origin ≡ world_part query other known origin
same_part query known world other same origin =
    λ i. (
      origin,
      record {
        prefix = prefix known origin;
        run = run_bytes (part (meaning query) (same_rows known world other same origin i));
        early = same_early known world other same origin i;
      },
    )

-- the file of what is known of a world is that of another world that has the same rows of it
same_file : (query : Checked) (known : Knowledge) (world other : World) → SameKnown known world other → world_file query world known
    ≡ world_file query other known
same_file query known world other same = λ i. file_in Second query (map (λ origin. same_part query known world other same origin i)
    (origins known))

pub same_files : (here there : State) (a b saved other_saved : List ℕ) (world other : World) (r s : Reply)
    → KnowTheSame here there a b world other
    → r ≡ save_reply here.query (here.replicas a) saved → s ≡ save_reply there.query (there.replicas b) other_saved
    → (reply_text world r ≡ reply_text other s) × (file_saved world r ≡ file_saved other s)
same_files here there a b saved other_saved world other r s k one two =
    let files = same_file k.query k.known world other k.rows in
    rw (one, two, k.asked, k.asked_there, k.knows_here, k.knows_there, sym (same_set k)) (
      ap (λ (bytes : List ℕ). line (codes "saved ") (decimal (length bytes))) files,
      ap (λ (bytes : List ℕ). Some bytes) files,
    )
