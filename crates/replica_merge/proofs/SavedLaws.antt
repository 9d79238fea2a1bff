-- What a replica saves.
use Rattle.std.specs.Prelude.{◌≡◌, ℕ, List, [], ◌*◌, map, Some, unwrap_or}
use Rattle.std.proofs.lemmas.List.{map-id}
use Rattle.std.proofs.Common.{◌∙◌, sym, ap, subst}
use Rattle.replica_merge.specs.Lemmas.Words.{each_both, World, origins, prefix, early, batch_rows, origin_rows, rows_upto, part, MAX_ROWS}
use Rattle.replica_merge.specs.Lemmas.Words.{packings, Checked, meaning, run_bytes, Part, FitsOrigin, IsSummary, world_part, world_file_in}
use Rattle.replica_merge.specs.Lemmas.Words.{world_file, Second, Held, part_at, part_of, told, Fits, IsHeldPart, AreHeldParts}
use Rattle.group_runs.specs.StandingLaws.{stands_spelled}
use Rattle.origin_prefix.specs.Lemmas.ByNumber.{at, numbers}
use Rattle.summary_codec.specs.File.{file_in, file_bytes}
use Rattle.summary_codec.specs.declared.version.Version.{Version}
use Rattle.summary_codec.specs.Lemmas.OneReading.{one_reading}
use Rattle.replica_merge.proofs.AnswerLaws.{fit_each}
use Rattle.replica_merge.specs.Lemmas.ToldLaws.{origins_told, early_told, prefix_told, map_same, each_at, part_here, HasGap, part_gap}

-- the early batches of a part that fits are the world's
early_are : (query : Checked) (world : World) (o : ℕ) (p : Part) → IsHeldPart query (o, p) → FitsOrigin (meaning query) world o p
    → map (λ n. (n, packings (batch_rows world o n))) (numbers p.early) ≡ p.early
early_are query world o p held fits =
    map_same (λ n. (n, packings (batch_rows world o n))) (λ (b : ℕ × List (List ℕ)). b) p.early
    (each_both (λ (b : ℕ × List (List ℕ)). at p.early b.0 ≡ Some b.1) (λ (b : ℕ × List (List ℕ)). at p.early b.0 ≡ Some b.1)
    (λ (b : ℕ × List (List ℕ)). (b.0, packings (batch_rows world o b.0)) ≡ b)
    (λ b there _.
    let those = fits.early b.0 b.1 there in
    (λ i. (b.0, (ap (λ found. packings (unwrap_or found [])) those.1 ∙ sym those.2) i)))
    p.early (each_at p.early held.part.rising) (each_at p.early held.part.rising))
    ∙ map-id p.early

-- what is held of an origin is what the world has of it
part_is : (held : Held) (world : World) → AreHeldParts held.query held.parts → (e : ℕ × Part) → IsHeldPart held.query e
    → FitsOrigin (meaning held.query) world e.0 e.1 → part_at held.parts e.0 ≡ Some e.1
    → world_part held.query world (told held.parts) e.0 ≡ e
part_is held world are e is fits there =
    let q = meaning held.query in
    let here : part_of held.parts e.0 ≡ e.1 = part_here held.parts e.0 e.1 there in
    let upto : prefix (told held.parts) e.0
    ≡ e.1.prefix = prefix_told held.parts are.rising e.0 (subst HasGap (sym here) (part_gap held.query e.1 is.part))
    ∙ ap (λ (p : Part). p.prefix) here in
    let run : run_bytes (part q (origin_rows world (told held.parts) e.0)) ≡ e.1.run =
    ap (λ n. run_bytes (part q (rows_upto world e.0 n))) upto
    ∙ sym (stands_spelled q (e.1.prefix * MAX_ROWS) e.1.run (part q (rows_upto world e.0 e.1.prefix)) fits.run).0 in
    let batches : map (λ n. (n, packings (batch_rows world e.0 n))) (early (told held.parts) e.0) ≡ e.1.early =
    ap (map (λ n. (n, packings (batch_rows world e.0 n)))) (early_told held.query held.parts are.rising e.0 e.1 here is.part)
    ∙ early_are held.query world e.0 e.1 is fits in
    (λ i. (e.0, record { prefix = upto i; run = run i; early = batches i }))

-- a replica that fits a world holds what the world has of what it tells
pub world_parts : (held : Held) (world : World) → AreHeldParts held.query held.parts → Fits world held
    → map (world_part held.query world (told held.parts)) (origins (told held.parts)) ≡ held.parts
world_parts held world are fits =
    ap (map (world_part held.query world (told held.parts))) (origins_told held.query held.parts are)
    ∙ map_same (world_part held.query world (told held.parts)) (λ (e : ℕ × Part). e) held.parts
    (each_both (λ (e : ℕ × Part). IsHeldPart held.query e × FitsOrigin (meaning held.query) world e.0 e.1)
    (λ (e : ℕ × Part). part_at held.parts e.0 ≡ Some e.1) (λ (e : ℕ × Part). world_part held.query world (told held.parts) e.0 ≡ e)
    (λ e is there. part_is held world are e is.0 is.1 there) held.parts
    (each_both (IsHeldPart held.query) (λ (e : ℕ × Part). FitsOrigin (meaning held.query) world e.0 e.1)
    (λ (e : ℕ × Part). IsHeldPart held.query e × FitsOrigin (meaning held.query) world e.0 e.1) (λ e is fit. (is, fit)) held.parts
    are.each (fit_each world held fits are.rising))
    (each_at held.parts are.rising))
    ∙ map-id held.parts

pub saved_in : (version : Version) (held : Held) (world : World) (bytes : List ℕ) → AreHeldParts held.query held.parts → Fits world held
    → bytes ≡ file_in version held.query held.parts
    → bytes ≡ world_file_in version held.query world (told held.parts)
saved_in version held world bytes are fits is = is ∙ ap (file_in version held.query) (sym (world_parts held world are fits))

pub saved_world : (held : Held) (world : World) (bytes : List ℕ) → AreHeldParts held.query held.parts → Fits world held → bytes
    ≡ file_bytes held.query held.parts → bytes ≡ world_file held.query world (told held.parts)
saved_world = saved_in Second

-- a file is of one replica
pub one_held : (bytes : List ℕ) (held those : Held) → IsSummary bytes held.query held.parts → IsSummary bytes those.query those.parts → held
    ≡ those
one_held bytes held those left right =
    let same = one_reading bytes held.query those.query held.parts those.parts left right in
    (λ i. record { query = same.0 i; parts = same.1 i })
