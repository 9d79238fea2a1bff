-- Replicas that fit a world and know the same batches save the same bytes.
use Rattle.std.specs.Prelude.{◌≡◌, ℕ, List}
use Rattle.std.proofs.Common.{◌∙◌, ap, sym}
use Rattle.replica_merge.specs.Lemmas.Words.{World, Checked, IsSaved, Second, world_file, Parts, told, Fits, AreHeldParts}
use Rattle.summary_codec.specs.Lemmas.SpelledRead.{spelled}
use Rattle.replica_merge.proofs.SavedLaws.{saved_world}

-- a saved file is the world's
of_world : (world : World) (query : Checked) (parts : Parts) (bytes : List ℕ) → AreHeldParts query parts
    → Fits world (record { query = query; parts = parts }) → IsSaved bytes query parts
    → bytes ≡ world_file query world (told parts)
of_world world query parts bytes held fits is = saved_world (record { query = query; parts = parts }) world bytes held fits
    (spelled Second bytes query parts is).0

-- equal knowledge, equal bytes
pub same_bytes : (world : World) (query : Checked) (a b : Parts) (bytes those : List ℕ) → AreHeldParts query a → AreHeldParts query b
    → Fits world (record { query = query; parts = a }) → Fits world (record { query = query; parts = b })
    → told a ≡ told b → IsSaved bytes query a → IsSaved those query b → bytes ≡ those
same_bytes world query a b bytes those is_a is_b fits_a fits_b same one two =
    of_world world query a bytes is_a fits_a one ∙ ap (world_file query world) same ∙ sym (of_world world query b those is_b fits_b two)
