-- The table of an answer, for each world that the replica fits.
use Rattle.std.specs.Prelude.{◌≡◌, ℕ, List, length}
use Rattle.std.proofs.Common.{◌∙◌, ap}
use Rattle.grouping_model.specs.Answer.{answer}
use Rattle.grouping_model.specs.World.{World, IsWorld}
use Rattle.having_filter.specs.Meaning.{meaning}
use Rattle.packed_rows.specs.Columns.{kinds}
use Rattle.replica_merge.specs.Replicas.{Held, told, Fits}
use Rattle.replies.specs.Printed.{PrintsAnswer}
use Rattle.replies.specs.Text.{text_of}
use Rattle.replies.specs.declared.showing.Format.{Format}

-- it is that of the query's answer
pub printed_world : (format : Format) (held : Held) (rows : ℕ) (text : List ℕ) → PrintsAnswer format held rows text
    → (world : World) → IsWorld (kinds held.query.columns) world → Fits world held
    → (rows ≡ length (answer (meaning held.query) world (told held.parts)))
    × (text ≡ text_of format held.query (answer (meaning held.query) world (told held.parts)))
printed_world format held rows text prints world of_columns fits =
    let same = prints.answers.of_world world of_columns fits in
    (prints.counted ∙ ap length same, prints.printed ∙ ap (text_of format held.query) same)
