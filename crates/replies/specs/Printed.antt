-- The table of a replica's answer. All of this is our own.
use Rattle.std.specs.Prelude.{◌≡◌, ℕ, List, length}
use Rattle.grouping_model.specs.Aggregates.{Outcome}
use Rattle.replica_merge.specs.Replicas.{Held}
use Rattle.replica_merge.specs.Unions.{IsAnswerOf}
use Rattle.replies.specs.Text.{text_of}
use Rattle.replies.specs.declared.showing.Format.{Format}

-- a text is the table, in a format, of the answer of what is held, and this is how many rows it has
pub record PrintsAnswer (format : Format) (held : Held) (rows : ℕ) (text : List ℕ) : Type 0 where
  pub given : List (List Outcome)
  pub answers : IsAnswerOf held given
  pub counted : rows ≡ length given
  pub printed : text ≡ text_of format held.query given
