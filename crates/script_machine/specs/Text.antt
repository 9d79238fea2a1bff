-- The text of the machine's replies: one line each, and for an answer its table. All of this is our own.
use Rattle.std.specs.Prelude.{ℕ, List, [], flat_map, length, codes, decimal, Option, Some, None}
use Rattle.grouping_model.specs.Answer.{answer}
use Rattle.grouping_model.specs.World.{World}
use Rattle.having_filter.specs.Kept.{by_names, headers}
use Rattle.having_filter.specs.Meaning.{meaning}
use Rattle.query_checks.specs.Spelling.{spelling}
use Rattle.summary_codec.specs.WorldFile.{world_file}
use Rattle.table_print.specs.Table.{table_text}
use Rattle.replies.specs.Text.{line, delivered_text, known_text, answer_text}
use Rattle.refusals.specs.Names.{refusal_name}
use Rattle.script_machine.specs.Machine.{Reply, Has_columns, Has_query, Has_limit, Created, Took, Merged, Saved, Loaded, Listed, Answered}
use Rattle.script_machine.specs.Machine.{Refused}

-- the text of a reply, where the batches are a world's. A query has its canonical text, a refusal its name, and a saved file its length
abbrev pub reply_text : World → Reply → List ℕ
reply_text world (Has_columns columns) = line (codes "columns ") (decimal (length columns))
reply_text world (Has_query query) = line (codes "query ") (spelling (by_names query))
reply_text world (Has_limit bytes) = line (codes "limit ") (decimal bytes)
reply_text world (Created name) = line (codes "replica ") name
reply_text world (Took name fed delivered) = delivered_text delivered
reply_text world (Merged into from) = line (codes "merged") []
reply_text world (Saved saved query known) = line (codes "saved ") (decimal (length (world_file query world known)))
reply_text world (Loaded name known) = line (codes "loaded") []
reply_text world (Listed list) = known_text list
reply_text world (Answered query known) =
    let rows = answer (meaning query) world known in
    answer_text (length rows) (table_text (headers query) rows)
reply_text world (Refused why) = line (codes "refused ") (refusal_name why)

-- the text of replies, one after the other
abbrev pub replies_text : World → List Reply → List ℕ
replies_text world replies = flat_map (reply_text world) replies

-- the bytes of the file that a reply saves, if the batches are a world's
abbrev pub file_saved : World → Reply → Option (List ℕ)
file_saved world (Saved saved query known) = Some (world_file query world known)
file_saved world reply = None

-- texts one after the other
abbrev pub joined : List (List ℕ) → List ℕ
joined texts = flat_map (λ text. text) texts
