-- The text of replies: a reply's line, in which a refusal has its name, and of an answer and of what is known the lines after it too. All
-- of this is our own.
use Rattle.std.specs.Prelude.{ℕ, Bool, true, false, List, [], ◌∷◌, ◌++◌, flat_map, length, codes, decimal, string_bytes, if◌then◌else◌}
use Rattle.grouping_model.specs.Aggregates.{Outcome}
use Rattle.query_checks.specs.Checks.{Checked}
use Rattle.having_filter.specs.Kept.{headers}
use Rattle.grouping_model.specs.Replies.{KnownOrigin}
use Rattle.grouping_model.specs.declared.delivered.Delivered.{Delivered}
use Rattle.grouping_model.specs.declared.delivered.Delivered.TheVariants.{Folded, Early, Known}
use Rattle.table_print.specs.Aligned.{aligned_text, sides}
use Rattle.table_print.specs.Json.{json_text}
use Rattle.table_print.specs.Table.{table_text}
use Rattle.table_print.specs.Tsv.{tsv_text}
use Rattle.refusals.specs.Names.{refusal_name}
use Rattle.refusals.specs.Refusals.{tells_fault}
use Rattle.replies.specs.declared.reply.Reply.{Reply}
use Rattle.replies.specs.declared.reply.Reply.TheVariants as says
use Rattle.replies.specs.declared.showing.Format.{Format}
use Rattle.replies.specs.declared.showing.Format.TheVariants.{Csv, Tsv, Json, Aligned}

-- a line of a word and what follows it
abbrev pub line : List ℕ → List ℕ → List ℕ
line word rest = word ++ rest ++ codes "\n"

-- what became of a batch
abbrev pub delivered_text : Delivered → List ℕ
delivered_text (Folded upto) = line (codes "folded upto ") (decimal upto)
delivered_text Early = line (codes "early") []
delivered_text Known = line (codes "known") []

-- a number after a space
abbrev pub number_text : ℕ → List ℕ
number_text n = codes " " ++ decimal n

-- the early numbers of an origin
abbrev pub early_text : List ℕ → List ℕ
early_text [] = []
early_text (number ∷ numbers) = codes " early" ++ flat_map number_text (number ∷ numbers)

-- what is known of an origin
abbrev pub origin_text : KnownOrigin → List ℕ
origin_text known = line (codes "origin ") (decimal known.origin ++ codes " upto " ++ decimal known.upto ++ early_text known.early)

-- what is known, a line for each origin
abbrev pub origins_text : List KnownOrigin → List ℕ
origins_text list = flat_map origin_text list

abbrev pub known_text : List KnownOrigin → List ℕ
known_text list = line (codes "known ") (decimal (length list)) ++ origins_text list

-- how many rows an answer has, and its table
abbrev pub answer_text : ℕ → List ℕ → List ℕ
answer_text rows table = line (codes "answer ") (decimal rows) ++ table

-- the text of an answer in a format
abbrev pub text_of : Format → Checked → List (List Outcome) → List ℕ
text_of Csv query rows = table_text (headers query) rows
text_of Tsv query rows = tsv_text (headers query) rows
text_of Json query rows = json_text (headers query) rows
text_of Aligned query rows = aligned_text (sides query) (headers query) rows

-- the text of a reply of the code
abbrev pub said_text : Reply → List ℕ
said_text (says.Columns count) = line (codes "columns ") (decimal count)
said_text (says.Query text) = line (codes "query ") (string_bytes text)
said_text (says.Limit bytes) = line (codes "limit ") (decimal bytes)
said_text (says.Created name) = line (codes "replica ") name.now
said_text (says.Delivered delivered) = delivered_text delivered
said_text says.Merged = line (codes "merged") []
said_text (says.Saved count) = line (codes "saved ") (decimal count)
said_text says.Loaded = line (codes "loaded") []
said_text (says.Listed lines) = lines.items
said_text (says.Answer rows table) = answer_text rows table.items
said_text (says.Refused why) = line (codes "refused ") (refusal_name why)

abbrev pub is_refusal : Reply → Bool
is_refusal (says.Refused why) = true
is_refusal reply = false

-- whether a reply says that the tape disk failed, and how often it does
abbrev pub is_tape_fault : Reply → Bool
is_tape_fault (says.Refused why) = tells_fault why
is_tape_fault reply = false

abbrev pub faults_in : Reply → ℕ
faults_in reply = if is_tape_fault reply then 1 else 0
