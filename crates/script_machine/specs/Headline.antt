-- What is promised of a script. `run` of src/engine.rt reads a script and writes its replies. Three statements are proved:
--
--   `Claim`                     what the text of an answer is, and what a replica knows after a feed, a merge or a refusal: the law
--                               `what_replies_mean` of src/laws.rt
--   `Promise`                   that a run writes such replies: the clause `headline` of `run`
--   `SameKnowledgeSameBytes`    that replicas which know the same agree to the byte: the law `same_batches_same_bytes`
--
-- A script is CSV: a record is a command, and the rows of a batch follow its `feed`. Origins, such as tills, number their batches from 1.
-- Replicas take these in any order, and merge. An answer is the table of one GROUP BY query over each origin's batches up to its first
-- gap. Example.antt beside this proves that README's output is right for README's script, and that any other right output has a refusal.
--
-- To read it: a list of ℕ is bytes; `f a b` is f(a, b); `(x : X) → P` says P of every x, `(x : X) × P` of some x; `P → Q` is: if P, then
-- Q; `P × Q` is both; `≡` is equality, and its blanks ◌ are the sides. A record holds if all of its fields do; one that is a value says
-- that there is such a value. The `use` line of a word names the file that defines it. docs/DEFINITIONS.md has these in reading order.
use Rattle.std.specs.Prelude.{ℕ, ◌≡◌, ◌+◌, Bool, false, IsTrue, List, flat_map, length, take, slice_get, Some, Result, OnOk}
use Rattle.grouping_model.specs.Answer.{answer_over}
use Rattle.grouping_model.specs.World.{World, Knowledge, batch_rows, count_up, learn, origins, prefix, union}
use Rattle.packed_rows.specs.Columns.{Column, kinds}
use Rattle.query_checks.specs.Checks.{Checked}
use Rattle.having_filter.specs.Kept.{headers}
use Rattle.having_filter.specs.Meaning.{meaning}
use Rattle.table_print.specs.Table.{table_text}
use Rattle.script_io.specs.Records.{Record, records_of}
use Rattle.script_commands.specs.Commands.{Command, Answer, Feed, Merge, commands_of, request_of}
use Rattle.refusals.specs.Batches.{Fed, IsBatch}
use Rattle.refusals.specs.declared.error.RunError.{RunError}
use Rattle.refusals.specs.declared.refusal.Refusal.{Refusal}
use Rattle.replies.specs.Text.{answer_text}
use Rattle.replies.specs.declared.ending.Outcome.{Outcome}
use Rattle.script_machine.specs.Agreement.{AskAlike, KnowTheSame, after_all}
use Rattle.script_machine.specs.Machine.{State, Reply, Refused, Agrees, Along, IsReply, Replies, after, is_refused, start}
use Rattle.script_machine.specs.Streams.{Streams, Wrote}
use Rattle.script_machine.specs.Text.{file_saved, joined, replies_text, reply_text}

-- ---- What the replies mean

-- A history has the rows of each batch, by origin and number. What a replica knows is a set of batches: `learn known batch` has that batch
-- too, `union a b` has those of both, and `prefix known origin` is the last of the origin's batches 1, 2, 3 .. before the first that is not
-- known, or 0. `origins known` has each origin once, and `count_up 1 n` is 1 to n. `answer_over query rows` are the rows of SQL's answer
-- over a list of rows, by ORDER BY and then by key. The state `old` before a command has the columns, the query, and by its name what each
-- replica knows. `Replies` says which reply a command has there, and `after old reply` is the state then: a reply is no text yet, but names
-- what it is of. Machine.antt has both whole, for each command, and with all that stays as it was.
pub record Claim : Type 0 where
  -- an answer is the table of the query over the history's rows: those of each origin's unbroken prefix of what the replica knows
  pub answer : (history : World) (old : State) (query : Checked) (known : Knowledge) (name : List ℕ) (owned : List Record) (reply : Reply)
      → old.query ≡ Some query → old.replicas name ≡ Some known → Replies old (Answer name) owned reply
      → let rows = flat_map (λ origin. flat_map (batch_rows history origin) (count_up 1 (prefix known origin))) (origins known) in
      let table = answer_over (meaning query) rows in
      reply_text history reply ≡ answer_text (length table) (table_text (headers query) table)
  -- a replica that is fed a batch knows that batch, whether it is folded, early behind a gap, or was known already
  pub feed : (old : State) (columns : List Column) (known : Knowledge) (name origin number : List ℕ) (told : ℕ) (owned : List Record)
      (fed : Fed) (reply : Reply)
      → old.columns ≡ Some columns → old.replicas name ≡ Some known → IsBatch (kinds columns) origin number told owned fed
      → Replies old (Feed name origin number told) owned reply
      → (after old reply).replicas name ≡ Some (learn known (fed.origin, fed.number))
  -- a replica into which another is merged knows what either did
  pub merge : (old : State) (known more : Knowledge) (into from : List ℕ) (owned : List Record) (reply : Reply)
      → old.replicas into ≡ Some known → old.replicas from ≡ Some more → Replies old (Merge into from) owned reply
      → (after old reply).replicas into ≡ Some (union known more)
  -- a refusal, for whatever reason, changes nothing
  pub refused : (old : State) (why : Refusal) → after old (Refused why) ≡ old

-- ---- What a run writes

-- the commands in a script: its records, as the csv crate reads them, each with those that belong to it
abbrev pub commands_in : List ℕ → List Command
commands_in script = commands_of (records_of script)

-- Assumed of origins: none gives one number to two different batches. That is, a history has each batch which these commands feed, row for
-- row. A feed counts if its replica is there, which the replies tell, and its records are a batch, whatever its reply is.
abbrev pub KeepNumbers : (history : World) → List Command → List Reply → Type 0
KeepNumbers history = Agrees history start

-- Commands, whose origins keep their numbers, have these replies: by every history that has their batches. If there is none, nothing is
-- said. One after the other, from the first state on, each reply is that of `Replies`, or `NoMemory` or `TapeFault`, for which no cause is
-- asked here (`IsReply`). The texts are those of the replies.
abbrev pub AreAnswered : List Command → List Reply → (texts : List (List ℕ)) → Type 0
AreAnswered commands replies texts = (history : World) → KeepNumbers history commands replies
    → Along (IsReply Replies) start commands replies × (joined texts ≡ replies_text history replies)

-- An output is right for a script: it has a reply to each command, in order, and those to each front of the commands, the first so many,
-- are as above. So if an origin gives a number to two batches, all replies before that are right, and of the others nothing is said.
pub record IsRightOutput (script output : List ℕ) : Type 0 where
  pub replies : List Reply
  pub texts : List (List ℕ)
  pub each : length replies ≡ length (commands_in script)
  pub each_text : length texts ≡ length replies
  pub answered : (front : ℕ) → AreAnswered (take front (commands_in script)) (take front replies) (take front texts)
  pub whole : output ≡ joined texts

-- The clause `headline` of `run`, whole: a run that returned Ok, over an honest disk, appended to what was written before a right output
-- for the whole input. The disk holds what exceeds the limit, and is honest if each read gives what was last written there. The bytes are
-- those of the streams' models. Streams in memory have one. A file or a terminal has none (`None`), so that nothing is said of it: that it
-- gives and takes the bytes as a stream in memory does is trusted. Nor is anything said of time, or of what else a program does.
--
-- Odd runs that satisfy it: some or all replies are `refused NoMemory`; each feed and merge is `refused TapeFault`, though the disk never
-- failed; a text that is no schema, query or batch is refused by the name of another refusal; a run ends in an error. The clause `runs`
-- excludes the second and the third, and says what a run wrote that ended in an error, or whose disk was not honest.
abbrev pub Promise : (honest : Bool) → Streams → Result Outcome RunError → Type 0
Promise honest streams result = OnOk result (IsTrue honest → Wrote streams IsRightOutput)

-- ---- Where replicas agree

-- A question in a right output: the command at this place, counted from 0, its reply, which is no refusal, and the reply's text. Up to
-- here origins keep their numbers.
pub record Question : Type 0 where
  pub script : List ℕ
  pub output : List ℕ
  pub right : IsRightOutput script output
  pub place : ℕ
  pub command : Command
  pub reply : Reply
  pub text : List ℕ
  pub is_command : slice_get (commands_in script) place ≡ Some command
  pub is_reply : slice_get right.replies place ≡ Some reply
  pub is_text : slice_get right.texts place ≡ Some text
  pub answered : is_refused reply ≡ false
  pub history : World
  pub keeps : KeepNumbers history (take (place + 1) (commands_in script)) (take (place + 1) right.replies)

-- the state in which it is asked
abbrev pub state_at : Question → State
state_at question = after_all start (take question.place question.right.replies)

-- Two replicas, of one script or of two, are of one query and know the same batches, of which both histories have the same rows. Then both
-- answer alike when they are asked alike: for an answer, for what is known, or to be saved. Their texts are the same bytes, and so are the
-- files that they save, which `load` of the same script reads, in whatever order and however often the batches came.
abbrev pub SameKnowledgeSameBytes : Type 0
SameKnowledgeSameBytes = (here there : Question) (a b : List ℕ)
    → AskAlike a b (request_of here.command.head) (request_of there.command.head)
    → KnowTheSame (state_at here) (state_at there) a b here.history there.history
    → (here.text ≡ there.text) × (file_saved here.history here.reply ≡ file_saved there.history there.reply)
