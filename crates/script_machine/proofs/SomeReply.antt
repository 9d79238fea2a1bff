-- A command is never without a reply, memory being there.
use Rattle.std.specs.Prelude.{◌≡◌, ◌≢◌, ◌≤◌, ◌<◌, ◌+◌, ◌⊎◌, refl, ℕ, zero, suc, List, [], length, Option, Some, None, slice_index_or}
use Rattle.std.specs.Prelude.{unwrap_or, Result, Ok, Err}
use Rattle.std.proofs.Common.{subst, arith, inl, inr}
use Rattle.std.proofs.lemmas.Bool.{cases_lt}
use Rattle.script_machine.proofs.Words.{MAX_ROWS, Kind, Row, Bigint_kind, reply_of, Knowledge, Column, kinds, ReadsRows, BatchError}
use Rattle.script_machine.proofs.Words.{Checked, Exactly, parsing, Record, Fed, IsBatch, IsNoBatch, State, limit_reply, replica_reply}
use Rattle.script_machine.proofs.Words.{batch_refusal, query_refusal, Refusal}
use Rattle.script_machine.proofs.Reasons.{ColumnsReply, QueryReply, FeedReply, Replies, answer_reply, exactly, known_reply, load_reply}
use Rattle.script_machine.proofs.Reasons.{merge_reply, save_reply}
use Rattle.packed_rows.specs.Field.{ReadsRow, IsLeftmostBad}
use Rattle.packed_rows.specs.Packing.{packing}
use Rattle.packed_rows.specs.Lemmas.RowLaws.{PackedSoFar, packed_all, packed_more}
use Rattle.batch_reader.specs.Refusal.{HeadReads, FirstFault, BuildFault}
use Rattle.batch_reader.specs.declared.error.BatchError.TheVariants as batch
use Rattle.batch_reader.specs.Lemmas.RecordLaws.{RowsSoFar, rows_more, rows_all}
use Rattle.group_parser.specs.declared.error.ParseError.{ParseError}
use Rattle.group_parser.specs.Lemmas.ParseLaws.{parses_accepts, parses_refuses}
use Rattle.origin_prefix.specs.Lemmas.Lists.{same_or_other}
use Rattle.script_commands.specs.Commands as ask
use Rattle.script_commands.specs.Commands.{Request}
use Rattle.script_machine.specs.Machine as machine
use Rattle.refusals.specs.declared.refusal.Refusal.TheVariants as why

-- fields as many as kinds stand for a row, or there is a leftmost bad one
row_or_bad : (ks : List Kind) (fields : List (List ℕ)) → length fields ≡ length ks → ((row : Row) → ¬ (ReadsRow ks fields row))
    → ((column : ℕ) → ¬ (IsLeftmostBad ks fields column)) → ⊥
row_or_bad ks fields same no_row no_bad = go (length ks) 0 [] (omega arith) ([], tt, refl)
  where
    go : (left i : ℕ) (bytes : List ℕ) → i + left ≡ length ks → PackedSoFar ks fields i bytes → ⊥
    go zero i bytes all so_far =
        let end : i ≡ length ks = omega (arith, all) in
        let found = packed_all ks fields bytes same (subst (λ n. PackedSoFar ks fields n bytes) end so_far) in
        no_row found.0 found.1
    go (suc left) i bytes all so_far =
        no_bad i (
          omega (arith, all),
          λ value reads. go left (i + 1) _ (omega (arith, all)) (packed_more ks fields i bytes Bigint_kind [] value (omega (arith, all))
              (omega (arith, all, same)) reads so_far),
          so_far.0,
          so_far.1,
        )

-- records stand for rows, or there is a first fault
rows_or_fault : (ks : List Kind) (records : List (List (List ℕ))) → ((rows : List Row) → ¬ (ReadsRows ks records rows))
    → ((row : ℕ) → ¬ (FirstFault ks records (batch.WrongWidth row)))
    → ((row column : ℕ) → ¬ (FirstFault ks records (batch.BadField row column))) → ⊥
rows_or_fault ks records no_rows no_width no_field = go (length records) 0 [] (omega arith) ([], tt, refl)
  where
    go : (left i : ℕ) (bytes : List (List ℕ)) → i + left ≡ length records → RowsSoFar ks records i bytes → ⊥
    go zero i bytes all so_far =
        let found = rows_all ks records i bytes (omega (arith, all)) so_far in
        no_rows found.0 found.1
    go (suc left) i bytes all so_far =
        let fields : List (List ℕ) = slice_index_or records i [] in
        let within : i < length records = omega (arith, all) in
        elim (same_or_other (length fields) (length ks)) [
          | inr other ↦ no_width i (record { place = i; within = within; before = (so_far.0, so_far.1); fault = (refl, other) })
          | inl same ↦
              row_or_bad ks fields same
              (λ row reads. go left (i + 1) _ (omega (arith, all)) (rows_more ks records i bytes fields row (packing row) within refl reads
              refl so_far))
              (λ column bad. no_field i column
              (record { place = i; within = within; before = (so_far.0, so_far.1); fault = (refl, same, bad) }))
        ]

-- a feed's fields and records are a batch, or why not
batch_or_not : (ks : List Kind) (origin number : List ℕ) (told : ℕ) (owned : List Record)
    → ((fed : Fed) → ¬ (IsBatch ks origin number told owned fed)) → ((w : Refusal) → ¬ (IsNoBatch ks origin number told owned w)) → ⊥
batch_or_not ks origin number told owned no_batch none = no batch.BadBatchHead (λ e. cc) (λ head. headed head (cases_lt MAX_ROWS told))
  where
    no : (error : BatchError) → error ≢ batch.NoMemory → ¬ (BuildFault ks origin number told owned error)
    no error found fault = none (batch_refusal error) (record { error = error; found = found; fault = fault; named = refl })

    counted : HeadReads origin number → told ≤ MAX_ROWS → (length owned ≡ told) ⊎ (length owned ≢ told) → ⊥
    counted head few (inr other) = no batch.RowCount (λ e. cc) (head, few, other)
    counted head few (inl whole) =
        rows_or_fault ks owned
        (λ rows reads. no_batch (record { origin = head.origin_value; number = head.number_value; rows = rows })
        (record { origin_is = head.reads_origin; number_is = head.reads_number; few = few; whole = whole; rows_are = reads }))
        (λ row fault. no (batch.WrongWidth row) (λ e. cc) (head, few, whole, fault))
        (λ row column fault. no (batch.BadField row column) (λ e. cc) (head, few, whole, fault))

    headed : HeadReads origin number → (MAX_ROWS < told) ⊎ (told ≤ MAX_ROWS) → ⊥
    headed head (inl many) = no batch.TooManyRows (λ e. cc) (head, many)
    headed head (inr few) = counted head few (same_or_other (length owned) told)

columns_answered : (told : Option (List Column)) (text : List ℕ) → ((reply : machine.Reply) → ¬ (ColumnsReply told text reply)) → ⊥
columns_answered (Some columns) text none = none (machine.Refused why.BadCommand) refl
columns_answered None text none =
    none (machine.Refused why.BadSchema)
    (inr (record {
      refusal = why.BadSchema;
      is_so = (
        refl,
        λ columns is. none (machine.Has_columns columns)
            (inl (record { what = columns; is_so = is; says = refl })),
      );
      says = refl;
    }))

query_answered : (columns : Option (List Column)) (query : Option Checked) (text : List ℕ)
    → ((reply : machine.Reply) → ¬ (QueryReply columns query text reply)) → ⊥
query_answered None query text none = none (machine.Refused why.BadCommand) refl
query_answered (Some columns) (Some query) text none = none (machine.Refused why.BadCommand) refl
query_answered (Some columns) None text none = go (parsing columns text) refl
  where
    go : (result : Result Checked ParseError) → parsing columns text ≡ result → ⊥
    go (Ok query) is = none (machine.Has_query query)
        (inl (record { what = query; is_so = parses_accepts columns text query is; says = refl }))
    go (Err error) is =
        none (machine.Refused (query_refusal error))
        (inr (record {
          refusal = query_refusal error;
          is_so = record {
            error = error;
            fault = parses_refuses columns text error is;
            named =
                refl;
          };
          says = refl;
        }))

feed_answered : (columns : List Column) (known : Option Knowledge) (name origin number : List ℕ) (told : ℕ) (owned : List Record)
    → ((reply : machine.Reply) → ¬ (FeedReply columns known name origin number told owned reply)) → ⊥
feed_answered columns None name origin number told owned none = none (machine.Refused why.NoSuchName) refl
feed_answered columns (Some known) name origin number told owned none =
    batch_or_not (kinds columns) origin number told owned
    (λ fed is. none (machine.Took name fed (reply_of known (fed.origin, fed.number)))
    (inl (record { what = fed; is_so = is; says = refl })))
    (λ w is. none (machine.Refused w) (inr (record { refusal = w; is_so = is; says = refl })))

some_said : (old : State) (request : Request) (owned : List Record) → ((reply : machine.Reply) → ¬ (Replies old request owned reply))
    → ⊥
some_said old (ask.Columns text) owned none = columns_answered old.columns text none
some_said old (ask.Query text) owned none = query_answered old.columns old.query text none
some_said old (ask.Limit bytes) owned none = none (limit_reply bytes) refl
some_said old (ask.Replica name) owned none = none (replica_reply old.query (old.replicas name) name) refl
some_said old (ask.Feed name origin number told) owned none = feed_answered (unwrap_or old.columns []) (old.replicas name) name origin
    number told owned none
some_said old (ask.Known name) owned none = none (known_reply (old.replicas name)) refl
some_said old (ask.Answer name) owned none = none (answer_reply old.query (old.replicas name)) refl
some_said old (ask.Merge into from) owned none = none (merge_reply (old.replicas into) (old.replicas from) into from) refl
some_said old (ask.Save name saved) owned none = none (save_reply old.query (old.replicas name) saved) refl
some_said old (ask.Load name saved) owned none = none (load_reply (old.saved saved) name) refl
some_said old ask.Unknown owned none = none (machine.Refused why.BadCommand) refl

pub some_reply : (old : State) (request : Request) (owned : List Record) → ((reply : machine.Reply) → ¬ (Exactly old request owned reply))
    → ⊥
some_reply old request owned none = some_said old request owned (λ reply is. none reply (exactly old request owned reply is))
