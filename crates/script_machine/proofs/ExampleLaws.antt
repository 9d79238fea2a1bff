-- README's first script: its commands, their replies and texts, and that there are no others.
use Rattle.std.specs.Prelude.{◌≡◌, ◌≤◌, refl, ℕ, zero, suc, pos, true, false, nat_lt, List, [], ◌∷◌, ◌++◌, length, take, codes, All}
use Rattle.std.specs.Prelude.{Contains, FitsSigned, Some, None, Ok}
use Rattle.std.specs.Int.{w64}
use Rattle.std.specs.List.{AllByRecursion, list_all}
use Rattle.std.proofs.Common.{◌∙◌, ap, sym, subst, arith, inl, lit<, lit≤}
use Rattle.std.proofs.lemmas.Int.{ints}
use Rattle.std.proofs.lemmas.Bool.{true≢false}
use Rattle.std.proofs.lemmas.List.Elements.{All-from_recursion}
use Rattle.grouping_model.specs.Aggregates.{Count_rows, Sum}
use Rattle.grouping_model.specs.Answer.{answer_over}
use Rattle.grouping_model.specs.Datum.{Bigint, HasKinds, IsText, Text, Text_kind}
use Rattle.grouping_model.specs.MemberLaws.{all_member, from_contains}
use Rattle.grouping_model.specs.World.{known_rows}
use Rattle.grouping_model.specs.declared.delivered.Delivered.TheVariants.{Early, Folded}
use Rattle.group_parser.specs.Lemmas.ParseLaws.{parses_accepts}
use Rattle.having_filter.specs.Kept.{headers}
use Rattle.packed_rows.specs.Columns as packed
use Rattle.packed_rows.specs.PrintedLaws.{one_schema}
use Rattle.query_checks.specs.Forms.{Call, Column}
use Rattle.replies.specs.Text.{answer_text}
use Rattle.script_commands.specs.Commands as ask
use Rattle.script_commands.specs.Commands.{Request}
use Rattle.table_print.specs.Table.{table_text}
use Rattle.script_machine.proofs.AgreementLaws.{is_world}
use Rattle.script_machine.proofs.BatchLaws.{one_fed}
use Rattle.script_machine.proofs.Reasons.{exactly}
use Rattle.script_machine.proofs.ReplyLaws.{one_reply}
use Rattle.script_machine.proofs.RunLaws.{answered_of_exact, front_right, right_fronts}
unfoldable use Rattle.script_machine.proofs.RunLaws.{RightAlong}
use Rattle.script_machine.proofs.Words.{Accepts, AgreesAt, AgreesWith, AreExact, As, As_nothing, Bigint_kind, Checked, Command, Exactly}
use Rattle.script_machine.proofs.Words.{Fed, FeedAgrees, For_fault, For_memory, IsBatch, IsOfColumns, IsReply, IsSchemaText, IsWorld}
use Rattle.script_machine.proofs.Words.{Knowledge, Reads, Record, As_defined, Row, State, World, after, is_refused, request_of}
use Rattle.script_machine.proofs.Words.{TellsWhy}
unfoldable use Rattle.script_machine.proofs.Words.{Along}
use Rattle.script_machine.proofs.Words.{kinds, learn, meaning, nothing, parsing, start, world_of}
use Rattle.script_machine.specs.Example.{HasFirstOutput, first_output, first_script}
use Rattle.script_machine.specs.Exact.{IsExactOutput}
use Rattle.script_machine.specs.Headline.{commands_in}
use Rattle.script_machine.specs.Machine as machine
use Rattle.script_machine.specs.Machine.{Reply}
use Rattle.script_machine.specs.Text.{joined, reply_text}
unfoldable use Rattle.agg_protocol.specs.Signatures.{function_named}
unfoldable use Rattle.csv.specs.Machine.{next_record}
unfoldable use Rattle.csv.specs.Reading.{records_from, strip_bom}
unfoldable use Rattle.csv.specs.Writing.{fields_text, is_blank}
unfoldable use Rattle.std.specs.Fmt.{digits}
unfoldable use Rattle.std.specs.List.{IsDistinct}
unfoldable use Rattle.std.specs.Str.{chars, is_utf8}
unfoldable use Rattle.group_parser.specs.Parsing.{asked_in}
unfoldable use Rattle.packed_rows.specs.Columns.{Describes, kind_named}
unfoldable use Rattle.query_checks.specs.Arrangement.{checked_arrangement}
unfoldable use Rattle.query_checks.specs.Checks.{checked, checked_places}
unfoldable use Rattle.query_checks.specs.Operators.{comparison_named}
unfoldable use Rattle.query_grammar.specs.Reading.{and_at, argument_at, call_at, chain_at, cmp_at, condition_at, enclosed_at, filter_at}
unfoldable use Rattle.query_grammar.specs.Reading.{looked_for, nested_at, not_at, or_at, prim_at, test_at, tested, word_at as operand_at}
unfoldable use Rattle.query_grammar.specs.Terminals.{symbol_number}
unfoldable use Rattle.query_grammar.specs.Whole.{alias_at, alias_or_none, clause_at, end_at, item_at}
unfoldable use Rattle.query_grammar.specs.Whole.{item_value_at, keys_at, query_at}
unfoldable use Rattle.query_grammar.specs.Lists.{list_at}
unfoldable use Rattle.query_grammar.specs.Arrangement.{arrangement_at, direction_at, first_or_last, nulls_at, order_at, target_at, term_at}
unfoldable use Rattle.query_tokens.specs.Bytes.{symbol_of_one, symbol_of_two}
unfoldable use Rattle.query_tokens.specs.Reserved.{is_reserved}
unfoldable use Rattle.query_tokens.specs.Tokens.{integer_at, name_at, string_content, symbol_at, text_at, tokens_at, word_at}
unfoldable use Rattle.script_commands.specs.Commands.{commands_after, owned_by, request_of}

-- ---- its commands

abbrev rec_columns : Record
rec_columns = codes "columns" ∷ codes "shop text, amount bigint" ∷ []

abbrev rec_query : Record
rec_query = codes "query" ∷ codes "select shop, count(*), sum(amount) from batches group by shop" ∷ []

abbrev rec_replica : Record
rec_replica = codes "replica" ∷ codes "north" ∷ []

abbrev rec_feed : List ℕ → Record
rec_feed number = codes "feed" ∷ codes "north" ∷ codes "0" ∷ number ∷ codes "1" ∷ []

abbrev rec_bergen : Record
rec_bergen = codes "bergen" ∷ codes "7" ∷ []

abbrev rec_oslo : Record
rec_oslo = codes "oslo" ∷ codes "5" ∷ []

abbrev rec_answer : Record
rec_answer = codes "answer" ∷ codes "north" ∷ []

abbrev command : Record → List Record → Command
command head owned = record { head = head; owned = owned }

-- the commands from each of them on
abbrev last_command : List Command
last_command = command rec_answer [] ∷ []

abbrev from_oslo : List Command
from_oslo = command (rec_feed (codes "1")) (rec_oslo ∷ []) ∷ last_command

abbrev from_bergen : List Command
from_bergen = command (rec_feed (codes "2")) (rec_bergen ∷ []) ∷ from_oslo

abbrev from_replica : List Command
from_replica = command rec_replica [] ∷ from_bergen

abbrev from_query : List Command
from_query = command rec_query [] ∷ from_replica

abbrev first_commands : List Command
first_commands = command rec_columns [] ∷ from_query

commands_are : commands_in first_script ≡ first_commands
unfolding records_from next_record strip_bom commands_after owned_by
commands_are = refl

-- ---- what they say

abbrev schema_text : List ℕ
schema_text = codes "shop text, amount bigint"

abbrev query_text : List ℕ
query_text = codes "select shop, count(*), sum(amount) from batches group by shop"

abbrev first_columns : List packed.Column
first_columns = record { name = codes "shop"; kind = Text_kind } ∷ record { name = codes "amount"; kind = Bigint_kind } ∷ []

abbrev first_query : Checked
first_query = record {
  columns = first_columns;
  written = record {
    items = (Column 0, None) ∷ (Call Count_rows None, None) ∷ (Call Sum (Some 1), None) ∷ [];
    condition = None;
    keys = 0 ∷ [];
    having = None;
  };
  arrangement = record { order = [] };
}

parsed : parsing first_columns query_text ≡ Ok first_query
unfolding asked_in name_at integer_at string_content text_at symbol_at word_at tokens_at is_reserved symbol_of_one symbol_of_two
    item_value_at alias_or_none alias_at item_at list_at clause_at keys_at target_at direction_at first_or_last nulls_at term_at order_at
    arrangement_at end_at query_at filter_at argument_at call_at operand_at enclosed_at prim_at cmp_at looked_for tested chain_at test_at
    not_at and_at
    or_at nested_at condition_at symbol_number function_named checked_places checked_arrangement checked comparison_named
parsed = refl

is_query : Accepts first_columns query_text first_query
is_query = parses_accepts first_columns query_text first_query parsed

is_schema : IsSchemaText schema_text first_columns
unfolding name_at integer_at string_content text_at symbol_at word_at tokens_at is_reserved symbol_of_one symbol_of_two Describes
    kind_named IsDistinct
is_schema = record {
  tokens = _;
  read = refl;
  described = (record { named = refl; of_kind = refl }, record { named = refl; of_kind = refl });
  columns_are = record {
    some = lit≤ tt;
    most = lit≤ tt;
    named = (
      record { legal = record { begins = refl; continues = refl; lower = refl; within = lit≤ tt }; free = refl },
      (record { legal = record { begins = refl; continues = refl; lower = refl; within = lit≤ tt }; free = refl }, tt),
    );
    distinct = ((refl, tt), (tt, tt));
  };
}

-- ---- its batches

abbrev north : List ℕ
north = codes "north"

-- bytes above 0 that aren't those of a null are a text
no_zero : (bytes : List ℕ) → list_all (λ b. nat_lt 0 b) bytes ≡ true → ¬ (Contains bytes 0)
no_zero bytes above there =
    let passes = all_member (λ b. nat_lt 0 b) bytes 0 above (from_contains bytes 0 there) in
    absurd (true≢false (sym passes))

bergen_text : IsText (codes "bergen")
unfolding lib.Utf8.encode
bergen_text =
    ((codes "bergen", (refl, refl)), lit≤ tt, no_zero (codes "bergen") refl, λ e. absurd (let n = ap length e in omega (arith, n)))

oslo_text : IsText (codes "oslo")
unfolding lib.Utf8.encode
oslo_text = ((codes "oslo", (refl, refl)), lit≤ tt, no_zero (codes "oslo") refl, λ e. absurd (let n = ap length e in omega (arith, n)))

five_fits : FitsSigned w64 (pos 5)
five_fits = record { sfits = grind (arith, ints) }

seven_fits : FitsSigned w64 (pos 7)
seven_fits = record { sfits = grind (arith, ints) }

abbrev bergen_rows : List Row
bergen_rows = (Text (codes "bergen") ∷ Bigint (pos 7) ∷ []) ∷ []

abbrev oslo_rows : List Row
oslo_rows = (Text (codes "oslo") ∷ Bigint (pos 5) ∷ []) ∷ []

abbrev bergen : Fed
bergen = record { origin = 0; number = 2; rows = bergen_rows }

abbrev oslo : Fed
oslo = record { origin = 0; number = 1; rows = oslo_rows }

bergen_is : IsBatch (kinds first_columns) (codes "0") (codes "2") 1 (rec_bergen ∷ []) bergen
bergen_is = record {
  origin_is = record { reads = refl; within = lit≤ tt };
  number_is = record { reads = refl; above = lit≤ tt; within = lit≤ tt };
  few = lit≤ tt;
  whole = refl;
  rows_are = (((bergen_text, refl), (((lit< tt, (lit< tt, tt)), seven_fits, refl), tt)), tt);
}

oslo_is : IsBatch (kinds first_columns) (codes "0") (codes "1") 1 (rec_oslo ∷ []) oslo
oslo_is = record {
  origin_is = record { reads = refl; within = lit≤ tt };
  number_is = record { reads = refl; above = lit≤ tt; within = lit≤ tt };
  few = lit≤ tt;
  whole = refl;
  rows_are = (((oslo_text, refl), (((lit< tt, (lit< tt, tt)), five_fits, refl), tt)), tt);
}

-- ---- its replies

abbrev with_columns : State
with_columns = after start (machine.Has_columns first_columns)

abbrev with_query : State
with_query = after with_columns (machine.Has_query first_query)

abbrev with_north : State
with_north = after with_query (machine.Created north)

abbrev with_bergen : State
with_bergen = after with_north (machine.Took north bergen Early)

abbrev with_oslo : State
with_oslo = after with_bergen (machine.Took north oslo (Folded 2))

abbrev both : Knowledge
both = learn (learn nothing (0, 2)) (0, 1)

abbrev feed_two : Request
feed_two = ask.Feed north (codes "0") (codes "2") 1

abbrev feed_one : Request
feed_one = ask.Feed north (codes "0") (codes "1") 1

abbrev first_replies : List Reply
first_replies =
    machine.Has_columns first_columns ∷ machine.Has_query first_query ∷ machine.Created north ∷ machine.Took north bergen Early
    ∷ machine.Took north oslo (Folded 2) ∷ machine.Answered first_query both ∷ []

columns_told : Exactly start (ask.Columns schema_text) [] (machine.Has_columns first_columns)
columns_told = exactly start (ask.Columns schema_text) [] (machine.Has_columns first_columns)
    (inl (record { what = first_columns; is_so = is_schema; says = refl }))

query_told : Exactly with_columns (ask.Query query_text) [] (machine.Has_query first_query)
query_told = exactly with_columns (ask.Query query_text) [] (machine.Has_query first_query)
    (inl (record { what = first_query; is_so = is_query; says = refl }))

north_made : Exactly with_query (ask.Replica north) [] (machine.Created north)
north_made = (refl, tt)

bergen_taken : Exactly with_north feed_two (rec_bergen ∷ []) (machine.Took north bergen Early)
bergen_taken = exactly with_north feed_two (rec_bergen ∷ []) (machine.Took north bergen Early)
    (inl (record { what = bergen; is_so = bergen_is; says = refl }))

oslo_taken : Exactly with_bergen feed_one (rec_oslo ∷ []) (machine.Took north oslo (Folded 2))
oslo_taken = exactly with_bergen feed_one (rec_oslo ∷ []) (machine.Took north oslo (Folded 2))
    (inl (record { what = oslo; is_so = oslo_is; says = refl }))

north_answered : Exactly with_oslo (ask.Answer north) [] (machine.Answered first_query both)
north_answered = (refl, tt)

-- ---- their texts

abbrev answer_line : List ℕ
answer_line = codes "answer 2\nshop,count,sum\nbergen,1,7\noslo,1,5\n"

abbrev query_told_again : List ℕ
query_told_again = codes "query SELECT shop, count(*), sum(amount) FROM batches GROUP BY shop\n"

abbrev first_texts : List (List ℕ)
first_texts =
    codes "columns 2\n" ∷ query_told_again ∷ codes "replica north\n" ∷ codes "early\n" ∷ codes "folded upto 2\n" ∷ answer_line ∷ []

-- the table over rows
abbrev answer_over_rows : List Row → List ℕ
answer_over_rows rows =
    let table = answer_over (meaning first_query) rows in
    answer_text (length table) (table_text (headers first_query) table)

rows_known : (world : World) → world 0 1 ≡ Some oslo_rows → world 0 2 ≡ Some bergen_rows → known_rows world both
    ≡ oslo_rows ++ bergen_rows
rows_known world one two = rw (one, two) refl

table_is : answer_over_rows (oslo_rows ++ bergen_rows) ≡ answer_line
unfolding digits fields_text is_blank
table_is = refl

answer_is : (world : World) → world 0 1 ≡ Some oslo_rows → world 0 2 ≡ Some bergen_rows
    → reply_text world (machine.Answered first_query both) ≡ answer_line
answer_is world one two = ap answer_over_rows (rows_known world one two) ∙ table_is

query_line : (world : World) → reply_text world (machine.Has_query first_query)
    ≡ query_told_again
query_line world = refl

-- ---- so these are right

along : (world : World) → RightAlong world start first_commands first_replies first_texts
unfolding RightAlong request_of is_utf8 chars lib.Utf8.encode digits
along world = λ a. (
  As_defined columns_told,
  refl,
  λ b. (
    As_defined query_told,
    sym (query_line world),
    λ c. (
      As_defined north_made,
      refl,
      λ d. (
        As_defined bergen_taken,
        refl,
        λ e. (
          As_defined oslo_taken,
          refl,
          λ f. (As_defined north_answered, sym (answer_is world (e.1 oslo oslo_is) (d.1 bergen bergen_is)), tt),
        ),
      ),
    ),
  ),
)

exact_fronts : (front : ℕ) → AreExact (take front (commands_in first_script)) (take front first_replies) (take front first_texts)
exact_fronts = subst (λ cs. (front : ℕ) → AreExact (take front cs) (take front first_replies) (take front first_texts)) (sym commands_are)
    (λ front world. front_right world start first_commands first_replies first_texts (along world) front)

first_right : IsExactOutput first_script first_output
first_right = record {
  is_right = record {
    replies = first_replies;
    texts = first_texts;
    each = ap length (sym commands_are);
    each_text = refl;
    answered = λ front. answered_of_exact (take front (commands_in first_script)) (take front first_replies) (take front first_texts)
        (exact_fronts front);
    whole = refl;
  };
  tells = λ front history keeps. (exact_fronts front history keeps).0;
}

-- ---- and no others are, where no command is refused

abbrev first_world : World
first_world = world_of (oslo ∷ bergen ∷ [])

is_of_columns : (fed : Fed) → fed.origin ≤ 1023 → 1 ≤ fed.number → fed.number ≤ 4294967295 → length fed.rows ≤ 1048576
    → All (HasKinds (kinds first_columns)) fed.rows → IsOfColumns first_columns fed
is_of_columns fed origin first last few rows = record { origin = origin; first = first; last = last; few = few; rows = rows }

of_the_columns : IsWorld (kinds first_columns) first_world
of_the_columns = is_world (oslo ∷ bergen ∷ []) first_columns (All-from_recursion (IsOfColumns first_columns) (oslo ∷ bergen ∷ []) (
  is_of_columns oslo (lit≤ tt) (lit≤ tt) (lit≤ tt) (lit≤ tt)
      (All-from_recursion (HasKinds (kinds first_columns)) oslo_rows ((oslo_text, (five_fits, tt)), tt)),
  (
    is_of_columns bergen (lit≤ tt) (lit≤ tt) (lit≤ tt) (lit≤ tt)
        (All-from_recursion (HasKinds (kinds first_columns)) bergen_rows ((bergen_text, (seven_fits, tt)), tt)),
    tt,
  ),
))

-- what is read tells columns that the world has
agrees_read : {X : Type 0} (holds : X → Type 0) (accepting : X → Reply) (reply : Reply)
    → ((x : X) → holds x → AgreesWith first_world (accepting x)) → Reads holds accepting reply → AgreesWith first_world reply
agrees_read holds accepting reply agrees (As x is says) = subst (AgreesWith first_world) (sym says) (agrees x is)
agrees_read holds accepting reply agrees (As_nothing none why says) = subst (AgreesWith first_world) (sym says) tt

-- a reply that is no refusal is the exact one
one_right : (old : State) (request : Request) (owned : List Record) (reply wanted : Reply) → IsReply Exactly old request owned reply
    → is_refused reply ≡ false → Exactly old request owned wanted → reply ≡ wanted
one_right old request owned reply wanted (As_defined is) ok exact = one_reply old request owned reply wanted is exact
one_right old request owned reply wanted (For_memory is) ok exact = absurd (true≢false (sym (ap is_refused is) ∙ ok))
one_right old request owned reply wanted (For_fault uses is) ok exact = absurd (true≢false (sym (ap is_refused is) ∙ ok))

abbrev NoneRefused : List Reply → Type 0
NoneRefused replies = AllByRecursion (λ reply. is_refused reply ≡ false) replies

-- what is left of right replies, of which none is a refusal, behind the first
pub record Left (later : State) (cs : List Command) (ts : List (List ℕ)) (text : List ℕ) : Type 0 where
  pub replies : List Reply
  pub texts : List (List ℕ)
  pub right : RightAlong first_world later cs replies texts
  pub sound : NoneRefused replies
  pub whole : joined ts ≡ text ++ joined texts

next : (old : State) (request : Request) (c : Command) (cs : List Command) (wanted : Reply) (text : List ℕ) (xs : List Reply)
    (ts : List (List ℕ)) → request_of c.head ≡ request
    → ((reply : Reply) → AgreesAt first_world old request c.owned reply) → Exactly old request c.owned wanted
    → reply_text first_world wanted ≡ text
    → RightAlong first_world old (c ∷ cs) xs ts → NoneRefused xs → Left (after old wanted) cs ts text
unfolding RightAlong
next old request c cs wanted text (x ∷ xs) (t ∷ ts) asks agrees exact says right sound =
    let here = right (subst (λ r. AgreesAt first_world old r c.owned x) (sym asks) (agrees x)) in
    let same : x ≡ wanted = one_right old request c.owned x wanted (subst (λ r. IsReply Exactly old r c.owned x) asks here.0) sound.0 exact
    in
    record {
      replies = xs;
      texts = ts;
      right = subst (λ y. RightAlong first_world (after old y) cs xs ts) same here.2;
      sound = sound.1;
      whole = ap (λ u. u ++ joined ts) (here.1 ∙ ap (reply_text first_world) same ∙ says);
    }
next old request c cs wanted text [] ts asks agrees exact says right sound = absurd right
next old request c cs wanted text (x ∷ xs) [] asks agrees exact says right sound = absurd right

none_left : (later : State) (xs : List Reply) (ts : List (List ℕ)) → RightAlong first_world later [] xs ts → joined ts ≡ []
unfolding RightAlong
none_left later [] [] right = refl
none_left later [] (t ∷ ts) right = absurd right
none_left later (x ∷ xs) ts right = absurd right

-- the history has each batch that is fed
feed_agrees : (old : State) (name origin number : List ℕ) (told : ℕ) (owned : List Record) (known : Knowledge) (fed : Fed)
    → old.replicas name ≡ Some known → old.columns ≡ Some first_columns → IsBatch (kinds first_columns) origin number told owned fed
    → first_world fed.origin fed.number ≡ Some fed.rows → FeedAgrees first_world old (ask.Feed name origin number told) owned
feed_agrees old name origin number told owned known fed there columns is has =
    rw (there, columns) (λ other batch. subst (λ (f : Fed). first_world f.origin f.number ≡ Some f.rows)
    (one_fed (kinds first_columns) origin number told owned fed other is batch) has)

columns_asked : request_of rec_columns ≡ ask.Columns schema_text
unfolding request_of is_utf8 chars lib.Utf8.encode
columns_asked = refl

query_asked : request_of rec_query ≡ ask.Query query_text
unfolding request_of is_utf8 chars lib.Utf8.encode
query_asked = refl

north_asked : request_of rec_replica ≡ ask.Replica north
unfolding request_of
north_asked = refl

two_asked : request_of (rec_feed (codes "2")) ≡ feed_two
unfolding request_of
two_asked = refl

one_asked : request_of (rec_feed (codes "1")) ≡ feed_one
unfolding request_of
one_asked = refl

answer_asked : request_of rec_answer ≡ ask.Answer north
unfolding request_of
answer_asked = refl

module _ (xs : List Reply) (ts : List (List ℕ)) (right : RightAlong first_world start first_commands xs ts) (sound : NoneRefused xs) where
  behind_columns : Left with_columns from_query ts (codes "columns 2\n")
  unfolding digits
  behind_columns = next start (ask.Columns schema_text) (command rec_columns []) from_query
      (machine.Has_columns first_columns) (codes "columns 2\n")
      xs ts columns_asked
      (λ reply. (
        agrees_read (IsSchemaText schema_text) machine.Has_columns reply
            (λ columns is. subst (λ cs. IsWorld (kinds cs) first_world) (one_schema schema_text first_columns columns is_schema is)
            of_the_columns),
        tt,
      ))
      columns_told refl right sound

  behind_query : Left with_query from_replica behind_columns.texts query_told_again
  behind_query = next with_columns (ask.Query query_text) (command rec_query []) from_replica
      (machine.Has_query first_query) query_told_again behind_columns.replies
      behind_columns.texts query_asked
      (λ reply. (agrees_read (Accepts first_columns query_text) machine.Has_query reply (λ query is. tt), tt))
      query_told (query_line first_world) behind_columns.right behind_columns.sound

  behind_north : Left with_north from_bergen behind_query.texts (codes "replica north\n")
  behind_north = next with_query (ask.Replica north) (command rec_replica []) from_bergen
      (machine.Created north) (codes "replica north\n") behind_query.replies
      behind_query.texts north_asked (λ reply. (λ is. subst (AgreesWith first_world) (sym is) tt, tt)) north_made refl behind_query.right
      behind_query.sound

  behind_bergen : Left with_bergen from_oslo behind_north.texts (codes "early\n")
  behind_bergen = next with_north feed_two (command (rec_feed (codes "2")) (rec_bergen ∷ [])) from_oslo
      (machine.Took north bergen Early) (codes "early\n")
      behind_north.replies behind_north.texts two_asked
      (λ reply. (
        agrees_read (IsBatch (kinds first_columns) (codes "0") (codes "2") 1 (rec_bergen ∷ [])) _ reply (λ fed is. tt),
        feed_agrees with_north north (codes "0") (codes "2") 1 (rec_bergen ∷ []) nothing bergen refl refl bergen_is refl,
      ))
      bergen_taken refl behind_north.right behind_north.sound

  behind_oslo : Left with_oslo last_command behind_bergen.texts (codes "folded upto 2\n")
  unfolding digits
  behind_oslo = next with_bergen feed_one (command (rec_feed (codes "1")) (rec_oslo ∷ [])) last_command
      (machine.Took north oslo (Folded 2)) (codes "folded upto 2\n")
      behind_bergen.replies behind_bergen.texts one_asked
      (λ reply. (
        agrees_read (IsBatch (kinds first_columns) (codes "0") (codes "1") 1 (rec_oslo ∷ [])) _ reply (λ fed is. tt),
        feed_agrees with_bergen north (codes "0") (codes "1") 1 (rec_oslo ∷ []) (learn nothing (0, 2)) oslo refl refl oslo_is refl,
      ))
      oslo_taken refl behind_bergen.right behind_bergen.sound

  behind_answer : Left with_oslo [] behind_oslo.texts answer_line
  behind_answer = next with_oslo (ask.Answer north) (command rec_answer []) [] (machine.Answered first_query both) answer_line
      behind_oslo.replies behind_oslo.texts answer_asked (λ reply. (λ is. subst (AgreesWith first_world) (sym is) tt, tt)) north_answered
      (answer_is first_world refl refl) behind_oslo.right behind_oslo.sound

  only_texts : joined ts ≡ first_output
  only_texts =
      behind_columns.whole ∙ ap (λ l. codes "columns 2\n" ++ l) (behind_query.whole
      ∙ ap (λ l. query_told_again ++ l) (behind_north.whole
      ∙ ap (λ l. codes "replica north\n" ++ l) (behind_bergen.whole
      ∙ ap (λ l. codes "early\n" ++ l) (behind_oslo.whole
      ∙ ap (λ l. codes "folded upto 2\n" ++ l) (behind_answer.whole
      ∙ ap (λ l. answer_line ++ l) (none_left with_oslo behind_answer.replies behind_answer.texts behind_answer.right))))))

-- a reply that is no refusal needs no reason
tells_none : (old : State) (request : Request) (owned : List Record) (reply : Reply) → is_refused reply ≡ false
    → TellsWhy old request owned reply
tells_none old (ask.Columns text) owned (machine.Refused why) sound = absurd (true≢false sound)
tells_none old (ask.Query text) owned (machine.Refused why) sound = absurd (true≢false sound)
tells_none old (ask.Feed name origin number told) owned (machine.Refused why) sound = absurd (true≢false sound)
tells_none old request owned reply sound = tt

exact_reply : (old : State) (request : Request) (owned : List Record) (reply : Reply) → is_refused reply ≡ false
    → IsReply machine.Replies old request owned reply → IsReply Exactly old request owned reply
exact_reply old request owned reply sound (As_defined is) = As_defined (is, tells_none old request owned reply sound)
exact_reply old request owned reply sound (For_memory is) = For_memory is
exact_reply old request owned reply sound (For_fault uses is) = For_fault uses is

exact_if_none_refused : (old : State) (cs : List Command) (xs : List Reply) → AllByRecursion (λ reply. is_refused reply ≡ false) xs
    → Along (IsReply machine.Replies) old cs xs → Along (IsReply Exactly) old cs xs
unfolding Along
exact_if_none_refused old [] [] sound all = tt
exact_if_none_refused old (c ∷ cs) (x ∷ xs) sound all =
    (exact_reply old (request_of c.head) c.owned x sound.0 all.0, exact_if_none_refused (after old x) cs xs sound.1 all.1)
exact_if_none_refused old [] (x ∷ xs) sound all = absurd all
exact_if_none_refused old (c ∷ cs) [] sound all = absurd all

taken : (P : Reply → Type 0) (n : ℕ) (xs : List Reply) → AllByRecursion P xs → AllByRecursion P (take n xs)
taken P zero xs all = tt
taken P (suc n) [] all = tt
taken P (suc n) (x ∷ xs) all = (all.0, taken P n xs all.1)

pub has_first_output : HasFirstOutput
has_first_output = record {
  right = first_right;
  only = λ output given sound.
      let fronts : (front : ℕ) → AreExact (take front (commands_in first_script)) (take front given.replies) (take front given.texts) =
      λ front history keeps.
      let right = given.answered front history keeps in (
        exact_if_none_refused start (take front (commands_in first_script)) (take front given.replies)
            (taken (λ reply. is_refused reply ≡ false) front given.replies sound) right.0,
        right.1,
      ) in
      let right : RightAlong first_world start (commands_in first_script) given.replies given.texts =
      right_fronts first_world start (commands_in first_script) given.replies given.texts given.each given.each_text
      (λ front. fronts front first_world) in
      given.whole ∙ only_texts given.replies given.texts
      (subst (λ cs. RightAlong first_world start cs given.replies given.texts) commands_are right) sound;
}
