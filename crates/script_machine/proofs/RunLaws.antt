-- What follows of commands that are executed one after the other.
use Rattle.std.specs.Prelude.{◌≡◌, ◌+◌, refl, ℕ, zero, suc, Bool, IsTrue, if◌then◌else◌, List, [], ◌∷◌, ◌++◌, length, map}
use Rattle.std.specs.Prelude.{sum_by, count_by, drop, take, codes, Option, Some, None, MatchOption}
use Rattle.std.proofs.Common.{◌∙◌, ap, sym, subst, arith, append_assoc}
use Rattle.std.proofs.lemmas.List.{append-nil, append_cancel_left, append_cancel_right}
use Rattle.std.proofs.Math.Nat.{le_trans}
use Rattle.std.proofs.lemmas.List.Sums.{sum_by-cons, sum_by-append}
use Rattle.std.proofs.lemmas.Grind.{flat_map-append}
use Rattle.std.specs.Io.KnownBytes.{Appends}
use Rattle.std.proofs.KnownBytes.{Appends-nil, Appends-trans}
use Rattle.script_machine.proofs.Words.{DiskFrame, World, Record, Command, request_of, State}
use Rattle.script_machine.proofs.Words.{AllMayRead, AreExact, Exactly, Refused, Run, Step, Along, MayReply}
use Rattle.script_machine.proofs.Words.{IsReply, Agrees, AgreesAt, As_always, For_fault, For_memory, As_defined, start, after}
use Rattle.script_machine.proofs.Words.{is_refused, is_fault, line}
use Rattle.script_machine.proofs.Words.{refusal_name, said_text, is_refusal, is_tape_fault, faults_in, Store, empty, Represents, FitsWorld}
use Rattle.script_machine.proofs.Words.{Answers, Steps, Executes, Executed, ExecutesAllBut, AreWritten, IsSaid, StopsInLast, said_texts}
use Rattle.csv.specs.Records.{fields_of}
use Rattle.key_hashes.specs.declared.sip_hash.Seed.{Seed}
use Rattle.tape_disks.specs.declared.disk.TapeDisk.{Ghosts}
use Rattle.script_io.specs.Output.{StopsShort}
use Rattle.script_io.specs.OutputLaws.{short-first, short-second}
use Rattle.script_commands.specs.Commands.{Request, command_at, commands_of, owned_by}
use Rattle.script_commands.specs.declared.command.Command as read
use Rattle.script_machine.specs.Headline.{AreAnswered}
use Rattle.script_machine.specs.Machine as machine
use Rattle.script_machine.specs.Machine.{Reply, Replies}
use Rattle.script_machine.specs.Text.{joined, reply_text, replies_text}
use Rattle.script_machine.specs.Output.{Disk, IsOutput, LeavesSome, WritesAll, WritesFront, disk_over}
use Rattle.refusals.specs.declared.refusal.Refusal.TheVariants.{NoMemory}
use Rattle.refusals.specs.Refusals.{tells_fault}
use Rattle.replies.specs.declared.reply.Reply as code
use Rattle.replies.specs.declared.reply.Reply.TheVariants as says

-- ---- steps all along

along_length : (step : Step) (old : State) (cs : List Command) (xs : List Reply) → Along step old cs xs → length xs ≡ length cs
unfolding Along
along_length step old [] [] p = refl
along_length step old (c ∷ cs) (x ∷ xs) p = ap suc (along_length step (after old x) cs xs p.1)
along_length step old [] (x ∷ xs) p = absurd p
along_length step old (c ∷ cs) [] p = absurd p

-- a step that follows from another follows from it all along
pub along_weaker : (P Q : Step) → ((old : State) (request : Request) (owned : List Record) (reply : Reply) → P old request owned reply
    → Q old request owned reply) → (old : State) (commands : List Command) (replies : List Reply) → Along P old commands replies
    → Along Q old commands replies
unfolding Along
along_weaker P Q weaker old [] [] all = tt
along_weaker P Q weaker old (c ∷ commands) (r ∷ replies) all =
    (weaker old (request_of c.head) c.owned r all.0, along_weaker P Q weaker (after old r) commands replies all.1)
along_weaker P Q weaker old [] (r ∷ replies) all = absurd all
along_weaker P Q weaker old (c ∷ commands) [] all = absurd all

along_append : (step : Step) (old : State) (cs ds : List Command) (xs ys : List Reply) → Along step old cs xs
    → ((later : State) → Along step later ds ys) → Along step old (cs ++ ds) (xs ++ ys)
unfolding Along
along_append step old [] ds [] ys p q = q old
along_append step old (c ∷ cs) ds (x ∷ xs) ys p q = (p.0, along_append step (after old x) cs ds xs ys p.1 q)
along_append step old [] ds (x ∷ xs) ys p q = absurd p
along_append step old (c ∷ cs) ds [] ys p q = absurd p

reads_length : (xs : List Reply) (ts : List (List ℕ)) → AllMayRead xs ts → length ts ≡ length xs
unfolding AllMayRead
reads_length [] [] p = refl
reads_length (x ∷ xs) (t ∷ ts) p = ap suc (reads_length xs ts p.1)
reads_length [] (t ∷ ts) p = absurd p
reads_length (x ∷ xs) [] p = absurd p

reads_append : (xs ys : List Reply) (ts us : List (List ℕ)) → AllMayRead xs ts → AllMayRead ys us → AllMayRead (xs ++ ys) (ts ++ us)
unfolding AllMayRead
reads_append [] ys [] us p q = q
reads_append (x ∷ xs) ys (t ∷ ts) us p q = (p.0, reads_append xs ys ts us p.1 q)
reads_append [] ys (t ∷ ts) us p q = absurd p
reads_append (x ∷ xs) ys [] us p q = absurd p

-- replies and their texts are right, one after the other, for as long as a world has what is fed
unfoldable pub RightAlong : World → State → List Command → List Reply → List (List ℕ) → Type 0
RightAlong world old [] [] [] = Unit {0}
RightAlong world old (c ∷ cs) (x ∷ xs) (t ∷ ts) = AgreesAt world old (request_of c.head) c.owned x
    → IsReply Exactly old (request_of c.head) c.owned x × (t ≡ reply_text world x) × RightAlong world (after old x) cs xs ts
RightAlong world old cs xs ts = ⊥

right_append : (world : World) (old : State) (cs ds : List Command) (xs ys : List Reply) (ts us : List (List ℕ))
    → RightAlong world old cs xs ts → ((later : State) → RightAlong world later ds ys us)
    → RightAlong world old (cs ++ ds) (xs ++ ys) (ts ++ us)
unfolding RightAlong
right_append world old [] ds [] ys [] us p q = q old
right_append world old (c ∷ cs) ds (x ∷ xs) ys (t ∷ ts) us p q = λ agrees.
    let here = p agrees in
    (here.0, here.1, right_append world (after old x) cs ds xs ys ts us here.2 q)
right_append world old [] ds [] ys (t ∷ ts) us p q = absurd p
right_append world old [] ds (x ∷ xs) ys ts us p q = absurd p
right_append world old (c ∷ cs) ds [] ys ts us p q = absurd p
right_append world old (c ∷ cs) ds (x ∷ xs) ys [] us p q = absurd p

-- then those of each front are right
pub front_right : (world : World) (old : State) (cs : List Command) (xs : List Reply) (ts : List (List ℕ)) → RightAlong world old cs xs ts
    → (n : ℕ) → Agrees world old (take n cs) (take n xs)
    → Along (IsReply Exactly) old (take n cs) (take n xs) × (joined (take n ts) ≡ replies_text world (take n xs))
unfolding RightAlong Along
front_right world old cs xs ts right zero agrees = (tt, refl)
front_right world old [] [] [] right (suc n) agrees = (tt, refl)
front_right world old (c ∷ cs) (x ∷ xs) (t ∷ ts) right (suc n) agrees =
    let here = right agrees.0 in
    let rest = front_right world (after old x) cs xs ts here.2 n agrees.1 in
    ((here.0, rest.0), λ i. here.1 i ++ rest.1 i)
front_right world old [] [] (t ∷ ts) right (suc n) agrees = absurd right
front_right world old [] (x ∷ xs) ts right (suc n) agrees = absurd right
front_right world old (c ∷ cs) [] ts right (suc n) agrees = absurd right
front_right world old (c ∷ cs) (x ∷ xs) [] right (suc n) agrees = absurd right

-- ---- commands that are executed

-- a disk is as honest as it was
honest_steps : (was is : Bool) (request : Request) (owned : List Record) (store next : Store) (reply : code.Reply) → is ≡ was
    → Steps is request owned store reply next → Steps was request owned store reply next
honest_steps was is request owned store next reply same steps = subst (λ h. Steps h request owned store reply next) same steps

-- a reply is a refusal, and tells a failure of the tape disk, where that of the machine does
same_kind : (said : Reply) (reply : code.Reply) → IsSaid said reply
    → (is_refusal reply ≡ is_refused said) × (is_tape_fault reply ≡ is_fault said)
same_kind (machine.Has_columns columns) (says.Columns count) is = (refl, refl)
same_kind (machine.Has_query query) (says.Query text) is = (refl, refl)
same_kind (machine.Has_limit bytes) (says.Limit limit) is = (refl, refl)
same_kind (machine.Created name) (says.Created made) is = (refl, refl)
same_kind (machine.Took name fed delivered) (says.Delivered told) is = (refl, refl)
same_kind (machine.Merged into from) says.Merged is = (refl, refl)
same_kind (machine.Saved saved query known) (says.Saved count) is = (refl, refl)
same_kind (machine.Loaded name known) says.Loaded is = (refl, refl)
same_kind (machine.Listed list) (says.Listed lines) is = (refl, refl)
same_kind (machine.Answered query known) (says.Answer rows table) is = (refl, refl)
same_kind (machine.Refused why) (says.Refused told) is = (refl, ap tells_fault is)
same_kind said reply is = absurd is

-- what the machine does meanwhile: its replies, and what is told of them by those of the code
pub record Comes (honest : Bool) (state : State) (commands : List Command) (answers : List code.Reply) (old : Store) : Type 0 where
  pub replies : List Reply
  pub runs : Run honest state commands replies
  pub faults : count_by is_fault replies ≡ sum_by faults_in answers
  pub refused : count_by is_refused replies ≡ count_by is_refusal answers
  pub reads : AllMayRead replies (map said_text answers)
  pub right : IsTrue honest → (world : World) → FitsWorld world old → RightAlong world state commands replies (map said_text answers)

none_come : (honest : Bool) (state : State) (old : Store) → Comes honest state [] [] old
unfolding Along AllMayRead RightAlong
none_come honest state old =
    record { replies = []; runs = tt; faults = refl; refused = refl; reads = tt; right = λ so world fits. tt }

one_comes : (honest : Bool) (state : State) (c : Command) (cs : List Command) (answer : code.Reply) (answers : List code.Reply)
    (old next : Store) (is : Answers honest state (request_of c.head) c.owned old answer next)
    → Comes honest (after state is.said) cs answers next → Comes honest state (c ∷ cs) (answer ∷ answers) old
unfolding Along AllMayRead RightAlong
one_comes honest state c cs answer answers old next is rest = record {
  replies = is.said ∷ rest.replies;
  runs = (is.may, rest.runs);
  faults = sum_by-cons (λ r. if is_fault r then 1 else 0) is.said rest.replies
      ∙ (λ i. (if sym (same_kind is.said answer is.is).1 i then 1 else 0) + rest.faults i) ∙ sym (sum_by-cons faults_in answer answers);
  refused = sum_by-cons (λ r. if is_refused r then 1 else 0) is.said rest.replies
      ∙ (λ i. (if sym (same_kind is.said answer is.is).0 i then 1 else 0) + rest.refused i)
      ∙ sym (sum_by-cons (λ r. if is_refusal r then 1 else 0) answer answers);
  reads = (is.reads, rest.reads);
  right = λ so world fits agrees. (
    is.strict so world fits agrees,
    is.text so world fits agrees,
    rest.right so world (is.fits so world fits agrees),
  );
}

comes : {D : Type 0} (g : Ghosts D) (honest : Bool) (state : State) (old new : Store) (before after_all : D) (cs : List Command)
    (answers : List code.Reply) → g.honest before ≡ honest → Represents state old → Executed g old before cs answers new after_all
    → Comes honest state cs answers old
unfolding Executed
comes g honest state old new before last [] [] so is done = none_come honest state old
comes g honest state old new before last (c ∷ cs) (answer ∷ answers) so is done =
    let step = (honest_steps honest (g.honest before) (request_of c.head) c.owned old done.0 answer so done.2.answers).steps state is in
    one_comes honest state c cs answer answers old done.0 step
    (comes g honest (after state step.said) done.0 new done.1 last cs answers (done.2.disk.honesty ∙ so) step.represents done.3)
comes g honest state old new before last [] (answer ∷ answers) so is done = absurd done
comes g honest state old new before last (c ∷ cs) [] so is done = absurd done

-- how often the disk failed meanwhile
executed_faults : {D : Type 0} (g : Ghosts D) (old new : Store) (before last : D) (cs : List Command) (answers : List code.Reply)
    → Executed g old before cs answers new last → g.failures last ≡ g.failures before + sum_by faults_in answers
unfolding Executed
executed_faults g old new before last [] [] done =
    let none : g.failures last ≡ g.failures before = ap g.failures done.1 in
    omega (arith, none)
executed_faults g old new before last (c ∷ cs) (answer ∷ answers) done =
    let rest = executed_faults g done.0 new done.1 last cs answers done.3 in
    let here = done.2.disk.failures in
    let all = sum_by-cons faults_in answer answers in
    omega (arith, rest, here, all)
executed_faults g old new before last [] (answer ∷ answers) done = absurd done
executed_faults g old new before last (c ∷ cs) [] done = absurd done

-- one command more
executed_more : {D : Type 0} (g : Ghosts D) (old mid new : Store) (before disk last : D) (cs : List Command) (answers : List code.Reply)
    (c : Command) (answer : code.Reply) → Executed g old before cs answers mid disk
    → Executes g (request_of c.head) c.owned mid disk answer new last
    → Executed g old before (cs ++ c ∷ []) (answers ++ answer ∷ []) new last
unfolding Executed
executed_more g old mid new before disk last [] [] c answer done step = (
  new,
  last,
  subst (λ store. Executes g (request_of c.head) c.owned store before answer new last) done.0
      (subst (λ d. Executes g (request_of c.head) c.owned mid d answer new last) done.1 step),
  (refl, refl),
)
executed_more g old mid new before disk last (d ∷ cs) (x ∷ answers) c answer done step =
    (done.0, done.1, done.2, executed_more g done.0 mid new done.1 disk last cs answers c answer done.3 step)
executed_more g old mid new before disk last [] (x ∷ answers) c answer done step = absurd done
executed_more g old mid new before disk last (d ∷ cs) [] c answer done step = absurd done

executed_none : {D : Type 0} (g : Ghosts D) (store : Store) (disk : D) → Executed g store disk [] [] store disk
unfolding Executed
executed_none g store disk = (refl, refl)

-- ---- a run of commands

-- the texts of replies and of one more
one_text_more : (replies : List code.Reply) (reply : code.Reply) → said_texts (replies ++ reply ∷ []) ≡ said_texts replies ++ said_text reply
one_text_more replies reply = flat_map-append said_text replies (reply ∷ [])
    ∙ ap (λ l. said_texts replies ++ l) (append-nil (said_text reply))

-- what stops in the last reply stops short of all
pub stops_short : (old new : Option (List ℕ)) (replies : List code.Reply) → StopsInLast old new replies
    → StopsShort old new (said_texts replies)
stops_short old new replies wrote = subst (λ all. StopsShort old new (said_texts all)) (sym wrote.all)
    (subst (StopsShort old new) (sym (one_text_more wrote.whole wrote.last))
    (short-second old wrote.mid new (said_texts wrote.whole) (said_text wrote.last) wrote.writes wrote.stops))

-- all commands but those that are left were executed, and their replies are written
pub record RunSoFar {D : Type 0} (g : Ghosts D) (seed : Seed) (commands left : List Command) (before disk : D) (store : Store) (refused : ℕ)
    (old new : Option (List ℕ)) : Type 0 where
  pub done : List Command
  pub all : commands ≡ done ++ left
  pub answers : List code.Reply
  pub each : Executed g (empty seed) before done answers store disk
  pub counts : count_by is_refusal answers ≡ refused
  pub writes : Appends old new (said_texts answers)

pub ran_start : {D : Type 0} (g : Ghosts D) (seed : Seed) (commands : List Command) (disk : D) (store : Store) (known : Option (List ℕ))
    → store ≡ empty seed → RunSoFar g seed commands commands disk disk store 0 known known
ran_start g seed commands disk store known is = record {
  done = [];
  all = refl;
  answers = [];
  each = subst (λ s. Executed g (empty seed) disk [] [] s disk) (sym is) (executed_none g (empty seed) disk);
  counts = refl;
  writes = Appends-nil known;
}

-- all of it was written
pub ran_all : {D : Type 0} (g : Ghosts D) (seed : Seed) (commands left : List Command) (before disk : D) (store : Store) (refused : ℕ)
    (old new : Option (List ℕ)) → RunSoFar g seed commands left before disk store refused old new
    → ExecutesAllBut g seed left commands before disk (AreWritten old new refused)
ran_all g seed commands left before disk store refused old new ran = record {
  done = ran.done;
  all = ran.all;
  replies = ran.answers;
  new = store;
  each = ran.each;
  writes = record { counts = ran.counts; writes = ran.writes };
}

-- it was, where a command is left
pub ran_some : {D : Type 0} (g : Ghosts D) (seed : Seed) (commands left : List Command) (c : Command) (before disk : D) (store : Store)
    (refused : ℕ) (old new : Option (List ℕ)) → RunSoFar g seed commands (c ∷ left) before disk store refused old new
    → (ran : ExecutesAllBut g seed (c ∷ left) commands before disk (AreWritten old new refused)) × LeavesSome ran.done (c ∷ left)
ran_some g seed commands left c before disk store refused old new ran =
    (ran_all g seed commands (c ∷ left) before disk store refused old new ran, λ none. absurd cc)

-- nothing was executed yet
pub ran_none : {D : Type 0} (g : Ghosts D) (seed : Seed) (commands : List Command) (disk : D) (known : Option (List ℕ))
    → (ran : ExecutesAllBut g seed commands commands disk disk (AreWritten known known 0)) × LeavesSome ran.done commands
unfolding ran_all ran_start
ran_none g seed commands disk known =
    let ran = ran_start g seed commands disk (empty seed) known refl in
    (ran_all g seed commands commands disk disk (empty seed) 0 known known ran, λ none. refl)

-- no command is left
pub ran_done : {D : Type 0} (g : Ghosts D) (seed : Seed) (commands left : List Command) (before disk : D) (store : Store) (refused : ℕ)
    (old new : Option (List ℕ)) → RunSoFar g seed commands left before disk store refused old new → left ≡ []
    → ExecutesAllBut g seed [] commands before disk (AreWritten old new refused)
ran_done g seed commands left before disk store refused old new ran none =
    subst (λ rest. ExecutesAllBut g seed rest commands before disk (AreWritten old new refused)) none
    (ran_all g seed commands left before disk store refused old new ran)

module _ {D : Type 0} {g : Ghosts D} {seed : Seed} {commands left : List Command} {before disk last : D} {store next : Store} {refused : ℕ}
    {old mid : Option (List ℕ)} {c : Command} {reply : code.Reply}
    (ran : RunSoFar g seed commands (c ∷ left) before disk store refused old mid)
    (step : Executes g (request_of c.head) c.owned store disk reply next last) where
  each_more : Executed g (empty seed) before (ran.done ++ c ∷ []) (ran.answers ++ reply ∷ []) next last
  each_more = executed_more g (empty seed) store next before disk last ran.done ran.answers c reply ran.each step

  texts_more : said_texts (ran.answers ++ reply ∷ []) ≡ said_texts ran.answers ++ said_text reply
  texts_more = one_text_more ran.answers reply

  -- it goes on
  pub ran_more : (new : Option (List ℕ)) (more : ℕ) → Appends mid new (said_text reply) → more ≡ refused
      + (if is_refusal reply then 1 else 0) → RunSoFar g seed commands left before last next more old new
  ran_more new more wrote counts = record {
    done = ran.done ++ c ∷ [];
    all = ran.all ∙ sym (append_assoc ran.done (c ∷ []) left);
    answers = ran.answers ++ reply ∷ [];
    each = each_more;
    counts =
        let one : count_by is_refusal (reply ∷ []) ≡ (if is_refusal reply then 1 else 0) = grind arith in
        sum_by-append (λ r. if is_refusal r then 1 else 0) ran.answers (reply ∷ [])
        ∙ (λ i. ran.counts i + one i) ∙ sym counts;
    writes = subst (Appends old new) (sym texts_more) (Appends-trans old mid new _ _ ran.writes wrote);
  }

  -- it stops within a reply
  pub ran_front : (new : Option (List ℕ)) → StopsShort mid new (said_text reply)
      → ExecutesAllBut g seed left commands before last (StopsInLast old new)
  ran_front new wrote = record {
    done = ran.done ++ c ∷ [];
    all = ran.all ∙ sym (append_assoc ran.done (c ∷ []) left);
    replies = ran.answers ++ reply ∷ [];
    new = next;
    each = each_more;
    writes = record { whole = ran.answers; last = reply; all = refl; mid = mid; writes = ran.writes; stops = wrote };
  }

-- the records that are not executed yet: that of the next command, which was read, and those behind it
abbrev pub unexecuted : Option read.Command → List Record → List Record
unexecuted None records = []
unexecuted (Some command) records = fields_of command.head ∷ records

-- what reading the next command tells of what is not executed
abbrev pub IsNext : Option read.Command → List Record → Type 0
IsNext None records = commands_of [] ≡ []
IsNext (Some command) records = commands_of (fields_of command.head ∷ records) ≡ command_at (fields_of command.head) records
    ∷ commands_of (drop (owned_by (fields_of command.head)) records)

-- so it is what there was before
pub next_read : (next : Option read.Command) (old new : List Record) → MatchOption next (commands_of old ≡ [])
    (λ command. commands_of old ≡ command_at (fields_of command.head) new ∷ commands_of (drop (owned_by (fields_of command.head)) new))
    → MatchOption next ((old ≡ []) × (new ≡ [])) (λ command. old ≡ fields_of command.head ∷ new)
    → (unexecuted next new ≡ old) × IsNext next new
next_read None old new found read = (sym read.0, subst (λ records. commands_of records ≡ []) read.0 found)
next_read (Some command) old new found read = (
  sym read,
  subst (λ records. commands_of records ≡ command_at (fields_of command.head) new
      ∷ commands_of (drop (owned_by (fields_of command.head)) new)) read found,
)

-- what two calls leave of a disk, one after the other
pub left_both : {D : Type 0} (g : Ghosts D) (old mid new : D) → (n : ℕ) × DiskFrame g n old mid → (n : ℕ) × DiskFrame g n mid new → (n : ℕ)
    × DiskFrame g n old new
left_both g old mid new (a, first) (b, second) =
    let f = first.failures in
    let s = second.failures in (
      a + b,
      record {
        honesty = second.honesty ∙ first.honesty;
        failures = omega (arith, f, s);
        writes = le_trans first.writes second.writes;
      },
    )

-- ---- outputs

represents_start : (seed : Seed) → Represents start (empty seed)
represents_start seed = record { columns = refl; query = refl; replicas = λ name. refl; saved = λ name. tt; limit = refl }

fits_start : (seed : Seed) (world : World) → FitsWorld world (empty seed)
fits_start seed world = record { of_columns = tt; fit = λ name. tt; files = λ name. tt }

-- commands that were executed have an output, each front of which is right over an honest disk
module _ {D : Type 0} (g : Ghosts D) (seed : Seed) (before last : D) (cs : List Command) (answers : List code.Reply) (new : Store)
    (done : Executed g (empty seed) before cs answers new last) where
  pub answered : Comes (g.honest before) start cs answers (empty seed)
  answered = comes g (g.honest before) start (empty seed) new before last cs answers refl (represents_start seed) done

  pub output : IsOutput (disk_over g before last) cs answered.replies (map said_text answers)
  output = record {
    runs = answered.runs;
    faults = ap (λ n. g.failures before + n) answered.faults ∙ sym (executed_faults g (empty seed) new before last cs answers done);
    reads = answered.reads;
    right = λ so n world agrees. front_right world start cs answered.replies (map said_text answers) (answered.right so world
        (fits_start seed world)) n agrees;
  }

texts_joined : (answers : List code.Reply) → joined (map said_text answers) ≡ said_texts answers
texts_joined [] = refl
texts_joined (answer ∷ answers) = ap (λ ts. said_text answer ++ ts) (texts_joined answers)

-- all of it was written
pub writes_all : {D : Type 0} (g : Ghosts D) (seed : Seed) (commands : List Command) (before last : D) (old new : Option (List ℕ))
    (refused : ℕ) → ExecutesAllBut g seed [] commands before last (AreWritten old new refused)
    → WritesAll (disk_over g before last) commands old new refused
writes_all g seed commands before last old new refused works =
    let whole : commands ≡ works.done = works.all ∙ append-nil works.done in
    let made = answered g seed before last works.done works.replies works.new works.each in
    subst (λ cs. WritesAll (disk_over g before last) cs old new refused) (sym whole) (record {
      replies = made.replies;
      texts = map said_text works.replies;
      output = output g seed before last works.done works.replies works.new works.each;
      counts = made.refused ∙ works.writes.counts;
      writes = subst (Appends old new) (sym (texts_joined works.replies)) works.writes.writes;
    })

-- the front of it was
pub writes_front : {D : Type 0} (g : Ghosts D) (seed : Seed) (left commands : List Command) (before last : D)
    (wrote : List code.Reply → Type 0) (wanted : List ℕ → Type 0)
    → ((replies : List code.Reply) → wrote replies → wanted (said_texts replies))
    → ExecutesAllBut g seed left commands before last wrote → WritesFront (disk_over g before last) commands wanted
writes_front g seed left commands before last wrote wanted so works = record {
  done = works.done;
  left = left;
  all = works.all;
  replies = (answered g seed before last works.done works.replies works.new works.each).replies;
  texts = map said_text works.replies;
  output = output g seed before last works.done works.replies works.new works.each;
  writes = subst wanted (sym (texts_joined works.replies)) (so works.replies works.writes);
}

-- the same where some command is left
pub writes_some : {D : Type 0} (g : Ghosts D) (seed : Seed) (left commands : List Command) (before last : D) (refused : ℕ)
    (old new : Option (List ℕ)) (works : ExecutesAllBut g seed left commands before last (AreWritten old new refused))
    → LeavesSome works.done left
    → (front : WritesFront (disk_over g before last) commands (Appends old new)) × LeavesSome front.done front.left
unfolding writes_front
writes_some g seed left commands before last refused old new works some =
    let wanted = λ (replies : List code.Reply) (wrote : AreWritten old new refused replies). wrote.writes in
    (writes_front g seed left commands before last (AreWritten old new refused) (Appends old new) wanted works, some)

-- ---- the words of outputs

-- an output is right as a whole
take_long : {X : Type 0} (xs : List X) (n : ℕ) → length xs ≡ n → take n xs ≡ xs
take_long [] zero e = refl
take_long [] (suc n) e = refl
take_long (x ∷ xs) zero e = absurd (omega (arith, e))
take_long (x ∷ xs) (suc n) e = ap (λ l. x ∷ l) (take_long xs n (omega (arith, e)))

-- where a reply is given with its reason, it is right
reasons_aside : (old : State) (request : Request) (owned : List Record) (reply : Reply) → IsReply Exactly old request owned reply
    → IsReply Replies old request owned reply
reasons_aside old request owned reply (As_defined is) = As_defined is.0
reasons_aside old request owned reply (For_memory is) = For_memory is
reasons_aside old request owned reply (For_fault uses is) = For_fault uses is

pub answered_of_exact : (commands : List Command) (replies : List Reply) (texts : List (List ℕ)) → AreExact commands replies texts
    → AreAnswered commands replies texts
answered_of_exact commands replies texts exact = λ history keeps.
    let is = exact history keeps in
    (along_weaker (IsReply Exactly) (IsReply Replies) reasons_aside start commands replies is.0, is.1)

-- the lengths of an output
pub output_lengths : (disk : Disk) (commands : List Command) (replies : List Reply) (texts : List (List ℕ))
    → IsOutput disk commands replies texts → (length replies ≡ length commands) × (length texts ≡ length replies)
output_lengths disk commands replies texts is =
    (along_length (MayReply disk.honest) start commands replies is.runs, reads_length replies texts is.reads)

pub right_whole : (disk : Disk) (commands : List Command) (replies : List Reply) (texts : List (List ℕ))
    → IsOutput disk commands replies texts → IsTrue disk.honest → AreExact commands replies texts
right_whole disk commands replies texts is so =
    let lengths = output_lengths disk commands replies texts is in
    subst (λ cs. AreExact cs replies texts) (take_long commands (length commands) refl)
    (subst (λ xs. AreExact (take (length commands) commands) xs texts) (take_long replies (length commands) lengths.0)
    (subst (λ ts. AreExact (take (length commands) commands) (take (length commands) replies) ts)
    (take_long texts (length commands) (lengths.1 ∙ lengths.0)) (is.right so (length commands))))

-- where each front is right, replies are right for as long as a world has what is fed
pub right_fronts : (world : World) (old : State) (cs : List Command) (xs : List Reply) (ts : List (List ℕ)) → length xs ≡ length cs
    → length ts ≡ length xs
    → ((n : ℕ) → Agrees world old (take n cs) (take n xs)
    → Along (IsReply Exactly) old (take n cs) (take n xs) × (joined (take n ts) ≡ replies_text world (take n xs)))
    → RightAlong world old cs xs ts
unfolding RightAlong Along
right_fronts world old [] [] [] same same_texts fronts = tt
right_fronts world old (c ∷ cs) (x ∷ xs) (t ∷ ts) same same_texts fronts = λ agrees.
    let first = fronts 1 (agrees, tt) in
    let text : t ≡ reply_text world x = append_cancel_right t (reply_text world x) [] first.1 in (
      first.0.0,
      text,
      right_fronts world (after old x) cs xs ts (omega (arith, same)) (omega (arith, same_texts)) (λ n rest.
          let more = fronts (suc n) (agrees, rest) in (
            more.0.1,
            append_cancel_left t (joined (take n ts)) (replies_text world (take n xs)) (more.1
                ∙ ap (λ l. l ++ replies_text world (take n xs)) (sym text)),
          )),
    )
right_fronts world old [] [] (t ∷ ts) same same_texts fronts = absurd (omega (arith, same_texts))
right_fronts world old [] (x ∷ xs) ts same same_texts fronts = absurd (omega (arith, same))
right_fronts world old (c ∷ cs) [] ts same same_texts fronts = absurd (omega (arith, same))
right_fronts world old (c ∷ cs) (x ∷ xs) [] same same_texts fronts = absurd (omega (arith, same_texts))

-- each command may be refused because memory ran out
abbrev refusals : List Command → List Reply
refusals commands = map (λ c. Refused NoMemory) commands

abbrev refusal_texts : List Command → List (List ℕ)
refusal_texts commands = map (λ c. line (codes "refused ") (refusal_name NoMemory)) commands

run_refused : (honest : Bool) (old : State) (cs : List Command) → Run honest old cs (refusals cs)
unfolding Along
run_refused honest old [] = tt
run_refused honest old (c ∷ cs) = (As_always (For_memory refl), run_refused honest old cs)

reads_refused : (cs : List Command) → AllMayRead (refusals cs) (refusal_texts cs)
unfolding AllMayRead
reads_refused [] = tt
reads_refused (c ∷ cs) = (λ world. refl, reads_refused cs)

right_refused : (world : World) (old : State) (cs : List Command) → RightAlong world old cs (refusals cs) (refusal_texts cs)
unfolding RightAlong
right_refused world old [] = tt
right_refused world old (c ∷ cs) = λ agrees. (For_memory refl, refl, right_refused world old cs)

no_faults : (cs : List Command) → count_by is_fault (refusals cs) ≡ 0
no_faults [] = refl
no_faults (c ∷ cs) =
    let all = sum_by-cons (λ r. if is_fault r then 1 else 0) (Refused NoMemory) (refusals cs) in
    let rest = no_faults cs in
    omega (arith, all, rest)

-- an output of the first commands with such refusals of the others is one of all
module _ (disk : Disk) (done left : List Command) (replies : List Reply) (texts : List (List ℕ))
    (is : IsOutput disk done replies texts) where
  pub refused_rest : IsOutput disk (done ++ left) (replies ++ refusals left) (texts ++ refusal_texts left)
  refused_rest = record {
    runs = along_append (MayReply disk.honest) start done left replies (refusals left) is.runs
        (λ later. run_refused disk.honest later left);
    faults =
        let all = sum_by-append (λ r. if is_fault r then 1 else 0) replies (refusals left) in
        let none = no_faults left in
        let had = is.faults in
        omega (arith, all, none, had);
    reads = reads_append replies (refusals left) texts (refusal_texts left) is.reads (reads_refused left);
    right = λ so n world. front_right world start (done ++ left) (replies ++ refusals left) (texts ++ refusal_texts left)
        (right_append world start done left replies (refusals left) texts (refusal_texts left)
        (right_fronts world start done replies texts (output_lengths disk done replies texts is).0 (output_lengths disk done replies texts
        is).1 (λ m. is.right so m world)) (λ later. right_refused world later left)) n;
  }

-- so what was written of the first commands is the front of an output of all
pub front_of_all : (disk : Disk) (commands : List Command) (old new : Option (List ℕ)) → WritesFront disk commands (StopsShort old new)
    → (replies : List Reply) × (texts : List (List ℕ)) × IsOutput disk commands replies texts × StopsShort old new (joined texts)
front_of_all disk commands old new front = (
  front.replies ++ refusals front.left,
  front.texts ++ refusal_texts front.left,
  subst (λ cs. IsOutput disk cs (front.replies ++ refusals front.left) (front.texts ++ refusal_texts front.left)) (sym front.all)
      (refused_rest disk front.done front.left front.replies front.texts front.output),
  subst (StopsShort old new) (sym (flat_map-append (λ t. t) front.texts (refusal_texts front.left)))
      (short-first old new (joined front.texts) (joined (refusal_texts front.left)) front.writes),
)
