-- Files that are taken one after the other.
use Rattle.std.specs.Prelude.{◌≡◌, ◌≢◌, refl, ◌+◌, ◌^◌, ◌<◌, ℕ, suc, Bool, List, [], ◌∷◌, ◌++◌, length, Option, Some}
use Rattle.std.specs.Prelude.{Result, Ok, Err, IfErr, OnOk}
use Rattle.std.specs.Result.{is_err}
use Rattle.std.proofs.Common.{◌∙◌, ap, inl, inr, sym, subst, arith}
use Rattle.std.proofs.lemmas.List.{length-append}
use Rattle.std.proofs.lemmas.List.Elements.{filter-append}
use Rattle.script_io.specs.Fused.{written}
use Rattle.tape_disks.specs.Files.{SystemState}
use Rattle.tape_disks.specs.declared.spill_disk.SpillDisk.{SpillDisk}
use Rattle.hash_agg.specs.Means.{MeansState}
use Rattle.hash_agg.specs.declared.work.Work.{Work}
use Rattle.replica_merge.specs.Replicas.{Held}
use Rattle.replies.specs.declared.ending.ExitKind.TheVariants.{Fault}
use Rattle.refusals.specs.declared.refusal.Refusal.{Refusal}
use Rattle.replies.specs.declared.reply.Reply.{Reply}
use Rattle.replies.specs.declared.reply.Reply.TheVariants.{Refused}
use Rattle.command_replicas.specs.Commands.{IsTooLong}
use Rattle.file_sentences.specs.declared.reasons.FileKind.{FileKind}
use Rattle.command_streams.specs.Disks.{is_in_memory}
use Rattle.command_streams.specs.Stopping.{ending_of}
use Rattle.command_streams.specs.declared.problem.Problem.{Problem}
use Rattle.command_files.specs.Causes.{IsUnsaved, RefusesOut, StopsAtOut}
use Rattle.command_files.specs.Reporting.{output_of, reply_on_output, OnlySays, Prints}
use Rattle.command_files.specs.Taking.{Takes, TakesFile, RanFile, TakenFile, CommandState, Manner, TakesOne, TakesEach, TakesAll}
use Rattle.command_files.specs.Taking.{manner_of, state_of, refused_of, StopsAt}
use Rattle.command_files.specs.declared.reporter.Reporter.{Reporter}
use Rattle.command_files.proofs.ReportingLaws.{replied_behind, says_more}

-- a refusal that is told as it was
pub told_as : (kind : FileKind) (honest : Bool) (file : List ℕ) (old new : Held) (why told : Refusal) → told ≡ why
    → Takes kind honest file old new (Err why) → Takes kind honest file old new (Err told)
told_as kind honest file old new why told same takes = subst (λ w. Takes kind honest file old new (Err w)) (sym same) takes

-- over a disk that is as honest
pub took_over : (kind : FileKind) (honest memory : Bool) (file : List ℕ) (old new : Held) (result : Result Reply Refusal)
    → honest ≡ memory → Takes kind honest file old new result → Takes kind memory file old new result
took_over kind honest memory file old new result same takes = subst (λ h. Takes kind h file old new result) same takes

-- what a file took that is refused, where the refusal is told as it was
pub ran_as : {F H : Type 0} (kind : FileKind) (file : Option (List ℕ)) (held : Held) (means : MeansState H) (why told : Refusal)
    (before : SpillDisk (SystemState F)) (begun : Work) (after : SpillDisk (SystemState F)) (done : Work) → told ≡ why
    → RanFile kind file held means (Err why) before begun after done → RanFile kind file held means (Err told) before begun after done
ran_as kind file held means why told before begun after done same ran =
    subst (λ w. RanFile kind file held means (Err w) before begun after done) (sym same) ran

-- the place behind some files, counted from the second or from the first
behind_first : (place count : ℕ) → place + suc count ≡ (place + 1) + count
behind_first place count = omega arith

behind_none : (place : ℕ) → place + 0 ≡ place
behind_none place = omega arith

-- some files, and more behind them
each_more : {F H : Type 0} (manner : Manner H) (place : ℕ) (files more : List TakenFile) (old mid new : CommandState F)
    → TakesEach manner place files old mid → TakesEach manner (place + length files) more mid new
    → TakesEach manner place (files ++ more) old new
each_more manner place [] more old mid new before after =
    subst (λ s. TakesEach manner place more s new) before
    (subst (λ n. TakesEach manner n more mid new) (behind_none place) after)
each_more manner place (file ∷ files) more old mid new (held, takes, rest) after = (
  held,
  takes,
  each_more manner (place + 1) files more held mid new rest
      (subst (λ n. TakesEach manner n more mid new) (behind_first place (length files)) after),
)

refused_of-append : (files more : List TakenFile) → refused_of (files ++ more) ≡ refused_of files + refused_of more
refused_of-append files more = ap length (filter-append (λ (file : TakenFile). is_err file.told) files more) ∙ length-append _ _

-- none of both was passed over where none is counted
all_both : (passed between now few more both : ℕ) → both ≡ few + more → (between ≡ 0 → (passed ≡ 0) × (few ≡ 0))
    → (now ≡ 0 → (between ≡ 0) × (more ≡ 0)) → now ≡ 0 → (passed ≡ 0) × (both ≡ 0)
all_both passed between now few more both is before after none =
    let later = after none in let earlier = before later.0 in (earlier.0, omega (arith, is, earlier.1, later.1))

-- those of both are counted
counted_both : (passed between now few more both : ℕ) → both ≡ few + more → (passed + few < 2 ^ 64 → between ≡ passed + few)
    → (between + more < 2 ^ 64 → now ≡ between + more) → passed + both < 2 ^ 64 → now ≡ passed + both
counted_both passed between now few more both is before after low =
    let first : between ≡ passed + few = before (omega (arith, low, is)) in
    let second : now ≡ between + more = after (omega (arith, low, is, first)) in omega (arith, is, first, second)

pub takes_more : {F H : Type 0} (manner : Manner H) (place few more : ℕ) (old mid new : CommandState F) (passed between now : ℕ)
    → TakesAll manner place few old mid passed between → TakesAll manner (place + few) more mid new between now
    → TakesAll manner place (few + more) old new passed now
takes_more manner place few more old mid new passed between now before after = record {
  files = before.files ++ after.files;
  many = let both = length-append before.files after.files in omega (arith, both, before.many, after.many);
  each = each_more manner place before.files after.files old mid new before.each
      (subst (λ n. TakesEach manner (place + n) after.files mid new) (sym before.many) after.each);
  counted = counted_both passed between now (refused_of before.files) (refused_of after.files) (refused_of (before.files ++ after.files))
      (refused_of-append before.files after.files) before.counted after.counted;
  all = all_both passed between now (refused_of before.files) (refused_of after.files) (refused_of (before.files ++ after.files))
      (refused_of-append before.files after.files) before.all after.all;
}

-- no file is taken yet
pub takes_none : {F H : Type 0} (manner : Manner H) (place : ℕ) (state : CommandState F) (passed : ℕ)
    → TakesAll manner place 0 state state passed passed
takes_none manner place state passed =
    record { files = []; many = refl; each = refl; counted = λ low. omega arith; all = λ none. (none, refl) }

-- one file is taken
takes_one : {F H : Type 0} (manner : Manner H) (place : ℕ) (file : TakenFile) (old new : CommandState F) (passed now : ℕ)
    → TakesOne manner place file old new → (passed + refused_of (file ∷ []) < 2 ^ 64 → now ≡ passed + refused_of (file ∷ []))
    → (now ≡ 0 → (passed ≡ 0) × (refused_of (file ∷ []) ≡ 0)) → TakesAll manner place 1 old new passed now
takes_one manner place file old new passed now takes counted all =
    record { files = file ∷ []; many = refl; each = (new, takes, refl); counted = counted; all = all }

-- one with a reply, which leaves the count
pub takes_replied : {F H W E : Type 0} (contents : W → Option (List ℕ)) (kind : FileKind) (means : MeansState H) (place : ℕ)
    (bytes : Option (List ℕ)) (reply : Reply) (held held_now : Held) (disk disk_now : SpillDisk (SystemState F)) (work work_now : Work)
    (start mid end : Reporter W E) (listed : Option ℕ) (passed now : ℕ)
    → TakesFile kind (is_in_memory disk) bytes held held_now (Ok reply)
    → RanFile kind bytes held means (Ok reply) disk work disk_now work_now → OnlySays start mid
    → Prints contents mid end (reply_on_output mid.is_piped reply) → now ≡ passed
    → TakesAll (manner_of kind means disk start.is_piped listed) place 1 (state_of held disk work (output_of contents start))
    (state_of held_now disk_now work_now (output_of contents end)) passed now
takes_replied contents kind means place bytes reply held held_now disk disk_now work work_now start mid end listed passed now takes ran says
    prints same =
    takes_one _ place (record { bytes = bytes; told = Ok reply }) _ _ passed now (record {
      takes = takes;
      ran = ran;
      replied = (replied_behind contents start mid end reply says prints).output;
      goes_on = tt;
    }) (λ low. omega (arith, same)) (λ none. (sym same ∙ none, refl))

-- one that is passed over
pub takes_refused : {F H W E A X : Type 0} (contents : W → Option (List ℕ)) (kind : FileKind) (means : MeansState H) (place : ℕ)
    (bytes : Option (List ℕ)) (why : Refusal) (held held_now : Held) (disk disk_now disk_end : SpillDisk (SystemState F))
    (work work_now work_end : Work) (start mid end : Reporter W E) (listed listed_now : Option ℕ) (passed between now : ℕ)
    (written : Result A X)
    → TakesFile kind (is_in_memory disk) bytes held held_now (Err why)
    → RanFile kind bytes held means (Err why) disk work disk_now work_now → disk_end ≡ disk_now → work_end ≡ work_now
    → OnlySays start mid → listed_now ≡ listed → between ≡ passed
    → OnOk written (ending_of why ≢ Fault) → OnOk written (listed_now ≢ Some place)
    → OnOk written (between + 1 < 2 ^ 64 → now ≡ between + 1) → OnOk written (now ≢ 0)
    → OnOk written (Prints contents mid end (reply_on_output mid.is_piped (Refused why)))
    → OnOk written (TakesAll (manner_of kind means disk start.is_piped listed) place 1
    (state_of held disk work (output_of contents start)) (state_of held_now disk_end work_end (output_of contents end)) passed now)
takes_refused contents kind means place bytes why held held_now disk disk_now disk_end work work_now work_end start mid end listed
    listed_now passed between now (Err error) takes ran same_disk same_work says same_listed same goes_on spares counted some prints = tt
takes_refused contents kind means place bytes why held held_now disk disk_now disk_end work work_now work_end start mid end listed
    listed_now passed between now (Ok done) takes ran same_disk same_work says same_listed same goes_on spares counted some prints =
    takes_one _ place (record { bytes = bytes; told = Err why }) _ _ passed now (record {
      takes = takes;
      ran = subst (λ d. RanFile kind bytes held means (Err why) disk work d work_end) (sym same_disk)
          (subst (λ w. RanFile kind bytes held means (Err why) disk work disk_now w) (sym same_work) ran);
      replied = (replied_behind contents start mid end (Refused why) says prints).output;
      goes_on = (goes_on, subst (λ l. l ≢ Some place) same_listed spares);
    })
    (λ low. let one : now ≡ between + 1 = counted (omega (arith, low, same)) in omega (arith, same, one)) (λ none. absurd (some none))

-- by a manner that is the same
pub takes_as : {F H : Type 0} (kind : FileKind) (means : MeansState H) (disk first : SpillDisk (SystemState F)) (piped was_piped : Bool)
    (listed was_listed : Option ℕ) (place count : ℕ) (old new : CommandState F) (passed now : ℕ)
    → is_in_memory disk ≡ is_in_memory first → piped ≡ was_piped → listed ≡ was_listed
    → TakesAll (manner_of kind means disk piped listed) place count old new passed now
    → TakesAll (manner_of kind means first was_piped was_listed) place count old new passed now
takes_as kind means disk first piped was_piped listed was_listed place count old new passed now same_disk same_piped same_listed takes =
    subst (λ l. TakesAll (manner_of kind means first was_piped l) place count old new passed now) same_listed
    (subst (λ p. TakesAll (manner_of kind means first p listed) place count old new passed now) same_piped
    (subst (λ h. TakesAll (record { kind = kind; means = means; honest = h; is_piped = piped; listed = listed }) place count old new passed
    now) same_disk takes))

-- no file is taken yet, and only something was said
pub takes_none_yet : {F H W E : Type 0} (contents : W → Option (List ℕ)) (manner : Manner H) (place : ℕ) (held : Held)
    (disk : SpillDisk (SystemState F)) (work : Work) (start mid : Reporter W E) (passed : ℕ) → OnlySays start mid
    → TakesAll manner place 0 (state_of held disk work (output_of contents start)) (state_of held disk work (output_of contents mid)) passed
    passed
takes_none_yet contents manner place held disk work start mid passed says =
    subst (λ w. TakesAll manner place 0 (state_of held disk work (output_of contents start)) (state_of held disk work (written contents w))
    passed passed) (sym says.output) (takes_none manner place (state_of held disk work (output_of contents start)) passed)

-- ---- commands that stop at a file, or behind the last

-- a file that is OUT was refused, and nothing was written
pub refuses_out : {F H W E A : Type 0} (kind : FileKind) (means : MeansState H) (place : ℕ) (file : Option (List ℕ)) (why : Refusal)
    (held held_now : Held) (disk : SpillDisk (SystemState F)) (start mid end : Reporter W E) (listed listed_now : Option ℕ)
    (passed : Result A Problem) → TakesFile kind (is_in_memory disk) file held held_now (Err why) → OnlySays start mid
    → listed_now ≡ listed → IfErr passed (λ stopped. StopsAt listed_now place stopped.why)
    → IfErr passed (λ stopped. ending_of stopped.why ≢ Fault → (stopped.why ≡ why) × OnlySays mid end)
    → IfErr passed (λ stopped. ending_of stopped.why ≢ Fault
    → RefusesOut (manner_of kind means disk start.is_piped listed) place held stopped.why × OnlySays start end)
refuses_out kind means place file why held held_now disk start mid end listed listed_now (Ok done) takes says same stops cause = tt
refuses_out kind means place file why held held_now disk start mid end listed listed_now (Err stopped) takes says same (inl fault) cause =
    λ sound. absurd (sound fault)
refuses_out kind means place file why held held_now disk start mid end listed listed_now (Err stopped) takes says same (inr is_out) cause =
    λ sound. let found = cause sound in (
      (sym same ∙ is_out, file, held_now, subst (λ w. TakesFile kind (is_in_memory disk) file held held_now (Err w)) (sym found.0) takes),
      says_more start mid end says found.1,
    )

-- by a manner that is the same
pub refuses_as : {F H : Type 0} (kind : FileKind) (means : MeansState H) (disk first : SpillDisk (SystemState F)) (piped was_piped : Bool)
    (listed was_listed : Option ℕ) (place : ℕ) (held : Held) (why : Refusal) → is_in_memory disk ≡ is_in_memory first
    → listed ≡ was_listed → RefusesOut (manner_of kind means disk piped listed) place held why
    → RefusesOut (manner_of kind means first was_piped was_listed) place held why
refuses_as kind means disk first piped was_piped listed was_listed place held why same_disk same_listed (is_out, file, new, refused) =
    (sym same_listed ∙ is_out, file, new, subst (λ h. TakesFile kind h file held new (Err why)) same_disk refused)

-- and that was behind others that were taken
pub stops_at : {F H W E : Type 0} (contents : W → Option (List ℕ)) (manner : Manner H) (count before place : ℕ) (old : CommandState F)
    (held : Held) (disk : SpillDisk (SystemState F)) (work : Work) (passed passed_now : ℕ) (taken new : Reporter W E) (why : Refusal)
    → TakesAll manner 1 before old (state_of held disk work (output_of contents taken)) passed passed_now → before < count
    → place ≡ before + 1 → RefusesOut manner place held why → OnlySays taken new
    → StopsAtOut manner count old passed (output_of contents new) why
stops_at contents manner count before place old held disk work passed passed_now taken new why takes few same refuses says = record {
  before = before;
  mid = state_of held disk work (output_of contents taken);
  passed_now = passed_now;
  few = few;
  takes = takes;
  refuses = subst (λ n. RefusesOut manner n held why) same refuses;
  kept = ap (written contents) says.output;
}

-- or all were taken, and the replica was not saved
pub stops_behind : {F H W E : Type 0} (contents : W → Option (List ℕ)) (manner : Manner H) (count : ℕ) (old : CommandState F)
    (held : Held) (disk : SpillDisk (SystemState F)) (work : Work) (passed passed_now : ℕ) (taken new : Reporter W E) (why : Refusal)
    → TakesAll manner 1 count old (state_of held disk work (output_of contents taken)) passed passed_now → IsTooLong held why
    → OnlySays taken new → IsUnsaved manner count old passed (output_of contents new) why
stops_behind contents manner count old held disk work passed passed_now taken new why takes long says = record {
  mid = state_of held disk work (output_of contents taken);
  passed_now = passed_now;
  takes = takes;
  long = long;
  kept = ap (written contents) says.output;
}
