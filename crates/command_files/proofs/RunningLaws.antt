-- Commands that do their work, and what was said or sent out beside that.
use Rattle.std.specs.Prelude.{◌≡◌, ◌≢◌, refl, ◌⊎◌, ◌==◌, ◌&&◌, ℕ, min, Bool, not, if◌then◌else◌, List, Option, Some, None}
use Rattle.std.specs.Prelude.{true, false, IfSome, IsSome, IsSomeAnd, Result, Ok, Err, IfErr, IfOk, IsOkAnd, OnOk}
use Rattle.std.specs.Io.KnownBytes.{Appends, Keeps}
use Rattle.std.proofs.Common.{◌∙◌, ap, arith, inl, inr, subst, sym, true≢false}
use Rattle.std.proofs.lemmas.Bool.Decides.{nat_tests}
use Rattle.std.proofs.KnownBytes.{Appends-kept, Keeps-refl, Keeps-trans}
use Rattle.clap.specs.declared.parser.matches.ArgMatches.{ArgMatches}
use Rattle.hash_agg.specs.Means.{AreMeans, MeansState}
use Rattle.hash_agg.specs.declared.work.Work.{Work}
use Rattle.tape_disks.specs.Files.{SystemState}
use Rattle.tape_disks.specs.declared.spill_disk.SpillDisk.{SpillDisk}
use Rattle.script_io.specs.Fused.{written}
use Rattle.replica_merge.specs.Replicas.{Held}
use Rattle.replies.specs.declared.ending.ExitKind.{ExitKind}
use Rattle.replies.specs.declared.ending.ExitKind.TheVariants.{BadUsage, Fault}
use Rattle.refusals.specs.declared.refusal.Refusal.{Refusal}
use Rattle.refusals.specs.declared.refusal.Refusal.TheVariants.{BadCommand}
use Rattle.replies.specs.declared.reply.Reply.TheVariants.{Refused}
use Rattle.command_words.specs.declared.subcommands.Subcommand.{Subcommand}
use Rattle.command_words.specs.declared.subcommands.Subcommand.TheVariants.{New, Feed, Merge, Known, Answer}
use Rattle.command_words.specs.Told.{is_out_stream, limit_told}
use Rattle.out_files.specs.Standing.{stops}
use Rattle.file_sentences.specs.declared.reasons.FileKind.{FileKind}
use Rattle.out_files.specs.declared.out.Fate.TheVariants.{Shown}
use Rattle.out_files.specs.declared.out.Standing.{Standing}
use Rattle.command_streams.specs.Stopping.{ending_of}
use Rattle.command_streams.specs.declared.problem.Problem.{Problem}
use Rattle.key_hashes.specs.declared.hash.Fnv1a.{Fnv1a}
use Rattle.command_files.specs.Causes.{HasNoReplica, CannotBegin, IsCause, IsDoneOrStopped, IsFailure, IsRefusedFor, MayStay}
use Rattle.command_files.specs.Causes.{StopsCommand, StopsFiles, StopsWork}
use Rattle.command_files.specs.Ending.{ending_beside, lacking_of}
use Rattle.command_files.specs.Fates.{is_stopped}
use Rattle.command_files.specs.Limits.{limit_of, IsNoLimit, IsOutOfRange}
use Rattle.command_files.specs.Reporting.{output_of, reply_on_output, OnlySays, StopsBy}
use Rattle.command_files.specs.Running.{standpoint_of, BeginsWith, IsDone, Performs, RunsCommand, SavesHeld}
use Rattle.command_files.specs.Running.{StandsAsTold, Standpoint, TakesAndSaves}
use Rattle.command_files.specs.Taking.{CommandState, Manner}
use Rattle.command_files.specs.declared.reporter.Reporter.{Reporter}
use Rattle.command_files.proofs.ReportingLaws.{says_more, says_nothing}

-- an answer lacks batches where its lines tell of some: at most eleven lines, and none only where there are none
zero_of_few : (count waiting : ℕ) → count ≡ min 11 waiting → (count == 0) ≡ (waiting == 0)
zero_of_few count waiting same = grind (arith, nat_tests)

pub lacking_few : (wants_all : Bool) (count waiting : ℕ) → count ≡ min 11 waiting
    → lacking_of wants_all count ≡ lacking_of wants_all waiting
lacking_few wants_all count waiting same =
    ap (λ (zero : Bool). if wants_all && not zero then 1 else 0) (zero_of_few count waiting same)

-- a command stood where it stands, and something was said
stands_as : {F W E : Type 0} (contents : W → Option (List ℕ)) (holds : Standpoint F → Type 0) (disk first : SpillDisk (SystemState F))
    (work begun : Work) (listed was_listed : Option ℕ) (passed was_passed : ℕ) (old mid : Reporter W E) → disk ≡ first → work ≡ begun
    → listed ≡ was_listed → passed ≡ was_passed → OnlySays old mid → holds (standpoint_of contents disk work listed passed mid)
    → holds (standpoint_of contents first begun was_listed was_passed old)
stands_as {F} contents holds disk first work begun listed was_listed passed was_passed old mid same_disk same_work same_listed same_passed
    says done =
    let at = λ (d : SpillDisk (SystemState F)) (w : Work) (l : Option ℕ) (n : ℕ) (p : Bool) (o : Option (List ℕ)).
    holds (record { disk = d; work = w; listed = l; passed = n; is_piped = p; output = o }) in
    subst (λ d. at d begun was_listed was_passed old.is_piped (output_of contents old)) same_disk
    (subst (λ w. at disk w was_listed was_passed old.is_piped (output_of contents old)) same_work
    (subst (λ l. at disk work l was_passed old.is_piped (output_of contents old)) same_listed
    (subst (λ n. at disk work listed n old.is_piped (output_of contents old)) same_passed
    (subst (λ p. at disk work listed passed p (output_of contents old)) says.piped
    (subst (λ o. at disk work listed passed mid.is_piped o) (ap (written contents) says.output) done)))))

-- a command did its work, of the replica that it began with
pub runs_command : {F H W E A X : Type 0} (contents : W → Option (List ℕ)) (subcommand : Subcommand) (matches : ArgMatches)
    (means : MeansState H) (held : Held)
    (disk first : SpillDisk (SystemState F)) (work begun : Work) (listed was_listed : Option ℕ) (passed was_passed passed_now : ℕ)
    (old mid : Reporter W E) (output : Option (List ℕ)) (done : Result A X) → BeginsWith subcommand matches held → disk ≡ first
    → work ≡ begun → listed ≡ was_listed → passed ≡ was_passed → OnlySays old mid
    → OnOk done (Performs subcommand matches means held (standpoint_of contents disk work listed passed mid) passed_now output)
    → OnOk done (RunsCommand subcommand matches means (standpoint_of contents first begun was_listed was_passed old) passed_now output)
runs_command contents subcommand matches means held disk first work begun listed was_listed passed was_passed passed_now old mid output
    (Err error) begins same_disk same_work same_listed same_passed says performs = tt
runs_command {F} contents subcommand matches means held disk first work begun listed was_listed passed was_passed passed_now old mid output
    (Ok value) begins same_disk same_work same_listed same_passed says performs = (
      held,
      begins,
      stands_as contents (λ (from : Standpoint F). Performs subcommand matches means held from passed_now output) disk first work begun
          listed was_listed passed was_passed old mid same_disk same_work same_listed same_passed says performs,
    )

-- all was sent out after a replica was saved, alone or after files were taken
saves_kept : (held : Held) (is_piped : Bool) (old output sent : Option (List ℕ)) → Keeps output sent → SavesHeld held is_piped old output
    → SavesHeld held is_piped old sent
saves_kept held is_piped old output sent kept saves =
    record { file = saves.file; saved = saves.saved; short = saves.short; printed = Appends-kept _ _ _ _ saves.printed kept }

takes_kept : {F H : Type 0} (manner : Manner H) (count : ℕ) (old : CommandState F) (passed passed_now : ℕ) (output sent : Option (List ℕ))
    → Keeps output sent → TakesAndSaves manner count old passed passed_now output → TakesAndSaves manner count old passed passed_now sent
takes_kept manner count old passed passed_now output sent kept done =
    record { mid = done.mid; takes = done.takes; saves = saves_kept _ _ _ output sent kept done.saves }

-- all was sent out after a command did its work
performs_kept : {F H : Type 0} (subcommand : Subcommand) (matches : ArgMatches) (means : MeansState H) (held : Held)
    (from : Standpoint F) (passed_now : ℕ) (output sent : Option (List ℕ)) → Keeps output sent
    → Performs subcommand matches means held from passed_now output → Performs subcommand matches means held from passed_now sent
performs_kept New matches means held from passed_now output sent kept (saves, same) = (saves_kept _ _ _ output sent kept saves, same)
performs_kept Known matches means held from passed_now output sent kept (printed, same) = (Appends-kept _ _ _ _ printed kept, same)
performs_kept Answer matches means held from passed_now output sent kept (table, lacks) = (
  record {
    rows = table.rows;
    table = table.table;
    answers = table.answers;
    printed = Appends-kept _ _ _ _ table.printed kept;
  },
  lacks,
)
performs_kept Feed matches means held from passed_now output sent kept done = takes_kept _ _ _ _ _ output sent kept done
performs_kept Merge matches means held from passed_now output sent kept done = takes_kept _ _ _ _ _ output sent kept done

pub done_kept : (F : Type 0) (subcommand : Subcommand) (matches : ArgMatches) (passed : ℕ) (old output sent : Option (List ℕ))
    → Keeps output sent → IsDone F subcommand matches passed old output → IsDone F subcommand matches passed old sent
done_kept F subcommand matches passed old output sent kept done = record {
  means = done.means;
  from = done.from;
  limited = done.limited;
  within = done.within;
  stands = done.stands;
  begun = done.begun;
  runs = (
    done.runs.0,
    done.runs.1,
    performs_kept subcommand matches done.means done.runs.0 done.from passed output sent kept done.runs.2,
  );
}

-- something was said before a command
pub done_behind : {W E : Type 0} (F : Type 0) (contents : W → Option (List ℕ)) (subcommand : Subcommand) (matches : ArgMatches)
    (passed : ℕ) (old mid : Reporter W E) (output : Option (List ℕ)) → mid.streams.writer.now ≡ old.streams.writer.now
    → IsDone F subcommand matches passed (output_of contents mid) output
    → IsDone F subcommand matches passed (output_of contents old) output
done_behind F contents subcommand matches passed old mid output same done =
    subst (λ w. IsDone F subcommand matches passed (written contents w) output) same done

-- ---- commands that stop

-- a command stopped for a cause that its replica alone has, and nothing was written
pub stops_alone : {W E A : Type 0} (contents : W → Option (List ℕ)) (cause : Refusal → Type 0) (old new : Reporter W E)
    (result : Result A Problem) → IfErr result (λ problem. ending_of problem.why ≢ Fault → cause problem.why × OnlySays old new)
    → IfErr result (λ problem. ending_of problem.why ≢ Fault → (new.is_piped ≡ old.is_piped)
    × ((output_of contents new ≡ output_of contents old) × cause problem.why))
stops_alone contents cause old new (Ok value) stops = tt
stops_alone contents cause old new (Err problem) stops =
    λ sound. let found = stops sound in (found.1.piped, (ap (written contents) found.1.output, found.0))

-- it stopped behind as many files as another number says
pub stops_counted : {F H W E A : Type 0} (kind : FileKind) (count many : ℕ) (means : MeansState H) (held : Held) (from : Standpoint F)
    (old new : Reporter W E) (output : Option (List ℕ)) (result : Result A Problem) → count ≡ many
    → IfErr result (λ problem. ending_of problem.why ≢ Fault → (new.is_piped ≡ old.is_piped)
    × StopsFiles kind count means held from output problem.why)
    → IfErr result (λ problem. ending_of problem.why ≢ Fault → (new.is_piped ≡ old.is_piped)
    × StopsFiles kind many means held from output problem.why)
stops_counted kind count many means held from old new output result same stops =
    subst (λ n. IfErr result (λ problem. ending_of problem.why ≢ Fault → (new.is_piped ≡ old.is_piped)
    × StopsFiles kind n means held from output problem.why)) same stops

-- it is the command of a name
pub stops_named : {F H W E A : Type 0} (subcommand named : Subcommand) (matches : ArgMatches) (means : MeansState H) (held : Held)
    (from : Standpoint F) (old new : Reporter W E) (output : Option (List ℕ)) (result : Result A Problem) → subcommand ≡ named
    → IfErr result (λ problem. ending_of problem.why ≢ Fault → (new.is_piped ≡ old.is_piped)
    × StopsWork named matches means held from output problem.why)
    → IfErr result (λ problem. ending_of problem.why ≢ Fault → (new.is_piped ≡ old.is_piped)
    × StopsWork subcommand matches means held from output problem.why)
stops_named subcommand named matches means held from old new output result is stops =
    subst (λ s. IfErr result (λ problem. ending_of problem.why ≢ Fault → (new.is_piped ≡ old.is_piped)
    × StopsWork s matches means held from output problem.why)) (sym is) stops

-- it stopped at its work, of the replica that it began with
pub stops_command : {F H W E A : Type 0} (contents : W → Option (List ℕ)) (subcommand : Subcommand) (matches : ArgMatches)
    (means : MeansState H) (held : Held)
    (disk first : SpillDisk (SystemState F)) (work begun : Work) (listed was_listed : Option ℕ) (passed was_passed : ℕ)
    (old mid new : Reporter W E) (done : Result A Problem) → BeginsWith subcommand matches held → disk ≡ first
    → work ≡ begun → listed ≡ was_listed → passed ≡ was_passed → OnlySays old mid
    → IfErr done (λ problem. ending_of problem.why ≢ Fault → (new.is_piped ≡ mid.is_piped)
    × StopsWork subcommand matches means held (standpoint_of contents disk work listed passed mid) (output_of contents new) problem.why)
    → IfErr done (λ problem. ending_of problem.why ≢ Fault → (new.is_piped ≡ old.is_piped)
    × StopsCommand subcommand matches means (standpoint_of contents first begun was_listed was_passed old) (output_of contents new)
    problem.why)
stops_command contents subcommand matches means held disk first work begun listed was_listed passed was_passed old mid new (Ok value) begins
    same_disk same_work same_listed same_passed says stops = tt
stops_command {F} contents subcommand matches means held disk first work begun listed was_listed passed was_passed old mid new
    (Err problem) begins same_disk same_work same_listed same_passed says stops = λ sound. let found = stops sound in (
      found.0 ∙ says.piped,
      inr (
        held,
        begins,
        stands_as contents
            (λ (from : Standpoint F). StopsWork subcommand matches means held from (output_of contents new) problem.why) disk first
            work begun listed was_listed passed was_passed old mid same_disk same_work same_listed same_passed says found.1,
      ),
    )

-- it could not begin, since memory ran out or it had no replica
pub cannot_begin : (subcommand : Subcommand) (matches : ArgMatches) (why : Refusal)
    → IsFailure why ⊎ HasNoReplica subcommand matches why → ending_of why ≢ Fault → CannotBegin subcommand matches why
cannot_begin subcommand matches why (inl (inl memory)) sound = inl memory
cannot_begin subcommand matches why (inl (inr fault)) sound = absurd (sound fault)
cannot_begin subcommand matches why (inr none) sound = inr (inr none)

-- a command that could not begin was refused, when something had been said
refused_said : {W E : Type 0} (F : Type 0) (contents : W → Option (List ℕ)) (subcommand : Subcommand) (matches : ArgMatches)
    (why : Refusal) (exit : ExitKind) (old mid new : Reporter W E) → OnlySays old mid → old.is_piped ≡ is_out_stream subcommand matches
    → CannotBegin subcommand matches why → StopsBy contents why exit mid new
    → IsDoneOrStopped F subcommand matches exit (output_of contents old) (output_of contents new)
refused_said F contents subcommand matches why exit old mid new says piped cause stops = inr (inl (record {
  why = why;
  output = output_of contents mid;
  applies = inl (ap (written contents) says.output, cause);
  ended = stops.ended;
  printed = subst (λ p. Appends (output_of contents mid) (output_of contents new) (reply_on_output p (Refused why))) (says.piped ∙ piped)
      stops.printed.output;
}))

-- so it was where memory ran out, and no file and no stream failed
pub failure_said : {W E : Type 0} (F : Type 0) (contents : W → Option (List ℕ)) (subcommand : Subcommand) (matches : ArgMatches)
    (why : Refusal) (exit : ExitKind) (old mid new : Reporter W E) → OnlySays old mid → old.is_piped ≡ is_out_stream subcommand matches
    → IsFailure why → (exit ≢ Fault → StopsBy contents why exit mid new) → exit ≢ Fault
    → IsDoneOrStopped F subcommand matches exit (output_of contents old) (output_of contents new)
failure_said F contents subcommand matches why exit old mid new says piped (inl memory) stops sound =
    refused_said F contents subcommand matches why exit old mid new says piped (inl memory) (stops sound)
failure_said F contents subcommand matches why exit old mid new says piped (inr fault) stops sound =
    let stopped = stops sound in absurd (sound (stopped.ended ∙ fault))

-- or its words were wrong
pub misused_said : {W E : Type 0} (F : Type 0) (contents : W → Option (List ℕ)) (subcommand : Subcommand) (matches : ArgMatches)
    (exit : ExitKind) (old new : Reporter W E) → exit ≡ BadUsage
    → (limit_of (limit_told subcommand matches) ≡ None) ⊎ MayStay subcommand matches → OnlySays old new
    → IsDoneOrStopped F subcommand matches exit (output_of contents old) (output_of contents new)
misused_said F contents subcommand matches exit old new misused cause says = inr (inr (
  misused,
  subst (λ w. Keeps (output_of contents old) (written contents w)) (sym says.output) (Keeps-refl (output_of contents old)),
  cause,
))

-- something stands in the place of OUT, so that OUT is told
pub found_out : {E : Type 0} (out : Option (List ℕ)) (looked : Result (Option Standing) E) (standing : Standing)
    → (out ≡ None → looked ≡ Ok None) → looked ≡ Ok (Some standing) → IsSome out
found_out (Some out) looked standing none found = refl
found_out None looked standing none found = cc (none refl)

-- what stops a command is to be kept, or not to be written by force
pub found_stays : {E : Type 0} (keeps forced : Bool) (looked : Result (Option Standing) E) (standing : Standing)
    → (keeps ≡ false → forced ≡ true → IfOk looked (λ found. IfSome found (λ there. stops there.fate ≡ false)))
    → looked ≡ Ok (Some standing) → stops standing.fate ≡ true → (keeps ≡ true) ⊎ (forced ≡ false)
found_stays true forced looked standing goes_on found is = inl refl
found_stays false false looked standing goes_on found is = inr refl
found_stays {E} false true looked standing goes_on found is =
    let on : stops standing.fate ≡ false = subst (λ (r : Result (Option Standing) E). IfOk r (λ f. IfSome f (λ there. stops there.fate ≡
    false))) found (goes_on refl refl) in absurd (true≢false (sym is ∙ on))

-- a terminal that is found stops a command
pub shown_stops : {E : Type 0} (looked : Result (Option Standing) E) → IsOkAnd looked (λ found. IsSome found)
    → IfOk looked (λ found. IfSome found (λ there. there.fate ≡ Shown)) → is_stopped looked ≡ false → ⊥
shown_stops (Ok (Some standing)) some shown goes_on = true≢false (sym (ap stops shown) ∙ goes_on)
shown_stops (Ok None) some shown goes_on = true≢false (sym some)
shown_stops (Err error) some shown goes_on = some

-- a limit that is refused as no command line is no number of bytes
no_number : (limit : Option ℕ) (why : Refusal) → IsNoLimit limit why → why ≡ BadCommand → limit ≡ None
no_number None why refused unread = refl
no_number (Some limit) why (range, out) unread = cc

-- and one that is refused otherwise is out of range
out_of_range : (limit : Option ℕ) (why : Refusal) → IsNoLimit limit why → why ≢ BadCommand
    → IsSomeAnd limit (λ number. IsOutOfRange number why)
out_of_range None why refused known = absurd (known refused)
out_of_range (Some limit) why refused known = refused

-- a limit was refused, or was no number of bytes
pub limit_refused : {W E : Type 0} (F : Type 0) (contents : W → Option (List ℕ)) (subcommand : Subcommand) (matches : ArgMatches)
    (why : Refusal) (exit : ExitKind) (old new : Reporter W E) → old.is_piped ≡ is_out_stream subcommand matches
    → IsNoLimit (limit_of (limit_told subcommand matches)) why
    → (exit ≢ Fault → ((why ≢ BadCommand) × StopsBy contents why exit old new)
    ⊎ ((exit ≡ BadUsage) × (why ≡ BadCommand) × OnlySays old new)) → exit ≢ Fault
    → IsDoneOrStopped F subcommand matches exit (output_of contents old) (output_of contents new)
limit_refused F contents subcommand matches why exit old new piped refused stops sound = by_ending (stops sound)
  where
    by_ending : ((why ≢ BadCommand) × StopsBy contents why exit old new) ⊎ ((exit ≡ BadUsage) × (why ≡ BadCommand) × OnlySays old new)
        → IsDoneOrStopped F subcommand matches exit (output_of contents old) (output_of contents new)
    by_ending (inl (known, stopped)) =
        refused_said F contents subcommand matches why exit old old new (says_nothing old) piped
        (inr (inl (out_of_range (limit_of (limit_told subcommand matches)) why refused known))) stopped
    by_ending (inr (misused, unread, says)) =
        misused_said F contents subcommand matches exit old new misused
        (inl (no_number (limit_of (limit_told subcommand matches)) why refused unread)) says

-- something was said before that, or behind it
pub stopped_behind : {W E : Type 0} (F : Type 0) (contents : W → Option (List ℕ)) (subcommand : Subcommand) (matches : ArgMatches)
    (exit : ExitKind) (old mid : Reporter W E) (output : Option (List ℕ)) → mid.streams.writer.now ≡ old.streams.writer.now
    → IsDoneOrStopped F subcommand matches exit (output_of contents mid) output
    → IsDoneOrStopped F subcommand matches exit (output_of contents old) output
stopped_behind F contents subcommand matches exit old mid output same stopped =
    subst (λ w. IsDoneOrStopped F subcommand matches exit (written contents w) output) same stopped

pub stopped_before : {W E : Type 0} (F : Type 0) (contents : W → Option (List ℕ)) (subcommand : Subcommand) (matches : ArgMatches)
    (exit : ExitKind) (old : Option (List ℕ)) (mid new : Reporter W E) → OnlySays mid new
    → IsDoneOrStopped F subcommand matches exit old (output_of contents mid)
    → IsDoneOrStopped F subcommand matches exit old (output_of contents new)
stopped_before F contents subcommand matches exit old mid new says stopped =
    subst (λ w. IsDoneOrStopped F subcommand matches exit old (written contents w)) (sym says.output) stopped

-- all was sent out then
pub stopped_kept : (F : Type 0) (subcommand : Subcommand) (matches : ArgMatches) (exit result : ExitKind)
    (old output sent : Option (List ℕ)) → Keeps output sent → result ≡ exit → IsDoneOrStopped F subcommand matches exit old output
    → IsDoneOrStopped F subcommand matches result old sent
stopped_kept F subcommand matches exit result old output sent kept same (inl done) =
    inl (done.0, same ∙ done.1, done_kept F subcommand matches done.0 old output sent kept done.2)
stopped_kept F subcommand matches exit result old output sent kept same (inr (inl refused)) = inr (inl (record {
  why = refused.why;
  output = refused.output;
  applies = refused.applies;
  ended = same ∙ refused.ended;
  printed = Appends-kept _ _ _ _ refused.printed kept;
}))
stopped_kept F subcommand matches exit result old output sent kept same (inr (inr misused)) =
    inr (inr (same ∙ misused.0, Keeps-trans old output sent misused.1 kept, misused.2))

-- a command did its work, and something was said, or it stopped
pub stopped_by : {F H W E T : Type 0} (contents : W → Option (List ℕ)) (subcommand : Subcommand) (matches : ArgMatches)
    (means : MeansState H) (from : Standpoint F) (old mid said new : Reporter W E) (done : Result T Problem) (exit : ExitKind)
    (passed passed_said passed_now : ℕ)
    → OnOk done (RunsCommand subcommand matches means from passed (output_of contents mid))
    → IfErr done (λ problem. ending_of problem.why ≢ Fault → (mid.is_piped ≡ old.is_piped)
    × StopsCommand subcommand matches means from (output_of contents mid) problem.why) → OnlySays mid said
    → OnOk done (OnlySays said new) → IfErr done (λ problem. exit ≢ Fault → StopsBy contents problem.why exit said new)
    → OnOk done (exit ≡ ending_beside passed_said) → passed_said ≡ passed → passed_now ≡ passed_said → exit ≢ Fault
    → RunsCommand subcommand matches means from passed_now (output_of contents new) × (exit ≡ ending_beside passed_now)
    ⊎ IsRefusedFor (StopsCommand subcommand matches means from) old.is_piped exit (output_of contents new)
stopped_by contents subcommand matches means from old mid said new (Ok value) exit passed passed_said passed_now runs cause says told stops
    ends same same_now sound =
    let more = says_more mid said new says told in inl (
      subst (λ n. RunsCommand subcommand matches means from n (output_of contents new)) (sym (same_now ∙ same))
          (subst (λ w. RunsCommand subcommand matches means from passed (written contents w)) (sym more.output) runs),
      ends ∙ ap ending_beside (sym same_now),
    )
stopped_by contents subcommand matches means from old mid said new (Err problem) exit passed passed_said passed_now runs cause says told
    stops ends same same_now sound =
    let stopped = stops sound in
    let found = cause (λ fault. sound (stopped.ended ∙ fault)) in inr (record {
      why = problem.why;
      output = output_of contents mid;
      applies = found.1;
      ended = stopped.ended;
      printed = subst (λ p. Appends (output_of contents mid) (output_of contents new) (reply_on_output p (Refused problem.why)))
          (says.piped ∙ found.0)
          (subst (λ w. Appends (written contents w) (output_of contents new) (reply_on_output said.is_piped (Refused problem.why)))
          says.output stopped.printed.output);
    })

-- and that was by its means, from where it stood
cause_as : {F W E : Type 0} (contents : W → Option (List ℕ)) (subcommand : Subcommand) (matches : ArgMatches)
    (means : MeansState Fnv1a) (disk : SpillDisk (SystemState F)) (work : Work) (listed : Option ℕ) (passed : ℕ) (old : Reporter W E)
    (output : Option (List ℕ)) (why : Refusal) → limit_of (limit_told subcommand matches) ≡ Some means.limit → AreMeans means.limit
    → StandsAsTold subcommand matches (standpoint_of contents disk work listed passed old)
    → StopsCommand subcommand matches means (standpoint_of contents disk work listed passed old) output why
    → IsCause F subcommand matches (output_of contents old) output why
cause_as contents subcommand matches means disk work listed passed old output why limited within stands (inl early) = inl early
cause_as contents subcommand matches means disk work listed passed old output why limited within stands (inr (held, begins, stops)) =
    inr (record {
      means = means;
      from = standpoint_of contents disk work listed passed old;
      held = held;
      limited = limited;
      within = within;
      stands = stands;
      begun = refl;
      begins = begins;
      stops = stops;
    })

pub stopped_as : {F W E : Type 0} (contents : W → Option (List ℕ)) (subcommand : Subcommand) (matches : ArgMatches)
    (means : MeansState Fnv1a) (disk : SpillDisk (SystemState F)) (work : Work) (listed : Option ℕ) (passed passed_now : ℕ)
    (exit : ExitKind) (old new : Reporter W E) → limit_of (limit_told subcommand matches) ≡ Some means.limit → AreMeans means.limit
    → StandsAsTold subcommand matches (standpoint_of contents disk work listed passed old)
    → (RunsCommand subcommand matches means (standpoint_of contents disk work listed passed old) passed_now (output_of contents new)
    × (exit ≡ ending_beside passed_now)
    ⊎ IsRefusedFor (StopsCommand subcommand matches means (standpoint_of contents disk work listed passed old)) old.is_piped exit
    (output_of contents new))
    → IsDoneOrStopped F subcommand matches exit (output_of contents old) (output_of contents new)
stopped_as contents subcommand matches means disk work listed passed passed_now exit old new limited within stands
    (inl (runs, ends)) = inl (
      passed_now,
      ends,
      record {
        means = means;
        from = standpoint_of contents disk work listed passed old;
        limited = limited;
        within = within;
        stands = stands;
        begun = refl;
        runs = runs;
      },
    )
stopped_as contents subcommand matches means disk work listed passed passed_now exit old new limited within stands (inr refused) =
    inr (inl (record {
      why = refused.why;
      output = refused.output;
      applies = cause_as contents subcommand matches means disk work listed passed old refused.output refused.why limited within stands
          refused.applies;
      ended = refused.ended;
      printed = subst (λ p. Appends refused.output (output_of contents new) (reply_on_output p (Refused refused.why))) stands.piped
          refused.printed;
    }))
