-- All tapes.
use Rattle.std.specs.Prelude.{◌≡◌, ◌≢◌, ℕ, ◌+◌, ◌*◌, ◌/◌, ◌<◌, ◌≤◌, suc, zero, Bool, true, false, not, Option, List, [], ◌∷◌, length}
use Rattle.std.specs.Prelude.{◌++◌, get_or, IsTrue, Result, Ok, Err}
use Rattle.std.specs.List.{sum_by}
use Rattle.std.proofs.Math.ListN.{set}
use Rattle.std.proofs.Common.{refl, sym, ◌∙◌, ap, subst, arith, inl, inr}
use Rattle.std.proofs.lemmas.Bool.{cases_eq, true≢false}
use Rattle.std.proofs.lemmas.List.{get_or-set_same, get_or-set_other, get_or_past, get_or_read}
use Rattle.std.proofs.lemmas.List.Sums.{sum_by-cons}
use Rattle.tape_disks.specs.Calls.{Keeps}
use Rattle.spill_tapes.specs.Records.{Record, tape_bytes}
use Rattle.spill_tapes.specs.Pages.{times, pages_for, IsApart, GivesBack, AreOn, KeepsPages}
use Rattle.spill_tapes.specs.Tape.{TapeState, no_tape, tape_len, is_in, IsGood, IsGoodIn, IsGoodRead, AreWritten, AreAhead, HasIn, Has}
use Rattle.spill_tapes.specs.Tape.{Gives, IsCounted, IsGiven}
use Rattle.spill_tapes.specs.Tapes.{TapesState, tape_at, phase_of, is_open, is_written, is_read, IsTape, KeepsOthers, AreTapes}
use Rattle.spill_tapes.specs.Tapes.{DiesIfRefused, IsReadRefusal, Appends, Rewinds, ReadsNext, FreesPages, HasNoPageMore}
use Rattle.spill_tapes.specs.declared.limits.TheConstants.{FRONT}
use Rattle.tape_disks.specs.declared.limits.TheConstants.{PAGE}
use Rattle.tape_disks.specs.declared.disk.TapeDisk.{Ghosts}
use Rattle.spill_tapes.specs.declared.error.TapeError.{TapeError}
use Rattle.spill_tapes.specs.declared.error.TapeError.TheVariants.{NoMemory, TapeFault, TapeDamaged, TapesDead}
use Rattle.spill_tapes.specs.declared.tape.Phase.{Phase}
use Rattle.spill_tapes.specs.declared.tape.Phase.TheVariants.{Closed, Written, Read}
use Rattle.spill_tapes.specs.declared.tape_id.TapeId.{TapeId}
use Rattle.spill_tapes.proofs.PoolLaws.{apart_page}
use Rattle.spill_tapes.proofs.PageLaws.{kept_on, written_len}
use Rattle.spill_tapes.proofs.HeaderLaws.{gives_with}
use Rattle.std.proofs.lemmas.Bool.Decides.{nat_tests}
use Rattle.std.proofs.lemmas.Grind.{common_steps}

-- a member's part of a sum
part_of : (f : TapeState → ℕ) (ts : List TapeState) (i : ℕ) → f no_tape ≡ 0 → f (get_or ts i no_tape) ≤ sum_by f ts
part_of f [] i none = omega (arith, none)
part_of f (t ∷ ts) zero none = omega (arith, sum_by-cons f t ts)
part_of f (t ∷ ts) (suc i) none = omega (arith, sum_by-cons f t ts, part_of f ts i none)

-- the pages of each tape are apart
pub apart_at : (t : TapesState) (i : ℕ) → AreTapes t → IsApart t.pool (get_or t.tapes i no_tape).pages
apart_at t i are page = omega (arith, are.each page, part_of (λ x. times page x.pages) t.tapes i refl)

-- a tape has its records as long as its pages have their bytes
pub kept_in : (phase : Phase) (last last' : ℕ → ℕ → Type 0) (t : TapeState) (rs : List Record)
    → ((contents : List (List ℕ)) → AreOn last t.pages contents → AreOn last' t.pages contents) → HasIn phase last t rs
    → HasIn phase last' t rs
kept_in Closed last last' t rs keeps had = had
kept_in Written last last' t rs keeps had = grind (arith, nat_tests, common_steps)
kept_in Read last last' t rs keeps had = grind (arith, nat_tests, common_steps)

index_differs : (id tape : TapeId) → id ≢ tape → id.index ≢ tape.index
index_differs id tape differ same = differ (ap (λ (n : ℕ). record { index = n }) same)

-- a tape in the place of another leaves the others
pub same_at : (t t' : TapesState) (tape : TapeId) (x : TapeState) → t'.tapes ≡ set t.tapes tape.index x → (id : TapeId) → id ≢ tape
    → tape_at t' id ≡ tape_at t id
same_at t t' tape x is id differ = ap (λ ts. get_or ts id.index no_tape) is
    ∙ get_or-set_other t.tapes tape.index id.index x no_tape (index_differs id tape differ)

kept_others : (last last' : ℕ → ℕ → Type 0) (t t' : TapesState) (tape : TapeId) (x : TapeState) → AreTapes t → KeepsPages t.pool last last'
    → t'.tapes ≡ set t.tapes tape.index x → KeepsOthers last last' t t' tape
kept_others last last' t t' tape x are keeps is = record {
  phases = λ id differ. ap (λ (y : TapeState). y.phase) (same_at t t' tape x is id differ);
  lens = λ id differ. ap tape_len (same_at t t' tape x is id differ);
  counts = λ id differ. ap (λ (y : TapeState). y.records) (same_at t t' tape x is id differ);
  rooms = λ id differ. ap (λ (y : TapeState). y.room) (same_at t t' tape x is id differ);
  records = λ id differ rs had. subst (λ (y : TapeState). Has last' y rs) (sym (same_at t t' tape x is id differ))
      (kept_in (tape_at t id).phase last last' (tape_at t id) rs (λ contents on. kept_on last last' t.pool (tape_at t id).pages contents
      (λ page h. apart_page t.pool (tape_at t id).pages page (apart_at t id.index are) h) keeps on) had);
}

pub others_kept : (last last' : ℕ → ℕ → Type 0) (t s t' : TapesState) (tape : TapeId) (x : TapeState) → t ≡ s → AreTapes t
    → KeepsPages t.pool last last' → t'.tapes ≡ set t.tapes tape.index x → KeepsOthers last last' s t' tape
others_kept last last' t s t' tape x same are keeps is = subst (λ (y : TapesState). KeepsOthers last last' y t' tape) same
    (kept_others last last' t t' tape x are keeps is)

pub others_kept_all : (last last' : ℕ → ℕ → Type 0) (t s t' : TapesState) (tape : TapeId) (x : TapeState) → t ≡ s → AreTapes t
    → Keeps last last' → t'.tapes ≡ set t.tapes tape.index x → KeepsOthers last last' s t' tape
others_kept_all last last' t s t' tape x same are keeps is = others_kept last last' t s t' tape x same are
    (λ page _ _ k byte _ had. keeps (page * 8192 + k) byte had) is

pub closed_past : (t : TapesState) (id : TapeId) → length t.tapes ≤ id.index → phase_of t id ≡ Closed
closed_past t id past = ap (λ (x : TapeState). x.phase) (get_or_past t.tapes id.index no_tape past)

pub none_past : (t : TapesState) (tape : TapeId) → tape.index ≡ length t.tapes → tape_at t tape ≡ no_tape
none_past t tape end = get_or_past t.tapes tape.index no_tape (omega (arith, end))

-- the tape that is read, and what is told of it
pub read_ahead : (last : ℕ → ℕ → Type 0) (t s : TapesState) (tape : TapeId) (y : TapeState) (rs : List Record) → t ≡ s → is_read s tape
    ≡ true → y ≡ get_or t.tapes tape.index y → IsTape last s tape rs → AreAhead last y rs
read_ahead last t s tape y rs same read at had = grind (arith, nat_tests, common_steps)

pub read_gives : (last : ℕ → ℕ → Type 0) (t s t' : TapesState) (tape : TapeId) (x : TapeState) (rs : List Record) (bytes : List ℕ)
    (found : Option (ℕ × ℕ)) → t ≡ s → is_read s tape ≡ true → t'.tapes ≡ set t.tapes tape.index x → x.phase ≡ Read
    → Gives (AreAhead last x) rs bytes found → Gives (IsTape last t' tape) rs bytes found
read_gives last t s t' tape x rs bytes found same read put phase told = grind (arith, nat_tests, common_steps)

-- a tape that is being written
pub is_writing : (phase : Phase) → is_in Written phase ≡ true → phase ≡ Written
is_writing Written h = refl
is_writing _ h = cc

-- how many bytes were written
pub bytes_written : (last : ℕ → ℕ → Type 0) (t : TapesState) (tape : TapeId) (rs : List Record) → is_written t tape ≡ true
    → IsTape last t tape rs → tape_len (tape_at t tape) ≡ length (tape_bytes rs)
bytes_written last t tape rs written had =
    let here : AreWritten last (tape_at t tape) rs = subst (λ (ph : Phase). HasIn ph last (tape_at t tape) rs)
    (is_writing (tape_at t tape).phase written) had in
    sym (written_len last (tape_at t tape) (tape_bytes rs) here.bytes)

-- how many pages a tape has that is being read
pub pages_left : (last : ℕ → ℕ → Type 0) (t : TapesState) (tape : TapeId) (rs : List Record) → AreTapes t → t.is_dead ≡ false
    → is_read t tape ≡ true → IsTape last t tape rs → 8192 * length (tape_at t tape).pages < length (tape_bytes rs) + 8192
pages_left last t tape rs are alive read had = grind (arith, nat_tests, common_steps)

-- where a tape is open, and that one is open which is written or read
low_of : (ts : List TapeState) (i : ℕ) → is_in Closed (get_or ts i no_tape).phase ≡ false → i < length ts
low_of [] i opened = absurd (true≢false opened)
low_of (t ∷ ts) zero opened = omega arith
low_of (t ∷ ts) (suc i) opened = omega (arith, low_of ts i opened)

written_open : (phase : Phase) → is_in Written phase ≡ true → is_in Closed phase ≡ false
written_open Closed h = absurd (true≢false (sym h))
written_open Written h = refl
written_open Read h = refl

read_open : (phase : Phase) → is_in Read phase ≡ true → is_in Closed phase ≡ false
read_open Closed h = absurd (true≢false (sym h))
read_open Written h = refl
read_open Read h = refl

not_true : (b : Bool) → not b ≡ true → b ≡ false
not_true true h = absurd (true≢false (sym h))
not_true false h = refl

module _ (t s : TapesState) (tape : TapeId) (same : t ≡ s) where
  pub written_low : is_written s tape ≡ true → tape.index < length t.tapes
  written_low written = low_of t.tapes tape.index (written_open (get_or t.tapes tape.index no_tape).phase
      (ap (λ (z : TapesState). is_written z tape) same ∙ written))

  pub open_low : is_open s tape ≡ true → tape.index < length t.tapes
  open_low opened = low_of t.tapes tape.index (not_true (is_in Closed (get_or t.tapes tape.index no_tape).phase)
      (ap (λ (z : TapesState). is_open z tape) same ∙ opened))

  pub read_low : is_read s tape ≡ true → tape.index < length t.tapes
  read_low read = low_of t.tapes tape.index (read_open (get_or t.tapes tape.index no_tape).phase
      (ap (λ (z : TapesState). is_read z tape) same ∙ read))

-- one tape is called, which becomes x
module _ (t : TapesState) (tape : TapeId) (y : TapeState) (are : AreTapes t) (low : tape.index < length t.tapes)
    (at : y ≡ get_or t.tapes tape.index y) where
  here : y ≡ get_or t.tapes tape.index no_tape
  here = get_or_read t.tapes tape.index y low at no_tape

  pub was_at : (s : TapesState) → t ≡ s → y ≡ tape_at s tape
  was_at s same = here ∙ ap (λ (z : TapesState). tape_at z tape) same

  module _ (x : TapeState) where
    pub now_at : get_or (set t.tapes tape.index x) tape.index no_tape ≡ x
    now_at = get_or-set_same t.tapes tape.index x no_tape low

    pub phases_moved : x.phase ≡ y.phase → (k : ℕ) → (get_or (set t.tapes tape.index x) k no_tape).phase
        ≡ (get_or t.tapes k no_tape).phase
    phases_moved same k = elim (cases_eq k tape.index) [
      | inl is ↦
          ap (λ (j : ℕ). (get_or (set t.tapes tape.index x) j no_tape).phase) is
          ∙ ap (λ (z : TapeState). z.phase) (get_or-set_same t.tapes tape.index x no_tape low) ∙ same
          ∙ ap (λ (z : TapeState). z.phase) here ∙ sym (ap (λ (j : ℕ). (get_or t.tapes j no_tape).phase) is)
      | inr differ ↦ ap (λ (z : TapeState). z.phase) (get_or-set_other t.tapes tape.index k x no_tape differ)
    ]

-- how a call of living tapes ends that is not refused, and one that is
module _ {T D : Type 0} (IsReason : Bool → TapeError → Type 0) (old new : TapesState) (before after : D) (alive : old.is_dead ≡ false) where
  pub not_refused : (value : T) → new.is_dead ≡ false → DiesIfRefused IsReason (Ok value) old new before after
  not_refused value lives = record {
    dead = λ is. absurd (true≢false (sym is ∙ alive));
    unchanged = λ is. absurd (true≢false (sym is ∙ alive));
    refused = tt;
    alive = lives;
    dies = tt;
  }

  pub refused_so : (result : Result T TapeError) (error : TapeError) → result ≡ Err error → IsReason false error → new.is_dead ≡ true
      → DiesIfRefused IsReason result old new before after
  refused_so result error is why dies = subst (λ (r : Result T TapeError). DiesIfRefused IsReason r old new before after) (sym is) (record {
    dead = λ was. absurd (true≢false (sym was ∙ alive));
    unchanged = λ was. absurd (true≢false (sym was ∙ alive));
    refused = subst (λ (b : Bool). IsReason b error) (sym alive) why;
    alive = tt;
    dies = dies;
  })

-- why living tapes refuse to read
pub read_reason : (error : TapeError) → error ≢ TapesDead → IsReadRefusal false error
read_reason NoMemory other = refl
read_reason TapeFault other = refl
read_reason TapeDamaged other = refl
read_reason TapesDead other = absurd (other refl)

-- what was done to the tape that was called, y before and x after it, is done to the tape of its name
has_written : (last : ℕ → ℕ → Type 0) (x : TapeState) (rs : List Record) → x.phase ≡ Written → AreWritten last x rs → Has last x rs
has_written last x rs phase had = subst (λ (ph : Phase). HasIn ph last x rs) (sym phase) had

has_ahead : (last : ℕ → ℕ → Type 0) (x : TapeState) (rs : List Record) → x.phase ≡ Read → AreAhead last x rs → Has last x rs
has_ahead last x rs phase had = subst (λ (ph : Phase). HasIn ph last x rs) (sym phase) had

are_written : (last : ℕ → ℕ → Type 0) (x : TapeState) (rs : List Record) → is_in Written x.phase ≡ true → Has last x rs
    → AreWritten last x rs
are_written last x rs written had = subst (λ (ph : Phase). HasIn ph last x rs) (is_writing x.phase written) had

module _ {D : Type 0} (g : Ghosts D) (tape : TapeId) (old new : TapesState) (before after : D) (y x : TapeState)
    (was : y ≡ tape_at old tape) (now : tape_at new tape ≡ x) (written : is_written old tape ≡ true) where
  was_written : (rs : List Record) → IsTape (g.last before) old tape rs → AreWritten (g.last before) y rs
  was_written rs had = subst (λ (z : TapeState). AreWritten (g.last before) z rs) (sym was)
      (are_written (g.last before) (tape_at old tape) rs written had)

  pub appends_so : (entry : Record) → x.phase ≡ Written
      → ((rs : List Record) → AreWritten (g.last before) y rs → AreWritten (g.last after) x (rs ++ entry ∷ []))
      → tape_len x ≡ tape_len y + (FRONT + length entry.bytes)
      → g.writes after + tape_len y / PAGE ≡ g.writes before + tape_len x / PAGE → Appends g tape entry old before new after
  appends_so entry phase records longer counted = record {
    records = λ rs had. subst (λ (z : TapeState). Has (g.last after) z (rs ++ entry ∷ [])) (sym now)
        (has_written (g.last after) x (rs ++ entry ∷ []) phase (records rs (was_written rs had)));
    longer = ap tape_len now ∙ longer ∙ ap (λ (z : TapeState). tape_len z + (FRONT + length entry.bytes)) was;
    counted = subst (λ (z : TapeState). g.writes after + tape_len z / PAGE ≡ g.writes before + tape_len (tape_at new tape) / PAGE) was
        (subst (λ (z : TapeState). g.writes after + tape_len y / PAGE ≡ g.writes before + tape_len z / PAGE) (sym now) counted);
  }

  pub rewinds_so : x.phase ≡ Read
      → ((rs : List Record) → AreWritten (g.last before) y rs → AreAhead (g.last after) x rs)
      → g.writes after + tape_len y / PAGE ≡ g.writes before + pages_for (tape_len y) → x.room ≡ 0 → Rewinds g tape old before new after
  rewinds_so phase records counted room = record {
    read = ap (λ (z : TapeState). is_in Read z.phase) now ∙ ap (is_in Read) phase;
    records = λ rs had. subst (λ (z : TapeState). Has (g.last after) z rs) (sym now)
        (has_ahead (g.last after) x rs phase (records rs (was_written rs had)));
    counted = subst (λ (z : TapeState). g.writes after + tape_len z / PAGE ≡ g.writes before + pages_for (tape_len z)) was counted;
    room = ap (λ (z : TapeState). z.room) now ∙ room;
  }

-- pages are free that the tape gave back
pub frees_so : (t old new : TapesState) (tape : TapeId) (y x : TapeState) → t ≡ old → y ≡ tape_at old tape → tape_at new tape ≡ x
    → GivesBack t.pool y.pages new.pool x.pages → FreesPages old new tape
frees_so t old new tape y x same was now back = record {
  free = omega (
    arith,
    back.balanced.all,
    back.count,
    ap (λ (z : TapesState). length z.pool.free) same,
    ap (λ (z : TapeState). length z.pages) was,
    ap (λ (z : TapeState). length z.pages) now,
  );
  count = back.count ∙ ap (λ (z : TapesState). z.pool.count) same;
}

no_page_more : (x : TapeState) → x.phase ≡ Read → IsGood x → HasNoPageMore x
no_page_more x phase good =
    let it : IsGoodRead x = subst (λ (ph : Phase). IsGoodIn ph x) phase good in omega (arith, it.pages)

is_reading : (phase : Phase) → is_in Read phase ≡ true → phase ≡ Read
is_reading Read h = refl
is_reading _ h = cc

-- the phase of a tape that is written, and of one that is read
pub phase_written : (old : TapesState) (tape : TapeId) (y : TapeState) → y ≡ tape_at old tape → is_written old tape ≡ true
    → y.phase ≡ Written
phase_written old tape y was written = ap (λ (z : TapeState). z.phase) was ∙ is_writing (tape_at old tape).phase written

pub phase_read : (old : TapesState) (tape : TapeId) (y : TapeState) → y ≡ tape_at old tape → is_read old tape ≡ true → y.phase ≡ Read
phase_read old tape y was read = ap (λ (z : TapeState). z.phase) was ∙ is_reading (tape_at old tape).phase read

module _ {D : Type 0} (g : Ghosts D) (tape : TapeId) (old new : TapesState) (before after : D) (y x : TapeState)
    (was : y ≡ tape_at old tape) (read : is_read old tape ≡ true) where
  was_ahead : (rs : List Record) → IsTape (g.last before) old tape rs → AreAhead (g.last before) y rs
  was_ahead rs had = subst (λ (z : TapeState). AreAhead (g.last before) z rs) (sym was)
      (subst (λ (ph : Phase). HasIn ph (g.last before) (tape_at old tape) rs) (is_reading (tape_at old tape).phase read) had)

  pub reads_so : (bytes : List ℕ) (found : Option (ℕ × ℕ)) → tape_at new tape ≡ x → x.phase ≡ Read
      → IsGiven (g.honest before) (g.last before) y (g.last after) x bytes found → ReadsNext g tape old before (Ok found) new after bytes
  reads_so bytes found now phase given = record {
    gives = λ honest rs had. gives_with (AreAhead (g.last after) x) (IsTape (g.last after) new tape) rs bytes found
        (λ xs has. subst (λ (z : TapeState). Has (g.last after) z xs) (sym now) (has_ahead (g.last after) x xs phase has))
        (given.gives honest rs (was_ahead rs had));
    undamaged = tt;
    counted = subst (λ (z : TapeState). IsCounted z.records (tape_at new tape).records found) was
        (subst (λ (z : TapeState). IsCounted y.records z.records found) (sym now) given.counted);
    framed = given.framed;
    none = given.none;
    nothing = tt;
    few = subst HasNoPageMore (sym now) (no_page_more x phase given.good);
  }

  pub refuses_so : (bytes : List ℕ) (error : TapeError) → bytes ≡ []
      → (IsTrue (g.honest before) → (rs : List Record) → AreAhead (g.last before) y rs → error ≢ TapeDamaged)
      → ReadsNext g tape old before (Err error) new after bytes
  refuses_so bytes error none undamaged = record {
    gives = tt;
    undamaged = λ honest rs had. undamaged honest rs (was_ahead rs had);
    counted = tt;
    framed = tt;
    none = tt;
    nothing = none;
    few = tt;
  }
