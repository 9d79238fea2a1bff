-- Each record takes a byte at least, so one turn more than a text has bytes reads all of its records. The same of a reader over memory.
use Rattle.std.proofs.Common.{◌≡◌, ◌≤◌, ◌<◌, ◌+◌, ℕ, zero, suc, List, [], ◌∷◌, length, Option, Some, None, Bool, true, false, not}
use Rattle.std.proofs.Common.{MatchBool, if◌then◌else◌, refl, sym, ap, subst, arith, ◌∙◌, add-one}
use Rattle.csv.specs.Machine.{Read, ends_at_end, field_after, fields_after, is_end, next_record, step}
use Rattle.csv.specs.Reading.{records_from, records_next, Reached, ReadRecord, source_of}
use Rattle.csv.specs.declared.parser.Config.{Config}
use Rattle.csv.specs.declared.parser.State.{State}
use Rattle.csv.specs.declared.parser.State.TheVariants as st
use Rattle.csv.specs.declared.reader.Reader.{Reader}
use Rattle.csv.proofs.ReadFacts.{rows-end, rows-more}
use Rattle.std.specs.Borrow.{Bor}
use Rattle.std.specs.Prelude.{IsSome, unwrap_or}
use Rattle.std.proofs.lemmas.Bool.{false≢true}
use Rattle.script_io.specs.Records.{Record}
use Rattle.plain_batches.specs.Plain.{config_of, records_on}

-- a record ends in a state between two records
pub end-between : (d : ℕ) (s : State) (c : ℕ) → is_end (step (config_of d) s c).1 ≡ true → ends_at_end (step (config_of d) s c).0 ≡ false
end-between d st.StartRecord c e = grind arith
end-between d st.StartField c e = grind arith
end-between d st.InField c e = grind arith
end-between d st.InQuoted c e = grind arith
end-between d st.InEscape c e = grind arith
end-between d st.AfterQuote c e = grind arith
end-between d st.InComment c e = grind arith
end-between d st.AfterCr c e = grind arith

-- a read leaves no more than there was, and less where it starts between two records
pub next-shrinks : (d : ℕ) (s : State) (fields : List (List ℕ)) (field text : List ℕ) (r : Read)
    → next_record (config_of d) s fields field text
    ≡ Some r
    → (ends_at_end r.1 ≡ false) × (length r.2 ≤ length text) × (ends_at_end s ≡ false → length r.2 < length text)
unfolding next_record
next-shrinks d s fields field [] r e = grind arith
next-shrinks d s fields field (c ∷ rest) r e =
    let further = next-shrinks d (step (config_of d) s c).0 (fields_after (step (config_of d) s c).1 fields field)
    (field_after (step (config_of d) s c).1 c field) rest r in
    let between = end-between d s c in
    grind arith

-- a turn more reads the first record
records-turn : (d k : ℕ) (s : State) (text : List ℕ) (o : Option Read) → next_record (config_of d) s [] [] text ≡ o
    → records_from (config_of d) (k + 1) s text ≡ records_next (records_from (config_of d) k) o
unfolding records_from
records-turn d k s text o e = rw (add-one k) (ap (records_next (records_from (config_of d) k)) e)

turns-alike : (d m n : ℕ) (o : Option Read)
    → ((r : Read) → o ≡ Some r → records_from (config_of d) m r.1 r.2 ≡ records_from (config_of d) n r.1 r.2)
    → records_next (records_from (config_of d) m) o ≡ records_next (records_from (config_of d) n) o
turns-alike d m n None same = refl
turns-alike d m n (Some r) same = ap (λ rest. r.0 ∷ rest) (same r refl)

-- as many turns as there are bytes, and one more, are enough
pub turns-enough : (d m n : ℕ) (s : State) (text : List ℕ) → ends_at_end s ≡ false → length text < m → length text < n
    → records_from (config_of d) m s text ≡ records_from (config_of d) n s text
unfolding records_from
turns-enough d zero n s text between p q = absurd (omega arith)
turns-enough d (suc m) zero s text between p q = absurd (omega arith)
turns-enough d (suc m) (suc n) s text between p q =
    turns-alike d m n (next_record (config_of d) s [] [] text) (λ r e.
    let shorter = next-shrinks d s [] [] text r e in
    let short : length r.2 < length text = shorter.2 between in
    turns-enough d m n r.1 r.2 shorter.0 (omega arith) (omega arith))

-- the records of a text are the first and those of the rest
pub records-next : (d : ℕ) (s : State) (text : List ℕ) (r : Read) → ends_at_end s ≡ false → next_record (config_of d) s [] [] text ≡ Some r
    → (records_on d s text ≡ r.0 ∷ records_on d r.1 r.2) × (ends_at_end r.1 ≡ false)
records-next d s text r between e =
    let shorter = next-shrinks d s [] [] text r e in
    let short : length r.2 < length text = shorter.2 between in
    let rest = turns-enough d (length text) (length r.2 + 1) r.1 r.2 shorter.0 short (omega arith) in
    (records-turn d (length text) s text (Some r) e ∙ ap (λ l. r.0 ∷ l) rest, shorter.0)

pub records-none : (d : ℕ) (s : State) (text : List ℕ) → next_record (config_of d) s [] [] text ≡ None → records_on d s text ≡ []
records-none d s text e = records-turn d (length text) s text None e

-- ---- the same, of a reader over memory

abbrev pub known : Bor (List ℕ) → Option (List ℕ)
known s = Some s.now

some-is : (o : Option (List ℕ)) → IsSome o → o ≡ Some (unwrap_or o [])
some-is None h = absurd (false≢true h)
some-is (Some x) h = refl

-- a read that found a record took the first of those that were left
pub reader-next : (d : ℕ) (a b : Reader (Bor (List ℕ))) (f : Record) → IsSome (source_of known a) → a.config ≡ config_of d
    → ends_at_end a.state ≡ false → ReadRecord known a b true f
    → IsSome (source_of known b) × (ends_at_end b.state ≡ false)
    × (records_on d a.state (unwrap_or (source_of known a) []) ≡ f ∷ records_on d b.state (unwrap_or (source_of known b) []))
unfolding Reached
reader-next d a b f there config between read =
    let y = unwrap_or (source_of known a) [] in
    let more = rows-more known a b f (config_of d) a.state y y [] config (some-is _ there) (refl, refl) read in
    let r = more.2.0 in
    let step = records-next d a.state y r between more.2.1 in
    let state : r.1 ≡ b.state = more.2.3.0 in
    let rest : r.2 ≡ more.0 = more.2.3.1 in
    let left : r.2 ≡ unwrap_or (source_of known b) [] = rest ∙ sym (ap (λ o. unwrap_or o []) more.1) in
    let found : IsSome (source_of known b) = subst IsSome (sym more.1) refl in (
      found,
      subst (λ s. ends_at_end s ≡ false) state step.1,
      step.0 ∙ ap (λ l. l ∷ records_on d r.1 r.2) (sym more.2.2) ∙ ap (λ s. f ∷ records_on d s r.2) state
          ∙ ap (λ t. f ∷ records_on d b.state t) left,
    )

-- a read that found none leaves none
pub reader-end : (d : ℕ) (a b : Reader (Bor (List ℕ))) (f : Record) → IsSome (source_of known a) → a.config ≡ config_of d
    → ReadRecord known a b false f → records_on d a.state (unwrap_or (source_of known a) []) ≡ []
reader-end d a b f there config read = records-none d a.state _ (rows-end known a b f (config_of d) _ config (some-is _ there) read)

-- what a read leaves of the records that there were
pub reader-read : (d : ℕ) (a b : Reader (Bor (List ℕ))) (found : Bool) (f : Record) (all : List Record) → IsSome (source_of known a)
    → a.config
    ≡ config_of d
    → ends_at_end a.state ≡ false → ReadRecord known a b found f → all ≡ records_on d a.state (unwrap_or (source_of known a) [])
    → MatchBool found (all ≡ f ∷ (if not found then [] else records_on b.config.delimiter b.state (unwrap_or (source_of known b) [])))
    ((all ≡ []) × ((if not found then [] else records_on b.config.delimiter b.state (unwrap_or (source_of known b) [])) ≡ []))
reader-read d a b true f all there config between read is =
    let same : d ≡ b.config.delimiter = sym (ap (λ (c : Config). c.delimiter) (read.2 ∙ config)) in
    is ∙ (reader-next d a b f there config between read).2
    ∙ ap (λ (e : ℕ). f ∷ records_on e b.state (unwrap_or (source_of known b) [])) same
reader-read d a b false f all there config between read is = (is ∙ reader-end d a b f there config read, refl)
