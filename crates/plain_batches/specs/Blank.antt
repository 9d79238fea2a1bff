-- The blank lines of a plain CSV, which csv reads as no record. All of this is our own.
use Rattle.std.specs.Prelude.{ℕ, ◌+◌, ◌==◌, Bool, false, List, [], ◌∷◌, if◌then◌else◌}
use Rattle.csv.specs.Machine.{after_end, carriage_return, ends_with, step}
use Rattle.csv.specs.Reading.{strip_bom}
use Rattle.csv.specs.declared.parser.State.{State}
use Rattle.csv.specs.declared.parser.State.TheVariants as st
use Rattle.csv.specs.declared.parser.Terminator.TheVariants as term
use Rattle.plain_batches.specs.Plain.{config_of}

-- a byte ends a blank line: it ends a line where a record would begin. Of a carriage return and a line feed together it is the first
abbrev pub is_blank : State → ℕ → Bool
is_blank st.StartRecord c = ends_with term.CRLF c
is_blank st.AfterCr c = c == carriage_return
is_blank state c = false

-- csv's definition: the state after a byte; after a blank line it is that after any line
abbrev pub state_after : ℕ → State → ℕ → State
state_after delimiter state c = if is_blank state c then after_end term.CRLF c else (step (config_of delimiter) state c).0

-- how many blank lines a text has that is read on from a state
abbrev pub blanks_on : ℕ → State → List ℕ → ℕ
blanks_on delimiter state [] = 0
blanks_on delimiter state (c ∷ rest) = (if is_blank state c then 1 else 0) + blanks_on delimiter (state_after delimiter state c) rest

-- how many blank lines a plain CSV has, past a byte order mark. None is between quotes
abbrev pub blank_lines : ℕ → List ℕ → ℕ
blank_lines delimiter csv = blanks_on delimiter st.StartRecord (strip_bom csv)
