use Rattle.std.proofs.Common.{◌≡◌, ◌≤◌, ◌+◌, drop}
use Rattle.plain_batches.specs.Blank.{blanks_on}
use Rattle.plain_batches.specs.Standing.{state_of}
use Rattle.csv.specs.declared.parser.State.TheVariants as st
use Rattle.plain_batches.proofs.blank.blank_lines.Given as goal

abbrev pub invariant-loop-place : goal.invariant-loop-place
invariant-loop-place l =
    record {
      few : l.blanks.count ≤ l.place;
      counted : l.blanks.count + blanks_on l.delimiter (state_of l.standing) (drop l.place l.text)
          ≡ blanks_on l.delimiter st.StartRecord l.text;
    }
