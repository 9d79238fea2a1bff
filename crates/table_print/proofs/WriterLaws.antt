-- A line of a writer, one field after the other.
use Rattle.std.proofs.Common.{ℕ, ◌≡◌, ◌≢◌, ◌<◌, ◌+◌, ◌-◌, ◌^◌, ◌==◌, ◌∙◌, List, [], ◌∷◌, ◌++◌, arith, ap, subst, sym, refl, length, min}
use Rattle.std.proofs.Common.{not, true, false}
use Rattle.std.specs.declared.alloc.Global.{Global}
use Rattle.std.specs.declared.vec.Vec.{Vec}
use Rattle.std.specs.Io.KnownBytes.{Appends}
use Rattle.std.proofs.lemmas.List.{length-append}
use Rattle.csv.specs.Writing.{default_writer, field_text, fields_written, has_written, is_blank, next_sep, tail_text, writer_setup}
use Rattle.csv.specs.declared.writer.QuoteStyle.TheVariants as style
use Rattle.csv.specs.declared.writer.Writer.{Writer}
use Rattle.csv.specs.declared.writer.WriterBuilder.{WriterBuilder}
use Rattle.csv.proofs.WriteFacts.{appends-more, appends-none, blank-more, row-final, row-more}
use Rattle.script_io.specs.LineWriter.{IsBetween, written}
use Rattle.table_print.specs.Writer.{IsWithin, WritesLine}

-- the defaults quote fields that need it
by_need : default_writer.style ≢ style.NonNumeric
by_need = λ e. cc e

-- a line begins
pub line_begins : (w : Writer (Vec ℕ Global)) → IsBetween w → IsWithin w w []
unfolding is_blank
line_begins w between = record {
  text = appends-none (written w);
  count = between.fields;
  blank = rw between.clean refl;
  setup = between.setup;
}

-- a line goes on
pub line_goes_on : (start old new : Writer (Vec ℕ Global)) (fields : List (List ℕ)) (field : List ℕ) → length fields < 2 ^ 64 - 1
    → IsWithin start old fields
    → ((writer_setup old).style ≢ style.NonNumeric → Appends (written old) (written new) (next_sep (writer_setup old) (fields_written old)
    ++ field_text (writer_setup old) field))
    → writer_setup new ≡ writer_setup old
    → fields_written new ≡ min (fields_written old + 1) (2 ^ 64 - 1)
    → (has_written old ≡ false → (writer_setup old).style ≢ style.NonNumeric
    → has_written new ≡ not (length (field_text (writer_setup old) field) == 0))
    → (has_written old ≡ true → has_written new ≡ true) → IsWithin start new (fields ++ field ∷ [])
line_goes_on start old new fields field few within text setup count wrote stays =
    let by : (writer_setup old).style ≢ style.NonNumeric = subst (λ (s : WriterBuilder). s.style ≢ style.NonNumeric) (sym within.setup)
    by_need in
    let size : length (fields ++ field ∷ []) ≡ length fields + 1 = length-append fields (field ∷ []) in
    let added : Appends (written old) (written new) (next_sep default_writer (length fields) ++ field_text default_writer field)
    = subst (λ (s : WriterBuilder). Appends (written old) (written new) (next_sep s (length fields) ++ field_text s field)) within.setup
    (subst (λ (n : ℕ). Appends (written old) (written new) (next_sep (writer_setup old) n ++ field_text (writer_setup old) field))
    within.count (text by)) in
    let more : fields_written new ≡ length fields + 1 = count ∙ ap (λ (n : ℕ). min (n + 1) (2 ^ 64 - 1)) within.count
    ∙ omega (arith, few) in
    record {
      text =
          subst (Appends (written start) (written new)) (sym (row-more default_writer fields field))
          (appends-more (written start) (written old) (written new) _ _ within.text added);
      count = more ∙ sym size;
      blank =
          rw size (blank-more default_writer fields field (has_written old) (has_written new) within.blank
          (λ e. wrote e by ∙ ap (λ (s : WriterBuilder). not (length (field_text s field) == 0)) within.setup) stays);
      setup = setup ∙ within.setup;
    }

-- a line ends
pub line_ends : (start old new : Writer (Vec ℕ Global)) (fields : List (List ℕ)) → IsWithin start old fields
    → Appends (written old) (written new) (tail_text (writer_setup old) (has_written old) (fields_written old))
    → WritesLine start new fields
line_ends start old new fields within end =
    row-final (written start) (written old) (written new) default_writer fields (has_written old) (length fields) within.text within.blank
    (subst (λ (s : WriterBuilder). Appends (written old) (written new) (tail_text s (has_written old) (length fields))) within.setup
    (subst (λ (n : ℕ). Appends (written old) (written new) (tail_text (writer_setup old) (has_written old) n)) within.count end))
