-- Laws: rows that a table takes in parts, and rows that it refuses; these definitions serve the laws alone.
use Rattle.std.specs.Prelude.{◌≡◌, refl, ℕ, List, [], ◌∷◌, ◌++◌}
use Rattle.std.proofs.Common.{sym, ◌∙◌, ap, subst, append-nil, append_assoc}
use Rattle.grouping_model.specs.Aggregates.{Outcome}
use Rattle.table_print.specs.Growing.{CsvTakes, HasFailed, IsCsvTable, Stays, Takes}
use Rattle.table_print.specs.declared.csv_table.CsvTable.{CsvTable}

-- no rows change nothing
pub none_taken : {T : Type 0} (IsTable : List (List ℕ) → List (List Outcome) → T → Type 0) (table : T) → Takes IsTable table table []
none_taken IsTable table = λ headers rows is. subst (λ those. IsTable headers those table) (sym (append-nil rows)) is

-- rows and then others
pub both_taken : {T : Type 0} (IsTable : List (List ℕ) → List (List Outcome) → T → Type 0) (old between new : T)
    (first rest : List (List Outcome)) → Takes IsTable old between first → Takes IsTable between new rest
    → Takes IsTable old new (first ++ rest)
both_taken IsTable old between new first rest one two =
    λ headers rows is. subst (λ those. IsTable headers those new) (append_assoc rows first rest) (two headers (rows ++ first)
    (one headers rows is))

-- a row that left a table as it was leaves no trace
pub stays_untraced : {T : Type 0} (IsTable : List (List ℕ) → List (List Outcome) → T → Type 0) (old new later : T) (next : List Outcome)
    (rows : List (List Outcome)) → Stays IsTable old new → Takes IsTable new later (next ∷ rows) → Takes IsTable old later (next ∷ rows)
stays_untraced IsTable old new later next rows stays takes = λ headers those is. takes headers those (stays headers those is)

-- the same of a table in CSV, which takes nothing once it has failed
pub csv_none : (table : CsvTable) → CsvTakes table table []
csv_none table = record { rows = none_taken IsCsvTable table; failed = λ failed. (refl, failed) }

pub csv_both : (old between new : CsvTable) (first rest : List (List Outcome)) → CsvTakes old between first → CsvTakes between new rest
    → CsvTakes old new (first ++ rest)
csv_both old between new first rest one two = record {
  rows = both_taken IsCsvTable old between new first rest one.rows two.rows;
  failed = λ failed.
      let here = one.failed failed in
      let there = two.failed here.1 in
      (ap (λ rows. rows ++ rest) here.0 ∙ there.0, there.1);
}

pub csv_untraced : (old new later : CsvTable) (next : List Outcome) (rows : List (List Outcome)) → HasFailed new
    → CsvTakes new later (next ∷ rows) → CsvTakes old later (next ∷ rows)
csv_untraced old new later next rows failed takes = absurd (let none = (takes.failed failed).0 in cc)
