-- The canonical text piece by piece.
use Rattle.std.proofs.Common.{◌≡◌, ℕ, List, [], ◌∷◌, ◌++◌, Option, option_map, codes, string_bytes, String, Global, ap, sym, ◌∙◌}
use Rattle.std.proofs.Common.{append_assoc, append-nil}
use Rattle.std.specs.List.{flat_map}
use Rattle.grouping_model.specs.Aggregates.{Function}
use Rattle.query_checks.specs.declared.condition.Cond.{Cond}
use Rattle.query_checks.specs.Forms.{Call_where, form_of, names_of}
use Rattle.query_checks.specs.Parted.{parted}
use Rattle.query_checks.specs.Spelling.{call_text, spelled}

regroup : (t a b c d : List ℕ) → (((t ++ a) ++ b) ++ c) ++ d ≡ t ++ (((a ++ b) ++ c) ++ d)
regroup t a b c d = ap (λ x. x ++ d) (ap (λ x. x ++ c) (append_assoc t a b) ∙ append_assoc t (a ++ b) c) ∙ append_assoc t ((a ++ b) ++ c) d

-- a call with a FILTER
pub filtered_call : (text : List ℕ) (function : Function) (column : Option (String Global)) (filter : Cond (String Global))
    → (((text ++ call_text function (option_map string_bytes column)) ++ codes " FILTER (WHERE ") ++ spelled (names_of (form_of filter)))
    ++ codes ")" ≡ text ++ spelled (names_of (Call_where function column (form_of filter)))
filtered_call text function column filter = regroup text (call_text function (option_map string_bytes column)) (codes " FILTER (WHERE ")
    (spelled (names_of (form_of filter))) (codes ")")

-- ---- texts that commas part

-- texts, each behind a comma
abbrev pub followed : List (List ℕ) → List ℕ
followed texts = flat_map (λ text. codes ", " ++ text) texts

-- the first, and the others, each behind a comma
pub parted_first : (text : List ℕ) (texts : List (List ℕ)) → parted (text ∷ texts) ≡ text ++ followed texts
parted_first text [] = sym (append-nil text)
parted_first text (next ∷ texts) =
    ap (λ rest. (text ++ codes ", ") ++ rest) (parted_first next texts) ∙ append_assoc text (codes ", ") (next ++ followed texts)
    ∙ ap (λ rest. text ++ rest) (sym (append_assoc (codes ", ") next (followed texts)))
