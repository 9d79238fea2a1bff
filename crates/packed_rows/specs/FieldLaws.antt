-- Laws: what an input field stands for; nothing here is a definition.
use Rattle.std.specs.Prelude.{ℕ, List, [], ◌∷◌}
use Rattle.std.proofs.Common.{subst}
use Rattle.grouping_model.specs.Datum.{Datum, Kind, Null, Bigint, Boolean, Text, Bigint_kind, Boolean_kind, Text_kind, IsText, HasKind}
use Rattle.grouping_model.specs.Datum.{HasKinds, Row}
use Rattle.packed_rows.specs.Field.{Reads, ReadsRow}

-- what is read has the column's kind
pub read_kind : (kind : Kind) (field : List ℕ) (d : Datum) → Reads kind field d → HasKind kind d
read_kind kind field Null p = tt
read_kind Bigint_kind field (Bigint z) p = p.1
read_kind Boolean_kind field (Boolean b) p = tt
read_kind Text_kind field (Text x) p = subst IsText p.1 p.0
read_kind kind field d p = absurd p

pub read_kinds : (kinds : List Kind) (fields : List (List ℕ)) (row : Row) → ReadsRow kinds fields row → HasKinds kinds row
read_kinds [] [] [] p = tt
read_kinds (kind ∷ kinds) (field ∷ fields) (d ∷ row) p = (read_kind kind field d p.0, read_kinds kinds fields row p.1)
read_kinds kinds fields row p = absurd p
