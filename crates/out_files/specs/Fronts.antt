-- What the first bytes of a file tell of it: the openings of the two kinds of file that commands read. All of this is our own.
use Rattle.std.specs.Prelude.{Bool, ◌||◌, ◌&&◌, ℕ, List, [], ◌∷◌, length, nat_eq, nat_le, codes, if◌then◌else◌}
use Rattle.std.specs.List.{starts_with}
use Rattle.out_files.specs.declared.out.FrontKind.{FrontKind}
use Rattle.out_files.specs.declared.out.FrontKind.TheVariants as front

-- a summary file of a version that is read begins with a word and the version
abbrev pub begins_as_summary : List ℕ → Bool
begins_as_summary bytes = starts_with nat_eq bytes (codes "AGGSUM01") || starts_with nat_eq bytes (codes "AGGSUM02")

-- one of another version begins with the same word, and has as many bytes
abbrev pub begins_as_version : List ℕ → Bool
begins_as_version bytes = nat_le 8 (length bytes) && starts_with nat_eq bytes (codes "AGGSUM")

-- a batch file begins with its first word, in quotes or not, and a comma
abbrev pub begins_as_batch : List ℕ → Bool
begins_as_batch bytes = starts_with nat_eq bytes (codes "batch,") || starts_with nat_eq bytes (codes "\"batch\",")

-- what bytes tell of a file that has some
abbrev pub kind_by_opening : List ℕ → FrontKind
kind_by_opening bytes =
    if begins_as_summary bytes then front.Summary else
    (if begins_as_version bytes then front.OtherVersion else (if begins_as_batch bytes then front.Batch else front.Other))

-- what the first bytes of a file tell of it
abbrev pub kind_of_front : List ℕ → FrontKind
kind_of_front [] = front.Empty
kind_of_front (byte ∷ bytes) = kind_by_opening (byte ∷ bytes)
