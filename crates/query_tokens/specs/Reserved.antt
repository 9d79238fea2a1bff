-- The reserved words.
use Rattle.std.specs.Prelude.{ℕ, Bool, List, [], ◌∷◌, codes}
use Rattle.std.specs.List.{list_any}
use Rattle.std.specs.Str.{bytes_eq}

-- the words that can't be names (PostgreSQL 17, 4.1.1 and Appendix C, of whose words these are the ones taken)
abbrev pub reserved_words : List (List ℕ)
reserved_words =
    codes "and" ∷ codes "as" ∷ codes "asc" ∷ codes "by" ∷ codes "desc" ∷ codes "false" ∷ codes "filter" ∷ codes "from" ∷ codes "group"
    ∷ codes "having" ∷ codes "is" ∷ codes "not" ∷ codes "null" ∷ codes "nulls" ∷ codes "or" ∷ codes "order" ∷ codes "select" ∷ codes "true"
    ∷ codes "unknown" ∷ codes "where" ∷ []

-- whether a name is one of them
unfoldable pub is_reserved : List ℕ → Bool
is_reserved name = list_any (bytes_eq name) reserved_words
