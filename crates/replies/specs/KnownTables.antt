-- What is known as tables for other programs: of each origin its number, the last batch of its unbroken prefix, and the numbers that
-- came early behind it. Unless a source is named, all of this is our own.
use Rattle.std.specs.Prelude.{ℕ, List, [], ◌∷◌, ◌++◌, flat_map, codes, decimal}
use Rattle.std.specs.List.{join_by}
use Rattle.grouping_model.specs.Replies.{KnownOrigin}
use Rattle.replies.specs.Text.{origins_text}
use Rattle.replies.specs.declared.showing.KnownFormat.{KnownFormat}
use Rattle.replies.specs.declared.showing.KnownFormat.TheVariants.{Lines, Tsv, Json}

-- an origin as a line of TSV (PostgreSQL 17, COPY, Text Format); its early numbers are one value, with a space between two
abbrev pub origin_tsv : KnownOrigin → List ℕ
origin_tsv known = decimal known.origin ++ 9 ∷ [] ++ decimal known.upto ++ 9 ∷ [] ++ join_by decimal (codes " ") known.early ++ codes "\n"

-- the header, and a line for each origin
abbrev pub known_tsv : List KnownOrigin → List ℕ
known_tsv list = codes "origin" ++ 9 ∷ [] ++ codes "upto" ++ 9 ∷ [] ++ codes "early\n" ++ flat_map origin_tsv list

-- an origin as an object of JSON (RFC 8259) on a line; its early numbers are an array
abbrev pub origin_json : KnownOrigin → List ℕ
origin_json known = codes "{\"origin\":" ++ decimal known.origin ++ codes ",\"upto\":" ++ decimal known.upto ++ codes ",\"early\":["
    ++ join_by decimal (codes ",") known.early ++ codes "]}\n"

-- an object for each origin
abbrev pub known_json : List KnownOrigin → List ℕ
known_json list = flat_map origin_json list

-- what is known, in a format
abbrev pub known_in : KnownFormat → List KnownOrigin → List ℕ
known_in Lines list = origins_text list
known_in Tsv list = known_tsv list
known_in Json list = known_json list
