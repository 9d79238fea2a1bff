-- Numbers that are digits alone: how many records a header says follow it, and how many bytes a limit is. All of this is our own.
use Rattle.std.specs.Prelude.{ℕ, Bool, ◌&&◌, List, length, nat_lt, nat_le, Option, Some, None, if◌then◌else◌}
use Rattle.std.specs.List.{list_all}
use Rattle.std.specs.Char.{is_ascii_digit}
use Rattle.std.specs.Str.Parse.{digits_value}

-- whether bytes are 1 to this many digits
abbrev pub are_digits : ℕ → List ℕ → Bool
are_digits most field = nat_lt 0 (length field) && nat_le (length field) most && list_all is_ascii_digit field

-- the number that they stand for
abbrev pub number_of : ℕ → List ℕ → Option ℕ
number_of most field = if are_digits most field then Some (digits_value 10 field) else None

-- the number of rows that a field states, if it is one
abbrev pub row_count : List ℕ → Option ℕ
row_count field = number_of 9 field

-- the number of bytes that a field states as a limit, if it is one
abbrev pub limit_told : List ℕ → Option ℕ
limit_told field = number_of 19 field
