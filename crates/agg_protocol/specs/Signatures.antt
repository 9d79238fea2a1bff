-- The aggregate functions: the name, the argument and the result of each, one line a function
-- (PostgreSQL 17, 9.21 Aggregate Functions). Whatever else is said of a function by its name or kinds follows from here.
use Rattle.std.specs.Prelude.{◌≡◌, refl, ℕ, ◌==◌, List, [], ◌∷◌, Bool, true, false, ◌&&◌, slice_index_or, Option, find, codes}
use Rattle.std.specs.Str.{bytes_eq}
use Rattle.grouping_model.specs.Datum.{Kind, Bigint_kind, Boolean_kind}
use Rattle.grouping_model.specs.Aggregates.{Function, Count_rows, Count, Sum, Min, Max, Bit_and, Bit_or, Bit_xor, Bool_and, Bool_or, Every}

-- what a function's parentheses take: `*`, which is each row; a value of any kind; or values of one kind
-- (PostgreSQL 17, 4.2.7 Aggregate Expressions and 9.21; that the numbers have the kind bigint alone is our own)
pub data Argument : Type 0 where
  Each_row Any_value : Argument
  Values_of : Kind → Argument

-- a function by its number, its name, its argument and the kind of its result. A numeric has the kind bigint here, since
-- both compare by their values (PostgreSQL 17, 9.21 and 10.2; the numbers are our own)
pub record Signature : Type 0 where
  pub number : ℕ
  pub name : List ℕ
  pub argument : Argument
  pub result : Kind

abbrev pub signed : ℕ → List ℕ → Argument → Kind → Signature
signed number name argument result = record { number = number; name = name; argument = argument; result = result }

abbrev pub signature : Function → Signature
signature Count_rows = signed 0 (codes "count") Each_row Bigint_kind
signature Count = signed 1 (codes "count") Any_value Bigint_kind
signature Sum = signed 2 (codes "sum") (Values_of Bigint_kind) Bigint_kind
signature Min = signed 3 (codes "min") (Values_of Bigint_kind) Bigint_kind
signature Max = signed 4 (codes "max") (Values_of Bigint_kind) Bigint_kind
signature Bit_and = signed 5 (codes "bit_and") (Values_of Bigint_kind) Bigint_kind
signature Bit_or = signed 6 (codes "bit_or") (Values_of Bigint_kind) Bigint_kind
signature Bit_xor = signed 7 (codes "bit_xor") (Values_of Bigint_kind) Bigint_kind
signature Bool_and = signed 8 (codes "bool_and") (Values_of Boolean_kind) Boolean_kind
signature Bool_or = signed 9 (codes "bool_or") (Values_of Boolean_kind) Boolean_kind
signature Every = signed 10 (codes "every") (Values_of Boolean_kind) Boolean_kind

-- all functions, in the order of their numbers
abbrev pub functions : List Function
functions = Count_rows ∷ Count ∷ Sum ∷ Min ∷ Max ∷ Bit_and ∷ Bit_or ∷ Bit_xor ∷ Bool_and ∷ Bool_or ∷ Every ∷ []

-- the number of a function, and the function of a number
abbrev pub function_number : Function → ℕ
function_number function = (signature function).number

abbrev pub function_at : ℕ → Function
function_at number = slice_index_or functions number Every

-- a function's number leads back to it
pub function_at_back : (function : Function) → function_at (function_number function) ≡ function
function_at_back Count_rows = refl
function_at_back function = refl

-- whether two functions are the same
abbrev pub function_eq : Function → Function → Bool
function_eq f g = function_number f == function_number g

-- whether an argument is a value, and not a row
abbrev pub is_value : Argument → Bool
is_value Each_row = false
is_value other = true

-- whether this is the name of a function that takes values
abbrev pub is_named : List ℕ → Function → Bool
is_named name function = is_value (signature function).argument && bytes_eq name (signature function).name

-- the function of this name that takes values, if there is one
unfoldable pub function_named : List ℕ → Option Function
function_named name = find (is_named name) functions
