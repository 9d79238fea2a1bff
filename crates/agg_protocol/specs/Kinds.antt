-- The function of each kind of aggregate, what it takes, and the width of its states.
use Rattle.std.specs.Prelude.{◌≡◌, refl, ℕ, List, [], ◌∷◌, map, slice_index_or, sum_by}
use Rattle.grouping_model.specs.Aggregates as model
use Rattle.grouping_model.specs.Aggregates.{Function}
use Rattle.packed_rows.specs.View.{kind_of}
use Rattle.agg_protocol.specs.States.{Shape, shape_of, width_of}
use Rattle.agg_protocol.specs.Signatures as signatures
use Rattle.agg_protocol.specs.Signatures.{function_number}
use Rattle.agg_protocol.specs.declared.kind.AggKind.{AggKind}
use Rattle.agg_protocol.specs.declared.kind.Argument.{Argument}
use Rattle.agg_protocol.specs.declared.kind.Argument.TheVariants as argument
use Rattle.agg_protocol.specs.declared.kind.AggKind.TheVariants.{CountRows, Count, Sum, Min, Max, BitAnd, BitOr, BitXor, BoolAnd, BoolOr}
use Rattle.agg_protocol.specs.declared.kind.AggKind.TheVariants.{Every}

-- the function that a kind names (PostgreSQL 17, 9.21 Aggregate Functions)
abbrev pub function_of : AggKind → Function
function_of CountRows = model.Count_rows
function_of Count = model.Count
function_of Sum = model.Sum
function_of Min = model.Min
function_of Max = model.Max
function_of BitAnd = model.Bit_and
function_of BitOr = model.Bit_or
function_of BitXor = model.Bit_xor
function_of BoolAnd = model.Bool_and
function_of BoolOr = model.Bool_or
function_of Every = model.Every

-- all kinds, in the order of their functions' numbers (own)
abbrev pub kinds : List AggKind
kinds = CountRows ∷ Count ∷ Sum ∷ Min ∷ Max ∷ BitAnd ∷ BitOr ∷ BitXor ∷ BoolAnd ∷ BoolOr ∷ Every ∷ []

-- the kind that names a function, and that it does (own)
abbrev pub kind_for : Function → AggKind
kind_for function = slice_index_or kinds (function_number function) Every

pub kind_for_names : (function : Function) → function_of (kind_for function) ≡ function
kind_for_names model.Count_rows = refl
kind_for_names function = refl

-- the functions that some kinds name (own)
abbrev pub functions_of : List AggKind → List Function
functions_of kinds = map function_of kinds

-- the argument that the code names (PostgreSQL 17, 4.2.7 Aggregate Expressions)
abbrev pub argument_of : Argument → signatures.Argument
argument_of argument.EachRow = signatures.Each_row
argument_of argument.AnyValue = signatures.Any_value
argument_of (argument.ValuesOf kind) = signatures.Values_of (kind_of kind)

-- what the states of a kind hold (own)
abbrev pub kind_shape : AggKind → Shape
kind_shape kind = shape_of (function_of kind)

-- how many bytes a state of a kind has (own)
abbrev pub kind_width : AggKind → ℕ
kind_width kind = width_of (kind_shape kind)

-- how many bytes a row of states has (own)
abbrev pub row_width : List AggKind → ℕ
row_width kinds = sum_by kind_width kinds
