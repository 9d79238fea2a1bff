-- What the code's tokens, conditions and faults stand for. All of this is our own.
use Rattle.std.specs.Prelude.{◌≡◌, ℕ, Bool, List, option_map, string_bytes, Option, Result, Ok, Err}
use Rattle.std.specs.declared.alloc.Global.{Global}
use Rattle.std.specs.declared.string.String.{String}
use Rattle.query_tokens.specs.declared.word.Token.{Token}
use Rattle.query_tokens.specs.Words.{Lexeme, all_placed}
use Rattle.query_tokens.specs.Spelling.{lexemes_of}
use Rattle.grouping_model.specs.Condition as model
use Rattle.query_checks.specs.declared.condition.Cond.{Cond}
use Rattle.query_checks.specs.declared.condition.AggCall.{AggCall}
use Rattle.query_checks.specs.declared.condition.Item.{Item}
use Rattle.query_checks.specs.Forms as form
use Rattle.query_checks.specs.Forms.{form_of, call_form, item_form, names_of}
use Rattle.query_grammar.specs.Grammar.{Named}
use Rattle.query_grammar.specs.Reading.{Read, Unexpected, Too_deep}
use Rattle.group_parser.specs.declared.fault.ReadError.{ReadError}
use Rattle.group_parser.specs.declared.fault.ReadError.TheVariants as errors

-- what tokens say
abbrev pub lexemes : List Token → List Lexeme
lexemes tokens = lexemes_of (all_placed tokens)

-- a condition, a call and an item that were read
abbrev pub condition_read : Cond (String Global) → Named
condition_read c = names_of (form_of c)

abbrev pub call_read : AggCall (String Global) → Named
call_read call = names_of (call_form call)

abbrev pub item_read : Item (String Global) → Named
item_read item = names_of (item_form item)

abbrev pub alias_read : Option (String Global) → Option (List ℕ)
alias_read alias = option_map string_bytes alias

-- an IS test of a condition, or an IS NOT test
abbrev pub test_form : model.Test → Bool → Named → Named
test_form test negated x = form.Unary (form.Testing test negated) x

-- an error is the fault that reading gives, unless an allocation failed
abbrev pub Fails : {Y : Type 0} → ReadError → Read Y → Type 0
Fails errors.NoMemory read = Unit {0}
Fails (errors.Unexpected left) read = read ≡ Err (Unexpected left)
Fails (errors.TooDeep left) read = read ≡ Err (Too_deep left)

-- what a function returned, seen by view, is what reading gives, unless an allocation failed
abbrev pub Gives : {X Y : Type 0} → (X → Y × List Lexeme) → Result X ReadError → Read Y → Type 0
Gives view (Ok x) read = read ≡ Ok (view x)
Gives view (Err e) read = Fails e read
