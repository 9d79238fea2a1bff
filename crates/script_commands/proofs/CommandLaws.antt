-- Requests by how many fields a record has, the commands of a list of records, and texts that are UTF-8.
use Rattle.std.proofs.Common.{◌≡◌, ◌≢◌, ℕ, zero, suc, List, [], ◌∷◌, length, drop, get_or, refl, ap, arith, false, IsTrue, IsUtf8}
use Rattle.std.proofs.lemmas.Bool.{false_from_ne_true}
use Rattle.std.proofs.lemmas.Str.{is_utf8-from_IsUtf8, IsUtf8-from_is_utf8}
use Rattle.std.specs.Str.{is_utf8}
use Rattle.script_io.specs.Records.{Record}
use Rattle.script_commands.specs.Commands.{Unknown, command_at, commands_after, commands_of, feed_request, one_field, owned_by, owned_rows}
use Rattle.script_commands.specs.Commands.{request_of, two_fields}

pub request_two : (fields : Record) → length fields ≡ 2 → request_of fields ≡ one_field (get_or fields 0 []) (get_or fields 1 [])
unfolding request_of
request_two [] h = absurd (omega arith)
request_two (a ∷ []) h = absurd (omega arith)
request_two (a ∷ b ∷ []) h = refl
request_two (a ∷ b ∷ c ∷ rest) h = absurd (omega arith)

pub request_three : (fields : Record) → length fields ≡ 3
    → request_of fields ≡ two_fields (get_or fields 0 []) (get_or fields 1 []) (get_or fields 2 [])
unfolding request_of
request_three [] h = absurd (omega arith)
request_three (a ∷ []) h = absurd (omega arith)
request_three (a ∷ b ∷ []) h = absurd (omega arith)
request_three (a ∷ b ∷ c ∷ []) h = refl
request_three (a ∷ b ∷ c ∷ d ∷ rest) h = absurd (omega arith)

pub request_five : (fields : Record) → length fields ≡ 5
    → request_of fields ≡ feed_request (get_or fields 0 []) (get_or fields 1 []) (get_or fields 2 []) (get_or fields 3 [])
    (get_or fields 4 [])
unfolding request_of
request_five [] h = absurd (omega arith)
request_five (a ∷ []) h = absurd (omega arith)
request_five (a ∷ b ∷ []) h = absurd (omega arith)
request_five (a ∷ b ∷ c ∷ []) h = absurd (omega arith)
request_five (a ∷ b ∷ c ∷ d ∷ []) h = absurd (omega arith)
request_five (a ∷ b ∷ c ∷ d ∷ e ∷ []) h = refl
request_five (a ∷ b ∷ c ∷ d ∷ e ∷ f ∷ rest) h = absurd (omega arith)

pub request_other : (fields : Record) → length fields ≢ 2 → length fields ≢ 3 → length fields ≢ 5 → request_of fields ≡ Unknown
unfolding request_of
request_other [] two three five = refl
request_other (a ∷ []) two three five = refl
request_other (a ∷ b ∷ []) two three five = absurd (two refl)
request_other (a ∷ b ∷ c ∷ []) two three five = absurd (three refl)
request_other (a ∷ b ∷ c ∷ d ∷ []) two three five = refl
request_other (a ∷ b ∷ c ∷ d ∷ e ∷ []) two three five = absurd (five refl)
request_other (a ∷ b ∷ c ∷ d ∷ e ∷ f ∷ rest) two three five = refl

pub owned_five : (fields : Record) → length fields ≡ 5 → owned_by fields
    ≡ owned_rows (get_or fields 0 []) (get_or fields 4 [])
unfolding owned_by
owned_five [] h = absurd (omega arith)
owned_five (a ∷ []) h = absurd (omega arith)
owned_five (a ∷ b ∷ []) h = absurd (omega arith)
owned_five (a ∷ b ∷ c ∷ []) h = absurd (omega arith)
owned_five (a ∷ b ∷ c ∷ d ∷ []) h = absurd (omega arith)
owned_five (a ∷ b ∷ c ∷ d ∷ e ∷ []) h = refl
owned_five (a ∷ b ∷ c ∷ d ∷ e ∷ f ∷ rest) h = absurd (omega arith)

pub owned_other : (fields : Record) → length fields ≢ 5 → owned_by fields ≡ 0
unfolding owned_by
owned_other [] five = refl
owned_other (a ∷ []) five = refl
owned_other (a ∷ b ∷ []) five = refl
owned_other (a ∷ b ∷ c ∷ []) five = refl
owned_other (a ∷ b ∷ c ∷ d ∷ []) five = refl
owned_other (a ∷ b ∷ c ∷ d ∷ e ∷ []) five = absurd (five refl)
owned_other (a ∷ b ∷ c ∷ d ∷ e ∷ f ∷ rest) five = refl

commands_skip : (n : ℕ) (records : List Record) → commands_after n records ≡ commands_of (drop n records)
unfolding commands_after
commands_skip zero records = refl
commands_skip (suc n) [] = refl
commands_skip (suc n) (head ∷ rest) = commands_skip n rest

pub commands_next : (head : Record) (rest : List Record) → commands_of (head ∷ rest) ≡ command_at head rest
    ∷ commands_of (drop (owned_by head) rest)
unfolding commands_after
commands_next head rest = ap (λ l. command_at head rest ∷ l) (commands_skip (owned_by head) rest)

-- no records are no commands
pub commands_none : commands_of [] ≡ []
unfolding commands_after
commands_none = refl

-- a text is UTF-8 by the test, and what is none fails it
pub text_is : (bytes : List ℕ) → IsUtf8 bytes → IsTrue (is_utf8 bytes)
text_is bytes h = is_utf8-from_IsUtf8 bytes h

pub no_text : (bytes : List ℕ) → ¬ (IsUtf8 bytes) → is_utf8 bytes ≡ false
no_text bytes h = false_from_ne_true (is_utf8 bytes) (λ e. h (IsUtf8-from_is_utf8 bytes e))
