use Rattle.std.proofs.Common.{◌≡◌, ◌++◌, length}
use denote.Text.{Utf8}
use denote.Shadow.{shadow}
use Rattle.std.specs.List.{flat_map}
use Rattle.std.specs.String.{string_bytes}
use Rattle.query_tokens.specs.Spelling.{spell_byte}
use Rattle.query_checks.proofs.spelling.push_quoted.Given as goal

abbrev pub invariant-loop-piece : goal.invariant-loop-piece
invariant-loop-piece l =
    record {
      text : shadow (Utf8 l.rest);
      pushed : string_bytes l.text ++ flat_map spell_byte l.rest ≡ string_bytes l.fn.text ++ flat_map spell_byte l.fn.literal;
    }

abbrev pub decreases-loop-piece : goal.decreases-loop-piece
decreases-loop-piece l = length l.rest
