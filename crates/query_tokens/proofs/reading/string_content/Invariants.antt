use Rattle.std.proofs.Common.{◌≡◌, length, false}
use denote.Text.{Utf8}
use denote.Shadow.{shadow}
use Rattle.std.specs.String.{string_bytes}
use Rattle.query_tokens.specs.Tokens.{string_content}
use Rattle.query_tokens.proofs.Quotes.{with_front}
use Rattle.query_tokens.proofs.reading.string_content.Given as goal

abbrev pub invariant-loop-piece : goal.invariant-loop-piece
invariant-loop-piece l = record {
  text : shadow (Utf8 l.rest);
  told : with_front (string_bytes l.content) (string_content false l.rest)
      ≡ string_content false l.text;
}

abbrev pub decreases-loop-piece : goal.decreases-loop-piece
decreases-loop-piece l = length l.rest
