use Rattle.std.specs.Prelude.{◌≡◌, MatchOption}
use Rattle.std.proofs.Common.{◌∙◌, sym, subst, take}
use Rattle.std.proofs.lemmas.Option.{none-some}
use Rattle.command_words.specs.Streams.{is_stream, streams_of}
use Rattle.command_words.proofs.Twice.{two}
use Rattle.command_words.proofs.streams.read_twice.Goals as goal

pub returns-in-Some : goal.returns-in-Some
returns-in-Some c =
    let one = subst (λ f. MatchOption f (streams_of (take c.loop-input.input-index c.args.inputs.now) ≡ 0)
    (λ _. streams_of (take c.loop-input.input-index c.args.inputs.now) ≡ 1)) c.in-Some.is c.loop-input.invariant in (
      λ e. absurd (none-some _ (sym e)),
      λ most. absurd (two (λ input. is_stream input.path.now) c.args.inputs.now c.loop-input.input-index _ c.loop-input-test.true one
          (sym c.is_stream.ensures ∙ c.if-is_stream.true) most),
    )
