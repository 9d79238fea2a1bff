use Rattle.std.proofs.Common.{◌≡◌, ap, ◌∙◌, sym, rules, Some}
use Rattle.std.specs.Int.{w64, cast_signed, cast_unsigned}
use Rattle.std.proofs.lemmas.Int.{to_z-of_z}
use Rattle.grouping_model.specs.Aggregates.{Number}
use Rattle.agg_protocol.specs.States.{bytes_of}
use Rattle.agg_protocol.specs.Lemmas.Bytes.{number_written}
use Rattle.agg_library.proofs.codec.write_number.Goals as goal

pub returns-in-Some-clause-written : goal.returns-in-Some-clause-written
returns-in-Some-clause-written c =
    let same : cast_signed w64 (cast_unsigned w64 c.in-Some.number) ≡ c.in-Some.number = search (rules, to_z-of_z) in
    number_written c.args.bytes.now c.write_i64.new.buf (cast_signed w64 (cast_unsigned w64 c.in-Some.number)) c.requires
    c.write_i64.ensures ∙ ap (λ o. bytes_of (Number o)) (ap Some same ∙ sym c.in-Some.is)
