use Rattle.std.proofs.Common.{string_bytes}
use Rattle.agg_protocol.specs.Kinds.{function_of}
use Rattle.query_checks.proofs.SpellingLaws.{filtered_call}
use Rattle.query_checks.proofs.spelling.+push.Goals as goal

pub push_call-returns-in_ok-push_str-2 : goal.push_call-returns-in_ok-push_str-2
push_call-returns-in_ok-push_str-2 t c =
    rw (
      c.in-Some.is,
      c.in_ok-push_str-2.ensures.bytes,
      c.in_ok-push_condition.ensures,
      c.in_ok-push_str.ensures.bytes,
      c.in_ok-push_function.ensures,
    )
    (filtered_call (string_bytes c.args.text.now) (function_of c.args.call.now.kind) c.args.call.now.column c.in-Some.filter)
