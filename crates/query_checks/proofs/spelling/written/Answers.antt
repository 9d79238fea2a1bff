use Rattle.std.proofs.Common.{refl}
use Rattle.query_checks.proofs.spelling.written.Goals as goal

pub returns : goal.returns
returns c =
    rw (
      c.in_ok-push_clause-2.ensures,
      c.in_ok-push_keys.ensures,
      c.in_ok-push_clause.ensures,
      c.in_ok-push_str.ensures.bytes,
      c.in_ok-push_items.ensures,
      c.in_ok-text.ensures.ok,
      c.deref.ensures.value,
      c.requires,
    ) refl
