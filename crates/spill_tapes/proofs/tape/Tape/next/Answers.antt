use Rattle.std.proofs.Common.{◌<◌, ◌≤◌, sym, ap, subst, ◌∙◌, arith}
use Rattle.std.specs.Prelude.{IsTrue, Some}
use Rattle.std.proofs.lemmas.Bool.{true≢false}
use Rattle.spill_tapes.specs.Tape.{TapeState, IsGood, IsGoodIn}
use Rattle.spill_tapes.proofs.HeaderLaws.{left_front, can_stand, stands, ended_as, ended_count, ended_gives}
use Rattle.spill_tapes.proofs.tape.Tape.next.Goals as goal

pub returns-then-self-clause-undamaged : goal.returns-then-self-clause-undamaged
returns-then-self-clause-undamaged g c =
    let t = c.args.self.now in let view = c.self.view_is in
    let some : 0 < t.records = omega (arith, c.if-self-eq0.false, ap (λ (x : TapeState). x.records) view) in
    λ honest rs had same.
    let left : 9 ≤ t.left = left_front (g.D.TapeDisk.last c.args.disk.now) t rs had some in
    absurd (omega (arith, left, ap (λ (x : TapeState). x.left) view, c.if-self.true))

pub returns-then-not-can_have-clause-undamaged : goal.returns-then-not-can_have-clause-undamaged
returns-then-not-can_have-clause-undamaged g c = λ honest rs had same.
    let stands = can_stand (g.D.TapeDisk.last c.next_header.new.disk) c.next_header.new.self c.in_ok-header.header rs
    (c.in_ok-header.ensures.header honest rs had) in
    absurd (true≢false (sym stands ∙ sym c.can_have.ensures ∙ c.if-not-can_have.true))

pub returns-clause-given : goal.returns-clause-given
returns-clause-given g c =
    let one = c.in_ok-header.ensures in let two = c.in_ok-next_bytes.ensures in let header = c.in_ok-header.header in let end =
    c.end_reading.ensures in let t = c.next_bytes.new.self in
    let phase = two.part.phase ∙ one.part.phase ∙ c.requires.phase in
    let is = stands header.tag header.len c.next_header.new.self.left c.next_header.new.self.records (sym c.can_have.ensures
    ∙ c.if-not-can_have.false) in
    record {
      good = subst IsGood (sym end) (ended_as t phase (subst (λ p. IsGoodIn p t) (sym phase) two.part.good)).2;
      gives = λ honest rs had. ended_gives (g.D.TapeDisk.last c.next_bytes.new.disk) t c.end_reading.new.self rs
          c.next_bytes.new.bytes.items (Some (header.hash, header.tag)) end (two.gives (subst IsTrue (sym one.part.disk.honesty) honest) rs
          (one.header honest rs had));
      counted = omega (
        arith,
        one.records,
        two.records,
        ap (λ (x : TapeState). x.records) end,
        ended_count t,
        ap
            (λ (x : TapeState). x.records) c.self.view_is,
      );
      none = tt;
      framed = (is.0, omega (arith, two.len, is.1));
    }
