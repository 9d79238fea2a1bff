use Rattle.std.specs.Prelude.{refl, ◌∷◌, [], List, ℕ}
use Rattle.std.proofs.Common.{sym, ◌∙◌, ap}
use Rattle.hash_agg.proofs.Words.{NoMemory, row_of, Packed_rows, On_tape, query_of, Of_row, standing}
use Rattle.hash_agg.proofs.AddedLaws.{same_pass, genuine_by, refused_here, damaged_here}
use Rattle.hash_agg.proofs.RecordLaws.{can_row_record, record_is_row, row_right}
use Rattle.hash_agg.proofs.pass.Pass.add_row_record.Goals as goal

pub returns-in_err-row : goal.returns-in_err-row
returns-in_err-row g c =
    refused_here c.from_residual.result NoMemory c.from_residual.ensures.1 (λ can same. cc) (λ same. cc)

pub returns-in_err-select : goal.returns-in_err-select
returns-in_err-select g c =
    refused_here c.from_residual-in_err-select.result c.in_err-select.field-0.0 c.from_residual-in_err-select.ensures.1
    (λ can.
    let one = can_row_record c.args.self.now.plan (g.H.KeyHash.hash_of c.args.self.now.groups.hash) c.args.hash c.args.packed.now
    (standing c.args.self.now.groups c.args.self.now.spill (g.D.TapeDisk.last c.args.disk.now)) can in
    c.in_err-select.ensures.undamaged one.0 one.1.of_kinds one.1.bytes)
    c.in_err-select.ensures.faultless

pub returns-then-not-branch : goal.returns-then-not-branch
returns-then-not-branch g c =
    damaged_here
    (λ can.
    let one = row_right c.args.self.now.plan (g.H.KeyHash.hash_of c.args.self.now.groups.hash) c.args.hash c.args.packed.now
    (row_of c.select.new.row.items) (standing c.args.self.now.groups c.args.self.now.spill (g.D.TapeDisk.last c.args.disk.now))
    c.in_ok-select.ensures.row.0 c.in_ok-select.ensures.row.1 can in
    let met = sym c.in_ok-select.ensures.met ∙ c.if-not-branch.true in
    let other = one.met in
    cc)
    (same_pass c.args.self.now)

pub returns-then-hash : goal.returns-then-hash
returns-then-hash g c =
    damaged_here
    (λ can.
    let hf : List ℕ → ℕ = g.H.KeyHash.hash_of c.args.self.now.groups.hash in
    let one = row_right c.args.self.now.plan hf c.args.hash c.args.packed.now (row_of c.select.new.row.items)
    (standing c.args.self.now.groups c.args.self.now.spill (g.D.TapeDisk.last c.args.disk.now)) c.in_ok-select.ensures.row.0
    c.in_ok-select.ensures.row.1 can in
    c.if-hash.true (c.hash.ensures ∙ ap hf (c.deref.ensures.value ∙ c.in_ok-select.ensures.key c.if-not-branch.false) ∙ sym one.hashed))
    (same_pass c.args.self.now)

pub returns : goal.returns
returns g c =
    let hf : List ℕ → ℕ = g.H.KeyHash.hash_of c.args.self.now.groups.hash in
    let row = c.in_ok-select.ensures.row in
    genuine_by g.H.KeyHash.hash_of g.D.TapeDisk (On_tape c.args.hash 0 c.args.packed.now) (Packed_rows (c.args.packed.now ∷ []))
    c.args.self.now c.args.disk.now
    (record_is_row (query_of c.args.self.now) hf c.args.hash c.args.packed.now)
    c.add_selected.result c.add_selected.new.self c.add_selected.new.disk (
      Of_row (row_of c.select.new.row.items),
      (
        record {
          tag = refl;
          of_kinds = row.0;
          bytes = row.1;
          met = sym c.in_ok-select.ensures.met ∙ c.if-not-branch.false;
          hashed = sym c.if-hash.false ∙ c.hash.ensures ∙ ap hf (c.deref.ensures.value ∙ c.in_ok-select.ensures.key c.if-not-branch.false);
        },
        tt,
      ),
    )
    c.add_selected.ensures
