use Rattle.std.specs.Prelude.{◌+◌, ◌<◌, IsSome, Some}
use Rattle.std.proofs.Common.{sym, subst}
use Rattle.having_filter.specs.Meaning.{meaning}
use Rattle.hash_agg.specs.Counting.{AreCounted, setting_by}
use Rattle.hash_agg.specs.Lemmas.RanLaws.{ran_as, ran_weaker, refused_by, refused_other}
use Rattle.hash_agg.specs.Ran.{Done, Refused, ended}
use Rattle.origin_prefix.specs.Joins.{UniteIsCounted}
use Rattle.origin_prefix.proofs.CountLaws.{no_memory_ran, no_memory_follows, refused_follows}
use Rattle.origin_prefix.specs.Parts.{Batches, Part, IsOpen, Drains, rows_at, following, aggregations_behind}
use Rattle.origin_prefix.proofs.PartLaws.{drained_part}
use Rattle.origin_prefix.proofs.JoinLaws.{united_open, united_batches, next_of_other}
use Rattle.origin_prefix.proofs.part.OriginPart.united.Goals as goal

pub drain-requires : goal.drain-requires
drain-requires g c =
    let a : Part = record { prefix = c.self.inside.prefix; run = c.self.inside.run; early = c.self.inside.early.entries } in
    let b : Part = record { prefix = c.shorter.inside.prefix; run = c.shorter.inside.run; early = c.shorter.inside.early.entries } in
    let may : IsOpen c.args.query.now a.prefix a.run c.copy_above-2.new.into.entries =
    united_open c.args.query.now a b c.args.self.now c.args.shorter.now c.new-early.result.entries c.copy_above.new.into.entries
    c.copy_above-2.new.into.entries c.self.view_is c.shorter.view_is
    c.new-early.ensures.empty c.requires.part c.requires.other c.in_ok-copy_above.ensures.rows c.in_ok-copy_above-2.ensures.rows
    c.in_ok-copy_above.ensures.behind c.in_ok-copy_above-2.ensures.behind
    c.in_ok-copy_above-2.ensures.rising in
    record { may = subst (λ run. IsOpen c.args.query.now a.prefix run c.copy_above-2.new.into.entries) (sym c.in_ok-try_clone.ensures) may }

pub returns-clause-joins : goal.returns-clause-joins
returns-clause-joins g c =
    let a : Part = record { prefix = c.self.inside.prefix; run = c.self.inside.run; early = c.self.inside.early.entries } in
    let b : Part = record { prefix = c.shorter.inside.prefix; run = c.shorter.inside.run; early = c.shorter.inside.early.entries } in
    let drained : Drains (g.D.TapeDisk.honest c.args.disk.now) (meaning c.args.query.now) a.prefix a.run c.copy_above-2.new.into.entries
    c.drain.new.self =
    subst (λ run. Drains (g.D.TapeDisk.honest c.args.disk.now) (meaning c.args.query.now) a.prefix run c.copy_above-2.new.into.entries
    c.drain.new.self) c.in_ok-try_clone.ensures c.in_ok-drain.ensures.drained in (
      c.copy_above-2.new.into.entries,
      united_batches c.args.query.now a b c.args.self.now c.args.shorter.now c.new-early.result.entries c.copy_above.new.into.entries
          c.copy_above-2.new.into.entries c.self.view_is c.shorter.view_is
          c.new-early.ensures.empty c.requires.part c.requires.other c.in_ok-copy_above.ensures.rows c.in_ok-copy_above-2.ensures.rows
          c.in_ok-copy_above.ensures.behind c.in_ok-copy_above-2.ensures.behind
          c.in_ok-copy_above-2.ensures.rising,
      subst (λ (p : Part). Drains (g.D.TapeDisk.honest c.args.disk.now) (meaning c.args.query.now) p.prefix p.run
          c.copy_above-2.new.into.entries c.drain.new.self) c.self.view_is drained,
    )

pub returns-clause-ran : goal.returns-clause-ran
returns-clause-ran g c =
    let a : Part = record { prefix = c.self.inside.prefix; run = c.self.inside.run; early = c.self.inside.early.entries } in
    let b : Part = record { prefix = c.shorter.inside.prefix; run = c.shorter.inside.run; early = c.shorter.inside.early.entries } in
    let both = c.copy_above-2.new.into.entries in
    let united = united_batches c.args.query.now a b c.args.self.now c.args.shorter.now c.new-early.result.entries
    c.copy_above.new.into.entries both c.self.view_is c.shorter.view_is c.new-early.ensures.empty c.requires.part c.requires.other
    c.in_ok-copy_above.ensures.rows c.in_ok-copy_above-2.ensures.rows c.in_ok-copy_above.ensures.behind c.in_ok-copy_above-2.ensures.behind
    c.in_ok-copy_above-2.ensures.rising in
    ran_weaker g.D.TapeDisk g.H.KeyHash.hash_of c.args.query.now c.args.means.now (AreCounted (aggregations_behind a.prefix both))
    (UniteIsCounted c.args.self.now c.args.shorter.now) Done c.args.disk.now c.args.executor.now c.drain.new.disk c.drain.new.executor
    (λ counted. record {
      behind = both;
      united = united;
      counted = subst (λ (p : Part). AreCounted (aggregations_behind p.prefix both) (meaning c.args.query.now)
          (setting_by g.H.KeyHash.hash_of (meaning c.args.query.now) c.args.means.now) c.args.executor.now
          (g.D.TapeDisk.writes c.args.disk.now) c.drain.new.executor (g.D.TapeDisk.writes c.drain.new.disk)) c.self.view_is counted;
    }) c.in_ok-drain.ensures.ran

pub returns-in_err-copy_above-clause-ran : goal.returns-in_err-copy_above-clause-ran
returns-in_err-copy_above-clause-ran g c = no_memory_ran g.D.TapeDisk g.H.KeyHash.hash_of c.args.query.now c.args.means.now
    (UniteIsCounted c.args.self.now c.args.shorter.now) c.from_residual.result c.args.disk.now c.args.executor.now c.from_residual.ensures.1

pub returns-in_err-copy_above-2-clause-ran : goal.returns-in_err-copy_above-2-clause-ran
returns-in_err-copy_above-2-clause-ran g c = no_memory_ran g.D.TapeDisk g.H.KeyHash.hash_of c.args.query.now c.args.means.now
    (UniteIsCounted c.args.self.now c.args.shorter.now) c.from_residual-in_err-copy_above-2.result c.args.disk.now c.args.executor.now
    c.from_residual-in_err-copy_above-2.ensures.1

pub returns-in_err-try_clone-clause-ran : goal.returns-in_err-try_clone-clause-ran
returns-in_err-try_clone-clause-ran g c = no_memory_ran g.D.TapeDisk g.H.KeyHash.hash_of c.args.query.now c.args.means.now
    (UniteIsCounted c.args.self.now c.args.shorter.now) c.from_residual-in_err-try_clone.result c.args.disk.now c.args.executor.now
    c.from_residual-in_err-try_clone.ensures.1

pub returns-in_err-drain-clause-ran : goal.returns-in_err-drain-clause-ran
returns-in_err-drain-clause-ran g c =
    let result = c.from_residual-in_err-drain.result in
    let error = c.in_err-drain.field-0.0 in
    ran_as g.D.TapeDisk g.H.KeyHash.hash_of c.args.query.now c.args.means.now (UniteIsCounted c.args.self.now c.args.shorter.now)
    (Refused (Some error)) (ended result) c.args.disk.now c.args.executor.now c.drain.new.disk c.drain.new.executor
    (sym (refused_by Some result error c.from_residual-in_err-drain.ensures.1))
    (refused_other g.D.TapeDisk g.H.KeyHash.hash_of c.args.query.now c.args.means.now _
    (UniteIsCounted c.args.self.now c.args.shorter.now) (Some error) c.args.disk.now c.args.executor.now c.drain.new.disk c.drain.new.executor
    c.in_err-drain.ensures.ran)

pub returns-clause-part : goal.returns-clause-part
returns-clause-part g c =
    let a : Part = record { prefix = c.self.inside.prefix; run = c.self.inside.run; early = c.self.inside.early.entries } in
    let b : Part = record { prefix = c.shorter.inside.prefix; run = c.shorter.inside.run; early = c.shorter.inside.early.entries } in
    let drained : Drains (g.D.TapeDisk.honest c.args.disk.now) (meaning c.args.query.now) a.prefix a.run c.copy_above-2.new.into.entries
    c.drain.new.self =
    subst (λ run. Drains (g.D.TapeDisk.honest c.args.disk.now) (meaning c.args.query.now) a.prefix run c.copy_above-2.new.into.entries
    c.drain.new.self) c.in_ok-try_clone.ensures c.in_ok-drain.ensures.drained in
    let may : IsOpen c.args.query.now a.prefix a.run c.copy_above-2.new.into.entries =
    united_open c.args.query.now a b c.args.self.now c.args.shorter.now c.new-early.result.entries c.copy_above.new.into.entries
    c.copy_above-2.new.into.entries c.self.view_is c.shorter.view_is
    c.new-early.ensures.empty c.requires.part c.requires.other c.in_ok-copy_above.ensures.rows c.in_ok-copy_above-2.ensures.rows
    c.in_ok-copy_above.ensures.behind c.in_ok-copy_above-2.ensures.behind
    c.in_ok-copy_above-2.ensures.rising in
    drained_part (g.D.TapeDisk.honest c.args.disk.now) c.args.query.now a.prefix a.run c.copy_above-2.new.into.entries c.drain.new.self may
    drained

-- ---- what an error says of the batches

pub returns-in_err-copy_above-clause-follows : goal.returns-in_err-copy_above-clause-follows
returns-in_err-copy_above-clause-follows g c =
    no_memory_follows c.from_residual.result (IsSome (rows_at c.args.shorter.now.early (c.args.self.now.prefix + 1)))
    c.from_residual.ensures.1

pub returns-in_err-copy_above-2-clause-follows : goal.returns-in_err-copy_above-2-clause-follows
returns-in_err-copy_above-2-clause-follows g c =
    no_memory_follows c.from_residual-in_err-copy_above-2.result
    (IsSome (rows_at c.args.shorter.now.early (c.args.self.now.prefix + 1))) c.from_residual-in_err-copy_above-2.ensures.1

pub returns-in_err-try_clone-clause-follows : goal.returns-in_err-try_clone-clause-follows
returns-in_err-try_clone-clause-follows g c =
    no_memory_follows c.from_residual-in_err-try_clone.result
    (IsSome (rows_at c.args.shorter.now.early (c.args.self.now.prefix + 1))) c.from_residual-in_err-try_clone.ensures.1

pub returns-in_err-drain-clause-follows : goal.returns-in_err-drain-clause-follows
returns-in_err-drain-clause-follows g c =
    let a : Part = record { prefix = c.self.inside.prefix; run = c.self.inside.run; early = c.self.inside.early.entries } in
    let b : Part = record { prefix = c.shorter.inside.prefix; run = c.shorter.inside.run; early = c.shorter.inside.early.entries } in
    let own : Part = c.args.self.now in
    let both : Batches = c.copy_above-2.new.into.entries in
    let united = united_batches c.args.query.now a b own c.args.shorter.now c.new-early.result.entries c.copy_above.new.into.entries both
    c.self.view_is c.shorter.view_is c.new-early.ensures.empty c.requires.part c.requires.other c.in_ok-copy_above.ensures.rows
    c.in_ok-copy_above-2.ensures.rows c.in_ok-copy_above.ensures.behind c.in_ok-copy_above-2.ensures.behind
    c.in_ok-copy_above-2.ensures.rising in
    refused_follows c.from_residual-in_err-drain.result c.in_err-drain.field-0.0
    (IsSome (rows_at c.args.shorter.now.early (own.prefix + 1))) c.from_residual-in_err-drain.ensures.1
    (λ other. next_of_other c.args.query.now own c.args.shorter.now both c.requires.part united
    (subst (λ (p : Part). 0 < following p.prefix both) c.self.view_is (c.in_err-drain.ensures.follows other)))
