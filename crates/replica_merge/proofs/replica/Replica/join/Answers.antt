use Rattle.std.specs.Prelude.{◌≡◌, refl, None}
use Rattle.std.proofs.Common.{sym, subst}
use Rattle.replica_merge.specs.Lemmas.Words.{Checked, Held, AreHeldParts, JoinsReplicas, MergeIsCounted, MergeRan}
use Rattle.hash_agg.specs.Lemmas.RanLaws.{refused_still}
use Rattle.query_grammar.specs.Lemmas.OneText.{one_text}
use Rattle.replica_merge.proofs.replica.Replica.join.Goals as goal

pub join_all-requires-clause-theirs : goal.join_all-requires-clause-theirs
join_all-requires-clause-theirs g c =
    let texts = c.same_query.ensures.0 c.if-not-same_query.false in
    let same : c.self.inside.query ≡ c.other.inside.query = one_text c.self.inside.query c.other.inside.query
    c.schema-own_checked.ensures.query
    c.schema-theirs_checked.ensures.query texts.0 texts.1 in
    subst (λ (q : Checked). AreHeldParts q c.other.inside.parts.entries) (sym same) c.other.invariant

pub returns-then-not-same_query-clause-ran : goal.returns-then-not-same_query-clause-ran
returns-then-not-same_query-clause-ran g c = record {
  ran = refused_still g.D.TapeDisk g.H.KeyHash.hash_of c.args.self.now.query c.args.means.now
      (MergeIsCounted c.args.self.now.parts c.args.other.now.parts) None c.args.disk.now c.args.executor.now refl (λ honest same. cc);
  order = λ so. tt;
}

pub returns-clause-joins : goal.returns-clause-joins
returns-clause-joins g c =
    let texts = c.same_query.ensures.0 c.if-not-same_query.false in
    let same : c.self.inside.query ≡ c.other.inside.query = one_text c.self.inside.query c.other.inside.query
    c.schema-own_checked.ensures.query
    c.schema-theirs_checked.ensures.query texts.0 texts.1 in
    let honest = g.D.TapeDisk.honest c.args.disk.now in
    let own : Held = record { query = c.self.inside.query; parts = c.self.inside.parts.entries } in
    subst (λ (h : Held). JoinsReplicas honest h c.args.other.now c.join_all.result) c.self.view_is
    (subst (λ (h : Held). JoinsReplicas honest own h c.join_all.result) c.other.view_is
    (subst (λ (q : Checked). JoinsReplicas honest own (record { query = q; parts = c.other.inside.parts.entries }) c.join_all.result) same
    c.join_all.ensures.joins))

pub returns-clause-ran : goal.returns-clause-ran
returns-clause-ran g c =
    let texts = c.same_query.ensures.0 c.if-not-same_query.false in
    let same : c.self.inside.query ≡ c.other.inside.query = one_text c.self.inside.query c.other.inside.query
    c.schema-own_checked.ensures.query
    c.schema-theirs_checked.ensures.query texts.0 texts.1 in
    let own : Held = record { query = c.self.inside.query; parts = c.self.inside.parts.entries } in
    let hash_of = g.H.KeyHash.hash_of in
    let tapes = g.D.TapeDisk in
    subst (λ (h : Held). MergeRan tapes hash_of h c.args.other.now c.args.means.now c.join_all.result c.args.disk.now c.args.executor.now
    c.join_all.new.disk c.join_all.new.executor) c.self.view_is
    (subst (λ (h : Held). MergeRan tapes hash_of own h c.args.means.now c.join_all.result c.args.disk.now c.args.executor.now
    c.join_all.new.disk c.join_all.new.executor) c.other.view_is
    (subst (λ (q : Checked). MergeRan tapes hash_of own (record { query = q; parts = c.other.inside.parts.entries }) c.args.means.now
    c.join_all.result c.args.disk.now c.args.executor.now c.join_all.new.disk c.join_all.new.executor) same c.join_all.ensures.ran))
