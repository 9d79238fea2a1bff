use Rattle.std.specs.Prelude.{[]}
use Rattle.std.proofs.Common.{◌∙◌, sym}
use Rattle.script_commands.specs.Commands as ask
use Rattle.script_machine.proofs.Words.{Held, Store}
use Rattle.script_machine.proofs.StoreLaws.{leaves_it, name_taken, no_memory_same, out_of_memory, put_named, replica_made}
use Rattle.script_machine.proofs.StoreLaws.{replica_too_early, same_entries, store_updated, turns_it, updated}
use Rattle.script_machine.proofs.session.Session.add_replica.Goals as goal

pub returns-in_default-clause-answers : goal.returns-in_default-clause-answers
returns-in_default-clause-answers c = λ honest owned. leaves_it c.self.view_is (replica_too_early _ c.args.name.now owned c.in_default.is)

pub returns-then-contains_key-clause-answers : goal.returns-then-contains_key-clause-answers
returns-then-contains_key-clause-answers c = λ honest owned.
    leaves_it c.self.view_is (name_taken _ c.args.name.now owned c.in-Some.query c.in-Some.is (sym c.contains_key.ensures
    ∙ c.if-contains_key.true))

pub returns-in_default-new_replica-clause-answers : goal.returns-in_default-new_replica-clause-answers
returns-in_default-new_replica-clause-answers c = λ honest owned. out_of_memory (ask.Replica c.args.name.now) owned c.args.self.now

pub invariant_of-self-2 : goal.invariant_of-self-2
invariant_of-self-2 c =
    let held : Held = record { query = c.in-Some.query; parts = [] } in
    let u = put_named c.in-Ok.made.0.items c.args.name.now c.in-Ok.made.1 held c.self.inside.replicas c.keep.new.kept c.in-Ok.ensures.0
    c.in-Ok.ensures.1 c.in-Ok-keep.ensures.put in
    store_updated (record {
      columns = c.self.inside.columns;
      query = c.self.inside.query;
      replicas = c.self.inside.replicas.entries;
      saved =
          c.self.inside.saved.entries;
      limit = c.self.inside.means.limit;
      seed = c.self.inside.means.seed;
    }) _ c.args.name.now held
    (updated c.self.inside.means c.self.inside.columns c.self.inside.query c.self.inside.saved.entries c.args.name.now held
    c.self.inside.replicas c.keep.new.kept u) c.in-Some.is c.self.invariant

pub returns-clause-answers : goal.returns-clause-answers
returns-clause-answers c = λ honest owned.
    let held : Held = record { query = c.in-Some.query; parts = [] } in
    let old : Store = record {
      columns = c.self.inside.columns;
      query = c.self.inside.query;
      replicas = c.self.inside.replicas.entries;
      saved = c.self.inside.saved.entries;
      limit = c.self.inside.means.limit;
      seed = c.self.inside.means.seed;
    } in
    let new : Store = record {
      columns = c.self.inside.columns;
      query = c.self.inside.query;
      replicas = c.keep.new.kept.entries;
      saved =
          c.self.inside.saved.entries;
      limit = c.self.inside.means.limit;
      seed = c.self.inside.means.seed;
    } in
    let u = put_named c.in-Ok.made.0.items c.args.name.now c.in-Ok.made.1 held c.self.inside.replicas c.keep.new.kept c.in-Ok.ensures.0
    c.in-Ok.ensures.1 c.in-Ok-keep.ensures.put in
    turns_it c.self.view_is (replica_made old new c.args.name owned c.in-Some.query c.in-Some.is (sym c.contains_key.ensures
    ∙ c.if-contains_key.false)
    (updated c.self.inside.means c.self.inside.columns c.self.inside.query c.self.inside.saved.entries c.args.name.now held
    c.self.inside.replicas c.keep.new.kept u))

pub returns-in_default-keep-clause-answers : goal.returns-in_default-keep-clause-answers
returns-in_default-keep-clause-answers c = λ honest owned.
    let new : Store = record {
      columns = c.self.inside.columns;
      query = c.self.inside.query;
      replicas = c.keep.new.kept.entries;
      saved =
          c.self.inside.saved.entries;
      limit = c.self.inside.means.limit;
      seed = c.self.inside.means.seed;
    } in
    turns_it c.self.view_is (no_memory_same (ask.Replica c.args.name.now) owned _ new
    (same_entries c.self.inside.means c.self.inside.columns c.self.inside.query c.self.inside.saved.entries
    c.self.inside.replicas.entries c.keep.new.kept.entries c.in_default-keep.ensures.refused))
