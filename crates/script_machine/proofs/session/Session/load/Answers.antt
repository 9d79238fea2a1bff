use Rattle.std.specs.Prelude.{refl}
use Rattle.std.proofs.Common.{sym}
use Rattle.summary_codec.specs.declared.version.Version.TheVariants.{Second}
use Rattle.script_machine.proofs.Words.{Held, Store}
use Rattle.script_commands.specs.Commands as ask
use Rattle.script_machine.proofs.StoreLaws.{file_there, leaves_it, load_nowhere, loaded, loaded_asks, no_memory_same, out_of_memory}
use Rattle.script_machine.proofs.StoreLaws.{put_named, same_entries, store_updated, turns_it, updated}
use Rattle.script_machine.proofs.session.Session.load.Goals as goal

pub returns-in_default-clause-answers : goal.returns-in_default-clause-answers
returns-in_default-clause-answers c = λ honest owned. leaves_it c.self.view_is (load_nowhere _ c.args.name.now c.args.saved.now owned
    (sym c.in_default.ensures.value))

pub returns-in_default-replica_of_file-clause-answers : goal.returns-in_default-replica_of_file-clause-answers
returns-in_default-replica_of_file-clause-answers c = λ honest owned. out_of_memory (ask.Load c.args.name.now c.args.saved.now) owned
    c.args.self.now

pub replica_of_file-requires : goal.replica_of_file-requires
replica_of_file-requires c =
    let old : Store = record {
      columns = c.self.inside.columns;
      query = c.self.inside.query;
      replicas = c.self.inside.replicas.entries;
      saved = c.self.inside.saved.entries;
      limit = c.self.inside.means.limit;
      seed = c.self.inside.means.seed;
    } in
    file_there old c.args.saved.now c.in-Some.file.now c.self.invariant (sym c.in-Some.ensures.value)

pub invariant_of-self-2 : goal.invariant_of-self-2
invariant_of-self-2 c =
    let old : Store = record {
      columns = c.self.inside.columns;
      query = c.self.inside.query;
      replicas = c.self.inside.replicas.entries;
      saved = c.self.inside.saved.entries;
      limit = c.self.inside.means.limit;
      seed = c.self.inside.means.seed;
    } in
    let held : Held = c.in-Ok.made.1 in
    let u = put_named c.in-Ok.made.0.items c.args.name.now held held c.self.inside.replicas c.keep.new.kept c.in-Ok.ensures.name refl
    c.in-Ok-keep.ensures.put in
    store_updated old _ c.args.name.now held
    (updated c.self.inside.means c.self.inside.columns c.self.inside.query c.self.inside.saved.entries c.args.name.now held
    c.self.inside.replicas c.keep.new.kept u)
    (loaded_asks old c.args.saved.now c.in-Some.file.now held c.self.invariant (sym c.in-Some.ensures.value)
    (λ h is. c.in-Ok.ensures.loaded.only h (Second, is))) c.self.invariant

pub returns-clause-answers : goal.returns-clause-answers
returns-clause-answers c = λ honest owned.
    let old : Store = record {
      columns = c.self.inside.columns;
      query = c.self.inside.query;
      replicas = c.self.inside.replicas.entries;
      saved = c.self.inside.saved.entries;
      limit = c.self.inside.means.limit;
      seed = c.self.inside.means.seed;
    } in
    let new : Store = record {
      columns = c.self.inside.columns;
      query = c.self.inside.query;
      replicas = c.keep.new.kept.entries;
      saved =
          c.self.inside.saved.entries;
      limit = c.self.inside.means.limit;
      seed = c.self.inside.means.seed;
    } in
    let held : Held = c.in-Ok.made.1 in
    let u = put_named c.in-Ok.made.0.items c.args.name.now held held c.self.inside.replicas c.keep.new.kept c.in-Ok.ensures.name refl
    c.in-Ok-keep.ensures.put in
    turns_it c.self.view_is (loaded old new c.args.name.now c.args.saved.now owned c.in-Some.file.now held (sym c.in-Some.ensures.value)
    (λ h is. c.in-Ok.ensures.loaded.only h (Second, is))
    (updated c.self.inside.means c.self.inside.columns c.self.inside.query c.self.inside.saved.entries c.args.name.now held
    c.self.inside.replicas c.keep.new.kept u))

pub returns-in_default-keep-clause-answers : goal.returns-in_default-keep-clause-answers
returns-in_default-keep-clause-answers c = λ honest owned.
    let new : Store = record {
      columns = c.self.inside.columns;
      query = c.self.inside.query;
      replicas = c.keep.new.kept.entries;
      saved =
          c.self.inside.saved.entries;
      limit = c.self.inside.means.limit;
      seed = c.self.inside.means.seed;
    } in
    turns_it c.self.view_is (no_memory_same (ask.Load c.args.name.now c.args.saved.now) owned _ new
    (same_entries c.self.inside.means c.self.inside.columns c.self.inside.query c.self.inside.saved.entries
    c.self.inside.replicas.entries c.keep.new.kept.entries c.in_default-keep.ensures.refused))
