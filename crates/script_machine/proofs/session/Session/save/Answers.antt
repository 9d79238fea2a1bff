use Rattle.std.specs.Prelude.{◌≡◌, ℕ, List, length, refl}
use Rattle.std.proofs.Common.{◌∙◌, rules, ap, sym, subst}
use Rattle.summary_codec.specs.Reading.{IsSaved}
use Rattle.script_machine.proofs.Words.{Held, Store}
use Rattle.script_commands.specs.Commands as ask
use Rattle.script_machine.proofs.StoreLaws.{filed, held_asks, leaves_it, no_memory_same, out_of_memory, put_named, same_files, save_nowhere}
use Rattle.script_machine.proofs.StoreLaws.{saved_as, store_filed, turns_it}
use Rattle.script_machine.proofs.session.Session.save.Goals as goal

pub returns-in_default-clause-answers : goal.returns-in_default-clause-answers
returns-in_default-clause-answers c = λ honest owned. leaves_it c.self.view_is (save_nowhere _ c.args.name.now c.args.saved.now owned
    (sym c.in_default.ensures.value))

pub returns-in_default-file_of_replica-clause-answers : goal.returns-in_default-file_of_replica-clause-answers
returns-in_default-file_of_replica-clause-answers c = λ honest owned. out_of_memory (ask.Save c.args.name.now c.args.saved.now) owned
    c.args.self.now

pub returns-in_default-new-clause-answers : goal.returns-in_default-new-clause-answers
returns-in_default-new-clause-answers c = λ honest owned. out_of_memory (ask.Save c.args.name.now c.args.saved.now) owned c.args.self.now

pub invariant_of-self-2 : goal.invariant_of-self-2
invariant_of-self-2 c =
    let old : Store = record {
      columns = c.self.inside.columns;
      query = c.self.inside.query;
      replicas = c.self.inside.replicas.entries;
      saved = c.self.inside.saved.entries;
      limit = c.self.inside.means.limit;
      seed = c.self.inside.means.seed;
    } in
    let kept : List ℕ = c.in-Ok-new.file in
    let u = put_named c.in-Ok.key.items c.args.saved.now kept kept c.self.inside.saved c.keep.new.kept c.in-Ok.ensures.name refl
    c.in-Ok-keep.ensures.put in
    store_filed old _ c.args.saved.now kept
    (filed c.self.inside.means c.self.inside.columns c.self.inside.query c.self.inside.replicas.entries c.args.saved.now kept
    c.self.inside.saved c.keep.new.kept u)
    (record {
      held = c.in-Some.replica.now;
      asked = (held_asks old c.args.name.now c.in-Some.replica.now c.self.invariant
          (sym c.in-Some.ensures.value)).0;
      is = subst (λ b. IsSaved b c.in-Some.replica.now.query c.in-Some.replica.now.parts)
          (sym c.in-Ok-new.ensures) c.in-Ok.ensures.file;
    }) c.self.invariant

pub returns-clause-answers : goal.returns-clause-answers
returns-clause-answers c = λ honest owned.
    let old : Store = record {
      columns = c.self.inside.columns;
      query = c.self.inside.query;
      replicas = c.self.inside.replicas.entries;
      saved = c.self.inside.saved.entries;
      limit = c.self.inside.means.limit;
      seed = c.self.inside.means.seed;
    } in
    let new : Store = record {
      columns = c.self.inside.columns;
      query = c.self.inside.query;
      replicas = c.self.inside.replicas.entries;
      saved = c.keep.new.kept.entries;
      limit = c.self.inside.means.limit;
      seed = c.self.inside.means.seed;
    } in
    let held : Held = c.in-Some.replica.now in
    let kept : List ℕ = c.in-Ok-new.file in
    let same : kept ≡ c.in-Ok.file.items = c.in-Ok-new.ensures in
    let u = put_named c.in-Ok.key.items c.args.saved.now kept kept c.self.inside.saved c.keep.new.kept c.in-Ok.ensures.name refl
    c.in-Ok-keep.ensures.put in
    let counted : c.len-length.result ≡ length c.in-Ok.file.items = search rules in
    turns_it c.self.view_is (saved_as old new c.args.name.now c.args.saved.now owned held kept c.len-length.result c.self.invariant
    (sym c.in-Some.ensures.value)
    (subst (λ b. IsSaved b held.query held.parts) (sym same) c.in-Ok.ensures.file) (λ world fits. same ∙ c.in-Ok.ensures.world world fits)
    (counted ∙ ap length (sym same))
    (filed c.self.inside.means c.self.inside.columns c.self.inside.query c.self.inside.replicas.entries c.args.saved.now kept
    c.self.inside.saved c.keep.new.kept u))

pub returns-in_default-keep-clause-answers : goal.returns-in_default-keep-clause-answers
returns-in_default-keep-clause-answers c = λ honest owned.
    let new : Store = record {
      columns = c.self.inside.columns;
      query = c.self.inside.query;
      replicas = c.self.inside.replicas.entries;
      saved = c.keep.new.kept.entries;
      limit = c.self.inside.means.limit;
      seed = c.self.inside.means.seed;
    } in
    turns_it c.self.view_is (no_memory_same (ask.Save c.args.name.now c.args.saved.now) owned _ new
    (same_files c.self.inside.means c.self.inside.columns c.self.inside.query c.self.inside.replicas.entries
    c.self.inside.saved.entries c.keep.new.kept.entries c.in_default-keep.ensures.refused))
