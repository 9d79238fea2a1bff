use Rattle.std.specs.Prelude.{◌≡◌, ◌++◌, ◌∷◌, ◌&&◌, [], ℕ, List}
use Rattle.std.proofs.Common.{sym, ◌∙◌, ap}
use Rattle.hash_agg.proofs.Words.{is_empty, fits, packed_keys, entries_of, setting_of}
use Rattle.hash_agg.proofs.pass.Pass.need_to_insert.Goals as goal

pub returns-clause-exact : goal.returns-clause-exact
returns-clause-exact g c = λ hash.
    let keys : List (List ℕ) = packed_keys (entries_of c.args.self.now.groups) ++ c.args.key.now ∷ [] in
    let clear : c.args.self.now.spill.partitions ≡ [] = c.is_empty.ensures.0 c.if-not-is_empty.false in
    c.need_within.ensures.fits hash
    ∙ ap (λ width. fits (record { limit = c.args.self.now.plan.limit; width = width; hash = hash }) keys) c.requires.ready.width
    ∙ ap (λ partitions. is_empty partitions && fits (setting_of c.args.self.now.plan hash) keys) (sym clear)
