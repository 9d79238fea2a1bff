use Rattle.std.specs.Prelude.{◌≡◌, refl, true}
use Rattle.std.proofs.Common.{◌∙◌, ap, sym}
use Rattle.replica_merge.specs.Lemmas.Words.{World, union, Checked, Parts, told, Fits, MergesIn}
use Rattle.grouping_model.specs.KnowledgeLaws.{union_commutes, union_associates, union_itself}
use Rattle.replica_merge.specs.Lemmas.MergedLaws.{merges_told, merges_fit}
use Rattle.replica_merge.proofs.SameFiles.{same_bytes}
use Rattle.replica_merge.proofs.laws.merged_files.Goals as goal

-- what is told after a merge, and that it fits
told_in : {world : World} {query : Checked} {a b ab : Parts} → MergesIn world query a b ab → told ab ≡ union (told a) (told b)
told_in {world} {query} {a} {b} {ab} m = merges_told true query a b ab m.own_held m.their_held m.new_held.rising m.merges

fits_in : {world : World} {query : Checked} {a b ab : Parts} → MergesIn world query a b ab
    → Fits world (record { query = query; parts = ab })
fits_in {world} {query} {a} {b} {ab} m = merges_fit true refl query a b ab m.merges world m.of_columns m.own_fits m.their_fits

pub returns : goal.returns
returns c = record {
  commutative = λ world query a b ab ba one two bytes those.
      same_bytes world query ab ba bytes those one.new_held two.new_held (fits_in one) (fits_in two) (told_in one
      ∙ union_commutes (told a) (told b) ∙ sym (told_in two));
  associative = λ world query a b d ab bd left right one two three four bytes those.
      same_bytes world query left right bytes those two.new_held four.new_held (fits_in two) (fits_in four)
      (told_in two ∙ ap (λ t. union t (told d)) (told_in one) ∙ union_associates (told a) (told b) (told d)
      ∙ sym (told_in four ∙ ap (union (told a)) (told_in three)));
  idempotent = λ world query a aa one bytes those.
      same_bytes world query aa a bytes those one.new_held one.own_held (fits_in one) one.own_fits (told_in one ∙ union_itself (told a));
}
