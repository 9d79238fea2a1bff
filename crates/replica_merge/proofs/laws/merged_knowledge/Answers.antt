use Rattle.std.specs.Prelude.{◌≡◌, Bool}
use Rattle.std.proofs.Common.{◌∙◌, ap, sym}
use Rattle.replica_merge.specs.Lemmas.Words.{union, Checked, Parts, told}
use Rattle.replica_merge.specs.Replicas.{IsMergeOf}
use Rattle.grouping_model.specs.KnowledgeLaws.{union_commutes, union_associates, union_itself}
use Rattle.replica_merge.specs.Lemmas.MergedLaws.{merges_told}
use Rattle.replica_merge.proofs.laws.merged_knowledge.Goals as goal

-- what is told after a merge
told_by : {honest : Bool} {query : Checked} {a b ab : Parts} → IsMergeOf honest query a b ab → told ab ≡ union (told a) (told b)
told_by {honest} {query} {a} {b} {ab} m = merges_told honest query a b ab m.own_held m.their_held m.new_held.rising m.merges

pub returns : goal.returns
returns c = record {
  commutative = λ h i query a b ab ba one two. told_by one ∙ union_commutes (told a) (told b) ∙ sym (told_by two);
  associative = λ h i j k query a b d ab bd left right one two three four.
      told_by two ∙ ap (λ t. union t (told d)) (told_by one) ∙ union_associates (told a) (told b) (told d)
      ∙ sym (told_by four ∙ ap (union (told a)) (told_by three));
  idempotent = λ honest query a aa one. told_by one ∙ union_itself (told a);
}
