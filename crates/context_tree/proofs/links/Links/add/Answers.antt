use Rattle.std.proofs.Common.{◌≡◌, ◌<◌, ℕ, true, List, Option, Some, None, length, get_or, set, refl, sym, ap, ◌∙◌, subst, arith}
use Rattle.std.specs.Prelude.{is_some, Result, Ok, Err, IfOk}
use Rattle.std.specs.List.{refill}
use Rattle.std.proofs.lemmas.List.{length-set}
use Rattle.context_tree.specs.SlotLaws.{placed-here, placed-other}
use Rattle.context_tree.proofs.Words.{stamp_of, placed, IsForest, IsFull, IsMadeBelow, AreFree, Link}
use Rattle.context_tree.specs.Lemmas.Forest.{forest-added}
use Rattle.context_tree.proofs.Slots.{refill-whole, placed-set, free-used, full-unmarked}
use Rattle.context_tree.proofs.links.Links.add.Goals as goal

pub invariant_of-self : goal.invariant_of-self
invariant_of-self c =
    let ls = c.self.inside.links.items in let slot = c.in-Some.slot in let parent = c.args.parent in
    let link : Link = record { stamp = c.args.stamp; parent = Some parent } in
    let free = c.self.invariant.free.free slot c.in-Some.ensures.some.1 in
    let items : set c.deref_mut.result.now slot (Some link)
    ≡ placed ls slot (Some link) = ap (λ (l : List (Option Link)). set l slot (Some link)) c.deref_mut.ensures.value
    ∙ placed-set ls slot (Some link) free.0 in
    let long : length (placed ls slot (Some link)) ≡ length ls = ap length (sym (placed-set ls slot (Some link) free.0))
    ∙ length-set ls slot (Some link) in
    let whole : refill (length ls) ls (set c.deref_mut.result.now slot (Some link))
    ≡ placed ls slot (Some link) = refill-whole (length ls) ls (set c.deref_mut.result.now slot (Some link)) refl (ap length items
    ∙ long) ∙ items in
    let made : IsMadeBelow ls slot link.stamp (Some parent) = (
      subst (λ (l : List (Option Link)). stamp_of (get_or l parent None) < link.stamp) (sym c.self.view_is) c.requires.later,
      subst (λ (l : List (Option Link)). is_some (get_or l parent None) ≡ true) (sym c.self.view_is) c.requires.there,
    ) in
    record {
      forest = subst IsForest (sym whole) (forest-added ls c.self.invariant.forest slot link free.1 made (placed ls slot (Some link))
          (placed-here ls slot (Some link) None (omega (arith, free.0)))
          (λ k ne. placed-other ls slot k (Some link) None (omega (arith, free.0)) ne));
      free = subst (λ (l : List (Option Link)). AreFree l c.unmark.new.self) (sym whole) (free-used ls c.self.inside.free c.unmark.new.self
          slot link c.self.invariant.free free.0 c.unmark.ensures.long c.unmark.ensures.marked);
      few = omega (arith, c.self.invariant.few, ap length whole, long);
    }

pub returns-in-Some-clause-added : goal.returns-in-Some-clause-added
returns-in-Some-clause-added c =
    let ls = c.self.inside.links.items in let slot = c.in-Some.slot in
    let link : Link = record { stamp = c.args.stamp; parent = Some c.args.parent } in
    let free = c.self.invariant.free.free slot c.in-Some.ensures.some.1 in
    let items : set c.deref_mut.result.now slot (Some link)
    ≡ placed ls slot (Some link) = ap (λ (l : List (Option Link)). set l slot (Some link)) c.deref_mut.ensures.value
    ∙ placed-set ls slot (Some link) free.0 in
    let long : length (placed ls slot (Some link)) ≡ length ls = ap length (sym (placed-set ls slot (Some link) free.0))
    ∙ length-set ls slot (Some link) in
    refill-whole (length ls) ls (set c.deref_mut.result.now slot (Some link)) refl (ap length items ∙ long) ∙ items
    ∙ ap (λ (l : List (Option Link)). placed l slot (Some link)) c.self.view_is

pub push-requires-clause-full : goal.push-requires-clause-full
push-requires-clause-full c = subst IsFull c.self.view_is (full-unmarked c.self.inside.links.items c.self.inside.free c.self.invariant.free
    c.in-None.ensures.none)

pub returns-in-None-clause-needed : goal.returns-in-None-clause-needed
returns-in-None-clause-needed c =
    let full = subst IsFull c.self.view_is (full-unmarked c.self.inside.links.items c.self.inside.free c.self.invariant.free
    c.in-None.ensures.none) in
    told c.push.result (length c.args.self.now) (IsFull c.args.self.now) full
  where
    told : {E : Type 0} (r : Result ℕ E) (n : ℕ) (Full : Type 0) → Full → IfOk r (λ slot. slot ≡ n → Full)
    told (Ok slot) n Full full = λ _. full
    told (Err e) n Full full = tt
