use Rattle.std.specs.Prelude.{◌≡◌, ◌++◌, ◌∷◌, List, map}
use Rattle.std.proofs.Common.{◌∙◌, sym, ap, append_assoc}
use Rattle.std.proofs.lemmas.List.{map_push}
use Rattle.origin_prefix.specs.Lemmas.ByNumber.{numbers}
use Rattle.replica_merge.specs.Lemmas.Words.{KnownOrigin, Parts, known_of, known_part}
use Rattle.replica_merge.proofs.replica.known_parts.Goals as goal

pub loop-origin-preserved : goal.loop-origin-preserved
loop-origin-preserved c =
    let old : List KnownOrigin = map known_of c.loop-origin.list.items in
    let rest : List KnownOrigin = map known_part c.next.new.self in
    let early : c.in_ok-early.early.items ≡ numbers c.in-Some.part.now.early = c.in_ok-early.ensures ∙ ap numbers c.early.ensures in
    record {
      so_far = ap (λ list. map known_of list ++ rest) c.in_ok-push.ensures.items
          ∙ ap (λ list. list ++ rest) (map_push known_of c.loop-origin.list.items _)
          ∙ append_assoc old _ rest
          ∙ (λ i. old ++ (record { origin = c.in-Some.origin.now; upto = c.prefix.ensures i; early = early i } ∷ rest))
          ∙ ap (λ (parts : Parts). old ++ map known_part parts) (sym c.in-Some.ensures.steps)
          ∙ c.loop-origin.invariant.so_far;
      can = tt;
      finite = tt;
    }
