use Rattle.std.specs.Prelude.{◌≡◌, refl, ℕ, [], ◌∷◌, ◌++◌, unwrap_or, Option, Some, None, IsTrue, IsSomeAnd}
use Rattle.std.proofs.Common.{rules, ◌∙◌, sym, ap, subst}
use Rattle.std.proofs.lemmas.List.{append_assoc, append-nil}
use Rattle.std.specs.List.{AllByRecursion}
use Rattle.std.specs.List.Sorted.{IsStrictlySortedBy}
use Rattle.std.specs.Ordering.{nat_cmp}
use Rattle.replica_merge.specs.Lemmas.Words.{meaning, Query, setting_by, Joins, PartsDisagree, JoinTells, JoinIsCounted, MergeIsCounted}
use Rattle.replica_merge.specs.Lemmas.Words.{Part, empty, Includes, IsPartOf, Parts, part_at, part_of, IsHeldPart, IsFirstRefused, AsideAt}
use Rattle.aggregation_cost.specs.Space.{Setting}
use Rattle.hash_agg.specs.Lemmas.RanLaws.{grown_twice, none_grown, refused_still, refused_later}
use Rattle.hash_agg.specs.Ran.{Ran, Refused}
use Rattle.hash_agg.specs.declared.work.Work.{Work}
use Rattle.origin_prefix.specs.Errors.{join_reason}
use Rattle.origin_prefix.specs.Joins.{settled}
use Rattle.spill_partitions.specs.declared.error.SpillError.TheVariants as spill
use Rattle.origin_prefix.specs.Lemmas.ByNumber.{numbers, rising_rest}
use Rattle.origin_prefix.specs.Lemmas.IncludedLaws.{included}
use Rattle.replica_merge.specs.Lemmas.ToldLaws.{held_part}
use Rattle.tape_disks.specs.DiskLaws.{leaves_twice}
use Rattle.replica_merge.specs.Lemmas.DeliveredLaws.{part_is, when_fine}
use Rattle.replica_merge.specs.Lemmas.MergedLaws.{JoinedSoFar, joined_more, stays_more, found_refused, counted_more}
use Rattle.replica_merge.proofs.merging.join_all.Goals as goal

-- the own part that is there and includes another one
own_included : (own : Parts) (n : ℕ) (p : Part) → IsSomeAnd (part_at own n) (λ mine. Includes mine p)
    → (mine : Part) × (part_at own n ≡ Some mine) × Includes mine p
own_included own n p has = go (part_at own n) refl has
  where
    go : (found : Option Part) → part_at own n ≡ found → IsSomeAnd found (λ mine. Includes mine p)
        → (mine : Part) × (part_at own n ≡ Some mine) × Includes mine p
    go (Some mine) e has = (mine, e, has)
    go None e has = absurd has

pub join_aside-requires-clause-part : goal.join_aside-requires-clause-part
join_aside-requires-clause-part g c =
    let own : Parts = c.args.own.now.entries in
    let own_is = c.part_or-own.ensures ∙ ap (unwrap_or (part_at own c.in-Some.origin.now)) c.empty-nothing.ensures in
    subst (IsPartOf c.args.query.now) (sym own_is) (part_is c.args.query.now own c.requires.own c.in-Some.origin.now)

pub loop-origin-init : goal.loop-origin-init
loop-origin-init g c =
    record {
      at = search rules;
      rest = search rules;
      held = search rules;
      rising = search rules;
      disk = search rules;
      grown = none_grown c.args.means.now.limit c.args.executor.now;
      front = [];
      parts = refl;
      counted = λ so. (refl, refl);
      can = tt;
      finite = tt;
    }

pub loop-origin-preserved-then-stays : goal.loop-origin-preserved-then-stays
loop-origin-preserved-then-stays g c =
    let own : Parts = c.args.own.now.entries in
    let all : Parts = c.into_iter-origin-iterator.result in
    let old : Parts = c.loop-origin.joined.entries in
    let n : ℕ = c.in-Some.origin.now in
    let p : Part = c.in-Some.part.now in
    let rest : Parts = c.next.new.self in
    let front : Parts = c.loop-origin.invariant.front in
    let rising = subst (λ rest. IsStrictlySortedBy nat_cmp (numbers rest)) c.in-Some.ensures.steps c.loop-origin.invariant.rest in
    let there = own_included own n p (c.stays.ensures.0 c.if-stays.true) in
    let stay = included c.args.query.now there.0 p (held_part c.args.query.now own c.requires.own n there.0 there.1).part there.2 in
    record {
      at = λ o.
          stays_more (g.D.TapeDisk.honest c.args.disk.now) c.args.query.now own all old rest n p there.0 rising there.1
          (held_part c.args.query.now own c.requires.own n there.0 there.1).part stay o
          (subst (λ left. JoinedSoFar (g.D.TapeDisk.honest c.args.disk.now) c.args.query.now (part_of own o) (part_at own o) (part_at all o)
          (part_at left o) (part_at old o)) c.in-Some.ensures.steps (c.loop-origin.invariant.at o));
      rest = rising_rest (n, p) rest rising;
      held = (subst (AllByRecursion (IsHeldPart c.args.query.now)) c.in-Some.ensures.steps c.loop-origin.invariant.held).1;
      rising = c.loop-origin.invariant.rising;
      disk = c.loop-origin.invariant.disk;
      grown = c.loop-origin.invariant.grown;
      front = front ++ ((n, p) ∷ []);
      parts = c.loop-origin.invariant.parts ∙ ap (λ (left : Parts). front ++ left) c.in-Some.ensures.steps
          ∙ sym (append_assoc front ((n, p) ∷ []) rest);
      counted = λ so.
          let q : Query = meaning c.args.query.now in
          let setting : Setting = setting_by g.H.KeyHash.hash_of q c.args.means.now in
          let mine : there.0 ≡ part_of own n = sym (ap (λ found. unwrap_or found empty) there.1) in
          counted_more own front (n, p) q setting c.args.executor.now (g.D.TapeDisk.writes c.args.disk.now)
          c.loop-origin.executor (g.D.TapeDisk.writes c.loop-origin.disk) c.loop-origin.executor (g.D.TapeDisk.writes c.loop-origin.disk)
          (c.loop-origin.invariant.counted so)
          (subst (λ (t : Part). JoinIsCounted t p q setting c.loop-origin.executor (g.D.TapeDisk.writes c.loop-origin.disk)
          c.loop-origin.executor (g.D.TapeDisk.writes c.loop-origin.disk)) mine
          (stay.counted setting c.loop-origin.executor (g.D.TapeDisk.writes c.loop-origin.disk)));
      can = tt;
      finite = tt;
    }

pub loop-origin-preserved : goal.loop-origin-preserved
loop-origin-preserved g c =
    let own : Parts = c.args.own.now.entries in
    let all : Parts = c.into_iter-origin-iterator.result in
    let old : Parts = c.loop-origin.joined.entries in
    let n : ℕ = c.in-Some.origin.now in
    let rest : Parts = c.next.new.self in
    let front : Parts = c.loop-origin.invariant.front in
    let rising = subst (λ rest. IsStrictlySortedBy nat_cmp (numbers rest)) c.in-Some.ensures.steps c.loop-origin.invariant.rest in
    let new : Part = c.in-Ok-join_aside.aside in
    let joining = c.in-Ok-join_aside.ensures.joining in
    let own_is = c.part_or-own.ensures ∙ ap (unwrap_or (part_at own n)) c.empty-nothing.ensures in
    let joins : Joins (g.D.TapeDisk.honest c.args.disk.now) (meaning c.args.query.now) (part_of own n) c.in-Some.part.now
    (settled (part_of own n) new) =
    subst (λ honest. Joins honest (meaning c.args.query.now) (part_of own n) c.in-Some.part.now (settled (part_of own n) new))
    c.loop-origin.invariant.disk.honesty
    (subst (λ (p : Part). Joins (g.D.TapeDisk.honest c.loop-origin.disk) (meaning c.args.query.now) p c.in-Some.part.now (settled p new))
    own_is joining.joins) in
    let is : IsPartOf c.args.query.now (settled (part_of own n) new) = subst (λ (p : Part). IsPartOf c.args.query.now (settled p new))
    own_is
    joining.part in
    let agree : ¬ (PartsDisagree (part_of own n) c.in-Some.part.now) = subst (λ (p : Part). ¬ (PartsDisagree p c.in-Some.part.now))
    own_is joining.agree in
    record {
      at = λ o.
          subst (λ ps. JoinedSoFar (g.D.TapeDisk.honest c.args.disk.now) c.args.query.now (part_of own o) (part_at own o) (part_at all o)
          (part_at rest o) (part_at ps o)) (sym (when_fine c.insert.result _ c.insert.ensures.entries (sym c.if-is_err.ensures.value)))
          (joined_more (g.D.TapeDisk.honest c.args.disk.now) c.args.query.now own own all old rest n c.in-Some.part.now new rising joins
          is joining.groups agree o
          (subst (λ left. JoinedSoFar (g.D.TapeDisk.honest c.args.disk.now) c.args.query.now (part_of own o) (part_at own o) (part_at all o)
          (part_at left o) (part_at old o)) c.in-Some.ensures.steps (c.loop-origin.invariant.at o)));
      rest = rising_rest (n, c.in-Some.part.now) rest rising;
      held = (subst (AllByRecursion (IsHeldPart c.args.query.now)) c.in-Some.ensures.steps c.loop-origin.invariant.held).1;
      rising = c.insert.ensures.ordered;
      disk = leaves_twice g.D.TapeDisk 0 c.args.disk.now c.loop-origin.disk c.join_aside.new.disk c.loop-origin.invariant.disk
          c.in-Ok-join_aside.ensures.ran.disk;
      grown = grown_twice c.args.means.now.limit c.args.executor.now c.loop-origin.executor c.join_aside.new.executor c.loop-origin.invariant.grown
          c.in-Ok-join_aside.ensures.ran.grown;
      front = front ++ ((n, c.in-Some.part.now) ∷ []);
      parts = c.loop-origin.invariant.parts ∙ ap (λ (left : Parts). front ++ left) c.in-Some.ensures.steps
          ∙ sym (append_assoc front ((n, c.in-Some.part.now) ∷ []) rest);
      counted = λ so.
          let q : Query = meaning c.args.query.now in
          let setting : Setting = setting_by g.H.KeyHash.hash_of q c.args.means.now in
          let counted : JoinIsCounted (part_of own n) c.in-Some.part.now q setting c.loop-origin.executor
          (g.D.TapeDisk.writes c.loop-origin.disk) c.join_aside.new.executor (g.D.TapeDisk.writes c.join_aside.new.disk) =
          subst (λ (p : Part). JoinIsCounted p c.in-Some.part.now q setting c.loop-origin.executor
          (g.D.TapeDisk.writes c.loop-origin.disk) c.join_aside.new.executor (g.D.TapeDisk.writes c.join_aside.new.disk)) own_is
          (c.in-Ok-join_aside.ensures.ran.counted (subst IsTrue (sym c.loop-origin.invariant.disk.honesty) so)) in
          counted_more own front (n, c.in-Some.part.now) q setting c.args.executor.now (g.D.TapeDisk.writes c.args.disk.now)
          c.loop-origin.executor (g.D.TapeDisk.writes c.loop-origin.disk) c.join_aside.new.executor (g.D.TapeDisk.writes c.join_aside.new.disk)
          (c.loop-origin.invariant.counted so) counted;
      can = tt;
      finite = tt;
    }

pub returns-in-Err-clause-joins : goal.returns-in-Err-clause-joins
returns-in-Err-clause-joins g c =
    let own : Parts = c.args.own.now.entries in
    let all : Parts = c.into_iter-origin-iterator.result in
    let n : ℕ = c.in-Some.origin.now in
    let why = c.in-Err.why in
    let theirs : all ≡ c.args.theirs.now.entries = c.into_iter-origin-iterator.ensures.into_iter_gives.0 in
    let own_is = c.part_or-own.ensures ∙ ap (unwrap_or (part_at own n)) c.empty-nothing.ensures in
    let rising = subst (λ rest. IsStrictlySortedBy nat_cmp (numbers rest)) c.in-Some.ensures.steps c.loop-origin.invariant.rest in
    let had = λ (o : ℕ). subst (λ rest. JoinedSoFar (g.D.TapeDisk.honest c.args.disk.now) c.args.query.now (part_of own o) (part_at own o)
    (part_at all o) (part_at rest o) (part_at c.loop-origin.joined.entries o))
    c.in-Some.ensures.steps (c.loop-origin.invariant.at o) in
    let first : IsFirstRefused own c.args.theirs.now.entries n why =
    subst (λ parts. IsFirstRefused own parts n why) theirs
    (found_refused (g.D.TapeDisk.honest c.args.disk.now) c.args.query.now own all c.loop-origin.joined.entries n c.in-Some.part.now
    c.next.new.self why rising had
    (subst (λ (p : Part). JoinTells why p c.in-Some.part.now) own_is c.in-Err.ensures.joining.tells)) in
    record { joined = tt; refused = (refl, first) }

pub returns-in-Err-clause-ran : goal.returns-in-Err-clause-ran
returns-in-Err-clause-ran g c =
    let q : Query = meaning c.args.query.now in
    let setting : Setting = setting_by g.H.KeyHash.hash_of q c.args.means.now in
    let own : Parts = c.args.own.now.entries in
    let front : Parts = c.loop-origin.invariant.front in
    let theirs : c.into_iter-origin-iterator.result ≡ c.args.theirs.now.entries = c.into_iter-origin-iterator.ensures.into_iter_gives.0 in
    let ran = c.in-Err.ensures.ran in
    record {
      ran = subst (λ (done : Work). Ran g.D.TapeDisk g.H.KeyHash.hash_of c.args.query.now c.args.means.now
          (MergeIsCounted own c.args.theirs.now.entries) (Refused (join_reason c.in-Err.why)) c.args.disk.now c.args.executor.now
          c.join_aside.new.disk done) (sym (c.count_from.ensures ∙ c.work-begun.ensures))
          (refused_later g.D.TapeDisk g.H.KeyHash.hash_of c.args.query.now c.args.means.now (MergeIsCounted own c.args.theirs.now.entries)
          (join_reason c.in-Err.why) c.args.disk.now c.loop-origin.disk c.join_aside.new.disk c.args.executor.now
          c.loop-origin.invariant.disk ran.disk (λ honest same. ran.undamaged honest (ap Refused same)));
      order = λ so. record {
        lower = front;
        part = c.in-Some.part.now;
        higher = c.next.new.self;
        parts = sym theirs ∙ c.loop-origin.invariant.parts ∙ ap (λ (left : Parts). front ++ left) c.in-Some.ensures.steps;
        work = c.loop-origin.executor;
        pages = g.D.TapeDisk.writes c.loop-origin.disk;
        counted = c.loop-origin.invariant.counted so;
        reached = ran.disk.writes;
      };
    }

pub returns-then-is_err-clause-joins : goal.returns-then-is_err-clause-joins
returns-then-is_err-clause-joins g c = record { joined = tt; refused = refl }

pub returns-then-is_err-clause-ran : goal.returns-then-is_err-clause-ran
returns-then-is_err-clause-ran g c = record {
  ran = subst (λ (done : Work). Ran g.D.TapeDisk g.H.KeyHash.hash_of c.args.query.now c.args.means.now
      (MergeIsCounted c.args.own.now.entries c.args.theirs.now.entries) (Refused (Some spill.NoMemory)) c.args.disk.now c.args.executor.now
      c.join_aside.new.disk done) (sym (c.count_from-then-is_err.ensures ∙ c.work-begun.ensures))
      (refused_later g.D.TapeDisk g.H.KeyHash.hash_of c.args.query.now c.args.means.now
      (MergeIsCounted c.args.own.now.entries c.args.theirs.now.entries) (Some spill.NoMemory) c.args.disk.now c.loop-origin.disk
      c.join_aside.new.disk c.args.executor.now c.loop-origin.invariant.disk c.in-Ok-join_aside.ensures.ran.disk (λ honest same. cc));
  order = λ so. tt;
}

pub returns-in_default-clause-joins : goal.returns-in_default-clause-joins
returns-in_default-clause-joins g c = record { joined = tt; refused = refl }

pub returns-in_default-clause-ran : goal.returns-in_default-clause-ran
returns-in_default-clause-ran g c = record {
  ran = refused_still g.D.TapeDisk g.H.KeyHash.hash_of c.args.query.now c.args.means.now
      (MergeIsCounted c.args.own.now.entries c.args.theirs.now.entries) (Some spill.NoMemory) c.args.disk.now c.args.executor.now refl
      (λ honest same. cc);
  order = λ so. tt;
}

pub returns-clause-joins : goal.returns-clause-joins
returns-clause-joins g c =
    let own : Parts = c.args.own.now.entries in
    let theirs : c.into_iter-origin-iterator.result ≡ c.args.theirs.now.entries = c.into_iter-origin-iterator.ensures.into_iter_gives.0 in
    let done : c.loop-origin.origin-iterator ≡ [] = search rules in
    record {
      joined = record {
        same = refl;
        held = c.requires.theirs;
        aside = record {
          rising = c.loop-origin.invariant.rising;
          at = λ o. subst (λ all. AsideAt (g.D.TapeDisk.honest c.args.disk.now) c.args.query.now (part_of own o) (part_at own o)
              (part_at all o) (part_at c.loop-origin.joined.entries o)) theirs
              (subst (λ rest. JoinedSoFar (g.D.TapeDisk.honest c.args.disk.now) c.args.query.now (part_of own o) (part_at own o)
              (part_at c.into_iter-origin-iterator.result o) (part_at rest o) (part_at c.loop-origin.joined.entries o)) done
              (c.loop-origin.invariant.at o));
        };
      };
      refused = tt;
    }

pub returns-clause-ran : goal.returns-clause-ran
returns-clause-ran g c =
    let q : Query = meaning c.args.query.now in
    let setting : Setting = setting_by g.H.KeyHash.hash_of q c.args.means.now in
    let theirs : c.into_iter-origin-iterator.result ≡ c.args.theirs.now.entries = c.into_iter-origin-iterator.ensures.into_iter_gives.0 in
    let done : c.loop-origin.origin-iterator ≡ [] = search rules in
    let front : Parts = c.loop-origin.invariant.front in
    let whole : front ≡ c.args.theirs.now.entries = sym (append-nil front) ∙ ap (λ (left : Parts). front ++ left) (sym done)
    ∙ sym c.loop-origin.invariant.parts ∙ theirs in
    record {
      ran = record {
        disk = c.loop-origin.invariant.disk;
        undamaged = λ honest same. cc;
        counted = λ so. subst (λ all. MergeIsCounted c.args.own.now.entries all q setting c.args.executor.now
            (g.D.TapeDisk.writes c.args.disk.now) c.loop-origin.executor (g.D.TapeDisk.writes c.loop-origin.disk)) whole
            (c.loop-origin.invariant.counted so);
        uncounted = tt;
        grown = c.loop-origin.invariant.grown;
      };
      order = tt;
    }
