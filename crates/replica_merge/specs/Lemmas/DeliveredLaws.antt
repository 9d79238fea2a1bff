-- What a replica holds and tells after a batch.
use Rattle.std.specs.Prelude.{◌≡◌, ◌≢◌, refl, ℕ, ◌+◌, ◌<◌, ◌≤◌, ◌⊎◌, ◌==◌, ◌||◌, ◌&&◌, nat_le, Bool, true, false, cond, List, [], ◌∷◌}
use Rattle.std.specs.Prelude.{Option, Some, None, unwrap_or, if◌then◌else◌, Result, Ok, Err, IfOk, IfErr, OnOk, IsTrue}
use Rattle.std.proofs.Common.{◌∙◌, sym, ap, subst, inl, inr, arith}
use Rattle.std.proofs.lemmas.Bool.{true≢false}
use Rattle.std.proofs.lemmas.Map.Steps.{set_value_same}
use Rattle.std.specs.Option.{is_some}
use Rattle.std.specs.Result.{is_err}
use Rattle.std.specs.List.Sorted.{IsStrictlySortedBy}
use Rattle.std.specs.Map.{set_value, remove_entry}
use Rattle.std.specs.BTreeMap.{BTreeMap, insert_entry, is_at, WritesThrough}
use Rattle.std.specs.Ordering.{eq_by_cmp, nat_cmp, is_eq, match_ordering}
use Rattle.std.specs.declared.cmp.Ordering.TheVariants.{Less, Equal, Greater}
use Rattle.replica_merge.specs.Lemmas.Words.{LAST_ORIGIN, Row, InLimits, reply_of, World, IsWorld, knows, learn, prefix, kinds, packings}
use Rattle.replica_merge.specs.Lemmas.Words.{Checked}
use Rattle.replica_merge.specs.Lemmas.Words.{meaning, Part, empty, rows_at, tells, IsEarly, IsPartOf, Delivers, Disagrees, BatchTells}
use Rattle.replica_merge.specs.Lemmas.Words.{FitsOrigin, Parts, part_at, part_of, told, Fits, IsHeldPart}
use Rattle.replica_merge.specs.Lemmas.Words.{AreHeldParts, DeliversAt, RefusesAt, Delivery, IsPlace, taken_back}
use Rattle.grouping_model.specs.declared.delivered.Delivered.{Delivered}
use Rattle.grouping_model.specs.declared.delivered.Delivered.TheVariants.{Folded, Early, Known}
use Rattle.grouping_model.specs.KnowledgeLaws.{same_knowledge, knows_learn}
use Rattle.batch_reader.specs.declared.batch.Batch.{Batch}
use Rattle.origin_prefix.specs.declared.error.RefusedBatch.{RefusedBatch}
use Rattle.origin_prefix.specs.Lemmas.Lists.{is_itself, is_other, same_or_other}
use Rattle.origin_prefix.specs.Lemmas.ByNumber.{at, found_holds, all_found, put_same, put_else}
use Rattle.origin_prefix.specs.Lemmas.TellingLaws.{delivered_tells}
use Rattle.origin_prefix.specs.Lemmas.FittingLaws.{fits_delivered, agrees_delivered}
use Rattle.replica_merge.specs.Lemmas.ToldLaws.{held_part}
use Rattle.replica_merge.specs.Lemmas.ToldLaws.{empty_tells, told_is, same_batch, HasGap, part_gap, prefix_told, part_here}

-- ---- maps

-- an entry that was put and taken out again
pub taken_out : {X : Type 0} (es : List (ℕ × X)) (n : ℕ) (x : X) → at es n ≡ None
    → remove_entry (is_at (nat_cmp n)) (insert_entry nat_cmp es n x) ≡ es
taken_out [] n x none = ap (λ b. cond b [] ((n, x) ∷ [])) (is_itself n)
taken_out (e ∷ es) n x none =
    elim (nat_cmp n e.0) as (λ o. nat_cmp n e.0 ≡ o → cond (is_eq o) (Some e.1) (at es n) ≡ None
    → remove_entry (is_at (nat_cmp n)) (match_ordering o ((n, x) ∷ e ∷ es) ((e.0, x) ∷ es) (e ∷ insert_entry nat_cmp es n x)) ≡ e ∷ es) [
      | Less ↦ λ is none. ap (λ b. cond b (e ∷ es) ((n, x) ∷ remove_entry (is_at (nat_cmp n)) (e ∷ es))) (is_itself n)
      | Equal ↦ λ is none. absurd (some_none none)
      | Greater ↦ λ is none. ap (λ o. cond (is_eq o) (insert_entry nat_cmp es n x) (e
          ∷ remove_entry (is_at (nat_cmp n)) (insert_entry nat_cmp es n x))) is ∙ ap (λ fs. e ∷ fs) (taken_out es n x none)
    ] refl none
  where
    some_none : {X : Type 0} {y : X} → ◌≡◌ {A = Option X} (Some y) None → ⊥
    some_none e = true≢false (ap is_some e)

-- what holds where the result isn't an error
pub when_fine : {T E : Type 0} (r : Result T E) (P : Type 0) → OnOk r P → is_err r ≡ false → P
when_fine (Ok x) P p e = p
when_fine (Err x) P p e = absurd (true≢false e)

-- ---- one part takes the batch

pub taken_at : (r : Result Delivered RefusedBatch) (honest : Bool) (query : Checked) (old new : BTreeMap ℕ Part) (batch : Batch)
    (before after : Part)
    → part_at old.entries batch.origin ≡ Some before → WritesThrough nat_cmp (nat_cmp batch.origin) old after new
    → Delivery honest query before batch after r
    → IfOk r (DeliversAt honest query old.entries batch.origin batch.number batch.rows new.entries)
    × IfErr r (RefusesAt old.entries batch new.entries)
taken_at (Ok reply) honest query old new batch before after there written d =
    let updates = written.3 (ap is_some there) in (
      record {
        part = after;
        own = updates.1;
        delivers = subst (λ (p : Part). Delivers honest (meaning query) p batch.number batch.rows after reply)
            (sym (part_here old.entries batch.origin before there)) d.delivers;
        is_part = d.part;
        others = λ other apart. updates.2 other (is_other batch.origin other (λ e. apart (sym e)));
        rising = written.4;
      },
      tt,
    )
taken_at (Err e) honest query old new batch before after there written d =
    let here : before ≡ part_of old.entries batch.origin = sym (part_here old.entries batch.origin before there) in (
      tt,
      record {
        back = d.refuses.back;
        same = written.0 ∙ ap (set_value (is_at (nat_cmp batch.origin)) old.entries) d.refuses.same
            ∙ set_value_same (is_at (nat_cmp batch.origin)) old.entries before there;
        tells = subst (λ (p : Part). BatchTells e.why p batch.number batch.rows) here d.refuses.tells;
      },
    )

-- the part that was made for the first batch of an origin is nothing, as it was before
pub made_part : (old between : Parts) (o : ℕ) → part_at old o ≡ None → between ≡ insert_entry nat_cmp old o empty → part_of between o
    ≡ part_of old o
made_part old between o none put =
    ap (λ ps. part_of ps o) put ∙ ap (λ found. unwrap_or found empty) (put_same old o empty)
    ∙ sym (ap (λ found. unwrap_or found empty) none)

-- the first batch of an origin
pub first_delivers : (honest : Bool) (query : Checked) (old between new : Parts) (o n : ℕ) (rows : List (List ℕ)) (reply : Delivered)
    → part_at old o ≡ None → between ≡ insert_entry nat_cmp old o empty
    → DeliversAt honest query between o n rows new reply → DeliversAt honest query old o n rows new reply
first_delivers honest query old between new o n rows reply none put d =
    let nothing : part_of between o ≡ part_of old o = made_part old between o none put in
    record {
      part = d.part;
      own = d.own;
      delivers = subst (λ (p : Part). Delivers honest (meaning query) p n rows d.part reply) nothing d.delivers;
      is_part = d.is_part;
      others = λ other apart. d.others other apart ∙ ap (λ ps. part_at ps other) put ∙ put_else old o empty other apart;
      rising = d.rising;
    }

pub first_refused : (old between failed new : Parts) (batch : Batch) (e : RefusedBatch) → part_at old batch.origin ≡ None → between
    ≡ insert_entry nat_cmp old batch.origin empty
    → RefusesAt between batch failed e → new ≡ remove_entry (is_at (nat_cmp batch.origin)) failed → RefusesAt old batch new e
first_refused old between failed new batch e none put r removed =
    let nothing : part_of between batch.origin ≡ part_of old batch.origin = made_part old between batch.origin none put in
    record {
      back = r.back;
      same = removed ∙ ap (remove_entry (is_at (nat_cmp batch.origin))) (r.same ∙ put) ∙ taken_out old batch.origin empty none;
      tells = subst (λ (p : Part). BatchTells e.why p batch.number batch.rows) nothing r.tells;
    }

-- the same where the place of its origin may be new
pub placed_part : (old between : Parts) (o : ℕ) (is_new : Bool) → IsPlace old o between is_new → part_of between o ≡ part_of old o
placed_part old between o true (none, put) = made_part old between o none put
placed_part old between o false (there, same) = ap (λ ps. part_of ps o) same

pub placed_delivers : (honest : Bool) (query : Checked) (old between new : Parts) (o n : ℕ) (rows : List (List ℕ)) (reply : Delivered)
    (is_new : Bool) → IsPlace old o between is_new
    → DeliversAt honest query between o n rows new reply → DeliversAt honest query old o n rows new reply
placed_delivers honest query old between new o n rows reply true (none, put) d =
    first_delivers honest query old between new o n rows reply none put d
placed_delivers honest query old between new o n rows reply false (there, same) d =
    subst (λ ps. DeliversAt honest query ps o n rows new reply) same d

pub placed_refused : (old between failed new : Parts) (batch : Batch) (e : RefusedBatch) (is_new : Bool)
    → IsPlace old batch.origin between is_new → RefusesAt between batch failed e → new ≡ taken_back batch.origin failed is_new
    → RefusesAt old batch new e
placed_refused old between failed new batch e true (none, put) r back = first_refused old between failed new batch e none put r back
placed_refused old between failed new batch e false (there, same) r back = record {
  back = r.back;
  same = back ∙ r.same ∙ same;
  tells = subst (λ ps. BatchTells e.why (part_of ps batch.origin) batch.number batch.rows) same r.tells;
}

pub placed_there : (old between : Parts) (o : ℕ) (is_new : Bool) → IsPlace old o between is_new → part_at between o ≡ None → ⊥
placed_there old between o true (none, put) e = true≢false (ap is_some (sym (ap (λ ps. part_at ps o) put ∙ put_same old o empty) ∙ e))
placed_there old between o false (there, same) e =
    true≢false (sym there ∙ ap is_some (sym (ap (λ ps. part_at ps o) same) ∙ e))

-- no part of an origin tells no number
pub none_tells : (parts : Parts) (o n : ℕ) → part_at parts o ≡ None → tells (part_of parts o) n ≡ false
none_tells parts o n none = ap (λ found. tells (unwrap_or found empty) n) none ∙ empty_tells n

-- ---- the whole replica

pub empty_part : (query : Checked) → IsPartOf query empty
unfolding IsStrictlySortedBy
empty_part query =
    record {
      within = omega arith;
      run = record { groups = []; are = tt; rises = tt };
      few = omega arith;
      rising = tt;
      early = tt;
    }

pub part_is : (query : Checked) (parts : Parts) → AreHeldParts query parts → (o : ℕ) → IsPartOf query (part_of parts o)
part_is query parts held o =
    elim (part_at parts o) as (λ found. part_at parts o ≡ found → IsPartOf query (unwrap_or found empty)) [
      | None ↦ λ e. empty_part query
      | Some p ↦ λ e. (held_part query parts held o p e).part
    ] refl

pub part_has_gap : (query : Checked) (parts : Parts) → AreHeldParts query parts → (o : ℕ) → HasGap (part_of parts o)
part_has_gap query parts held o = part_gap query (part_of parts o) (part_is query parts held o)

-- a part that tells a number isn't empty
pub some_if_tells : (p : Part) (n : ℕ) → tells p n ≡ true → (0 < p.prefix) ⊎ (p.early ≢ [])
some_if_tells p n known =
    elim p.early as (λ es. p.early ≡ es → (0 < p.prefix) ⊎ (p.early ≢ [])) [
      | [] ↦ λ e. inl (within (nat_le 1 n) (nat_le n p.prefix) refl refl
          (sym (ap (λ es. (nat_le 1 n && nat_le n p.prefix) || is_some (rows_at es n)) e) ∙ known))
      | b ∷ bs ↦ λ e. inr (λ none. absurd (some_none (sym e ∙ none)))
    ] refl
  where
    some_none : {X : Type 0} {x : X} {xs : List X} → ◌≡◌ {A = List X} (x ∷ xs) [] → ⊥
    some_none {X} e = true≢false (ap is_cons e)
      where
        is_cons : List X → Bool
        is_cons [] = false
        is_cons (y ∷ ys) = true

    within : (a b : Bool) → nat_le 1 n ≡ a → nat_le n p.prefix ≡ b → ((a && b) || false) ≡ true → 0 < p.prefix
    within true true one two e = let low : 1 ≤ n = grind arith in let high : n ≤ p.prefix = grind arith in omega (arith, low, high)
    within true false one two e = absurd (true≢false (sym e))
    within false b one two e = absurd (true≢false (sym e))

-- a batch that is taken isn't there already with other rows
pub taken_agrees : (honest : Bool) (query : Checked) (old new : Part) (n : ℕ) (rows : List (List ℕ)) (reply : Delivered) → IsPartOf query
    old
    → Delivers honest (meaning query) old n rows new reply → ¬ (Disagrees old n rows)
taken_agrees honest query old new n rows Known is d there = there.other (d.1 there.kept there.there)
taken_agrees honest query old new n rows Early is d there = absurd (true≢false (sym (ap is_some there.there)
    ∙ not_early (nat_le 1 n && nat_le n old.prefix) (is_some (rows_at old.early n)) d.0))
  where
    not_early : (a b : Bool) → (a || b) ≡ false → b ≡ false
    not_early true b e = absurd (true≢false e)
    not_early false b e = e
taken_agrees honest query old new n rows (Folded upto) is d there =
    let behind : old.prefix
    + 1 < n = (found_holds (IsEarly (kinds query.columns) old.prefix) old.early n there.kept is.early there.there).behind in
    let next : n ≡ old.prefix + 1 = d.0 in
    absurd (omega (arith, behind, next))

module _ (honest : Bool) (query : Checked) (old new : Parts) (o n : ℕ) (rows : List (List ℕ)) (reply : Delivered)
    (held : AreHeldParts query old) (limits : InLimits (o, n)) (d : DeliversAt honest query old o n rows new reply) where
  tells_more : (m : ℕ) → tells d.part m ≡ (eq_by_cmp nat_cmp m n || tells (part_of old o) m)
  tells_more m = delivered_tells honest query (meaning query) (part_of old o) d.part n rows reply (part_is query old held o) limits.1
      d.delivers m

  pub delivered_held : AreHeldParts query new
  delivered_held =
      record {
        rising = d.rising;
        each = all_found (IsHeldPart query) new d.rising (λ m p there. each m p there (same_or_other m o));
      }
    where
      each : (m : ℕ) (p : Part) → part_at new m ≡ Some p → (m ≡ o) ⊎ (m ≢ o) → IsHeldPart query (m, p)
      each m p there (inl same) =
          let is : d.part ≡ p = ap (λ found. unwrap_or found d.part) (sym d.own ∙ ap (part_at new) (sym same) ∙ there) in
          subst (λ q. IsHeldPart query (m, q)) is
          (record {
            within = subst (λ k. k ≤ LAST_ORIGIN) (sym same) limits.0;
            part = d.is_part;
            some = some_if_tells d.part n (tells_more n ∙ ap (λ b. b || tells (part_of old o) n) (is_itself n));
          })
      each m p there (inr other) = held_part query old held m p (sym (d.others m other) ∙ there)

  pub delivered_told : told new ≡ learn (told old) (o, n)
  delivered_told =
      same_knowledge (told new) (learn (told old) (o, n)) (λ batch.
      told_is new d.rising batch.0 batch.1
      ∙ go batch.0 batch.1 (same_or_other batch.0 o)
      ∙ sym (knows_learn (told old) (o, n) batch ∙ ap (λ b. b || knows (told old) batch) (same_batch batch.0 batch.1 o n)
      ∙ ap (λ b. (eq_by_cmp nat_cmp batch.0 o && eq_by_cmp nat_cmp batch.1 n) || b) (told_is old held.rising batch.0 batch.1)))
    where
      go : (k m : ℕ) → (k ≡ o) ⊎ (k ≢ o) → tells (part_of new k) m ≡ ((eq_by_cmp nat_cmp k o && eq_by_cmp nat_cmp m n)
          || tells (part_of old k) m)
      go k m (inl same) =
          ap (λ j. tells (part_of new j) m) same
          ∙ ap (λ found. tells (unwrap_or found empty) m) d.own
          ∙ tells_more m
          ∙ sym (ap (λ j. (eq_by_cmp nat_cmp j o && eq_by_cmp nat_cmp m n) || tells (part_of old j) m) same
          ∙ ap (λ b. (b && eq_by_cmp nat_cmp m n) || tells (part_of old o) m) (is_itself o))
      go k m (inr other) =
          ap (λ found. tells (unwrap_or found empty) m) (d.others k other)
          ∙ sym (ap (λ b. (b && eq_by_cmp nat_cmp m n) || tells (part_of old k) m) (is_other k o other))

  old_prefix : prefix (told old) o ≡ (part_of old o).prefix
  old_prefix = prefix_told old held.rising o (part_has_gap query old held o)

  pub delivered_reply : reply ≡ reply_of (told old) (o, n)
  delivered_reply = go reply refl d.delivers
    where
      knows_tells : knows (told old) (o, n) ≡ tells (part_of old o) n
      knows_tells = told_is old held.rising o n

      unknown : (answer : Delivered) → knows (told old) (o, n) ≡ false
          → (if n == prefix (told old) o + 1 then Folded (prefix (learn (told old) (o, n)) o) else Early) ≡ answer → answer
          ≡ reply_of (told old) (o, n)
      unknown answer not_known is = sym is
          ∙ ap (λ b. if b then Known else (if n == prefix (told old) o + 1 then Folded (prefix (learn (told old) (o, n)) o) else Early))
          (sym not_known)

      go : (answer : Delivered) → reply ≡ answer → Delivers honest (meaning query) (part_of old o) n rows d.part answer → answer
          ≡ reply_of (told old) (o, n)
      go Known is delivers =
          ap (λ b. if b then Known else (if n == prefix (told old) o + 1 then Folded (prefix (learn (told old) (o, n)) o) else Early))
          (sym (knows_tells ∙ delivers.0))
      go Early is delivers =
          unknown Early (knows_tells ∙ delivers.0)
          (ap (λ b. if b then Folded (prefix (learn (told old) (o, n)) o) else Early) (ap (λ p. n == p + 1) old_prefix ∙ apart delivers.1))
        where
          apart : n ≢ (part_of old o).prefix + 1 → (n == (part_of old o).prefix + 1) ≡ false
          apart other = elim (n == (part_of old o).prefix + 1) as (λ b. (n == (part_of old o).prefix + 1) ≡ b → b ≡ false) [
            | true ↦ λ e. absurd (other (let same : n ≡ (part_of old o).prefix + 1 = grind arith in same))
            | false ↦ λ e. refl
          ] refl
      go (Folded upto) is delivers =
          let next : n ≡ (part_of old o).prefix + 1 = delivers.0 in
          unknown (Folded upto) (knows_tells ∙ ap (tells (part_of old o)) next ∙ part_has_gap query old held o)
          (ap (λ b. if b then Folded (prefix (learn (told old) (o, n)) o) else Early) (ap (λ p. n == p + 1) old_prefix
          ∙ ap (λ m. m == (part_of old o).prefix + 1) next ∙ itself ((part_of old o).prefix + 1))
          ∙ ap Folded (sym (ap (λ k. prefix k o) delivered_told)
          ∙ prefix_told new d.rising o (subst HasGap (sym own) (part_gap query d.part d.is_part)) ∙ ap (λ (p : Part). p.prefix) own
          ∙ sym delivers.1))
        where
          itself : (m : ℕ) → (m == m) ≡ true
          itself m = grind arith

          own : part_of new o ≡ d.part
          own = ap (λ found. unwrap_or found empty) d.own

pub delivered_fits : (honest : Bool) → IsTrue honest → (query : Checked) (old new : Parts) (o n : ℕ) (rows : List (List ℕ))
    (reply : Delivered) → AreHeldParts query old → DeliversAt honest query old o n rows new reply
    → (world : World) (those : List Row) → IsWorld (kinds query.columns) world → Fits world (record { query = query; parts = old })
    → world o n ≡ Some those → rows ≡ packings those
    → Fits world (record { query = query; parts = new })
delivered_fits honest so query old new o n rows reply held d world those is fits there same k = go (same_or_other k o)
  where
    go : (k ≡ o) ⊎ (k ≢ o) → FitsOrigin (meaning query) world k (part_of new k)
    go (inr other) = subst (FitsOrigin (meaning query) world k) (sym (ap (λ found. unwrap_or found empty) (d.others k other))) (fits k)
    go (inl here) =
        subst (λ j. FitsOrigin (meaning query) world j (part_of new j)) (sym here)
        (subst (FitsOrigin (meaning query) world o) (sym (ap (λ found. unwrap_or found empty) d.own))
        (fits_delivered honest so query world is o (part_of old o) d.part n those reply (part_is query old held o) (fits o) there
        (subst (λ r. Delivers honest (meaning query) (part_of old o) n r d.part reply) same d.delivers)))

pub never_disagrees : (query : Checked) (old : Parts) (o n : ℕ) (rows : List (List ℕ)) → Disagrees (part_of old o) n rows
    → (world : World) (those : List Row) → Fits world (record { query = query; parts = old })
    → world o n ≡ Some those → rows ≢ packings those
never_disagrees query old o n rows d world those fits there same =
    agrees_delivered (meaning query) world o (part_of old o) n those (fits o) there (subst (Disagrees (part_of old o) n) same d)
