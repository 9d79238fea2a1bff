-- What is true of the fields of a tree stays true.
use Rattle.std.proofs.Common.{◌≡◌, ℕ, ◌+◌, ◌<◌, ◌≤◌, inl, inr, Bool, true, false, List, Option, Some, None, length}
use Rattle.std.proofs.Common.{get_or, cond, set, refl, sym, ap, ◌∙◌, subst, arith}
use Rattle.std.specs.Prelude.{is_some, unwrap_or, Result, Ok, Err, IsErrAnd, IfErr, IsTrue}
use Rattle.std.proofs.lemmas.Bool.{cases_Bool, cases_eq, cond-true, cond-false, false≢true}
use Rattle.chunk_contexts.specs.declared.error.ContextError.{ContextError}
use Rattle.context_tree.proofs.Words.{no_context, new_context, held_by, stamp_of, cleared, placed, TreeState, Stamped, Emptied}
use Rattle.context_tree.proofs.Words.{IsRefusedBy, IsNotMade, has_stamp, is_there, context_at, with_context, without_slots}
use Rattle.context_tree.proofs.Words.{held_by_all, IsBounded, Context, Link}
use Rattle.std.specs.List.{refill}
use Rattle.context_tree.specs.Calls.{OnContext, Writes, written}
use Rattle.context_tree.specs.Tree.{IsWhole}
use Rattle.context_tree.specs.TreeLends.{with_bytes_in}
use Rattle.context_tree.proofs.Words.{KeepsOthers, place_of, chunks_of, chunk_bytes, has_chunk, with_bytes}
use Rattle.chunk_layout.specs.declared.place.ChunkName.{ChunkName}
use Rattle.std.proofs.lemmas.List.{get_or-set_same, get_or-set_other, get_or_default, get_or_read, length-set, set-get_or}
use Rattle.context_tree.specs.SlotLaws.{placed-here, placed-other}
use Rattle.context_tree.specs.Preorders.{IsOrdered}
use Rattle.context_tree.specs.Rings.{RingState}
use Rattle.context_tree.specs.TreeFields.{tree_of, AreFields}
use Rattle.context_tree.specs.declared.error.TreeError.{TreeError}
use Rattle.context_tree.specs.declared.error.TreeError.TheVariants as error
use Rattle.context_tree.specs.declared.error.TreeError.TheVariants.{NoSuchContext}
use Rattle.context_tree.specs.declared.kind.Kind.{Kind}
use Rattle.context_tree.specs.declared.links.ContextId.{ContextId}
use Rattle.context_tree.specs.declared.tree.Tree.TheInside.{Inside}
use Rattle.context_tree.proofs.Bounds.{all-set, all-placed, all-cleared, nothing-held}
use Rattle.context_tree.proofs.Clearing.{length-cleared, get_or-cleared, low-there}
use Rattle.context_tree.proofs.Slots.{refill-whole, length-placed}

-- no context has a later stamp than the last one
pub stamp-low : (ls : List (Option Link)) (last slot : ℕ) → Stamped ls last → stamp_of (get_or ls slot None) ≤ last
stamp-low ls last slot stamps = by (get_or ls slot None) refl
  where
    by : (l : Option Link) → get_or ls slot None ≡ l → stamp_of l ≤ last
    by None e = omega arith
    by (Some l) e = stamps slot l e

-- a context is made
module _ (ls : List (Option Link)) (cs : List Context) (last slot : ℕ) (low : slot ≤ length ls) (long : length cs ≡ length ls) (link : Link)
    (c : Context) where
  pub stamps-made : link.stamp ≡ last + 1 → Stamped ls last → Stamped (placed ls slot (Some link)) (last + 1)
  stamps-made next stamps k l e = elim (cases_eq k slot) [
    | inl same ↦
        let it : Some link ≡ Some l = sym (ap (λ (j : ℕ). get_or (placed ls slot (Some link)) j None) same
        ∙ placed-here ls slot (Some link) None low) ∙ e in
        let stamp : link.stamp ≡ l.stamp = ap (λ (o : Option Link). (unwrap_or o link).stamp) it in
        omega (arith, next, stamp)
    | inr ne ↦ omega (arith, stamps k l (sym (placed-other ls slot k (Some link) None low ne) ∙ e))
  ]

  pub empty-made : Emptied ls cs → Emptied (placed ls slot (Some link)) (placed cs slot c)
  empty-made empty k e = elim (cases_eq k slot) [
    | inl same ↦ absurd (false≢true (sym (ap is_some e) ∙ ap is_some (ap (λ (j : ℕ). get_or (placed ls slot (Some link)) j None) same
        ∙ placed-here ls slot (Some link) None low)))
    | inr ne ↦ placed-other cs slot k c no_context (omega (arith, low, long)) ne
        ∙ empty k (sym (placed-other ls slot k (Some link) None low ne) ∙ e)
  ]

  -- it holds nothing
  pub held-made : (made : Kind) → c ≡ new_context made → get_or ls slot None ≡ None → Emptied ls cs → held_by_all (placed cs slot c)
      ≡ held_by_all cs
  held-made made new free empty = all-placed cs slot c (omega (arith, low, long)) (empty slot free) (ap held_by new ∙ nothing-held made)

  pub bounded-made : (made : Kind) → c ≡ new_context made → get_or ls slot None ≡ None → Emptied ls cs → IsBounded cs
      → IsBounded (placed cs slot c)
  bounded-made made new free empty bounded =
      let same = held-made made new free empty in
      omega (arith, same, bounded)

  pub long-made : length (placed cs slot c) ≡ length (placed ls slot (Some link))
  long-made = length-placed cs ls slot c (Some link) long

-- an id that is there is of a slot of the list
pub there-some : (link : Option Link) (stamp : ℕ) → has_stamp link stamp ≡ true → is_some link ≡ true
there-some None stamp there = there
there-some (Some link) stamp there = refl

-- a context is written over
module _ (x : Inside) (are : AreFields x) (now : TreeState) (view : tree_of x ≡ now) (id : ContextId) (there : is_there now id ≡ true) where
  abbrev cs : List Context
  cs = x.contexts.items

  pub slot-some : is_some (get_or x.links id.slot None) ≡ true
  slot-some = ap (λ (t : TreeState). is_some (get_or t.links id.slot None)) view ∙ there-some (get_or now.links id.slot None) id.stamp there

  pub slot-low : id.slot < length cs
  slot-low = omega (arith, are.long, low-there x.links id.slot slot-some)

  pub old-is : (d : List Context) (other : Context) → d ≡ cs → get_or d id.slot other ≡ context_at now id
  old-is d other same =
      ap (λ (l : List Context). get_or l id.slot other) same ∙ get_or_default cs id.slot other no_context slot-low
      ∙ ap (λ (t : TreeState). context_at t id) view

  module _ (d : List Context) (same : d ≡ cs) (c : Context) where
    pub whole : refill (length cs) cs (set d id.slot c) ≡ set cs id.slot c
    whole =
        let items : set d id.slot c ≡ set cs id.slot c = ap (λ (l : List Context). set l id.slot c) same in
        refill-whole (length cs) cs (set d id.slot c) refl (ap length items ∙ length-set cs id.slot c) ∙ items

    pub new-tree : (record { links = x.links; contexts = refill (length cs) cs (set d id.slot c); last = x.last }) ≡ with_context now id c
    new-tree = (λ i. record { links = x.links; contexts = whole i; last = x.last }) ∙ ap (λ (t : TreeState). with_context t id c) view

    pub new-is : get_or (refill (length cs) cs (set d id.slot c)) id.slot no_context ≡ c
    new-is = ap (λ (l : List Context). get_or l id.slot no_context) whole ∙ get_or-set_same cs id.slot c no_context slot-low

  -- one that is there may be any context
  empty-written : (c : Context) → Emptied x.links (set cs id.slot c)
  empty-written c k free = elim (cases_eq k id.slot) [
    | inl same ↦ absurd (false≢true (sym (ap (λ (j : ℕ). is_some (get_or x.links j None)) (sym same) ∙ ap is_some free) ∙ slot-some))
    | inr ne ↦ get_or-set_other cs id.slot k c no_context ne ∙ are.empty k free
  ]

  -- one of which a chunk is lent holds as much
  pub fields-lent : (was c : Context) → was ≡ get_or cs id.slot was → held_by c ≡ held_by was
      → AreFields (record {
        alloc = x.alloc;
        links = x.links;
        ring = x.ring;
        contexts = record {
          items = set cs id.slot c;
          capacity = x.contexts.capacity;
        };
        last = x.last;
        held = x.held;
      })
  fields-lent was c is holds =
      let same = ap held_by (is ∙ get_or_default cs id.slot was no_context slot-low) in
      let sum = all-set cs id.slot c slot-low in
      let bounded = are.bounded in
      let held = are.held in
      record {
        long = length-set cs id.slot c ∙ are.long;
        stamps = are.stamps;
        empty = empty-written c;
        bounded = omega (arith, same, sum, holds, bounded);
        held = omega (arith, same, sum, holds, held);
        ordered = are.ordered;
        room = are.room;
      }

  -- what is read of it in one list is what is changed in another
  pub read-changed : (e d : List Context) (other read : Context) → e ≡ cs → d ≡ cs → read ≡ get_or e id.slot read → read
      ≡ get_or d id.slot other
  read-changed e d other read is same at =
      get_or_read e id.slot read (omega (arith, slot-low, ap length is)) at other
      ∙ ap (λ (l : List Context). get_or l id.slot other) (is ∙ sym same)

-- the contexts of a tree are lent, to change one that is there
pub record IsLent (x : Inside) (now : TreeState) (id : ContextId) (d : List Context) : Type 0 where
  pub are : AreFields x
  pub view : tree_of x ≡ now
  pub there : is_there now id ≡ true
  pub same : d ≡ x.contexts.items

module _ (x : Inside) (now : TreeState) (id : ContextId) (d : List Context) (is : IsLent x now id d) (c : Context) where
  abbrev all : List Context
  all = x.contexts.items

  low : id.slot < length all
  low = slot-low x is.are now is.view id is.there

  -- the tree holds as much more or less as it does
  pub fields-written : (held : ℕ) → held + held_by (get_or all id.slot no_context) ≡ x.held + held_by c → held < 9223372036854775808
      → AreFields (record {
        alloc = x.alloc;
        links = x.links;
        ring = x.ring;
        contexts = record {
          items = refill (length all) all (set d id.slot c);
          capacity = x.contexts.capacity;
        };
        last = x.last;
        held = held;
      })
  fields-written held moved fits =
      let put = whole x is.are now is.view id is.there d is.same c in
      let sum = all-set all id.slot c low in
      let was = is.are.held in
      let all-held : held ≡ held_by_all (set all id.slot c) = omega (arith, sum, moved, was) in
      record {
        long = ap length put ∙ length-set all id.slot c ∙ is.are.long;
        stamps = is.are.stamps;
        empty = subst (Emptied x.links) (sym put) (empty-written x is.are now is.view id is.there c);
        bounded = subst IsBounded (sym put) (omega (arith, all-held, fits));
        held = all-held ∙ ap held_by_all (sym put);
        ordered = is.are.ordered;
        room = is.are.room;
      }

  -- what was lent, and what it became, are the contexts before and after; and one that stays as it was changes nothing
  module _ (other : Context) where
    old : get_or d id.slot other ≡ context_at now id
    old = old-is x is.are now is.view id is.there d other is.same

    pub said : (P : Context → Context → Type 0) → P (get_or d id.slot other) c
        → P (context_at now id) (get_or (refill (length all) all (set d id.slot c)) id.slot no_context)
    said P so = subst (P (context_at now id)) (sym (new-is x is.are now is.view id is.there d is.same c))
        (subst (λ (a : Context). P a c) old so)

    pub new-by : (f : Context → Context) → c ≡ f (get_or d id.slot other)
        → (record { links = x.links; contexts = refill (length all) all (set d id.slot c); last = x.last })
        ≡ with_context now id (f (context_at now id))
    new-by f by = new-tree x is.are now is.view id is.there d is.same c ∙ ap (with_context now id) (by ∙ ap f old)

    -- the call did to the context what was done to what was lent
    pub on-context : (Does : Context → Context → Type 0) → Does (get_or d id.slot other) c
        → OnContext id now (record { links = x.links; contexts = refill (length all) all (set d id.slot c); last = x.last }) Does
    on-context Does so = record {
      there = is.there;
      does = said Does so;
      rest = new-tree x is.are now is.view id is.there d is.same c
          ∙ ap (with_context now id) (sym (new-is x is.are now is.view id is.there d is.same c));
    }

    pub unchanged : c ≡ get_or d id.slot other
        → (record { links = x.links; contexts = refill (length all) all (set d id.slot c); last = x.last }) ≡ now
    unchanged stays = new-by (λ a. a) stays ∙ ap (λ (l : List Context). record { links = now.links; contexts = l; last = now.last })
        (set-get_or now.contexts id.slot no_context)

    -- it held no more than all do
    pub old-held : held_by (get_or d id.slot other) ≤ x.held
    old-held =
        let was = ap held_by (ap (λ (l : List Context). get_or l id.slot other) is.same ∙ get_or_default all id.slot other no_context low)
        in
        let sum = all-set all id.slot no_context low in
        let held = is.are.held in
        omega (arith, was, sum, held)

    -- the tree holds as much more or less as it does, by what was lent
    pub fields-moved : (held : ℕ) → held + held_by (get_or d id.slot other) ≡ x.held + held_by c → held < 9223372036854775808
        → AreFields (record {
          alloc = x.alloc;
          links = x.links;
          ring = x.ring;
          contexts = record {
            items = refill (length all) all (set d id.slot c);
            capacity = x.contexts.capacity;
          };
          last = x.last;
          held = held;
        })
    fields-moved held moved fits =
        let was = ap held_by (ap (λ (l : List Context). get_or l id.slot other) is.same ∙ get_or_default all id.slot other no_context low)
        in
        fields-written held (omega (arith, was, moved)) fits

-- other bytes were put into a chunk
pub written-on : (t : TreeState) (id : ContextId) (name : ChunkName) (at : ℕ) (bytes new : List ℕ) → is_there t id ≡ true → IsWhole t
    → new ≡ written (chunk_bytes (context_at t id) name) at bytes
    → IsTrue (has_chunk (with_bytes (context_at t id) (place_of name) new) name)
    → chunk_bytes (with_bytes (context_at t id) (place_of name) new) name ≡ new
    → KeepsOthers (chunks_of (context_at t id)) (chunks_of (with_bytes (context_at t id) (place_of name) new)) name name
    → OnContext id t (with_bytes_in t id name new) (Writes name at bytes)
written-on t id name at bytes new there whole is lives holds keeps =
    let c : Context = with_bytes (context_at t id) (place_of name) new in
    let low : id.slot < length t.contexts = omega (
      arith,
      whole.long,
      low-there t.links id.slot (there-some (get_or t.links id.slot None)
          id.stamp there),
    ) in
    let here : context_at (with_context t id c) id ≡ c = get_or-set_same t.contexts id.slot c no_context low in
    record {
      there = there;
      does = subst (Writes name at bytes (context_at t id)) (sym here) (record {
        lives = lives;
        holds = holds ∙ is;
        keeps = keeps;
        space = ap (with_bytes (context_at t id) (place_of name)) is;
      });
      rest = ap (with_context t id) (sym here);
    }

-- why a call is refused
module _ {X : Type 0} (P : ContextError → Type 0) (there : Bool) where
  pub refused-gone : (result : Result X TreeError) (e : TreeError) → IsErrAnd result (λ f. f ≡ e) → (there ≡ false) × (e ≡ NoSuchContext)
      → IfErr result (IsRefusedBy there P)
  refused-gone (Ok x) e is gone = tt
  refused-gone (Err f) e is gone = subst (λ (b : Bool). IsRefusedBy b P f) (sym gone.0) (is ∙ gone.1)

  pub refused-own : (result : Result X TreeError) (own : ContextError) → IsErrAnd result (λ f. f ≡ error.Context own) → there ≡ true → P own
      → IfErr result (IsRefusedBy there P)
  refused-own (Ok x) own is here so = tt
  refused-own (Err f) own is here so = subst (λ (b : Bool). IsRefusedBy b P f) (sym here) (own, is, so)

-- why no context is made
pub not-made : {there spent here none : Bool} {refusal why : Option ContextError} (e : TreeError) → there ≡ here → spent ≡ none → refusal
    ≡ why → IsNotMade here none why e → IsNotMade there spent refusal e
not-made {there = there} {spent = spent} {here = here} {none = none} {refusal = refusal} {why = why} e is last own so =
    subst (λ (b : Bool). IsNotMade b spent refusal e) (sym is) (subst (λ (b : Bool). IsNotMade here b refusal e) (sym last)
    (subst (λ (o : Option ContextError). IsNotMade here none o e) (sym own) so))

pub refused-made : {X : Type 0} {there spent here none : Bool} {refusal why : Option ContextError} (result : Result X TreeError)
    → IsErrAnd result (IsNotMade here none why) → there ≡ here → spent ≡ none → refusal ≡ why → IfErr result (IsNotMade there spent refusal)
refused-made (Ok x) not is last own = tt
refused-made (Err e) not is last own = not-made e is last own not

-- contexts are given up: those in the slots that are emptied. So much was held by them
pub record AreGivenUp (x : Inside) (gone : ℕ → Bool) (ls : List (Option Link)) (d ds : List Context) (given : ℕ) : Type 0 where
  pub are : AreFields x
  pub links : ls ≡ cleared gone None 0 x.links
  pub same : d ≡ x.contexts.items
  pub told : ds ≡ cleared gone no_context 0 d
  pub sum : held_by_all ds + given ≡ held_by_all d

module _ (x : Inside) (gone : ℕ → Bool) (ls : List (Option Link)) (d ds : List Context) (given : ℕ)
    (up : AreGivenUp x gone ls d ds given) where
  link-is : (k : ℕ) → get_or ls k None ≡ cond (gone k) None (get_or x.links k None)
  link-is k = ap (λ (l : List (Option Link)). get_or l k None) up.links ∙ get_or-cleared gone None x.links k

  abbrev n : ℕ
  n = length x.contexts.items

  contexts-are : ds ≡ cleared gone no_context 0 x.contexts.items
  contexts-are = up.told ∙ ap (cleared gone no_context 0) up.same

  pub all-given : refill n x.contexts.items ds ≡ cleared gone no_context 0 x.contexts.items
  all-given = refill-whole n x.contexts.items ds refl (ap length contexts-are ∙ length-cleared gone no_context 0 x.contexts.items)
      ∙ contexts-are

  pub given-up : (record { links = ls; contexts = refill n x.contexts.items ds; last = x.last }) ≡ without_slots (tree_of x) gone
  given-up = λ i. record { links = up.links i; contexts = all-given i; last = x.last }

  -- as much was held by all
  pub given-less : given ≤ x.held
  given-less =
      let sum = up.sum in
      let same = ap held_by_all up.same in
      let held = up.are.held in
      omega (arith, sum, same, held)

  stamps-kept : Stamped ls x.last
  stamps-kept k link e = elim (cases_Bool (gone k)) [
    | inl goes ↦ absurd (false≢true (ap is_some (sym (link-is k ∙ cond-true (gone k) None (get_or x.links k None) goes) ∙ e)))
    | inr stays ↦ up.are.stamps k link (sym (link-is k ∙ cond-false (gone k) None (get_or x.links k None) stays) ∙ e)
  ]

  empty-kept : Emptied ls (cleared gone no_context 0 x.contexts.items)
  empty-kept k e = get_or-cleared gone no_context x.contexts.items k ∙ elim (cases_Bool (gone k)) [
    | inl goes ↦ cond-true (gone k) no_context (get_or x.contexts.items k no_context) goes
    | inr stays ↦
        cond-false (gone k) no_context (get_or x.contexts.items k no_context) stays
        ∙ up.are.empty k (sym (link-is k ∙ cond-false (gone k) None (get_or x.links k None) stays) ∙ e)
  ]

  pub long-given : length (cleared gone no_context 0 x.contexts.items) ≡ length ls
  long-given = length-cleared gone no_context 0 x.contexts.items ∙ up.are.long
      ∙ sym (ap length up.links ∙ length-cleared gone None 0 x.links)

  pub fields-given : (ring : RingState) → IsOrdered ls ring.slots → ring.room ≡ x.ring.room → (held : ℕ) → held + given ≡ x.held → AreFields
      (record {
        alloc = x.alloc;
        links = ls;
        ring = ring;
        contexts = record { items = refill n x.contexts.items ds; capacity = x.contexts.capacity };
        last = x.last;
        held = held;
      })
  fields-given ring ordered room held left =
      let sum = up.sum in
      let before = ap held_by_all up.same in
      let after = ap held_by_all all-given in
      let kept = ap held_by_all contexts-are in
      let was = up.are.held in
      record {
        long = ap length all-given ∙ long-given;
        stamps = stamps-kept;
        empty = subst (Emptied ls) (sym all-given) empty-kept;
        bounded = subst IsBounded (sym all-given) (let less = all-cleared gone 0 x.contexts.items in let was = up.are.bounded in omega
            (arith, less, was));
        held = omega (arith, left, sum, before, after, kept, was);
        ordered = ordered;
        room =
            let size = ap length up.links ∙ length-cleared gone None 0 x.links in
            omega (arith, size, up.are.room, room);
      }
