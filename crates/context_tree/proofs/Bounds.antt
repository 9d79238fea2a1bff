-- What all contexts hold together.
use Rattle.std.proofs.Common.{◌≡◌, ℕ, zero, suc, ◌+◌, ◌<◌, ◌≤◌, Bool, true, false, List, [], ◌∷◌, Option, Some, None, length, get_or, cond}
use Rattle.std.proofs.Common.{set, refl, ap, arith}
use Rattle.std.specs.Prelude.{is_some, nat_le}
use Rattle.chunk_contexts.specs.Rooms.{rounded, over_most}
use Rattle.chunk_contexts.specs.Free.{is_in}
use Rattle.chunk_contexts.specs.Set.{SetState, growth_by, set_growth, set_room}
use Rattle.chunk_contexts.specs.Run.{RunState, run_growth, run_growth_by}
use Rattle.chunk_contexts.specs.Slab.{SlabState, slab_refusal, slab_growth, slab_grows}
use Rattle.chunk_contexts.specs.declared.error.ContextError.{ContextError}
use Rattle.context_tree.proofs.Words.{no_context, new_context, with_bytes, with_resized, held_by, growth_of, refusal_of, is_below, cleared}
use Rattle.context_tree.proofs.Words.{placed, held_from, held_by_all, Context, Link}
use Rattle.context_tree.specs.declared.context.Context.TheVariants.{AllocSet, Slab, Generation, Bump}
use Rattle.context_tree.specs.declared.kind.Kind.{Kind}
use Rattle.context_tree.specs.declared.kind.Kind.TheVariants as kind
use Rattle.chunk_layout.specs.declared.place.Place.{Place}
use Rattle.chunk_contexts.specs.declared.rooms.TheConstants.{BLOCK, LARGEST}

-- a new context holds nothing, and one in which bytes are written as much as before
pub nothing-held : (made : Kind) → held_by (new_context made) ≡ 0
nothing-held kind.AllocSet = refl
nothing-held (kind.Slab size) = refl
nothing-held kind.Generation = refl
nothing-held kind.Bump = refl

pub written-held : (c : Context) (place : Place) (bytes : List ℕ) → held_by (with_bytes c place bytes) ≡ held_by c
written-held (AllocSet s) place bytes = refl
written-held (Slab s) place bytes = refl
written-held (Generation s) place bytes = refl
written-held (Bump s) place bytes = refl

pub resized-held : (c : Context) (place : Place) (bytes : List ℕ) → held_by (with_resized c place bytes) ≡ held_by c
resized-held (AllocSet s) place bytes = refl
resized-held (Slab s) place bytes = refl
resized-held (Generation s) place bytes = refl
resized-held (Bump s) place bytes = refl

-- a request that is refused for what it asks takes nothing
set-refused : (s : SetState) (n : ℕ) (o : Option ContextError) → over_most n ≡ o → 0 < set_growth s n → o ≡ None
set-refused s n None is grows = refl
set-refused s n (Some e) is grows =
    let none : set_growth s n
    ≡ 0 = ap (λ (p : Option ContextError). growth_by (is_some p) (nat_le n LARGEST) (is_in (set_room n) s.free)
    (nat_le (set_room n + 8) s.left) s (set_room n)) is in
    absurd (omega (arith, none, grows))

run-refused : (head : ℕ) (s : RunState) (n : ℕ) (o : Option ContextError) → over_most n ≡ o → 0 < run_growth head s n → o ≡ None
run-refused head s n None is grows = refl
run-refused head s n (Some e) is grows =
    let none : run_growth head s n
    ≡ 0 = ap (λ (p : Option ContextError). run_growth_by (is_some p) (nat_le (head + rounded n) BLOCK)
    (nat_le (head + rounded n) s.left) (head + rounded n)) is in
    absurd (omega (arith, none, grows))

slab-refused : (s : SlabState) (n : ℕ) (o : Option ContextError) → slab_refusal s n ≡ o → 0 < slab_growth s n → o ≡ None
slab-refused s n None is grows = refl
slab-refused s n (Some e) is grows =
    let none : slab_growth s n ≡ 0 = ap (λ (p : Option ContextError). cond (is_some p) 0 (slab_grows s)) is in
    absurd (omega (arith, none, grows))

pub growth-admitted : (c : Context) (n : ℕ) → 0 < growth_of c n → refusal_of c n ≡ None
growth-admitted (AllocSet s) n grows = set-refused s n (over_most n) refl grows
growth-admitted (Slab s) n grows = slab-refused s n (slab_refusal s n) refl grows
growth-admitted (Generation s) n grows = run-refused 8 s n (over_most n) refl grows
growth-admitted (Bump s) n grows = run-refused 0 s n (over_most n) refl grows

pub all-set : (cs : List Context) (slot : ℕ) (c : Context) → slot < length cs → held_by_all (set cs slot c)
    + held_by (get_or cs slot no_context) ≡ held_by_all cs + held_by c
all-set [] slot c low = absurd (omega (arith, low))
all-set (x ∷ cs) zero c low = omega arith
all-set (x ∷ cs) (suc slot) c low = omega (arith, all-set cs slot c (omega (arith, low)))

pub all-placed : (cs : List Context) (slot : ℕ) (c : Context) → slot ≤ length cs → get_or cs slot no_context ≡ no_context → held_by c ≡ 0
    → held_by_all (placed cs slot c) ≡ held_by_all cs
all-placed [] slot c low none holds = omega (arith, holds)
all-placed (x ∷ cs) zero c low none holds = omega (arith, holds, ap held_by none)
all-placed (x ∷ cs) (suc slot) c low none holds = omega (arith, all-placed cs slot c (omega (arith, low)) none holds)

cleared-less : (b : Bool) (c : Context) → held_by (cond b no_context c) ≤ held_by c
cleared-less true c = omega arith
cleared-less false c = omega arith

pub all-cleared : (gone : ℕ → Bool) (place : ℕ) (cs : List Context) → held_by_all (cleared gone no_context place cs) ≤ held_by_all cs
all-cleared gone place [] = omega arith
all-cleared gone place (c ∷ cs) =
    let here = cleared-less (gone place) c in
    let rest = all-cleared gone (place + 1) cs in
    omega (arith, here, rest)

some-less : (b : Bool) (n : ℕ) → cond b n 0 ≤ n
some-less true n = omega arith
some-less false n = omega arith

pub below-all : (ls : List (Option Link)) (above slot : ℕ) (cs : List Context) → held_from ls above slot cs ≤ held_by_all cs
below-all ls above slot [] = omega arith
below-all ls above slot (c ∷ cs) =
    let here = some-less (is_below ls above slot) (held_by c) in
    let rest = below-all ls above (slot + 1) cs in
    omega (arith, here, rest)

-- what is cleared with a context and its descendants is what they held
given-one : (b : Bool) (c : Context) → held_by (cond b no_context c) + cond b (held_by c) 0 ≡ held_by c
given-one true c = omega arith
given-one false c = omega arith

pub all-given : (ls : List (Option Link)) (above place : ℕ) (cs : List Context)
    → held_by_all (cleared (is_below ls above) no_context place cs) + held_from ls above place cs ≡ held_by_all cs
all-given ls above place [] = refl
all-given ls above place (c ∷ cs) =
    let here = given-one (is_below ls above place) c in
    let rest = all-given ls above (place + 1) cs in
    omega (arith, here, rest)
