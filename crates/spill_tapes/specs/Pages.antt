-- The pages of tapes, by their numbers. Page n of a disk are its PAGE bytes from the place PAGE * n on. All of this is our own.
use Rattle.std.specs.Prelude.{◌≡◌, ℕ, ◌+◌, ◌-◌, ◌*◌, ◌/◌, ◌<◌, ◌≤◌, ◌⊎◌, ◌==◌, nat_lt, cond, List, [], ◌∷◌, ◌++◌, length, get_or}
use Rattle.tape_disks.specs.declared.limits.TheConstants.{PAGE}
use Rattle.spill_tapes.specs.declared.limits.TheConstants.{MAX_PAGES}

-- how many pages this many bytes take
abbrev pub pages_for : ℕ → ℕ
pages_for n = (n + (PAGE - 1)) / PAGE

-- the numbers of the pages that are free; how many page numbers were ever given out; and how many there is room for in the list of the free
-- ones
pub record PoolState : Type 0 where
  pub free : List ℕ
  pub count : ℕ
  pub room : ℕ

-- there is room for all numbers, and at most MAX_PAGES are given out
pub record IsPool (pool : PoolState) : Type 0 where
  pub few : pool.count ≤ MAX_PAGES
  pub room : pool.count ≤ pool.room

-- one page more is free
abbrev pub given_back : PoolState → ℕ → PoolState
given_back pool page = record { free = pool.free ++ page ∷ []; count = pool.count; room = pool.room }

-- how often a number is in a list; and whether it was given out, as a number
abbrev pub once : ℕ → ℕ → ℕ
once page x = cond (x == page) 1 0

abbrev pub times : ℕ → List ℕ → ℕ
times page [] = 0
times page (x ∷ xs) = once page x + times page xs

abbrev pub below : ℕ → ℕ → ℕ
below page count = cond (nat_lt page count) 1 0

-- the pages of a tape are given out, each once, and none of them is free
abbrev pub IsApart : PoolState → List ℕ → Type 0
IsApart pool pages = (page : ℕ) → times page pool.free + times page pages ≤ below page pool.count

-- pages moved between a tape and the free ones, and no page was lost or is there twice
pub record IsBalanced (before : PoolState) (pages : List ℕ) (after : PoolState) (pages' : List ℕ) : Type 0 where
  pub each : (page : ℕ) → times page after.free + times page pages' + below page before.count ≡ times page before.free + times page pages
      + below page after.count
  pub all : length after.free + length pages' + before.count ≡ length before.free + length pages + after.count
  pub grows : before.count ≤ after.count

-- what is true of the pages of a tape and of the free ones: they are apart, and no more than were ever given out
pub record HavePages (given : PoolState) (pages : List ℕ) : Type 0 where
  pub pool : IsPool given
  pub apart : IsApart given pages
  pub fits : length given.free + length pages ≤ given.count

-- a new page number was given out only where no page was free
abbrev pub UsesAgain : PoolState → PoolState → Type 0
UsesAgain before after = (after.count ≡ before.count) ⊎ (after.free ≡ [])

-- a page that no tape has: it is free, or has a new number
abbrev pub IsFresh : PoolState → ℕ → Type 0
IsFresh pool page = times page pool.free ≡ 0 → pool.count ≤ page

-- no page became free
abbrev pub FreesNone : PoolState → PoolState → Type 0
FreesNone before after = (page : ℕ) → times page after.free ≤ times page before.free

-- a tape took pages of the free ones, or new ones where none was free; it gave pages back
pub record TakesPages (before : PoolState) (pages : List ℕ) (after : PoolState) (pages' : List ℕ) : Type 0 where
  pub pool : IsPool after
  pub balanced : IsBalanced before pages after pages'
  pub frees : FreesNone before after
  pub again : UsesAgain before after

pub record GivesBack (before : PoolState) (pages : List ℕ) (after : PoolState) (pages' : List ℕ) : Type 0 where
  pub pool : IsPool after
  pub balanced : IsBalanced before pages after pages'
  pub count : after.count ≡ before.count

-- a page has these bytes, and pages have
pub record IsOn (last : ℕ → ℕ → Type 0) (page : ℕ) (bytes : List ℕ) : Type 0 where
  pub len : length bytes ≡ PAGE
  pub each : (k : ℕ) → k < PAGE → last (page * PAGE + k) (get_or bytes k 0)

abbrev pub AreOn : (ℕ → ℕ → Type 0) → List ℕ → List (List ℕ) → Type 0
AreOn last [] [] = Unit {0}
AreOn last (page ∷ pages) (bytes ∷ contents) = IsOn last page bytes × AreOn last pages contents
AreOn last pages contents = ⊥

-- each page that is given out and not free has the bytes that it had
abbrev pub KeepsPages : PoolState → (ℕ → ℕ → Type 0) → (ℕ → ℕ → Type 0) → Type 0
KeepsPages pool before after = (page : ℕ) → page < pool.count → times page pool.free ≡ 0 → (k byte : ℕ) → k < PAGE
    → before (page * PAGE + k) byte → after (page * PAGE + k) byte
