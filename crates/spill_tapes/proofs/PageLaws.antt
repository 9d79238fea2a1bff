-- The bytes of the pages of a tape.
use Rattle.std.specs.Prelude.{◌≡◌, ℕ, ◌+◌, ◌-◌, ◌*◌, ◌<◌, ◌≤◌, List, [], ◌∷◌, ◌++◌, length, get_or, take, drop}
use Rattle.std.proofs.Common.{refl, sym, ◌∙◌, ap, subst, arith, length-append}
use Rattle.std.proofs.lemmas.List.{append-nil, append_assoc, flat_map_more, ext_get_or, take-append-drop, length-take-le, length-drop}
use Rattle.std.proofs.lemmas.List.{take_at, drop_at, take-append-le, drop-append-le, drop-drop, drop_all}
use Rattle.tape_disks.specs.Calls.{AreLast, AreReadAt, Keeps, KeepsBeside}
use Rattle.spill_tapes.specs.Pages.{PoolState, times, IsApart, IsFresh, IsOn, AreOn, KeepsPages}
use Rattle.spill_tapes.specs.Tape.{TapeState, join, spent, HasWritten, HasAhead}
use Rattle.spill_tapes.proofs.PoolLaws.{same_one, apart_page}
use Rattle.std.proofs.lemmas.Bool.Decides.{nat_tests}
use Rattle.std.proofs.lemmas.Grind.{common_steps}

pub keeps_pages : (before after : ℕ → ℕ → Type 0) (pool : PoolState) (page n : ℕ) → IsFresh pool page → n ≡ 8192
    → KeepsBeside before after (page * 8192) n → KeepsPages pool before after
keeps_pages before after pool page n fresh is keeps other given out k byte small here = grind (arith, nat_tests, common_steps)

-- what is on pages stays there
pub kept_on : (before after : ℕ → ℕ → Type 0) (pool : PoolState) (pages : List ℕ) (contents : List (List ℕ))
    → ((page : ℕ) → 0 < times page pages → (page < pool.count) × (times page pool.free ≡ 0)) → KeepsPages pool before after
    → AreOn before pages contents → AreOn after pages contents
kept_on before after pool [] [] apart keeps on = on
kept_on before after pool (p ∷ ps) (c ∷ cs) apart keeps on =
    let here : (p < pool.count) × (times p pool.free ≡ 0) = apart p (omega (arith, same_one p)) in (
      record { len = on.0.len; each = λ k h. keeps p here.0 here.1 k (get_or c k 0) h (on.0.each k h) },
      kept_on before after pool ps cs
          (λ page h. apart page (omega (arith, h))) keeps on.1,
    )
kept_on before after pool _ _ apart keeps on = absurd on

pub kept_all : (before after : ℕ → ℕ → Type 0) (pages : List ℕ) (contents : List (List ℕ)) → Keeps before after
    → AreOn before pages contents → AreOn after pages contents
kept_all before after [] [] keeps on = on
kept_all before after (p ∷ ps) (c ∷ cs) keeps on =
    (record { len = on.0.len; each = λ k h. keeps (p * 8192 + k) (get_or c k 0) (on.0.each k h) }, kept_all before after ps cs keeps on.1)
kept_all before after _ _ keeps on = absurd on

-- a page more
pub push_on : (last : ℕ → ℕ → Type 0) (pages : List ℕ) (contents : List (List ℕ)) (page : ℕ) (bytes : List ℕ) → AreOn last pages contents
    → IsOn last page bytes → AreOn last (pages ++ page ∷ []) (contents ++ bytes ∷ [])
push_on last [] [] page bytes on here = (here, tt)
push_on last (p ∷ ps) (c ∷ cs) page bytes on here = (on.0, push_on last ps cs page bytes on.1 here)
push_on last _ _ page bytes on here = absurd on

pub join_push : (contents : List (List ℕ)) (bytes : List ℕ) → join (contents ++ bytes ∷ []) ≡ join contents ++ bytes
join_push contents bytes = sym (flat_map_more (λ bs. bs) [] contents bytes)

-- a full buffer that was written
pub flushed : (before after : ℕ → ℕ → Type 0) (pool : PoolState) (t t' : TapeState) (page : ℕ) → IsApart pool t.pages
    → KeepsPages pool before after → length t.buffer ≡ 8192 → AreLast after (page * 8192) t.buffer → t'.pages ≡ t.pages ++ page ∷ []
    → t'.buffer ≡ [] → (bytes : List ℕ) → HasWritten before t bytes → HasWritten after t' bytes
flushed before after pool t t' page apart keeps full written pages empty bytes had =
    let here : IsOn after page t.buffer = record { len = full; each = λ k h. written k (omega (arith, full, h)) } in
    let on : AreOn after t.pages had.contents = kept_on before after pool t.pages had.contents (λ p h. apart_page pool t.pages p apart h)
    keeps had.on in
    record {
      contents = had.contents ++ t.buffer ∷ [];
      on = subst (λ ps. AreOn after ps (had.contents ++ t.buffer ∷ [])) (sym pages) (push_on after t.pages had.contents page t.buffer on
          here);
      whole = had.whole ∙ sym (ap (λ bs. join (had.contents ++ t.buffer ∷ []) ++ bs) empty
          ∙ append-nil (join (had.contents ++ t.buffer ∷ [])) ∙ join_push had.contents t.buffer);
    }

-- more bytes in the buffer
pub buffered : (last : ℕ → ℕ → Type 0) (t t' : TapeState) (more : List ℕ) → t'.pages ≡ t.pages → t'.buffer ≡ t.buffer ++ more
    → (bytes : List ℕ) → HasWritten last t bytes → HasWritten last t' (bytes ++ more)
buffered last t t' more pages buffer bytes had = grind (arith, nat_tests, common_steps)

-- two parts of what is written
pub written_parts : (last : ℕ → ℕ → Type 0) (t : TapeState) (bytes first second more : List ℕ) → first ++ second ≡ more
    → HasWritten last t ((bytes ++ first) ++ second) → HasWritten last t (bytes ++ more)
written_parts last t bytes first second more is had = subst (λ bs. HasWritten last t bs) (append_assoc bytes first second
    ∙ ap (λ bs. bytes ++ bs) is) had

-- the front of two lists
pub front_of : (xs ys front rest : List ℕ) (n : ℕ) → xs ++ ys ≡ front ++ rest → length front ≡ n → n ≤ length xs → (take n xs ≡ front)
    × (drop n xs ++ ys ≡ rest)
front_of xs ys front rest n same len fits = (
  sym (take-append-le n xs ys fits) ∙ ap (take n) same ∙ take_at front rest n len,
  sym (drop-append-le n xs ys fits) ∙ ap (drop n) same
      ∙ drop_at front rest n len,
)

-- some bytes of the buffer were read
pub spent_from : (last : ℕ → ℕ → Type 0) (t t' : TapeState) (n : ℕ) → t'.pages ≡ t.pages → t'.buffer ≡ t.buffer → t'.read ≡ t.read + n
    → n ≤ length t.buffer - t.read → (front rest : List ℕ) → length front ≡ n → HasAhead last t (front ++ rest)
    → (take n (drop t.read t.buffer) ≡ front) × HasAhead last t' rest
spent_from last t t' n pages buffer read fits front rest len had =
    let room : n ≤ length (drop t.read t.buffer) = omega (arith, length-drop t.read t.buffer, fits) in
    let parts : (take n (drop t.read t.buffer) ≡ front) × (drop n (drop t.read t.buffer) ++ join had.contents ≡ rest) = front_of
    (drop t.read t.buffer) (join had.contents) front rest n (sym had.whole) len room in (
      parts.0,
      record {
        contents = had.contents;
        on = subst (λ ps. AreOn last ps had.contents) (sym pages) had.on;
        whole = sym parts.1 ∙ ap (λ bs. bs ++ join had.contents) (drop-drop n t.read t.buffer ∙ ap (λ m. drop m t.buffer) (sym read)
            ∙ ap (drop t'.read) (sym buffer));
      },
    )

-- a page that was read is what was on it
same_page : (last : ℕ → ℕ → Type 0) (page : ℕ) (bytes content : List ℕ) → length bytes ≡ 8192 → IsOn last page content
    → AreReadAt last (page * 8192) bytes → bytes ≡ content
same_page last page bytes content len on read =
    ext_get_or 0 bytes content (len ∙ sym on.len) (λ k h. read k (get_or content k 0) h (on.each k (omega (arith, h, len))))

loaded_at : (before after : ℕ → ℕ → Type 0) (t t' : TapeState) (page : ℕ) → t.read ≡ length t.buffer → t'.read ≡ 0 → length t'.buffer ≡ 8192
    → AreReadAt before (page * 8192) t'.buffer → Keeps before after → (bytes : List ℕ) (contents : List (List ℕ))
    → AreOn before (page ∷ t'.pages) contents → bytes ≡ drop t.read t.buffer ++ join contents → HasAhead after t' bytes
loaded_at before after t t' page all start len read keeps bytes [] on whole = absurd on
loaded_at before after t t' page all start len read keeps bytes (c ∷ cs) on whole =
    let none : drop t.read t.buffer ≡ [] = drop_all t.read t.buffer (omega (arith, all)) in
    let same : t'.buffer ≡ c = same_page before page t'.buffer c len on.0 read in
    record {
      contents = cs;
      on = kept_all before after t'.pages cs keeps on.1;
      whole = whole ∙ ap (λ bs. bs ++ (c ++ join cs)) none ∙ ap (λ bs. bs ++ join cs) (sym same)
          ∙ ap (λ n. drop n t'.buffer ++ join cs) (sym start);
    }

pub loaded : (before after : ℕ → ℕ → Type 0) (t t' : TapeState) (page : ℕ) → t.pages ≡ page ∷ t'.pages → t.read ≡ length t.buffer → t'.read
    ≡ 0 → length t'.buffer ≡ 8192 → AreReadAt before (page * 8192) t'.buffer → Keeps before after → (bytes : List ℕ)
    → HasAhead before t bytes → HasAhead after t' bytes
loaded before after t t' page pages all start len read keeps bytes had =
    loaded_at before after t t' page all start len read keeps bytes had.contents (subst (λ ps. AreOn before ps had.contents) pages had.on)
    had.whole

-- and the bytes on them are as many as they have room for
pub on_len : (last : ℕ → ℕ → Type 0) (pages : List ℕ) (contents : List (List ℕ)) → AreOn last pages contents → length (join contents) ≡ 8192
    * length pages
on_len last [] [] on = refl
on_len last (p ∷ ps) (c ∷ cs) on = omega (arith, length-append c (join cs), on.0.len, on_len last ps cs on.1)
on_len last _ _ on = absurd on

pub written_len : (last : ℕ → ℕ → Type 0) (t : TapeState) (bytes : List ℕ) → HasWritten last t bytes → length bytes ≡ 8192 * length t.pages
    + length t.buffer
written_len last t bytes had = omega (
  arith,
  ap length had.whole,
  length-append (join had.contents) t.buffer,
  on_len last t.pages
      had.contents had.on,
)

-- tapes with the same pages and the same bytes in the buffer
pub same_written : (last : ℕ → ℕ → Type 0) (t t' : TapeState) → t'.pages ≡ t.pages → t'.buffer ≡ t.buffer → (bytes : List ℕ)
    → HasWritten last t bytes → HasWritten last t' bytes
same_written last t t' pages buffer bytes had = grind (arith, nat_tests, common_steps)

-- a tape of which all is on pages is read from its first byte on
pub rewound : (last : ℕ → ℕ → Type 0) (t t' : TapeState) → t'.pages ≡ t.pages → t.buffer ≡ [] → t'.buffer ≡ [] → (bytes : List ℕ)
    → HasWritten last t bytes → HasAhead last t' bytes
rewound last t t' pages empty empty' bytes had = grind (arith, nat_tests, common_steps)

-- what is left of the buffer was read, and then more
pub filled_on : (first second third : ℕ → ℕ → Type 0) (t t1 t2 t3 : TapeState) (a n : ℕ) (bytes bytes1 bytes3 : List ℕ) → t1 ≡ spent t a
    → bytes1 ≡ bytes ++ take a (drop t.read t.buffer) → a ≤ length t.buffer - t.read → a ≤ n
    → ((bs : List ℕ) → HasAhead first t1 bs → HasAhead second t2 bs)
    → ((front rest : List ℕ) → length front ≡ n - a → HasAhead second t2 (front ++ rest) → (bytes3 ≡ bytes1 ++ front)
    × HasAhead third t3 rest)
    → (front rest : List ℕ) → length front ≡ n → HasAhead first t (front ++ rest) → (bytes3 ≡ bytes ++ front) × HasAhead third t3 rest
filled_on first second third t t1 t2 t3 a n bytes bytes1 bytes3 tape put fits less load fill front rest len had =
    let long : a ≤ length front = omega (arith, len, less) in
    let split : take a front ++ drop a front ≡ front = take-append-drop a front in
    let had1 : HasAhead first t (take a front ++ (drop a front ++ rest)) = subst (λ bs. HasAhead first t bs)
    (ap (λ bs. bs ++ rest) (sym split) ∙ append_assoc (take a front) (drop a front) rest) had in
    let parts : (take a (drop t.read t.buffer) ≡ take a front) × HasAhead first (spent t a) (drop a front ++ rest) = spent_from first t
    (spent t a) a refl refl refl fits (take a front) (drop a front ++ rest) (length-take-le a front long) had1 in
    let had2 : HasAhead first t1 (drop a front ++ rest) = subst (λ (x : TapeState). HasAhead first x (drop a front ++ rest)) (sym tape)
    parts.1 in
    let told : (bytes3 ≡ bytes1 ++ drop a front)
    × HasAhead third t3 rest = fill (drop a front) rest (omega (arith, length-drop a front, len)) (load (drop a front ++ rest) had2) in (
      told.0 ∙ ap (λ bs. bs ++ drop a front) (put ∙ ap (λ bs. bytes ++ bs) parts.0) ∙ append_assoc bytes (take a front) (drop a front)
          ∙ ap (λ bs. bytes ++ bs) split,
      told.1,
    )

pub same_ahead : (last : ℕ → ℕ → Type 0) (t t' : TapeState) → t'.pages ≡ t.pages → t'.buffer ≡ t.buffer → t'.read ≡ t.read
    → (bytes : List ℕ) → HasAhead last t bytes → HasAhead last t' bytes
same_ahead last t t' pages buffer read bytes had = grind (arith, nat_tests, common_steps)
