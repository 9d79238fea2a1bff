use Rattle.std.proofs.Common.{◌≡◌, ℕ, ◌+◌, ◌-◌, ◌≤◌, List, ◌++◌, rules, length, take, sym, ap, ◌∙◌, subst, length-take-le}
use Rattle.std.proofs.lemmas.List.{take-append-le}
use Rattle.std.proofs.Math.Seq.{take-append-add}
use Rattle.std.specs.Io.KnownBytes.{Consumes}
use Rattle.std.proofs.KnownBytes.{Consumes-trans}
use borrow.Rule.Slice.PartMut.{put_mid, post_of}
use Rattle.out_files.proofs.reading.front_from.Goals as goal

-- the first bytes of a piece, behind those before it
take-piece : (a k n : ℕ) (xs ys : List ℕ) → a ≤ length xs → n ≤ length ys → take (a + n) (put_mid a k xs ys) ≡ take a xs ++ take n ys
take-piece a k n xs ys within fits =
    ap (λ m. take (m + n) (put_mid a k xs ys)) (sym (length-take-le a xs within))
    ∙ take-append-add (take a xs) (ys ++ post_of a k xs) n ∙ ap (λ l. take a xs ++ l) (take-append-le n ys (post_of a k xs) fits)

pub loop-count-preserved : goal.loop-count-preserved
loop-count-preserved g c =
    let from = c.loop-count.count in
    let within = c.loop-count.invariant.within in
    let piece = take-piece from (length c.loop-count.front - from) c.in_ok-more.more c.loop-count.front c.read.new.buf within
    c.in_ok-more.ensures.bound.0 in
    record {
      within = search rules;
      read = subst (Consumes _ _) (sym piece) (Consumes-trans _ _ _ _ _ c.loop-count.invariant.read c.in_ok-more.ensures.bytes.0);
    }
