use Rattle.std.specs.Prelude.{◌≡◌, ◌≢◌, ℕ, ◌<◌, nat_lt, List, slice_index}
use Rattle.std.proofs.Common.{sym, ◌∙◌, ap, subst, arith, inl, inr}
use Rattle.std.proofs.lemmas.Bool.{cases_lt, lt-ltb, le-ltb}
use Rattle.std.specs.declared.cmp.Ordering.TheVariants.{Greater}
use Rattle.std.specs.Ordering.{is_lt, nat_cmp, ordering_reverse}
use Rattle.std.specs.Cmp.Lexicographic.{slice_cmp}
use Rattle.byteorder.specs.Endian.{big_from}
use Rattle.group_runs.specs.PlaceLaws.{key_total, smaller_first}
use Rattle.group_runs.proofs.seeking.is_below.Goals as goal

-- one whose first bytes are a greater number comes behind
greater_first : (n : ℕ) (xs ys : List ℕ) → ((i : ℕ) → slice_index xs i < 256) → ((i : ℕ) → slice_index ys i < 256)
    → big_from 0 n ys < big_from 0 n xs → slice_cmp nat_cmp xs ys ≡ Greater
greater_first n xs ys fits_x fits_y low = key_total.antisymm xs ys ∙ ap ordering_reverse (smaller_first n ys xs fits_y fits_x low)

-- where these numbers differ, they tell which key comes first
told_by_first : (n : ℕ) (xs ys : List ℕ) → ((i : ℕ) → slice_index xs i < 256) → ((i : ℕ) → slice_index ys i < 256)
    → big_from 0 n xs ≢ big_from 0 n ys → nat_lt (big_from 0 n xs) (big_from 0 n ys) ≡ is_lt (slice_cmp nat_cmp xs ys)
told_by_first n xs ys fits_x fits_y apart =
    elim (cases_lt (big_from 0 n xs) (big_from 0 n ys)) [
      | inl lt ↦ lt-ltb (big_from 0 n xs) (big_from 0 n ys) lt ∙ sym (ap is_lt (smaller_first n xs ys fits_x fits_y lt))
      | inr le ↦ le-ltb (big_from 0 n xs) (big_from 0 n ys) le
          ∙ sym (ap is_lt (greater_first n xs ys fits_x fits_y (omega (arith, le, apart))))
    ]

pub returns-then-first-second : goal.returns-then-first-second
returns-then-first-second c =
    let key = c.abbreviated_key-first.ensures in
    let other = c.abbreviated_key-second.ensures in
    let number : c.abbreviated_key-first.result ≡ big_from 0 8 c.args.key.now = key.number in
    let second : c.abbreviated_key-second.result ≡ big_from 0 8 c.args.other.now = other.number in
    let differ = c.if-first-second.true in
    let apart : big_from 0 8 c.args.key.now ≢ big_from 0 8 c.args.other.now = omega (arith, number, second, differ) in
    subst (λ n. nat_lt n c.abbreviated_key-second.result ≡ is_lt (slice_cmp nat_cmp c.args.key.now c.args.other.now)) (sym number)
    (subst (λ n. nat_lt (big_from 0 8 c.args.key.now) n ≡ is_lt (slice_cmp nat_cmp c.args.key.now c.args.other.now)) (sym second)
    (told_by_first 8 c.args.key.now c.args.other.now key.bytes other.bytes apart))
