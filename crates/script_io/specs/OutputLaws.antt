-- Laws: what several writes took, one after the other; nothing here is a definition.
use Rattle.std.proofs.Common.{ℕ, Bool, false, ◌<◌, List, ◌++◌, length, Option, sym, ap, subst, ◌∙◌, append_assoc, length-append}
use Rattle.std.proofs.Math.Nat.{le_trans, le-add_right}
use Rattle.std.specs.Io.KnownBytes.{Appends}
use Rattle.std.proofs.KnownBytes.{Appends-trans}
use Rattle.script_io.specs.declared.fused.Fused.{Fused}
use Rattle.script_io.specs.Fused.{FailsAsTold}
use Rattle.script_io.specs.Output.{TakesFront, StopsShort}

-- a prefix of the first bytes is a prefix of both
pub front-first : (a b : Option (List ℕ)) (xs ys : List ℕ) → TakesFront a b xs → TakesFront a b (xs ++ ys)
front-first a b xs ys p = (p.0, p.1 ++ ys, ap (λ l. l ++ ys) p.2 ∙ append_assoc p.0 p.1 ys, p.3)

-- the first bytes and a prefix of the second are a prefix of both
pub front-second : (a b c : Option (List ℕ)) (xs ys : List ℕ) → Appends a b xs → TakesFront b c ys → TakesFront a c (xs ++ ys)
front-second a b c xs ys p q = (xs ++ q.0, q.1, ap (λ l. xs ++ l) q.2 ∙ sym (append_assoc xs q.0 q.1), Appends-trans a b c _ _ p q.3)

-- the same where a writer stopped short: of the first bytes, or of the second
pub short-first : (a b : Option (List ℕ)) (xs ys : List ℕ) → StopsShort a b xs → StopsShort a b (xs ++ ys)
short-first a b xs ys p = (
  p.0,
  p.1 ++ ys,
  ap (λ l. l ++ ys) p.2 ∙ append_assoc p.0 p.1 ys,
  subst (λ n. 0 < n) (sym (length-append p.1 ys))
      (le_trans p.3 (le-add_right (length p.1) (length ys))),
  p.4,
)

pub short-second : (a b c : Option (List ℕ)) (xs ys : List ℕ) → Appends a b xs → StopsShort b c ys → StopsShort a c (xs ++ ys)
short-second a b c xs ys p q = (xs ++ q.0, q.1, ap (λ l. xs ++ l) q.2 ∙ sym (append_assoc xs q.0 q.1), q.3, Appends-trans a b c _ _ p q.4)

-- two writes in turn, of which the first did not fail
pub fails-second : {W : Type 0} (a b c : Fused W) (told : Bool) → FailsAsTold a b false → FailsAsTold b c told → FailsAsTold a c told
fails-second a b c told first second sound = second (sym (first sound))
