-- Laws: what a reader of known bytes had; nothing here is a definition.
use Rattle.std.proofs.Common.{◌≡◌, ◌∙◌, ◌+◌, ◌<◌, ℕ, List, ◌++◌, length, Option, Some, None, IfSome, ap, length-append, append-nil, subst}
use Rattle.std.proofs.Common.{sym, add-one}
use Rattle.std.specs.Io.KnownBytes.{Consumes, IsAtEnd}
use Rattle.std.proofs.Math.Nat.{le_trans, le_of_eq, le-add_right}

-- a reader that is at its end gave all that it had
pub consumes-all : (old new : Option (List ℕ)) (text : List ℕ) → Consumes old new text → IsAtEnd new → IfSome old (λ all. all ≡ text)
consumes-all None new text p q = tt
consumes-all (Some x) None text p q = absurd p
consumes-all (Some x) (Some y) text p q = p ∙ ap (λ l. text ++ l) q ∙ append-nil text

-- a reader that gave more than a limit had more
pub consumes-longer : (old new : Option (List ℕ)) (bytes : List ℕ) (most : ℕ) → Consumes old new bytes → length bytes ≡ most + 1
    → IfSome old (λ all. most < length all)
consumes-longer None new bytes most p h = tt
consumes-longer (Some x) None bytes most p h = absurd p
consumes-longer (Some x) (Some y) bytes most p h =
    subst (λ n. most < n) (sym (ap length p ∙ length-append bytes y))
    (le_trans (le_of_eq (sym (add-one most) ∙ sym h)) (le-add_right (length bytes) (length y)))
