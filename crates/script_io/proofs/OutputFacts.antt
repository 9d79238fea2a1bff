-- What several writes took, one after the other.
use Rattle.std.proofs.Common.{◌≡◌, ◌+◌, ◌-◌, ◌<◌, ◌≤◌, arith, length, ℕ, List, [], take, drop, Option, refl, sym, ap, subst, ◌∙◌}
use Rattle.std.proofs.lemmas.List.{append-nil, length-drop, take-append-drop, take_all}
use Rattle.std.proofs.Math.Seq.{take-add}
use Rattle.std.specs.Io.KnownBytes.{Appends, Keeps}
use Rattle.std.proofs.KnownBytes.{Appends-kept, Appends-nil, Appends-trans}
use Rattle.script_io.specs.Output.{TakesFront, StopsShort}

-- the front of some bytes, and then nothing more
pub front-kept : (a b c : Option (List ℕ)) (bytes : List ℕ) → TakesFront a b bytes → Keeps b c → TakesFront a c bytes
front-kept a b c bytes p k = (p.0, p.1, p.2, Appends-kept a b c p.0 p.3 k)

-- what stopped short took a front
pub front-short : (a b : Option (List ℕ)) (bytes : List ℕ) → StopsShort a b bytes → TakesFront a b bytes
front-short a b bytes p = (p.0, p.1, p.2, p.4)

-- n bytes of more than n went out, and then nothing
pub short-at : (a b c : Option (List ℕ)) (n : ℕ) (bytes : List ℕ) → n < length bytes → Appends a b (take n bytes) → Keeps b c
    → StopsShort a c bytes
short-at a b c n bytes h p k =
    let left : 0 < length (drop n bytes) = omega (arith, length-drop n bytes) in
    (take n bytes, drop n bytes, sym (take-append-drop n bytes), left, Appends-kept a b c _ p k)

-- the rest of some bytes, as a range of them
rest-range : (n : ℕ) (bytes : List ℕ) → take (length bytes - n) (drop n bytes) ≡ drop n bytes
rest-range n bytes = take_all (length bytes - n) (drop n bytes) (subst (λ k. k ≤ length bytes - n) (sym (length-drop n bytes))
    (omega arith))

-- n bytes went out, and then m of the rest
pub wrote-more : (a b c : Option (List ℕ)) (n m : ℕ) (bytes : List ℕ) → Appends a b (take n bytes)
    → Appends b c (take m (take (length bytes - n) (drop n bytes))) → Appends a c (take (n + m) bytes)
wrote-more a b c n m bytes p q =
    let more : Appends b c (take m (drop n bytes)) = subst (λ l. Appends b c (take m l)) (rest-range n bytes) q in
    subst (Appends a c) (sym (take-add n m bytes)) (Appends-trans a b c _ _ p more)

-- m of the rest after n bytes are within all of them
pub within-more : (n m : ℕ) (bytes : List ℕ) → n ≤ length bytes → m ≤ length (take (length bytes - n) (drop n bytes)) → n + m ≤ length bytes
within-more n m bytes p q =
    let e : length (take (length bytes - n) (drop n bytes)) ≡ length bytes - n = ap length (rest-range n bytes) ∙ length-drop n bytes in
    let h : m ≤ length bytes - n = subst (λ k. m ≤ k) e q in
    omega arith

-- none of some bytes is a front of them
pub front-none : (a b : Option (List ℕ)) (bytes : List ℕ) → Keeps a b → TakesFront a b bytes
front-none a b bytes k = ([], bytes, refl, Appends-kept a a b [] (Appends-nil a) k)

-- all of some bytes are a front of them
pub front-all : (a b : Option (List ℕ)) (bytes : List ℕ) → Appends a b bytes → TakesFront a b bytes
front-all a b bytes p = (bytes, [], sym (append-nil bytes), p)
