-- Options that are empty, and what is known of a result.
use Rattle.std.specs.Prelude.{◌≡◌, refl, false, T, Option, Some, None, is_some, Result, Ok, Err, IfOk, OnOk, OnErr}
use Rattle.std.proofs.Common.{subst}

-- an option that has nothing
pub none_there : {X : Type 0} (o : Option X) → is_some o ≡ false → o ≡ None
none_there None e = refl
none_there (Some x) e = absurd (subst T e tt)

-- what holds in any case holds at an error
pub always_err : {X E P : Type 0} (r : Result X E) → P → OnErr r P
always_err (Ok x) p = tt
always_err (Err e) p = p

-- two facts of a success, and what they imply together
pub ok_both : {X E P Q R : Type 0} (r : Result X E) → (P → Q → R) → OnOk r P → OnOk r Q → OnOk r R
ok_both (Ok x) gives p q = gives p q
ok_both (Err e) gives p q = tt

-- the same where one of them is about what was made
pub if_ok_both : {X E Q : Type 0} {P R : X → Type 0} (r : Result X E) → ((x : X) → P x → Q → R x) → IfOk r P → OnOk r Q → IfOk r R
if_ok_both (Ok x) gives p q = gives x p q
if_ok_both (Err e) gives p q = tt
