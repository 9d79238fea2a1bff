-- What holds in any case holds of a call that succeeded.
use Rattle.std.specs.Prelude.{Result, Ok, Err, OnOk}

-- what holds in any case
pub on_ok : {T E : Type 0} (result : Result T E) (P : Type 0) → P → OnOk result P
on_ok (Ok x) P p = p
on_ok (Err e) P p = tt
