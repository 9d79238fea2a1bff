-- Two pieces that a writer took in turn.
use Rattle.std.specs.Prelude.{ℕ, true, false, List, ◌++◌, Option, Result, Ok, Err}
use Rattle.std.specs.Io.KnownBytes.{Appends}
use Rattle.std.specs.Result.{IsErr}
use Rattle.std.proofs.lemmas.Bool.{false≢true}
use Rattle.std.proofs.KnownBytes.{Appends-trans}
use Rattle.script_io.specs.declared.fused.Fused.{Fused}
use Rattle.script_io.specs.Fused.{FailsAsTold, written}
use Rattle.script_io.specs.Output.{IsPut, StopsShort}
use Rattle.script_io.specs.OutputLaws.{fails-second, short-first, short-second}

-- the first of two pieces was not written whole, which is passed on
pub stopped_first : {W T E : Type 0} (contents : W → Option (List ℕ)) (old new : Fused W) (xs ys : List ℕ) (result : Result T E)
    → IsErr result
    → StopsShort (written contents old) (written contents new) xs → FailsAsTold old new true → IsPut contents old new result (xs ++ ys)
stopped_first contents old new xs ys (Ok x) failed short fails = absurd (false≢true failed)
stopped_first contents old new xs ys (Err e) failed short fails = (short-first _ _ xs ys short, fails)

-- the second of two pieces, after the first
pub wrote_second : {W T E : Type 0} (contents : W → Option (List ℕ)) (old mid new : Fused W) (xs ys : List ℕ) (result : Result T E)
    → Appends (written contents old) (written contents mid) xs → FailsAsTold old mid false → IsPut contents mid new result ys
    → IsPut contents old new result (xs ++ ys)
wrote_second contents old mid new xs ys (Ok x) first sound put = (
  Appends-trans _ _ _ xs ys first put.0,
  fails-second old mid new false
      sound put.1,
)
wrote_second contents old mid new xs ys (Err e) first sound put = (
  short-second _ _ _ xs ys first put.0,
  fails-second old mid new true sound
      put.1,
)
