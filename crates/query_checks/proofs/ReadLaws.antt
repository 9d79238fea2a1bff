-- Laws of what conditions read.
use Rattle.std.proofs.Common.{◌≡◌, ℕ, Bool, true, false, List, [], ◌∷◌, filter, Option, Some, None, refl}
use Rattle.std.specs.Prelude.{not}
use Rattle.std.specs.List.{list_all}
use Rattle.grouping_model.specs.Aggregates.{Function}
use Rattle.query_checks.specs.declared.condition.Cond.{Cond, back-AggCall-filter}
use Rattle.query_checks.specs.Forms.{Form, Column, Call, with_filter}
use Rattle.query_checks.specs.Reads.{reads, is_call, is_key, is_grouped_by, calls_in, column_read}

-- a call in a condition is that call alone
one_passes : {A : Type 0} (P : A → Bool) (x : A) (passes : Bool) → P x ≡ passes → list_all P (x ∷ []) ≡ P x
one_passes P x true e = rw e refl
one_passes P x false e = rw e refl

pub reads_column : {C : Type 0} (P : Form C → Bool) (column : C) → list_all P (reads (Column column)) ≡ P (Column column)
reads_column P column = one_passes P (Column column) (P (Column column)) refl

pub reads_call : {C : Type 0} (P : Form C → Bool) (function : Function) (column : Option C) (filter : Option (Cond C))
    → list_all P (reads (with_filter function column (back-AggCall-filter C filter)))
    ≡ P (with_filter function column (back-AggCall-filter C filter))
reads_call P function column None = one_passes P (Call function column) (P (Call function column)) refl
reads_call {C} P function column (Some filter) = let call : Form C = with_filter function column (back-AggCall-filter C (Some filter)) in
    one_passes P call (P call) refl

pub call_is_call : {C : Type 0} (function : Function) (column : Option C) (filter : Option (Cond C))
    → not (is_call (with_filter function column (back-AggCall-filter C filter))) ≡ false
call_is_call function column None = refl
call_is_call function column (Some filter) = refl

pub call_is_no_key : (keys : List ℕ) (function : Function) (column : Option ℕ) (filter : Option (Cond ℕ))
    → is_key keys (with_filter function column (back-AggCall-filter ℕ filter)) ≡ true
call_is_no_key keys function column None = refl
call_is_no_key keys function column (Some filter) = refl

pub call_is_grouped : (keys : List ℕ) (function : Function) (column : Option ℕ) (filter : Option (Cond ℕ))
    → is_grouped_by keys (with_filter function column (back-AggCall-filter ℕ filter)) ≡ true
call_is_grouped keys function column None = refl
call_is_grouped keys function column (Some filter) = refl

pub calls_in_call : {C : Type 0} (function : Function) (column : Option C) (filter : Option (Cond C))
    → calls_in (with_filter function column (back-AggCall-filter C filter)) ≡ with_filter function column (back-AggCall-filter C filter)
    ∷ []
calls_in_call function column None = refl
calls_in_call function column (Some filter) = refl

pub column_of_call : {C : Type 0} (function : Function) (column : Option C) (filter : Option (Cond C))
    → column_read (with_filter function column (back-AggCall-filter C filter)) ≡ column
column_of_call function column None = refl
column_of_call function column (Some filter) = refl
