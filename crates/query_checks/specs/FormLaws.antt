-- Laws of conditions over other columns, and of their values; what is defined here, laws alone say.
use Rattle.std.proofs.Common.{◌≡◌, ◌&&◌, option_map, Bool, true, Option, Some, None, refl, ap, sym, ◌∙◌}
use Rattle.std.specs.Option.{option_map_or}
use Rattle.std.proofs.lemmas.Bool.{and_parts}
use Rattle.query_checks.specs.Forms.{Form, Column, Call, Call_where, Literal, Unary, Binary, exchanged, map_reads, map_call, map_form}
use Rattle.query_checks.specs.Reads.{columns_pass}

-- the same columns, changed by nothing
column_unchanged : {C : Type 0} (column : Option C) → option_map (λ c. c) column ≡ column
column_unchanged None = refl
column_unchanged (Some c) = refl

pub unchanged : {C : Type 0} (x : Form C) → map_reads (λ c. c) (λ call. None) x ≡ x
unchanged (Column c) = refl
unchanged (Call function column) = ap (Call function) (column_unchanged column)
unchanged (Call_where function column filter) = λ i. Call_where function (column_unchanged column i) (unchanged filter i)
unchanged (Literal x) = refl
unchanged (Unary operator x) = ap (Unary operator) (unchanged x)
unchanged (Binary operator x y) = λ i. Binary operator (unchanged x i) (unchanged y i)

-- a call that becomes no column is read as a call
pub call_stays : {C D : Type 0} (column : C → D) (call : Form C → Option D) (x : Form C) → call x ≡ None → map_call column call x
    ≡ map_reads column call x
call_stays column call (Call f c) none = ap (λ becomes. exchanged becomes (Call f (option_map column c))) (sym none)
call_stays column call (Call_where f c x) none = ap
    (λ becomes. exchanged becomes (Call_where f (option_map column c) (map_reads column call x))) (sym none)
call_stays column call (Column c) none = refl
call_stays column call (Literal x) none = refl
call_stays column call (Unary operator x) none = refl
call_stays column call (Binary operator x y) none = refl

pub call_unchanged : {C : Type 0} (x : Form C) → map_call (λ c. c) (λ call. None) x ≡ x
call_unchanged x = call_stays (λ c. c) (λ call. None) x refl ∙ unchanged x

-- whether the changed columns pass a test
column_passes : {B C : Type 0} (P : C → Bool) (f : B → C) (column : Option B) → option_map_or P (option_map f column) true
    ≡ option_map_or (λ c. P (f c)) column true
column_passes P f None = refl
column_passes P f (Some c) = refl

pub columns_mapped : {B C : Type 0} (P : C → Bool) (f : B → C) (x : Form B) → columns_pass P (map_form f x) ≡ columns_pass (λ c. P (f c)) x
columns_mapped P f (Column c) = refl
columns_mapped P f (Call function column) = column_passes P f column
columns_mapped P f (Call_where function column filter) = λ i. column_passes P f column i && columns_mapped P f filter i
columns_mapped P f (Literal x) = refl
columns_mapped P f (Unary operator x) = columns_mapped P f x
columns_mapped P f (Binary operator x y) = λ i. columns_mapped P f x i && columns_mapped P f y i

-- a change that is taken back for columns that pass a test
pub record TakenBack {C D : Type 0} (P : C → Bool) (f : C → D) (g : D → C) : Type 0 where
  pub back : (c : C) → P c ≡ true → g (f c) ≡ c

column_back : {C D : Type 0} (P : C → Bool) (f : C → D) (g : D → C) → TakenBack P f g → (column : Option C) → option_map_or P column true
    ≡ true → option_map g (option_map f column) ≡ column
column_back P f g taken None p = refl
column_back P f g taken (Some c) p = ap (λ d. Some d) (taken.back c p)

pub form_back : {C D : Type 0} (P : C → Bool) (f : C → D) (g : D → C) → TakenBack P f g → (x : Form C) → columns_pass P x ≡ true
    → map_form g (map_form f x) ≡ x
form_back P f g taken (Column c) p = ap (λ d. Column d) (taken.back c p)
form_back P f g taken (Call function column) p = ap (Call function) (column_back P f g taken column p)
form_back P f g taken (Call_where function column filter) p =
    let ps = and_parts (option_map_or P column true) (columns_pass P filter) p in
    λ i. Call_where function (column_back P f g taken column ps.0 i) (form_back P f g taken filter ps.1 i)
form_back P f g taken (Literal x) p = refl
form_back P f g taken (Unary operator x) p = ap (Unary operator) (form_back P f g taken x p)
form_back P f g taken (Binary operator x y) p =
    let ps = and_parts (columns_pass P x) (columns_pass P y) p in
    λ i. Binary operator (form_back P f g taken x ps.0 i) (form_back P f g taken y ps.1 i)
