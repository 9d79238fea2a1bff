-- The head of a batch file, and the records after it.
use Rattle.std.proofs.Common.{◌≡◌, ◌≢◌, ℕ, List, [], ◌∷◌, length, get_or, take, drop, Option, Some, None, is_some, true, MatchOption}
use Rattle.std.proofs.Common.{option_map, refl, sym, ap, subst, arith, ◌∙◌}
use Rattle.std.proofs.lemmas.List.{length-drop, take_all}
use Rattle.std.proofs.lemmas.Bool.{false≢true}
use Rattle.csv.specs.Records.{fields_of}
use Rattle.csv.specs.declared.record.ByteRecord.{ByteRecord}
use Rattle.script_io.specs.Records.{Record}
use Rattle.grouping_model.specs.Datum.{Kind}
use Rattle.batch_reader.specs.File.{BatchFile, FileFault, FileHead, batch_file, file_head, told_by}
use Rattle.batch_reader.specs.Refusal.{BuildFault, HeadFault, HeadReads}
use Rattle.batch_reader.specs.declared.error.BatchError.{BatchError}
use Rattle.batch_reader.specs.declared.error.BatchError.TheVariants.{NoMemory, BadBatchHead, TooManyRows}

pub head_of_four : (fields : Record) → length fields ≡ 4
    → file_head fields ≡ told_by (get_or fields 0 []) (get_or fields 1 []) (get_or fields 2 []) (get_or fields 3 [])
unfolding file_head
head_of_four [] h = absurd (omega arith)
head_of_four (a ∷ []) h = absurd (omega arith)
head_of_four (a ∷ b ∷ []) h = absurd (omega arith)
head_of_four (a ∷ b ∷ c ∷ []) h = absurd (omega arith)
head_of_four (a ∷ b ∷ c ∷ d ∷ []) h = refl
head_of_four (a ∷ b ∷ c ∷ d ∷ e ∷ rest) h = absurd (omega arith)

pub head_of_other : (fields : Record) → length fields ≢ 4 → file_head fields ≡ None
unfolding file_head
head_of_other [] h = refl
head_of_other (a ∷ []) h = refl
head_of_other (a ∷ b ∷ []) h = refl
head_of_other (a ∷ b ∷ c ∷ []) h = refl
head_of_other (a ∷ b ∷ c ∷ d ∷ []) h = absurd (h refl)
head_of_other (a ∷ b ∷ c ∷ d ∷ e ∷ rest) h = refl

-- a record is there after as many as were taken
too_many : (records rest : List Record) (told : ℕ) (next : Record) → drop told records ≡ next ∷ rest → length records ≢ told
too_many records rest told next h e = let left = length-drop told records in omega (arith, ap length h)

pub one_more : (records left rest : List Record) (told : ℕ) (found : Option ByteRecord) → is_some found ≡ true → left ≡ drop told records
    → MatchOption found ((left ≡ []) × (rest ≡ [])) (λ row. left ≡ fields_of row ∷ rest) → length records ≢ told
one_more records left rest told None some is next = absurd (false≢true some)
one_more records left rest told (Some row) some is next = too_many records rest told (fields_of row) (sym is ∙ next)

-- no record is there after as many as were taken
pub all_taken : (records : List Record) (told : ℕ) → drop told records ≡ [] → take told records ≡ records
all_taken records told h =
    let left = length-drop told records in
    take_all told records (omega (arith, left, ap length h))

-- what a file tells, of which the first record is a head
pub file_of : (records rest : List Record) (first : Record) (head : FileHead) → records ≡ first ∷ rest → Some head ≡ file_head first
    → batch_file records ≡ Some (record { head = head; records = rest })
file_of records rest first head is tells = ap batch_file is ∙ ap (option_map (λ h. record { head = h; records = rest })) (sym tells)

-- ---- why a file is refused

pub no_records : (kinds : List Kind) (records : List Record) → records ≡ [] → FileFault kinds (batch_file records) BadBatchHead
no_records kinds records none = subst (λ (read : List Record). FileFault kinds (batch_file read) BadBatchHead) (sym none) tt

pub no_head : (kinds : List Kind) (records rest : List Record) (first : Record) → records ≡ first ∷ rest → None ≡ file_head first
    → FileFault kinds (batch_file records) BadBatchHead
no_head kinds records rest first is none = subst (λ (file : Option BatchFile). FileFault kinds file BadBatchHead)
    (sym (ap batch_file is ∙ ap (option_map (λ h. record { head = h; records = rest })) (sym none))) tt

of_head : (kinds : List Kind) (file : BatchFile) (error : BatchError) → HeadFault file.head.origin file.head.number file.head.told error
    → FileFault kinds (Some file) error
of_head kinds file NoMemory fault = tt
of_head kinds file BadBatchHead fault = fault
of_head kinds file TooManyRows fault = fault
of_head kinds file error fault = absurd fault

pub head_refused : (kinds : List Kind) (read : Option BatchFile) (file : BatchFile) (error : BatchError) → read ≡ Some file
    → HeadFault file.head.origin file.head.number file.head.told error → FileFault kinds read error
head_refused kinds read file error is fault = subst (λ (read : Option BatchFile). FileFault kinds read error) (sym is)
    (of_head kinds file error fault)

of_rows : (kinds : List Kind) (file : BatchFile) (error : BatchError) → BuildFault kinds file.head.origin file.head.number file.head.told
    file.records error → FileFault kinds (Some file) error
of_rows kinds file NoMemory fault = tt
of_rows kinds file error fault = fault

pub rows_refused : (kinds : List Kind) (read : Option BatchFile) (file : BatchFile) (error : BatchError) → read ≡ Some file
    → HeadReads file.head.origin file.head.number
    → ((origin number : List ℕ) → HeadReads origin number → BuildFault kinds origin number file.head.told file.records error)
    → FileFault kinds read error
rows_refused kinds read file error is reads fault = subst (λ (read : Option BatchFile). FileFault kinds read error) (sym is)
    (of_rows kinds file error (fault file.head.origin file.head.number reads))
