-- The length of one thing after another.
use Rattle.std.specs.Prelude.{◌≡◌, ℕ, ◌+◌, ◌^◌, ◌-◌, ◌≤◌, List, [], ◌∷◌, ◌++◌, length, flat_map, min}
use Rattle.std.proofs.Common.{ap, subst, arith}
use Rattle.std.proofs.lemmas.List.{length-append}
use Rattle.std.specs.Int.{bytes_high_first}
use Rattle.byteorder.specs.Numbers.{length-bytes_high_first}
use Rattle.packed_rows.specs.Columns.{printed}
use Rattle.having_filter.specs.Kept.{by_names}
use Rattle.query_checks.specs.Checks.{Checked}
use Rattle.query_checks.specs.Spelling.{spelling}
use Rattle.group_runs.specs.Runs.{Entry}
use Rattle.origin_prefix.specs.Parts.{Part}
use Rattle.origin_prefix.specs.Held.{Parts}
use Rattle.summary_codec.specs.File.{batch_bytes, file_bytes, group_bytes, part_bytes, sized_bytes}
use Rattle.summary_codec.specs.Lengths.{IsLength}
use Rattle.summary_codec.specs.Versions.{opening}
use Rattle.summary_codec.specs.declared.version.Version.TheVariants.{Second}

-- ---- how long each thing is

pub sized_long : (bytes : List ℕ) → length (sized_bytes bytes) ≡ 2 + length bytes
sized_long bytes =
    let first = length-bytes_high_first 2 (length bytes) in
    let both = length-append (bytes_high_first 2 (length bytes)) bytes in
    omega (arith, first, both)

pub group_long : (entry : Entry) → length (group_bytes entry) ≡ 2 + length entry.0 + length entry.1
group_long entry =
    let key = sized_long entry.0 in
    let both = length-append (sized_bytes entry.0) entry.1 in
    omega (arith, key, both)

pub batch_long : (batch : ℕ × List (List ℕ)) → length (batch_bytes batch) ≡ 8 + length (flat_map sized_bytes batch.1)
batch_long batch =
    let number : List ℕ = bytes_high_first 4 batch.0 in
    let count : List ℕ = bytes_high_first 4 (length batch.1) in
    let first = length-bytes_high_first 4 batch.0 in
    let second = length-bytes_high_first 4 (length batch.1) in
    let both = length-append number count in
    let all = length-append (number ++ count) (flat_map sized_bytes batch.1) in
    omega (arith, first, second, both, all)

pub part_long : (held : ℕ × Part) → length (part_bytes held)
    ≡ 18 + length (flat_map group_bytes held.1.run) + length (flat_map batch_bytes held.1.early)
unfolding part_bytes
part_long held =
    let origin : List ℕ = bytes_high_first 2 held.0 in
    let prefix : List ℕ = bytes_high_first 4 held.1.prefix in
    let groups : List ℕ = bytes_high_first 8 (length held.1.run) in
    let run : List ℕ = flat_map group_bytes held.1.run in
    let batches : List ℕ = bytes_high_first 4 (length held.1.early) in
    let early : List ℕ = flat_map batch_bytes held.1.early in
    let n1 = length-bytes_high_first 2 held.0 in
    let n2 = length-bytes_high_first 4 held.1.prefix in
    let n3 = length-bytes_high_first 8 (length held.1.run) in
    let n4 = length-bytes_high_first 4 (length held.1.early) in
    let a = length-append origin prefix in
    let b = length-append (origin ++ prefix) groups in
    let c = length-append (origin ++ prefix ++ groups) run in
    let d = length-append (origin ++ prefix ++ groups ++ run) batches in
    let e = length-append (origin ++ prefix ++ groups ++ run ++ batches) early in
    omega (arith, n1, n2, n3, n4, a, b, c, d, e)

pub file_long : (query : Checked) (parts : Parts) → length (file_bytes query parts)
    ≡ 14 + length (printed query.columns) + length (spelling (by_names query)) + length (flat_map part_bytes parts)
file_long query parts =
    let columns : List ℕ = sized_bytes (printed query.columns) in
    let text : List ℕ = sized_bytes (spelling (by_names query)) in
    let count : List ℕ = bytes_high_first 2 (length parts) in
    let held : List ℕ = flat_map part_bytes parts in
    let n1 = sized_long (printed query.columns) in
    let n2 = sized_long (spelling (by_names query)) in
    let n3 = length-bytes_high_first 2 (length parts) in
    let a = length-append columns text in
    let b = length-append (columns ++ text) count in
    let c = length-append (columns ++ text ++ count) held in
    let d = length-append (opening Second) (columns ++ text ++ count ++ held) in
    omega (arith, n1, n2, n3, a, b, c, d)

-- ---- counting

-- so many bytes were counted, and those of things that are left are not yet
pub record CountedSo {X : Type 0} (f : X → List ℕ) (len : ℕ) (left : List X) (all : List ℕ) : Type 0 where
  pub so_far : min (len + length (flat_map f left)) (2 ^ 64 - 1) ≡ min (length all) (2 ^ 64 - 1)
  pub within : len ≤ 2 ^ 64 - 1

pub counted_none : {X : Type 0} (f : X → List ℕ) (left : List X) (all : List ℕ) → flat_map f left ≡ all → CountedSo f 0 left all
counted_none f left all same = let long = ap length same in record { so_far = omega (arith, long); within = omega arith }

pub counted_more : {X : Type 0} (f : X → List ℕ) (left rest : List X) (x : X) (len new : ℕ) (all : List ℕ) → left ≡ x ∷ rest
    → new ≡ min (len + length (f x)) (2 ^ 64 - 1) → CountedSo f len left all → CountedSo f new rest all
counted_more f left rest x len new all next more before =
    let here = (subst (λ those. CountedSo f len those all) next before).so_far in
    let both = length-append (f x) (flat_map f rest) in
    record { so_far = omega (arith, here, both, more); within = omega (arith, more) }

-- one early batch more, and what is held of one origin more
pub more_batches : (left rest : List (ℕ × List (List ℕ))) (batch : ℕ × List (List ℕ)) (len longer inner new : ℕ) (all : List ℕ)
    → left ≡ batch ∷ rest → longer ≡ min (len + 8) (2 ^ 64 - 1) → IsLength (flat_map sized_bytes batch.1) inner
    → new ≡ min (longer + inner) (2 ^ 64 - 1) → CountedSo batch_bytes len left all → CountedSo batch_bytes new rest all
more_batches left rest batch len longer inner new all next more rows both before =
    let long = batch_long batch in
    counted_more batch_bytes left rest batch len new all next (omega (arith, long, more, rows, both)) before

pub more_parts : (left rest : Parts) (held : ℕ × Part) (len inner new : ℕ) (all : List ℕ) → left ≡ held ∷ rest
    → IsLength (part_bytes held) inner → new ≡ min (len + inner) (2 ^ 64 - 1) → CountedSo part_bytes len left all
    → CountedSo part_bytes new rest all
more_parts left rest held len inner new all next part both before =
    counted_more part_bytes left rest held len new all next (omega (arith, part, both)) before

pub counted_all : {X : Type 0} (f : X → List ℕ) (left : List X) (len : ℕ) (all : List ℕ) → left ≡ [] → CountedSo f len left all
    → IsLength all len
counted_all f left len all none before =
    let here = (subst (λ those. CountedSo f len those all) none before).so_far in
    let within = before.within in
    omega (arith, here, within)
