-- What a query that passed all checks has.
use Rattle.std.proofs.Common.{◌≡◌, ℕ, Bool, true, false, List, Ok, refl, sym, ◌∙◌}
use Rattle.std.specs.Prelude.{◌&&◌}
use Rattle.std.proofs.lemmas.Bool.{and_parts}
use Rattle.packed_rows.specs.Columns.{Column, kinds}
use Rattle.query_checks.specs.Forms.{Written}
use Rattle.query_checks.specs.Order.{Asked, names_items, is_ambiguously_ordered}
unfoldable use Rattle.query_checks.specs.Arrangement.{checked_arrangement}
use Rattle.query_checks.specs.Arrangement.{arrangement_of}
use Rattle.query_checks.specs.Reads.{filters_pass}
use Rattle.query_checks.specs.Checks.{Checked, all_of, has_too_many, is_shallow, are_shallow, has_columns, placed, are_plain, kinds_fit}
use Rattle.query_checks.specs.Checks.{is_grouped, checked_places, with_arrangement, checked, PassesFirst}
use Rattle.query_checks.specs.CheckedLaws.{reaches_places, gives_too_many, gives_too_deep, gives_no_column}
use Rattle.having_filter.specs.Kept.{by_names}

-- it passes the first checks
few_of : (columns : List Column) (w : Asked) (q : Checked) (b : Bool) → has_too_many w ≡ b → checked columns w ≡ Ok q → has_too_many w
    ≡ false
few_of columns w q false e passed = e
few_of columns w q true e passed = let clash = sym (gives_too_many columns w e) ∙ passed in absurd cc

shallow_of : (columns : List Column) (w : Asked) (q : Checked) (b : Bool) → has_too_many w ≡ false
    → all_of (filters_pass is_shallow) are_shallow w.written ≡ b → checked columns w ≡ Ok q
    → all_of (filters_pass is_shallow) are_shallow w.written ≡ true
shallow_of columns w q true few e passed = e
shallow_of columns w q false few e passed = let clash = sym (gives_too_deep columns w few e) ∙ passed in absurd cc

columns_of : (columns : List Column) (w : Asked) (q : Checked) (b : Bool) → has_too_many w ≡ false
    → all_of (filters_pass is_shallow) are_shallow w.written ≡ true → (has_columns columns w.written && names_items w) ≡ b
    → checked columns w ≡ Ok q
    → (has_columns columns w.written && names_items w) ≡ true
columns_of columns w q true few shallow e passed = e
columns_of columns w q false few shallow e passed = let clash = sym (gives_no_column columns w few shallow e) ∙ passed in absurd cc

pub passes_first : (columns : List Column) (w : Asked) (q : Checked) → checked columns w ≡ Ok q → PassesFirst columns w
passes_first columns w q passed =
    let few = few_of columns w q (has_too_many w) refl passed in
    let shallow = shallow_of columns w q (all_of (filters_pass is_shallow) are_shallow w.written) few refl passed in
    let names = columns_of columns w q (has_columns columns w.written && names_items w) few shallow refl passed in
    let there = and_parts (has_columns columns w.written) (names_items w) names in
    record { few = few; shallow = shallow; columns_there = there.0; items_there = there.1 }

-- and the others, over the places of its columns, and of what stands behind its HAVING
pub record PassesPlaces (columns : List Column) (p : Written ℕ) (w : Asked) (q : Checked) : Type 0 where
  pub same : q ≡ record { columns = columns; written = p; arrangement = arrangement_of w }
  pub plain : are_plain p ≡ true
  pub fit : kinds_fit (kinds columns) p ≡ true
  pub grouped : is_grouped p ≡ true

pub by_places : (columns : List Column) (p : Written ℕ) (w : Asked) (q : Checked) (a b c d : Bool) → are_plain p ≡ a
    → kinds_fit (kinds columns) p ≡ b → is_grouped p ≡ c → is_ambiguously_ordered w ≡ d
    → with_arrangement columns (checked_places columns p) (checked_arrangement w) ≡ Ok q → PassesPlaces columns p w q
unfolding checked_places checked_arrangement
by_places columns p w q false b c d e f g h passed = let clash = rw e at passed in absurd cc
by_places columns p w q true false c d e f g h passed = let clash = rw (e, f) at passed in absurd cc
by_places columns p w q true true false d e f g h passed = let clash = rw (e, f, g) at passed in absurd cc
by_places columns p w q true true true true e f g h passed = let clash = rw (e, f, g, h) at passed in absurd cc
by_places columns p w q true true true false e f g h passed = let same = rw (e, f, g, h) at passed in
    record { same = cc; plain = e; fit = f; grouped = g }

pub passes_places : (q : Checked) → checked q.columns (by_names q) ≡ Ok q → PassesPlaces q.columns (placed q.columns (by_names q).written)
    (by_names q) q
passes_places q passed =
    let w = by_names q in
    let p = placed q.columns w.written in
    by_places q.columns p w q (are_plain p) (kinds_fit (kinds q.columns) p) (is_grouped p) (is_ambiguously_ordered w) refl refl refl refl
    (sym (reaches_places q.columns w (passes_first q.columns w q passed)) ∙ passed)
