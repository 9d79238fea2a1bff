-- What is kept of a query that passes all checks.
use Rattle.std.proofs.Common.{◌≡◌, ℕ, true, List, [], ◌∷◌, map, Option, refl, ap, sym, ◌∙◌, subst}
use Rattle.std.specs.Prelude.{Ok, Err}
use Rattle.having_filter.proofs.Words.{AreColumns, kinds, printed, Form, Written, has_columns, placed, checked, checked_places}
use Rattle.having_filter.proofs.Words.{checked_arrangement, with_arrangement, kinds_fit, PassesFirst, Checked, Asked, arrangement_held}
use Rattle.having_filter.proofs.Words.{arrangement_of}
use Rattle.having_filter.proofs.Words.{written_of_parts, checked_of, IsKept, PlansFor, written_by_names, label_of}
use Rattle.packed_rows.specs.Columns.{Column}
use Rattle.query_checks.specs.declared.error.QueryError.{QueryError}
use Rattle.query_checks.specs.Spelling.{spelling, canonical_item}
use Rattle.query_checks.specs.Writable.{IsWritable}
use Rattle.query_checks.specs.declared.parts.Parts.{Parts}
use Rattle.query_checks.specs.CheckedLaws.{reaches_places}
use Rattle.having_filter.specs.declared.plan.Plan.{Plan}
use Rattle.having_filter.specs.NormalLaws.{columns_of_query, named_again}
use Rattle.having_filter.specs.Lemmas.NormalLaws.{asked_again, spelled_alike, label_twice}
use Rattle.having_filter.specs.Lemmas.WellLaws.{passed_query}

-- the labels of a query's items are those of the checked query
labels_plain : (items : List (Form (List ℕ) × Option (List ℕ))) → map label_of (map canonical_item items) ≡ map label_of items
labels_plain [] = refl
labels_plain (item ∷ items) = λ i. label_twice item i ∷ labels_plain items i

labels_named : (columns : List Column) (q : Written (List ℕ)) → has_columns columns q ≡ true
    → map label_of (written_by_names columns (placed columns q)).items ≡ map label_of q.items
labels_named columns q has = ap (λ (r : Written (List ℕ)). map label_of r.items) (named_again columns q (columns_of_query columns q has))
    ∙ labels_plain q.items

-- what is kept of a query that passes all checks
here : (columns : List Column) (q : Asked) (plan : Plan) (text : List ℕ) (labels : List (List ℕ)) (schema_text : List ℕ)
    → AreColumns columns → IsWritable q.written → PassesFirst columns q → text ≡ spelling q → labels ≡ map label_of q.written.items
    → schema_text ≡ printed columns
    → kinds_fit (kinds columns) (placed columns q.written) ≡ true → checked_places columns (placed columns q.written)
    ≡ Ok (placed columns q.written) → PlansFor (record
    { columns = columns; written = placed columns q.written; arrangement = arrangement_of q })
    plan
    → IsKept (record { columns = columns; written = placed columns q.written; arrangement = arrangement_of q }) plan text labels schema_text
here columns q plan text labels schema_text are writable first spelled labelled shown fit passed plans =
    let has = columns_of_query columns q.written first.columns_there in
    record {
      query = passed_query columns q are writable first fit passed;
      plans = plans;
      spelled = spelled ∙ sym (ap spelling (asked_again columns q has) ∙ spelled_alike q);
      labelled = labelled ∙ sym (labels_named columns q.written first.columns_there);
      shown = shown;
    }

-- parts that were placed, with a copy of the schema, are a query's
pub query_of_parts : (schema columns : List Column) (q : Asked) (parts : Parts) → schema ≡ columns → written_of_parts parts
    ≡ placed columns q.written → arrangement_held parts.arrangement ≡ arrangement_of q
    → checked_of schema parts ≡ record { columns = columns; written = placed columns q.written; arrangement = arrangement_of q }
query_of_parts schema columns q parts same placed_so arranged_so = λ i. record {
  columns = same i;
  written = placed_so i;
  arrangement = arranged_so
      i;
}

-- the same of a copy of the schema, and of parts that were placed
pub kept : (schema columns : List Column) (q : Asked) (parts : Parts) (plan : Plan) (text : List ℕ) (labels : List (List ℕ))
    (schema_text : List ℕ) → schema ≡ columns → written_of_parts parts ≡ placed columns q.written → arrangement_held parts.arrangement
    ≡ arrangement_of q
    → AreColumns columns → IsWritable q.written → PassesFirst columns q → text ≡ spelling q → labels ≡ map label_of q.written.items
    → schema_text ≡ printed columns
    → kinds_fit (kinds columns) (written_of_parts parts) ≡ true → checked_places columns (written_of_parts parts)
    ≡ Ok (written_of_parts parts) → PlansFor (checked_of columns parts) plan
    → IsKept (checked_of schema parts) plan text labels schema_text
kept schema columns q parts plan text labels schema_text same placed_so arranged_so are writable first spelled labelled shown fit passed
    plans =
    subst (λ (c : Checked). IsKept c plan text labels schema_text) (sym (query_of_parts schema columns q parts same placed_so arranged_so))
    (here columns q plan text labels schema_text are writable first spelled labelled shown
    (subst (λ (w : Written ℕ). kinds_fit (kinds columns) w ≡ true) placed_so fit)
    (subst (λ (w : Written ℕ). checked_places columns w ≡ Ok w) placed_so passed)
    (subst (λ (c : Checked). PlansFor c plan) (query_of_parts columns columns q parts refl placed_so arranged_so) plans))

-- the checked query is the one that is kept
pub checked_here : (schema columns : List Column) (q : Asked) (parts : Parts) → schema ≡ columns → written_of_parts parts
    ≡ placed columns q.written → arrangement_held parts.arrangement ≡ arrangement_of q → PassesFirst columns q
    → checked_places columns (written_of_parts parts) ≡ Ok (written_of_parts parts) → checked_arrangement q ≡ Ok (arrangement_of q)
    → checked columns q
    ≡ Ok (checked_of schema parts)
checked_here schema columns q parts same placed_so arranged_so first passed arranged =
    reaches_places columns q first
    ∙ (λ i. with_arrangement columns (subst (λ (w : Written ℕ). checked_places columns w ≡ Ok w) placed_so passed i) (arranged i))
    ∙ ap (λ (c : Checked). Ok c) (sym (query_of_parts schema columns q parts same placed_so arranged_so))

-- a query that fails the checks of places, or that of what stands behind HAVING, which comes last
pub refused_places : (columns : List Column) (q : Asked) (error : QueryError) → PassesFirst columns q
    → checked_places columns (placed columns q.written) ≡ Err error → checked columns q ≡ Err error
refused_places columns q error first refused = reaches_places columns q first
    ∙ ap (λ r. with_arrangement columns r (checked_arrangement q)) refused

pub refused_arrangement : (columns : List Column) (q : Asked) (parts : Parts) (error : QueryError) → written_of_parts parts
    ≡ placed columns q.written → PassesFirst columns q → checked_places columns (written_of_parts parts) ≡ Ok (written_of_parts parts)
    → checked_arrangement q ≡ Err error → checked columns q ≡ Err error
refused_arrangement columns q parts error placed_so first passed refused =
    reaches_places columns q first
    ∙ (λ i. with_arrangement columns (subst (λ (w : Written ℕ). checked_places columns w ≡ Ok w) placed_so passed i) (refused i))
