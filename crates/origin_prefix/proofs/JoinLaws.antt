-- What two parts give that are joined.
use Rattle.std.specs.Prelude.{◌≡◌, refl, ◌↔◌, ℕ, suc, ◌+◌, ◌<◌, ◌≤◌, ◌==◌, nat_lt, Bool, true, false, IsTrue, List, [], ◌∷◌, None}
use Rattle.std.specs.Prelude.{if◌then◌else◌, Result, Ok, Err, IsErrAnd, IsSome}
use Rattle.std.proofs.Common.{◌∙◌, sym, subst, ap, arith}
use Rattle.std.proofs.lemmas.Bool.{true≢false}
use Rattle.std.specs.Option.{is_some}
use Rattle.std.specs.List.{AllByRecursion}
use Rattle.std.specs.List.Sorted.{IsStrictlySortedBy}
use Rattle.std.specs.Ordering.{nat_cmp}
use Rattle.list_laws.specs.Each.{each_weaker}
use Rattle.grouping_model.specs.Datum.{Kind}
use Rattle.packed_rows.specs.Columns.{kinds}
use Rattle.query_checks.specs.Checks.{Checked}
use Rattle.origin_prefix.specs.Parts.{Batches, Part, rows_at, IsEarly, IsBehind, IsOpen, IsPartOf, following}
use Rattle.origin_prefix.specs.Joins.{either, Unites, Joining, JoinTells, AreAmong, Includes}
use Rattle.origin_prefix.specs.declared.error.JoinError.{JoinError}
use Rattle.origin_prefix.specs.Lemmas.ByNumber.{numbers, at_head, none_found}

-- what was copied from a part, and then from another, behind a number
abbrev pub Copied : ℕ → Batches → Batches → Batches → Type 0
Copied above from old new = (n : ℕ) → rows_at new n ≡ either (rows_at old n) (if nat_lt above n then rows_at from n else None)

abbrev pub KeepsBehind : ℕ → Batches → Batches → Batches → Type 0
KeepsBehind above from old new =
    (ks : List Kind) → AllByRecursion (λ (b : ℕ × List (List ℕ)). above < b.0 → IsBehind ks above b) from
    → AllByRecursion (IsBehind ks above) old → AllByRecursion (IsBehind ks above) new

module _ (query : Checked) (a b own shorter : Part) (start first both : Batches) (view : a ≡ own) (other_view : b ≡ shorter) (none : start
    ≡ []) (own_is : IsPartOf query own)
    (shorter_is : IsPartOf query shorter) (first_copied : Copied a.prefix a.early start first)
    (then_copied : Copied a.prefix b.early first both)
    (first_keeps : KeepsBehind a.prefix a.early start first) (then_keeps : KeepsBehind a.prefix b.early first both)
    (rising : IsStrictlySortedBy nat_cmp (numbers both)) where
  is : IsPartOf query a
  is = subst (IsPartOf query) (sym view) own_is

  other : IsPartOf query b
  other = subst (IsPartOf query) (sym other_view) shorter_is

  copied : Copied a.prefix a.early [] first
  copied = subst (λ old. Copied a.prefix a.early old first) none first_copied

  keeps : KeepsBehind a.prefix a.early [] first
  keeps = subst (λ old. KeepsBehind a.prefix a.early old first) none first_keeps

  behind_all : AllByRecursion (IsBehind (kinds query.columns) a.prefix) both
  behind_all =
      then_keeps (kinds query.columns)
      (each_weaker (IsEarly (kinds query.columns) b.prefix) (λ (e : ℕ × List (List ℕ)). a.prefix < e.0
      → IsBehind (kinds query.columns) a.prefix e)
      (λ e early low. record { behind = low; within = early.within; rows = early.rows }) b.early other.early)
      (keeps (kinds query.columns)
      (each_weaker (IsEarly (kinds query.columns) a.prefix) (λ (e : ℕ × List (List ℕ)). a.prefix < e.0
      → IsBehind (kinds query.columns) a.prefix e)
      (λ e early low. record { behind = low; within = early.within; rows = early.rows }) a.early is.early) tt)

  pub united_open : IsOpen query a.prefix a.run both
  united_open = record { within = is.within; is_run = is.run; few = is.few; rising = rising; above = behind_all }

  inside_united : Unites a.prefix a b both
  inside_united =
      record {
        rising = rising;
        above = each_weaker (IsBehind (kinds query.columns) a.prefix) (λ (e : ℕ × List (List ℕ)). a.prefix < e.0) (λ e i. i.behind) both
            behind_all;
        rows = λ n low.
            let above : nat_lt a.prefix n ≡ true = grind arith in
            then_copied n
            ∙ (λ i. either (copied n i) (if above i then rows_at b.early n else None))
            ∙ ap (λ b'. either (if b' then rows_at a.early n else None) (rows_at b.early n)) above;
      }

  pub united_batches : Unites own.prefix own shorter both
  united_batches = subst (λ (p : Part). Unites p.prefix p shorter both) view (subst (λ (p : Part). Unites a.prefix a p both) other_view
      inside_united)

-- batches follow a prefix only if the next one is there
next_there : (prefix : ℕ) (batches : Batches) → 0 < following prefix batches → IsSome (rows_at batches (prefix + 1))
next_there prefix [] some = absurd (omega (arith, some))
next_there prefix (batch ∷ batches) some =
    elim (batch.0 == prefix + 1) as (λ t. (batch.0 == prefix + 1) ≡ t → 0 < (if t then suc (following (prefix + 1) batches) else 0)
    → IsSome (rows_at (batch ∷ batches) (prefix + 1))) [
      | true ↦ λ e low.
          let next : batch.0 ≡ prefix + 1 = grind arith in
          ap is_some (sym (ap (rows_at (batch ∷ batches)) next) ∙ at_head batch.0 batch.1 batches)
      | false ↦ λ e low. absurd (omega (arith, low))
    ] refl some

-- those of two parts follow the longer prefix only if the shorter part has the next one: its own are behind a gap
pub next_of_other : (query : Checked) (own other : Part) (batches : Batches) → IsPartOf query own → Unites own.prefix own other batches
    → 0 < following own.prefix batches → IsSome (rows_at other.early (own.prefix + 1))
next_of_other query own other batches is united some =
    let none : rows_at own.early (own.prefix + 1) ≡ None = none_found (IsEarly (kinds query.columns) own.prefix) own.early
    (own.prefix + 1) is.early (λ rows early. let high = early.behind in omega (arith, high)) in
    sym (ap is_some (united.rows (own.prefix + 1) (omega arith) ∙ ap (λ x. either x (rows_at other.early (own.prefix + 1))) none))
    ∙ next_there own.prefix batches some

-- what refuses to join parts says of them why
pub refused_joining : (honest : Bool) (query : Checked) (a b : Part) (r : Result Part JoinError) (error : JoinError)
    → IsErrAnd r (λ e. e ≡ error) → JoinTells error a b → Joining honest query a b r
refused_joining honest query a b (Ok x) error given tells = absurd given
refused_joining honest query a b (Err e) error given tells = record {
  joins = tt;
  part = tt;
  agree = tt;
  tells = subst (λ why. JoinTells why a b) (sym given) tells;
}

-- a part that is seen by its fields includes another one or not
pub includes_seen : (b : Bool) (own mine those theirs : Part) → own ≡ mine → those ≡ theirs → IsTrue b ↔ Includes own those
    → IsTrue b ↔ Includes mine theirs
includes_seen b own mine those theirs view their_view is =
    subst (λ (p : Part). IsTrue b ↔ Includes p theirs) view (subst (λ (p : Part). IsTrue b ↔ Includes own p) their_view is)

pub includes_not : (own those : Part) → (Includes own those → ⊥) → IsTrue false ↔ Includes own those
includes_not own those never = (λ t. absurd (true≢false (sym t)), λ has. absurd (never has))

pub includes_where : (b : Bool) (own those : Part) → those.prefix ≤ own.prefix → (own.prefix ≡ those.prefix → own.run ≡ those.run)
    → IsTrue b ↔ AreAmong own.prefix those.early own.early → IsTrue b ↔ Includes own those
includes_where b own those long groups early = (
  λ t. record { longer = long; groups = groups; early = early.0 t },
  λ has. early.1 has.early,
)
