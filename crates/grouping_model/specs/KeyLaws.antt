-- Laws: the keys of a list of rows, and the rows of a group; nothing here is a definition.
use Rattle.std.specs.Prelude.{◌≡◌, List, map, Contains, ◌↔◌, ◌++◌}
use Rattle.std.proofs.Common.{subst, arith}
use Rattle.std.specs.List.Sorted.{IsStrictlySortedBy}
use Rattle.grouping_model.specs.Datum.{Row, row_cmp, same_row}
use Rattle.grouping_model.specs.Rising.Facts.{distinct-rises}
use Rattle.grouping_model.specs.Query.{Query}
use Rattle.grouping_model.specs.Grouping.{selected, key_of, keys, group}
use Rattle.grouping_model.specs.DatumOrderLaws.{row_cmp_total, row_cmp_ties, same_row-is}
use Rattle.grouping_model.specs.MemberLaws.{Member, from_contains, to_contains, distinct_member, map_member, member_map, filter_member}
use Rattle.grouping_model.specs.MemberLaws.{member_filter}
use Rattle.std.proofs.lemmas.Bool.Decides.{nat_tests}
use Rattle.std.proofs.lemmas.Grind.{common_steps}

pub keys_rise : (query : Query) (rows : List Row) → IsStrictlySortedBy row_cmp (keys query rows)
keys_rise query rows = distinct-rises row_cmp_total (map (key_of query) (selected query rows))

pub keys_are : (query : Query) (rows : List Row) (key : Row) → Contains (keys query rows) key
    ↔ ((row : Row) × Contains (selected query rows) row × (key_of query row ≡ key))
keys_are query rows key = (
  λ c.
      let m : Member (map (key_of query) (selected query rows)) key =
      (distinct_member row_cmp_total row_cmp_ties (map (key_of query) (selected query rows)) key).0
      (from_contains (keys query rows) key c) in
      let found = map_member (key_of query) (selected query rows) key m in
      (found.0, to_contains (selected query rows) found.0 found.1, found.2),
  λ found.
      let m : Member (map (key_of query) (selected query rows)) (key_of query found.0) = member_map (key_of query) (selected query rows)
      found.0 (from_contains (selected query rows) found.0 found.1) in
      to_contains (keys query rows) key ((distinct_member row_cmp_total row_cmp_ties (map (key_of query) (selected query rows)) key).1
      (subst (Member (map (key_of query) (selected query rows))) found.2 m)),
)

pub group_is : (query : Query) (rows : List Row) (key row : Row) → Contains (group query rows key) row
    ↔ (Contains (selected query rows) row × (key_of query row ≡ key))
group_is query rows key row = (
  λ c.
      let m = filter_member (λ r. same_row (key_of query r) key) (selected query rows) row (from_contains (group query rows key) row c) in
      (to_contains (selected query rows) row m.0, (same_row-is (key_of query row) key).0 m.1),
  λ both.
      to_contains (group query rows key) row
      (member_filter (λ r. same_row (key_of query r) key) (selected query rows) row (from_contains (selected query rows) row both.0)
      ((same_row-is (key_of query row) key).1 both.1)),
)

pub group_append : (query : Query) (xs ys : List Row) (key : Row) → group query (xs ++ ys) key ≡ group query xs key ++ group query ys key
group_append query xs ys key = grind (arith, nat_tests, common_steps)
