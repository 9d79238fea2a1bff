-- A feed owns as many records as it states.
use Rattle.std.proofs.Common.{◌≡◌, ◌≢◌, ℕ, List, [], ◌∷◌, ◌&&◌, Bool, true, false, if◌then◌else◌, Option, Some, None, codes, unwrap_or}
use Rattle.std.specs.Option.{option_map_or}
use Rattle.std.specs.Str.{bytes_eq, is_utf8}
use Rattle.script_io.specs.Records.{Record}
use Rattle.script_io.specs.Digits.{row_count, limit_told}
use Rattle.script_commands.specs.Commands.{Request, Limit, Feed, Unknown, is_name, name_request, names_request, one_field, owned_by}
use Rattle.script_commands.specs.Commands.{request_of, two_fields}

abbrev pub IsNoFeed : Request → Type 0
IsNoFeed request = (name origin number : List ℕ) (told : ℕ) → request ≢ Feed name origin number told

either_no_feed : (b : Bool) (x y : Request) → IsNoFeed x → IsNoFeed y → IsNoFeed (if b then x else y)
either_no_feed true x y p q = p
either_no_feed false x y p q = q

unknown_no_feed : IsNoFeed Unknown
unknown_no_feed name origin number told e = cc

name_no_feed : (word name : List ℕ) → IsNoFeed (name_request word name)
name_no_feed word name =
    either_no_feed (bytes_eq word (codes "replica")) _ _ (λ n o m t e. cc)
    (either_no_feed (bytes_eq word (codes "known")) _ _ (λ n o m t e. cc)
    (either_no_feed (bytes_eq word (codes "answer")) _ _ (λ n o m t e. cc) unknown_no_feed))

limit_no_feed : (bytes : Option ℕ) → IsNoFeed (option_map_or Limit bytes Unknown)
limit_no_feed None name origin number told e = cc
limit_no_feed (Some n) name origin number told e = cc

one_no_feed : (word field : List ℕ) → IsNoFeed (one_field word field)
one_no_feed word field =
    either_no_feed (bytes_eq word (codes "columns")) _ _ (either_no_feed (is_utf8 field) _ _ (λ n o m t e. cc) unknown_no_feed)
    (either_no_feed (bytes_eq word (codes "query")) _ _ (either_no_feed (is_utf8 field) _ _ (λ n o m t e. cc) unknown_no_feed)
    (either_no_feed (bytes_eq word (codes "limit")) _ _ (limit_no_feed (limit_told field))
    (either_no_feed (is_name field) _ _ (name_no_feed word field) unknown_no_feed)))

names_no_feed : (word name other : List ℕ) → IsNoFeed (names_request word name other)
names_no_feed word name other =
    either_no_feed (bytes_eq word (codes "merge")) _ _ (λ n o m t e. cc)
    (either_no_feed (bytes_eq word (codes "save")) _ _ (λ n o m t e. cc)
    (either_no_feed (bytes_eq word (codes "load")) _ _ (λ n o m t e. cc) unknown_no_feed))

two_no_feed : (word name other : List ℕ) → IsNoFeed (two_fields word name other)
two_no_feed word name other = either_no_feed (is_name name && is_name other) _ _ (names_no_feed word name other) unknown_no_feed

feed_owns : (is_feed named : Bool) (count : Option ℕ) (name origin number other other_origin other_number : List ℕ) (told : ℕ)
    → (if is_feed && named then option_map_or (Feed name origin number) count Unknown else Unknown)
    ≡ Feed other other_origin other_number told
    → (if is_feed then unwrap_or count 0 else 0) ≡ told
feed_owns true true (Some n) name origin number other other_origin other_number told e = cc
feed_owns true true None name origin number other other_origin other_number told e = absurd cc
feed_owns true false count name origin number other other_origin other_number told e = absurd cc
feed_owns false named count name origin number other other_origin other_number told e = absurd cc

pub owned_told : (fields : Record) (name origin number : List ℕ) (told : ℕ) → request_of fields ≡ Feed name origin number told
    → owned_by fields ≡ told
unfolding request_of owned_by
owned_told [] name origin number told e = absurd cc
owned_told (a ∷ []) name origin number told e = absurd cc
owned_told (a ∷ b ∷ []) name origin number told e = absurd (one_no_feed a b name origin number told e)
owned_told (a ∷ b ∷ c ∷ []) name origin number told e = absurd (two_no_feed a b c name origin number told e)
owned_told (a ∷ b ∷ c ∷ d ∷ []) name origin number told e = absurd cc
owned_told (a ∷ b ∷ c ∷ d ∷ f ∷ []) name origin number told e =
    feed_owns (bytes_eq a (codes "feed")) (is_name b) (row_count f) b c d name origin number told e
owned_told (a ∷ b ∷ c ∷ d ∷ f ∷ g ∷ rest) name origin number told e = absurd cc
