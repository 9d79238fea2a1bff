-- What is read as a term of ORDER BY is in the grammar and the other way round. It is read alike before two tails.
use Rattle.std.proofs.Common.{◌≡◌, ℕ, Bool, true, false, cond, List, [], ◌∷◌, ◌++◌, Option, Some, None, Ok, refl, append_assoc, arith}
use Rattle.std.specs.Prelude.{codes}
use Rattle.query_grammar.specs.Lemmas.Words.{Lexeme, Name, Integer, Text, Sign, is_reserved, Target, By_name, By_place, Term, is_word, word}
use Rattle.query_grammar.specs.Lemmas.Words.{IsTarget, IsDirection, IsNulls, Read, unexpected, after, choose, target_at, direction_at}
use Rattle.query_grammar.specs.Lemmas.Words.{first_or_last, nulls_at, term_at}
use Rattle.query_grammar.specs.Arrangement as ordering
use Rattle.query_grammar.specs.Arrangement.{IsTerm}
use Rattle.query_grammar.specs.Reading.{◌>>=◌}
use Rattle.query_grammar.specs.Laws.{Part, Means, CanBecome}
use Rattle.query_grammar.specs.Lemmas.Steps.{behind, done, refused, widen, bind, mapped, chosen}
use Rattle.query_grammar.specs.Lemmas.Sound.{a_name, word_law}
use Rattle.query_grammar.specs.Lemmas.Alike as alike
use Rattle.query_grammar.specs.Lemmas.Alike.{Tails, none, both, Alike, same, past, Agree, refuses, binds, chooses, maps}
use Rattle.query_grammar.specs.Lemmas.Locality.{stays_of}

-- ---- what is read is in the grammar

abbrev Target_part : Part Target
Target_part = λ b ts x. IsTarget ts x

abbrev Direction_part : Part Bool
Direction_part = λ b ts x. IsDirection ts x

abbrev Nulls_part : Part (Option Bool)
Nulls_part = λ b ts x. IsNulls ts x

abbrev pub Term_part : Part Term
Term_part = λ b ts x. IsTerm ts x

a_target : (b : Bool) → CanBecome (Target_part b) []
a_target b = (Name (codes "a") ∷ [], By_name (codes "a"), ordering.by_name a_name)

free_target : (b : Bool) (w : List ℕ) (ts : List Lexeme) → is_reserved w ≡ b
    → Means Target_part (Name w ∷ ts) (cond b (unexpected (Name w ∷ ts)) (Ok (By_name w, ts)))
free_target true w ts e = refused Target_part (Name w ∷ ts) a_target
free_target false w ts e = widen Target_part (Name w ∷ []) ts (Name w ∷ ts) (Ok (By_name w, ts)) refl
    (done (λ b u x. IsTarget (Name w ∷ u) x) ts (By_name w) (λ b. ordering.by_name e))

target_means : (ts : List Lexeme) → Means Target_part ts (target_at ts)
unfolding target_at
target_means [] = refused Target_part [] a_target
target_means (Name w ∷ ts) = free_target (is_reserved w) w ts refl
target_means (Integer z ∷ ts) = widen Target_part (Integer z ∷ []) ts (Integer z ∷ ts) (Ok (By_place z, ts)) refl
    (done (λ b u x. IsTarget (Integer z ∷ u) x) ts (By_place z) (λ b. ordering.by_place))
target_means (Text s ∷ ts) = refused Target_part (Text s ∷ ts) a_target
target_means (Sign s ∷ ts) = refused Target_part (Sign s ∷ ts) a_target

direction_means : (ts : List Lexeme) → Means Direction_part ts (direction_at ts)
unfolding direction_at
direction_means ts =
    chosen Direction_part (word (codes "desc")) (is_word (codes "desc")) (word_law (codes "desc")) ts (λ rest. Ok (true, rest))
    (choose (after (is_word (codes "asc")) ts) (λ rest. Ok (false, rest)) (Ok (false, ts)))
    (λ rest. done (λ b u x. IsDirection (word (codes "desc") ∷ u) x) rest true (λ b. ordering.descending))
    (chosen Direction_part (word (codes "asc")) (is_word (codes "asc")) (word_law (codes "asc")) ts (λ rest. Ok (false, rest))
    (Ok (false, ts))
    (λ rest. done (λ b u x. IsDirection (word (codes "asc") ∷ u) x) rest false (λ b. ordering.ascending))
    (done Direction_part ts false (λ b. ordering.no_direction)))

abbrev Behind_nulls : Part (Option Bool)
Behind_nulls = λ b u x. IsNulls (word (codes "nulls") ∷ u) x

first_means : (ts : List Lexeme) → Means Behind_nulls ts (first_or_last ts)
unfolding first_or_last
first_means ts =
    chosen Behind_nulls (word (codes "first")) (is_word (codes "first")) (word_law (codes "first")) ts (λ rest. Ok (Some true, rest))
    (choose (after (is_word (codes "last")) ts) (λ rest. Ok (Some false, rest)) (unexpected ts))
    (λ rest. done (λ b u x. IsNulls (word (codes "nulls") ∷ word (codes "first") ∷ u) x) rest (Some true) (λ b. ordering.first))
    (chosen Behind_nulls (word (codes "last")) (is_word (codes "last")) (word_law (codes "last")) ts (λ rest. Ok (Some false, rest))
    (unexpected ts)
    (λ rest. done (λ b u x. IsNulls (word (codes "nulls") ∷ word (codes "last") ∷ u) x) rest (Some false) (λ b. ordering.last_))
    (refused Behind_nulls ts (λ b. (word (codes "first") ∷ [], Some true, ordering.first))))

nulls_means : (ts : List Lexeme) → Means Nulls_part ts (nulls_at ts)
unfolding nulls_at
nulls_means ts = chosen Nulls_part (word (codes "nulls")) (is_word (codes "nulls")) (word_law (codes "nulls")) ts first_or_last
    (Ok (None, ts)) first_means (done Nulls_part ts None (λ b. ordering.no_nulls))

abbrev made : Target → Bool → Option Bool → Term
made target descending nulls_first = record { target = target; descending = descending; nulls_first = nulls_first }

pub term_means : (ts : List Lexeme) → Means Term_part ts (term_at ts)
unfolding term_at
term_means ts =
    bind Target_part Term_part ts (target_at ts) (λ target. direction_at target.1 >>= λ direction. nulls_at direction.1 >>= λ nulls. Ok
    (made target.0 direction.0 nulls.0, nulls.1)) (target_means ts)
    (λ us rest target p. bind Direction_part (behind us Term_part) rest (direction_at rest)
    (λ direction. nulls_at direction.1 >>= λ nulls. Ok (made target direction.0 nulls.0, nulls.1)) (direction_means rest)
    (λ ds rest2 direction q. mapped Nulls_part (λ b u x. IsTerm (us ++ (ds ++ u)) x) rest2 (nulls_at rest2)
    (λ nulls. made target direction nulls) (nulls_means rest2) (λ b ns nulls r. ordering.term us ds ns (p b) (q b) r))
    (λ b ds direction q. ([], made target direction None, ordering.term us ds [] (p b) q ordering.no_nulls)))
    (λ b us target p. ([], made target false None, ordering.term us [] [] p ordering.no_direction ordering.no_nulls))

-- ---- what is in the grammar is read

target_reads : (ts : List Lexeme) (x : Target) → IsTarget ts x → (rest : List Lexeme) → target_at (ts ++ rest) ≡ Ok (x, rest)
unfolding target_at
target_reads _ _ (ordering.by_name free) rest = rw free refl
target_reads _ _ ordering.by_place rest = refl

-- what can follow a term
pub record Closes (rest : List Lexeme) : Type 0 where
  pub no_desc : after (is_word (codes "desc")) rest ≡ None
  pub no_asc : after (is_word (codes "asc")) rest ≡ None
  pub no_nulls : after (is_word (codes "nulls")) rest ≡ None

direction_reads : (ds : List Lexeme) (x : Bool) → IsDirection ds x → (rest : List Lexeme) → after (is_word (codes "desc")) rest ≡ None
    → after (is_word (codes "asc")) rest ≡ None → direction_at (ds ++ rest) ≡ Ok (x, rest)
unfolding direction_at
direction_reads _ _ ordering.no_direction rest no_desc no_asc = rw (no_desc, no_asc) refl
direction_reads _ _ ordering.ascending rest no_desc no_asc = refl
direction_reads _ _ ordering.descending rest no_desc no_asc = refl

nulls_read : (ns : List Lexeme) (x : Option Bool) → IsNulls ns x → (rest : List Lexeme) → Closes rest → nulls_at (ns ++ rest) ≡ Ok (x, rest)
unfolding nulls_at first_or_last
nulls_read _ _ ordering.no_nulls rest h = rw h.no_nulls refl
nulls_read _ _ ordering.first rest h = refl
nulls_read _ _ ordering.last_ rest h = refl

before_nulls : (ns : List Lexeme) (x : Option Bool) → IsNulls ns x → (rest : List Lexeme) → Closes rest
    → (after (is_word (codes "desc")) (ns ++ rest) ≡ None) × (after (is_word (codes "asc")) (ns ++ rest) ≡ None)
before_nulls _ _ ordering.no_nulls rest h = (h.no_desc, h.no_asc)
before_nulls _ _ ordering.first rest h = (refl, refl)
before_nulls _ _ ordering.last_ rest h = (refl, refl)

pub term_reads : (ts : List Lexeme) (x : Term) → IsTerm ts x → (rest : List Lexeme) → Closes rest → term_at (ts ++ rest) ≡ Ok (x, rest)
unfolding term_at
term_reads _ _ (ordering.term {target = target} {descending = descending} {nulls_first = nulls} ts ds ns p q r) rest h =
    let apart = before_nulls ns nulls r rest h in
    rw (
      append_assoc ts (ds ++ ns) rest,
      target_reads ts target p ((ds ++ ns) ++ rest),
      append_assoc ds ns rest,
      direction_reads ds
          descending q (ns ++ rest) apart.0 apart.1,
      nulls_read ns nulls r rest h,
    ) refl

-- ---- a term is read alike before two tails

target_in : (d : Bool) (one two us : List Lexeme) (b : Bool) (w : List ℕ)
    → Alike d one two (cond b (unexpected (Name w ∷ (us ++ one))) (Ok (By_name w, us ++ one)))
    (cond b (unexpected (Name w ∷ (us ++ two))) (Ok (By_name w, us ++ two)))
target_in d one two us true w = alike.refused (Name w ∷ us)
target_in d one two us false w = same (By_name w) us

target_past : (d : Bool) (rest more : List Lexeme) (b : Bool) (w : List ℕ)
    → Alike d (Name w ∷ rest) (Name w ∷ more) (cond b (unexpected (Name w ∷ rest)) (Ok (By_name w, rest)))
    (cond b (unexpected (Name w ∷ more)) (Ok (By_name w, more)))
target_past d rest more true w = alike.refused []
target_past d rest more false w = past (Ok (By_name w, rest)) (Ok (By_name w, more)) (omega arith)

target_alike : (d : Bool) (one two : List Lexeme) → Tails one two → (u : List Lexeme)
    → Alike d one two (target_at (u ++ one)) (target_at (u ++ two))
unfolding target_at
target_alike d one two tails (Name w ∷ us) = target_in d one two us (is_reserved w) w
target_alike d one two tails (Integer z ∷ us) = same (By_place z) us
target_alike d one two tails (Text s ∷ us) = alike.refused (Text s ∷ us)
target_alike d one two tails (Sign s ∷ us) = alike.refused (Sign s ∷ us)
target_alike d _ _ none [] = alike.refused []
target_alike d _ _ (both (Name w) rest more) [] = target_past d rest more (is_reserved w) w
target_alike d _ _ (both (Integer z) rest more) [] = past (Ok (By_place z, rest)) (Ok (By_place z, more)) (omega arith)
target_alike d _ _ (both (Text s) rest more) [] = alike.refused []
target_alike d _ _ (both (Sign s) rest more) [] = alike.refused []

targets_agree : (d : Bool) (one two : List Lexeme) (tails : Tails one two) (most : ℕ) → Agree d one two most target_at target_at
targets_agree d one two tails most = record {
  alike = λ u lt. target_alike d one two tails u;
  stays = stays_of Target_part target_at target_means;
  stays_too = stays_of Target_part target_at target_means;
}

directions_agree : (d : Bool) (one two : List Lexeme) (tails : Tails one two) (most : ℕ) → Agree d one two most direction_at direction_at
unfolding direction_at
directions_agree d one two tails most =
    let behind_desc : List Lexeme → Read Bool = λ ts. choose (after (is_word (codes "asc")) ts) (λ rest. Ok (false, rest)) (Ok (false, ts))
    in
    chooses d one two tails most (is_word (codes "desc")) (λ rest. Ok (true, rest)) (λ rest. Ok (true, rest)) behind_desc behind_desc
    (alike.done d one two most true)
    (chooses d one two tails most (is_word (codes "asc")) (λ rest. Ok (false, rest)) (λ rest. Ok (false, rest)) (λ ts. Ok (false, ts))
    (λ ts. Ok (false, ts)) (alike.done d one two most false) (alike.done d one two most false))

firsts_agree : (d : Bool) (one two : List Lexeme) (tails : Tails one two) (most : ℕ) → Agree d one two most first_or_last first_or_last
unfolding first_or_last
firsts_agree d one two tails most =
    let behind_first : List Lexeme → Read (Option Bool) = λ ts. choose (after (is_word (codes "last")) ts) (λ rest. Ok (Some false, rest))
    (unexpected ts) in
    chooses d one two tails most (is_word (codes "first")) (λ rest. Ok (Some true, rest)) (λ rest. Ok (Some true, rest)) behind_first
    behind_first (alike.done d one two most (Some true))
    (chooses d one two tails most (is_word (codes "last")) (λ rest. Ok (Some false, rest)) (λ rest. Ok (Some false, rest)) unexpected
    unexpected (alike.done d one two most (Some false)) (refuses d one two most))

nulls_agree : (d : Bool) (one two : List Lexeme) (tails : Tails one two) (most : ℕ) → Agree d one two most nulls_at nulls_at
unfolding nulls_at
nulls_agree d one two tails most =
    chooses d one two tails most (is_word (codes "nulls")) first_or_last first_or_last (λ ts. Ok (None, ts)) (λ ts. Ok (None, ts))
    (firsts_agree d one two tails most) (alike.done d one two most None)

pub terms_agree : (d : Bool) (one two : List Lexeme) (tails : Tails one two) (most : ℕ) → Agree d one two most term_at term_at
unfolding term_at
terms_agree d one two tails most =
    let with_direction : Target → Bool → List Lexeme → Read Term = λ target direction ts. nulls_at ts >>= λ nulls. Ok
    (made target direction nulls.0, nulls.1) in
    let with_target : Target → List Lexeme → Read Term = λ target ts. direction_at ts >>= λ direction. with_direction target direction.0
    direction.1 in
    binds d one two most target_at target_at with_target with_target (targets_agree d one two tails most)
    (λ target. binds d one two most direction_at direction_at (with_direction target) (with_direction target)
    (directions_agree d one two tails most)
    (λ direction. maps d one two most nulls_at nulls_at (made target direction) (nulls_agree d one two tails most)))
