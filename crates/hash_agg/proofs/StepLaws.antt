-- One step of a pass.
use Rattle.std.specs.Prelude.{◌≡◌, refl, ℕ, ◌+◌, ◌*◌, ◌≤◌, ◌&&◌, Bool, true, false, cond, List, [], ◌∷◌, ◌++◌, length, take, drop}
use Rattle.std.specs.Prelude.{slice_get, slice_set, Some, None, IfErr, IsErrAnd}
use Rattle.std.specs.Int.{w16, to_be_bytes, from_be_bytes}
use Rattle.std.specs.declared.result.Result.{Result}
use Rattle.std.proofs.lemmas.Result.{err_from_is_err_and}
use Rattle.std.proofs.Common.{sym, ◌∙◌, ap, subst, arith, append-nil, append_assoc}
use Rattle.std.proofs.lemmas.Nat.{from_be_bytes-to_be_bytes_2}
use Rattle.std.proofs.Math.Seq.{take-append_seam, drop-append_seam}
use Rattle.std.proofs.lemmas.List.{length-map, length-append, take-append-drop, take_all}
use Rattle.std.proofs.lemmas.List.Sums.{sum_by-append}
use Rattle.hash_agg.proofs.Words.{Row, Kind, HasKinds, Datum, Null, Bigint, Boolean, Text, Bigint_kind, Boolean_kind, Text_kind, Function}
use Rattle.hash_agg.proofs.Words.{Partial, is_met, Query, Group, column_of, functions, with_row, packing, value_packing, is_empty, fits}
use Rattle.hash_agg.proofs.Words.{Record, PendingPartition, PartitionsState, HasPartitions, AreSpilled, OnTape, TableState, Names, HasNo}
use Rattle.hash_agg.proofs.Words.{state_in, group_in, Slot, key_kinds, IsWellFormed, meaning, Plan, Entry, packed_keys, AreStates}
use Rattle.hash_agg.proofs.Words.{StandsFor, states_width, AreWithin, AreAdvanced, AreCombined, Piece, Of_row, Of_group, group_record}
use Rattle.hash_agg.proofs.Words.{IsGroupRecord, IsPiece, piece_key, piece_added, weight, rows_at, CountUpTo, AreOnce, AreGroupsBy}
use Rattle.hash_agg.proofs.Words.{GroupsState, entries_of, WritesAt, Stands, Spills, AreSafe, PassState, standing, setting_of, Holds}
use Rattle.hash_agg.proofs.Words.{CanRead, Reads, AreRows, AreOfRun, total, brings, brought_by, Brings, Proceeds, IsSelected}
use Rattle.packed_rows.specs.Columns.{Column, kinds, AreColumns}
use Rattle.spill_tapes.specs.Tapes.{TapesState}
use Rattle.key_hashes.specs.declared.sip_hash.SipHash.{SipHash}
use Rattle.hash_agg.specs.Lemmas.KeyLaws.{key_has}
use Rattle.hash_agg.proofs.NeedLaws.{keys_set}
use Rattle.hash_agg.proofs.SpillLaws.{among_entries, none_of, spills_there, spills_new, spills_left}
use Rattle.group_runs.specs.PlaceLaws.{take_found}
use Rattle.group_runs.specs.StandingLaws.{group_at, groups_long, states_by}
use Rattle.group_runs.specs.Lemmas.RunLaws.{packed_once}
use Rattle.hash_agg.proofs.InputLaws.{flat_row_at}
use Rattle.agg_library.specs.StateRowLaws.{states_wide, narrow}
use Rattle.hash_agg.proofs.TableLaws.{no_key, named_at, get_mapped}
use Rattle.hash_agg.proofs.PassLaws.{IsKept, after, by_at, by_set, by_append, rows_append, rows_one, reads_there, reads_new, reads_left}

-- the first of them, so many, were read
abbrev pub ReadsSome : Plan → (List ℕ → ℕ) → (List Piece → Type 0) → ℕ → PassState → PassState → Type 0
ReadsSome plan hash Are number old new =
    (pieces more : List Piece) (ahead : List Record) (pending : List PendingPartition)
    → Holds (meaning plan.query.now) (setting_of plan hash) old pieces ahead pending
    → Are more
    → CountUpTo (meaning plan.query.now) plan.most (pieces ++ more)
    → Holds (meaning plan.query.now) (setting_of plan hash) new (pieces ++ take number more) ahead pending

-- the piece at a place, alone
abbrev pub IsAt : (List Piece → Type 0) → ℕ → (List Piece → Type 0) → Type 0
IsAt Are place One = (more : List Piece) → Are more → (piece : Piece) × (slice_get more place ≡ Some piece) × One (piece ∷ [])

-- what holds of the error that a `?` hands on
pub err_out : {T E : Type 0} (r : Result T E) (e : E) (P : E → Type 0) → IsErrAnd r (λ x. x ≡ e) → P e → IfErr r P
err_out r e P given holds =
    let p = err_from_is_err_and r given in
    subst (λ r. IfErr r P) (sym p.1) (subst P (sym p.2) holds)

-- ---- how long keys and states are

one_short : (kind : Kind) (value : Datum) → HasKinds (kind ∷ []) (value ∷ []) → length (value_packing value) ≤ 257
one_short kind Null has = omega arith
one_short Bigint_kind (Bigint z) has = omega arith
one_short Boolean_kind (Boolean b) has = omega arith
one_short Text_kind (Text text) (is, none) =
    let long = length-append text (0 ∷ []) in
    let few : length text ≤ 255 = is.1 in
    omega (arith, long, few)
one_short Boolean_kind (Bigint z) has = absurd has.0
one_short Text_kind (Bigint z) has = absurd has.0
one_short Bigint_kind (Boolean b) has = absurd has.0
one_short Text_kind (Boolean b) has = absurd has.0
one_short Bigint_kind (Text text) has = absurd has.0
one_short Boolean_kind (Text text) has = absurd has.0

row_short : (kinds : List Kind) (row : Row) → HasKinds kinds row → length (packing row) ≤ length kinds * 257
row_short [] [] has = omega arith
row_short [] (value ∷ row) has = absurd has
row_short (kind ∷ kinds) [] has = absurd has
row_short (kind ∷ kinds) (value ∷ row) (first, has) =
    let one = one_short kind value (first, tt) in
    let rest = row_short kinds row has in
    let long = length-append (value_packing value) (packing row) in
    omega (arith, one, rest, long)

pub key_brief : (q : Query) (bytes : List ℕ) (k : Row) → IsWellFormed q → bytes ≡ packing k → HasKinds (key_kinds q) k → length bytes ≤ 8192
key_brief q bytes k formed is has =
    let long : length (key_kinds q) ≡ length q.keys = length-map q.keys _ in
    let few : length q.keys ≤ 16 = formed.few_keys in
    let short = row_short (key_kinds q) k has in
    let same = ap length is in
    omega (arith, long, few, short, same)

pub key_short : (q : Query) (bytes : List ℕ) (k : Row) → IsWellFormed q → bytes ≡ packing k → HasKinds (key_kinds q) k
    → length bytes ≤ 65535
key_short q bytes k formed is has = let brief = key_brief q bytes k formed is has in omega (arith, brief)

pub packed_short : (columns : List Column) (bytes : List ℕ) (row : Row) → AreColumns columns → bytes ≡ packing row
    → HasKinds (kinds columns) row → length bytes ≤ 65535
packed_short columns bytes row are is has =
    let few : length columns ≤ 32 = are.most in
    let long : length (kinds columns) ≡ length columns = length-map columns _ in
    let short = row_short (kinds columns) row has in
    let same = ap length is in
    omega (arith, few, long, short, same)

-- states of the same functions are equally long
pub same_wide : (these : List Function) (m n : ℕ) (a b : List ℕ) (ps qs : List Partial) → AreStates these m a ps → AreStates these n b qs
    → length a ≡ length b
same_wide these m n a b ps qs x y =
    states_wide m x.kinds a ps x.denote ∙ sym (states_wide n x.kinds b qs (states_by these n x.kinds b qs x.named y))

-- the bytes of a group on a tape
pub group_short : (q : Query) (m : ℕ) (key states : List ℕ) (group : Group) → IsWellFormed q → StandsFor q m (key, states) group
    → length (group_record key states) ≤ 65535
group_short q m key states group formed stands =
    let brief = key_brief q key group.0 formed stands.key stands.of_kinds in
    let wide = states_wide m stands.states.kinds states group.1 stands.states.denote in
    let thin = narrow stands.states.kinds in
    let many : length stands.states.kinds ≡ length q.aggregates = sym (length-map stands.states.kinds _) ∙ ap length stands.states.named
    ∙ length-map q.aggregates _ in
    let most : length q.aggregates ≤ 32 = formed.few_aggregates in
    let front : length (to_be_bytes w16 (length key)) ≡ 2 = refl in
    let whole = length-append (to_be_bytes w16 (length key)) (key ++ states) in
    let both = length-append key states in
    omega (arith, brief, wide, thin, many, most, front, whole, both)

-- two groups with the same bytes are the same
pub group_apart : (key other states others : List ℕ) → length key ≤ 65535 → length other ≤ 65535 → group_record key states
    ≡ group_record other others → (key ≡ other) × (states ≡ others)
group_apart key other states others short low same =
    let front : to_be_bytes w16 (length key) ≡ to_be_bytes w16 (length other) = ap (take 2) same in
    let back : key ++ states ≡ other ++ others = ap (drop 2) same in
    let long : length key ≡ length other = sym (from_be_bytes-to_be_bytes_2 (length key) (omega (arith, short)))
    ∙ ap (from_be_bytes w16) front ∙ from_be_bytes-to_be_bytes_2 (length other) (omega (arith, low)) in
    let one : key ≡ other = sym (take-append_seam key states) ∙ ap (λ n. take n (key ++ states)) long ∙ ap (take (length other)) back
    ∙ take-append_seam other others in
    let two : states ≡ others = sym (drop-append_seam key states) ∙ ap (λ n. drop n (key ++ states)) long ∙ ap (drop (length other)) back
    ∙ drop-append_seam other others in
    (one, two)

-- ---- what is read

-- one row; and one group
pub one_row : (q : Query) (packed : List ℕ) (row : Row) (more : List Piece) → HasKinds q.kinds row → packed ≡ packing row
    → AreRows q (packed ∷ []) more → more ≡ Of_row row ∷ []
one_row q packed row more mine same ([], are, made) = let long = ap length are.packings_are in absurd (omega (arith, long))
one_row q packed row more mine same (list ∷ [], are, made) =
    let both : packed ∷ [] ≡ packing list ∷ [] = are.packings_are in
    let is : packed ≡ packing list = cc in
    made ∙ ap (λ row. Of_row row ∷ []) (packed_once q.kinds packed list row are.of_kinds.0 mine is same)
one_row q packed row more mine same (list ∷ (other ∷ rows), are, made) = let long = ap length are.packings_are in absurd
    (omega (arith, long))

pub one_group : (q : Query) (m : ℕ) (key states : List ℕ) (more : List Piece) → AreOfRun q m ((key, states) ∷ []) more → (group : Group)
    × (more ≡ Of_group group m ∷ []) × StandsFor q m (key, states) group
one_group q m key states more ([], are, made) = absurd are
one_group q m key states more (g ∷ [], are, made) = (g, made, are.0)
one_group q m key states more (g ∷ (h ∷ gs), are, made) = absurd are.1

pub is_group_record : (q : Query) (hf : List ℕ → ℕ) (m : ℕ) (one : Record) (key states : List ℕ) (group : Group) → one.tag ≡ 1 → one.bytes
    ≡ group_record key states → one.hash ≡ hf key → StandsFor q m (key, states) group → IsGroupRecord q hf one group m
is_group_record q hf m one key states group tag bytes hashed stands =
    record {
      tag = tag;
      states = states;
      bytes = bytes ∙ ap (λ key. group_record key states) stands.key;
      stands = record { key = refl; of_kinds = stands.of_kinds; states = stands.states };
      hashed = hashed ∙ ap hf stands.key;
    }

-- a record of a group has just this key and these states
pub of_group_record : (q : Query) (hf : List ℕ → ℕ) (m : ℕ) (one : Record) (key states : List ℕ) (group : Group) → IsWellFormed q
    → length key ≤ 65535 → one.bytes ≡ group_record key states → IsGroupRecord q hf one group m → StandsFor q m (key, states) group
    × (one.hash ≡ hf key)
of_group_record q hf m one key states group formed short bytes is =
    let mine = key_short q (packing group.0) group.0 formed refl is.stands.of_kinds in
    let same = group_apart key (packing group.0) states is.states short mine (sym bytes ∙ is.bytes) in (
      subst (λ states. StandsFor q m (key, states) group) (sym same.1)
          (record { key = same.0; of_kinds = is.stands.of_kinds; states = is.stands.states }),
      is.hashed ∙ ap hf (sym same.0),
    )

-- one piece, by the packed key of its group, and what the states of that group become by it
pub record Told (q : Query) (bound : ℕ) (key : List ℕ) (Moved : List ℕ → List ℕ → Type 0) (more : List Piece) : Type 0 where
  pub piece : Piece
  pub is : more ≡ piece ∷ []
  pub named : key ≡ packing (piece_key q piece)
  pub has : HasKinds (key_kinds q) (piece_key q piece)
  pub kept : IsKept q piece
  pub moves :
      (m : ℕ) (old new : List ℕ) (found : List Partial) → Moved old new → m + weight piece ≤ bound → AreStates (functions q) m old found
      → AreStates (functions q) (m + weight piece) new (after q (Some found) piece)

abbrev pub row_told : (q : Query) (bound : ℕ) (packed key : List ℕ) (row : Row) → IsWellFormed q → IsSelected q packed key row
    → (more : List Piece) → AreRows q (packed ∷ []) more → Told q bound key (λ old new. AreAdvanced q.aggregates bound old row new) more
row_told q bound packed key row formed selected more are =
    record {
      piece = Of_row row;
      is = one_row q packed row more selected.has selected.is are;
      named = selected.named;
      has = key_has q row formed.keys selected.has;
      kept = selected.met;
      moves = λ m old new found moved low states. moved.moved m found (omega (arith, low)) states;
    }

abbrev pub group_told : (q : Query) (bound m : ℕ) (key states : List ℕ) (more : List Piece) → AreOfRun q m ((key, states) ∷ []) more
    → Told q bound key (λ old new. AreCombined (functions q) bound old states new) more
group_told q bound m key states more are =
    let one = one_group q m key states more are in
    record {
      piece = Of_group one.0 m;
      is = one.1;
      named = one.2.key;
      has = one.2.of_kinds;
      kept = tt;
      moves = λ k old new found moved low mine. moved.moved k m found one.0.1 low mine one.2.states;
    }

abbrev pub entry_told : (q : Query) (bound : ℕ) (key states : List ℕ) (more : List Piece) → (most : ℕ)
    × AreOfRun q most ((key, states) ∷ []) more → Told q bound key (λ old new. AreCombined (functions q) bound old states new) more
entry_told q bound key states more are = group_told q bound are.0 key states more are.1

-- what was read, and one piece more, count few enough rows
pub can_count : (q : Query) (m : ℕ) (ps : List Piece) (p : Piece) → CountUpTo q m (ps ++ p ∷ []) → rows_at q (piece_key q p) ps
    + weight p ≤ m
can_count q m ps p count =
    let all = count (piece_key q p) in
    let both = rows_append q (piece_key q p) ps (p ∷ []) in
    let one = rows_one q p in
    omega (arith, all, both, one)

-- ---- steps

-- the states of the group of a slot
pub states_at : {Hash : Type 0} (q : Query) (hf : List ℕ → ℕ) (g : GroupsState Hash) (left : List Record) (ps : List Piece) (p : Piece)
    (slot : Slot) (bytes : List ℕ) → bytes ≡ packing (piece_key q p) → HasKinds (key_kinds q) (piece_key q p)
    → Stands q hf ps (entries_of g) left → Names g.table g.tree slot bytes
    → (found : List Partial) × AreStates (functions q) (rows_at q (piece_key q p) ps) (state_in g.table g.tree slot) found
states_at q hf g left ps p slot bytes is has s (at, named) =
    let found = by_at q (λ k. rows_at q k ps) (entries_of g) s.entered at.0 (bytes, state_in g.table g.tree slot) s.are
    (named_at g slot bytes at.0 at.1 named) in
    let same : found.group.0 ≡ piece_key q p = packed_once (key_kinds q) bytes found.group.0 (piece_key q p) found.stands.of_kinds has
    found.stands.key is in (
      found.group.1,
      subst (λ k. AreStates (functions q) (rows_at q k ps) (state_in g.table g.tree slot) found.group.1) same
          found.stands.states,
    )

pub there_reads : {Hash : Type 0} (q : Query) (hf : List ℕ → ℕ) (g h : GroupsState Hash) (left : List Record) (ps : List Piece) (p : Piece)
    (bytes : List ℕ) (slot : Slot) (P : List ℕ → Type 0)
    → bytes ≡ packing (piece_key q p) → HasKinds (key_kinds q) (piece_key q p) → IsKept q p → AreOnce (entries_of g)
    → Names g.table g.tree slot bytes → WritesAt g slot P h
    → ((new : List ℕ) → P new → (found : List Partial)
    → AreStates (functions q) (rows_at q (piece_key q p) ps) (state_in g.table g.tree slot) found
    → AreStates (functions q) (rows_at q (piece_key q p) ps + weight p) new (after q (Some found) p))
    → Stands q hf ps (entries_of g) left → Stands q hf (ps ++ p ∷ []) (entries_of h) left
there_reads q hf g h left ps p bytes slot P is has kept once (at, named) writes moves s =
    let w = writes at.0 at.1 in
    subst (λ es. Stands q hf (ps ++ p ∷ []) es left) (sym (w.2 ∙ ap (λ (key : List ℕ). slice_set (entries_of g) at.0 (key, w.0)) named))
    (reads_there q hf (entries_of g) left ps p bytes is has kept s at.0 (state_in g.table g.tree slot) w.0 once
    (named_at g slot bytes at.0 at.1 named) (moves w.0 w.1))

pub new_reads : {Hash : Type 0} (q : Query) (hf : List ℕ → ℕ) (g h : GroupsState Hash) (left after_left : List Record) (ps : List Piece)
    (p : Piece) (bytes states : List ℕ)
    → bytes ≡ packing (piece_key q p) → HasKinds (key_kinds q) (piece_key q p) → IsKept q p → HasNo g.table g.tree bytes → left ≡ []
    → after_left ≡ left → entries_of h ≡ entries_of g ++ (bytes, states) ∷ []
    → AreStates (functions q) (weight p) states (after q None p)
    → Stands q hf ps (entries_of g) left → Stands q hf (ps ++ p ∷ []) (entries_of h) after_left
new_reads q hf g h left after_left ps p bytes states is has kept absent none same entered makes s =
    subst (λ es. Stands q hf (ps ++ p ∷ []) es after_left) (sym entered)
    (subst (λ l. Stands q hf (ps ++ p ∷ []) (entries_of g ++ (bytes, states) ∷ []) l) (sym same)
    (reads_new q hf (entries_of g) left ps p bytes is has kept s states none (no_key g bytes absent) makes))

pub left_reads : {Hash : Type 0} (q : Query) (hf : List ℕ → ℕ) (g h : GroupsState Hash) (left after_left : List Record) (ps : List Piece)
    (p : Piece) (r : Record) (bytes : List ℕ)
    → bytes ≡ packing (piece_key q p) → HasKinds (key_kinds q) (piece_key q p) → IsKept q p → HasNo g.table g.tree bytes → h ≡ g
    → after_left ≡ left ++ r ∷ [] → IsPiece q hf r p
    → Stands q hf ps (entries_of g) left → Stands q hf (ps ++ p ∷ []) (entries_of h) after_left
left_reads {Hash} q hf g h left after_left ps p r bytes is has kept absent unchanged same piece s =
    subst (λ (h : GroupsState Hash). Stands q hf (ps ++ p ∷ []) (entries_of h) after_left) (sym unchanged)
    (subst (λ l. Stands q hf (ps ++ p ∷ []) (entries_of g) l) (sym same) (reads_left q hf (entries_of g) left ps p bytes is has kept s r
    piece (no_key g bytes absent)))

-- once a record was spilled there are lists
lists_begun : (last : ℕ → ℕ → Type 0) (t : TapesState) (level : ℕ) (partitions : List OnTape) (spilled : List Record) (one : Record)
    → AreSpilled last t level partitions (spilled ++ one ∷ []) → is_empty partitions ≡ false
lists_begun last t level [] [] one none = absurd cc
lists_begun last t level [] (r ∷ spilled) one none = absurd cc
lists_begun last t level (tape ∷ partitions) spilled one are = refl

-- a row that WHERE passes over
pub passed_over : (q : Query) (all : List Group) (row : Row) → is_met (column_of row) q.condition ≡ false → piece_added q all (Of_row row)
    ≡ all
passed_over q all row unmet = ap (λ b. cond b (with_row q all row) all) unmet

module _ {Hash : Type 0} (plan : Plan) (hf : List ℕ → ℕ) (g : GroupsState Hash) (lists : PartitionsState) (last : ℕ → ℕ
    → Type 0) (key : List ℕ) (Are : List Piece → Type 0) (Moved : List ℕ → List ℕ → Type 0) (told : (more : List Piece) → Are more
    → Told (meaning plan.query.now) plan.most key Moved more) where
  counted : (pieces more : List Piece) (are : Are more) → CountUpTo (meaning plan.query.now) plan.most (pieces ++ more)
      → rows_at (meaning plan.query.now) (piece_key (meaning plan.query.now) (told more are).piece) pieces
      + weight (told more are).piece ≤ plan.most
  counted pieces more are count = can_count (meaning plan.query.now) plan.most pieces (told more are).piece
      (subst (λ more. CountUpTo (meaning plan.query.now) plan.most (pieces ++ more)) (told more are).is count)

  -- it goes to the group of its key
  pub one_there : (h : GroupsState Hash) (slot : Slot) → AreOnce (entries_of g) → Names g.table g.tree slot key
      → WritesAt g slot (Moved (state_in g.table g.tree slot)) h → Reads plan hf Are (standing g lists last) (standing h lists last)
  one_there h slot once named writes pieces more ahead pending (spilled, has, stands, spills) are count =
      let t = told more are in
      let low = counted pieces more are count in
      let at = named_at g slot key named.0.0 named.0.1 named.1 in
      let w = writes named.0.0 named.0.1 in
      let keys : packed_keys (entries_of h) ≡ packed_keys (entries_of g) =
      ap packed_keys (w.2 ∙ ap (λ (key : List ℕ). slice_set (entries_of g) named.0.0 (key, w.0)) named.1)
      ∙ keys_set (entries_of g) named.0.0 key (state_in g.table g.tree slot) w.0 at in (
        spilled,
        has,
        subst (λ more. Stands (meaning plan.query.now) hf (pieces ++ more) (entries_of h) spilled) (sym t.is)
            (there_reads (meaning plan.query.now) hf g h spilled pieces t.piece key slot (Moved (state_in g.table g.tree slot)) t.named
            t.has t.kept once named writes
            (λ new moved found mine. t.moves (rows_at (meaning plan.query.now) (piece_key (meaning plan.query.now) t.piece) pieces)
            (state_in g.table g.tree slot) new found moved low mine)
            stands),
        subst (λ more. Spills (meaning plan.query.now) (setting_of plan hf) (pieces ++ more) (entries_of h) lists.partitions spilled)
            (sym t.is)
            (spills_there (meaning plan.query.now) (setting_of plan hf) pieces t.piece key t.named t.kept (entries_of g) lists.partitions
            spilled spills (entries_of h) keys
            (among_entries (entries_of g) key (state_in g.table g.tree slot) named.0.0 at)),
      )

  -- whose states have room for it
  pub there_room : (slot : Slot) → Names g.table g.tree slot key → CanRead plan hf Are (standing g lists last) → (more : List Piece)
      × (are : Are more) × (m : ℕ) × (found : List Partial)
      × AreStates (functions (meaning plan.query.now)) m (state_in g.table g.tree slot) found
      × (m + weight (told more are).piece ≤ plan.most)
  there_room slot named (pieces, more, ahead, pending, (spilled, has, stands, spills), are, count) =
      let t = told more are in
      let found = states_at (meaning plan.query.now) hf g spilled pieces t.piece slot key t.named t.has stands named in (
        more,
        are,
        rows_at (meaning plan.query.now) (piece_key (meaning plan.query.now) t.piece) pieces,
        found.0,
        found.1,
        counted pieces
            more are count,
      )

  -- it makes a group of its own
  pub one_new : (h : GroupsState Hash) (states : List ℕ) → HasNo g.table g.tree key → lists.partitions ≡ []
      → fits (setting_of plan hf) (packed_keys (entries_of g) ++ key ∷ []) ≡ true → entries_of h ≡ entries_of g ++ (key, states) ∷ []
      → ((more : List Piece) (are : Are more) → weight (told more are).piece ≤ plan.most
      → AreStates (functions (meaning plan.query.now)) (weight (told more are).piece) states
      (after (meaning plan.query.now) None (told more are).piece)) → Reads plan hf Are (standing g lists last) (standing h lists last)
  one_new h states absent none fit entered makes pieces more ahead pending (spilled, has, stands, spills) are count =
      let t = told more are in
      let low = counted pieces more are count in
      let empty : spilled ≡ [] = subst (λ partitions. AreSpilled last lists.tapes lists.level partitions spilled) none has.spilled_are in (
        spilled,
        has,
        subst (λ more. Stands (meaning plan.query.now) hf (pieces ++ more) (entries_of h) spilled) (sym t.is)
            (new_reads (meaning plan.query.now) hf g h spilled spilled pieces t.piece key states t.named t.has t.kept absent empty refl
            entered (makes more are (omega (arith, low))) stands),
        subst (λ more. Spills (meaning plan.query.now) (setting_of plan hf) (pieces ++ more) (entries_of h) lists.partitions spilled)
            (sym t.is)
            (spills_new (meaning plan.query.now) (setting_of plan hf) pieces t.piece key t.named t.kept (entries_of g) lists.partitions
            spilled spills (entries_of h) states entered
            (none_of (entries_of g) key (no_key g key absent)) (ap is_empty none) fit),
      )

  -- there is room for a new group of it
  pub new_room : CanRead plan hf Are (standing g lists last) → (more : List Piece) × (are : Are more)
      × (weight (told more are).piece ≤ plan.most)
  new_room (pieces, more, ahead, pending, holds, are, count) = let low = counted pieces more are count in (more, are, omega (arith, low))

  -- it is spilled
  pub one_left : (h : GroupsState Hash) (after : PartitionsState) (now : ℕ → ℕ → Type 0) (one : Record) → HasNo g.table g.tree key
      → length plan.first.items ≡ states_width (meaning plan.query.now)
      → (is_empty lists.partitions && fits (setting_of plan hf) (packed_keys (entries_of g) ++ key ∷ [])) ≡ false → h ≡ g
      → ((more : List Piece) (are : Are more) → IsPiece (meaning plan.query.now) hf one (told more are).piece)
      → ((spilled ahead : List Record) (pending : List PendingPartition) → HasPartitions last lists spilled ahead pending
      → HasPartitions now after (spilled ++ one ∷ []) ahead pending) → Reads plan hf Are (standing g lists last) (standing h after now)
  one_left h after now one absent wide out unchanged is puts pieces more ahead pending (spilled, has, stands, spills) are count =
      let t = told more are in
      let put = puts spilled ahead pending has in (
        spilled ++ one ∷ [],
        put,
        subst (λ more. Stands (meaning plan.query.now) hf (pieces ++ more) (entries_of h) (spilled ++ one ∷ [])) (sym t.is)
            (left_reads (meaning plan.query.now) hf g h spilled (spilled ++ one ∷ []) pieces t.piece one key t.named t.has t.kept absent
            unchanged refl (is more are) stands),
        subst (λ more. Spills (meaning plan.query.now) (setting_of plan hf) (pieces ++ more) (entries_of h) after.partitions (spilled ++ one
            ∷ [])) (sym t.is)
            (subst (λ (h : GroupsState Hash). Spills (meaning plan.query.now) (setting_of plan hf) (pieces ++ t.piece ∷ []) (entries_of h)
            after.partitions (spilled ++ one ∷ [])) (sym unchanged)
            (spills_left (meaning plan.query.now) (setting_of plan hf) pieces t.piece key t.named t.kept (entries_of g) lists.partitions
            spilled spills one after.partitions wide (is more are)
            (none_of (entries_of g) key (no_key g key absent)) out (lists_begun now after.tapes after.level after.partitions spilled one
            put.spilled_are))),
      )

-- ---- over any disk

pub entries_long : {Hash : Type 0} (g : GroupsState Hash) → length (entries_of g) ≡ length g.table.slots
entries_long g = length-map g.table.slots (group_in g.table g.tree)

pub as_many : {Hash : Type 0} (g h : GroupsState Hash) → h.table ≡ g.table → length (entries_of h) ≡ length (entries_of g)
as_many g h same = entries_long h ∙ ap (λ (t : TableState SipHash). length t.slots) same ∙ sym (entries_long g)

pub safe_there : {Hash : Type 0} (q : Query) (bound : ℕ) (g h : GroupsState Hash) (slot : Slot) (key : List ℕ) (P : List ℕ → Type 0)
    → ((new : List ℕ) → P new → AreWithin (functions q) bound new) → Names g.table g.tree slot key → WritesAt g slot P h
    → AreSafe q bound (entries_of g) → AreSafe q bound (entries_of h)
safe_there q bound g h slot key P within (at, named) writes (groups, are) =
    let w = writes at.0 at.1 in
    let new = within w.0 w.1 in
    let found = by_at q (λ key. bound) (entries_of g) groups at.0 (key, state_in g.table g.tree slot) are
    (named_at g slot key at.0 at.1 named) in
    let one : Group = (found.group.0, new.0) in (
      slice_set groups at.0 one,
      subst (λ es. AreGroupsBy q (λ key. bound) es (slice_set groups at.0 one))
          (sym (w.2 ∙ ap (λ (key : List ℕ). slice_set (entries_of g) at.0 (key, w.0)) named))
          (by_set q (λ key. bound) (entries_of g) groups at.0 (key, w.0) one are
          (record { key = found.stands.key; of_kinds = found.stands.of_kinds; states = new.1 })),
    )

pub safe_new : {Hash : Type 0} (q : Query) (bound : ℕ) (g h : GroupsState Hash) (key states : List ℕ) (group : Group)
    → StandsFor q bound (key, states) group → entries_of h ≡ entries_of g ++ (key, states) ∷ [] → AreSafe q bound (entries_of g)
    → AreSafe q bound (entries_of h)
safe_new q bound g h key states group stands entered (groups, are) = (
  groups ++ group ∷ [],
  subst (λ es. AreGroupsBy q (λ key. bound) es (groups ++ group ∷ [])) (sym entered)
      (by_append q (λ key. bound) (entries_of g) ((key, states) ∷ []) groups (group ∷ []) are (stands, tt)),
)

-- ---- one record after the other

count_front : (q : Query) (m : ℕ) (ps more : List Piece) (i : ℕ) (p : Piece) → CountUpTo q m (ps ++ more) → slice_get more i ≡ Some p
    → CountUpTo q m ((ps ++ take i more) ++ p ∷ [])
count_front q m ps more i p count at k =
    let whole = count k in
    let all = rows_append q k ps more in
    let split : rows_at q k (take (i + 1) more ++ drop (i + 1) more) ≡ rows_at q k more = ap (rows_at q k) (take-append-drop (i + 1) more)
    in
    let partitions = rows_append q k (take (i + 1) more) (drop (i + 1) more) in
    let next : rows_at q k (take (i + 1) more) ≡ rows_at q k (take i more ++ p ∷ []) = ap (rows_at q k) (take_found more i p at) in
    let one = rows_append q k (take i more) (p ∷ []) in
    let front = rows_append q k ps (take i more) in
    let goal = rows_append q k (ps ++ take i more) (p ∷ []) in
    omega (arith, whole, all, split, partitions, next, one, front, goal)

module _ (plan : Plan) (hf : List ℕ → ℕ) (Are One : List Piece → Type 0) (old : PassState) (i : ℕ) (now : PassState)
    (h : ReadsSome plan hf Are i old now) (at : IsAt Are i One) where
  pub next_room : CanRead plan hf Are old → CanRead plan hf One now
  next_room (pieces, more, ahead, pending, holds, are, count) =
      let found = at more are in (
        pieces ++ take i more,
        found.0 ∷ [],
        ahead,
        pending,
        h pieces more ahead pending holds are count,
        found.2,
        count_front
            (meaning plan.query.now) plan.most pieces more i found.0 count found.1,
      )

  pub next_read : (next : PassState) → Reads plan hf One now next → ReadsSome plan hf Are (i + 1) old next
  next_read next reads pieces more ahead pending holds are count =
      let found = at more are in
      subst (λ pieces. Holds (meaning plan.query.now) (setting_of plan hf) next pieces ahead pending)
      (append_assoc pieces (take i more) (found.0 ∷ []) ∙ ap (λ more. pieces ++ more) (sym (take_found more i found.0 found.1)))
      (reads (pieces ++ take i more) (found.0 ∷ []) ahead pending (h pieces more ahead pending holds are count) found.2
      (count_front (meaning plan.query.now) plan.most pieces more i found.0 count found.1))

pub none_read : (plan : Plan) (hf : List ℕ → ℕ) (Are : List Piece → Type 0) (old : PassState) → ReadsSome plan hf Are 0 old old
none_read plan hf Are old pieces more ahead pending holds are count = subst (λ pieces. Holds (meaning plan.query.now) (setting_of plan hf)
    old pieces ahead pending) (sym (append-nil pieces)) holds

pub all_read : (plan : Plan) (hf : List ℕ → ℕ) (Are : List Piece → Type 0) (old : PassState) (i : ℕ) (now : PassState)
    → ReadsSome plan hf Are i old now → ((more : List Piece) → Are more → length more ≤ i) → Reads plan hf Are old now
all_read plan hf Are old i now h short pieces more ahead pending holds are count =
    subst (λ more. Holds (meaning plan.query.now) (setting_of plan hf) now (pieces ++ more) ahead pending)
    (take_all i more (short more are)) (h pieces more ahead pending holds are count)

-- ---- the pieces of rows, and of a run

pub flat_is_at : (q : Query) (packed : List (List ℕ)) (i : ℕ) (one : List ℕ) → slice_get packed i ≡ Some one
    → IsAt (AreRows q packed) i (AreRows q (one ∷ []))
flat_is_at q packed i one at more (rows, are, made) =
    let found = flat_row_at q.kinds packed rows i one are at in (
      Of_row found.row,
      ap (λ more. slice_get more i) made ∙ get_mapped Of_row rows i found.row found.at,
      (
        found.row
            ∷ [],
        record { of_kinds = (found.has, tt); packings_are = ap (λ one. one ∷ []) found.is },
        refl,
      ),
    )

pub flat_short : (q : Query) (packed : List (List ℕ)) (more : List Piece) → AreRows q packed more → length more ≡ length packed
flat_short q packed more (rows, are, made) = ap length made ∙ length-map rows Of_row
    ∙ sym (ap length are.packings_are ∙ length-map rows packing)

pub group_is_at : (q : Query) (most : ℕ) (run : List Entry) (i : ℕ) (key states : List ℕ) → slice_get run i ≡ Some (key, states)
    → IsAt (AreOfRun q most run) i (AreOfRun q most ((key, states) ∷ []))
group_is_at q most run i key states at more (groups, are, made) =
    let found = group_at q most run groups i (key, states) are at in (
      Of_group found.group most,
      ap (λ more. slice_get more i) made ∙ get_mapped (λ group. Of_group group most) groups i found.group
          found.at,
      (found.group ∷ [], (found.stands, tt), refl),
    )

pub run_short : (q : Query) (most : ℕ) (run : List Entry) (more : List Piece) → AreOfRun q most run more → length more ≡ length run
run_short q most run more (groups, are, made) = ap length made ∙ length-map groups (λ group. Of_group group most)
    ∙ sym (groups_long q most run groups are)

-- ---- how many groups there can be

brought_front : (q : Query) (more : List Piece) (i : ℕ) (p : Piece) → slice_get more i ≡ Some p → brought_by q (take (i + 1) more)
    ≡ brought_by q (take i more) + brought_by q (p ∷ [])
brought_front q more i p at = ap (brought_by q) (take_found more i p at) ∙ sum_by-append (brings q) (take i more) (p ∷ [])

-- the first pieces, so many, make as many groups and records as they bring at most
abbrev pub BringsSome : Query → (List Piece → Type 0) → ℕ → List Entry → PartitionsState → List Entry → PartitionsState → Type 0
BringsSome q Are i old before new after = (more : List Piece) → Are more → total new after ≤ total old before + brought_by q (take i more)

pub next_brings : (q : Query) (Are One : List Piece → Type 0) (i : ℕ) (old now next : List Entry) (before at after : PartitionsState)
    → IsAt Are i One → BringsSome q Are i old before now at → Brings q One now at next after
    → BringsSome q Are (i + 1) old before next after
next_brings q Are One i old now next before at after place some one more are =
    let found = place more are in
    let a = some more are in
    let b = one (found.0 ∷ []) found.2 in
    let c = brought_front q more i found.0 found.1 in
    omega (arith, a, b, c)

pub all_brings : (q : Query) (Are : List Piece → Type 0) (i : ℕ) (old new : List Entry) (before after : PartitionsState)
    → BringsSome q Are i old before new after → ((more : List Piece) → Are more → length more ≤ i) → Brings q Are old before new after
all_brings q Are i old new before after some short more are = subst (λ some. total new after ≤ total old before + brought_by q some)
    (take_all i more (short more are)) (some more are)

-- ---- whether a group enters

pub fit_told : (a f : Bool) → true ≡ (a && f) → f ≡ true
fit_told true f is = sym is
fit_told false f is = absurd cc

pub proceeds_new : {Hash : Type 0} (g h : GroupsState Hash) (lists : PartitionsState) (entry : Entry) → entries_of h ≡ entries_of g ++ entry
    ∷ [] → Proceeds (entries_of g) lists (entries_of h) lists
proceeds_new g h lists entry entered =
    let long : length (entries_of h) ≡ length (entries_of g) + 1 = ap length entered ∙ length-append (entries_of g) (entry ∷ []) in
    record { first = λ none clear. clear; slow = omega arith; few = omega (arith, long) }
