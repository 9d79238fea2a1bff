-- What the code keeps, before and after a command.
use Rattle.std.specs.Prelude.{◌≡◌, ◌≢◌, ◌<◌, ◌≤◌, ◌⊎◌, ◌&&◌, nat_le, refl, ℕ, Bool, true, false, if◌then◌else◌, List, [], length, Option}
use Rattle.std.specs.Prelude.{Some, None, IfSome, IsTrue, option_map, unwrap_or, string_bytes, codes, Err}
use Rattle.std.proofs.Common.{◌∙◌, ap, sym, subst, inl, inr, arith}
use Rattle.std.specs.declared.alloc.Global.{Global}
use Rattle.std.specs.declared.vec.Vec.{Vec}
use Rattle.std.specs.Borrow.{Bor}
use Rattle.std.specs.Option.{is_some}
use Rattle.std.specs.declared.string.String.{String}
use Rattle.std.specs.Map.{lookup, KeepsOthers}
use Rattle.std.specs.Str.{bytes_eq}
use Rattle.std.specs.HashMap.{HashMap, UpdatesBy}
use Rattle.std.proofs.lemmas.Slice.Eq.{bytes_eq-Decides}
use Rattle.std.proofs.lemmas.Bool.{true≢false, false_from_ne_true}
use Rattle.script_machine.proofs.Words.{World, IsWorld, Knowledge, nothing, learn, union, Column, kinds, IsSchemaText, printed, Checked}
use Rattle.script_machine.proofs.Words.{meaning, Accepts, known_list, reply_of, Held, told, Fits, SameQuery, MergeTells, Record, Fed}
use Rattle.script_machine.proofs.Words.{IsBatch, IsNoBatch, IsNoQuery, Takes, IsOfBatch, IsOtherBatch, State, Exactly}
use Rattle.script_machine.proofs.Words.{limit_reply, replica_reply, IsReply, FeedAgrees, uses_tapes, with_replica, line, known_text}
use Rattle.script_machine.proofs.Words.{answer_text, said_text, IsHeldAt, TellsDisagreement, Store, IsStore, IsFileOf, AreSaved}
use Rattle.script_machine.proofs.Words.{IsReplicaFile}
use Rattle.script_machine.proofs.Words.{IsFitting, Represents, FitsWorld, Answers, Steps, JoinRefused, JoinsNames, Updates, Files}
use Rattle.script_machine.proofs.Words.{replica_at, saved_at, knowledge_of, limit_out_of_range, columns_refusal, merge_refusal, Refusal}
use Rattle.script_machine.proofs.Words.{Becomes, KeepsAll, As_defined, TakesFed, For_memory, For_fault, As_always}
use Rattle.script_machine.proofs.Words.{For_disagreement, For_damage}
use Rattle.script_machine.proofs.Reasons.{ColumnsReply, FeedReply, QueryReply, Replies, answer_reply, exactly, known_reply, load_reply}
use Rattle.script_machine.proofs.Reasons.{merge_reply, rightly, save_reply}
use Rattle.grouping_model.specs.Answer.{answer}
use Rattle.query_checks.specs.Spelling.{spelling}
use Rattle.having_filter.specs.Kept.{by_names}
use Rattle.grouping_model.specs.declared.delivered.Delivered.{Delivered}
use Rattle.summary_codec.specs.Reading.{IsSaved}
use Rattle.replica_merge.specs.Lemmas.EmptyLaws.{empty_fits}
use Rattle.replica_merge.specs.Results.{MergesHeld}
use Rattle.summary_codec.specs.WorldFile.{world_file}
use Rattle.script_commands.specs.Commands as ask
use Rattle.script_commands.specs.Commands.{Request}
use Rattle.script_machine.specs.Machine as machine
use Rattle.refusals.specs.FeedLaws.{apart_never_fit}
use Rattle.replies.specs.Printed.{PrintsAnswer}
use Rattle.replies.specs.PrintedLaws.{printed_world}
use Rattle.refusals.specs.Refusals.{IsApart}
use Rattle.spill_partitions.specs.declared.error.SpillError.TheVariants as spill
use Rattle.hash_agg.specs.declared.means.TheConstants.{MIN_LIMIT, MAX_LIMIT}
use Rattle.hash_agg.specs.Means.{MeansState}
use Rattle.packed_rows.specs.Refusal.{ParseFault}
use Rattle.packed_rows.specs.declared.error.RowError.{RowError}
use Rattle.packed_rows.specs.declared.error.RowError.TheVariants as row
use Rattle.origin_prefix.specs.declared.error.JoinError.TheVariants as join
use Rattle.replica_merge.specs.declared.error.MergeError.{MergeError}
use Rattle.replica_merge.specs.declared.error.MergeError.TheVariants as merge
use Rattle.refusals.specs.declared.refusal.Refusal.TheVariants as why
use Rattle.replies.specs.declared.reply.Reply.{Reply}
use Rattle.replies.specs.declared.reply.Reply.TheVariants as says
use Rattle.replies.specs.declared.showing.Format.TheVariants.{Csv}

-- ---- names

-- a key that passes the test of a name has its bytes
apart : (name other bytes : List ℕ) → bytes_eq name other ≡ false → bytes_eq name bytes ≡ true → bytes_eq other bytes ≡ false
apart name other bytes different same =
    false_from_ne_true (bytes_eq other bytes)
    (λ e. true≢false (sym ((bytes_eq-Decides name other).1 ((bytes_eq-Decides name bytes).0 same
    ∙ sym ((bytes_eq-Decides other bytes).0 e))) ∙ different))

alike : (name x y : List ℕ) → bytes_eq name x ≡ true → bytes_eq name y ≡ bytes_eq x y
alike name x y same = ap (λ bytes. bytes_eq bytes y) ((bytes_eq-Decides name x).0 same)

-- what a change at one name leaves at the others
others_kept : {X : Type 0} (name other : List ℕ) (old new : List (Vec ℕ Global × X))
    → KeepsOthers (λ (x y : Vec ℕ Global). bytes_eq x.items y.items) (λ (key : Vec ℕ Global). bytes_eq name key.items) old new
    → bytes_eq name other ≡ false
    → lookup (λ (key : Vec ℕ Global). bytes_eq other key.items) new ≡ lookup (λ (key : Vec ℕ Global). bytes_eq other key.items) old
unfolding KeepsOthers
others_kept name other old new keeps different =
    keeps (λ (key : Vec ℕ Global). bytes_eq other key.items) (λ x y. alike other x.items y.items)
    (λ key. apart name other key.items different)

-- what was put under a key was put under the name that the key is
pub put_named : {S V : Type 0} (key name : List ℕ) (given held : V) (old new : HashMap (Vec ℕ Global) V S) → key ≡ name → given ≡ held
    → UpdatesBy (λ (x y : Vec ℕ Global). bytes_eq x.items y.items) (λ (k : Vec ℕ Global). bytes_eq key k.items) old new (Some given)
    → UpdatesBy (λ (x y : Vec ℕ Global). bytes_eq x.items y.items) (λ (k : Vec ℕ Global). bytes_eq name k.items) old new (Some held)
put_named key name given held old new same is u =
    subst (λ v. UpdatesBy (λ (x y : Vec ℕ Global). bytes_eq x.items y.items) (λ (k : Vec ℕ Global). bytes_eq name k.items) old new (Some v))
    is
    (subst (λ q. UpdatesBy (λ (x y : Vec ℕ Global). bytes_eq x.items y.items) (λ (k : Vec ℕ Global). bytes_eq q k.items) old new
    (Some given)) same u)

-- what the code keeps, by its parts
abbrev kept : {H : Type 0} → Option (List Column) → Option Checked → List (Vec ℕ Global × Held) → List (Vec ℕ Global × List ℕ)
    → MeansState H → Store
kept columns query replicas saved means =
    record { columns = columns; query = query; replicas = replicas; saved = saved; limit = means.limit; seed = means.seed }

-- a map that was updated at a name is a store that was
pub updated : {S H : Type 0} (means : MeansState H) (columns : Option (List Column)) (query : Option Checked)
    (saved : List (Vec ℕ Global × List ℕ))
    (name : List ℕ) (held : Held) (old new : HashMap (Vec ℕ Global) Held S)
    → UpdatesBy (λ (x y : Vec ℕ Global). bytes_eq x.items y.items) (λ (key : Vec ℕ Global). bytes_eq name key.items) old new (Some held)
    → Updates (kept columns query old.entries saved means) (kept columns query new.entries saved means) name held
updated means columns query saved name held old new u =
    record {
      columns = refl;
      query = refl;
      own = u.1;
      others = λ other. others_kept name other old.entries new.entries u.3;
      saved = refl;
      limit = refl;
      seed = refl;
    }

-- files that stay are found as they were
files_at : (old new : Store) → new.saved ≡ old.saved → (name : List ℕ) → saved_at new name ≡ saved_at old name
files_at old new stay name = ap (λ es. lookup (λ (key : Vec ℕ Global). bytes_eq name key.items) es) stay

-- what holds of each replica, and of the new one, holds of each replica then
pub each_replica : (P : Held → Type 0) (old new : Store) (name : List ℕ) (held : Held) → Updates old new name held → P held
    → ((other : List ℕ) → IfSome (replica_at old other) P) → (other : List ℕ) → IfSome (replica_at new other) P
each_replica P old new name held u p all other = go (bytes_eq name other) refl
  where
    go : (b : Bool) → bytes_eq name other ≡ b → IfSome (replica_at new other) P
    go true e = subst (λ bytes. IfSome (replica_at new bytes) P) ((bytes_eq-Decides name other).0 e) (subst (λ o. IfSome o P) (sym u.own) p)
    go false e = subst (λ o. IfSome o P) (sym (u.others other e)) (all other)

-- a store stays one where a replica has the query
pub store_updated : (old new : Store) (name : List ℕ) (held : Held) → Updates old new name held → old.query ≡ Some held.query → IsStore old
    → IsStore new
store_updated old new name held u asks is =
    record {
      over = subst (λ q. IfSome q (λ (query : Checked). new.columns ≡ Some query.columns)) (sym u.query)
          (subst (λ cs. IfSome old.query (λ (query : Checked). cs ≡ Some query.columns)) (sym u.columns) is.over);
      asked =
          subst (λ q. (other : List ℕ) → IfSome (replica_at new other) (λ (h : Held). q ≡ Some h.query)) (sym u.query)
          (each_replica (λ h. old.query ≡ Some h.query) old new name held u asks is.asked);
      files = λ other. subst (λ o. IfSome o (IsFileOf new.query)) (sym (files_at old new u.saved other))
          (subst (λ q. IfSome (saved_at old other) (IsFileOf q)) (sym u.query) (is.files other));
    }

-- what is known after a change at a name
known_updated : (state : State) (old new : Store) (name : List ℕ) (held : Held) → Represents state old → Updates old new name held
    → (other : List ℕ) → with_replica state.replicas name (knowledge_of held) other ≡ option_map knowledge_of (replica_at new other)
known_updated state old new name held r u other = go (bytes_eq name other) refl
  where
    go : (b : Bool) → bytes_eq name other ≡ b → (if b then Some (knowledge_of held) else state.replicas other)
        ≡ option_map knowledge_of (replica_at new other)
    go true e = ap (option_map knowledge_of) (sym (ap (replica_at new) (sym ((bytes_eq-Decides name other).0 e)) ∙ u.own))
    go false e = r.replicas other ∙ ap (option_map knowledge_of) (sym (u.others other e))

-- the rows fit a world after a change at a name
pub fits_updated : (world : World) (old new : Store) (name : List ℕ) (held : Held) → Updates old new name held → Fits world held
    → FitsWorld world old → FitsWorld world new
fits_updated world old new name held u fits f =
    record {
      of_columns = subst (λ cs. IfSome cs (λ (columns : List Column). IsWorld (kinds columns) world)) (sym u.columns) f.of_columns;
      fit = each_replica (λ h. Fits world h) old new name held u fits f.fit;
      files = λ other. subst (λ o. IfSome o (IsFitting world)) (sym (files_at old new u.saved other)) (f.files other);
    }

-- the files are what was saved, where they stay
saved_still : (state : State) (old new : Store) → new.saved ≡ old.saved → Represents state old → (name : List ℕ)
    → AreSaved (state.saved name) (saved_at new name)
saved_still state old new stay r name = subst (AreSaved (state.saved name)) (sym (files_at old new stay name)) (r.saved name)

-- where one name has another replica now, and the state knows what that tells, the state stands for the store again
represents_updated : (state : State) (old new : Store) (name : List ℕ) (held : Held) (known : Knowledge) → Represents state old
    → Updates old new name held → known ≡ knowledge_of held
    → Represents (record state { replicas = with_replica state.replicas name known }) new
represents_updated state old new name held known r u same =
    record {
      columns = r.columns ∙ sym u.columns;
      query = r.query ∙ sym u.query;
      replicas = λ other. ap (λ k. with_replica state.replicas name k other) same ∙ known_updated state old new name held r u other;
      saved = saved_still state old new u.saved r;
      limit = r.limit ∙ sym u.limit;
    }

-- ---- refusals

-- nothing is changed
pub record Same (old new : Store) : Type 0 where
  pub columns : new.columns ≡ old.columns
  pub query : new.query ≡ old.query
  pub replicas : (name : List ℕ) → replica_at new name ≡ replica_at old name
  pub saved : (name : List ℕ) → saved_at new name ≡ saved_at old name
  pub limit : new.limit ≡ old.limit
  pub seed : new.seed ≡ old.seed

pub same : (store : Store) → Same store store
same store = record { columns = refl; query = refl; replicas = λ name. refl; saved = λ name. refl; limit = refl; seed = refl }

-- a replica that was replaced by itself
pub same_updated : (old new : Store) (name : List ℕ) (held : Held) → Updates old new name held → replica_at old name ≡ Some held
    → Same old new
same_updated old new name held u there = record {
  columns = u.columns;
  query = u.query;
  replicas = λ other. go other (bytes_eq name other)
      refl;
  saved = files_at old new u.saved;
  limit = u.limit;
  seed = u.seed;
}
  where
    go : (other : List ℕ) (b : Bool) → bytes_eq name other ≡ b → replica_at new other ≡ replica_at old other
    go other true e = ap (replica_at new) (sym ((bytes_eq-Decides name other).0 e)) ∙ u.own ∙ sym there
        ∙ ap (replica_at old) ((bytes_eq-Decides name other).0 e)
    go other false e = u.others other e

-- a map that is as it was
pub same_entries : {H : Type 0} (means : MeansState H) (columns : Option (List Column)) (query : Option Checked)
    (saved : List (Vec ℕ Global × List ℕ))
    (old new : List (Vec ℕ Global × Held)) → new ≡ old
    → Same (kept columns query old saved means) (kept columns query new saved means)
same_entries means columns query saved old new e =
    record {
      columns = refl;
      query = refl;
      replicas = λ name. ap (λ es. lookup (λ (key : Vec ℕ Global). bytes_eq name key.items) es) e;
      saved = λ name. refl;
      limit = refl;
      seed = refl;
    }

pub same_files : {H : Type 0} (means : MeansState H) (columns : Option (List Column)) (query : Option Checked)
    (replicas : List (Vec ℕ Global × Held))
    (old new : List (Vec ℕ Global × List ℕ)) → new ≡ old
    → Same (kept columns query replicas old means) (kept columns query replicas new means)
same_files means columns query replicas old new e =
    record {
      columns = refl;
      query = refl;
      replicas = λ name. refl;
      saved = λ name. ap
          (λ es. lookup (λ (key : Vec ℕ Global). bytes_eq name key.items) es) e;
      limit = refl;
      seed = refl;
    }

keeps_all : (old new : Store) → Same old new → KeepsAll old new
keeps_all old new s = record { replicas = s.replicas; saved = s.saved }

-- what is refused leaves replicas and files as they were
refused_keeps : (honest : Bool) (request : Request) (owned : List Record) (old new : Store) (refusal : Refusal) → Same old new
    → Becomes honest request owned old (says.Refused refusal) new
refused_keeps honest (ask.Feed name origin number told) owned old new refusal s = keeps_all old new s
refused_keeps honest request owned old new refusal s = keeps_all old new s

still : (state : State) (old new : Store) → Same old new → Represents state old → Represents state new
still state old new s r =
    record {
      columns = r.columns ∙ sym s.columns;
      query = r.query ∙ sym s.query;
      replicas = λ name. r.replicas name ∙ ap (option_map knowledge_of) (sym (s.replicas name));
      saved = λ name. subst (AreSaved (state.saved name)) (sym (s.saved name)) (r.saved name);
      limit = r.limit ∙ sym s.limit;
    }

still_fits : (world : World) (old new : Store) → Same old new → FitsWorld world old → FitsWorld world new
still_fits world old new s f =
    record {
      of_columns = subst (λ cs. IfSome cs (λ columns. IsWorld (kinds columns) world)) (sym s.columns) f.of_columns;
      fit = λ name. subst (λ o. IfSome o (λ (h : Held). Fits world h)) (sym (s.replicas name)) (f.fit name);
      files = λ name. subst (λ o. IfSome o (IsFitting world)) (sym (s.saved name)) (f.files name);
    }

-- no memory, or another refusal
memory_or : (refusal : Refusal) → (refusal ≡ why.NoMemory) ⊎ (refusal ≢ why.NoMemory)
memory_or why.NoMemory = inl refl
memory_or refusal = inr (λ e. cc)

-- ---- columns and query

none_there : {X : Type 0} (o : Option X) → is_some o ≡ false → o ≡ None
none_there None e = refl
none_there (Some x) e = absurd (true≢false e)

-- the machine's reply to a query's text, where these columns and this query were told
query_says : (state : State) (store : Store) (text : List ℕ) (columns : List Column) (asked : Option Checked) (reply : machine.Reply)
    → Represents state store → store.columns ≡ Some columns → store.query ≡ asked
    → QueryReply (Some columns) asked text reply → QueryReply state.columns state.query text reply
query_says state store text columns asked reply r told same says =
    subst (λ cs. QueryReply cs state.query text reply) (sym (r.columns ∙ told)) (subst (λ q. QueryReply (Some columns) q text reply)
    (sym (r.query ∙ same)) says)

-- a store with its first query: no replica is there yet
pub store_asked : (store : Store) (columns : List Column) (query : Checked) → IsStore store → store.columns ≡ Some columns
    → is_some store.query ≡ false
    → query.columns ≡ columns → IsStore (record store { query = Some query })
store_asked store columns query is told none over =
    record {
      over = told ∙ ap Some (sym over);
      asked = λ name. go (replica_at store name) (subst (λ q. IfSome (replica_at store name) (λ (held : Held). q ≡ Some held.query))
          (none_there store.query none) (is.asked name));
      files = λ name. never (saved_at store name) (subst (λ q. IfSome (saved_at store name) (IsFileOf q)) (none_there store.query none)
          (is.files name));
    }
  where
    never : (o : Option (List ℕ)) → IfSome o (IsFileOf None) → IfSome o (IsFileOf (Some query))
    never None h = tt
    never (Some bytes) h = absurd (let e = h.asked in cc)

    go : (o : Option Held) → IfSome o (λ (held : Held). (◌≡◌ {A = Option Checked} None (Some held.query)))
        → IfSome o (λ (held : Held). (◌≡◌ {A = Option Checked} (Some query) (Some held.query)))
    go None h = tt
    go (Some held) h = absurd cc

-- ---- replicas

-- a file that is there is that of a replica
pub file_there : (store : Store) (saved bytes : List ℕ) → IsStore store → saved_at store saved ≡ Some bytes → IsReplicaFile bytes
file_there store saved bytes is there =
    let file : IsFileOf store.query bytes = subst (λ o. IfSome o (IsFileOf store.query)) there (is.files saved) in (file.held, file.is)

some_there : {X : Type 0} (o : Option X) → is_some o ≡ true → (x : X) × (o ≡ Some x)
some_there None e = absurd (true≢false (sym e))
some_there (Some x) e = (x, refl)

-- the columns and the query of a replica are those of the store
pub held_asks : (store : Store) (name : List ℕ) (held : Held) → IsStore store → replica_at store name ≡ Some held
    → (store.query ≡ Some held.query) × (store.columns ≡ Some held.query.columns)
held_asks store name held is there =
    let asks : store.query ≡ Some held.query = subst (λ o. IfSome o (λ (h : Held). store.query ≡ Some h.query)) there (is.asked name) in
    (asks, subst (λ q. IfSome q (λ (query : Checked). store.columns ≡ Some query.columns)) asks is.over)

-- another replica of the same query in the place of one leaves a store of one query
pub store_replaced : {S H : Type 0} (means : MeansState H) (columns : Option (List Column)) (query : Option Checked)
    (saved : List (Vec ℕ Global × List ℕ)) (name : List ℕ) (held later : Held) (old new : HashMap (Vec ℕ Global) Held S)
    → IsStore (kept columns query old.entries saved means)
    → replica_at (kept columns query old.entries saved means) name ≡ Some held
    → later.query ≡ held.query
    → UpdatesBy (λ (x y : Vec ℕ Global). bytes_eq x.items y.items) (λ (key : Vec ℕ Global). bytes_eq name key.items) old new (Some later)
    → IsStore (kept columns query new.entries saved means)
store_replaced means columns query saved name held later old new is there same u =
    let before : Store = kept columns query old.entries saved means in
    store_updated before _ name later (updated means columns query saved name later old new u) ((held_asks before name held is there).0
    ∙ ap Some (sym same)) is

known_there : (state : State) (store : Store) (name : List ℕ) (held : Held) → Represents state store → replica_at store name ≡ Some held
    → state.replicas name ≡ Some (knowledge_of held)
known_there state store name held r there = r.replicas name ∙ ap (option_map knowledge_of) there

known_nowhere : (state : State) (store : Store) (name : List ℕ) → Represents state store → replica_at store name ≡ None
    → state.replicas name ≡ None
known_nowhere state store name r none = r.replicas name ∙ ap (option_map knowledge_of) none

-- a feed's columns are those of its replica
feed_columns : (state : State) (store : Store) (name : List ℕ) (held : Held) → Represents state store → IsStore store
    → replica_at store name ≡ Some held
    → unwrap_or state.columns [] ≡ held.query.columns
feed_columns state store name held r is there = ap (λ cs. unwrap_or cs []) (r.columns ∙ (held_asks store name held is there).1)

-- a world that a store fits is one of its replicas' columns
columns_of_world : (world : World) (store : Store) (name : List ℕ) (held : Held) → IsStore store → replica_at store name ≡ Some held
    → FitsWorld world store → IsWorld (kinds held.query.columns) world
columns_of_world world store name held is there f = subst (λ cs. IfSome cs (λ (columns : List Column). IsWorld (kinds columns) world))
    (held_asks store name held is there).1 f.of_columns

-- a batch that was fed is the world's
fed_of_world : (world : World) (state : State) (store : Store) (name origin number : List ℕ) (told_rows : ℕ) (owned : List Record)
    (held : Held) → IsStore store → replica_at store name ≡ Some held → Represents state store
    → FeedAgrees world state (ask.Feed name origin number told_rows) owned → (fed : Fed)
    → IsBatch (kinds held.query.columns) origin number told_rows owned fed → world fed.origin fed.number ≡ Some fed.rows
fed_of_world world state store name origin number told_rows owned held is there r agrees fed batch =
    subst (λ o. IfSome o (λ known. (other : Fed) → IsBatch (kinds (unwrap_or state.columns [])) origin number told_rows owned other
    → world other.origin other.number ≡ Some other.rows)) (known_there state store name held r there) agrees fed
    (subst (λ cs. IsBatch (kinds cs) origin number told_rows owned fed) (sym (feed_columns state store name held r is there)) batch)

pub disagrees_or : (refusal : Refusal) → ((of : ℕ) × (at : Option ℕ) × (refusal ≡ why.OriginDisagrees of at))
    ⊎ ((of : ℕ) (at : Option ℕ) → refusal ≢ why.OriginDisagrees of at)
disagrees_or (why.OriginDisagrees of at) = inl (of, at, refl)
disagrees_or refusal = inr (λ of at e. cc)

-- what a refusal of a merge tells
pub merge_tells : (store : Store) (into from : List ℕ) (owned : List Record) (refusal : Refusal)
    → IsHeldAt store into (λ own. IsHeldAt store from (λ theirs. IsApart own theirs refusal))
    → TellsDisagreement store (ask.Merge into from) owned (says.Refused refusal)
merge_tells store into from owned (why.OriginDisagrees of at) apart = apart
merge_tells store into from owned why.TapeFault apart = apart
merge_tells store into from owned why.TapeDamaged apart = apart
merge_tells store into from owned refusal apart = tt

-- ---- merging

-- all replicas have one query
pub one_query : (store : Store) (into from : List ℕ) (own theirs : Held) → IsStore store → replica_at store into ≡ Some own
    → replica_at store from ≡ Some theirs → own.query ≡ theirs.query
one_query store into from own theirs is one two =
    ap (λ o. unwrap_or o own.query) (sym (held_asks store into own is one).0 ∙ (held_asks store from theirs is two).0)

pub same_texts : (a b : Checked) → a ≡ b → SameQuery a b
same_texts a b same = (ap (λ (q : Checked). printed q.columns) same, ap (λ (q : Checked). spelling (by_names q)) same)

-- why two replicas are not joined, by their names
pub joins_names : (honest : Bool) (store : Store) (into from : List ℕ) (own theirs : Held) (refusal : Refusal) → IsStore store
    → replica_at store into ≡ Some own → replica_at store from ≡ Some theirs → IsApart own theirs refusal
    → JoinsNames honest store into from (Err refusal)
joins_names honest store into from own theirs refusal is one two is_apart =
    subst (λ o. JoinRefused o (replica_at store from) refusal) (sym one)
    (subst (λ o. JoinRefused (Some own) o refusal) (sym two)
    (subst (JoinRefused (Some own) (Some theirs)) (sym is_apart.1)
    (go is_apart.0 is_apart.2 (λ of at told. apart_never_fit own theirs of at (subst (IsApart own theirs) (is_apart.1 ∙ told) is_apart)))))
  where
    go : (error : MergeError) → MergeTells error own theirs → ((of : ℕ) (at : Option ℕ) → merge_refusal error ≡ why.OriginDisagrees of at
        → (world : World) → Fits world own → ¬ (Fits world theirs))
        → JoinRefused (Some own) (Some theirs) (merge_refusal error)
    go merge.DifferentQuery different never = absurd
        (different (same_texts own.query theirs.query (one_query store into from own theirs is one two)))
    go merge.NoMemory tells never = tt
    go (merge.Join origin (join.OriginDisagrees number)) tells never = never origin number refl
    go (merge.Join origin (join.Spill spill.NoMemory)) tells never = tt
    go (merge.Join origin (join.Spill spill.TapeFault)) tells never = tt
    go (merge.Join origin (join.Spill spill.TapeDamaged)) tells never = tt

-- what is there is one
pub one_there : {o : Option Held} (a b : Held) → o ≡ Some a → o ≡ Some b → a ≡ b
one_there a b one two = ap (λ x. unwrap_or x a) (sym one ∙ two)

-- ---- saving and loading

-- a map that was updated at a name has another file
pub filed : {S H : Type 0} (means : MeansState H) (columns : Option (List Column)) (query : Option Checked)
    (replicas : List (Vec ℕ Global × Held))
    (name : List ℕ) (bytes : List ℕ) (old new : HashMap (Vec ℕ Global) (List ℕ) S)
    → UpdatesBy (λ (x y : Vec ℕ Global). bytes_eq x.items y.items) (λ (key : Vec ℕ Global). bytes_eq name key.items) old new (Some bytes)
    → Files (kept columns query replicas old.entries means)
    (kept columns query replicas new.entries means) name bytes
filed means columns query replicas name bytes old new u =
    record {
      columns = refl;
      query = refl;
      replicas = refl;
      own = u.1;
      others = λ other. others_kept name other old.entries new.entries u.3;
      limit = refl;
      seed = refl;
    }

-- what holds of each file, and of the new one, holds of each file then
each_file : (P : List ℕ → Option (List ℕ) → Type 0) (old new : Store) (name : List ℕ) (bytes : List ℕ) → Files old new name bytes
    → P name (Some bytes) → ((other : List ℕ) → bytes_eq name other ≡ false → P other (saved_at old other)) → (other : List ℕ)
    → P other (saved_at new other)
each_file P old new name bytes u p all other = go (bytes_eq name other) refl
  where
    go : (b : Bool) → bytes_eq name other ≡ b → P other (saved_at new other)
    go true e = subst (λ n. P n (saved_at new n)) ((bytes_eq-Decides name other).0 e) (subst (P name) (sym u.own) p)
    go false e = subst (P other) (sym (u.others other e)) (all other e)

replicas_at : (old new : Store) → new.replicas ≡ old.replicas → (name : List ℕ) → replica_at new name ≡ replica_at old name
replicas_at old new stay name = ap (λ es. lookup (λ (key : Vec ℕ Global). bytes_eq name key.items) es) stay

-- a store stays one with a file of its query
pub store_filed : (old new : Store) (name : List ℕ) (bytes : List ℕ) → Files old new name bytes → IsFileOf old.query bytes → IsStore old
    → IsStore new
store_filed old new name bytes u file is =
    record {
      over = subst (λ q. IfSome q (λ (query : Checked). new.columns ≡ Some query.columns)) (sym u.query)
          (subst (λ cs. IfSome old.query (λ (query : Checked). cs ≡ Some query.columns)) (sym u.columns) is.over);
      asked = λ other. subst (λ o. IfSome o (λ (h : Held). new.query ≡ Some h.query)) (sym (replicas_at old new u.replicas other))
          (subst (λ q. IfSome (replica_at old other) (λ (h : Held). q ≡ Some h.query)) (sym u.query) (is.asked other));
      files = subst (λ q. (other : List ℕ) → IfSome (saved_at new other) (IsFileOf q)) (sym u.query)
          (each_file (λ other o. IfSome o (IsFileOf old.query)) old new name bytes u file (λ other different. is.files other));
    }

-- what is loaded has the query
pub loaded_asks : (store : Store) (saved : List ℕ) (bytes : List ℕ) (later : Held) → IsStore store → saved_at store saved ≡ Some bytes
    → ((held : Held) → IsSaved bytes held.query held.parts → later ≡ held)
    → store.query ≡ Some later.query
loaded_asks store saved bytes later is there same =
    let file = subst (λ o. IfSome o (IsFileOf store.query)) there (is.files saved) in
    file.asked ∙ ap (λ (h : Held). Some h.query) (sym (same file.held file.is))

-- ---- a command's steps, told of the store as it is called

pub leaves_it : {honest : Bool} {request : Request} {owned : List Record} {reply : Reply} {old now : Store} → old ≡ now
    → Steps honest request owned old reply old → Steps honest request owned now reply now
leaves_it {honest = honest} {request = request} {owned = owned} {reply = reply} same steps =
    subst (λ s. Steps honest request owned s reply s) same steps

pub turns_it : {honest : Bool} {request : Request} {owned : List Record} {reply : Reply} {old now new : Store} → old ≡ now
    → Steps honest request owned old reply new → Steps honest request owned now reply new
turns_it {honest = honest} {request = request} {owned = owned} {reply = reply} {new = new} same steps =
    subst (λ s. Steps honest request owned s reply new) same steps

-- ---- replies, over a tape disk that may be honest

module _ {honest : Bool} where
  -- a refusal of the code is one of the machine's
  pub refused_for : (request : Request) (owned : List Record) (old new : Store) (refusal : Refusal) → Same old new
      → ((state : State) → Represents state old → IsReply Exactly state request owned (machine.Refused refusal))
      → Steps honest request owned old (says.Refused refusal) new
  refused_for request owned old new refusal s may =
      record {
        steps = λ state r. record {
          said = machine.Refused refusal;
          may = As_always (may state r);
          strict = λ right world f agrees. may state r;
          represents = still state old new s r;
          is = refl;
          fits = λ right world f agrees. still_fits world old new s f;
          reads = λ world. refl;
          text = λ right world f agrees. refl;
        };
        becomes = refused_keeps honest request owned old new refusal s;
        seed = s.seed;
      }

  -- a refusal since the disk returned data that was not written to it
  pub damaged : (request : Request) (owned : List Record) (old new : Store) → Same old new → (IsTrue honest → ⊥)
      → IsTrue (uses_tapes request) → Steps honest request owned old (says.Refused why.TapeDamaged) new
  damaged request owned old new s never uses =
      record {
        steps = λ state r. record {
          said = machine.Refused why.TapeDamaged;
          may = For_damage (record { dishonest = false_from_ne_true honest never; aggregates = uses; refused = refl });
          strict = λ right. absurd (never right);
          represents = still state old new s r;
          is = refl;
          fits = λ right. absurd (never right);
          reads = λ world. refl;
          text = λ right. absurd (never right);
        };
        becomes = refused_keeps honest request owned old new why.TapeDamaged s;
        seed = s.seed;
      }

  pub no_memory_same : (request : Request) (owned : List Record) (old new : Store) → Same old new
      → Steps honest request owned old (says.Refused why.NoMemory) new
  no_memory_same request owned old new s = refused_for request owned old new why.NoMemory s (λ state r. For_memory refl)

  pub out_of_memory : (request : Request) (owned : List Record) (store : Store)
      → Steps honest request owned store (says.Refused why.NoMemory) store
  out_of_memory request owned store = refused_for request owned store store why.NoMemory (same store) (λ state r. For_memory refl)

  pub refused : (request : Request) (owned : List Record) (store : Store) (refusal : Refusal)
      → ((state : State) → Represents state store → Replies state request owned (machine.Refused refusal))
      → Steps honest request owned store (says.Refused refusal) store
  refused request owned store refusal replies = refused_for request owned store store refusal (same store)
      (λ state r. rightly (replies state r))

  -- a refusal that may be because memory ran out
  pub refused_or_memory : (request : Request) (owned : List Record) (old new : Store) (refusal : Refusal) → Same old new
      → (refusal ≢ why.NoMemory → (state : State) → Represents state old → Replies state request owned (machine.Refused refusal))
      → Steps honest request owned old (says.Refused refusal) new
  refused_or_memory request owned old new refusal s replies = refused_for request owned old new refusal s
      (λ state r. go state r (memory_or refusal))
    where
      go : (state : State) → Represents state old → (refusal ≡ why.NoMemory) ⊎ (refusal ≢ why.NoMemory)
          → IsReply Exactly state request owned (machine.Refused refusal)
      go state r (inl e) = For_memory (ap machine.Refused e)
      go state r (inr other) = rightly (replies other state r)

  pub columns_there : (store : Store) (text : List ℕ) (owned : List Record) → is_some store.columns ≡ true
      → Steps honest (ask.Columns text) owned store (says.Refused why.BadCommand) store
  columns_there store text owned there =
      refused (ask.Columns text) owned store why.BadCommand (λ state r. subst (λ cs. ColumnsReply cs text (machine.Refused why.BadCommand))
      (sym r.columns) (go store.columns there))
    where
      go : (o : Option (List Column)) → is_some o ≡ true → ColumnsReply o text (machine.Refused why.BadCommand)
      go (Some columns) e = refl
      go None e = absurd (true≢false (sym e))

  pub no_schema : (store : Store) (text : List ℕ) (owned : List Record) (error : RowError) (refusal : Refusal) → is_some store.columns
      ≡ false → ParseFault text error → refusal ≡ columns_refusal error
      → Steps honest (ask.Columns text) owned store (says.Refused refusal) store
  no_schema store text owned error refusal none bad is = subst (λ w. Steps honest (ask.Columns text) owned store (says.Refused w) store)
      (sym is) (go error bad)
    where
      go : (error : RowError) → ParseFault text error → Steps honest (ask.Columns text) owned store (says.Refused (columns_refusal error))
          store
      go row.NoMemory bad = out_of_memory (ask.Columns text) owned store
      go row.BadSchema bad =
          refused (ask.Columns text) owned store why.BadSchema
          (λ state r. subst (λ cs. ColumnsReply cs text (machine.Refused why.BadSchema)) (sym (r.columns ∙ none_there store.columns none))
          (inr (record { refusal = why.BadSchema; is_so = (refl, bad); says = refl })))
      go (row.BadField column) bad = absurd bad
      go row.WrongWidth bad = absurd bad
      go row.BadPacked bad = absurd bad

  pub columns_told : (store : Store) (text : List ℕ) (owned : List Record) (columns : List Column) (count : ℕ) → is_some store.columns
      ≡ false
      → IsSchemaText text columns → count ≡ length columns → Steps honest (ask.Columns text) owned store (says.Columns count)
      (record store { columns = Some columns })
  columns_told store text owned columns count none is counted =
      record {
        steps = λ state r.
            let reply : Exactly state (ask.Columns text) owned (machine.Has_columns columns)
            = exactly state (ask.Columns text) owned (machine.Has_columns columns)
            (subst (λ cs. ColumnsReply cs text (machine.Has_columns columns)) (sym (r.columns ∙ none_there store.columns none))
            (inl (record { what = columns; is_so = is; says = refl }))) in
            record {
              said = machine.Has_columns columns;
              may = As_always (As_defined reply);
              strict = λ right world f agrees. As_defined reply;
              represents = record { columns = refl; query = r.query; replicas = r.replicas; saved = r.saved; limit = r.limit };
              is = tt;
              fits = λ right world f agrees. record { of_columns = agrees.0 reply.0; fit = f.fit; files = f.files };
              reads = λ world. ap (λ n. said_text (says.Columns n)) counted;
              text = λ right world f agrees. ap (λ n. said_text (says.Columns n)) counted;
            };
        becomes = record { replicas = λ name. refl; saved = λ name. refl };
        seed = refl;
      }

  pub query_too_early : (store : Store) (text : List ℕ) (owned : List Record) → store.columns ≡ None
      → Steps honest (ask.Query text) owned store (says.Refused why.BadCommand) store
  query_too_early store text owned none =
      refused (ask.Query text) owned store why.BadCommand
      (λ state r. subst (λ cs. QueryReply cs state.query text (machine.Refused why.BadCommand)) (sym (r.columns ∙ none)) refl)

  pub query_there : (store : Store) (text : List ℕ) (owned : List Record) (columns : List Column) → store.columns ≡ Some columns
      → is_some store.query ≡ true
      → Steps honest (ask.Query text) owned store (says.Refused why.BadCommand) store
  query_there store text owned columns told there =
      refused (ask.Query text) owned store why.BadCommand
      (λ state r. query_says state store text columns store.query (machine.Refused why.BadCommand) r told refl (go store.query there))
    where
      go : (q : Option Checked) → is_some q ≡ true → QueryReply (Some columns) q text (machine.Refused why.BadCommand)
      go (Some q) e = refl
      go None e = absurd (true≢false (sym e))

  pub query_refused : (store : Store) (text : List ℕ) (owned : List Record) (columns : List Column) (refusal : Refusal) → store.columns
      ≡ Some columns → is_some store.query ≡ false
      → (refusal ≢ why.NoMemory → IsNoQuery columns text refusal) → Steps honest (ask.Query text) owned store (says.Refused refusal) store
  query_refused store text owned columns refusal told none bad =
      refused_or_memory (ask.Query text) owned store store refusal (same store)
      (λ other state r. query_says state store text columns None (machine.Refused refusal) r told (none_there store.query none)
      (inr (record { refusal = refusal; is_so = bad other; says = refl })))

  pub query_told : (store : Store) (text : List ℕ) (owned : List Record) (columns : List Column) (query : Checked) (shown : String Global)
      → store.columns ≡ Some columns → is_some store.query ≡ false → Accepts columns text query → string_bytes shown
      ≡ spelling (by_names query)
      → Steps honest (ask.Query text) owned store (says.Query shown) (record store { query = Some query })
  query_told store text owned columns query shown told none is spelled =
      record {
        steps = λ state r. record {
          said = machine.Has_query query;
          may = As_always (rightly (query_says state store text columns None (machine.Has_query query) r told (none_there store.query none)
              (inl (record { what = query; is_so = is; says = refl }))));
          strict = λ right world f agrees. rightly (query_says state store text columns None (machine.Has_query query) r told
              (none_there store.query none) (inl (record { what = query; is_so = is; says = refl })));
          represents = record { columns = r.columns; query = refl; replicas = r.replicas; saved = r.saved; limit = r.limit };
          is = tt;
          fits = λ right world f agrees. record { of_columns = f.of_columns; fit = f.fit; files = f.files };
          reads = λ world. ap (λ bytes. line (codes "query ") bytes) spelled;
          text = λ right world f agrees. ap (λ bytes. line (codes "query ") bytes) spelled;
        };
        becomes = record { replicas = λ name. refl; saved = λ name. refl };
        seed = refl;
      }

  pub limit_told : (store : Store) (bytes : ℕ) (owned : List Record) → MIN_LIMIT ≤ bytes → bytes ≤ MAX_LIMIT
      → Steps honest (ask.Limit bytes) owned store (says.Limit bytes) (record store { limit = bytes })
  limit_told store bytes owned low high =
      let reply : machine.Has_limit bytes
      ≡ limit_reply bytes = sym (ap (λ b. if b then machine.Has_limit bytes else machine.Refused limit_out_of_range) within) in
      record {
        steps = λ state r. record {
          said = machine.Has_limit bytes;
          may = As_always (rightly reply);
          strict = λ right world f agrees. rightly reply;
          represents = record { columns = r.columns; query = r.query; replicas = r.replicas; saved = r.saved; limit = refl };
          is = tt;
          fits = λ right world f agrees. record { of_columns = f.of_columns; fit = f.fit; files = f.files };
          reads = λ world. refl;
          text = λ right world f agrees. refl;
        };
        becomes = record { replicas = λ name. refl; saved = λ name. refl };
        seed = refl;
      }
    where
      within : (nat_le MIN_LIMIT bytes && nat_le bytes MAX_LIMIT) ≡ true
      within = grind (arith, low, high)

  pub limit_refused : (store : Store) (bytes : ℕ) (owned : List Record) → (bytes < MIN_LIMIT) ⊎ (MAX_LIMIT < bytes)
      → Steps honest (ask.Limit bytes) owned store (says.Refused limit_out_of_range) store
  limit_refused store bytes owned beyond =
      refused (ask.Limit bytes) owned store limit_out_of_range
      (λ state r. sym (ap (λ b. if b then machine.Has_limit bytes else machine.Refused limit_out_of_range) (outside beyond)))
    where
      outside : (bytes < MIN_LIMIT) ⊎ (MAX_LIMIT < bytes) → (nat_le MIN_LIMIT bytes && nat_le bytes MAX_LIMIT) ≡ false
      outside (inl low) = grind (arith, low)
      outside (inr high) = grind (arith, high)

  pub replica_too_early : (store : Store) (name : List ℕ) (owned : List Record) → store.query ≡ None
      → Steps honest (ask.Replica name) owned store (says.Refused why.BadCommand) store
  replica_too_early store name owned none =
      refused (ask.Replica name) owned store why.BadCommand
      (λ state r. sym (ap (λ q. replica_reply q (state.replicas name) name) (r.query ∙ none)))

  pub name_taken : (store : Store) (name : List ℕ) (owned : List Record) (query : Checked) → store.query ≡ Some query
      → is_some (replica_at store name) ≡ true
      → Steps honest (ask.Replica name) owned store (says.Refused why.NameTaken) store
  name_taken store name owned query told there =
      let found = some_there (replica_at store name) there in
      refused (ask.Replica name) owned store why.NameTaken
      (λ state r.
      sym (ap (λ q. replica_reply q (state.replicas name) name) (r.query ∙ told)
      ∙ ap (λ known. replica_reply (Some query) known name) (r.replicas name ∙ ap (option_map knowledge_of) found.1)))

  pub replica_made : (old new : Store) (name : Bor (List ℕ)) (owned : List Record) (query : Checked) → old.query ≡ Some query
      → is_some (replica_at old name.now) ≡ false
      → Updates old new name.now (record { query = query; parts = [] }) → Steps honest (ask.Replica name.now) owned old (says.Created name)
      new
  replica_made old new name owned query told none u =
      record {
        steps = λ state r. record {
          said = machine.Created name.now;
          may = As_always (rightly (sym (ap (λ q. replica_reply q (state.replicas name.now) name.now) (r.query ∙ told)
              ∙ ap (λ known. replica_reply (Some query) known name.now) (r.replicas name.now
              ∙ ap (option_map knowledge_of) (none_there (replica_at old name.now) none)))));
          strict = λ right world f agrees. rightly (sym (ap (λ q. replica_reply q (state.replicas name.now) name.now) (r.query ∙ told)
              ∙ ap (λ known. replica_reply (Some query) known name.now) (r.replicas name.now
              ∙ ap (option_map knowledge_of) (none_there (replica_at old name.now) none))));
          represents = represents_updated state old new name.now (record { query = query; parts = [] }) nothing r u refl;
          is = tt;
          fits = λ right world f agrees. fits_updated world old new name.now (record { query = query; parts = [] }) u
              (empty_fits query world) f;
          reads = λ world. refl;
          text = λ right world f agrees. refl;
        };
        becomes = record { query = query; asked = told; updates = u };
        seed = u.seed;
      }

  -- a batch of another world
  pub feed_disagrees : (old new : Store) (name origin number : List ℕ) (told_rows : ℕ) (owned : List Record) (held : Held) → IsStore old
      → replica_at old name ≡ Some held → Same old new
      → IsOtherBatch origin number told_rows owned held → (of : ℕ) (at : Option ℕ)
      → Steps honest (ask.Feed name origin number told_rows) owned old (says.Refused (why.OriginDisagrees of at)) new
  feed_disagrees old new name origin number told_rows owned held is there s other of at =
      record {
        steps = λ state r. record {
          said = machine.Refused (why.OriginDisagrees of at);
          may = For_disagreement (record {
            instead = machine.Took name other.fed (reply_of (told held.parts) (other.fed.origin, other.fed.number));
            would = (exactly state (ask.Feed name origin number told_rows) owned
                (machine.Took name other.fed (reply_of (told held.parts) (other.fed.origin, other.fed.number)))
                (subst (λ known. FeedReply (unwrap_or state.columns []) known name origin number told_rows owned
                (machine.Took name other.fed (reply_of (told held.parts) (other.fed.origin, other.fed.number))))
                (sym (known_there state old name held r there))
                (inl (record {
                  what = other.fed;
                  is_so = subst (λ cs. IsBatch (kinds cs) origin number told_rows owned other.fed)
                      (sym (feed_columns state old name held r is there)) other.is_batch;
                  says = refl;
                })))).0;
            takes = refl;
            origin = of;
            told = at;
            refused = refl;
          });
          strict = λ right world f agrees.
              absurd (other.never world (subst (λ o. IfSome o (Fits world)) there (f.fit name))
              (fed_of_world world state old name origin number told_rows owned held is there r agrees.1 other.fed other.is_batch));
          represents = still state old new s r;
          is = refl;
          fits = λ right world f agrees. still_fits world old new s f;
          reads = λ world. refl;
          text = λ right world f agrees. refl;
        };
        becomes = keeps_all old new s;
        seed = s.seed;
      }

  pub feed_nowhere : (store : Store) (name origin number : List ℕ) (told_rows : ℕ) (owned : List Record) → replica_at store name ≡ None
      → Steps honest (ask.Feed name origin number told_rows) owned store (says.Refused why.NoSuchName) store
  feed_nowhere store name origin number told_rows owned none =
      refused (ask.Feed name origin number told_rows) owned store why.NoSuchName
      (λ state r. subst (λ known. FeedReply (unwrap_or state.columns []) known name origin number told_rows owned
      (machine.Refused why.NoSuchName))
      (sym (known_nowhere state store name r none)) refl)

  pub feed_refused : (old new : Store) (name origin number : List ℕ) (told_rows : ℕ) (owned : List Record) (held : Held) (refusal : Refusal)
      → IsStore old
      → replica_at old name ≡ Some held → Same old new → ((of : ℕ) (at : Option ℕ) → refusal ≢ why.OriginDisagrees of at)
      → (IsTrue honest → refusal ≢ why.TapeDamaged)
      → (IsOfBatch refusal → IsNoBatch (kinds held.query.columns) origin number told_rows owned refusal)
      → Steps honest (ask.Feed name origin number told_rows) owned old (says.Refused refusal) new
  feed_refused old new name origin number told_rows owned held refusal is there s = go refusal
    where
      request : Request
      request = ask.Feed name origin number told_rows

      of_batch : (refusal : Refusal) → IsNoBatch (kinds held.query.columns) origin number told_rows owned refusal
          → Steps honest request owned old (says.Refused refusal) new
      of_batch refusal bad =
          refused_for request owned old new refusal s
          (λ state r. rightly (subst (λ known. FeedReply (unwrap_or state.columns []) known name origin number told_rows owned
          (machine.Refused refusal)) (sym (known_there state old name held r there))
          (inr (record {
            refusal = refusal;
            is_so = subst (λ cs. IsNoBatch (kinds cs) origin number told_rows owned refusal)
                (sym (feed_columns state old name held r is there)) bad;
            says = refl;
          }))))

      go : (refusal : Refusal) → ((of : ℕ) (at : Option ℕ) → refusal ≢ why.OriginDisagrees of at)
          → (IsTrue honest → refusal ≢ why.TapeDamaged)
          → (IsOfBatch refusal → IsNoBatch (kinds held.query.columns) origin number told_rows owned refusal)
          → Steps honest request owned old (says.Refused refusal) new
      go why.NoMemory agreed undamaged bad = no_memory_same request owned old new s
      go why.TapeFault agreed undamaged bad = refused_for request owned old new why.TapeFault s (λ state r. For_fault refl refl)
      go (why.OriginDisagrees of at) agreed undamaged bad = absurd (agreed of at refl)
      go why.TapeDamaged agreed undamaged bad = damaged request owned old new s (λ right. undamaged right refl) refl
      go refusal agreed undamaged bad = of_batch refusal (bad tt)

  pub feed_took : (old new : Store) (name origin number : List ℕ) (told_rows : ℕ) (owned : List Record) (held later : Held)
      (delivered : Delivered) → IsStore old
      → replica_at old name ≡ Some held → Takes honest origin number told_rows owned held later delivered
      → TakesFed honest old new name origin number told_rows owned delivered → Updates old new name later
      → Steps honest (ask.Feed name origin number told_rows) owned old (says.Delivered delivered) new
  feed_took old new name origin number told_rows owned held later delivered is there takes becomes u =
      record {
        steps = λ state r. record {
          said = machine.Took name takes.fed delivered;
          may = As_always (rightly (subst (λ known. FeedReply (unwrap_or state.columns []) known name origin number told_rows owned
              (machine.Took name takes.fed delivered)) (sym (known_there state old name held r there))
              (inl (record {
                what = takes.fed;
                is_so = subst (λ cs. IsBatch (kinds cs) origin number told_rows owned takes.fed)
                    (sym (feed_columns state old name held r is there)) takes.is_batch;
                says = ap (machine.Took name takes.fed) takes.reply;
              }))));
          strict = λ right world f agrees. rightly
              (subst (λ known. FeedReply (unwrap_or state.columns []) known name origin number told_rows owned
              (machine.Took name takes.fed delivered)) (sym (known_there state old name held r there))
              (inl (record {
                what = takes.fed;
                is_so = subst (λ cs. IsBatch (kinds cs) origin number told_rows owned takes.fed)
                    (sym (feed_columns state old name held r is there)) takes.is_batch;
                says = ap (machine.Took name takes.fed) takes.reply;
              })));
          represents = represents_updated state old new name later _ r u
              (ap (λ known. learn (unwrap_or known nothing) (takes.fed.origin, takes.fed.number)) (known_there state old name held r there)
              ∙ sym takes.learns);
          is = refl;
          fits = λ right world f agrees. fits_updated world old new name later u
              (takes.fits right world (columns_of_world world old name held is there f)
              (subst (λ o. IfSome o (Fits world)) there (f.fit name)) (fed_of_world world state old name origin number told_rows owned
              held is there r agrees.1 takes.fed takes.is_batch)) f;
          reads = λ world. refl;
          text = λ right world f agrees. refl;
        };
        becomes = becomes;
        seed = u.seed;
      }

  pub known_nowhere_at : (store : Store) (name : List ℕ) (owned : List Record) → replica_at store name ≡ None
      → Steps honest (ask.Known name) owned store (says.Refused why.NoSuchName) store
  known_nowhere_at store name owned none =
      refused (ask.Known name) owned store why.NoSuchName (λ state r. sym (ap known_reply (known_nowhere state store name r none)))

  pub known_listed : (store : Store) (name : List ℕ) (owned : List Record) (held : Held) (lines : Vec ℕ Global) → replica_at store name
      ≡ Some held
      → lines.items ≡ known_text (known_list (told held.parts)) → Steps honest (ask.Known name) owned store (says.Listed lines) store
  known_listed store name owned held lines there shown =
      record {
        steps = λ state r. record {
          said = machine.Listed (known_list (told held.parts));
          may = As_always (rightly (sym (ap known_reply (known_there state store name held r there))));
          strict = λ right world f agrees. rightly (sym (ap known_reply (known_there state store name held r there)));
          represents = r;
          is = tt;
          fits = λ right world f agrees. f;
          reads = λ world. shown;
          text = λ right world f agrees. shown;
        };
        becomes = record { replicas = λ name. refl; saved = λ name. refl };
        seed = refl;
      }

  pub answer_nowhere : (store : Store) (name : List ℕ) (owned : List Record) → replica_at store name ≡ None
      → Steps honest (ask.Answer name) owned store (says.Refused why.NoSuchName) store
  answer_nowhere store name owned none =
      refused (ask.Answer name) owned store why.NoSuchName
      (λ state r. sym (ap (λ known. answer_reply state.query known) (known_nowhere state store name r none) ∙ go state.query))
    where
      go : (q : Option Checked) → answer_reply q None ≡ machine.Refused why.NoSuchName
      go None = refl
      go (Some q) = refl

  pub answered : (store : Store) (name : List ℕ) (owned : List Record) (held : Held) (rows : ℕ) (table : Vec ℕ Global) → IsStore store
      → replica_at store name ≡ Some held → PrintsAnswer Csv held rows table.items
      → Steps honest (ask.Answer name) owned store (says.Answer rows table) store
  answered store name owned held rows table is there prints =
      let asks = held_asks store name held is there in
      record {
        steps = λ state r. record {
          said = machine.Answered held.query (told held.parts);
          may = As_always (rightly (sym (ap (λ q. answer_reply q (state.replicas name)) (r.query ∙ asks.0)
              ∙ ap (λ known. answer_reply (Some held.query) known) (known_there state store name held r there))));
          strict = λ right world f agrees. rightly (sym (ap (λ q. answer_reply q (state.replicas name)) (r.query ∙ asks.0)
              ∙ ap (λ known. answer_reply (Some held.query) known) (known_there state store name held r there)));
          represents = r;
          is = tt;
          fits = λ right world f agrees. f;
          reads = (
            prints.given,
            ap (λ n. answer_text n table.items) prints.counted ∙ ap (λ bytes. answer_text (length prints.given) bytes) prints.printed,
          );
          text = λ right world f agrees.
              let of_world = subst (λ cs. IfSome cs (λ (columns : List Column). IsWorld (kinds columns) world)) asks.1 f.of_columns in
              let is = printed_world Csv held rows table.items prints world of_world
              (subst (λ o. IfSome o (λ (h : Held). Fits world h)) there (f.fit name)) in
              ap (λ n. answer_text n table.items) is.0
              ∙ ap (λ bytes. answer_text (length (answer (meaning held.query) world (told held.parts))) bytes) is.1;
        };
        becomes = record { held = held; there = there; prints = prints; keeps = keeps_all store store (same store) };
        seed = refl;
      }

  -- an answer for which memory ran out, or the tape disk failed
  pub merge_nowhere : (store : Store) (into from : List ℕ) (owned : List Record) → (replica_at store into ≡ None)
      ⊎ (replica_at store from ≡ None)
      → Steps honest (ask.Merge into from) owned store (says.Refused why.NoSuchName) store
  merge_nowhere store into from owned none =
      refused (ask.Merge into from) owned store why.NoSuchName (λ state r. go state r none)
    where
      second : (known : Option Knowledge) → machine.Refused why.NoSuchName ≡ merge_reply known None into from
      second None = refl
      second (Some known) = refl

      go : (state : State) → Represents state store → (replica_at store into ≡ None) ⊎ (replica_at store from ≡ None)
          → machine.Refused why.NoSuchName ≡ merge_reply (state.replicas into) (state.replicas from) into from
      go state r (inl e) = sym (ap (λ known. merge_reply known (state.replicas from) into from) (known_nowhere state store into r e))
      go state r (inr e) = second (state.replicas into)
          ∙ sym (ap (λ known. merge_reply (state.replicas into) known into from) (known_nowhere state store from r e))

  pub merge_refused : (store : Store) (into from : List ℕ) (owned : List Record) (refusal : Refusal)
      → JoinRefused (replica_at store into) (replica_at store from) refusal → (IsTrue honest → refusal ≢ why.TapeDamaged)
      → Steps honest (ask.Merge into from) owned store (says.Refused refusal) store
  merge_refused store into from owned refusal refused_is undamaged = go (replica_at store into) (replica_at store from) refl refl refusal
      undamaged refused_is
    where
      both : (own theirs : Held) → replica_at store into ≡ Some own → replica_at store from ≡ Some theirs → (state : State)
          → Represents state store
          → machine.Merged into from ≡ merge_reply (state.replicas into) (state.replicas from) into from
      both own theirs one two state r = sym (λ i. merge_reply (known_there state store into own r one i)
          (known_there state store from theirs r two i) into from)

      go : (own theirs : Option Held) → replica_at store into ≡ own → replica_at store from ≡ theirs → (refusal : Refusal)
          → (IsTrue honest → refusal ≢ why.TapeDamaged) → JoinRefused own theirs refusal
          → Steps honest (ask.Merge into from) owned store (says.Refused refusal) store
      go None theirs one two refusal undamaged is = subst (λ w. Steps honest (ask.Merge into from) owned store (says.Refused w) store)
          (sym is) (merge_nowhere store into from owned (inl one))
      go (Some own) None one two refusal undamaged is = subst (λ w. Steps honest (ask.Merge into from) owned store (says.Refused w) store)
          (sym is) (merge_nowhere store into from owned (inr two))
      go (Some own) (Some theirs) one two why.NoMemory undamaged is = out_of_memory (ask.Merge into from) owned store
      go (Some own) (Some theirs) one two why.TapeFault undamaged is = refused_for (ask.Merge into from) owned store store why.TapeFault
          (same store) (λ state r. For_fault refl refl)
      go (Some own) (Some theirs) one two why.TapeDamaged undamaged is = damaged (ask.Merge into from) owned store store (same store)
          (λ right. undamaged right refl) refl
      go (Some own) (Some theirs) one two (why.OriginDisagrees of at) undamaged never =
          record {
            steps = λ state r. record {
              said = machine.Refused (why.OriginDisagrees of at);
              may = For_disagreement (record {
                instead = machine.Merged into from;
                would = both own theirs one two state r;
                takes = refl;
                origin =
                    of;
                told = at;
                refused = refl;
              });
              strict = λ right world f agrees.
                  absurd (never world (subst (λ o. IfSome o (Fits world)) one (f.fit into))
                  (subst (λ o. IfSome o (Fits world)) two (f.fit from)));
              represents = r;
              is = refl;
              fits = λ right world f agrees. f;
              reads = λ world. refl;
              text = λ right world f agrees. refl;
            };
            becomes = keeps_all store store (same store);
            seed = refl;
          }
      go (Some own) (Some theirs) one two refusal undamaged is = absurd is

  pub merged : (old new : Store) (into from : List ℕ) (owned : List Record) (own theirs later : Held) → IsStore old → replica_at old into
      ≡ Some own → replica_at old from ≡ Some theirs
      → told later.parts ≡ union (told own.parts) (told theirs.parts)
      → (IsTrue honest → (world : World) → IsWorld (kinds own.query.columns) world → Fits world own → Fits world theirs → Fits world later)
      → MergesHeld honest own theirs later → Updates old new into later → Steps honest (ask.Merge into from) owned old says.Merged new
  merged old new into from owned own theirs later is one two learns fits merges u =
      record {
        steps = λ state r.
            let reply : machine.Merged into from ≡ merge_reply (state.replicas into) (state.replicas from) into from =
            sym (λ i. merge_reply (known_there state old into own r one i) (known_there state old from theirs r two i) into from) in
            record {
              said = machine.Merged into from;
              may = As_always (rightly reply);
              strict = λ right world f agrees. rightly reply;
              represents = represents_updated state old new into later _ r u
                  ((λ i. union (unwrap_or (known_there state old into own r one i) nothing)
                  (unwrap_or (known_there state old from theirs r two i) nothing)) ∙ sym learns);
              is = tt;
              fits = λ right world f agrees. fits_updated world old new into later u
                  (fits right world (columns_of_world world old into own is one f) (subst (λ o. IfSome o (Fits world)) one (f.fit into))
                  (subst (λ o. IfSome o (Fits world)) two (f.fit from))) f;
              reads = λ world. refl;
              text = λ right world f agrees. refl;
            };
        becomes = record {
          own = own;
          theirs = theirs;
          later = later;
          there = one;
          there_too = two;
          merges = merges;
          updates = u;
        };
        seed = u.seed;
      }

  pub save_nowhere : (store : Store) (name saved : List ℕ) (owned : List Record) → replica_at store name ≡ None
      → Steps honest (ask.Save name saved) owned store (says.Refused why.NoSuchName) store
  save_nowhere store name saved owned none =
      refused (ask.Save name saved) owned store why.NoSuchName
      (λ state r. sym (ap (λ known. save_reply state.query known saved) (known_nowhere state store name r none) ∙ go state.query))
    where
      go : (q : Option Checked) → save_reply q None saved ≡ machine.Refused why.NoSuchName
      go None = refl
      go (Some q) = refl

  pub saved_as : (old new : Store) (name saved : List ℕ) (owned : List Record) (held : Held) (bytes : List ℕ) (count : ℕ) → IsStore old
      → replica_at old name ≡ Some held
      → IsSaved bytes held.query held.parts → ((world : World) → Fits world held → bytes ≡ world_file held.query world (told held.parts))
      → count ≡ length bytes
      → Files old new saved bytes → Steps honest (ask.Save name saved) owned old (says.Saved count) new
  saved_as old new name saved owned held bytes count is there file world_is counted u =
      let asks = held_asks old name held is there in
      record {
        steps = λ state r.
            let reply : machine.Saved saved held.query (told held.parts) ≡ save_reply state.query (state.replicas name) saved =
            sym (ap (λ q. save_reply q (state.replicas name) saved) (r.query ∙ asks.0)
            ∙ ap (λ known. save_reply (Some held.query) known saved) (known_there state old name held r there)) in
            record {
              said = machine.Saved saved held.query (told held.parts);
              may = As_always (rightly reply);
              strict = λ right world f agrees. rightly reply;
              represents = record {
                columns = r.columns ∙ sym u.columns;
                query = r.query ∙ sym u.query;
                replicas = λ other. r.replicas other ∙ ap (option_map knowledge_of) (sym (replicas_at old new u.replicas other));
                saved = each_file (λ other o. AreSaved (with_replica state.saved saved (told held.parts) other) o) old new saved bytes u
                    (subst (λ b. AreSaved (if b then Some (told held.parts) else state.saved saved) (Some bytes))
                    (sym ((bytes_eq-Decides saved saved).1 refl)) (record { held = held; is = file; tells = refl }))
                    (λ other different. subst (λ b. AreSaved (if b then Some (told held.parts) else state.saved other) (saved_at old other))
                    (sym different) (r.saved other));
                limit = r.limit ∙ sym u.limit;
              };
              is = tt;
              fits = λ right world f agrees. record {
                of_columns = subst (λ cs. IfSome cs (λ (columns : List Column). IsWorld (kinds columns) world)) (sym u.columns)
                    f.of_columns;
                fit = λ other. subst (λ o. IfSome o (λ (h : Held). Fits world h)) (sym (replicas_at old new u.replicas other))
                    (f.fit other);
                files = each_file (λ other o. IfSome o (IsFitting world)) old new saved bytes u
                    (record { held = held; is = file; fits = subst (λ o. IfSome o (λ (h : Held). Fits world h)) there (f.fit name) })
                    (λ other different. f.files other);
              };
              reads = (count, refl);
              text = λ right world f agrees.
                  ap (λ n. said_text (says.Saved n)) (counted
                  ∙ ap length (world_is world (subst (λ o. IfSome o (λ (h : Held). Fits world h)) there (f.fit name))));
            };
        becomes = record { held = held; bytes = bytes; there = there; is_file = file; counted = counted; files = u };
        seed = u.seed;
      }

  pub load_nowhere : (store : Store) (name saved : List ℕ) (owned : List Record) → saved_at store saved ≡ None
      → Steps honest (ask.Load name saved) owned store (says.Refused why.NoSuchName) store
  load_nowhere store name saved owned none =
      refused (ask.Load name saved) owned store why.NoSuchName
      (λ state r. go (state.saved saved) (subst (AreSaved (state.saved saved)) none (r.saved saved)))
    where
      go : (known : Option Knowledge) → AreSaved known None → machine.Refused why.NoSuchName ≡ load_reply known name
      go None are = refl
      go (Some known) are = absurd are

  pub loaded : (old new : Store) (name saved : List ℕ) (owned : List Record) (bytes : List ℕ) (later : Held) → saved_at old saved
      ≡ Some bytes
      → ((held : Held) → IsSaved bytes held.query held.parts → later ≡ held) → Updates old new name later
      → Steps honest (ask.Load name saved) owned old says.Loaded new
  loaded old new name saved owned bytes later there is u =
      record {
        steps = λ state r. go state r (state.saved saved) refl (subst (AreSaved (state.saved saved)) there (r.saved saved));
        becomes = record { bytes = bytes; later = later; there = there; loaded = is; updates = u };
        seed = u.seed;
      }
    where
      go : (state : State) → Represents state old → (known : Option Knowledge) → state.saved saved ≡ known → AreSaved known (Some bytes)
          → Answers honest state (ask.Load name saved) owned old says.Loaded new
      go state r None e are = absurd are
      go state r (Some known) e are =
          let reply : machine.Loaded name known ≡ load_reply (state.saved saved) name = sym (ap (λ k. load_reply k name) e) in
          record {
            said = machine.Loaded name known;
            may = As_always (rightly reply);
            strict = λ right world f agrees. rightly reply;
            represents = represents_updated state old new name later _ r u (sym are.tells ∙ ap knowledge_of (sym (is are.held are.is)));
            is = tt;
            fits = λ right world f agrees.
                let file = subst (λ o. IfSome o (IsFitting world)) there (f.files saved) in
                fits_updated world old new name later u (subst (Fits world) (sym (is file.held file.is)) file.fits) f;
            reads = λ world. refl;
            text = λ right world f agrees. refl;
          }
