-- Replies with their reasons, as the code comes to them: what is read is accepted, or refused for a reason that applies.
use Rattle.std.specs.Prelude.{◌≡◌, ◌⊎◌, refl, ℕ, List, [], Option, Some, None, IfSome, unwrap_or}
use Rattle.std.proofs.Common.{ap, sym, subst, inl, inr, ◌∙◌}
use Rattle.script_machine.proofs.Words.{Accepts, Checked, Column, Exactly, Fed, IsBatch, IsNoBatch, IsNoQuery, IsReply, IsSchemaText}
use Rattle.script_machine.proofs.Words.{Knowledge, Reads, As, As_nothing, Record, Refusal, As_defined, State, TellsWhy, kinds, known_list}
use Rattle.script_machine.proofs.Words.{limit_reply, replica_reply, reply_of}
use Rattle.group_parser.specs.Lemmas.ParseLaws.{not_both}
use Rattle.script_commands.specs.Commands as ask
use Rattle.script_commands.specs.Commands.{Request}
use Rattle.script_machine.proofs.BatchLaws.{no_fault}
use Rattle.script_machine.specs.Machine as machine
use Rattle.script_machine.specs.Machine.{Reply, if_there}
use Rattle.refusals.specs.declared.refusal.Refusal.TheVariants as refusals

-- a reply accepts something of which this holds
pub record IsAccepted {X : Type 0} (saying : X → Reply) (holds : X → Type 0) (reply : Reply) : Type 0 where
  pub what : X
  pub is_so : holds what
  pub says : reply ≡ saying what

-- a reply refuses something, for a refusal that applies
pub record IsRefusedFor (applies : Refusal → Type 0) (reply : Reply) : Type 0 where
  pub refusal : Refusal
  pub is_so : applies refusal
  pub says : reply ≡ machine.Refused refusal

-- why a text tells no columns
abbrev pub IsNoSchema : List ℕ → Refusal → Type 0
IsNoSchema text why = (why ≡ refusals.BadSchema) × ((columns : List Column) → ¬ (IsSchemaText text columns))

abbrev pub ColumnsReply : Option (List Column) → List ℕ → Reply → Type 0
ColumnsReply (Some columns) text reply = reply ≡ machine.Refused refusals.BadCommand
ColumnsReply None text reply = IsAccepted machine.Has_columns (IsSchemaText text) reply ⊎ IsRefusedFor (IsNoSchema text) reply

abbrev pub QueryReply : Option (List Column) → Option Checked → List ℕ → Reply → Type 0
QueryReply None query text reply = reply ≡ machine.Refused refusals.BadCommand
QueryReply (Some columns) (Some query) text reply = reply ≡ machine.Refused refusals.BadCommand
QueryReply (Some columns) None text reply =
    IsAccepted machine.Has_query (Accepts columns text) reply ⊎ IsRefusedFor (IsNoQuery columns text) reply

abbrev pub FeedReply : List Column → Option Knowledge → (name origin number : List ℕ) → ℕ → List Record → Reply → Type 0
FeedReply columns None name origin number told owned reply = reply ≡ machine.Refused refusals.NoSuchName
FeedReply columns (Some known) name origin number told owned reply =
    IsAccepted (λ (fed : Fed). machine.Took name fed (reply_of known (fed.origin, fed.number)))
    (IsBatch (kinds columns) origin number told owned) reply
    ⊎ IsRefusedFor (IsNoBatch (kinds columns) origin number told owned) reply

-- the replies about what has a name
abbrev pub known_reply : Option Knowledge → Reply
known_reply known = if_there known (λ known. machine.Listed (known_list known))

abbrev pub answer_reply : Option Checked → Option Knowledge → Reply
answer_reply query known = if_there query (λ query. if_there known (machine.Answered query))

abbrev pub merge_reply : Option Knowledge → Option Knowledge → (into from : List ℕ) → Reply
merge_reply known more into from = if_there known (λ known. if_there more (λ more. machine.Merged into from))

abbrev pub save_reply : Option Checked → Option Knowledge → (saved : List ℕ) → Reply
save_reply query known saved = if_there query (λ query. if_there known (machine.Saved saved query))

abbrev pub load_reply : Option Knowledge → (name : List ℕ) → Reply
load_reply known name = if_there known (machine.Loaded name)

abbrev pub Replies : State → Request → List Record → Reply → Type 0
Replies old (ask.Columns text) owned reply = ColumnsReply old.columns text reply
Replies old (ask.Query text) owned reply = QueryReply old.columns old.query text reply
Replies old (ask.Limit bytes) owned reply = reply ≡ limit_reply bytes
Replies old (ask.Replica name) owned reply = reply ≡ replica_reply old.query (old.replicas name) name
Replies old (ask.Feed name origin number told) owned reply =
    FeedReply (unwrap_or old.columns []) (old.replicas name) name origin number told owned reply
Replies old (ask.Known name) owned reply = reply ≡ known_reply (old.replicas name)
Replies old (ask.Answer name) owned reply = reply ≡ answer_reply old.query (old.replicas name)
Replies old (ask.Merge into from) owned reply = reply ≡ merge_reply (old.replicas into) (old.replicas from) into from
Replies old (ask.Save name saved) owned reply = reply ≡ save_reply old.query (old.replicas name) saved
Replies old (ask.Load name saved) owned reply = reply ≡ load_reply (old.saved saved) name
Replies old ask.Unknown owned reply = reply ≡ machine.Refused refusals.BadCommand

-- ---- they are the machine's

-- what is accepted, or refused for a reason that applies to nothing that is accepted, is read
reads : {X : Type 0} (saying : X → Reply) (holds : X → Type 0) (applies : Refusal → Type 0) (reply : Reply)
    → ((x : X) (w : Refusal) → holds x → applies w → ⊥) → IsAccepted saying holds reply ⊎ IsRefusedFor applies reply
    → Reads holds saying reply
reads saying holds applies reply never (inl x) = As x.what x.is_so x.says
reads saying holds applies reply never (inr w) = As_nothing (λ x is. never x w.refusal is w.is_so) w.refusal w.says

no_columns_and : (text : List ℕ) (columns : List Column) (w : Refusal) → IsSchemaText text columns → IsNoSchema text w → ⊥
no_columns_and text columns w is none = none.1 columns is

no_query_and : (columns : List Column) (text : List ℕ) (query : Checked) (w : Refusal) → Accepts columns text query
    → IsNoQuery columns text w → ⊥
no_query_and columns text query w is none = not_both columns text query none.error is none.fault

no_batch_and : (columns : List Column) (origin number : List ℕ) (told : ℕ) (owned : List Record) (fed : Fed) (w : Refusal)
    → IsBatch (kinds columns) origin number told owned fed → IsNoBatch (kinds columns) origin number told owned w → ⊥
no_batch_and columns origin number told owned fed w is none =
    no_fault (kinds columns) origin number told owned fed none.error is none.found none.fault

-- the refusal that a reply tells
abbrev refusal_of : Reply → Refusal
refusal_of (machine.Refused w) = w
refusal_of reply = refusals.NoMemory

read_columns : (told : Option (List Column)) (text : List ℕ) (reply : Reply) → ColumnsReply told text reply
    → machine.ColumnsReply told text reply
read_columns (Some columns) text reply r = r
read_columns None text reply r = reads machine.Has_columns (IsSchemaText text) (IsNoSchema text) reply (no_columns_and text) r

why_columns : (told : Option (List Column)) (text : List ℕ) (w : Refusal) → ColumnsReply told text (machine.Refused w) → told ≡ None
    → w ≡ refusals.BadSchema
why_columns (Some columns) text w r none = absurd (let e = none in cc)
why_columns None text w (inl x) none = absurd (let e = x.says in cc)
why_columns None text w (inr x) none = ap refusal_of x.says ∙ x.is_so.0

read_query : (told : Option (List Column)) (asked : Option Checked) (text : List ℕ) (reply : Reply) → QueryReply told asked text reply
    → machine.QueryReply told asked text reply
read_query None asked text reply r = r
read_query (Some columns) (Some query) text reply r = r
read_query (Some columns) None text reply r =
    reads machine.Has_query (Accepts columns text) (IsNoQuery columns text) reply (no_query_and columns text) r

why_query : (told : Option (List Column)) (asked : Option Checked) (text : List ℕ) (w : Refusal)
    → QueryReply told asked text (machine.Refused w) → IfSome told (λ columns. asked ≡ None → IsNoQuery columns text w)
why_query None asked text w r = tt
why_query (Some columns) (Some query) text w r = λ none. absurd (let e = none in cc)
why_query (Some columns) None text w (inl x) = λ none. absurd (let e = x.says in cc)
why_query (Some columns) None text w (inr x) = λ none. subst (IsNoQuery columns text) (sym (ap refusal_of x.says)) x.is_so

read_feed : (columns : List Column) (known : Option Knowledge) (name origin number : List ℕ) (told : ℕ) (owned : List Record)
    (reply : Reply) → FeedReply columns known name origin number told owned reply
    → machine.FeedReply columns known name origin number told owned reply
read_feed columns None name origin number told owned reply r = r
read_feed columns (Some known) name origin number told owned reply r =
    reads _ (IsBatch (kinds columns) origin number told owned) (IsNoBatch (kinds columns) origin number told owned) reply
    (no_batch_and columns origin number told owned) r

why_feed : (columns : List Column) (known : Option Knowledge) (name origin number : List ℕ) (told : ℕ) (owned : List Record)
    (w : Refusal) → FeedReply columns known name origin number told owned (machine.Refused w)
    → IfSome known (λ known. IsNoBatch (kinds columns) origin number told owned w)
why_feed columns None name origin number told owned w r = tt
why_feed columns (Some known) name origin number told owned w (inl x) = absurd (let e = x.says in cc)
why_feed columns (Some known) name origin number told owned w (inr x) =
    subst (IsNoBatch (kinds columns) origin number told owned) (sym (ap refusal_of x.says)) x.is_so

tells_why : (old : State) (request : Request) (owned : List Record) (reply : Reply) → Replies old request owned reply
    → TellsWhy old request owned reply
tells_why old (ask.Columns text) owned (machine.Refused w) r = why_columns old.columns text w r
tells_why old (ask.Query text) owned (machine.Refused w) r = why_query old.columns old.query text w r
tells_why old (ask.Feed name origin number told) owned (machine.Refused w) r =
    why_feed (unwrap_or old.columns []) (old.replicas name) name origin number told owned w r
tells_why old request owned reply r = tt

-- a reply with its reason is the machine's
pub exactly : (old : State) (request : Request) (owned : List Record) (reply : Reply) → Replies old request owned reply
    → Exactly old request owned reply
exactly old request owned reply r = (go request r, tells_why old request owned reply r)
  where
    go : (request : Request) → Replies old request owned reply → machine.Replies old request owned reply
    go (ask.Columns text) r = read_columns old.columns text reply r
    go (ask.Query text) r = read_query old.columns old.query text reply r
    go (ask.Feed name origin number told) r =
        read_feed (unwrap_or old.columns []) (old.replicas name) name origin number told owned reply r
    go (ask.Limit bytes) r = r
    go (ask.Replica name) r = r
    go (ask.Known name) r = r
    go (ask.Answer name) r = r
    go (ask.Merge into from) r = r
    go (ask.Save name saved) r = r
    go (ask.Load name saved) r = r
    go ask.Unknown r = r

pub rightly : {old : State} {request : Request} {owned : List Record} {reply : Reply} → Replies old request owned reply
    → IsReply Exactly old request owned reply
rightly {old = old} {request = request} {owned = owned} {reply = reply} r = As_defined (exactly old request owned reply r)

-- ---- and the other way round

columns_again : (told : Option (List Column)) (text : List ℕ) (reply : Reply) → machine.ColumnsReply told text reply
    → ((w : Refusal) → reply ≡ machine.Refused w → told ≡ None → w ≡ refusals.BadSchema) → ColumnsReply told text reply
columns_again (Some columns) text reply r why = r
columns_again None text reply (As columns is says) why = inl (record { what = columns; is_so = is; says = says })
columns_again None text reply (As_nothing none w says) why =
    inr (record { refusal = w; is_so = (why w says refl, none); says = says })

query_again : (told : Option (List Column)) (asked : Option Checked) (text : List ℕ) (reply : Reply)
    → machine.QueryReply told asked text reply
    → ((w : Refusal) → reply ≡ machine.Refused w → IfSome told (λ columns. asked ≡ None → IsNoQuery columns text w))
    → QueryReply told asked text reply
query_again None asked text reply r why = r
query_again (Some columns) (Some query) text reply r why = r
query_again (Some columns) None text reply (As query is says) why = inl (record { what = query; is_so = is; says = says })
query_again (Some columns) None text reply (As_nothing none w says) why =
    inr (record { refusal = w; is_so = why w says refl; says = says })

feed_again : (columns : List Column) (known : Option Knowledge) (name origin number : List ℕ) (told : ℕ) (owned : List Record)
    (reply : Reply) → machine.FeedReply columns known name origin number told owned reply
    → ((w : Refusal) → reply ≡ machine.Refused w → IfSome known (λ known. IsNoBatch (kinds columns) origin number told owned w))
    → FeedReply columns known name origin number told owned reply
feed_again columns None name origin number told owned reply r why = r
feed_again columns (Some known) name origin number told owned reply (As fed is says) why =
    inl (record { what = fed; is_so = is; says = says })
feed_again columns (Some known) name origin number told owned reply (As_nothing none w says) why =
    inr (record { refusal = w; is_so = why w says; says = says })

pub exact_again : (old : State) (request : Request) (owned : List Record) (reply : Reply) → Exactly old request owned reply
    → Replies old request owned reply
exact_again old request owned reply is = go request is.0 (λ w e. subst (TellsWhy old request owned) e is.1)
  where
    go : (request : Request) → machine.Replies old request owned reply
        → ((w : Refusal) → reply ≡ machine.Refused w → TellsWhy old request owned (machine.Refused w)) → Replies old request owned reply
    go (ask.Columns text) r why = columns_again old.columns text reply r why
    go (ask.Query text) r why = query_again old.columns old.query text reply r why
    go (ask.Feed name origin number told) r why =
        feed_again (unwrap_or old.columns []) (old.replicas name) name origin number told owned reply r why
    go (ask.Limit bytes) r why = r
    go (ask.Replica name) r why = r
    go (ask.Known name) r why = r
    go (ask.Answer name) r why = r
    go (ask.Merge into from) r why = r
    go (ask.Save name saved) r why = r
    go (ask.Load name saved) r why = r
    go ask.Unknown r why = r
