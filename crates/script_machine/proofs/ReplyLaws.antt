-- A command has one reply with its reason, memory being there.
use Rattle.std.specs.Prelude.{◌≡◌, ◌⊎◌, ℕ, List, [], Option, Some, None, unwrap_or}
use Rattle.std.proofs.Common.{◌∙◌, ap, sym, inl, inr}
use Rattle.script_machine.proofs.Words.{Knowledge, Column, kinds, IsSchemaText, Checked, Accepts, reply_of, Record, Fed, IsBatch, IsNoBatch}
use Rattle.script_machine.proofs.Words.{IsNoQuery, State, Exactly, batch_refusal, query_refusal, Refusal}
use Rattle.script_machine.proofs.BatchLaws.{no_fault, one_build_fault, one_fed}
use Rattle.script_machine.proofs.Reasons.{IsAccepted, IsRefusedFor, IsNoSchema, ColumnsReply, QueryReply, FeedReply, Replies, exact_again}
use Rattle.packed_rows.specs.PrintedLaws.{one_schema}
use Rattle.group_parser.specs.Lemmas.ParseLaws.{one_accepted, one_refused, not_both}
use Rattle.script_commands.specs.Commands as ask
use Rattle.script_commands.specs.Commands.{Request}
use Rattle.script_machine.specs.Machine as machine

-- what is accepted is one thing, and what is refused is refused for one refusal, which applies to nothing that is accepted
one_answer : {X : Type 0} (saying : X → machine.Reply) (holds : X → Type 0) (applies : Refusal → Type 0) (a b : machine.Reply)
    → ((x y : X) → holds x → holds y → x ≡ y) → ((v w : Refusal) → applies v → applies w → v ≡ w)
    → ((x : X) (w : Refusal) → holds x → applies w → ⊥)
    → IsAccepted saying holds a ⊎ IsRefusedFor applies a → IsAccepted saying holds b ⊎ IsRefusedFor applies b → a ≡ b
one_answer saying holds applies a b one_thing one_refusal never (inl x) (inl y) = x.says
    ∙ ap saying (one_thing x.what y.what x.is_so y.is_so) ∙ sym y.says
one_answer saying holds applies a b one_thing one_refusal never (inl x) (inr w) = absurd (never x.what w.refusal x.is_so w.is_so)
one_answer saying holds applies a b one_thing one_refusal never (inr v) (inl y) = absurd (never y.what v.refusal y.is_so v.is_so)
one_answer saying holds applies a b one_thing one_refusal never (inr v) (inr w) = v.says
    ∙ ap machine.Refused (one_refusal v.refusal w.refusal v.is_so w.is_so) ∙ sym w.says

one_columns : (told : Option (List Column)) (text : List ℕ) (a b : machine.Reply) → ColumnsReply told text a → ColumnsReply told text b → a
    ≡ b
one_columns (Some columns) text a b x y = x ∙ sym y
one_columns None text a b x y =
    one_answer machine.Has_columns (IsSchemaText text) (IsNoSchema text) a b (one_schema text) (λ v w p q. p.0 ∙ sym q.0)
    (λ columns w is none. none.1 columns is) x y

one_asked : (told : Option (List Column)) (asked : Option Checked) (text : List ℕ) (a b : machine.Reply) → QueryReply told asked text a
    → QueryReply told asked text b → a ≡ b
one_asked None asked text a b x y = x ∙ sym y
one_asked (Some columns) (Some query) text a b x y = x ∙ sym y
one_asked (Some columns) None text a b x y =
    one_answer machine.Has_query (Accepts columns text) (IsNoQuery columns text) a b (one_accepted columns text)
    (λ v w p q. p.named ∙ ap query_refusal (one_refused columns text p.error q.error p.fault q.fault) ∙ sym q.named)
    (λ query w is none. not_both columns text query none.error is none.fault) x y

one_feed : (columns : List Column) (known : Option Knowledge) (name origin number : List ℕ) (told_rows : ℕ) (owned : List Record)
    (a b : machine.Reply)
    → FeedReply columns known name origin number told_rows owned a → FeedReply columns known name origin number told_rows owned b → a ≡ b
one_feed columns None name origin number told_rows owned a b x y = x ∙ sym y
one_feed columns (Some known) name origin number told_rows owned a b x y =
    one_answer (λ (fed : Fed). machine.Took name fed (reply_of known (fed.origin, fed.number)))
    (IsBatch (kinds columns) origin number told_rows owned) (IsNoBatch (kinds columns) origin number told_rows owned) a b
    (one_fed (kinds columns) origin number told_rows owned)
    (λ v w p q. p.named ∙ ap batch_refusal (one_build_fault (kinds columns) origin number told_rows owned p.error q.error p.found q.found
    p.fault q.fault) ∙ sym q.named)
    (λ fed w is none. no_fault (kinds columns) origin number told_rows owned fed none.error is none.found none.fault) x y

one_said : (old : State) (request : Request) (owned : List Record) (a b : machine.Reply) → Replies old request owned a
    → Replies old request owned b → a ≡ b
one_said old (ask.Columns text) owned a b x y = one_columns old.columns text a b x y
one_said old (ask.Query text) owned a b x y = one_asked old.columns old.query text a b x y
one_said old (ask.Limit bytes) owned a b x y = x ∙ sym y
one_said old (ask.Replica name) owned a b x y = x ∙ sym y
one_said old (ask.Feed name origin number told) owned a b x y = one_feed (unwrap_or old.columns []) (old.replicas name) name origin number
    told owned a b x y
one_said old (ask.Known name) owned a b x y = x ∙ sym y
one_said old (ask.Answer name) owned a b x y = x ∙ sym y
one_said old (ask.Merge into from) owned a b x y = x ∙ sym y
one_said old (ask.Save name saved) owned a b x y = x ∙ sym y
one_said old (ask.Load name saved) owned a b x y = x ∙ sym y
one_said old ask.Unknown owned a b x y = x ∙ sym y

pub one_reply : (old : State) (request : Request) (owned : List Record) (a b : machine.Reply) → Exactly old request owned a
    → Exactly old request owned b → a ≡ b
one_reply old request owned a b x y =
    one_said old request owned a b (exact_again old request owned a x) (exact_again old request owned b y)
