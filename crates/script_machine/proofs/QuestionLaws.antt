-- What a right output says at a place, and of two replicas that know the same.
use Rattle.std.specs.Prelude.{◌≡◌, ℕ, zero, suc, false, List, [], ◌∷◌, ◌++◌, take, slice_get, Some}
use Rattle.std.proofs.Common.{◌∙◌, ap, sym, subst, add-one}
use Rattle.std.proofs.lemmas.List.{append_cancel_left, append_cancel_right}
use Rattle.std.proofs.lemmas.Bool.{true≢false}
use Rattle.script_machine.proofs.Words.{Agrees, As_defined, Command, For_fault, For_memory, IsReply, KnowTheSame, Record, State, World}
use Rattle.script_machine.proofs.Words.{after, after_all, file_saved, is_refused, request_of, start}
unfoldable use Rattle.script_machine.proofs.Words.{Along}
use Rattle.script_machine.proofs.SameLaws as same
use Rattle.script_commands.specs.Commands.{Request}
use Rattle.script_machine.specs.Agreement.{AskAlike, For_answers, For_files, For_lists}
use Rattle.script_machine.specs.Headline.{Question, SameKnowledgeSameBytes, commands_in, state_at}
use Rattle.script_machine.specs.Machine.{Reply, Replies}
use Rattle.script_machine.specs.Text.{joined, replies_text, reply_text}

-- the commands before this number are answered, with these texts, for as long as a world has what is fed
abbrev IsAnswered : World → State → List Command → List Reply → List (List ℕ) → ℕ → Type 0
IsAnswered world old cs xs ts n = Agrees world old (take n cs) (take n xs)
    → Along (IsReply Replies) old (take n cs) (take n xs) × (joined (take n ts) ≡ replies_text world (take n xs))

-- what a command at a place is answered, in the state that comes of the replies before it
record At (world : World) (old : State) (c : Command) (x : Reply) (t : List ℕ) : Type 0 where
  says : IsReply Replies old (request_of c.head) c.owned x
  text : t ≡ reply_text world x

one_more : {X : Type 0} {x y : X} → Some x ≡ Some y → x ≡ y
one_more e = cc

at_place : (world : World) (old : State) (cs : List Command) (xs : List Reply) (ts : List (List ℕ)) (n : ℕ)
    (c : Command) (x : Reply) (t : List ℕ) → ((m : ℕ) → IsAnswered world old cs xs ts m)
    → slice_get cs n ≡ Some c → slice_get xs n ≡ Some x → slice_get ts n ≡ Some t
    → Agrees world old (take (suc n) cs) (take (suc n) xs) → At world (after_all old (take n xs)) c x t
unfolding Along
at_place world old [] xs ts n c x t fronts is_c is_x is_t agrees = absurd cc
at_place world old (d ∷ cs) [] ts n c x t fronts is_c is_x is_t agrees = absurd cc
at_place world old (d ∷ cs) (y ∷ xs) [] n c x t fronts is_c is_x is_t agrees = absurd cc
at_place world old (d ∷ cs) (y ∷ xs) (u ∷ ts) zero c x t fronts is_c is_x is_t agrees =
    let first = fronts 1 agrees in
    let text : u ≡ reply_text world y = append_cancel_right u (reply_text world y) [] first.1 in
    let same_c : d ≡ c = one_more is_c in
    let same_x : y ≡ x = one_more is_x in
    let same_t : u ≡ t = one_more is_t in
    record {
      says = subst (λ e. IsReply Replies old (request_of e.head) e.owned x) same_c
          (subst (IsReply Replies old (request_of d.head) d.owned) same_x first.0.0);
      text = sym same_t ∙ text ∙ ap (reply_text world) same_x;
    }
at_place world old (d ∷ cs) (y ∷ xs) (u ∷ ts) (suc n) c x t fronts is_c is_x is_t agrees =
    let first = fronts 1 (agrees.0, tt) in
    let text : u ≡ reply_text world y = append_cancel_right u (reply_text world y) [] first.1 in
    at_place world (after old y) cs xs ts n c x t (λ m rest.
    let more = fronts (suc m) (agrees.0, rest) in (
      more.0.1,
      append_cancel_left u (joined (take m ts)) (replies_text world (take m xs)) (more.1
          ∙ ap (λ l. l ++ replies_text world (take m xs)) (sym text)),
    )) is_c is_x is_t agrees.1

-- a reply that is no refusal is the machine's
not_refused : (old : State) (request : Request) (owned : List Record) (reply : Reply) → is_refused reply ≡ false
    → IsReply Replies old request owned reply → Replies old request owned reply
not_refused old request owned reply sound (As_defined is) = is
not_refused old request owned reply sound (For_memory is) = absurd (true≢false (sym (ap is_refused is) ∙ sound))
not_refused old request owned reply sound (For_fault uses is) = absurd (true≢false (sym (ap is_refused is) ∙ sound))

-- a question is answered as the machine answers it, by the text of its reply
record IsAsked (question : Question) : Type 0 where
  says : Replies (state_at question) (request_of question.command.head) question.command.owned question.reply
  text : question.text ≡ reply_text question.history question.reply

asked : (question : Question) → IsAsked question
asked q =
    let keeps = subst (λ n. Agrees q.history start (take n (commands_in q.script)) (take n q.right.replies)) (add-one q.place) q.keeps in
    let here = at_place q.history start (commands_in q.script) q.right.replies q.right.texts q.place q.command q.reply q.text
    (λ front. q.right.answered front q.history) q.is_command q.is_reply q.is_text keeps in
    record { says = not_refused _ _ _ _ q.answered here.says; text = here.text }

alike : (here there : State) (a b : List ℕ) (history other : World) (ask asks : Request) (owned more : List Record) (r s : Reply)
    → AskAlike a b ask asks → KnowTheSame here there a b history other → Replies here ask owned r → Replies there asks more s
    → (reply_text history r ≡ reply_text other s) × (file_saved history r ≡ file_saved other s)
alike here there a b history other ask asks owned more r s (For_answers one two) know says said =
    same.same_answers here there a b history other r s know (subst (λ it. Replies here it owned r) one says)
    (subst (λ it. Replies there it more s) two said)
alike here there a b history other ask asks owned more r s (For_lists one two) know says said =
    same.same_lists here there a b history other r s know (subst (λ it. Replies here it owned r) one says)
    (subst (λ it. Replies there it more s) two said)
alike here there a b history other ask asks owned more r s (For_files saved other_saved one two) know says said =
    same.same_files here there a b saved other_saved history other r s know (subst (λ it. Replies here it owned r) one says)
    (subst (λ it. Replies there it more s) two said)

pub same_bytes : SameKnowledgeSameBytes
same_bytes here there a b asks know =
    let one = asked here in
    let two = asked there in
    let same = alike (state_at here) (state_at there) a b here.history there.history _ _ _ _ here.reply there.reply asks know one.says
    two.says in
    (one.text ∙ same.0 ∙ sym two.text, same.1)
