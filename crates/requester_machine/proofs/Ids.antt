-- The ids of sessions.
use Rattle.std.proofs.Common.{refl, ◌∙◌, ◌≡◌, ◌≢◌, ◌≤◌, ℕ, List, [], ◌∷◌, true, false, Bool, Option, Some, None, ap, sym, subst, eq-eqb}
use Rattle.std.specs.Prelude.{◌==◌, if◌then◌else◌}
use Rattle.std.proofs.lemmas.Bool.{false≢true, eqb-false}
use Rattle.std.proofs.lemmas.Bool.Decides.{nat_tests}
use Rattle.std.proofs.Common.{arith}
use Rattle.spdm_grammar.specs.Message.{RequestMessage}
use Rattle.spdm_grammar.specs.Message.RequestMessage.{PskExchange}
use Rattle.spdm_grammar.specs.Requests.{canonical_request}
use Rattle.spdm_machine.specs.Keys.{Draw}
use Rattle.requester_machine.specs.Setup.{ReqSetup}
use Rattle.transcript.specs.Transcripts.{Negotiation}
use Rattle.requester_machine.specs.Asking.Outcome.{Adds}
use Rattle.requester_machine.specs.Commands.{Free, live_count, exchange_for}
use Rattle.requester_machine.specs.Does.{chosen, free_id, command_chosen, requester_asks}
use Rattle.requester_machine.specs.History.{History, Entry, Effect, negotiation_of, connection_terms}
use Rattle.requester_machine.specs.History.Effect.{Answers, Refuses}
use Rattle.requester_machine.specs.History.Entry.{Told, TookClear, TookRecord}
use Rattle.requester_machine.specs.Laws.{LiveIdsAreFew, NewSessionIsFresh}
use Rattle.requester_machine.specs.Message.{Command, Ask, Aim, Content, Sent, asked_in}
use Rattle.requester_machine.specs.Message.Aim.{Plain, ByChunks, ForChunk, InSession}
use Rattle.requester_machine.specs.Message.Command.{Connect, Open, Send, Beat, Update, Measure, End, Retry}
use Rattle.requester_machine.specs.Message.Content.{Clear, Sealed}
use Rattle.requester_machine.specs.Sending.{request_sent}
use Rattle.requester_machine.specs.Session.{Steps, Step, session_of, is_live, when_live, with_content, with_aim, with_sent, begun, after_command, after_clear, after_record, ends}
use Rattle.requester_machine.specs.Session.Step.{Started, Took}
use Rattle.requester_machine.proofs.Choosing.{free_id-in_range, free_id-free}
use Rattle.requester_machine.proofs.Entries.{same_entry, asked, test_is_false, request_sent-asks}

-- ---- A new session.

opened-is : (worn : Bool) (q : ReqSetup) (h : History) (summary : ℕ) (d : Draw) (entry : Entry)
    → requester_asks worn q h (Open summary) d ≡ Adds entry
    → Told (Open summary) (request_sent (connection_terms h).common h (exchange_for q (command_chosen q h d) summary)) d ≡ entry
opened-is worn q h summary d entry is = same_entry _ entry (asked worn q h (Open summary) (command_chosen q h d) d entry is).1

-- Four sessions were not live.
had_room : (worn : Bool) (q : ReqSetup) (h : History) (summary : ℕ) (d : Draw) (entry : Entry)
    → requester_asks worn q h (Open summary) d ≡ Adds entry → live_count h ≢ 4
had_room worn q h summary d entry is = eqb-false (live_count h) 4 (test_is_false worn q h (Open summary) (command_chosen q h d) (asked worn q h (Open summary) (command_chosen q h d) d entry is).0 4)

begun-own : (id : ℕ) (n : Negotiation) (q : ReqSetup) (f : Free) (summary : ℕ) (s : Steps) → f.id ≡ id
    → begun id n (Some (exchange_for q f summary)) s ≡ Started n (canonical_request (exchange_for q f summary)) ∷ []
begun-own id n q f summary s same = rw (eq-eqb f.id id same) refl

begins : (q : ReqSetup) (h : History) (summary : ℕ) (d : Draw) (sent : Sent)
    → asked_in sent.aim ≡ Some (exchange_for q (command_chosen q h d) summary)
    → session_of (free_id h) (Told (Open summary) sent d ∷ h) ≡ Started (negotiation_of h) (canonical_request (exchange_for q (command_chosen q h d) summary)) ∷ []
unfolding session_of chosen
begins q h summary d sent is =
    ap (λ x. begun (free_id h) (negotiation_of h) x (session_of (free_id h) h)) is
    ∙ begun-own (free_id h) (negotiation_of h) q (command_chosen q h d) summary (session_of (free_id h) h) refl

pub fresh : NewSessionIsFresh
fresh worn q h summary d entry is = (
  (free_id-in_range h).0,
  (free_id-in_range h).1,
  free_id-free h (had_room worn q h summary d entry is),
  ap (λ e. session_of (free_id h) (e ∷ h)) (sym (opened-is worn q h summary d entry is))
      ∙ begins q h summary d _ (request_sent-asks (connection_terms h).common h (exchange_for q (command_chosen q h d) summary)),
)

-- ---- A session was live before, unless it was begun.

when_live-live : (s : Steps) (step : Step) → is_live (when_live s step) ≡ is_live s
when_live-live [] step = refl
when_live-live (x ∷ s) step = refl

with_content-live : (ask : Ask) (content : Content) (s : Steps) → is_live (with_content ask content s) ≡ is_live s
with_content-live ask (Clear message) s = refl
with_content-live ask (Sealed sealed inner pad) s = when_live-live s _

either-live : (b : Bool) (x s : Steps) → is_live x ≡ is_live s → is_live (if b then x else s) ≡ is_live s
either-live true x s is = is
either-live false x s is = refl

with_aim-live : (id : ℕ) (aim : Aim) (content : Content) (s : Steps) → is_live (with_aim id aim content s) ≡ is_live s
with_aim-live id (Plain asked) content s = refl
with_aim-live id (ByChunks asked handle number) content s = refl
with_aim-live id (ForChunk asked handle number before) content s = refl
with_aim-live id (InSession other ask) content s = either-live (other == id) (with_content ask content s) s (with_content-live ask content s)

pub with_sent-live : (id : ℕ) (next : Option Sent) (s : Steps) → is_live (with_sent id next s) ≡ is_live s
with_sent-live id None s = refl
with_sent-live id (Some sent) s = with_aim-live id sent.aim sent.content s

-- What ends a session or leaves it as live as it was.
ended : (b : Bool) (x s : Steps) → (is_live x ≡ true → is_live s ≡ true) → is_live (if b then x else s) ≡ true → is_live s ≡ true
ended true x s was is = was is
ended false x s was is = is

after_clear-live : (id : ℕ) (effect : Effect) (s : Steps) → is_live (after_clear id effect s) ≡ true → is_live s ≡ true
after_clear-live id (Answers (PskExchange exchange) answer) s = ended (exchange.req_id == id) _ s (λ is. sym (when_live-live s _) ∙ is)
after_clear-live id (Refuses (PskExchange exchange)) s = ended (exchange.req_id == id) [] s (λ is. absurd (false≢true is))
after_clear-live id _ s = λ is. is

after_record-live : (sealed inner : List ℕ) (effect : Effect) (s : Steps) → is_live (after_record sealed inner effect s) ≡ true → is_live s ≡ true
after_record-live sealed inner effect s = by_end (ends effect)
  where
    by_end : (b : Bool) → is_live (if b then [] else when_live s (Took sealed inner effect)) ≡ true → is_live s ≡ true
    by_end true is = absurd (false≢true is)
    by_end false is = sym (when_live-live s _) ∙ is

either_record : (b : Bool) (x s : Steps) → (is_live x ≡ true → is_live s ≡ true) → is_live (if b then x else s) ≡ true → is_live s ≡ true
either_record true x s was is = was is
either_record false x s was is = is

-- ---- The ids of a made history.

abbrev IsFew : ℕ → Type 0
IsFew id = (1 ≤ id) × (id ≤ 4)

nat_same : (a b : ℕ) → (a == b) ≡ true → a ≡ b
nat_same a b is = grind (arith, nat_tests)

-- The request that the message of a command asks for.
abbrev asked_by : Entry → Option RequestMessage
asked_by (Told command sent d) = asked_in sent.aim
asked_by _ = None

-- A session begun has the chosen id.
begun-few : (id : ℕ) (n : Negotiation) (q : ReqSetup) (f : Free) (summary : ℕ) (s : Steps) → IsFew f.id → (is_live s ≡ true → IsFew id)
    → is_live (begun id n (Some (exchange_for q f summary)) s) ≡ true → IsFew id
begun-few id n q f summary s few older = by_id (f.id == id) (λ same. subst IsFew (nat_same f.id id same) few)
  where
    by_id : (b : Bool) → (b ≡ true → IsFew id) → is_live (if b then Started n (canonical_request (exchange_for q f summary)) ∷ [] else s) ≡ true → IsFew id
    by_id true here is = here refl
    by_id false here is = older is

open-few : (q : ReqSetup) (h : History) (id summary : ℕ) (sent : Sent) (d : Draw)
    → requester_asks false q h (Open summary) d ≡ Adds (Told (Open summary) sent d)
    → (is_live (session_of id h) ≡ true → IsFew id)
    → is_live (begun id (negotiation_of h) (asked_in sent.aim) (session_of id h)) ≡ true → IsFew id
unfolding chosen
open-few q h id summary sent d made older is =
    begun-few id (negotiation_of h) q (command_chosen q h d) summary (session_of id h) (free_id-in_range h) older
    (ap (λ x. is_live (begun id (negotiation_of h) x (session_of id h))) (sym asks_for) ∙ is)
  where
    asks_for : asked_in sent.aim ≡ Some (exchange_for q (command_chosen q h d) summary)
    asks_for = ap (λ e. asked_by e) (sym (opened-is false q h summary d (Told (Open summary) sent d) made)) ∙ request_sent-asks (connection_terms h).common h (exchange_for q (command_chosen q h d) summary)

told-few : (q : ReqSetup) (h : History) (id : ℕ) (command : Command) (sent : Sent) (d : Draw)
    → requester_asks false q h command d ≡ Adds (Told command sent d)
    → (is_live (session_of id h) ≡ true → IsFew id)
    → is_live (after_command id (negotiation_of h) command sent (session_of id h)) ≡ true → IsFew id
told-few q h id Connect sent d made older is = absurd (false≢true is)
told-few q h id (Open summary) sent d made older is = open-few q h id summary sent d made older is
told-few q h id (Send other bytes) sent d made older is = older (sym (with_sent-live id (Some sent) (session_of id h)) ∙ is)
told-few q h id (Beat other) sent d made older is = older (sym (with_sent-live id (Some sent) (session_of id h)) ∙ is)
told-few q h id (Update other all) sent d made older is = older (sym (with_sent-live id (Some sent) (session_of id h)) ∙ is)
told-few q h id (Measure other op) sent d made older is = older (sym (with_sent-live id (Some sent) (session_of id h)) ∙ is)
told-few q h id (End other) sent d made older is = older (sym (with_sent-live id (Some sent) (session_of id h)) ∙ is)
told-few q h id Retry sent d made older is = older (sym (with_sent-live id (Some sent) (session_of id h)) ∙ is)

pub few : LiveIdsAreFew
unfolding session_of
few q [] id made live = absurd (false≢true live)
few q (Told command sent d ∷ older) id made live = told-few q older id command sent d made.0 (few q older id made.1) live
few q (TookClear tag m led d ∷ older) id made live =
    few q older id made.1 (after_clear-live id led.effect (session_of id older) (sym (with_sent-live id led.next (after_clear id led.effect (session_of id older))) ∙ live))
few q (TookRecord tag other sealed inner led d ∷ older) id made live =
    few q older id made.1 (either_record (other == id) (with_sent id led.next (after_record sealed inner led.effect (session_of id older))) (session_of id older)
    (λ is. after_record-live sealed inner led.effect (session_of id older) (sym (with_sent-live id led.next (after_record sealed inner led.effect (session_of id older))) ∙ is)) live)
