-- What a body was that added an entry, and what an entry of a made history was led to by.
use Rattle.std.proofs.Common.{refl, ◌≡◌, ◌∙◌, ◌⊎◌, ℕ, List, [], ◌∷◌, true, false, Bool, Option, Some, None, ap, sym, inl, inr, eqb-true, zero, suc}
use Rattle.std.specs.Prelude.{◌||◌, not, drop, if◌then◌else◌, Result, Ok, Err, unwrap_or}
use Rattle.std.proofs.lemmas.Bool.{false≢true, not-false}
use Rattle.std.proofs.lemmas.Option.{none-some}
use Rattle.spdm_basis.specs.declared.causes.record_fault.RecordFault.{RecordFault}
use Rattle.spdm_grammar.specs.Message.{RequestMessage, ExchangeMessage}
use Rattle.spdm_grammar.specs.Message.RequestMessage.{PskExchange}
use Rattle.spdm_grammar.specs.declared.told.event.ReqIgnored.{ReqIgnored}
use Rattle.spdm_machine.specs.Keys.{Draw}
use Rattle.requester_machine.specs.Setup.{ReqSetup}
use Rattle.requester_machine.specs.AcceptedLaws.{IsVerified, AcceptedIsVerified, IsOpened, TakenRecordIsOpened}
use Rattle.requester_machine.specs.Asking.Outcome.{Adds, Warns}
use Rattle.requester_machine.specs.Bodies.{body_fault, tests_of_body, first_cause, is_clear, is_record, is_out_of_place, has_tag, error_in}
use Rattle.requester_machine.specs.ClearAnswers.{clear_led}
use Rattle.requester_machine.specs.Commands.{Free}
use Rattle.requester_machine.specs.Hearing.{hears, hears_by, hears_to, on_record, record_outcome, came_to, clear_outcome}
use Rattle.requester_machine.specs.History.{History, Entry, Effect, Led, outstanding}
use Rattle.requester_machine.specs.History.Effect.{Answers}
use Rattle.requester_machine.specs.History.Entry.{TookClear}
use Rattle.requester_machine.specs.InnerMessages.{inner_led, or_lost}
use Rattle.requester_machine.specs.Message.{Ask, Aim, Sent, asked_in}
use Rattle.requester_machine.specs.Message.Aim.{Plain, ByChunks, ForChunk, InSession}
use Rattle.requester_machine.specs.Order.{may_bring}
use Rattle.requester_machine.specs.Records.{answer_fault}
use Rattle.requester_machine.specs.Session.{session_of, ends}
use Rattle.requester_machine.specs.Shown.{effect_in}
use Rattle.requester_machine.proofs.ClearLeads.{IsExchanged, clear_leads, exchanged}
use Rattle.requester_machine.proofs.RecordLeads.{RecordLeads, record_leads}
use Rattle.requester_machine.proofs.RecordLeads.RecordLeads.{ByEnd, ByAnswer, ByUpdate, ByFirst, ByChunk}
use Rattle.spdm_basis.proofs.Options.{both}

-- ---- The tests of a body.

abbrev pub test_at : ℕ → List (Bool × ReqIgnored) → Bool
test_at n [] = false
test_at zero (t ∷ ts) = t.0
test_at (suc n) (t ∷ ts) = test_at n ts

tests_are_false : (ts : List (Bool × ReqIgnored)) → first_cause ts ≡ None → (n : ℕ) → test_at n ts ≡ false
tests_are_false [] h n = refl
tests_are_false (t ∷ ts) h zero = (both t.0 t.1 _ h).0
tests_are_false (t ∷ ts) h (suc n) = tests_are_false ts (both t.0 t.1 _ h).1 n

pub test_is_false : (q : ReqSetup) (waiting : Option Sent) (owner : Bool) (tag : ℕ) (body : List ℕ) → body_fault q waiting owner tag body ≡ None → (n : ℕ) → test_at n (tests_of_body q waiting owner tag body) ≡ false
unfolding body_fault
test_is_false q waiting owner tag body is n = tests_are_false (tests_of_body q waiting owner tag body) is n

-- A body that is no record and no clear message is ignored, and so is one that is out of place.
either_type : (a b : Bool) → not (a || b) ≡ false → b ≡ false → a ≡ true
either_type true b is other = refl
either_type false b is other = absurd (false≢true (sym is ∙ ap not other))

pub clear_type : (q : ReqSetup) (sent : Sent) (owner : Bool) (tag : ℕ) (body : List ℕ) → body_fault q (Some sent) owner tag body ≡ None → is_record body ≡ false → is_clear body ≡ true
clear_type q sent owner tag body is other = either_type (is_clear body) (is_record body) (test_is_false q (Some sent) owner tag body is 3) other

tag_type : (q : ReqSetup) (sent : Sent) (owner : Bool) (tag : ℕ) (body : List ℕ) → body_fault q (Some sent) owner tag body ≡ None → sent.tag ≡ tag
tag_type q sent owner tag body is = eqb-true sent.tag tag (not-false (has_tag (Some sent) tag) (test_is_false q (Some sent) owner tag body is 2))

-- ---- What was heard.

-- A clear message was taken as an answer to a clear request.
pub record IsTaken (q : ReqSetup) (h : History) (tag : ℕ) (body : List ℕ) (f : Free) (d : Draw) (entry : Entry) : Type 0 where
  pub sent : Sent
  pub waits : outstanding h ≡ Some sent
  pub asked : RequestMessage
  pub asks : asked_in sent.aim ≡ Some asked
  pub led : Led
  pub leads : clear_led q h f sent.aim asked (drop 1 body) ≡ Ok led
  pub clear : is_clear body ≡ true
  pub is : entry ≡ TookClear tag (drop 1 body) led d

abbrev pub Heard : ReqSetup → History → ℕ → List ℕ → Free → Draw → Entry → Type 0
Heard q h tag body f d entry = IsTaken q h tag body f d entry ⊎ ((is_clear body ≡ false) × IsOpened q h tag (drop 1 body) f d entry)

clear_added : (tag : ℕ) (m : List ℕ) (d : Draw) (entry : Entry) (result : Result Led ReqIgnored) → clear_outcome tag m d result ≡ Adds entry → (led : Led) × (result ≡ Ok led) × (entry ≡ TookClear tag m led d)
clear_added tag m d entry (Err cause) is = absurd (cc)
clear_added tag m d entry (Ok led) is = (led, refl, (cc))

taken : (q : ReqSetup) (h : History) (owner : Bool) (tag : ℕ) (body : List ℕ) (f : Free) (d : Draw) (entry : Entry) (sent : Sent) (aim : Aim) (asked : RequestMessage)
    → outstanding h ≡ Some sent → sent.aim ≡ aim → asked_in aim ≡ Some asked → is_clear body ≡ true
    → clear_outcome tag (drop 1 body) d (clear_led q h f aim asked (drop 1 body)) ≡ Adds entry → IsTaken q h tag body f d entry
taken q h owner tag body f d entry sent aim asked waits aims asks clear is =
    let added = clear_added tag (drop 1 body) d entry (clear_led q h f aim asked (drop 1 body)) is in
    record {
      sent = sent;
      waits = waits;
      asked = asked;
      asks = ap asked_in aims ∙ asks;
      led = added.0;
      leads = ap (λ (a : Aim). clear_led q h f a asked (drop 1 body)) aims ∙ added.1;
      clear = clear;
      is = added.2;
    }

opened : (q : ReqSetup) (h : History) (f : Free) (tag : ℕ) (sealed : List ℕ) (d : Draw) (entry : Entry) (sent : Sent) (id : ℕ) (ask : Ask) (fault : Option RecordFault)
    → outstanding h ≡ Some sent → sent.tag ≡ tag → sent.aim ≡ InSession id ask → answer_fault q.psk (session_of id h) ask sealed ≡ fault
    → record_outcome q h f tag ask (came_to q h id ask sealed) d fault ≡ Adds entry → IsOpened q h tag sealed f d entry
opened q h f tag sealed d entry sent id ask (Some fault) waits tags aims none is = absurd (cc)
opened q h f tag sealed d entry sent id ask None waits tags aims none is =
    record { sent = sent; waits = waits; tag_is = tags; id = id; ask = ask; aims = aims; opened = none; is = (cc) }

opened_record : (q : ReqSetup) (h : History) (f : Free) (tag : ℕ) (sealed : List ℕ) (d : Draw) (entry : Entry) (sent : Sent) (id : ℕ) (ask : Ask)
    → outstanding h ≡ Some sent → sent.tag ≡ tag → sent.aim ≡ InSession id ask → on_record q h f tag id ask sealed d ≡ Adds entry → IsOpened q h tag sealed f d entry
unfolding on_record
opened_record q h f tag sealed d entry sent id ask waits tags aims is = opened q h f tag sealed d entry sent id ask (answer_fault q.psk (session_of id h) ask sealed) waits tags aims refl is

aimed : (q : ReqSetup) (h : History) (owner : Bool) (tag : ℕ) (body : List ℕ) (f : Free) (d : Draw) (entry : Entry) (sent : Sent) (aim : Aim)
    → outstanding h ≡ Some sent → sent.aim ≡ aim → sent.tag ≡ tag → (is_record body ≡ false → is_clear body ≡ true) → is_out_of_place aim body ≡ false
    → hears_to q h f tag body d aim ≡ Adds entry → Heard q h tag body f d entry
aimed q h owner tag body f d entry sent (Plain asked) waits aims tags typed placed is = inl (taken q h owner tag body f d entry sent (Plain asked) asked waits aims refl (typed placed) is)
aimed q h owner tag body f d entry sent (ByChunks asked handle number) waits aims tags typed placed is = inl (taken q h owner tag body f d entry sent (ByChunks asked handle number) asked waits aims refl (typed placed) is)
aimed q h owner tag body f d entry sent (ForChunk asked handle number before) waits aims tags typed placed is = inl (taken q h owner tag body f d entry sent (ForChunk asked handle number before) asked waits aims refl (typed placed) is)
aimed q h owner tag body f d entry sent (InSession id ask) waits aims tags typed placed is = by_type (is_clear body) refl is
  where
    by_type : (b : Bool) → is_clear body ≡ b → (if b then Warns (unwrap_or (error_in (drop 1 body)) 0) else on_record q h f tag id ask (drop 1 body) d) ≡ Adds entry → Heard q h tag body f d entry
    by_type true clear other = absurd (cc)
    by_type false clear here = inr (clear, opened_record q h f tag (drop 1 body) d entry sent id ask waits tags aims here)

heard_by : (q : ReqSetup) (h : History) (owner : Bool) (tag : ℕ) (body : List ℕ) (f : Free) (d : Draw) (entry : Entry) (waiting : Option Sent) (cause : Option ReqIgnored)
    → outstanding h ≡ waiting → body_fault q waiting owner tag body ≡ cause → hears_by q h f tag body d waiting cause ≡ Adds entry → Heard q h tag body f d entry
heard_by q h owner tag body f d entry waiting (Some cause) waits none is = absurd (cc)
heard_by q h owner tag body f d entry None None waits none is = absurd (cc)
heard_by q h owner tag body f d entry (Some sent) None waits none is =
    aimed q h owner tag body f d entry sent sent.aim waits refl (tag_type q sent owner tag body none) (clear_type q sent owner tag body none) (test_is_false q (Some sent) owner tag body none 4) is

pub heard : (q : ReqSetup) (h : History) (owner : Bool) (tag : ℕ) (body : List ℕ) (f : Free) (d : Draw) (entry : Entry) → hears q h owner tag body f d ≡ Adds entry → Heard q h tag body f d entry
unfolding hears
heard q h owner tag body f d entry is = heard_by q h owner tag body f d entry (outstanding h) (body_fault q (outstanding h) owner tag body) refl refl is

-- ---- The answer to PSK_EXCHANGE.

verified : (q : ReqSetup) (h : History) (f : Free) (body : List ℕ) (sent : Sent) (asked : RequestMessage) (led : Led) (exchange : ExchangeMessage) (answer : List ℕ)
    → outstanding h ≡ Some sent → asked_in sent.aim ≡ Some asked → IsExchanged q h f sent.aim (drop 1 body) asked led exchange answer → IsVerified q h body exchange answer
verified q h f body sent asked led exchange answer waits asks x =
    record { sent = sent; waits = waits; asks = asks ∙ ap Some x.asks; place = x.read.place; whole = x.read.whole; rsp = x.rsp; reads = x.read.reads; right = x.right }

-- No record answers PSK_EXCHANGE.
no_exchange : (effect : Effect) (ask : Ask) (exchange : ExchangeMessage) (answer : List ℕ) → may_bring effect ask ≡ true → effect ≡ Answers (PskExchange exchange) answer → ⊥
no_exchange effect ask exchange answer brings is = false≢true (ap (λ (e : Effect). may_bring e ask) (sym is) ∙ brings)

no_end : (effect : Effect) (exchange : ExchangeMessage) (answer : List ℕ) → ends effect ≡ true → effect ≡ Answers (PskExchange exchange) answer → ⊥
no_end effect exchange answer is same = false≢true (ap ends (sym same) ∙ is)

record_effect : (q : ReqSetup) (h : History) (f : Free) (id : ℕ) (ask : Ask) (sealed : List ℕ) (led : Led) (exchange : ExchangeMessage) (answer : List ℕ)
    → RecordLeads q h f (came_to q h id ask sealed) ask led → led.effect ≡ Answers (PskExchange exchange) answer → ⊥
record_effect q h f id ask sealed led exchange answer (ByEnd is next) same = no_end led.effect exchange answer is same
record_effect q h f id ask sealed led exchange answer (ByAnswer stays other brings next) same = no_exchange led.effect ask exchange answer brings same
record_effect q h f id ask sealed led exchange answer (ByUpdate all asks is) same = absurd (cc (ap (λ (l : Led). l.effect) is))
record_effect q h f id ask sealed led exchange answer (ByFirst op handle follows is) same = absurd (cc (ap (λ (l : Led). l.effect) is))
record_effect q h f id ask sealed led exchange answer (ByChunk op handle number before c asks none more is) same = absurd (cc (ap (λ (l : Led). l.effect) is))

exchange_heard : (q : ReqSetup) (h : History) (tag : ℕ) (body : List ℕ) (f : Free) (d : Draw) (entry : Entry) (exchange : ExchangeMessage) (answer : List ℕ)
    → Heard q h tag body f d entry → effect_in entry ≡ Answers (PskExchange exchange) answer → IsVerified q h body exchange answer
exchange_heard q h tag body f d entry exchange answer (inl t) brings =
    verified q h f body t.sent t.asked t.led exchange answer t.waits t.asks
    (exchanged q h f t.sent.aim (drop 1 body) t.asked t.led exchange answer (clear_leads q h f t.sent.aim (drop 1 body) t.asked t.led t.asks t.leads) (ap effect_in (sym t.is) ∙ brings))
exchange_heard q h tag body f d entry exchange answer (inr o) brings =
    absurd (record_effect q h f o.1.id o.1.ask (drop 1 body) (or_lost (came_to q h o.1.id o.1.ask (drop 1 body)) (inner_led q h f (came_to q h o.1.id o.1.ask (drop 1 body)) o.1.ask)) exchange answer
    (record_leads q h f (came_to q h o.1.id o.1.ask (drop 1 body)) o.1.ask) (ap effect_in (sym o.1.is) ∙ brings))

pub accepted : AcceptedIsVerified
accepted q h owner tag body f d entry exchange answer is brings = exchange_heard q h tag body f d entry exchange answer (heard q h owner tag body f d entry is) brings

-- ---- A record.

record_heard : (q : ReqSetup) (h : History) (tag : ℕ) (body : List ℕ) (f : Free) (d : Draw) (entry : Entry) → Heard q h tag body f d entry → is_clear body ≡ false → IsOpened q h tag (drop 1 body) f d entry
record_heard q h tag body f d entry (inl t) sealed = absurd (false≢true (sym sealed ∙ t.clear))
record_heard q h tag body f d entry (inr o) sealed = o.1

pub taken_opened : TakenRecordIsOpened
taken_opened q h owner tag body f d entry is sealed = record_heard q h tag body f d entry (heard q h owner tag body f d entry is) sealed
