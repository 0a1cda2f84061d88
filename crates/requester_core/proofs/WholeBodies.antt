-- A whole body, by what it leads to.
use Rattle.std.proofs.Common.{refl, ◌≡◌, ◌≤◌, ◌∙◌, ◌∷◌, ℕ, List, Bool, true, false, Option, Some, None, ap, sym, arith, [], subst}
use Rattle.std.specs.Prelude.{drop, if◌then◌else◌, length, nat_lt, unwrap_or, Result, Ok, Err}
use Rattle.std.proofs.lemmas.Bool.Decides.{nat_tests}
use Rattle.std.proofs.lemmas.Option.{none-some, same_Some}
use Rattle.chunking.specs.Keeping as keeping
use Rattle.requester_machine.proofs.ClearLeads.{clear_leads}
use Rattle.requester_machine.proofs.Heard.{clear_type, test_is_false}
use Rattle.requester_machine.specs.Answers.{answer_led, exchange_led, goes_on}
use Rattle.requester_machine.specs.Asking.Outcome.{Adds, Ignores, Warns}
use Rattle.requester_machine.specs.Bodies.{body_fault, error_in, is_clear, is_out_of_place, is_record}
use Rattle.requester_machine.specs.ClearAnswers.{carried_by, clear_led, read_led, reading_of}
use Rattle.requester_machine.specs.ClearAnswers.Carried.{Whole}
use Rattle.requester_machine.specs.Commands.{Free}
use Rattle.requester_machine.specs.Hearing.{clear_outcome, hears, hears_by, hears_to, on_record}
use Rattle.requester_machine.specs.History.{Entry, History, Led, negotiation_of, outstanding}
use Rattle.requester_machine.specs.History.Effect.{Nothing, Refuses}
use Rattle.requester_machine.specs.History.Entry.{TookClear}
use Rattle.requester_machine.specs.Holds.{Holds}
use Rattle.requester_machine.specs.Message.{Aim, Ask, Sent, asked_in}
use Rattle.requester_machine.specs.Message.Aim.{ByChunks, ForChunk, InSession, Plain}
use Rattle.requester_machine.specs.Session.{after_clear, session_of}
use Rattle.requester_machine.specs.Setup.{ReqSetup}
use Rattle.requester_machine.specs.Session.Step.{Started}
use Rattle.requester_machine.specs.UnderWay.{HasSizes, IsAwaited}
use Rattle.spdm_basis.proofs.Bools.{and_rest}
use Rattle.spdm_grammar.specs.Message.{RequestMessage, ResponseMessage}
use Rattle.spdm_grammar.specs.Message.RequestMessage.{PskExchange}
use Rattle.spdm_grammar.specs.Message.ResponseMessage.{PskExchangeRsp}
use Rattle.spdm_grammar.specs.declared.messages.malformed.Malformed.{Malformed}
use Rattle.spdm_grammar.specs.Requests.{canonical_request}
use Rattle.spdm_grammar.specs.declared.told.event.Event.{Event}
use Rattle.spdm_grammar.specs.declared.told.event.ReqIgnored.{ReqIgnored}
use Rattle.spdm_grammar.specs.declared.told.event.ReqIgnored.TheVariants as ignored
use Rattle.spdm_grammar.specs.declared.names.TheConstants.{MAX_MESSAGE_SIZE}
use Rattle.spdm_machine.specs.Keys.{Draw}
use Rattle.requester_core.specs.Gathering.{Gathered}
use Rattle.requester_core.specs.Hearing.{IsAtRest, IsEntered, IsExchangeFor, IsHeard, IsRegathered, LeadsTo, Regathers, exchange_id, heard_in, heard_of, rested}
use Rattle.requester_core.specs.ReplyOutcome as led_specs
use Rattle.requester_core.specs.ReplyOutcome.{IsExchange}
use Rattle.requester_core.specs.ClearState.{Seen}
use Rattle.requester_core.specs.Outstanding.{kind_of}
use Rattle.requester_core.specs.declared.clear.body_outcome.BodyOutcome.TheVariants as told
use Rattle.requester_core.specs.declared.clear.reply_outcome.ReplyOutcome as seen_led
use Rattle.requester_core.specs.declared.clear.reply_outcome.ReplyOutcome.TheVariants as seen
use Rattle.requester_core.specs.declared.clear.outstanding.PendingRequest.{PendingRequest}
use Rattle.requester_core.specs.declared.clear.outstanding.PendingRequest.TheVariants as asks
use Rattle.requester_core.proofs.Answered.{any_free}
use Rattle.requester_core.proofs.SessionsKept.{rests_sessions, sends_sessions}
use Rattle.requester_core.proofs.Taken.{awaited_here, carried_leads}

-- ---- What a body leads to.

-- It is ignored,
pub faulty : (q : ReqSetup) (h : History) (owner : Bool) (tag : ℕ) (body : List ℕ) (cause : ReqIgnored) → body_fault q (outstanding h) owner tag body ≡ Some cause → LeadsTo q h owner tag body (Ignores cause)
unfolding hears
faulty q h owner tag body cause is f d = ap (hears_by q h f tag body d (outstanding h)) is

-- or comes to what is outstanding,
sound : (q : ReqSetup) (h : History) (owner : Bool) (tag : ℕ) (body : List ℕ) (f : Free) (d : Draw) (sent : Sent) → outstanding h ≡ Some sent → body_fault q (outstanding h) owner tag body ≡ None → hears q h owner tag body f d ≡ hears_to q h f tag body d sent.aim
unfolding hears
sound q h owner tag body f d sent waits none = ap (hears_by q h f tag body d (outstanding h)) none ∙ ap (λ (o : Option Sent). hears_by q h f tag body d o None) waits

-- which may be nothing,
pub nothing_heard : (q : ReqSetup) (h : History) (owner : Bool) (tag : ℕ) (body : List ℕ) → outstanding h ≡ None → body_fault q (outstanding h) owner tag body ≡ None → LeadsTo q h owner tag body (Ignores ignored.NothingOutstanding)
unfolding hears
nothing_heard q h owner tag body waits none f d = ap (hears_by q h f tag body d (outstanding h)) none ∙ ap (λ (o : Option Sent). hears_by q h f tag body d o None) waits

-- a request in the clear,
to_clear : (q : ReqSetup) (h : History) (f : Free) (tag : ℕ) (body : List ℕ) (d : Draw) (aim : Aim) (request : RequestMessage) → asked_in aim ≡ Some request
    → hears_to q h f tag body d aim ≡ clear_outcome tag (drop 1 body) d (clear_led q h f aim request (drop 1 body))
to_clear q h f tag body d (Plain asked) request is = ap (λ (r : RequestMessage). clear_outcome tag (drop 1 body) d (clear_led q h f (Plain asked) r (drop 1 body))) (same_Some asked request is)
to_clear q h f tag body d (ByChunks asked handle number) request is = ap (λ (r : RequestMessage). clear_outcome tag (drop 1 body) d (clear_led q h f (ByChunks asked handle number) r (drop 1 body))) (same_Some asked request is)
to_clear q h f tag body d (ForChunk asked handle number before) request is = ap (λ (r : RequestMessage). clear_outcome tag (drop 1 body) d (clear_led q h f (ForChunk asked handle number before) r (drop 1 body))) (same_Some asked request is)
to_clear q h f tag body d (InSession id ask) request is = absurd (none-some request is)

pub hears_clear : (q : ReqSetup) (h : History) (owner : Bool) (tag : ℕ) (body : List ℕ) (f : Free) (d : Draw) (sent : Sent) (request : RequestMessage) → outstanding h ≡ Some sent → body_fault q (outstanding h) owner tag body ≡ None → asked_in sent.aim ≡ Some request
    → hears q h owner tag body f d ≡ clear_outcome tag (drop 1 body) d (clear_led q h f sent.aim request (drop 1 body))
hears_clear q h owner tag body f d sent request waits none asks = sound q h owner tag body f d sent waits none ∙ to_clear q h f tag body d sent.aim request asks

-- or a session.
hears_session : (q : ReqSetup) (h : History) (owner : Bool) (tag : ℕ) (body : List ℕ) (f : Free) (d : Draw) (sent : Sent) (id : ℕ) (ask : Ask) → outstanding h ≡ Some sent → body_fault q (outstanding h) owner tag body ≡ None → sent.aim ≡ InSession id ask
    → hears q h owner tag body f d ≡ (if is_clear body then Warns (unwrap_or (error_in (drop 1 body)) 0) else on_record q h f tag id ask (drop 1 body) d)
hears_session q h owner tag body f d sent id ask waits none aims = sound q h owner tag body f d sent waits none ∙ ap (hears_to q h f tag body d) aims

session_by : (q : ReqSetup) (h : History) (owner : Bool) (tag : ℕ) (body : List ℕ) (sent : Sent) (id : ℕ) (ask : Ask) (seen : Seen) (out : List ℕ) (b : Bool) → is_clear body ≡ b → outstanding h ≡ Some sent → sent.aim ≡ InSession id ask
    → ((f : Free) (d : Draw) → hears q h owner tag body f d ≡ (if b then Warns (unwrap_or (error_in (drop 1 body)) 0) else on_record q h f tag id ask (drop 1 body) d))
    → IsHeard q h owner tag body (if b then told.Warned (unwrap_or (error_in (drop 1 body)) 0) else told.Record id) seen seen out
session_by q h owner tag body sent id ask seen out true clear waits aims leads = (leads, refl)
session_by q h owner tag body sent id ask seen out false clear waits aims leads = record { sent = sent; waits = waits; ask = ask; aims = aims; sealed = clear; outcome = leads; same = refl }

pub session_heard : (q : ReqSetup) (h : History) (owner : Bool) (tag : ℕ) (body : List ℕ) (sent : Sent) (id : ℕ) (ask : Ask) (seen : Seen) (out : List ℕ) → outstanding h ≡ Some sent → body_fault q (outstanding h) owner tag body ≡ None → sent.aim ≡ InSession id ask
    → IsHeard q h owner tag body (heard_in id body) seen seen out
session_heard q h owner tag body sent id ask seen out waits none aims =
    session_by q h owner tag body sent id ask seen out (is_clear body) refl waits aims (λ f d. hears_session q h owner tag body f d sent id ask waits none aims)

-- Nothing changes what was gathered.
pub session_gathers : (q : ReqSetup) (h : History) (owner : Bool) (tag : ℕ) (body : List ℕ) (id : ℕ) (g : keeping.Kept) (b : Bool) → IsRegathered q h owner tag body (if b then told.Warned (unwrap_or (error_in (drop 1 body)) 0) else told.Record id) g g
session_gathers q h owner tag body id g true = refl
session_gathers q h owner tag body id g false = refl

-- ---- A message in the clear.

-- It is no record.
in_place : (aim : Aim) (request : RequestMessage) (body : List ℕ) → asked_in aim ≡ Some request → is_out_of_place aim body ≡ false → is_record body ≡ false
in_place (Plain asked) request body asks is = is
in_place (ByChunks asked handle number) request body asks is = is
in_place (ForChunk asked handle number before) request body asks is = is
in_place (InSession id ask) request body asks is = absurd (none-some request asks)

le_by : (n k : ℕ) → nat_lt n k ≡ false → k ≤ n
le_by n k is = grind (arith, nat_tests)

-- It is short enough to be read.
pub short_body : (q : ReqSetup) (h : History) (owner : Bool) (tag : ℕ) (body : List ℕ) (sent : Sent) (request : RequestMessage) → HasSizes q → outstanding h ≡ Some sent → body_fault q (outstanding h) owner tag body ≡ None → asked_in sent.aim ≡ Some request
    → length (drop 1 body) ≤ MAX_MESSAGE_SIZE
short_body q h owner tag body sent request sizes waits none asks =
    let fault = ap (λ (o : Option Sent). body_fault q o owner tag body) (sym waits) ∙ none in
    let clear = clear_type q sent owner tag body fault (in_place sent.aim request body asks (test_is_false q (Some sent) owner tag body fault 4)) in
    let long = and_rest (is_clear body) (nat_lt q.transfer (length (drop 1 body))) (test_is_false q (Some sent) owner tag body fault 5) clear in
    let room = sizes.transfer in
    (let short = le_by q.transfer (length (drop 1 body)) long in omega (arith, short, room))

-- It was taken, under these free values, where it leads to this.
entered : (q : ReqSetup) (h : History) (owner : Bool) (tag : ℕ) (body : List ℕ) (f : Free) (d : Draw) (leads : Result Led ReqIgnored) (led : Led) (new : Seen) → hears q h owner tag body f d ≡ clear_outcome tag (drop 1 body) d leads → leads ≡ Ok led
    → led_specs.Stands q h (drop 1 body) leads new → IsEntered q h owner tag body f d led new
entered q h owner tag body f d leads led new is ok stands = record { outcome = is ∙ ap (clear_outcome tag (drop 1 body) d) ok; stands = stands led tag d ok }

-- It carries PSK_EXCHANGE_RSP.
exchange_leads : (q : ReqSetup) (h : History) (f : Free) (sent : Sent) (request : RequestMessage) (m answer : List ℕ) (place : ℕ) (old new : Seen) (out : List ℕ) → carried_by q h m sent.aim ≡ Whole answer place → (x : IsExchange h request answer old new out)
    → clear_led q h f sent.aim request m ≡ exchange_led q h f x.exchange answer x.rsp
exchange_leads q h f sent request m answer place old new out whole x =
    carried_leads q h f sent request m (Whole answer place) whole
    ∙ ap (λ (r : Result ResponseMessage Malformed). read_led q h f place request answer r) x.reads
    ∙ ap (λ (r : RequestMessage). answer_led q h f place r answer (PskExchangeRsp x.rsp)) x.asks

exchange_heard : (q : ReqSetup) (h : History) (owner : Bool) (tag : ℕ) (body : List ℕ) (sent : Sent) (request : RequestMessage) (answer : List ℕ) (place : ℕ) (old new : Seen) (out : List ℕ) → IsAwaited q h request → outstanding h ≡ Some sent → asked_in sent.aim ≡ Some request
    → ((f : Free) (d : Draw) → hears q h owner tag body f d ≡ clear_outcome tag (drop 1 body) d (clear_led q h f sent.aim request (drop 1 body)))
    → carried_by q h (drop 1 body) sent.aim ≡ Whole answer place → IsExchange h request answer old new out → IsExchangeFor q h owner tag body (exchange_id (kind_of request)) old new out
exchange_heard q h owner tag body sent request answer place old new out awaits waits asks is whole x = record {
  sent = sent;
  waits = waits;
  exchange = x.exchange;
  asks = asks ∙ ap Some x.asks;
  id_is = sym (ap (λ (r : RequestMessage). exchange_id (kind_of r)) x.asks);
  session = subst (λ (n : ℕ). session_of n h ≡ Started (negotiation_of h) (canonical_request (PskExchange x.exchange)) ∷ []) (sym (ap (λ (r : RequestMessage). exchange_id (kind_of r)) x.asks)) (subst (IsAwaited q h) x.asks awaits).1;
  place = place;
  whole = whole ∙ ap (λ (a : List ℕ). Whole a place) (sym x.written);
  rsp = x.rsp;
  reads = ap (λ (r : RequestMessage). reading_of h r out) (sym x.asks) ∙ ap (reading_of h request) x.written ∙ x.reads;
  outcome = λ f d. is f d ∙ ap (clear_outcome tag (drop 1 body) d) (exchange_leads q h f sent request (drop 1 body) answer place old new out whole x ∙ ap (λ (a : List ℕ). exchange_led q h f x.exchange a x.rsp) (sym x.written));
  same = x.same;
}

-- Nothing is sent: where PSK_EXCHANGE was outstanding it was refused.
abbrev RefusedSteps : RequestMessage → History → Entry → Type 0
RefusedSteps request h entry = (id : ℕ) → session_of id (entry ∷ h) ≡ after_clear id (Refuses request) (session_of id h)

rest_heard : (q : ReqSetup) (h : History) (owner : Bool) (tag : ℕ) (body : List ℕ) (request : RequestMessage) (event : Event) (old new : Seen) (out : List ℕ) → ((f : Free) (d : Draw) → IsAtRest q h owner tag body f d event (RefusedSteps request) new)
    → IsHeard q h owner tag body (rested (kind_of request) event) old new out
rest_heard q h owner tag body (PskExchange exchange) event old new out rests = λ f d.
    let r = rests f d in
    record { led = r.led; event = r.event; next = r.next; sessions = r.sessions; entered = r.entered }
rest_heard q h owner tag body _ event old new out rests = λ f d.
    let r = rests f d in
    record { led = r.led; event = r.event; next = r.next; sessions = r.sessions; entered = r.entered }

-- What the clear part says of it, in terms of the whole body.
pub clear_heard : (q : ReqSetup) (h : History) (owner : Bool) (tag : ℕ) (body : List ℕ) (sent : Sent) (request : RequestMessage) (led : seen_led.ReplyOutcome) (old new : Seen) (out : List ℕ) → Holds q h → outstanding h ≡ Some sent → asked_in sent.aim ≡ Some request
    → ((f : Free) (d : Draw) → hears q h owner tag body f d ≡ clear_outcome tag (drop 1 body) d (clear_led q h f sent.aim request (drop 1 body)))
    → led_specs.IsTaken q h sent request (drop 1 body) led old new out → IsHeard q h owner tag body (heard_of (kind_of request) led) old new out
clear_heard q h owner tag body sent request (seen.Ignored cause) old new out holds waits asks is taken =
    (λ f d. is f d ∙ ap (clear_outcome tag (drop 1 body) d) (taken f).0.0, (taken any_free).0.1)
clear_heard q h owner tag body sent request (seen.Rests event) old new out holds waits asks is taken =
    rest_heard q h owner tag body request event old new out (λ f d.
    let t = taken f in
    record {
      led = t.0.0;
      event = t.0.2.event;
      next = t.0.2.next;
      sessions = rests_sessions q h f sent.aim (drop 1 body) request t.0.0 tag d (clear_leads q h f sent.aim (drop 1 body) request t.0.0 asks t.0.1) t.0.2.next;
      entered = entered q h owner tag body f d _ t.0.0 new (is f d) t.0.1 t.1;
    })
clear_heard q h owner tag body sent request (seen.Sends its) old new out holds waits asks is taken = λ f d.
    let t = taken f in
    record {
      led = t.0.0;
      event = t.0.4.event;
      sent = t.0.2;
      next = t.0.4.next;
      tag_is = t.0.4.tag_is;
      content = t.0.4.content;
      sessions = sends_sessions q h f sent.aim (drop 1 body) request t.0.0 t.0.2 out tag d (clear_leads q h f sent.aim (drop 1 body) request t.0.0 asks t.0.1) t.0.4.next t.0.4.content;
      entered = entered q h owner tag body f d _ t.0.0 new (is f d) t.0.1 t.1;
    }
clear_heard q h owner tag body sent request (seen.Large its) old new out holds waits asks is taken = λ f d.
    let t = taken f in
    record {
      led = t.0.0;
      event = t.0.4.event;
      sent = t.0.2;
      next = t.0.4.next;
      tag_is = t.0.4.tag_is;
      content = t.0.4.content;
      sessions = sends_sessions q h f sent.aim (drop 1 body) request t.0.0 t.0.2 out tag d (clear_leads q h f sent.aim (drop 1 body) request t.0.0 asks t.0.1) t.0.4.next t.0.4.content;
      entered = entered q h owner tag body f d _ t.0.0 new (is f d) t.0.1 t.1;
    }
clear_heard q h owner tag body sent request (seen.More its) old new out holds waits asks is taken = λ f d. record {
  led = goes_on Nothing taken.0;
  event = taken.2.event;
  sent = taken.0;
  next = taken.2.next;
  tag_is = taken.2.tag_is;
  content = taken.2.content;
  sessions = sends_sessions q h f sent.aim (drop 1 body) request (goes_on Nothing taken.0) taken.0 out tag d (clear_leads q h f sent.aim (drop 1 body) request (goes_on Nothing taken.0) asks (taken.1 f)) taken.2.next taken.2.content;
  entered = entered q h owner tag body f d _ (goes_on Nothing taken.0) new (is f d) (taken.1 f) (taken.3 f);
}
clear_heard q h owner tag body sent request seen.Exchange old new out holds waits asks is taken =
    exchange_heard q h owner tag body sent request taken.0 taken.1 old new out (awaited_here q h sent request holds waits asks) waits asks is taken.2 taken.3

-- ---- What is gathered.

led_is : (tag : ℕ) (m : List ℕ) (d : Draw) (leads : Result Led ReqIgnored) (led : Led) → clear_outcome tag m d leads ≡ Adds (TookClear tag m led d) → leads ≡ Ok led
led_is tag m d (Err cause) led is = absurd (cc is)
led_is tag m d (Ok its) led is = (let same : its ≡ led = cc is in ap (λ (l : Led). Ok l) same)

rest_gathers : (q : ReqSetup) (h : History) (owner : Bool) (tag : ℕ) (body : List ℕ) (asked : PendingRequest) (event : Event) (old new : keeping.Kept) → Regathers q h owner tag body new → IsRegathered q h owner tag body (rested asked event) old new
rest_gathers q h owner tag body (asks.Exchange id summary) event old new gathers = gathers
rest_gathers q h owner tag body _ event old new gathers = gathers

pub clear_gathers : (q : ReqSetup) (h : History) (owner : Bool) (tag : ℕ) (body : List ℕ) (sent : Sent) (request : RequestMessage) (asked : PendingRequest) (led : seen_led.ReplyOutcome) (old new : keeping.Kept)
    → ((f : Free) (d : Draw) → hears q h owner tag body f d ≡ clear_outcome tag (drop 1 body) d (clear_led q h f sent.aim request (drop 1 body)))
    → Gathered q h sent request (drop 1 body) led old new → IsRegathered q h owner tag body (heard_of asked led) old new
clear_gathers q h owner tag body sent request asked (seen.Ignored cause) old new is gathered = gathered
clear_gathers q h owner tag body sent request asked (seen.Rests event) old new is gathered =
    rest_gathers q h owner tag body asked event old new (λ f d led heard. gathered f led (led_is tag (drop 1 body) d _ led (sym (is f d) ∙ heard)))
clear_gathers q h owner tag body sent request asked (seen.Sends its) old new is gathered = λ f d led heard. gathered f led (led_is tag (drop 1 body) d _ led (sym (is f d) ∙ heard))
clear_gathers q h owner tag body sent request asked (seen.Large its) old new is gathered = λ f d led heard. gathered f led (led_is tag (drop 1 body) d _ led (sym (is f d) ∙ heard))
clear_gathers q h owner tag body sent request asked (seen.More its) old new is gathered = λ f d led heard. gathered f led (led_is tag (drop 1 body) d _ led (sym (is f d) ∙ heard))
clear_gathers q h owner tag body sent request asked seen.Exchange old new is gathered = gathered
