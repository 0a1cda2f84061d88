-- What comes of a body at a requester of both parts.
use Rattle.std.proofs.Common.{refl, ◌≡◌, ◌∙◌, ◌∷◌, ℕ, List, Bool, true, false, Option, Some, None, ap, sym, subst}
use Rattle.std.specs.Prelude.{drop, is_some, Result, Ok, Err}
use Rattle.std.proofs.lemmas.Bool.{false≢true}
use Rattle.requester_core.proofs.DataBrought.{record_aims}
use Rattle.requester_core.proofs.Joining.{clear_out, record_out}
use Rattle.requester_core.proofs.SessionsApart.{clear_passes}
use Rattle.requester_core.proofs.SessionsBegun.{exchange_leads}
use Rattle.chunking.specs.Keeping as keeping
use Rattle.requester_core.specs.Gathering.{Gathers}
use Rattle.requester_core.specs.Hearing.{ClosesSession, GoesOn, IsAtRest, IsExchangeFor, IsRecordFor, KeepsSessions, Regathers}
use Rattle.requester_core.specs.InSession.{SendsRecord, Settles}
use Rattle.requester_core.specs.Joined as joined
use Rattle.requester_core.specs.Joined.{IsAnswered, IsAsked, IsBeside, IsSentAs, StandsFor}
use Rattle.requester_core.specs.SessionSteps.{BringsExchange, IsAdded, IsBegunBy, IsRecordOf, event_by, is_sent}
use Rattle.requester_core.specs.Sessions as sessions
use Rattle.requester_core.specs.declared.joined.RequesterCore.{RequesterCore}
use Rattle.requester_core.specs.declared.reaction.Reaction.{Reaction}
use Rattle.requester_core.specs.declared.in_sessions.record_outcome.RecordOutcome.{RecordOutcome}
use Rattle.requester_core.specs.declared.in_sessions.sessions.Sessions.{Sessions}
use Rattle.requester_core.specs.ClearState as clear_state
use Rattle.requester_machine.proofs.ClearLeads.{clear_leads, exchanged}
use Rattle.requester_machine.specs.Answers.{exchange_led, with_answer}
use Rattle.requester_machine.specs.Sending.{finish_sent}
use Rattle.requester_machine.specs.Asking.{Outcome}
use Rattle.requester_machine.specs.Asking.Outcome.{Adds, Ignores}
use Rattle.requester_machine.specs.Commands.{Free}
use Rattle.requester_machine.specs.Hearing.{clear_outcome, hears, on_record}
use Rattle.requester_machine.specs.History.{Entry, History, Led, sent_in}
use Rattle.requester_machine.specs.History.Entry.{TookClear}
use Rattle.requester_machine.specs.Message.{Ask, Sent, body_of}
use Rattle.requester_machine.specs.Message.Aim.{InSession}
use Rattle.requester_machine.specs.Message.Ask.{AskFinish}
use Rattle.requester_machine.specs.Setup.{ReqSetup}
use Rattle.requester_machine.specs.Shown.{event_in}
use Rattle.spdm_grammar.specs.Message.RequestMessage.{PskExchange}
use Rattle.spdm_grammar.specs.declared.told.event.Event.{Event}
use Rattle.spdm_grammar.specs.declared.told.event.Event.TheVariants as event
use Rattle.spdm_grammar.specs.declared.told.event.ReqIgnored.{ReqIgnored}
use Rattle.spdm_machine.specs.Bodies.{clear_body, record_body}
use Rattle.spdm_machine.specs.Keys.{Draw}
use Rattle.spdm_basis.proofs.Options.{none_out}

-- ---- What is told and sent.

pub as_told : (q : ReqSetup) (h : History) (outcome : Outcome) (r its : Reaction) (out : List ℕ) (x : RequesterCore) → r ≡ its → IsAnswered q h outcome its out x → IsAnswered q h outcome r out x
as_told q h outcome r its out x is a = subst (λ (y : Reaction). IsAnswered q h outcome y out x) (sym is) a

-- A body that is ignored.
pub ignored_answer : (q : ReqSetup) (h : History) (outcome : Outcome) (cause : ReqIgnored) (out : List ℕ) (x : RequesterCore) → outcome ≡ Ignores cause → StandsFor x q h → IsAnswered q h outcome (joined.told (event.Ignored cause)) out x
ignored_answer q h outcome cause out x is stands = subst (λ (o : Outcome). IsAnswered q h o (joined.told (event.Ignored cause)) out x) (sym is) (record { event = refl; sends = tt; stands = stands })

-- An entry in response to which nothing is sent.
pub rest_answer : (q : ReqSetup) (h : History) (outcome : Outcome) (entry : Entry) (told : Event) (out : List ℕ) (x : RequesterCore) → outcome ≡ Adds entry → event_in entry ≡ Some told → sent_in entry ≡ None → StandsFor x q (entry ∷ h)
    → IsAnswered q h outcome (joined.told told) out x
rest_answer q h outcome entry told out x is event none stands =
    subst (λ (o : Outcome). IsAnswered q h o (joined.told told) out x) (sym is) (record { event = event; sends = subst (λ (s : Option Sent). IsSentAs s None out) (sym none) tt; stands = stands })

-- An entry in response to which this is sent.
pub sent_answer : (q : ReqSetup) (h : History) (outcome : Outcome) (entry : Entry) (next : Sent) (tag : ℕ) (out : List ℕ) (x : RequesterCore) → outcome ≡ Adds entry → event_in entry ≡ Some event.Progress → sent_in entry ≡ Some next → next.tag ≡ tag → out ≡ body_of next.content
    → StandsFor x q (entry ∷ h) → IsAnswered q h outcome (joined.sent tag) out x
sent_answer q h outcome entry next tag out x is event sends tags body stands =
    subst (λ (o : Outcome). IsAnswered q h o (joined.sent tag) out x) (sym is) (record { event = event; sends = subst (λ (s : Option Sent). IsSentAs s (Some tag) out) (sym sends) (tags, body); stands = stands })

-- ---- A record that is sent upon a body.

pub follow_answer : (q : ReqSetup) (h : History) (entry : Entry) (next : Sent) (tag : ℕ) (bytes out : List ℕ) (old new : RequesterCore) → IsBeside old q h entry → event_in entry ≡ Some event.Progress → sent_in entry ≡ Some next
    → SendsRecord q (entry ∷ h) next tag new.clear_state → IsRecordOf bytes next.content → out ≡ record_body bytes → new.sessions ≡ old.sessions → new.gathered ≡ old.gathered → IsAnswered q h (Adds entry) (joined.sent tag) out new
follow_answer q h entry next tag bytes out old new beside event sends s is outs same kept =
    sent_answer q h (Adds entry) entry next tag out new refl event sends s.tag_is (record_out next.content bytes out is outs)
    (record {
      clear_state = s.stands;
      sessions = subst (λ (x : Sessions). sessions.StandsFor x q (entry ∷ h)) (sym same) beside.sessions;
      gathers = subst (λ (o : Option Sent). Gathers q o new.gathered) (sym sends) (s.gathers new.gathered (ap (λ (g : keeping.Kept). g.max) kept ∙ beside.max));
    })

-- ---- PSK_EXCHANGE_RSP.

module _ (q : ReqSetup) (h : History) (owner : Bool) (tag : ℕ) (body : List ℕ) (id : ℕ) (seen : clear_state.Seen) (answer : List ℕ) (x : IsExchangeFor q h owner tag body id seen seen answer) where
  pub brings : BringsExchange q h x.sent (drop 1 body) answer x.exchange
  brings = record { rsp = x.rsp; place = x.place; waits = x.waits; asks = x.asks; whole = x.whole; reads = x.reads }

  module _ (f : Free) (d : Draw) where
    leads_to : (led : Led) (leads : Result Led ReqIgnored) → exchange_led q h f x.exchange answer x.rsp ≡ leads → hears q h owner tag body f d ≡ clear_outcome tag (drop 1 body) d leads
    leads_to led leads is = x.outcome f d ∙ ap (clear_outcome tag (drop 1 body) d) is

    pub begun_adds : (led : Led) → exchange_led q h f x.exchange answer x.rsp ≡ Ok led → hears q h owner tag body f d ≡ Adds (TookClear tag (drop 1 body) led d)
    begun_adds led is = leads_to led (Ok led) is

    pub begun_ignores : (cause : ReqIgnored) → exchange_led q h f x.exchange answer x.rsp ≡ Err cause → hears q h owner tag body f d ≡ Ignores cause
    begun_ignores cause is = x.outcome f d ∙ ap (clear_outcome tag (drop 1 body) d) is

-- ---- What the session of this ReqSessionID does upon a body that it takes.

-- It sends a record.
pub record IsFollowed (q : ReqSetup) (h : History) (owner : Bool) (tag : ℕ) (body : List ℕ) (f : Free) (d : Draw) (id : ℕ) (entry : Entry) : Type 0 where
  pub next : Sent
  pub ask : Ask
  pub adds : hears q h owner tag body f d ≡ Adds entry
  pub event : event_in entry ≡ Some event.Progress
  pub sends : sent_in entry ≡ Some next
  pub aims : next.aim ≡ InSession id ask

-- PSK_FINISH, on PSK_EXCHANGE_RSP with the right verify data.
pub begun_follows : (q : ReqSetup) (h : History) (owner : Bool) (tag : ℕ) (body : List ℕ) (id : ℕ) (seen : clear_state.Seen) (answer : List ℕ) (f : Free) (d : Draw) (new : Sessions) (x : IsExchangeFor q h owner tag body id seen seen answer)
    → (told : IsBegunBy q h f tag d x.sent (drop 1 body) answer x.exchange (Ok tt) new) → IsFollowed q h owner tag body f d id (TookClear tag (drop 1 body) told.0 d)
unfolding brings
begun_follows q h owner tag body id seen answer f d new x told =
    let led : Led = told.0 in
    let m = drop 1 body in
    let e = exchanged q h f x.sent.aim m (PskExchange x.exchange) led x.exchange answer (clear_leads q h f x.sent.aim m (PskExchange x.exchange) led x.asks told.1) told.2 in
    record {
      next = finish_sent q h x.exchange.req_id (with_answer h x.exchange answer) f.pad;
      ask = AskFinish;
      adds = begun_adds q h owner tag body id seen answer x f d led (sym (exchange_leads q h f tag d x.sent m answer x.exchange (brings q h owner tag body id seen answer x)) ∙ told.1);
      event = ap (λ (l : Led). Some l.event) e.is;
      sends = ap (λ (l : Led). l.next) e.is;
      aims = ap (λ (n : ℕ). InSession n AskFinish) x.id_is;
    }

pub begun_refuses : (q : ReqSetup) (h : History) (owner : Bool) (tag : ℕ) (body : List ℕ) (id : ℕ) (seen : clear_state.Seen) (answer : List ℕ) (f : Free) (d : Draw) (cause : ReqIgnored) (new : Sessions) (x : IsExchangeFor q h owner tag body id seen seen answer)
    → IsBegunBy q h f tag d x.sent (drop 1 body) answer x.exchange (Err cause) new → hears q h owner tag body f d ≡ Ignores cause
unfolding brings
begun_refuses q h owner tag body id seen answer f d cause new x told =
    begun_ignores q h owner tag body id seen answer x f d cause (sym (exchange_leads q h f tag d x.sent (drop 1 body) answer x.exchange (brings q h owner tag body id seen answer x)) ∙ told.0)

-- ---- A record that comes.

some_of : (o : Option Sent) → is_some o ≡ true → (next : Sent) × (o ≡ Some next)
some_of None is = absurd (false≢true is)
some_of (Some next) is = (next, refl)

module _ (q : ReqSetup) (h : History) (owner : Bool) (tag : ℕ) (body : List ℕ) (id : ℕ) (seen : clear_state.Seen) (f : Free) (d : Draw) (sealed : List ℕ) (x : IsRecordFor q h owner tag body id seen seen) (same : sealed ≡ drop 1 body) where
  pub record_leads_to : (outcome : Outcome) → on_record q h f tag id x.ask sealed d ≡ outcome → hears q h owner tag body f d ≡ outcome
  record_leads_to outcome is = x.outcome f d ∙ ap (λ (m : List ℕ). on_record q h f tag id x.ask m d) (sym same) ∙ is

  pub asked : IsAsked h x.sent id x.ask
  asked = record { outstanding = x.waits; aims = x.aims }

  pub record_follows : (led : RecordOutcome) (new : Sessions) (a : IsAdded q h (on_record q h f tag id x.ask sealed d) led new) → event_by led ≡ event.Progress → is_sent led ≡ true → IsFollowed q h owner tag body f d id a.entry
  record_follows led new a told sends =
      let adds = record_leads_to (Adds a.entry) a.adds in
      let next = some_of (sent_in a.entry) (a.next ∙ sends) in
      let aims = record_aims q h owner tag body f d a.entry x.sent next.0 id x.ask adds x.sealed asked next.1 in
      record { next = next.0; ask = aims.0; adds = adds; event = a.event ∙ ap (λ (e : Event). Some e) told; sends = next.1; aims = aims.1 }

  pub record_settles : (led : RecordOutcome) (new : Sessions) (a : IsAdded q h (on_record q h f tag id x.ask sealed d) led new) → is_sent led ≡ false → Settles q h owner tag body f d a.entry
  record_settles led new a rests = record { sealed = x.sealed; outcome = record_leads_to (Adds a.entry) a.adds; next = none_out (sent_in a.entry) (a.next ∙ rests) }

-- ---- A message in the clear.

-- It is taken, and changes no session.
pub kept_stands : (q : ReqSetup) (h : History) (owner : Bool) (tag : ℕ) (body : List ℕ) (f : Free) (d : Draw) (led : Led) (x : RequesterCore) → hears q h owner tag body f d ≡ Adds (TookClear tag (drop 1 body) led d) → KeepsSessions h (TookClear tag (drop 1 body) led d)
    → sessions.StandsFor x.sessions q h → clear_state.StandsFor x.clear_state q (TookClear tag (drop 1 body) led d ∷ h) → Regathers q h owner tag body x.gathered → StandsFor x q (TookClear tag (drop 1 body) led d ∷ h)
kept_stands q h owner tag body f d led x adds keeps behind stands gathers = record {
  clear_state = stands;
  sessions = clear_passes x.sessions q h f owner tag body d led adds keeps behind;
  gathers = gathers f d led adds;
}

pub rests_answer : (q : ReqSetup) (h : History) (owner : Bool) (tag : ℕ) (body : List ℕ) (f : Free) (d : Draw) (told : Event) (out : List ℕ) (x : RequesterCore) → IsAtRest q h owner tag body f d told KeepsSessions x.clear_state → sessions.StandsFor x.sessions q h
    → Regathers q h owner tag body x.gathered → IsAnswered q h (hears q h owner tag body f d) (joined.told told) out x
rests_answer q h owner tag body f d told out x r behind gathers =
    rest_answer q h (hears q h owner tag body f d) (TookClear tag (drop 1 body) r.led d) told out x r.entered.outcome (ap (λ (e : Event). Some e) r.event) r.next
    (kept_stands q h owner tag body f d r.led x r.entered.outcome r.sessions behind r.entered.stands gathers)

pub goes_answer : (q : ReqSetup) (h : History) (owner : Bool) (tag : ℕ) (body : List ℕ) (f : Free) (d : Draw) (its : ℕ) (message out : List ℕ) (x : RequesterCore) → GoesOn q h owner tag body f d its x.clear_state message → out ≡ clear_body message → sessions.StandsFor x.sessions q h
    → Regathers q h owner tag body x.gathered → IsAnswered q h (hears q h owner tag body f d) (joined.sent its) out x
goes_answer q h owner tag body f d its message out x g outs behind gathers =
    sent_answer q h (hears q h owner tag body f d) (TookClear tag (drop 1 body) g.led d) g.sent its out x g.entered.outcome (ap (λ (e : Event). Some e) g.event) g.next g.tag_is (clear_out g.sent.content message out g.content outs)
    (kept_stands q h owner tag body f d g.led x g.entered.outcome g.sessions behind g.entered.stands gathers)

-- It is taken, and ends a session.
pub closed_answer : (q : ReqSetup) (h : History) (owner : Bool) (tag : ℕ) (body : List ℕ) (f : Free) (d : Draw) (id : ℕ) (told : Event) (out : List ℕ) (old : Sessions) (x : RequesterCore) → IsAtRest q h owner tag body f d told (ClosesSession id) x.clear_state
    → ((led : Led) → hears q h owner tag body f d ≡ Adds (TookClear tag (drop 1 body) led d) → ClosesSession id h (TookClear tag (drop 1 body) led d) → sessions.StandsFor x.sessions q (TookClear tag (drop 1 body) led d ∷ h))
    → Regathers q h owner tag body x.gathered → IsAnswered q h (hears q h owner tag body f d) (joined.told told) out x
closed_answer q h owner tag body f d id told out old x r behind gathers =
    rest_answer q h (hears q h owner tag body f d) (TookClear tag (drop 1 body) r.led d) told out x r.entered.outcome (ap (λ (e : Event). Some e) r.event) r.next
    (record { clear_state = r.entered.stands; sessions = behind r.led r.entered.outcome r.sessions; gathers = gathers f d r.led r.entered.outcome })
