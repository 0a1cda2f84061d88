-- The session of one ReqSessionID: what its slot tells of it, and what is done with it.
use Rattle.std.proofs.Common.{refl, ◌≡◌, ◌∙◌, inl, inr, ℕ, List, [], ◌∷◌, true, false, Bool, Some, None, ap, sym, subst}
use Rattle.std.specs.Prelude.{if◌then◌else◌, Ok, Err}
use Rattle.std.proofs.lemmas.Bool.{false≢true}
use Rattle.std.proofs.lemmas.Option.{none-some, same_Some}
use Rattle.requester_core.specs.RecordOutcome.{IsStepped, settled, told_led}
use Rattle.requester_core.specs.Slot.{IsAsked, IsFinishing, IsOpening, IsResting, IsSlotOf, shown_of}
use Rattle.requester_core.specs.SlotSteps.{IsAcceptedBy}
use Rattle.requester_core.specs.declared.in_sessions.record_outcome.RecordOutcome.TheVariants as seen
use Rattle.requester_core.specs.declared.in_sessions.slot.Slot.TheVariants as slot
use Rattle.psk_session.proofs.Taking.{newest_waits}
use Rattle.psk_session.specs.Course.{TakesCourse, event_of, with_asked, with_taken}
use Rattle.psk_session.specs.Course.Course.{Answered, Ended, GoesOn, Lost}
use Rattle.psk_session.specs.Finished.{IsJudged, finished_by}
use Rattle.psk_session.specs.Finishing as finishing
use Rattle.psk_session.specs.Opening as opening
use Rattle.psk_session.specs.Opening.{open_fault, started}
use Rattle.psk_session.specs.Data.{data_of}
use Rattle.psk_session.specs.ReqSession.{IsAwaiting, IsOpen, again_in, data_in, is_awaiting, is_open}
use Rattle.psk_session.specs.Stepped.{IsToldOf}
use Rattle.psk_session.specs.Waiting.{IsNewest}
use Rattle.psk_session.specs.declared.finishing.Finishing.{Finishing}
use Rattle.psk_session.specs.declared.open_fault.OpenFault.{OpenFault}
use Rattle.psk_session.specs.declared.opening.Opening.{Opening}
use Rattle.psk_session.specs.declared.req_session.ReqSession.{ReqSession}
use Rattle.psk_session.specs.declared.session_state.SessionState.{SessionState}
use Rattle.psk_session.specs.declared.session_state.SessionState.TheVariants.{Awaits, Closed, Open}
use Rattle.psk_session.specs.declared.response_outcome.ResponseOutcome.{ResponseOutcome}
use Rattle.psk_session.specs.declared.response_outcome.ResponseOutcome.TheVariants as told
use Rattle.requester_machine.proofs.Steps.{asked_stage, opening_stage}
use Rattle.requester_machine.specs.Message.{Ask}
use Rattle.requester_machine.specs.Message.Ask.{AskFinish}
use Rattle.requester_machine.specs.Order.{FitsWaits, IsOrdered, Waits, waiting_ask}
use Rattle.requester_machine.specs.Order.Waits.{ForExchange, ForRecord, Rests}
use Rattle.requester_machine.specs.Records.{answer_fault}
use Rattle.requester_machine.specs.Session.{Steps, exchange_of, is_accepted, is_live, session_id, session_negotiation, stage_of}
use Rattle.requester_machine.specs.Shown.{view_of}
use Rattle.spdm_basis.specs.declared.causes.record_fault.RecordFault.{RecordFault}
use Rattle.spdm_basis.specs.declared.values.session_id.SessionId.{SessionId}
use Rattle.spdm_grammar.specs.declared.told.event.BadReply.{BadReply}
use Rattle.spdm_grammar.specs.declared.told.event.Event.TheVariants as event
use Rattle.spdm_grammar.specs.declared.told.event.Finished.TheVariants as finished
use Rattle.spdm_grammar.specs.declared.told.phase.Stage.TheVariants as stage
use Rattle.spdm_grammar.specs.declared.told.session_view.SessionView.{SessionView}
use Rattle.transcript.specs.Transcripts.{Negotiation}

-- ---- Whether there is a session.

early : {A : Type 0} → stage.Handshake ≡ stage.Open → A
early is = absurd (cc is)

open_live : (s : Steps) → stage_of s ≡ stage.Open → is_live s ≡ true
open_live [] is = early is
open_live (step ∷ older) is = refl

waiting_live : (s : Steps) (a : Ask) → waiting_ask s ≡ Some a → is_live s ≡ true
waiting_live [] a is = absurd (none-some a is)
waiting_live (step ∷ older) a is = refl

pub resting_live : (x : ReqSession) (psk : List ℕ) (s : Steps) → IsResting x psk s → is_live s ≡ true
resting_live x psk s r = open_live s r.stands.1.stage

pub asked_waits : (x : ReqSession) (psk : List ℕ) (s : Steps) (a : IsAsked x psk s) → waiting_ask s ≡ Some a.ask
asked_waits x psk s a = newest_waits a.ask _ s a.stands.1.newest

pub live_live : (x : ReqSession) (psk : List ℕ) (s : Steps) → IsSlotOf (slot.Live x) psk s → is_live s ≡ true
live_live x psk s (inl r) = resting_live x psk s r
live_live x psk s (inr a) = waiting_live s a.ask (asked_waits x psk s a)

pub opening_live : (x : Opening) (psk : List ℕ) (s : Steps) → IsSlotOf (slot.Opening x) psk s → is_live s ≡ true
opening_live x psk s o = ap is_live o.steps

pub finishing_live : (x : Finishing) (psk : List ℕ) (s : Steps) → IsSlotOf (slot.Finishing x) psk s → is_live s ≡ true
finishing_live x psk s f = ap is_live f.steps

-- ---- What a slot lends.

open_alone : {A : Type 0} (y : SessionState) (a b : A) → is_open y ≡ true → (if is_awaiting y then a else b) ≡ b
open_alone Open a b is = refl
open_alone (Awaits what) a b is = absurd (false≢true is)
open_alone Closed a b is = absurd (false≢true is)

awaits_alone : {A : Type 0} (y : SessionState) (a b : A) → is_awaiting y ≡ true → (if is_open y then a else b) ≡ b
awaits_alone Open a b is = absurd (false≢true is)
awaits_alone (Awaits what) a b is = refl
awaits_alone Closed a b is = absurd (false≢true is)

if_so : {A : Type 0} (t : Bool) (a b : A) → t ≡ true → (if t then a else b) ≡ a
if_so true a b is = refl
if_so false a b is = absurd (false≢true is)

-- The newest record, where its answer is awaited.
pub live_again : (x : ReqSession) (psk : List ℕ) (s : Steps) (a : Ask) → IsSlotOf (slot.Live x) psk s → waiting_ask s ≡ Some a → IsNewest a (again_in x) s
live_again x psk s a (inl r) is = absurd (none-some a (sym r.idle ∙ is))
live_again x psk s a (inr k) is =
    subst (λ (b : Ask). IsNewest b (again_in x) s) (same_Some k.ask a (sym (asked_waits x psk s k) ∙ is))
    (subst (λ (sent : List ℕ). IsNewest k.ask sent s) (sym (if_so (is_awaiting x.standing) x.sent [] k.stands.0)) k.stands.1.newest)

-- None, where nothing is asked.
pub live_sends_none : (x : ReqSession) (psk : List ℕ) (s : Steps) → IsSlotOf (slot.Live x) psk s → waiting_ask s ≡ None → again_in x ≡ []
live_sends_none x psk s (inl r) is = open_alone x.standing x.sent [] r.stands.0
live_sends_none x psk s (inr k) is = absurd (none-some k.ask (sym is ∙ asked_waits x psk s k))

pub finishing_never_rests : (x : Finishing) (psk : List ℕ) (s : Steps) → IsSlotOf (slot.Finishing x) psk s → waiting_ask s ≡ None → ⊥
finishing_never_rests x psk s f is = none-some AskFinish (sym is ∙ ap waiting_ask f.steps)

-- What the last answer brought, where nothing is asked, and else nothing.
pub live_data : (x : ReqSession) (psk : List ℕ) (s : Steps) → IsSlotOf (slot.Live x) psk s → waiting_ask s ≡ None → data_in x ≡ data_of s
live_data x psk s (inl r) is = if_so (is_open x.standing) x.brought [] r.stands.0 ∙ r.stands.1.brought
live_data x psk s (inr k) is = absurd (none-some k.ask (sym is ∙ asked_waits x psk s k))

pub live_asked : (x : ReqSession) (psk : List ℕ) (s : Steps) (a : Ask) → IsSlotOf (slot.Live x) psk s → waiting_ask s ≡ Some a → data_in x ≡ []
live_asked x psk s a (inl r) is = absurd (none-some a (sym r.idle ∙ is))
live_asked x psk s a (inr k) is = awaits_alone x.standing x.brought [] k.stands.0

-- ---- A record for a session past its handshake.

pub stepped_by : (psk : List ℕ) (s : Steps) (a : Ask) (sealed pad : List ℕ) (old new : ReqSession) (t : ResponseOutcome) (id : SessionId) → id ≡ session_id s → IsAwaiting old psk s a
    → IsToldOf old psk s a sealed pad new t → IsStepped psk s a sealed pad (settled (told_led id t) (slot.Live new)) (told_led id t)
stepped_by psk s a sealed pad old new (told.Stay f) id is awaits p = (p.0, inr (record { ask = a; stands = subst (λ (x : ReqSession). IsAwaiting x psk s a) (sym p.1) awaits }))
stepped_by psk s a sealed pad old new (told.Bad f) id is awaits p = (
  [],
  inl (record {
    course = Lost f;
    takes = subst (TakesCourse psk s a sealed) p.2 p.1;
    outlives = tt;
    told = ap (λ (i : SessionId). seen.Ends (event.Lost i f)) is;
    steps = refl;
  }),
  refl,
)
stepped_by psk s a sealed pad old new told.Ended id is awaits p = (
  [],
  inl (record {
    course = Ended;
    takes = subst (TakesCourse psk s a sealed) p.2 p.1;
    outlives = tt;
    told = ap (λ (i : SessionId). seen.Ends (event.Done (finished.Ended i))) is;
    steps = refl;
  }),
  refl,
)
stepped_by psk s a sealed pad old new (told.Answer reply) id is awaits p =
    let effect = p.2.0 in (
      with_taken psk s a sealed effect,
      inl (record {
        course = Answered reply effect;
        takes = subst (TakesCourse psk s a sealed) p.2.1 p.1;
        outlives = p.2.2;
        told = ap (λ (i : SessionId). seen.Rests (event_of i reply)) is;
        steps = refl;
      }),
      inl (record { idle = refl; stands = p.2.3 }),
    )
stepped_by psk s a sealed pad old new told.Next id is awaits p =
    let effect = p.2.0 in
    let next = p.2.1 in
    let inner = p.2.2 in (
      with_asked psk (with_taken psk s a sealed effect) next inner pad,
      inl (record {
        course = GoesOn effect next inner;
        takes = subst (TakesCourse psk s a sealed) p.2.3 p.1;
        outlives = p.2.4;
        told = refl;
        steps = refl;
      }),
      inr (record { ask = next; stands = p.2.5 }),
    )

-- ---- A record for a session that awaits PSK_FINISH_RSP.

shown_id : (s : Steps) (view : SessionView) → view ≡ view_of s → view.id ≡ session_id s
unfolding view_of
shown_id s view is = ap (λ (v : SessionView). v.id) is

-- The session as it is, in the words of its state.
pub finishing_shows : (x : Finishing) (psk : List ℕ) (s : Steps) (view : SessionView) (f : IsFinishing x psk s)
    → view ≡ view_of (opening.finishing psk f.negotiation f.exchange f.answer f.pad) → view.id ≡ session_id s
finishing_shows x psk s view f is = shown_id (opening.finishing psk f.negotiation f.exchange f.answer f.pad) view is ∙ ap session_id (sym f.steps)

pub session_shows : (s : Steps) (view : SessionView) → view ≡ view_of s → view.id ≡ session_id s
session_shows s view is = shown_id s view is

module _ (psk : List ℕ) (s : Steps) (sealed pad : List ℕ) (id : SessionId) (id_is : id ≡ session_id s) where
  pub finish_opened : (x : ReqSession) → IsJudged psk s sealed None → IsOpen x psk (finished_by psk s sealed)
      → IsStepped psk s AskFinish sealed pad (slot.Live x) (seen.Rests (event.Done (finished.Opened id)))
  finish_opened x judged stands = (
    finished_by psk s sealed,
    inr (record {
      asks = refl;
      verdict = None;
      judged = judged;
      told = ap (λ (i : SessionId). seen.Rests (event.Done (finished.Opened i))) id_is;
      steps = refl;
    }),
    inl (record { idle = refl; stands = stands }),
  )

  pub finish_lost : (bad : BadReply) → IsJudged psk s sealed (Some bad) → IsStepped psk s AskFinish sealed pad slot.Empty (seen.Ends (event.Lost id bad))
  finish_lost bad judged = (
    [],
    inr (record {
      asks = refl;
      verdict = Some bad;
      judged = judged;
      told = ap (λ (i : SessionId). seen.Ends (event.Lost i bad)) id_is;
      steps = refl;
    }),
    refl,
  )

pub finish_stays : (psk : List ℕ) (s : Steps) (sealed pad : List ℕ) (old new : Finishing) (cause : RecordFault) → answer_fault psk s AskFinish sealed ≡ Some cause → new ≡ old → IsFinishing old psk s
    → IsStepped psk s AskFinish sealed pad (slot.Finishing new) (seen.Ignored cause)
finish_stays psk s sealed pad old new cause is same f = (is, subst (λ (x : Finishing). IsFinishing x psk s) (sym same) f)

-- What the state says of its own steps, it says of those of the session.
pub finishing_took : (old : Finishing) (psk : List ℕ) (s : Steps) (f : IsFinishing old psk s) (P : Steps → Type 0) → P (opening.finishing psk f.negotiation f.exchange f.answer f.pad) → P s
finishing_took old psk s f P p = subst P (sym f.steps) p

pub finishing_asks : (old : Finishing) (psk : List ℕ) (s : Steps) (a : Ask) → IsFinishing old psk s → waiting_ask s ≡ Some a → AskFinish ≡ a
finishing_asks old psk s a f waits = same_Some AskFinish a (ap waiting_ask (sym f.steps) ∙ waits)

pub opening_asks : {A : Type 0} (old : Opening) (psk : List ℕ) (s : Steps) (a : Ask) → IsOpening old psk s → waiting_ask s ≡ Some a → A
opening_asks old psk s a o waits = absurd (none-some a (ap waiting_ask (sym o.steps) ∙ waits))

pub empty_asks : {A : Type 0} (s : Steps) (a : Ask) → s ≡ [] → waiting_ask s ≡ Some a → A
empty_asks s a is waits = absurd (none-some a (ap waiting_ask (sym is) ∙ waits))

pub resting_asks : {A : Type 0} (x : ReqSession) (psk : List ℕ) (s : Steps) (a : Ask) → IsResting x psk s → waiting_ask s ≡ Some a → A
resting_asks x psk s a r waits = absurd (none-some a (sym r.idle ∙ waits))

-- The session awaits what it was asked.
pub live_awaits : (x : ReqSession) (psk : List ℕ) (s : Steps) (a : Ask) → IsSlotOf (slot.Live x) psk s → waiting_ask s ≡ Some a → IsAwaiting x psk s a
live_awaits x psk s a (inl r) waits = resting_asks x psk s a r waits
live_awaits x psk s a (inr k) waits = subst (IsAwaiting x psk s) (same_Some k.ask a (sym (asked_waits x psk s k) ∙ waits)) k.stands

-- ---- The answer to PSK_EXCHANGE.

pub opened : (x : Opening) (psk : List ℕ) (n : Negotiation) (exchange : List ℕ) → IsOpening x psk (started n exchange) → opening.StandsFor x psk n exchange
opened x psk n exchange o =
    subst (λ (m : Negotiation). opening.StandsFor x psk m exchange) (sym (ap session_negotiation o.steps))
    (subst (λ (e : List ℕ). opening.StandsFor x psk o.negotiation e) (sym (ap exchange_of o.steps)) o.stands)

pub accepts : (psk : List ℕ) (n : Negotiation) (exchange answer pad : List ℕ) (x : Finishing) → (open_fault psk n exchange answer ≡ None) × finishing.StandsFor x psk n exchange answer pad
    → IsAcceptedBy psk n exchange answer pad (slot.Finishing x) (Ok tt)
accepts psk n exchange answer pad x p = (p.0, record { negotiation = n; exchange = exchange; answer = answer; pad = pad; steps = refl; stands = p.1 })

pub refuses : (psk : List ℕ) (n : Negotiation) (exchange answer pad : List ℕ) (old new : Opening) (cause : OpenFault) → open_fault psk n exchange answer ≡ Some cause → new ≡ old
    → opening.StandsFor old psk n exchange → IsAcceptedBy psk n exchange answer pad (slot.Opening new) (Err cause)
refuses psk n exchange answer pad old new cause is same stands =
    (is, record { negotiation = n; exchange = exchange; steps = refl; stands = subst (λ (x : Opening). opening.StandsFor x psk n exchange) (sym same) stands })

pub not_empty : {A : Type 0} (n : Negotiation) (exchange : List ℕ) → started n exchange ≡ [] → A
not_empty n exchange is = absurd (false≢true (sym (ap is_live is)))

pub not_finishing : {A : Type 0} (x : Finishing) (psk : List ℕ) (n : Negotiation) (exchange : List ℕ) → IsFinishing x psk (started n exchange) → A
not_finishing x psk n exchange f = absurd (none-some AskFinish (ap waiting_ask f.steps))

pub not_live : {A : Type 0} (x : ReqSession) (psk : List ℕ) (n : Negotiation) (exchange : List ℕ) → IsSlotOf (slot.Live x) psk (started n exchange) → A
not_live x psk n exchange (inl r) = early r.stands.1.stage
not_live x psk n exchange (inr a) = absurd (none-some a.ask (asked_waits x psk (started n exchange) a))

-- ---- What is asked of a session.

rests_idle : (s : Steps) → FitsWaits Rests s → waiting_ask s ≡ None
rests_idle [] fits = refl
rests_idle (step ∷ older) fits = fits.2

-- One that rests is open.
pub live_rests : (x : ReqSession) (psk : List ℕ) (s : Steps) → IsSlotOf (slot.Live x) psk s → FitsWaits Rests s → IsResting x psk s
live_rests x psk s (inl r) fits = r
live_rests x psk s (inr a) fits = absurd (none-some a.ask (sym (rests_idle s fits) ∙ asked_waits x psk s a))

pub opening_rests : {A : Type 0} (x : Opening) (psk : List ℕ) (s : Steps) → IsOpening x psk s → FitsWaits Rests s → A
opening_rests x psk s o fits = early (subst (FitsWaits Rests) o.steps fits).0

pub finishing_rests : {A : Type 0} (x : Finishing) (psk : List ℕ) (s : Steps) → IsFinishing x psk s → FitsWaits Rests s → A
finishing_rests x psk s f fits = absurd (none-some AskFinish (sym (subst (FitsWaits Rests) f.steps fits).2))

-- ---- The record that awaits its answer.

pub live_newest : (x : ReqSession) (psk : List ℕ) (s : Steps) (a : Ask) (bytes : List ℕ) → IsSlotOf (slot.Live x) psk s → waiting_ask s ≡ Some a → ((k : IsAwaiting x psk s a) → IsNewest a bytes s) → IsNewest a bytes s
live_newest x psk s a bytes is waits newest = newest (live_awaits x psk s a is waits)

pub finishing_newest : (x : Finishing) (psk : List ℕ) (s : Steps) (a : Ask) → waiting_ask s ≡ Some a → (f : IsFinishing x psk s) → IsNewest a (opening.finish_record psk (opening.accepted f.negotiation f.exchange f.answer) f.pad) s
finishing_newest x psk s a waits f = subst (IsNewest a (opening.finish_record psk (opening.accepted f.negotiation f.exchange f.answer) f.pad)) (sym f.steps) (finishing_asks x psk s a f waits, refl)

-- ---- A session as it is shown.

resting_accepted : (w : Waits) (s : Steps) → stage_of s ≡ stage.Open → waiting_ask s ≡ None → FitsWaits w s → is_accepted s ≡ true
resting_accepted w [] rests idle fits = early rests
resting_accepted Rests (step ∷ older) rests idle fits = fits.1
resting_accepted ForExchange (step ∷ older) rests idle fits = early (sym (opening_stage (step ∷ older) fits) ∙ rests)
resting_accepted (ForRecord a) (step ∷ older) rests idle fits = absurd (none-some a (sym idle ∙ fits))

shown_by : (s : Steps) (view : SessionView) → is_accepted s ≡ true → view ≡ view_of s → Some view ≡ shown_of s
shown_by s view accepted is = ap (λ (v : SessionView). Some v) is ∙ sym (ap (λ (b : Bool). if b then Some (view_of s) else None) accepted)

pub live_shown : (x : ReqSession) (psk : List ℕ) (w : Waits) (s : Steps) (view : SessionView) → IsSlotOf (slot.Live x) psk s → IsOrdered s → FitsWaits w s
    → (IsOpen x psk s → view ≡ view_of s) → ((a : Ask) → IsAwaiting x psk s a → view ≡ view_of s) → Some view ≡ shown_of s
live_shown x psk w s view (inl r) ordered fits rests awaits = shown_by s view (resting_accepted w s r.stands.1.stage r.idle fits) (rests r.stands)
live_shown x psk w s view (inr k) ordered fits rests awaits = shown_by s view (asked_stage k.ask s ordered (asked_waits x psk s k)).1 (awaits k.ask k.stands)
