-- Sessions that begin at a requester.
use Rattle.std.proofs.Common.{refl, ◌≡◌, ◌≢◌, ◌∙◌, ◌≤◌, ℕ, List, ◌∷◌, true, false, Bool, Option, Some, ap, sym, subst, eq-eqb, arith}
use Rattle.std.specs.Prelude.{◌==◌, not, if◌then◌else◌, Result, Ok, Err, bytes_eq}
use Rattle.std.proofs.lemmas.Option.{none-some, same_Some}
use Rattle.requester_core.proofs.SessionsAsked.{is_other, of_each}
use Rattle.requester_core.proofs.SessionsRecorded.{unchanged}
use Rattle.requester_core.proofs.Taken.{carried_leads}
use Rattle.requester_core.specs.Outgoing.{IsKept}
use Rattle.requester_core.specs.SessionSteps.{BringsExchange, IsBegunBy}
use Rattle.requester_core.specs.Sessions.{IsNamed, StandsFor, session_at, session_begun, session_for, slot_of}
use Rattle.requester_core.specs.Slot.{IsSlotOf}
use Rattle.requester_core.specs.SlotSteps.{IsAcceptedBy}
use Rattle.requester_core.specs.declared.in_sessions.sessions.Sessions.{Sessions}
use Rattle.requester_core.specs.declared.in_sessions.slot.Slot.{Slot}
use Rattle.requester_core.specs.declared.in_sessions.slot.Slot.TheVariants as slot
use Rattle.requester_core.specs.ClearState as clear_state
use Rattle.psk_session.proofs.Entries.{opening_is_answer}
use Rattle.psk_session.specs.Opening as opening
use Rattle.psk_session.specs.Opening.{accepted, finishing, open_fault, started}
use Rattle.psk_session.specs.TookLaws.{AnswersExchange, IsNoError}
use Rattle.psk_session.specs.declared.open_fault.OpenFault.{OpenFault}
use Rattle.psk_session.specs.declared.open_fault.OpenFault.TheVariants.{BadVerify, Malformed as MalformedAt}
use Rattle.psk_session.specs.declared.opening.Opening.{Opening}
use Rattle.requester_machine.proofs.ClearLeads.{clear_leads}
use Rattle.requester_machine.proofs.ClearOrder.{GoodResult, by_chunks-good, for_chunk-good, plain-good}
use Rattle.requester_machine.proofs.Entries as entries
use Rattle.requester_machine.proofs.Entries.{request_sent-asks}
use Rattle.requester_machine.proofs.FewMade.{waits_clear}
use Rattle.requester_machine.proofs.Holds.{awaited}
use Rattle.requester_machine.proofs.HoldsClear.{clear_holds}
use Rattle.requester_machine.proofs.HoldsTold.{told_holds, told_sent}
use Rattle.requester_machine.proofs.MadeOrder.{rests, begun-good}
use Rattle.requester_machine.proofs.Steps.{Good}
use Rattle.requester_machine.specs.Answers.{answer_verify, exchange_led, goes_on, with_answer}
use Rattle.requester_machine.specs.Asking.{asks}
use Rattle.requester_machine.specs.Asking.Outcome.{Adds}
use Rattle.requester_machine.specs.ClearAnswers.{carried_by, clear_led, read_led, reading_of}
use Rattle.requester_machine.specs.ClearAnswers.Carried.{Whole}
use Rattle.requester_machine.specs.Commands.{Free, exchange_for}
use Rattle.requester_machine.specs.History.{History, Led, connection_terms, negotiation_of, outstanding}
use Rattle.requester_machine.specs.History.Effect.{Answers}
use Rattle.requester_machine.specs.History.Entry.{Told, TookClear}
use Rattle.requester_machine.specs.Holds.{Waits}
use Rattle.requester_machine.specs.Message.{Aim, Sent, asked_in}
use Rattle.requester_machine.specs.Message.Aim.{ByChunks, ForChunk, InSession, Plain}
use Rattle.requester_machine.specs.Message.Command.{Open}
use Rattle.requester_machine.specs.Order.{FitsWaits, IsInOrder, IsOrdered, waits_aim, waits_asked, waits_for}
use Rattle.requester_machine.specs.Order as order
use Rattle.requester_machine.specs.Order.Waits.{ForExchange, Rests}
use Rattle.requester_machine.specs.Sending.{finish_sent, request_sent}
use Rattle.requester_machine.specs.Session.{Steps, after_clear, begun, session_of, with_sent}
use Rattle.requester_machine.specs.Setup.{ReqSetup}
use Rattle.spdm_grammar.specs.Message.{ExchangeMessage, RequestMessage, ResponseMessage}
use Rattle.spdm_grammar.specs.Message.RequestMessage.{PskExchange}
use Rattle.spdm_grammar.specs.Requests.{canonical_request}
use Rattle.spdm_grammar.specs.declared.told.event.ReqIgnored.{ReqIgnored}
use Rattle.spdm_grammar.specs.declared.told.event.ReqIgnored.TheVariants as ignored
use Rattle.spdm_grammar.specs.declared.messages.malformed.Malformed.{Malformed}
use Rattle.session_keys.specs.Terms.{AreTermsOf}
use Rattle.session_keys.specs.declared.terms.SessionTerms.{SessionTerms}
use Rattle.spdm_machine.specs.Keys.{Draw}
use Rattle.spdm_machine.specs.Sessions.{id_in_exchange}
use Rattle.transcript.specs.Transcripts.{Negotiation}

-- ---- The session of a request in the clear.

pub at_begun : (aim : Aim) (request : RequestMessage) → asked_in aim ≡ Some request → session_at aim ≡ session_begun request
at_begun (Plain asked) request is = ap session_begun (same_Some asked request is)
at_begun (ByChunks asked handle number) request is = ap session_begun (same_Some asked request is)
at_begun (ForChunk asked handle number before) request is = ap session_begun (same_Some asked request is)
at_begun (InSession id ask) request is = absurd (none-some request is)

-- ---- The answer to PSK_EXCHANGE.

good_result : (i : ℕ) (q : ReqSetup) (h : History) (f : Free) (aim : Aim) (request : RequestMessage) (m : List ℕ) → asked_in aim ≡ Some request → Good (waits_asked i request) (session_of i h)
    → GoodResult i (session_of i h) (clear_led q h f aim request m)
good_result i q h f (Plain asked) request m is good =
    let same = same_Some asked request is in
    subst (λ (r : RequestMessage). GoodResult i (session_of i h) (clear_led q h f (Plain asked) r m)) same (plain-good i q h f asked m (subst (λ (r : RequestMessage). Good (waits_asked i r) (session_of i h)) (sym same) good))
good_result i q h f (ByChunks asked handle number) request m is good =
    let same = same_Some asked request is in
    subst (λ (r : RequestMessage). GoodResult i (session_of i h) (clear_led q h f (ByChunks asked handle number) r m)) same
    (by_chunks-good i q h f asked handle number m (subst (λ (r : RequestMessage). Good (waits_asked i r) (session_of i h)) (sym same) good))
good_result i q h f (ForChunk asked handle number before) request m is good =
    let same = same_Some asked request is in
    subst (λ (r : RequestMessage). GoodResult i (session_of i h) (clear_led q h f (ForChunk asked handle number before) r m)) same
    (for_chunk-good i q h f asked handle number before m (subst (λ (r : RequestMessage). Good (waits_asked i r) (session_of i h)) (sym same) good))
good_result i q h f (InSession id ask) request m is good = absurd (none-some request is)

pub clear_steps : (h : History) (tag : ℕ) (m : List ℕ) (led : Led) (d : Draw) (i : ℕ) → session_of i (TookClear tag m led d ∷ h) ≡ with_sent i led.next (after_clear i led.effect (session_of i h))
unfolding session_of
clear_steps h tag m led d i = refl

-- What a message in the clear leads to keeps each session in order.
pub clear_orders : (q : ReqSetup) (h : History) (f : Free) (tag : ℕ) (m : List ℕ) (led : Led) (d : Draw) (sent : Sent) (request : RequestMessage) (i : ℕ) → outstanding h ≡ Some sent → asked_in sent.aim ≡ Some request
    → clear_led q h f sent.aim request m ≡ Ok led → IsInOrder (outstanding h) i (session_of i h) → IsInOrder led.next i (session_of i (TookClear tag m led d ∷ h))
clear_orders q h f tag m led d sent request i waits asks leads o =
    let fits = subst (λ (w : order.Waits). FitsWaits w (session_of i h)) (ap (waits_for i) waits ∙ waits_clear i sent.aim request asks) o.fits in
    let good = subst (GoodResult i (session_of i h)) leads (good_result i q h f sent.aim request m asks (o.ordered, fits)) in
    let steps = clear_steps h tag m led d i in
    record { ordered = subst IsOrdered (sym steps) good.0; fits = subst (FitsWaits (waits_for i led.next)) (sym steps) good.1 }

others_begun : (q : ReqSetup) (h : History) (f : Free) (tag : ℕ) (m answer : List ℕ) (d : Draw) (exchange : ExchangeMessage) (s : Steps) (i : ℕ) → i ≢ exchange.req_id
    → session_of i (TookClear tag m (goes_on (Answers (PskExchange exchange) answer) (finish_sent q h exchange.req_id s f.pad)) d ∷ h) ≡ session_of i h
unfolding session_of
others_begun q h f tag m answer d exchange s i ne = rw (is_other exchange.req_id i ne) refl

message_apart : (h : History) (tag : ℕ) (m answer : List ℕ) (led : Led) (d : Draw) (i : ℕ) → session_of i (TookClear tag answer led d ∷ h) ≡ session_of i (TookClear tag m led d ∷ h)
unfolding session_of
message_apart h tag m answer led d i = refl

plain_leads : (q : ReqSetup) (h : History) (f : Free) (request : RequestMessage) (answer : List ℕ) → clear_led q h f (Plain request) request answer ≡ read_led q h f 0 request answer (reading_of h request answer)
unfolding clear_led carried_by
plain_leads q h f request answer = refl

only_verify : (b : Bool) (led : Led) (cause : ReqIgnored) → (if b then Ok led else Err ignored.BadVerify) ≡ Err cause → cause ≡ ignored.BadVerify
only_verify true led cause is = absurd (cc is)
only_verify false led cause is = cc is

module _ (q : ReqSetup) (h : History) (f : Free) (tag : ℕ) (d : Draw) (sent : Sent) (m answer : List ℕ) (exchange : ExchangeMessage) (b : BringsExchange q h sent m answer exchange) where
  begun_steps : (old : Sessions) → StandsFor old q h → session_of exchange.req_id h ≡ started (negotiation_of h) (canonical_request (PskExchange exchange))
  begun_steps old stands =
      (awaited q h sent.content sent.aim (PskExchange exchange) b.asks (subst (Waits q h) b.waits stands.holds.waits)).1

  pub begun_named : (old : Sessions) → StandsFor old q h → old.id ≡ exchange.req_id
  begun_named old stands =
      subst (λ (o : Option ℕ). IsNamed o old.id) (ap session_for b.waits ∙ at_begun sent.aim (PskExchange exchange) b.asks) stands.named

  pub begun_slot : (old : Sessions) → StandsFor old q h → IsSlotOf (slot_of old exchange.req_id) q.psk (started (negotiation_of h) (canonical_request (PskExchange exchange)))
  begun_slot old stands = subst (IsSlotOf (slot_of old exchange.req_id) q.psk) (begun_steps old stands) (stands.slots exchange.req_id)

  pub exchange_leads : clear_led q h f sent.aim (PskExchange exchange) m ≡ exchange_led q h f exchange answer b.rsp
  exchange_leads =
      carried_leads q h f sent (PskExchange exchange) m (Whole answer b.place) b.whole
      ∙ ap (λ (r : Result ResponseMessage Malformed). read_led q h f b.place (PskExchange exchange) answer r) b.reads

  exchange_plain : clear_led q h f (Plain (PskExchange exchange)) (PskExchange exchange) answer ≡ exchange_led q h f exchange answer b.rsp
  exchange_plain =
      plain_leads q h f (PskExchange exchange) answer ∙ ap (λ (r : Result ResponseMessage Malformed). read_led q h f 0 (PskExchange exchange) answer r) b.reads

  answers : (old : Sessions) → StandsFor old q h → AnswersExchange q h f tag d (negotiation_of h) exchange answer (open_fault q.psk (negotiation_of h) (canonical_request (PskExchange exchange)) answer)
  answers old stands = opening_is_answer q h f tag d (negotiation_of h) exchange answer (begun_steps old stands) refl (subst IsNoError (sym b.reads) tt)

  pub begins_by : (old new : Sessions) (pad : List ℕ) → f.pad ≡ pad → StandsFor old q h
      → IsAcceptedBy q.psk (negotiation_of h) (canonical_request (PskExchange exchange)) answer pad (slot_of new exchange.req_id) (Ok tt)
      → ((i : ℕ) → i ≢ exchange.req_id → slot_of new i ≡ slot_of old i) → new.id ≡ old.id → IsBegunBy q h f tag d sent m answer exchange (Ok tt) new
  begins_by old new pad padded stands accepts others named =
      let id = exchange.req_id in
      let n = negotiation_of h in
      let x = canonical_request (PskExchange exchange) in
      let a = subst (AnswersExchange q h f tag d n exchange answer) accepts.0 (answers old stands) in
      let led : Led = a.0 in
      let leads : clear_led q h f sent.aim (PskExchange exchange) m ≡ Ok led = exchange_leads ∙ sym exchange_plain ∙ a.2 in
      let own = subst (λ (p : List ℕ). IsSlotOf (slot_of new id) q.psk (finishing q.psk n x answer p)) (sym padded) accepts.1 in (
        led,
        leads,
        ap (λ (l : Led). l.effect) a.1,
        record {
          holds = clear_holds q h f tag m led d sent (PskExchange exchange) b.waits b.asks (clear_leads q h f sent.aim m (PskExchange exchange) led b.asks leads) stands.holds;
          orders = λ i. clear_orders q h f tag m led d sent (PskExchange exchange) i b.waits b.asks leads (stands.orders i);
          slots = of_each (λ i. IsSlotOf (slot_of new i) q.psk (session_of i (TookClear tag m led d ∷ h))) id
              (subst (IsSlotOf (slot_of new id) q.psk) (sym a.3 ∙ message_apart h tag m answer led d id) own)
              (λ i ne. subst (λ (y : Slot). IsSlotOf y q.psk (session_of i (TookClear tag m led d ∷ h))) (sym (others i ne))
              (subst (IsSlotOf (slot_of old i) q.psk)
              (sym (ap (λ (l : Led). session_of i (TookClear tag m l d ∷ h)) a.1 ∙ others_begun q h f tag m answer d exchange (accepted n x answer) i ne)) (stands.slots i)));
          named = subst (λ (l : Led). IsNamed (session_for l.next) new.id) (sym a.1) (named ∙ begun_named old stands);
        },
      )

  refused_by : (old : Sessions) (cause : OpenFault) → AnswersExchange q h f tag d (negotiation_of h) exchange answer (Some cause) → clear_led q h f (Plain (PskExchange exchange)) (PskExchange exchange) answer ≡ Err ignored.BadVerify
  refused_by old BadVerify is = is
  refused_by old (MalformedAt at) is = is ∙ ap (λ (c : ReqIgnored). Err c) (only_verify (bytes_eq b.rsp.verify (answer_verify q.psk (with_answer h exchange answer))) _ (ignored.Malformed at) (sym exchange_plain ∙ is))

  pub refuses_by : (old new : Sessions) (pad : List ℕ) (cause : OpenFault) → StandsFor old q h
      → IsAcceptedBy q.psk (negotiation_of h) (canonical_request (PskExchange exchange)) answer pad (slot_of new exchange.req_id) (Err cause)
      → ((i : ℕ) → i ≢ exchange.req_id → slot_of new i ≡ slot_of old i) → new.id ≡ old.id → IsBegunBy q h f tag d sent m answer exchange (Err ignored.BadVerify) new
  refuses_by old new pad cause stands refused others named = (
    exchange_leads ∙ sym exchange_plain ∙ refused_by old cause (subst (AnswersExchange q h f tag d (negotiation_of h) exchange answer) refused.0 (answers old stands)),
    refl,
    unchanged old new q h exchange.req_id stands (subst (IsSlotOf (slot_of new exchange.req_id) q.psk) (sym (begun_steps old stands)) refused.1) others named,
  )

-- ---- PSK_EXCHANGE.

-- A property of a request that is sent, whole or in chunks.
open_steps : (h : History) (summary : ℕ) (sent : Sent) (d : Draw) (i : ℕ) → session_of i (Told (Open summary) sent d ∷ h) ≡ begun i (negotiation_of h) (asked_in sent.aim) (session_of i h)
unfolding session_of
open_steps h summary sent d i = refl

begun_own : (q : ReqSetup) (f : Free) (summary : ℕ) (n : Negotiation) (s : Steps) → begun f.id n (Some (exchange_for q f summary)) s ≡ started n (canonical_request (exchange_for q f summary))
begun_own q f summary n s = rw (eq-eqb f.id f.id refl) refl

begun_other : (q : ReqSetup) (f : Free) (summary : ℕ) (n : Negotiation) (s : Steps) (i : ℕ) → i ≢ f.id → begun i n (Some (exchange_for q f summary)) s ≡ s
begun_other q f summary n s i ne = rw (is_other f.id i ne) refl

pub opens : (old new : Sessions) (q : ReqSetup) (h : History) (f : Free) (d : Draw) (sent : Sent) (summary id : ℕ) (state : Opening) → f.id ≡ id → asks false q h (Open summary) f d ≡ Adds (Told (Open summary) sent d)
    → StandsFor old q h → opening.StandsFor state q.psk (negotiation_of h) (canonical_request (exchange_for q f summary)) → slot_of new id ≡ slot.Opening state
    → ((i : ℕ) → i ≢ id → slot_of new i ≡ slot_of old i) → new.id ≡ id → StandsFor new q (Told (Open summary) sent d ∷ h)
opens old new q h f d sent summary id state its adds stands begins own others named =
    let is = entries.asked false q h (Open summary) f d (Told (Open summary) sent d) adds in
    let request = exchange_for q f summary in
    let common = (connection_terms h).common in
    let same : request_sent common h request ≡ sent = told_sent (Open summary) (request_sent common h request) sent d is.1 in
    let asks_it : asked_in sent.aim ≡ Some request = subst (λ (x : Sent). asked_in x.aim ≡ Some request) same (request_sent-asks common h request) in
    let steps = λ (i : ℕ). open_steps h summary sent d i ∙ ap (λ (o : Option RequestMessage). begun i (negotiation_of h) o (session_of i h)) asks_it in
    let its_steps : session_of id (Told (Open summary) sent d ∷ h) ≡ started (negotiation_of h) (canonical_request request) =
    subst (λ (j : ℕ). session_of j (Told (Open summary) sent d ∷ h) ≡ started (negotiation_of h) (canonical_request request)) its (steps f.id ∙ begun_own q f summary (negotiation_of h) (session_of f.id h)) in
    record {
      holds = told_holds q h (Open summary) f d sent is.0 is.1 stands.holds;
      orders = λ i.
          let good = begun-good h q f i summary common (rests Good q h i (Open summary) f is.0 refl ((stands.orders i).ordered, (stands.orders i).fits)) in
          let now = subst (λ (x : Sent). Good (waits_aim i x.aim) (begun i (negotiation_of h) (asked_in x.aim) (session_of i h))) same good in
          record { ordered = subst IsOrdered (sym (open_steps h summary sent d i)) now.0; fits = subst (FitsWaits (waits_aim i sent.aim)) (sym (open_steps h summary sent d i)) now.1 };
      slots = of_each (λ i. IsSlotOf (slot_of new i) q.psk (session_of i (Told (Open summary) sent d ∷ h))) id
          (subst (λ (y : Slot). IsSlotOf y q.psk (session_of id (Told (Open summary) sent d ∷ h))) (sym own)
          (record { negotiation = negotiation_of h; exchange = canonical_request request; steps = its_steps; stands = begins }))
          (λ i ne. subst (λ (y : Slot). IsSlotOf y q.psk (session_of i (Told (Open summary) sent d ∷ h))) (sym (others i ne))
          (subst (IsSlotOf (slot_of old i) q.psk) (sym (steps i ∙ begun_other q f summary (negotiation_of h) (session_of i h) i (λ e. ne (e ∙ its)))) (stands.slots i)));
      named = subst (λ (o : Option ℕ). IsNamed o new.id) (sym (at_begun sent.aim request asks_it)) (named ∙ sym its);
    }

exchange_id : (q : ReqSetup) (f : Free) (summary : ℕ) → f.id ≤ 4 → id_in_exchange (canonical_request (exchange_for q f summary)) ≡ f.id
exchange_id q f summary few = omega arith

-- The terms of the session that PSK_EXCHANGE begins.
pub open_terms : (q : ReqSetup) (h : History) (f : Free) (summary id : ℕ) (terms : SessionTerms) → f.id ≡ id → id ≤ 4 → terms.choice ≡ (connection_terms h).choice → terms.common ≡ (connection_terms h).common
    → terms.summary ≡ not (summary == 0) → terms.req_id ≡ id → AreTermsOf terms (negotiation_of h) (canonical_request (exchange_for q f summary))
open_terms q h f summary id terms its few choice common asks own = record {
  choice = choice;
  common = common;
  summary = asks;
  req_id = own ∙ sym its ∙ sym (exchange_id q f summary (subst (λ (n : ℕ). n ≤ 4) (sym its) few));
}

-- The bytes of PSK_EXCHANGE are kept while it is outstanding.
pub open_request : (seen : clear_state.Seen) (q : ReqSetup) (h : History) (f : Free) (d : Draw) (sent : Sent) (summary : ℕ) → asks false q h (Open summary) f d ≡ Adds (Told (Open summary) sent d)
    → clear_state.Shows seen (Told (Open summary) sent d ∷ h) → seen.outgoing.request ≡ canonical_request (exchange_for q f summary)
open_request seen q h f d sent summary adds shows =
    let is = entries.asked false q h (Open summary) f d (Told (Open summary) sent d) adds in
    let request = exchange_for q f summary in
    let same : request_sent (connection_terms h).common h request ≡ sent = told_sent (Open summary) (request_sent (connection_terms h).common h request) sent d is.1 in
    let asks_it : asked_in sent.aim ≡ Some request = subst (λ (x : Sent). asked_in x.aim ≡ Some request) same (request_sent-asks (connection_terms h).common h request) in
    subst (λ (o : Option RequestMessage). IsKept o seen.outgoing.request) asks_it shows.outgoing.request
