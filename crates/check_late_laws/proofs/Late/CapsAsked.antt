-- What a requester has outstanding while it negotiates, and when its phase and its capabilities change.
use Rattle.std.proofs.Common.{◌≡◌, ◌+◌, ◌==◌, ◌∙◌, ℕ, List, [], ◌∷◌, refl, sym, ap, subst, drop, length, Bool, true, false, Option, Some, None, cond, inl, inr}
use Rattle.std.specs.Prelude.{slice_index}
use Rattle.std.proofs.lemmas.Bool.{false≢true}
use Rattle.std.proofs.lemmas.Option.{none-some, same_Some}
use Rattle.chunking.specs.Cutting.{nth_chunk}
use Rattle.check_late_laws.proofs.TurnsBeside.{SameCaps}
use Rattle.negotiate.specs.declared.shared.Common.{Common}
use Rattle.requester_machine.proofs.ClearLeads.{ClearLeads, IsRead, clear_leads}
use Rattle.requester_machine.proofs.ClearLeads.ClearLeads.{ByRefusal, ByLarge, BySend, ByGet, ByStop, ByVersion, ByCaps, ByChoice, ByMeasured, ByExchange}
use Rattle.requester_machine.proofs.Heard.{heard}
use Rattle.requester_machine.proofs.RecordLeads.{RecordLeads, record_leads}
use Rattle.requester_machine.proofs.RecordLeads.RecordLeads.{ByEnd, ByAnswer, ByUpdate, ByFirst, ByChunk}
use Rattle.requester_machine.proofs.ResponseLengths.{capabilities_long}
use Rattle.requester_machine.specs.Answers.{goes_on, is_done, is_refused, may_be_large, stopped, with_answer}
use Rattle.requester_machine.specs.Asking.Outcome.{Adds}
use Rattle.requester_machine.specs.ClearAnswers.{carried_by}
use Rattle.requester_machine.specs.ClearAnswers.Carried.{Whole}
use Rattle.requester_machine.specs.Commands.{Free}
use Rattle.requester_machine.specs.Hearing.{came_to, hears}
use Rattle.requester_machine.specs.History.{Entry, History, Led, connection_terms, negotiation_of, negotiates, next_handle, outstanding, phase_after, phase_of, sent_in}
use Rattle.requester_machine.specs.History.Effect.{Answers, Nothing, Refuses}
use Rattle.requester_machine.specs.History.Entry.{Told, TookClear, TookRecord}
use Rattle.requester_machine.specs.InnerMessages.{Came}
use Rattle.requester_machine.specs.Message.{Aim, Ask, Content, Sent, asked_in, body_of}
use Rattle.requester_machine.specs.Message.Aim.{Plain, ByChunks, ForChunk, InSession}
use Rattle.requester_machine.specs.Message.Content.{Clear}
use Rattle.requester_machine.specs.Sending.{finish_sent, get_sent, piece_sent, plain_sent, request_sent}
use Rattle.requester_machine.specs.Setup.{ReqSetup, requester_caps}
use Rattle.requester_machine.specs.UnderWay.{is_capable}
use Rattle.responder_machine.specs.Refusal.{code_of}
use Rattle.spdm_grammar.specs.Message.{ChunkMessage, RequestMessage}
use Rattle.spdm_grammar.specs.Message.RequestMessage.{GetVersion, GetCapabilities, NegotiateAlgorithms, GetMeasurements, PskExchange, PskFinish, Heartbeat, KeyUpdate, EndSession, ChunkSend, ChunkGet}
use Rattle.spdm_grammar.specs.Requests.{canonical_request}
use Rattle.spdm_grammar.specs.declared.messages.capabilities.Caps.{Caps}
use Rattle.spdm_grammar.specs.declared.told.event.Finished.TheVariants as finished
use Rattle.spdm_grammar.specs.declared.names.request_code.TheConstants.{GET_VERSION}
use Rattle.spdm_grammar.specs.declared.told.phase.Phase.{Phase}
use Rattle.spdm_grammar.specs.declared.told.phase.Phase.TheVariants.{Fresh, Versioned, Capable, Negotiated}
use Rattle.spdm_machine.specs.Terms.{hash_len}
use Rattle.capture_machine.proofs.HeardNext.{either_next, none_next, some_next}
use Rattle.capture_machine.specs.Rounds.{no_draw}

-- ---- What is outstanding.

-- GET_VERSION and GET_CAPABILITIES are sent whole, the first while no negotiation counts; NEGOTIATE_ALGORITHMS after
-- CAPABILITIES.
abbrev pub AsksOf : (known plain : Bool) → RequestMessage → Type 0
AsksOf known plain GetVersion = (known ≡ false) × (plain ≡ true)
AsksOf known plain (GetCapabilities caps) = plain ≡ true
AsksOf known plain (NegotiateAlgorithms offer) = known ≡ true
AsksOf known plain _ = Unit {0}

abbrev pub AsksIn : (known : Bool) → Aim → Type 0
AsksIn known (Plain a) = AsksOf known true a
AsksIn known (ByChunks a handle number) = AsksOf known false a
AsksIn known (ForChunk a handle number before) = AsksOf known false a
AsksIn known (InSession id ask) = Unit {0}

-- CHUNK_SEND with the chunk of this number of some bytes.
abbrev pub IsPiece : (handle number : ℕ) → Content → Type 0
IsPiece handle number c = (transfer : ℕ) × (whole : List ℕ) × (c ≡ Clear (canonical_request (ChunkSend (nth_chunk transfer handle whole number))))

-- The message has what it is sent for.
abbrev pub IsFor : Aim → Content → Type 0
IsFor (Plain a) c = c ≡ Clear (canonical_request a)
IsFor (ByChunks a handle number) c = IsPiece handle number c
IsFor (ForChunk a handle number before) c = c ≡ Clear (canonical_request (ChunkGet handle number))
IsFor (InSession id ask) c = (slice_index (body_of c) 0 == 5) ≡ false

pub record AsksSo (known : Bool) (s : Sent) : Type 0 where
  pub asks : AsksIn known s.aim
  pub is : IsFor s.aim s.content

-- What is outstanding in a history.
abbrev pub AllAsk : History → Type 0
AllAsk h = (s : Sent) → outstanding h ≡ Some s → AsksSo (is_capable (phase_of h)) s

-- ---- No GET_VERSION is sent while a negotiation counts.

-- A body in the clear is no GET_VERSION.
abbrev pub IsLater : List ℕ → Type 0
IsLater body = (slice_index body 0 == 5) ≡ true → (code_of (drop 1 body) == GET_VERSION) ≡ false

plain_later : (a : RequestMessage) → AsksOf true true a → IsLater (5 ∷ canonical_request a)
plain_later GetVersion asks = absurd (false≢true (sym asks.0))
plain_later (GetCapabilities caps) asks = λ type. refl
plain_later (NegotiateAlgorithms offer) asks = λ type. refl
plain_later (GetMeasurements op) asks = λ type. refl
plain_later (PskExchange x) asks = λ type. refl
plain_later (PskFinish verify) asks = λ type. refl
plain_later Heartbeat asks = λ type. refl
plain_later (KeyUpdate op tag) asks = λ type. refl
plain_later EndSession asks = λ type. refl
plain_later (ChunkSend c) asks = λ type. refl
plain_later (ChunkGet handle number) asks = λ type. refl

later_by : (aim : Aim) (c : Content) → AsksIn true aim → IsFor aim c → IsLater (body_of c)
later_by (Plain a) c asks is = subst (λ (x : Content). IsLater (body_of x)) (sym is) (plain_later a asks)
later_by (ByChunks a handle number) c asks is = subst (λ (x : Content). IsLater (body_of x)) (sym is.2) (λ type. refl)
later_by (ForChunk a handle number before) c asks is = subst (λ (x : Content). IsLater (body_of x)) (sym is) (λ type. refl)
later_by (InSession id ask) c asks is = λ type. absurd (false≢true (sym is ∙ type))

pub sent_later : (s : Sent) → AsksSo true s → IsLater (body_of s.content)
sent_later s so = later_by s.aim s.content so.asks so.is

-- ---- What an answer leads to.

-- The phase counts after it as before, and so do the capabilities; or it was CAPABILITIES, in answer to GET_CAPABILITIES.
pub record IsCaps (h : History) (answer : List ℕ) (entry : Entry) : Type 0 where
  pub sent : Sent
  pub waits : outstanding h ≡ Some sent
  pub caps : Caps
  pub aims : sent.aim ≡ Plain (GetCapabilities caps)
  pub long : length (drop 1 answer) ≡ 20
  pub asked : (negotiation_of (entry ∷ h)).get_capabilities ≡ canonical_request (GetCapabilities caps)
  pub told : (negotiation_of (entry ∷ h)).capabilities ≡ drop 1 answer

pub record IsSame (h : History) (entry : Entry) : Type 0 where
  pub known : is_capable (phase_of (entry ∷ h)) ≡ true → is_capable (phase_of h) ≡ true
  pub caps : SameCaps (negotiation_of (entry ∷ h)) (negotiation_of h)

pub data Leads (h : History) (answer : List ℕ) (entry : Entry) : Type 0 where
  Keeps : IsSame h entry → Leads h answer entry
  Takes : IsCaps h answer entry → Leads h answer entry

-- What is sent in response to it.
abbrev pub NextAsks : History → Entry → Type 0
NextAsks h entry = AllAsk (entry ∷ h)

pub record IsHeard (h : History) (answer : List ℕ) (entry : Entry) : Type 0 where
  pub leads : Leads h answer entry
  pub next : NextAsks h entry

same_caps : (h : History) → SameCaps (negotiation_of h) (negotiation_of h)
same_caps h = record { asked = refl; told = refl }

large_asks : (known : Bool) (a : RequestMessage) (aim : Aim) → asked_in aim ≡ Some a → may_be_large a ≡ true → AsksIn known aim → AsksOf known false a
large_asks known a (Plain x) is may asks = plain_large a may (subst (AsksOf known true) (same_Some x a is) asks)
  where
    plain_large : (y : RequestMessage) → may_be_large y ≡ true → AsksOf known true y → AsksOf known false y
    plain_large GetVersion can so = absurd (false≢true can)
    plain_large (GetCapabilities caps) can so = absurd (false≢true can)
    plain_large (NegotiateAlgorithms offer) can so = so
    plain_large (GetMeasurements op) can so = tt
    plain_large (PskExchange x) can so = tt
    plain_large (PskFinish verify) can so = tt
    plain_large Heartbeat can so = tt
    plain_large (KeyUpdate op tag) can so = tt
    plain_large EndSession can so = tt
    plain_large (ChunkSend c) can so = tt
    plain_large (ChunkGet handle number) can so = tt
large_asks known a (ByChunks x handle number) is may asks = subst (AsksOf known false) (same_Some x a is) asks
large_asks known a (ForChunk x handle number before) is may asks = subst (AsksOf known false) (same_Some x a is) asks
large_asks known a (InSession id ask) is may asks = absurd (none-some a is)

refused_phase : (b : Bool) (p : Phase) → is_capable (cond b Fresh p) ≡ true → is_capable p ≡ true
refused_phase true p is = absurd (false≢true is)
refused_phase false p is = is

-- Algorithms come after CAPABILITIES.
asks_choice : (known : Bool) (a : RequestMessage) (aim : Aim) → asked_in aim ≡ Some a → AsksIn known aim → (plain : Bool) × AsksOf known plain a
asks_choice known a (Plain x) is asks = (true, subst (AsksOf known true) (same_Some x a is) asks)
asks_choice known a (ByChunks x handle number) is asks = (false, subst (AsksOf known false) (same_Some x a is) asks)
asks_choice known a (ForChunk x handle number before) is asks = (false, subst (AsksOf known false) (same_Some x a is) asks)
asks_choice known a (InSession id ask) is asks = absurd (none-some a is)

-- CAPABILITIES come whole.
pub whole_caps : (q : ReqSetup) (h : History) (known : Bool) (aim : Aim) (m : List ℕ) (caps : Caps) (answer : List ℕ) (place : ℕ) → asked_in aim ≡ Some (GetCapabilities caps) → AsksIn known aim → carried_by q h m aim ≡ Whole answer place
    → (aim ≡ Plain (GetCapabilities caps)) × (answer ≡ m)
unfolding carried_by
whole_caps q h known (Plain a) m caps answer place is asks whole = (ap (λ (x : RequestMessage). Plain x) (same_Some a (GetCapabilities caps) is), cc whole)
whole_caps q h known (ByChunks a handle number) m caps answer place is asks whole = absurd (false≢true (subst (AsksOf known false) (same_Some a (GetCapabilities caps) is) asks))
whole_caps q h known (ForChunk a handle number before) m caps answer place is asks whole = absurd (false≢true (subst (AsksOf known false) (same_Some a (GetCapabilities caps) is) asks))
whole_caps q h known (InSession id ask) m caps answer place is asks whole = absurd (none-some (GetCapabilities caps) is)

module _ (q : ReqSetup) (h : History) (f : Free) (tag : ℕ) (answer : List ℕ) (s : Sent) (waits : outstanding h ≡ Some s) (own : AllAsk h) where
  abbrev m : List ℕ
  m = drop 1 answer

  abbrev known : Bool
  known = is_capable (phase_of h)

  abbrev took : Led → Entry
  took led = TookClear tag m led no_draw

  -- The effect tells the rest.
  no_next : (led : Led) → led.next ≡ None → NextAsks h (took led)
  no_next led none = none_next (AsksSo (is_capable (phase_after led.effect (phase_of h)))) led.next none

  some_sent : (led : Led) (x : Sent) → led.next ≡ Some x → AsksSo (is_capable (phase_after led.effect (phase_of h))) x → NextAsks h (took led)
  some_sent led x is so = some_next (AsksSo (is_capable (phase_after led.effect (phase_of h)))) led.next x is so

  clear_to : (a : RequestMessage) (led to : Led) → led ≡ to → IsHeard h answer (took to) → IsHeard h answer (took led)
  clear_to a led to is so = subst (λ (l : Led). IsHeard h answer (took l)) (sym is) so

  clear_heard : (a : RequestMessage) (led : Led) → asked_in s.aim ≡ Some a → ClearLeads q h f s.aim m a led → IsHeard h answer (took led)
  clear_heard a led asks (ByRefusal code is) =
      let to : Led = is_refused code (Refuses a) in
      clear_to a led to is (record { leads = Keeps (record { known = refused_phase (negotiates a) (phase_of h); caps = same_caps h }); next = no_next to refl })
  clear_heard a led asks (ByLarge handle may is) =
      let x : Sent = get_sent h a handle 0 [] in
      let to : Led = goes_on Nothing x in
      clear_to a led to is (record { leads = Keeps (record { known = λ k. k; caps = same_caps h }); next = some_sent to x refl (record { asks = large_asks known a s.aim asks may (own s waits).asks; is = refl }) })
  clear_heard a led asks (BySend handle number aims last is) =
      let common : Common = (connection_terms h).common in
      let x : Sent = piece_sent common h a handle (number + 1) in
      let to : Led = goes_on Nothing x in
      clear_to a led to is (record {
        leads = Keeps (record { known = λ k. k; caps = same_caps h });
        next = some_sent to x refl (record { asks = subst (AsksIn known) aims (own s waits).asks; is = (common.to_responder.transfer, canonical_request a, refl) });
      })
  clear_heard a led asks (ByGet handle number before c aims none last is) =
      let x : Sent = get_sent h a c.handle (c.number + 1) (c ∷ before) in
      let to : Led = goes_on Nothing x in
      clear_to a led to is (record { leads = Keeps (record { known = λ k. k; caps = same_caps h }); next = some_sent to x refl (record { asks = subst (AsksIn known) aims (own s waits).asks; is = refl }) })
  clear_heard a led asks (ByStop why may is) =
      let to : Led = stopped why in
      clear_to a led to is (record { leads = Keeps (record { known = λ k. absurd (false≢true k); caps = same_caps h }); next = no_next to refl })
  clear_heard a led asks (ByVersion whole was is) =
      let x : Sent = plain_sent h (GetCapabilities (requester_caps q)) in
      let to : Led = goes_on (Answers GetVersion whole) x in
      clear_to a led to is (record { leads = Keeps (record { known = λ k. absurd (false≢true k); caps = record { asked = refl; told = refl } }); next = some_sent to x refl (record { asks = refl; is = refl }) })
  clear_heard a led asks (ByCaps caps theirs whole common offer was read settled offers short is) =
      let parts = whole_caps q h known s.aim m caps whole read.place (asks ∙ ap (λ (y : RequestMessage). Some y) was) (own s waits).asks read.whole in
      let x : Sent = request_sent common h (NegotiateAlgorithms offer) in
      let to : Led = goes_on (Answers (GetCapabilities caps) whole) x in
      let piece : Sent = piece_sent common h (NegotiateAlgorithms offer) (next_handle h) 0 in
      let plain : Sent = plain_sent h (NegotiateAlgorithms offer) in
      let pieced : AsksSo true piece = record { asks = refl; is = (common.to_responder.transfer, canonical_request (NegotiateAlgorithms offer), refl) } in
      let plainly : AsksSo true plain = record { asks = refl; is = refl } in
      clear_to a led to is (record {
        leads = Takes (record {
          sent = s;
          waits = waits;
          caps = caps;
          aims = parts.0;
          long = ap (λ (l : List ℕ). length l) (sym parts.1) ∙ capabilities_long (hash_len (connection_terms h)) whole theirs read.reads;
          asked = refl;
          told = parts.1;
        });
        next = some_sent to x refl (either_next (AsksSo true) _ piece plain pieced plainly);
      })
  clear_heard a led asks (ByChoice offer whole was is) =
      let to : Led = is_done finished.Connected (Answers (NegotiateAlgorithms offer) whole) in
      let choice = asks_choice known (NegotiateAlgorithms offer) s.aim (asks ∙ ap (λ (y : RequestMessage). Some y) was) (own s waits).asks in
      clear_to a led to is (record { leads = Keeps (record { known = λ k. choice.1; caps = record { asked = refl; told = refl } }); next = no_next to refl })
  clear_heard a led asks (ByMeasured op whole finish was is) =
      let to : Led = is_done finish (Answers (GetMeasurements op) whole) in
      clear_to a led to is (record { leads = Keeps (record { known = λ k. k; caps = same_caps h }); next = no_next to refl })
  clear_heard a led asks (ByExchange exchange whole rsp was read right is) =
      let x : Sent = finish_sent q h exchange.req_id (with_answer h exchange whole) f.pad in
      let to : Led = goes_on (Answers (PskExchange exchange) whole) x in
      clear_to a led to is (record { leads = Keeps (record { known = λ k. k; caps = same_caps h }); next = some_sent to x refl (record { asks = tt; is = refl }) })

  -- A record.
  record_heard : (id : ℕ) (sealed inner : List ℕ) (came : Came) (ask : Ask) (led : Led) → RecordLeads q h f came ask led → IsHeard h answer (TookRecord tag id sealed inner led no_draw)
  record_heard id sealed inner came ask led leads = record { leads = Keeps (record { known = λ k. k; caps = same_caps h }); next = by_leads leads }
    where
      by_leads : RecordLeads q h f came ask led → NextAsks h (TookRecord tag id sealed inner led no_draw)
      by_leads (ByEnd ends none) = none_next (AsksSo known) led.next none
      by_leads (ByAnswer ends updates brings none) = none_next (AsksSo known) led.next none
      by_leads (ByUpdate all was is) = some_next (AsksSo known) led.next _ (ap (λ (l : Led). l.next) is) (record { asks = tt; is = refl })
      by_leads (ByFirst op handle follows is) = some_next (AsksSo known) led.next _ (ap (λ (l : Led). l.next) is) (record { asks = tt; is = refl })
      by_leads (ByChunk op handle number before c was none last is) = some_next (AsksSo known) led.next _ (ap (λ (l : Led). l.next) is) (record { asks = tt; is = refl })

-- All that an answer adds.
pub adds_heard : (q : ReqSetup) (h : History) (f : Free) (tag : ℕ) (answer : List ℕ) (entry : Entry) → AllAsk h → hears q h false tag answer f no_draw ≡ Adds entry → IsHeard h answer entry
adds_heard q h f tag answer entry own adds = elim (heard q h false tag answer f no_draw entry adds) [
  | inl t ↦ subst (IsHeard h answer) (sym t.is) (clear_heard q h f tag answer t.sent t.waits own t.asked t.led t.asks (clear_leads q h f t.sent.aim (drop 1 answer) t.asked t.led t.asks t.leads))
  | inr o ↦
      let came : Came = came_to q h o.1.id o.1.ask (drop 1 answer) in
      subst (IsHeard h answer) (sym o.1.is) (record_heard q h f tag answer o.1.sent o.1.waits own o.1.id (drop 1 answer) came.inner came o.1.ask _ (record_leads q h f came o.1.ask))
]
