-- What a record leads to at a requester that waits for measurements, where the exchanges of its session are turns of the
-- responder.
use Rattle.std.proofs.Common.{◌≡◌, ◌∙◌, ℕ, ◌<◌, ◌≤◌, List, [], ◌∷◌, ◌++◌, length, Bool, cond, Option, Some, sym, ap, subst, inl, inr, arith}
use Rattle.capture_machine.proofs.SmallGets.{get_fits}
use Rattle.requester_machine.specs.Commands.{Free}
use Rattle.requester_machine.specs.Hearing.{came_to}
use Rattle.requester_machine.specs.History.{History, Led, outstanding}
use Rattle.requester_machine.specs.History.Entry.{TookRecord}
use Rattle.requester_machine.specs.InnerMessages.{inner_led, or_lost}
use Rattle.requester_machine.specs.Message.{Ask, Sent}
use Rattle.requester_machine.specs.Message.Aim.{InSession}
use Rattle.requester_machine.specs.Message.Ask.{AskMeasure, AskChunk}
use Rattle.requester_machine.specs.Sending.{inner_request}
use Rattle.requester_machine.specs.Session.{Steps, session_of, stage_of, t2_of}
use Rattle.requester_machine.specs.Session.Step.{Took}
use Rattle.requester_machine.specs.Setup.{ReqSetup}
use Rattle.responder_machine.specs.Answer.{Free as FreeThere, answer_bytes}
use Rattle.responder_machine.specs.Handling.{error_bytes, extended_of, large_response}
use Rattle.responder_machine.specs.Place.{session_place}
use Rattle.responder_machine.specs.Responder.{inner_reply, session_turn}
use Rattle.responder_machine.specs.Session.{Events}
use Rattle.responder_machine.specs.Setup.{RspSetup}
use Rattle.responder_machine.specs.Turn.{Turn}
use Rattle.secured_record.specs.Format.{plain_text}
use Rattle.spdm_agreement.proofs.Delivery.Data.{inner_in}
use Rattle.spdm_agreement.proofs.Delivery.InnerText.{inner_is}
use Rattle.spdm_agreement.proofs.Delivery.TakenAtRequester.{next_heard}
use Rattle.spdm_agreement.proofs.Moves.MarkEffects.{own_key}
use Rattle.spdm_agreement.proofs.Requester.SealAndHear.{inner_as}
use Rattle.spdm_agreement.specs.Marks.{Text, heard}
use Rattle.spdm_agreement.specs.Story.{Past, answer_text, ask_in, ask_of, asked_from, reply_text, request_text, sent_text, taken_marks}
use Rattle.spdm_grammar.specs.Message.{ChunkMessage}
use Rattle.spdm_grammar.specs.Message.RequestMessage.{ChunkGet, GetMeasurements}
use Rattle.spdm_grammar.specs.declared.messages.error_code.ErrorCode.{ErrorCode}
use Rattle.spdm_grammar.specs.declared.messages.error_code.ErrorCode.TheVariants.{InvalidRequest, UnexpectedRequest, Unspecified, DecryptError, UnsupportedRequest, SessionLimitExceeded, SessionRequired, ResponseTooLarge, RequestTooLarge, LargeResponse, VersionMismatch}
use Rattle.spdm_grammar.specs.declared.told.phase.Stage.{Stage}
use Rattle.spdm_grammar.specs.declared.told.phase.Stage.TheVariants as stage
use Rattle.spdm_machine.specs.Keys.{Draw}
use Rattle.spdm_progress.proofs.ClearFetch.{chunk_response, get_chunk, transfer_in}
use Rattle.spdm_progress.proofs.MeasureStages.{get_measurements, measurements}
use Rattle.transcript.specs.Transcripts.{Negotiation}
use Rattle.attest_laws.proofs.Exchanges.{AreTurns, IsTurn}
use Rattle.attest_laws.proofs.Reading.{IsFetching, LeadsOn, chunk_leads, chunk_refused, large_leads, refused_leads, whole_leads}
use Rattle.attest_laws.proofs.Turns.{AnswersLarge, AnswersWhole, GivesChunk, IsRefused, chunk_answered, collects, measure_answered}
use Rattle.attest_laws.proofs.Waiting.{AwaitsAnswer, AwaitsChunk}

-- ---- Replies are short, so their texts hold them.

few_more : (e : ErrorCode) (answer : List ℕ) → length (extended_of e answer) ≤ 4
few_more InvalidRequest answer = omega arith
few_more UnexpectedRequest answer = omega arith
few_more Unspecified answer = omega arith
few_more DecryptError answer = omega arith
few_more UnsupportedRequest answer = omega arith
few_more SessionLimitExceeded answer = omega arith
few_more SessionRequired answer = omega arith
few_more ResponseTooLarge answer = omega arith
few_more RequestTooLarge answer = omega arith
few_more LargeResponse answer = omega arith
few_more VersionMismatch answer = omega arith

error_short : (r : RspSetup) (s : Events) (m : List ℕ) (f : FreeThere) (e : ErrorCode) → length (5 ∷ error_bytes r (session_place s) m f e) < 65536
error_short r s m f e = (let few = few_more e (answer_bytes r (session_place s) m f) in omega (arith, few))

-- ---- One exchange.

module _ (prior : Past) (q : ReqSetup) (h : History) (f : Free) (r : RspSetup) (tag of : ℕ) (sealed inner : List ℕ) (led : Led) (d : Draw) (sent : Sent) (ask : Ask)
    (waits : outstanding h ≡ Some sent) (aims : sent.aim ≡ InSession of ask) (is : led ≡ or_lost (came_to q h of ask sealed) (inner_led q h f (came_to q h of ask sealed) ask)) (at : stage_of (session_of of h) ≡ stage.Open) where
  abbrev s : Steps
  s = session_of of h

  abbrev u : List ℕ
  u = t2_of s

  abbrev now : History
  now = TookRecord tag of sealed inner led d ∷ h

  abbrev request : Text
  request = request_text (outstanding h)

  abbrev reply : Text
  reply = answer_text q.psk s (ask_in (outstanding h)) sealed

  ask_is : ask_in (outstanding h) ≡ ask
  ask_is = ap ask_in waits ∙ ap ask_of aims

  -- It is the newest of its session.
  pub heard_now : heard u (asked_from prior q now) ≡ (request, reply) ∷ heard u (asked_from prior q h)
  heard_now =
      ap (λ (g : Stage). heard u (taken_marks g q s (outstanding h) sealed inner led ++ asked_from prior q h)) at
      ∙ next_heard u u request reply (Took sealed inner led.effect ∷ s) led.next (asked_from prior q h)
      ∙ ap (λ (b : Bool). cond b ((request, reply) ∷ heard u (asked_from prior q h)) (heard u (asked_from prior q h))) (own_key u)

  request_inner : (m pad : List ℕ) → length (5 ∷ m) < 65536 → sent_text sent.content ≡ plain_text (5 ∷ m) pad → inner_in request ≡ 5 ∷ m
  request_inner m pad short text = ap (λ (o : Option Sent). inner_in (request_text o)) waits ∙ ap inner_in text ∙ inner_is (5 ∷ m) pad short

  -- What came is the reply of the turn.
  came_is : (t : Turn) (l : List ℕ) → reply ≡ reply_text t → inner_reply t ≡ l → length l < 65536 → (came_to q h of ask sealed).inner ≡ l
  came_is t l same holds short =
      inner_as q.psk s ask sealed
      ∙ ap (λ (a : Ask). inner_in (answer_text q.psk s a sealed)) (sym ask_is)
      ∙ ap inner_in same
      ∙ ap (λ (i : List ℕ). inner_in (plain_text i [])) holds
      ∙ inner_is l [] short

  module _ (n : Negotiation) (t : Turn) (before : List Turn) (x : IsTurn r n (request, reply) t before) where
    turn_is : (m pad : List ℕ) → length (5 ∷ m) < 65536 → sent_text sent.content ≡ plain_text (5 ∷ m) pad → t ≡ session_turn r x.s (5 ∷ m) x.f
    turn_is m pad short text = x.is ∙ ap (λ (i : List ℕ). session_turn r x.s i x.f) (request_inner m pad short text)

    -- ---- GET_MEASUREMENTS.

    module _ (op : ℕ) (asks : ask ≡ AskMeasure op) where
      abbrev Leads : Ask → Type 0
      Leads a = LeadsOn r n of op (t ∷ before) (or_lost (came_to q h of a sealed) (inner_led q h f (came_to q h of a sealed) a))

      abbrev came_as : List ℕ → Type 0
      came_as l = (came_to q h of (AskMeasure op) sealed).inner ≡ l

      as_asked : (l : List ℕ) → inner_reply t ≡ l → length l < 65536 → came_as l
      as_asked l holds short = ap (λ (a : Ask). (came_to q h of a sealed).inner) (sym asks) ∙ came_is t l x.reply holds short

      refused : IsRefused r x.s (get_measurements op) x.f t → Leads (AskMeasure op)
      refused y =
          refused_leads q h f (came_to q h of (AskMeasure op) sealed) r n op (t ∷ before) x.s (get_measurements op) x.f y.error (omega arith) y.other
          (as_asked (5 ∷ error_bytes r (session_place x.s) (get_measurements op) x.f y.error) (ap inner_reply y.is) (error_short r x.s (get_measurements op) x.f y.error))

      whole : AnswersWhole r op t → Leads (AskMeasure op)
      whole y =
          let few = y.few in
          whole_leads q h f (came_to q h of (AskMeasure op) sealed) r n op (t ∷ before) y.nonce y.whole y.few
          (as_asked (5 ∷ measurements r op y.nonce) y.inner (omega (arith, few)))

      large : AnswersLarge r n op t before → Leads (AskMeasure op)
      large y =
          large_leads q h f (came_to q h of (AskMeasure op) sealed) r n op (t ∷ before) y.handle y.under
          (as_asked (5 ∷ large_response y.handle) y.inner (omega arith))

      pub measured_leads : (pad : List ℕ) → sent_text sent.content ≡ plain_text (inner_request (GetMeasurements op)) pad → LeadsOn r n of op (t ∷ before) led
      measured_leads pad text =
          subst (LeadsOn r n of op (t ∷ before)) (sym is)
          (subst Leads (sym asks)
          (elim (measure_answered r n x.s x.f before x.settled op t (turn_is (get_measurements op) pad (omega arith) text)) [
            | inl y ↦ refused y
            | inr y ↦ elim y [ inl z ↦ whole z | inr z ↦ large z ]
          ]))

    -- ---- CHUNK_GET.

    module _ (op handle k : ℕ) (chunks : List ChunkMessage) (asks : ask ≡ AskChunk op handle k chunks) where
      abbrev chunk_ask : Ask
      chunk_ask = AskChunk op handle k chunks

      abbrev ChunkLeads : Ask → Type 0
      ChunkLeads a = LeadsOn r n of op (t ∷ before) (or_lost (came_to q h of a sealed) (inner_led q h f (came_to q h of a sealed) a))

      as_fetched : (l : List ℕ) → inner_reply t ≡ l → length l < 65536 → (came_to q h of chunk_ask sealed).inner ≡ l
      as_fetched l holds short = ap (λ (a : Ask). (came_to q h of a sealed).inner) (sym asks) ∙ came_is t l x.reply holds short

      get_refused : IsRefused r x.s (get_chunk handle k) x.f t → ChunkLeads chunk_ask
      get_refused y =
          chunk_refused q h f (came_to q h of chunk_ask sealed) r n op (t ∷ before) handle k chunks x.s (get_chunk handle k) x.f y.error (omega arith) y.other
          (as_fetched (5 ∷ error_bytes r (session_place x.s) (get_chunk handle k) x.f y.error) (ap inner_reply y.is) (error_short r x.s (get_chunk handle k) x.f y.error))

      module _ (k_is : IsFetching r n op handle k chunks before) where
        gives : GivesChunk r n x.s x.f before x.settled op handle k k_is.under t → ChunkLeads chunk_ask
        gives y =
            let under = k_is.under in
            let large = under.large in
            let most = under.few in
            let few = get_fits (transfer_in n) handle k (measurements r op under.nonce) under.low in
            chunk_leads q h f (came_to q h of chunk_ask sealed) r n op (t ∷ before) handle k chunks before under k_is.before_are
            (collects r n x.s x.f before x.settled op handle k under) y.pending
            (as_fetched (5 ∷ chunk_response (transfer_in n) handle (measurements r op under.nonce) k) y.inner (omega (arith, few, large, most)))

        pub fetched_leads : (pad : List ℕ) → sent_text sent.content ≡ plain_text (inner_request (ChunkGet handle k)) pad → LeadsOn r n of op (t ∷ before) led
        fetched_leads pad text =
            subst (LeadsOn r n of op (t ∷ before)) (sym is)
            (subst ChunkLeads (sym asks)
            (elim (chunk_answered r n x.s x.f before x.settled op handle k k_is.under t (turn_is (get_chunk handle k) pad (omega arith) text)) [
              | inl y ↦ get_refused y
              | inr y ↦ gives y
            ]))

  -- ---- All exchanges of the session.

  module _ (n : Negotiation) where
    abbrev Led_on : ℕ → List Turn → Type 0
    Led_on op turns = LeadsOn r n of op turns led

    pub measure_leads : (op : ℕ) → ask ≡ AskMeasure op → AwaitsAnswer h of op (sent_text sent.content) → (turns : List Turn) → AreTurns r n ((request, reply) ∷ heard u (asked_from prior q h)) turns → Led_on op turns
    measure_leads op asks k [] are = absurd are
    measure_leads op asks k (t ∷ before) are = measured_leads n t before are.0 op asks k.pad k.text_is

    pub chunk_leads_on : (op handle number : ℕ) (chunks : List ChunkMessage) → ask ≡ AskChunk op handle number chunks → AwaitsChunk prior r q h of op handle number chunks (sent_text sent.content)
        → (turns : List Turn) → AreTurns r n ((request, reply) ∷ heard u (asked_from prior q h)) turns → Led_on op turns
    chunk_leads_on op handle number chunks asks k [] are = absurd are
    chunk_leads_on op handle number chunks asks k (t ∷ before) are = fetched_leads n t before are.0 op handle number chunks asks (k.fetching n before are.1) k.pad k.text_is
