-- While nothing is fetched, an answer to GET_MEASUREMENTS or PSK_EXCHANGE in the clear that brings no new
-- LargeResponse, and in response to which the requester asks for a chunk, is the same LargeResponse again, to a repeat.
use Rattle.std.proofs.Common.{◌≡◌, ◌<◌, ◌≤◌, ◌==◌, ◌&&◌, ◌∙◌, ℕ, List, [], refl, sym, ap, subst, drop, length, arith, Bool, true, false, Option, Some, None, is_some, cond, inl, inr, eqb-true}
use Rattle.std.specs.Prelude.{not, slice_index}
use Rattle.std.proofs.lemmas.Bool.{false≢true}
use Rattle.check_ends.proofs.InTurn.{AnswersInTurn}
use Rattle.check_laws.proofs.KnownFetches.{kept_asks_none}
use Rattle.check_responder.proofs.LargeReplies.{turn_tells}
use Rattle.check_responder.specs.JudgedResponder.{shows_large}
use Rattle.check_requester.specs.HeardKept.{asks_upon}
use Rattle.check_laws.proofs.KeptAnswers.{kept_is_restored}
use Rattle.check_laws.specs.AnswersShown.{values_shown_by}
use Rattle.check_laws.specs.DropsShown.{IsShownAnswer, drops_shown_by, outcome_shown, response_of}
use Rattle.check_laws.specs.Keeping.{Keeps, Kept, restored}
use Rattle.check_laws.specs.RepliesShown.{heard_from, no_values, responder_for}
use Rattle.check_laws.specs.Walks.{Walks}
use Rattle.check_fetched_ends.proofs.HeldNever.{clear_shape}
use Rattle.check_fetched_laws.proofs.LargeAsked.{asks_large}
use Rattle.check_fetched_ends.proofs.SameChunks.{same_common, walks_agree}
use Rattle.check_fetched_ends.specs.BegunHeld.{has_free_length}
use Rattle.mctp_framing.specs.Cutting.{RouteFields}
use Rattle.negotiate.specs.declared.shared.Common.{Common}
use Rattle.requester_machine.specs.History as requester_history
use Rattle.requester_machine.specs.History.{connection_terms, outstanding, phase_of}
use Rattle.requester_machine.specs.Holds.{Holds, Waits}
use Rattle.requester_machine.specs.Message.{Aim, Sent, body_of}
use Rattle.requester_machine.specs.Message.Aim.{Plain, ByChunks, ForChunk, InSession}
use Rattle.requester_machine.specs.Setup.{ReqSetup}
use Rattle.requester_machine.specs.UnderWay.{HasSizes, IsAwaited, IsOutstanding, is_capable}
use Rattle.responder_machine.specs.Answer.{Free}
use Rattle.responder_machine.specs.Handling.{turn_of}
use Rattle.responder_machine.specs.History.{History, clear_turns, kept_of, negotiation_of}
use Rattle.responder_machine.specs.History as responder_history
use Rattle.responder_machine.specs.History.Entry.{Clear}
use Rattle.responder_machine.specs.May.{with_dropped}
use Rattle.responder_machine.specs.Place.{clear_place, place_terms}
use Rattle.responder_machine.specs.Refusal.{code_of}
use Rattle.responder_machine.specs.Responder.Outcome.{Same, Unopened, Adds}
use Rattle.responder_machine.specs.Responder.{Outcome, is_repeat, kept_reply, on_clear}
use Rattle.responder_machine.specs.Responder as responder
use Rattle.responder_machine.specs.Setup.{RspSetup}
use Rattle.responder_machine.specs.Turn.{Turn, handle_in}
use Rattle.spdm_basis.proofs.Bools.{and_first}
use Rattle.spdm_grammar.specs.Message.{RequestMessage}
use Rattle.spdm_grammar.specs.Message.RequestMessage.{GetVersion, GetCapabilities, NegotiateAlgorithms, GetMeasurements, PskExchange, PskFinish, Heartbeat, KeyUpdate, EndSession, ChunkSend, ChunkGet}
use Rattle.spdm_grammar.specs.Requests.{canonical_request}
use Rattle.spdm_grammar.specs.declared.names.TheConstants.{MIN_DATA_TRANSFER_SIZE}
use Rattle.spdm_grammar.specs.declared.names.response_code.TheConstants.{CHUNK_SEND_ACK, ERROR}
use Rattle.spdm_grammar.specs.declared.told.phase.Phase.{Phase}
use Rattle.spdm_machine.specs.Bodies.{clear_body}
use Rattle.spdm_machine.specs.Terms.{terms_of}
use Rattle.capture_machine.proofs.DropsTell.{clear_form, kept_same}
use Rattle.capture_machine.proofs.PlainTells.{led_clear}
use Rattle.capture_machine.proofs.SmallGets.{chunk_sized}
use Rattle.capture_machine.specs.CapturedAnswers.{MayLeadTo, is_plain}
use Rattle.capture_machine.specs.LargeAnswers.{gives_last, is_fetching, is_for_chunk, is_large}
use Rattle.capture_machine.specs.Rounds.{Round, no_draw}
use Rattle.world_machine.specs.Setup.{Configuration}

-- LargeResponse that stands in no acknowledgement.
pub response_plain : (l : List ℕ) → shows_large l ≡ true → response_of l ≡ l
response_plain l large =
    let code : slice_index l 1 ≡ ERROR = eqb-true (slice_index l 1) ERROR (and_first (slice_index l 1 == ERROR) _ large) in ap (λ (n : ℕ). cond (n == CHUNK_SEND_ACK) (drop 6 l) l) code

pub same_form : (r : RspSetup) (k : History) (tag : ℕ) (m : List ℕ) (f : Free) (b : List ℕ) → on_clear r k tag m f no_draw ≡ Same b → (is_repeat (kept_of k) tag m ≡ true) × (b ≡ clear_body (kept_reply (kept_of k)))
unfolding on_clear
same_form r k tag m f b is = by_repeat (is_repeat (kept_of k) tag m) is
  where
    by_repeat : (x : Bool) → cond x (Same (clear_body (kept_reply (kept_of k)))) (Adds (Clear tag (turn_of r (clear_place k) m f) no_draw)) ≡ Same b → (x ≡ true) × (b ≡ clear_body (kept_reply (kept_of k)))
    by_repeat true same = (refl, cc same)
    by_repeat false same = absurd (cc same)

-- The requester awaits the answer to such a request only while its negotiation is settled.
capable : (q : ReqSetup) (h : requester_history.History) (a : RequestMessage) → IsAwaited q h a → has_free_length (code_of (canonical_request a)) ≡ true → is_capable (phase_of h) ≡ true
capable q h GetVersion awaited free = absurd (false≢true free)
capable q h (GetCapabilities caps) awaited free = absurd (false≢true free)
capable q h (NegotiateAlgorithms offer) awaited free = absurd (false≢true free)
capable q h (GetMeasurements op) awaited free = ap is_capable awaited
capable q h (PskExchange x) awaited free = ap is_capable awaited.0
capable q h (PskFinish verify) awaited free = absurd awaited
capable q h Heartbeat awaited free = absurd awaited
capable q h (KeyUpdate op n) awaited free = absurd awaited
capable q h EndSession awaited free = absurd awaited
capable q h (ChunkSend x) awaited free = absurd awaited
capable q h (ChunkGet n k) awaited free = absurd awaited

module _ (w : Configuration) (q : ReqSetup) (older : List (List ℕ)) (k : Kept) (route : RouteFields) (answer : List ℕ) (keeps : Keeps w q older k) (turn : AnswersInTurn k route answer)
    (type : (slice_index turn.round.body 0 == 5) ≡ true) (free : has_free_length (code_of (drop 1 turn.round.body)) ≡ true) (holds : Holds k.setup (restored k).requester) (sizes : HasSizes k.setup) where
  abbrev r : RspSetup
  r = responder_for w k

  abbrev h : History
  h = k.responder

  abbrev m : List ℕ
  m = drop 1 turn.round.body

  abbrev asker : requester_history.History
  asker = (restored k).requester

  walk : Walks w q older (restored k)
  walk = (kept_is_restored w q older k keeps).0

  none : is_fetching (outstanding asker) ≡ false
  none = kept_asks_none w q older k keeps

  body_is : turn.round.body ≡ clear_body m
  body_is = clear_shape turn.round.body type

  -- What the requester awaits is the answer to a whole request, while its negotiation is settled.
  abbrev IsPlain : Sent → Type 0
  IsPlain s = (a : RequestMessage) × (s.aim ≡ Plain a) × (is_capable (phase_of asker) ≡ true)

  by_aim : (s : Sent) → outstanding asker ≡ Some s → body_of s.content ≡ clear_body m → (aim : Aim) → s.aim ≡ aim → IsOutstanding k.setup asker s.content aim → IsPlain s
  by_aim s waits sent (Plain a) aims own =
      let spelled : m ≡ canonical_request a = ap (drop 1) (sym sent ∙ ap body_of own.1) in
      (a, aims, capable k.setup asker a own.0 (ap (λ (l : List ℕ). has_free_length (code_of l)) (sym spelled) ∙ free))
  by_aim s waits sent (ByChunks a at number) aims own =
      let spelled = ap (drop 1) (sym sent ∙ ap body_of (own.1 sizes).is) in
      absurd (false≢true (ap (λ (l : List ℕ). has_free_length (code_of l)) (sym spelled) ∙ free))
  by_aim s waits sent (ForChunk a at number before) aims own = absurd (false≢true (sym none ∙ ap is_fetching waits ∙ ap is_for_chunk aims))
  by_aim s waits sent (InSession id ask) aims own =
      absurd (let x : slice_index (clear_body m) 0 ≡ 6 = ap (λ (l : List ℕ). slice_index l 0) (sym sent ∙ ap body_of own.0.content_is) in omega (arith, x))

  awaited : (s : Sent) → outstanding asker ≡ Some s → (s.tag == turn.round.tag) ≡ true → IsPlain s
  awaited s waits tagged =
      by_aim s waits ((walks_agree w q older (restored k) walk).body s turn.round waits turn.answers.0 tagged ∙ body_is) s.aim refl (subst (Waits k.setup asker) waits holds.waits)

  module _ (asks : asks_upon k route.tag answer ≡ true) where
    told : (shows_large (drop 1 answer) ≡ true) × ((connection_terms asker).common.chunk ≡ true) × (is_capable (phase_of asker) ≡ true)
    unfolding heard_from
    told = asks_large k.setup asker no_values turn.round.tag answer none (is_capable (phase_of asker) ≡ true) awaited (ap (λ (n : ℕ). asks_upon k n answer) turn.answers.1 ∙ asks)

    -- Chunks are in common at the responder too, so the requester takes 42 bytes.
    pub chunks_here : (place_terms (clear_place k.responder)).common.chunk ≡ true
    chunks_here = ap (λ (c : Common). c.chunk) (sym (same_common w q older (restored k) walk told.2)) ∙ told.1

    pub wide_here : 12 < (place_terms (clear_place k.responder)).common.to_requester.transfer
    wide_here = let least = chunk_sized (negotiation_of (clear_turns h)) chunks_here in omega (arith, least)

    pub shown_large : shows_large (drop 1 answer) ≡ true
    shown_large = told.0

    -- It is a repeat, and the answer is its reply.
    pub record IsAgain : Type 0 where
      pub again : is_repeat (kept_of k.responder) turn.round.tag (drop 1 turn.round.body) ≡ true
      pub same : clear_body (kept_reply (kept_of k.responder)) ≡ answer

    module _ (is : IsShownAnswer (responder_for w k) k.responder turn.round.tag turn.round.body answer) where
      abbrev ids : List ℕ
      ids = drops_shown_by (responder_for w k) k.responder turn.round.tag turn.round.body answer

      abbrev g : History
      g = with_dropped k.responder (drops_shown_by (responder_for w k) k.responder turn.round.tag turn.round.body answer)

      abbrev o : Outcome
      o = outcome_shown (responder_for w k) k.responder turn.round.tag turn.round.body answer

      may : MayLeadTo r g turn.round.tag turn.round.body o
      unfolding MayLeadTo
      may = (values_shown_by r g turn.round.tag turn.round.body answer, is.0.0, is.0.1, is.0.2)

      repeated : (f : Free) (b : List ℕ) → on_clear r g turn.round.tag m f no_draw ≡ Same b → o ≡ Same b → IsAgain
      repeated f b leads made =
          let form = same_form r g turn.round.tag m f b leads in record {
            again = ap (λ (x : Option responder_history.Kept). is_repeat x turn.round.tag m) (sym (kept_same ids h)) ∙ form.0;
            same = ap (λ (x : Option responder_history.Kept). clear_body (kept_reply x)) (sym (kept_same ids h)) ∙ sym form.1 ∙ ap responder.body_of (sym made) ∙ is.2;
          }

      -- Any other answer is no LargeResponse.
      not_added : (t : Turn) → shows_large (response_of t.reply) ≡ is_some (handle_in t.effect) → o ≡ Adds (Clear turn.round.tag t no_draw) → ⊥
      not_added t tells made =
          let reply : drop 1 answer ≡ t.reply = ap (drop 1) (sym is.2 ∙ ap responder.body_of made) in
          let large : shows_large t.reply ≡ true = ap shows_large (sym reply) ∙ shown_large in
          let went : is_some (handle_in t.effect) ≡ true = sym tells ∙ ap shows_large (response_plain t.reply large) ∙ large in
          let small : not (is_some (handle_in t.effect)) ≡ true = and_first (not (is_some (handle_in t.effect))) _ (ap (is_plain h) (sym made) ∙ is.1) in
          false≢true (ap not (sym went) ∙ small)

      pub shown_again : IsAgain
      shown_again =
          let led = led_clear r g turn.round.tag turn.round.body o type may in
          elim (clear_form r g turn.round.tag m led.free o led.leads) [
            | inl same ↦ repeated led.free same.0 (led.leads ∙ same.1) same.1
            | inr adds ↦ absurd (not_added (turn_of r (clear_place g) m led.free) (turn_tells r (clear_place g) m led.free) adds)
          ]
