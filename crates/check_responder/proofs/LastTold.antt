-- The reply to a CHUNK_GET in a session shows whether it gives the last chunk.
use Rattle.std.proofs.Common.{◌≡◌, ◌≤◌, ◌<◌, ◌+◌, ◌∙◌, ◌==◌, ◌&&◌, ◌||◌, ℕ, List, [], ◌∷◌, refl, sym, ap, subst, Bool, true, false, Option, Some, None, cond, is_some, arith}
use Rattle.std.proofs.lemmas.Bool.{eqb-true, false≢true, not-false}
use Rattle.std.proofs.lemmas.Bool.Decides.{nat_tests}
use Rattle.std.specs.Prelude.{nat_lt, not, unwrap_or}
use Rattle.chunking.specs.Cutting.{chunk_count, nth_chunk}
use Rattle.responder_machine.proofs.Codes.{asked-code}
use Rattle.responder_machine.proofs.Tests.{contents_shown, form_shown}
use Rattle.responder_machine.specs.Answer.{Free, answer_bytes, answer_of, answer_to, request_at}
use Rattle.responder_machine.specs.Handling.{chunk_in, effect_of, goes_large, handle_for, large_response, turn_by, turn_of}
use Rattle.responder_machine.specs.LargeMessages.{given_of, large_of, pending_of, still_pending}
use Rattle.responder_machine.specs.Place.{Place, session_place}
use Rattle.responder_machine.specs.Refusal.{has_pending, is_allowed, is_get_refused, refusal, stage_allows}
use Rattle.responder_machine.specs.Session.{Events, session_terms, stage_of}
use Rattle.responder_machine.specs.Setup.{RspSetup}
use Rattle.responder_machine.specs.Turn.{Turn, takes}
use Rattle.spdm_grammar.specs.Message.{ChunkMessage, RequestMessage}
use Rattle.spdm_grammar.specs.Message.RequestMessage.{GetVersion, GetCapabilities, NegotiateAlgorithms, GetMeasurements, PskExchange, PskFinish, Heartbeat, KeyUpdate, EndSession, ChunkSend, ChunkGet}
use Rattle.spdm_grammar.specs.Message.ResponseMessage.{ChunkResponse}
use Rattle.spdm_grammar.specs.Responses.{canonical_response}
use Rattle.spdm_grammar.specs.declared.messages.error_code.ErrorCode.{ErrorCode}
use Rattle.spdm_grammar.specs.declared.told.phase.Stage.{Stage}
use Rattle.spdm_grammar.specs.declared.told.phase.Stage.TheVariants.{Handshake, Open, Verifying}
use Rattle.spdm_grammar.specs.declared.names.request_code.TheConstants.{CHUNK_GET}
use Rattle.check_responder.proofs.AnyAnswers.{chunk_fits}
use Rattle.check_responder.specs.ShownBy.{shows_last}
use Rattle.capture_machine.proofs.RepliesTell.{no_chunk}
use Rattle.capture_machine.proofs.TurnsAlike.{chunk_is, is_request}

-- ---- What is left behind a chunk.

last_by : (given count : ℕ) → given < count → (given + 1 == count) ≡ not (nat_lt (given + 1) count)
last_by given count less = grind (arith, nat_tests)

not_large : (b known : Bool) (transfer n : ℕ) → n ≤ transfer → (known && nat_lt transfer (0 + n)) ≡ false
not_large b true transfer n less = grind (arith, nat_tests)
not_large b false transfer n less = refl

get_parts : (a b : Bool) → (not a || not b) ≡ false → b ≡ true
get_parts true true is = refl
get_parts true false is = absurd (false≢true (sym is))
get_parts false b is = absurd (false≢true (sym is))

mark_is : (b : Bool) → (cond b 1 0 == 1) ≡ b
mark_is true = refl
mark_is false = refl

module _ (r : RspSetup) (s : Events) (m : List ℕ) (f : Free) where
  abbrev p : Place
  p = session_place s

  abbrev transfer : ℕ
  transfer = (session_terms s).common.to_requester.transfer

  abbrev IsLast : Turn → Type 0
  IsLast t = (takes CHUNK_GET t && not (is_some (pending_of transfer (t ∷ p.turns)))) ≡ shows_last t.reply

  -- The turn of a request, whose answer is this.
  abbrev asked_turn : RequestMessage → (answer : List ℕ) → (large : Bool) → Turn
  asked_turn asked answer large = record {
    message = m;
    refused = None;
    chunk = None;
    effect = effect_of (Some asked) m answer (cond large (Some f.handle) None);
    reply = cond large (large_response f.handle) answer;
  }

  other_last : (asked : RequestMessage) (answer : List ℕ) (large : Bool) → takes CHUNK_GET (asked_turn asked answer large) ≡ false → shows_last answer ≡ false → IsLast (asked_turn asked answer large)
  other_last asked answer true other shown = ap (λ (b : Bool). b && not (is_some (pending_of transfer (asked_turn asked answer true ∷ p.turns)))) other
  other_last asked answer false other shown = ap (λ (b : Bool). b && not (is_some (pending_of transfer (asked_turn asked answer false ∷ p.turns)))) other ∙ sym shown

  -- A chunk of the answer that is pending.
  left_by : (handle number : ℕ) (o : Option (List ℕ)) → large_of p.turns ≡ o → is_some (still_pending transfer (given_of p.turns) o) ≡ true → number ≡ given_of p.turns
      → let answer = canonical_response (ChunkResponse (nth_chunk transfer handle (unwrap_or (still_pending transfer (given_of p.turns) o) []) number)) in IsLast (asked_turn (ChunkGet handle number) answer false)
  left_by handle number None is some same = absurd (false≢true some)
  left_by handle number (Some whole) is some same = by_given (nat_lt (given_of p.turns) (chunk_count transfer whole)) refl some
    where
      by_given : (b : Bool) → nat_lt (given_of p.turns) (chunk_count transfer whole) ≡ b → is_some (cond b (Some whole) None) ≡ true
          → let answer = canonical_response (ChunkResponse (nth_chunk transfer handle (unwrap_or (cond b (Some whole) None) []) number)) in IsLast (asked_turn (ChunkGet handle number) answer false)
      by_given false less some = absurd (false≢true some)
      by_given true less some =
          let given : ℕ = given_of p.turns in
          let count : ℕ = chunk_count transfer whole in
          let left : Option (List ℕ) → Bool = λ o. is_some (still_pending transfer (given + 1) o) in
          let one : not (left (large_of p.turns)) ≡ not (is_some (cond (nat_lt (given + 1) count) (Some whole) None)) = ap (λ (o : Option (List ℕ)). not (left o)) is in
          one ∙ by_test (nat_lt (given + 1) count) ∙ sym (last_by given count (under given count less)) ∙ ap (λ (n : ℕ). n + 1 == count) (sym same) ∙ sym (mark_is (number + 1 == count))
        where
          by_test : (b : Bool) → not (is_some (cond b (Some whole) None)) ≡ not b
          by_test true = refl
          by_test false = refl

          under : (a b : ℕ) → nat_lt a b ≡ true → a < b
          under a b is = grind (arith, nat_tests)

  -- CHUNK_GET is taken where an answer is pending alone.
  by_stage : (stage : Stage) (pending : Bool) → stage_allows stage pending CHUNK_GET ≡ true → pending ≡ true
  by_stage Handshake pending is = absurd (false≢true is)
  by_stage Open pending is = is
  by_stage Verifying pending is = absurd (false≢true is)

  is_pending : (handle number : ℕ) → request_at p m ≡ Some (ChunkGet handle number) → refusal r p m f ≡ None → has_pending p ≡ true
  is_pending handle number is none =
      by_stage (stage_of s) (has_pending p) (ap (is_allowed p.at p) (asked-code p m (ChunkGet handle number) is) ∙ not-false (is_allowed p.at p _) (form_shown r p m f none 6))

  get_last : (handle number : ℕ) → 16 ≤ transfer → request_at p m ≡ Some (ChunkGet handle number) → refusal r p m f ≡ None
      → IsLast (asked_turn (ChunkGet handle number) (canonical_response (answer_of r p m f (ChunkGet handle number))) false)
  get_last handle number least is none =
      let number_is = get_parts _ (number == given_of p.turns) (ap (is_get_refused p) (sym is) ∙ contents_shown r p m f none 9) in
      left_by handle number (large_of p.turns) refl (is_pending handle number is none) (eqb-true number (given_of p.turns) number_is)

  get_small : (handle number : ℕ) → 16 ≤ transfer → goes_large p (canonical_response (answer_of r p m f (ChunkGet handle number))) ≡ false
  get_small handle number least =
      not_large true true transfer _ (chunk_fits transfer handle (unwrap_or (pending_of transfer p.turns) []) number least)

  -- By the request.
  asked_last : 16 ≤ transfer → (asked : RequestMessage) → request_at p m ≡ Some asked → refusal r p m f ≡ None
      → let answer = canonical_response (answer_of r p m f asked) in IsLast (asked_turn asked answer (goes_large p answer))
  asked_last least (ChunkGet handle number) is none =
      subst (λ (b : Bool). IsLast (asked_turn (ChunkGet handle number) (canonical_response (answer_of r p m f (ChunkGet handle number))) b)) (sym (get_small handle number least)) (get_last handle number least is none)
  asked_last least GetVersion is none = other_last GetVersion (canonical_response (answer_of r p m f GetVersion)) (goes_large p (canonical_response (answer_of r p m f GetVersion))) refl refl
  asked_last least (GetCapabilities caps) is none = other_last (GetCapabilities caps) (canonical_response (answer_of r p m f (GetCapabilities caps))) (goes_large p (canonical_response (answer_of r p m f (GetCapabilities caps)))) refl refl
  asked_last least (NegotiateAlgorithms offer) is none = other_last (NegotiateAlgorithms offer) (canonical_response (answer_of r p m f (NegotiateAlgorithms offer))) (goes_large p (canonical_response (answer_of r p m f (NegotiateAlgorithms offer)))) refl refl
  asked_last least (GetMeasurements op) is none = other_last (GetMeasurements op) (canonical_response (answer_of r p m f (GetMeasurements op))) (goes_large p (canonical_response (answer_of r p m f (GetMeasurements op)))) refl refl
  asked_last least (PskExchange x) is none = other_last (PskExchange x) (canonical_response (answer_of r p m f (PskExchange x))) (goes_large p (canonical_response (answer_of r p m f (PskExchange x)))) refl refl
  asked_last least (PskFinish verify) is none = other_last (PskFinish verify) (canonical_response (answer_of r p m f (PskFinish verify))) (goes_large p (canonical_response (answer_of r p m f (PskFinish verify)))) refl refl
  asked_last least Heartbeat is none = other_last Heartbeat (canonical_response (answer_of r p m f Heartbeat)) (goes_large p (canonical_response (answer_of r p m f Heartbeat))) refl refl
  asked_last least (KeyUpdate op tag) is none = other_last (KeyUpdate op tag) (canonical_response (answer_of r p m f (KeyUpdate op tag))) (goes_large p (canonical_response (answer_of r p m f (KeyUpdate op tag)))) refl refl
  asked_last least EndSession is none = other_last EndSession (canonical_response (answer_of r p m f EndSession)) (goes_large p (canonical_response (answer_of r p m f EndSession))) refl refl
  asked_last least (ChunkSend chunk) is none = other_last (ChunkSend chunk) (canonical_response (answer_of r p m f (ChunkSend chunk))) (goes_large p (canonical_response (answer_of r p m f (ChunkSend chunk)))) refl refl

  by_parts : 16 ≤ transfer → (o : Option ErrorCode) (c : Option ChunkMessage) → refusal r p m f ≡ o → chunk_in (request_at p m) ≡ c → IsLast (turn_by r p m f o c)
  unfolding answer_bytes
  by_parts least (Some e) c is asks = refl
  by_parts least None (Some c) is asks = absurd (no_chunk r s m f c (chunk_is (request_at p m) c asks) is)
  by_parts least None None is asks =
      let one = is_request r p m f is in
      let turn : Option RequestMessage → Turn = λ q. record {
        message = m;
        refused = None;
        chunk = None;
        effect = effect_of q m (answer_to r p m f q) (handle_for p f (answer_to r p m f q));
        reply = cond (goes_large p (answer_to r p m f q)) (large_response f.handle) (answer_to r p m f q);
      } in
      subst (λ (q : Option RequestMessage). IsLast (turn q)) (sym one.1) (asked_last least one.0 one.1 is)

  -- Whether it gives the last chunk.
  pub last_tells : 16 ≤ transfer → IsLast (turn_of r p m f)
  unfolding turn_of
  last_tells least = by_parts least (refusal r p m f) (chunk_in (request_at p m)) refl refl
