-- CHUNK_GET in an open session.
use Rattle.std.proofs.Common.{◌≡◌, ◌≤◌, ◌∙◌, ap, sym, subst, refl, ℕ, ◌+◌, List, [], Bool, true, false, length, length-append, arith}
use Rattle.std.proofs.lemmas.Bool.Decides.{nat_tests}
use Rattle.std.specs.Prelude.{◌&&◌, ◌||◌, not, nat_lt, Some, unwrap_or}
use Rattle.chunking.specs.Cutting.{nth_chunk}
use Rattle.responder_machine.specs.Answer.{Free, chunk_answer}
use Rattle.responder_machine.specs.LargeMessages.{pending_of}
use Rattle.responder_machine.specs.Handling.{refused_turn, turn_of}
use Rattle.responder_machine.specs.Place.{session_place}
use Rattle.responder_machine.specs.Refusal.{is_answer_too_long, is_get_refused}
use Rattle.responder_machine.specs.Session.{Events, session_terms, turns_of}
use Rattle.responder_machine.specs.Setup.{RspSetup}
use Rattle.spdm_grammar.specs.Fields.{IsSoundChunk}
use Rattle.spdm_grammar.specs.Message.{ChunkMessage, ResponseMessage}
use Rattle.spdm_grammar.specs.declared.names.TheConstants.{MAX_MESSAGE_SIZE, MIN_DATA_TRANSFER_SIZE}
use Rattle.spdm_grammar.specs.Message.RequestMessage.{ChunkGet}
use Rattle.spdm_grammar.specs.Message.ResponseMessage.{ChunkResponse}
use Rattle.spdm_grammar.specs.Responses.{canonical_response}
use Rattle.spdm_grammar.specs.declared.messages.error_code.ErrorCode.TheVariants.{InvalidRequest}
use Rattle.responder_session.proofs.Contents.{turn-refused, turn-answered}
use Rattle.responder_session.proofs.Allowed.{has_flag}
use Rattle.responder_session.proofs.Doing.{measured_by}
use Rattle.responder_session.specs.RequestEffects.{IsAllowed, IsDeed}
use Rattle.responder_session.specs.Turns.{answered_turn}
use Rattle.responder_session.specs.declared.request_effect.RequestEffect.TheVariants as deed
use Rattle.chunking.proofs.ChunkLengths.{chunk_framed, chunk_sound}

-- ---- A chunk has a spelling, and fits into the transfer size.

pub chunk_within : (transfer handle : ℕ) (message : List ℕ) (k : ℕ) → MIN_DATA_TRANSFER_SIZE ≤ transfer → length (canonical_response (ChunkResponse (nth_chunk transfer handle message k))) ≤ transfer
chunk_within transfer handle message k low =
    let framed = chunk_framed transfer handle message k (omega (arith, low)) in
    simp length-append (omega (arith, framed))

-- ---- What it does.

abbrev the_chunk : ChunkMessage → ResponseMessage → ChunkMessage
the_chunk other (ChunkResponse c) = c
the_chunk other _ = other

pub refused_get : (r : RspSetup) (s : Events) (f : Free) (m : List ℕ) (handle number : ℕ) → IsAllowed r s m (ChunkGet handle number)
    → is_get_refused (session_place s) (Some (ChunkGet handle number)) ≡ true → turn_of r (session_place s) m f ≡ refused_turn r (session_place s) m f InvalidRequest
refused_get r s f m handle number a refused =
    turn-refused r (session_place s) m f (ChunkGet handle number) InvalidRequest a.form a.asks
    (measured_by _ (is_get_refused (session_place s) (Some (ChunkGet handle number))) (is_answer_too_long (session_place s) (canonical_response (chunk_answer (session_place s) handle number))) false true _
    (has_flag r s m (ChunkGet handle number) a) refused refl)

too_short : (max transfer long : ℕ) (chunk : Bool) → long ≤ transfer → transfer ≤ max → (nat_lt max long || (not chunk && nat_lt transfer (0 + long))) ≡ false
too_short max transfer long true h k = grind (arith, nat_tests)
too_short max transfer long false h k = grind (arith, nat_tests)

not_less : (a b : ℕ) → b ≤ a → nat_lt a (0 + b) ≡ false
not_less a b h = grind (arith, nat_tests)

pub given_deed : (r : RspSetup) (s : Events) (f : Free) (m out : List ℕ) (c : ChunkMessage) (handle number : ℕ) → IsAllowed r s m (ChunkGet handle number)
    → is_get_refused (session_place s) (Some (ChunkGet handle number)) ≡ false → chunk_answer (session_place s) handle number ≡ ChunkResponse c
    → (IsSoundChunk c → length (canonical_response (ChunkResponse c)) ≤ MAX_MESSAGE_SIZE → out ≡ canonical_response (ChunkResponse c))
    → IsDeed r s f m out (deed.Chunk handle number)
given_deed r s f m out c handle number a free answer written =
    let transfer = (session_terms s).common.to_requester.transfer in
    let whole : List ℕ = unwrap_or (pending_of transfer (turns_of s)) [] in
    let least = a.sizes.least in
    let crossed = a.sizes.crossed in
    let most = a.sizes.most in
    let shown : nth_chunk transfer handle whole number ≡ c = ap (the_chunk c) answer in
    let long : length (canonical_response (ChunkResponse c)) ≤ transfer = subst (λ (x : ChunkMessage). length (canonical_response (ChunkResponse x)) ≤ transfer) shown (chunk_within transfer handle whole number least) in
    let sound : IsSoundChunk c = subst IsSoundChunk shown (chunk_sound transfer handle whole number (omega arith)) in
    let sent : List ℕ = canonical_response (chunk_answer (session_place s) handle number) in
    let same : sent ≡ canonical_response (ChunkResponse c) = ap canonical_response answer in
    let short : length sent ≤ transfer = subst (λ (x : List ℕ). length x ≤ transfer) (sym same) long in
    let is : out ≡ canonical_response (ChunkResponse c) = written sound (omega arith) in
    record {
      turn = turn-answered r (session_place s) m f (ChunkGet handle number) a.form a.asks refl
          (measured_by _ (is_get_refused (session_place s) (Some (ChunkGet handle number))) (is_answer_too_long (session_place s) sent) false false false
          (has_flag r s m (ChunkGet handle number) a) free
          (too_short (session_terms s).common.to_requester.max transfer (length sent) (session_terms s).common.chunk short crossed))
          (not_less transfer (length sent) short)
          ∙ ap (answered_turn m (ChunkGet handle number)) (same ∙ sym is);
      fit = tt;
    }
