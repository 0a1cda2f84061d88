-- No answer to PSK_FINISH goes by LargeResponse.
use Rattle.std.proofs.Common.{◌≡◌, ◌≤◌, ◌==◌, ◌&&◌, ◌||◌, ℕ, List, refl, sym, ap, ◌∙◌, drop, Bool, true, false, Option, Some, None, is_some, cond, arith}
use Rattle.std.specs.Prelude.{not, nat_lt, slice_index}
use Rattle.std.proofs.lemmas.Bool.{false≢true}
use Rattle.std.proofs.lemmas.Bool.Decides.{nat_tests}
use Rattle.spdm_grammar.specs.Message.{RequestMessage, ChunkMessage}
use Rattle.spdm_grammar.specs.Message.RequestMessage.{PskFinish}
use Rattle.spdm_grammar.specs.Message.ResponseMessage.{PskFinishRsp}
use Rattle.spdm_grammar.specs.Responses.{canonical_response}
use Rattle.spdm_grammar.specs.declared.messages.error_code.ErrorCode.{ErrorCode}
use Rattle.spdm_grammar.specs.declared.names.TheConstants.{MIN_DATA_TRANSFER_SIZE}
use Rattle.spdm_grammar.specs.declared.names.request_code.TheConstants.{PSK_FINISH}
use Rattle.responder_machine.specs.Answer.{Free, answer_bytes, answer_to, request_at}
use Rattle.responder_machine.specs.Handling.{turn_of, turn_by, chunk_in, effect_of, handle_for}
use Rattle.responder_machine.specs.Place.{place_terms, session_place}
use Rattle.responder_machine.specs.Refusal.{refusal, is_answer_too_long}
use Rattle.responder_machine.specs.Responder.{session_turn, session_turn_by, inner_refusal, data_turn}
use Rattle.responder_machine.specs.Session.{Events, stage_of, session_negotiation}
use Rattle.responder_machine.specs.Setup.{RspSetup}
use Rattle.responder_machine.specs.Turn.{Effect, code_in, handle_in}
use Rattle.responder_machine.proofs.Tests.{contents_shown}
use Rattle.capture_machine.proofs.RepliesTell.{no_chunk}
use Rattle.capture_machine.proofs.SmallGets.{chunk_sized}
use Rattle.capture_machine.proofs.TurnsAlike.{chunk_is}

-- Where PSK_FINISH took effect, its answer went whole.
abbrev pub IsWhole : Effect → Type 0
IsWhole e = (code_in e == PSK_FINISH) ≡ true → is_some (handle_in e) ≡ false

-- A transfer size below any answer is none by which chunks are in common.
has_chunks : (a b c : Bool) → (a || (not b && c)) ≡ false → c ≡ true → b ≡ true
has_chunks a true c is large = refl
has_chunks true false c is large = absurd (false≢true (sym is))
has_chunks false false c is large = absurd (false≢true (sym is ∙ large))

is_wide : (transfer : ℕ) → MIN_DATA_TRANSFER_SIZE ≤ transfer → nat_lt transfer 4 ≡ true → ⊥
is_wide transfer low less = absurd (grind (arith, nat_tests))

module _ (r : RspSetup) (s : Events) (m : List ℕ) (f : Free) where
  finish_by : (b : Bool) → nat_lt (place_terms (session_place s)).common.to_requester.transfer 4 ≡ b → is_answer_too_long (session_place s) (canonical_response PskFinishRsp) ≡ false
      → is_some (cond b (Some f.handle) None) ≡ false
  finish_by false small short = refl
  finish_by true small short = absurd (is_wide _ (chunk_sized (session_negotiation s) (has_chunks _ _ _ short small)) small)

  finish_small : (verify : List ℕ) → refusal r (session_place s) m f ≡ None → request_at (session_place s) m ≡ Some (PskFinish verify) → is_some (handle_for (session_place s) f (answer_bytes r (session_place s) m f)) ≡ false
  unfolding answer_bytes
  finish_small verify none is =
      let short = ap (λ (o : Option RequestMessage). is_answer_too_long (session_place s) (answer_to r (session_place s) m f o)) (sym is) ∙ contents_shown r (session_place s) m f none 10 in
      ap (λ (o : Option RequestMessage). is_some (handle_for (session_place s) f (answer_to r (session_place s) m f o))) is ∙ finish_by _ refl short

  asked_whole : (q : RequestMessage) (answer : List ℕ) (large : Option ℕ) → ((verify : List ℕ) → q ≡ PskFinish verify → is_some large ≡ false) → IsWhole (effect_of (Some q) m answer large)
  asked_whole (PskFinish verify) answer large small is = small verify refl
  asked_whole _ answer large small is = absurd (false≢true is)

  plain_whole : (q : Option RequestMessage) → refusal r (session_place s) m f ≡ None → request_at (session_place s) m ≡ q → IsWhole (effect_of q m (answer_bytes r (session_place s) m f) (handle_for (session_place s) f (answer_bytes r (session_place s) m f)))
  plain_whole None none is code = absurd (false≢true code)
  plain_whole (Some q) none is code = asked_whole q (answer_bytes r (session_place s) m f) (handle_for (session_place s) f (answer_bytes r (session_place s) m f)) (λ verify same. finish_small verify none (is ∙ ap Some same)) code

  turn_whole : (x : Option ErrorCode) (c : Option ChunkMessage) → refusal r (session_place s) m f ≡ x → chunk_in (request_at (session_place s) m) ≡ c → IsWhole (turn_by r (session_place s) m f x c).effect
  turn_whole (Some e) c is asks = λ code. absurd (false≢true code)
  turn_whole None None is asks = plain_whole (request_at (session_place s) m) is refl
  turn_whole None (Some c) is asks = absurd (no_chunk r s m f c (chunk_is (request_at (session_place s) m) c asks) is)

  of_turn : IsWhole (turn_of r (session_place s) m f).effect
  unfolding turn_of
  of_turn = turn_whole (refusal r (session_place s) m f) (chunk_in (request_at (session_place s) m)) refl refl

whole_by : (r : RspSetup) (s : Events) (inner : List ℕ) (f : Free) (x : Option ErrorCode) → IsWhole (session_turn_by r s inner f x).effect
whole_by r s inner f (Some e) = λ code. absurd (false≢true code)
whole_by r s inner f None = by_type (slice_index inner 0 == 5)
  where
    by_type : (b : Bool) → IsWhole (cond b (turn_of r (session_place s) (drop 1 inner) f) (data_turn f (drop 1 inner))).effect
    by_type true = of_turn r s (drop 1 inner) f
    by_type false = λ code. absurd (false≢true code)

pub finish_whole : (r : RspSetup) (s : Events) (inner : List ℕ) (f : Free) → IsWhole (session_turn r s inner f).effect
unfolding session_turn
finish_whole r s inner f = whole_by r s inner f (inner_refusal (stage_of s) inner)
