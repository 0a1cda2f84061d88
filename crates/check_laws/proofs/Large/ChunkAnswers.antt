-- A chunk of a large request that is not the last one leads to no LargeResponse, and gives no chunk of a large
-- response.
use Rattle.std.proofs.Common.{◌≡◌, ◌∙◌, ◌==◌, ◌&&◌, ℕ, List, [], ◌∷◌, refl, sym, ap, subst, arith, Bool, true, false, Option, Some, None, is_some, not, cond}
use Rattle.std.proofs.lemmas.Option.{none-some}
use Rattle.chunking.specs.Collecting.{joined_with, under_way}
use Rattle.responder_machine.proofs.Codes.{asked-code}
use Rattle.responder_machine.specs.Answer.{Free, request_at}
use Rattle.responder_machine.specs.Handling.{chunk_in, last_chunk_turn, taken_chunk, turn_by, turn_of}
use Rattle.responder_machine.specs.History.{Entry, History, kept_of}
use Rattle.responder_machine.specs.History.Entry.{Clear}
use Rattle.responder_machine.specs.LargeMessages.{chunks_of}
use Rattle.responder_machine.specs.Place.{Place, clear_place, inside}
use Rattle.responder_machine.specs.Refusal.{has_pending, refusal}
use Rattle.responder_machine.specs.Responder.{is_repeat, kept_reply, on_clear}
use Rattle.responder_machine.specs.Responder.Outcome.{Same, Adds}
use Rattle.responder_machine.specs.May.{on_body}
use Rattle.responder_machine.specs.Setup.{RspSetup}
use Rattle.responder_machine.specs.Turn.{Effect, Turn, code_in, handle_in}
use Rattle.responder_machine.specs.Turn.Effect.{NoEffect}
use Rattle.spdm_grammar.specs.Codes.{code_for}
use Rattle.spdm_grammar.specs.Message.{ChunkMessage, RequestMessage}
use Rattle.spdm_grammar.specs.Message.RequestMessage.{GetVersion, GetCapabilities, NegotiateAlgorithms, GetMeasurements, PskExchange, PskFinish, Heartbeat, KeyUpdate, EndSession, ChunkSend, ChunkGet}
use Rattle.spdm_grammar.specs.Requests.{canonical_request}
use Rattle.spdm_grammar.specs.declared.messages.error_code.ErrorCode.{ErrorCode}
use Rattle.spdm_grammar.specs.declared.names.request_code.TheConstants.{CHUNK_GET, CHUNK_SEND}
use Rattle.spdm_machine.specs.Bodies.{clear_body}
use Rattle.capture_machine.proofs.TurnsAlike.{chunk_is, is_request}
use Rattle.capture_machine.specs.CapturedAnswers.{is_plain}
use Rattle.capture_machine.specs.LargeAnswers.{place_of}
use Rattle.capture_machine.specs.Rounds.{no_draw}
use Rattle.check_laws.specs.Large.SendingAnswers.{ChunksLeadPlainly}
use Rattle.check_laws.proofs.Large.ChunkMarks.{not_last}

-- ---- The turn.

-- A request with the code of CHUNK_SEND holds a chunk.
has_chunk : (asked : RequestMessage) → chunk_in (Some asked) ≡ None → code_for asked ≡ CHUNK_SEND → ⊥
has_chunk GetVersion none code = absurd (omega (arith, code))
has_chunk (GetCapabilities caps) none code = absurd (omega (arith, code))
has_chunk (NegotiateAlgorithms offer) none code = absurd (omega (arith, code))
has_chunk (GetMeasurements op) none code = absurd (omega (arith, code))
has_chunk (PskExchange exchange) none code = absurd (omega (arith, code))
has_chunk (PskFinish verify) none code = absurd (omega (arith, code))
has_chunk Heartbeat none code = absurd (omega (arith, code))
has_chunk (KeyUpdate op tag) none code = absurd (omega (arith, code))
has_chunk EndSession none code = absurd (omega (arith, code))
has_chunk (ChunkSend c) none code = none-some c (sym none)
has_chunk (ChunkGet handle number) none code = absurd (omega (arith, code))

module _ (r : RspSetup) (p : Place) (c : ChunkMessage) (f : Free) (not : c.last ≡ false) where
  abbrev m : List ℕ
  m = canonical_request (ChunkSend c)

  by_parts : (o : Option ErrorCode) (x : Option ChunkMessage) → refusal r p m f ≡ o → chunk_in (request_at p m) ≡ x → (turn_by r p m f o x).effect ≡ NoEffect
  by_parts (Some e) x refused is = refl
  by_parts None None refused is =
      let one = is_request r p m f refused in
      absurd (has_chunk one.0 (ap chunk_in (sym one.1) ∙ is) (asked-code p m one.0 one.1))
  by_parts None (Some x) refused is =
      ap (λ (b : Bool). (cond b (last_chunk_turn r (inside p) m f x (joined_with (under_way (chunks_of p.turns)) x)) (taken_chunk m x NoEffect [])).effect)
      (not_last p c x not (chunk_is (request_at p m) x is))

  -- Nothing takes effect with it.
  pub no_effect : (turn_of r p m f).effect ≡ NoEffect
  unfolding turn_of
  no_effect = by_parts (refusal r p m f) (chunk_in (request_at p m)) refl refl

-- ---- The outcome.

-- Where nothing takes effect, nothing large begins or ends.
plain_entry : (h : History) (tag : ℕ) (t : Turn) → t.effect ≡ NoEffect → is_plain h (Adds (Clear tag t no_draw)) ≡ true
plain_entry h tag t none =
    let entry : Entry = Clear tag t no_draw in
    ap (λ (e : Effect). not (is_some (handle_in e)) && not (code_in e == CHUNK_GET && not (has_pending (place_of (entry ∷ h) entry)))) none

plain_clear : (r : RspSetup) (h : History) (tag : ℕ) (m : List ℕ) (f : Free) → (turn_of r (clear_place h) m f).effect ≡ NoEffect → is_plain h (on_clear r h tag m f no_draw) ≡ true
unfolding on_clear
plain_clear r h tag m f none = by_repeat (is_repeat (kept_of h) tag m)
  where
    by_repeat : (b : Bool) → is_plain h (cond b (Same (clear_body (kept_reply (kept_of h)))) (Adds (Clear tag (turn_of r (clear_place h) m f) no_draw))) ≡ true
    by_repeat true = refl
    by_repeat false = plain_entry h tag (turn_of r (clear_place h) m f) none

pub chunks_lead_plainly : ChunksLeadPlainly
chunks_lead_plainly r h tag body f chunk =
    subst (λ (l : List ℕ). is_plain h (on_body r h tag l f no_draw) ≡ true) (sym chunk.2)
    (plain_clear r h tag (canonical_request (ChunkSend chunk.0)) f (no_effect r (clear_place h) chunk.0 f chunk.1))
