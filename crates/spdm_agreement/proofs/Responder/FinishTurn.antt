-- A record in the handshake: PSK_FINISH is taken, or what came is refused.
use Rattle.std.proofs.Common.{◌≡◌, ℕ, ◌≤◌, ◌<◌, ◌^◌, List, [], ◌∷◌, ◌++◌, length, take, drop, Bool, true, false, cond, None, ◌==◌, refl, sym, ap, ap₂, ◌∙◌, inl, inr, arith, true≢false}
use Rattle.std.proofs.Math.Seq.{take-append_seam}
use Rattle.byteorder.specs.Endian.{little_number}
use Rattle.byteorder.specs.Numbers.{little_number-reads_back}
use Rattle.key_schedule.specs.declared.direction.Direction.TheVariants.{Request}
use Rattle.secured_record.specs.Format.{plain_text}
use Rattle.spdm_basis.specs.Sizes.{hash_size}
use Rattle.spdm_basis.specs.declared.values.hash_alg.HashAlg.{HashAlg}
use Rattle.spdm_basis.specs.declared.values.hash_alg.HashAlg.TheVariants.{Sha256, Sha384}
use Rattle.spdm_grammar.specs.Message.{RequestMessage}
use Rattle.spdm_grammar.specs.Message.RequestMessage.{PskFinish}
use Rattle.spdm_grammar.specs.Requests.{canonical_request}
use Rattle.spdm_grammar.specs.Responses.{canonical_response}
use Rattle.spdm_grammar.specs.declared.told.phase.Stage.{Stage}
use Rattle.spdm_grammar.specs.declared.told.phase.Stage.TheVariants as stage
use Rattle.responder_machine.specs.Answer.{Free, answer_of}
use Rattle.responder_machine.specs.Place.{session_place}
use Rattle.responder_machine.specs.Refusal.{stage_allows, has_pending}
use Rattle.responder_machine.specs.Responder.{is_open}
use Rattle.responder_machine.specs.Session.{Events, stage_of, session_vca, exchange_of, exchange_answer, finish_of, finish_answer, t2_of}
use Rattle.responder_machine.specs.Session.Event.{Heard}
use Rattle.responder_machine.specs.Setup.{RspSetup}
use Rattle.responder_machine.specs.Turn.{Turn, Effect, code_in, takes, updates, is_data, answer_in, request_in}
use Rattle.spdm_grammar.specs.Codes.{code_for}
use Rattle.transcript.specs.Transcripts as transcript
use Rattle.transcript.specs.Transcripts.{vca_of}
use Rattle.spdm_agreement.specs.Reading.{First}
use Rattle.spdm_agreement.specs.Story.{served_first, reply_text}
use Rattle.spdm_agreement.proofs.Messages.Beginnings.{first_terms, transcript_of, is_message, message_text, finish_message, finish_reply, second_of}
use Rattle.responder_machine.proofs.VerifyLength.{length_verify}
use Rattle.spdm_agreement.proofs.Responder.InnerTurns.{TakesRequest, TurnIs, took}
use Rattle.spdm_agreement.proofs.Responder.Replies.{IsRoomy, replies_whole, refused_reply, reply_of, answers, updates_in}
use Rattle.spdm_grammar.specs.declared.names.request_code.TheConstants.{PSK_FINISH}
use Rattle.spdm_grammar.specs.declared.names.response_code.TheConstants.{PSK_FINISH_RSP}

not_past : (g : Stage) → g ≡ stage.Handshake → is_open g ≡ true → ⊥
not_past stage.Handshake e f = true≢false (sym f)
not_past stage.Open e f = absurd (cc)
not_past stage.Verifying e f = absurd (cc)

shakes_alone : (g : Stage) (pending : Bool) (c : ℕ) → g ≡ stage.Handshake → stage_allows g pending c ≡ true → (c == PSK_FINISH) ≡ true
shakes_alone stage.Handshake pending c e f = f
shakes_alone stage.Open pending c e f = absurd (cc)
shakes_alone stage.Verifying pending c e f = absurd (cc)

finish_value : (v : RequestMessage) → (code_for v == PSK_FINISH) ≡ true → (verify : List ℕ) × (v ≡ PskFinish verify)
finish_value (PskFinish verify) e = (verify, refl)
finish_value v e = absurd (true≢false (sym e))

-- A turn that took no PSK_FINISH.
pub refuse_told : (r : RspSetup) (s : Events) (inner : List ℕ) (f : Free) (t : Turn) → stage_of s ≡ stage.Handshake → TurnIs r s inner f t → takes PSK_FINISH t ≡ false
    → (is_message PSK_FINISH_RSP (reply_text t) ≡ false) × (updates 2 t ≡ false)
refuse_told r s inner f t shakes x no_finish = elim x [
  | inl a ↦ (refused_reply r s inner f t a PSK_FINISH_RSP refl, ap (λ (t : Turn). updates 2 t) a.is)
  | inr y ↦ elim y [
    | inl a ↦ absurd (not_past (stage_of s) shakes a.past)
    | inr a ↦ absurd (true≢false (sym (shakes_alone (stage_of s) (has_pending (session_place s)) (code_for a.value) shakes a.allowed) ∙ sym (ap (λ (e : Effect). code_in e == PSK_FINISH) (took r s inner f t a)) ∙ no_finish))
  ]
]

-- A turn that took PSK_FINISH.
pub record Finishes (inner : List ℕ) (t : Turn) : Type 0 where
  pub request : request_in t.effect ≡ drop 1 inner
  pub answer : answer_in t.effect ≡ finish_reply
  pub reply : reply_text t ≡ message_text finish_reply
  pub update : updates 2 t ≡ false

finishes_by : (r : RspSetup) (s : Events) (inner : List ℕ) (f : Free) (t : Turn) → IsRoomy s → (a : TakesRequest r s inner f t) → (verify : List ℕ) → a.value ≡ PskFinish verify → Finishes inner t
finishes_by r s inner f t room a verify is =
    let m = drop 1 inner in
    let effect = took r s inner f t a in
    let answer : canonical_response (answer_of r (session_place s) m f a.value) ≡ finish_reply = ap (λ (v : RequestMessage). canonical_response (answer_of r (session_place s) m f v)) is in
    record {
      request = ap request_in effect;
      answer = answers r s inner f t a ∙ answer;
      reply = reply_of t (ap is_data effect) ∙ ap message_text (replies_whole r s inner f t a room (ap length answer) ∙ answer);
      update = ap (updates_in 2) effect ∙ ap (λ (v : RequestMessage). updates_in 2 (Effect.Took v m [] None)) is;
    }

pub finish_told : (r : RspSetup) (s : Events) (inner : List ℕ) (f : Free) (t : Turn) → stage_of s ≡ stage.Handshake → IsRoomy s → TurnIs r s inner f t → takes PSK_FINISH t ≡ true → Finishes inner t
finish_told r s inner f t shakes room x finish = elim x [
  | inl a ↦ absurd (true≢false (sym finish ∙ ap (λ (t : Turn). takes PSK_FINISH t) a.is))
  | inr y ↦ elim y [
    | inl a ↦ absurd (not_past (stage_of s) shakes a.past)
    | inr a ↦ (let v = finish_value a.value (shakes_alone (stage_of s) (has_pending (session_place s)) (code_for a.value) shakes a.allowed) in finishes_by r s inner f t room a v.0 v.1)
  ]
]

-- ---- Where the text is that of the requester's PSK_FINISH.

pub plain_inner : (inner : List ℕ) → length inner < 256 ^ 2 → take (little_number 2 (plain_text inner [])) (drop 2 (plain_text inner [])) ≡ inner
plain_inner inner short =
    ap (λ (n : ℕ). take n (inner ++ [])) (little_number-reads_back 2 (length inner) (inner ++ []) short) ∙ take-append_seam inner []

hash_short : (hash : HashAlg) → hash_size hash ≤ 48
hash_short Sha256 = omega arith
hash_short Sha384 = omega arith

finish_short : (psk : List ℕ) (t : First) → length (5 ∷ finish_message psk t) < 256 ^ 2
finish_short psk t =
    let n = length_verify (first_terms t).choice psk (transcript_of t) Request (vca_of t.negotiation ++ t.exchange ++ t.answer ++ canonical_request (PskFinish [])) in
    let m = hash_short (first_terms t).choice.hash in
    omega arith

pub finish_inner : (psk : List ℕ) (t : First) (text inner : List ℕ) → inner ≡ take (little_number 2 text) (drop 2 text) → text ≡ message_text (finish_message psk t) → inner ≡ 5 ∷ finish_message psk t
finish_inner psk t text inner holds is = holds ∙ ap (λ (l : List ℕ). take (little_number 2 l) (drop 2 l)) is ∙ plain_inner (5 ∷ finish_message psk t) (finish_short psk t)

-- Then T2 is the one that belongs to the session.
pub finish_second : (psk : List ℕ) (s : Events) (sealed inner : List ℕ) (t : Turn) (reply : List ℕ) → takes PSK_FINISH t ≡ true → Finishes inner t → inner ≡ 5 ∷ finish_message psk (served_first s)
    → t2_of (Heard sealed t reply ∷ s) ≡ second_of psk (served_first s)
finish_second psk s sealed inner t reply finish x is =
    ap (λ (b : Bool). transcript.t2_of (session_vca s) (exchange_of s) (exchange_answer s) (cond b (request_in t.effect) (finish_of s)) (cond b (answer_in t.effect) (finish_answer s))) finish
    ∙ ap₂ (λ (a b : List ℕ). transcript.t2_of (session_vca s) (exchange_of s) (exchange_answer s) a b) (x.request ∙ ap (drop 1) is) x.answer
