-- The text of an answer to a record holds ERROR exactly when its request was refused, but for LargeResponse.
use Rattle.std.proofs.Common.{◌≡◌, ◌<◌, ◌∙◌, ◌==◌, ℕ, List, ◌∷◌, refl, sym, ap, subst, drop, length, Bool, true, false, Option, Some, None, cond, is_none, is_some}
use Rattle.std.proofs.lemmas.Bool.{false≢true, not-true}
use Rattle.std.specs.Prelude.{slice_index}
use Rattle.check_laws.proofs.SessionShown.{text_is, updates_alike}
use Rattle.check_laws.specs.AnswersShown.{answered_text}
use Rattle.responder_machine.specs.Answer.{Free, answer_bytes, answer_of, answer_to, request_at}
use Rattle.responder_machine.specs.Handling.{chunk_in, effect_of, goes_large, handle_for, large_response, turn_by, turn_of}
use Rattle.responder_machine.specs.History.{Entry, History}
use Rattle.responder_machine.specs.History.Entry.{Sealed}
use Rattle.responder_machine.specs.Place.{Place, session_place}
use Rattle.responder_machine.specs.Records.{opened, reply_record}
use Rattle.responder_machine.specs.Refusal.{refusal}
use Rattle.responder_machine.specs.Responder.Outcome.{Adds}
use Rattle.responder_machine.specs.Responder.{data_turn, inner_refusal, inner_reply, on_clear, on_record, sent_by, session_turn, session_turn_by}
use Rattle.responder_machine.specs.Session.{Events, id_in_record, session_of, stage_of}
use Rattle.responder_machine.specs.Setup.{RspSetup}
use Rattle.responder_machine.specs.Turn.{Effect, Turn, handle_in, is_data}
use Rattle.secured_record.specs.Format.{plain_text}
use Rattle.spdm_grammar.specs.Message.{ChunkMessage, RequestMessage}
use Rattle.spdm_grammar.specs.Message.RequestMessage.{GetVersion, GetCapabilities, NegotiateAlgorithms, GetMeasurements, PskExchange, PskFinish, Heartbeat, KeyUpdate, EndSession, ChunkSend, ChunkGet}
use Rattle.spdm_grammar.specs.Responses.{canonical_response}
use Rattle.spdm_grammar.specs.declared.messages.error_code.ErrorCode.{ErrorCode}
use Rattle.capture_machine.proofs.GetTells.{IsIdle, session_idle}
use Rattle.capture_machine.proofs.RecordAdds.{record_added}
use Rattle.capture_machine.proofs.RepliesTell.{no_chunk}
use Rattle.capture_machine.proofs.TurnsAlike.{chunk_is, is_request}
use Rattle.capture_machine.specs.CapturedAnswers.{MayLeadTo}
use Rattle.capture_machine.specs.LargeAnswers.{is_large}
use Rattle.capture_machine.specs.Opening.{any_free, turn_in}
use Rattle.capture_machine.specs.Rounds.{no_draw}
use Rattle.check_late_laws.proofs.Late.PlainTexts.{one_inner}
use Rattle.check_fetched_ends.specs.InSession.{IsTextOf}
use Rattle.check_fetched_ends.specs.SessionOthers.{IsRefusing, is_error, is_refused}

-- ---- A turn.

-- Its reply is ERROR exactly when it was refused.
abbrev IsTold : Turn → Type 0
IsTold t = is_some (handle_in t.effect) ≡ false → is_error t.reply ≡ is_some t.refused

module _ (r : RspSetup) (s : Events) (m : List ℕ) (f : Free) where
  abbrev p : Place
  p = session_place s

  abbrev asked_turn : RequestMessage → (answer : List ℕ) → (large : Bool) → Turn
  asked_turn asked answer large = record {
    message = m;
    refused = None;
    chunk = None;
    effect = effect_of (Some asked) m answer (cond large (Some f.handle) None);
    reply = cond large (large_response f.handle) answer;
  }

  reply_told : (asked : RequestMessage) (answer : List ℕ) (large : Bool) → is_error answer ≡ false → IsTold (asked_turn asked answer large)
  reply_told asked answer true told = λ small. absurd (false≢true (sym small))
  reply_told asked answer false told = λ small. told

  asked_told : (asked : RequestMessage) → let answer = canonical_response (answer_of r p m f asked) in IsTold (asked_turn asked answer (goes_large p answer))
  asked_told (ChunkGet handle number) = reply_told (ChunkGet handle number) (canonical_response (answer_of r p m f (ChunkGet handle number))) (goes_large p (canonical_response (answer_of r p m f (ChunkGet handle number)))) refl
  asked_told GetVersion = reply_told GetVersion (canonical_response (answer_of r p m f GetVersion)) (goes_large p (canonical_response (answer_of r p m f GetVersion))) refl
  asked_told (GetCapabilities caps) = reply_told (GetCapabilities caps) (canonical_response (answer_of r p m f (GetCapabilities caps))) (goes_large p (canonical_response (answer_of r p m f (GetCapabilities caps)))) refl
  asked_told (NegotiateAlgorithms offer) = reply_told (NegotiateAlgorithms offer) (canonical_response (answer_of r p m f (NegotiateAlgorithms offer))) (goes_large p (canonical_response (answer_of r p m f (NegotiateAlgorithms offer)))) refl
  asked_told (GetMeasurements op) = reply_told (GetMeasurements op) (canonical_response (answer_of r p m f (GetMeasurements op))) (goes_large p (canonical_response (answer_of r p m f (GetMeasurements op)))) refl
  asked_told (PskExchange x) = reply_told (PskExchange x) (canonical_response (answer_of r p m f (PskExchange x))) (goes_large p (canonical_response (answer_of r p m f (PskExchange x)))) refl
  asked_told (PskFinish verify) = reply_told (PskFinish verify) (canonical_response (answer_of r p m f (PskFinish verify))) (goes_large p (canonical_response (answer_of r p m f (PskFinish verify)))) refl
  asked_told Heartbeat = reply_told Heartbeat (canonical_response (answer_of r p m f Heartbeat)) (goes_large p (canonical_response (answer_of r p m f Heartbeat))) refl
  asked_told (KeyUpdate op tag) = reply_told (KeyUpdate op tag) (canonical_response (answer_of r p m f (KeyUpdate op tag))) (goes_large p (canonical_response (answer_of r p m f (KeyUpdate op tag)))) refl
  asked_told EndSession = reply_told EndSession (canonical_response (answer_of r p m f EndSession)) (goes_large p (canonical_response (answer_of r p m f EndSession))) refl
  asked_told (ChunkSend chunk) = reply_told (ChunkSend chunk) (canonical_response (answer_of r p m f (ChunkSend chunk))) (goes_large p (canonical_response (answer_of r p m f (ChunkSend chunk)))) refl

  by_parts : (o : Option ErrorCode) (c : Option ChunkMessage) → refusal r p m f ≡ o → chunk_in (request_at p m) ≡ c → IsTold (turn_by r p m f o c)
  unfolding answer_bytes
  by_parts (Some e) c is asks = λ small. refl
  by_parts None (Some c) is asks = absurd (no_chunk r s m f c (chunk_is (request_at p m) c asks) is)
  by_parts None None is asks =
      let one = is_request r p m f is in
      let turn : Option RequestMessage → Turn = λ q. record {
        message = m;
        refused = None;
        chunk = None;
        effect = effect_of q m (answer_to r p m f q) (handle_for p f (answer_to r p m f q));
        reply = cond (goes_large p (answer_to r p m f q)) (large_response f.handle) (answer_to r p m f q);
      } in
      subst (λ (q : Option RequestMessage). IsTold (turn q)) (sym one.1) (asked_told one.0)

  turn_told : IsTold (turn_of r p m f)
  unfolding turn_of
  turn_told = by_parts (refusal r p m f) (chunk_in (request_at p m)) refl refl

-- So is the SPDM message that it is answered with.
module _ (r : RspSetup) (s : Events) (inner : List ℕ) (f : Free) where
  abbrev HoldsTold : Turn → Type 0
  HoldsTold t = is_some (handle_in t.effect) ≡ false → (m : List ℕ) → inner_reply t ≡ 5 ∷ m → is_error m ≡ is_some t.refused

  session_by : (x : Option ErrorCode) → HoldsTold (session_turn_by r s inner f x)
  session_by (Some e) = λ small m is. sym (ap (λ (l : List ℕ). is_error (drop 1 l)) is)
  session_by None = by_type (slice_index inner 0 == 5)
    where
      by_type : (b : Bool) → HoldsTold (cond b (turn_of r (session_place s) (drop 1 inner) f) (data_turn f (drop 1 inner)))
      by_type true = λ small m is. sym (ap (λ (l : List ℕ). is_error (drop 1 l)) is) ∙ turn_told r s (drop 1 inner) f small
      by_type false = λ small m is. absurd (false≢true (ap (λ (l : List ℕ). slice_index l 0 == 5) is))

  session_told : HoldsTold (session_turn r s inner f)
  unfolding session_turn
  session_told = session_by (inner_refusal (stage_of s) inner)

-- Nothing took effect where it was refused, so that is answered by an SPDM message.
refused_reply : (t : Turn) → IsIdle t → is_some t.refused ≡ true → inner_reply t ≡ 5 ∷ t.reply
refused_reply t idle refused = ap (λ (x : Effect). cond (is_data x) 1 5 ∷ t.reply) (idle (none_of t.refused refused))
  where
    none_of : (o : Option ErrorCode) → is_some o ≡ true → is_none o ≡ false
    none_of None is = absurd (false≢true is)
    none_of (Some e) is = refl

-- ---- An entry.

pub refused_is : (r : RspSetup) (h : History) (tag : ℕ) (body answer text : List ℕ) (e : Entry) (refuses : Bool) → (slice_index body 0 == 5) ≡ false → MayLeadTo r h tag body (Adds e) → sent_by e ≡ answer → is_large e ≡ false
    → IsTextOf r h body answer text → IsRefusing text refuses → is_refused e ≡ refuses
unfolding MayLeadTo
refused_is r h tag body answer text e refuses type may sends small read is = by_both (is_some t.refused) refuses refl is
  where
    sealed : List ℕ
    sealed = drop 1 body

    s : Events
    s = session_of (id_in_record sealed) h

    f : Free
    f = may.0

    inner : List ℕ
    inner = opened r.psk s sealed

    t : Turn
    t = session_turn r s inner f

    leads : on_record r h tag sealed f no_draw ≡ Adds e
    leads = sym (ap (λ (b : Bool). cond b (on_clear r h tag sealed f no_draw) (on_record r h tag sealed f no_draw)) type) ∙ may.3

    same : Sealed tag sealed t (reply_record r.psk s t (inner_reply t) f.pad) no_draw ≡ e
    same = record_added r f tag sealed e h leads

    own_text : text ≡ plain_text (inner_reply t) f.pad
    own_text =
        read.holds ∙ ap (λ (l : List ℕ). answered_text r s (turn_in r s sealed) (drop 1 l)) (sym sends)
        ∙ sym (ap (λ (x : Entry). answered_text r s (turn_in r s sealed) (drop 1 (sent_by x))) same) ∙ text_is r s t (turn_in r s sealed) (inner_reply t) f.pad (updates_alike r s inner any_free f)

    no_handle : is_some (handle_in t.effect) ≡ false
    no_handle = ap is_large same ∙ small

    own : is_refused e ≡ is_some t.refused
    own = sym (ap is_refused same)

    by_both : (b c : Bool) → is_some t.refused ≡ b → IsRefusing text c → is_refused e ≡ c
    by_both true true one two = own ∙ one
    by_both false false one two = own ∙ one
    by_both true false one two =
        let reply = refused_reply t (session_idle r s inner f) one in
        absurd (two t.reply (f.pad, own_text ∙ ap (λ (l : List ℕ). plain_text l f.pad) reply) (session_told r s inner f no_handle t.reply reply ∙ one))
    by_both false true one two =
        let there = one_inner text (inner_reply t) (5 ∷ two.0) f.pad two.1.0 read.brief own_text two.1.1 in
        absurd (false≢true (sym one ∙ sym (session_told r s inner f no_handle two.0 there) ∙ two.2))
