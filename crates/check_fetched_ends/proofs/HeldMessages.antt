-- What the text of an answer to a record holds: CHUNK_RESPONSE exactly when a chunk is given.
use Rattle.std.proofs.Common.{◌≡◌, ◌≤◌, ◌∙◌, ◌==◌, ℕ, List, ◌∷◌, refl, sym, ap, subst, drop, length, Bool, true, false, Option, Some, None, cond, is_some}
use Rattle.std.proofs.lemmas.Bool.{false≢true}
use Rattle.std.specs.Prelude.{slice_index}
use Rattle.check_laws.proofs.SessionShown.{text_is, updates_alike}
use Rattle.check_laws.specs.AnswersShown.{answered_text}
use Rattle.check_fetched_laws.proofs.ChunkShown.{get_no_data, session_sends}
use Rattle.check_fetched_ends.specs.InSession.{is_chunk}
use Rattle.check_late_laws.specs.Fetching.{answer_by}
use Rattle.responder_machine.specs.Answer.{Free, answer_bytes, answer_of, answer_to, request_at}
use Rattle.responder_machine.specs.Handling.{chunk_in, effect_of, goes_large, handle_for, large_response, turn_by, turn_of}
use Rattle.responder_machine.specs.History.{Entry, History}
use Rattle.responder_machine.specs.History.Entry.{Sealed}
use Rattle.responder_machine.specs.LargeMessages.{given_of}
use Rattle.responder_machine.specs.Place.{Place, session_place}
use Rattle.responder_machine.specs.Records.{opened, reply_record}
use Rattle.responder_machine.specs.Refusal.{refusal}
use Rattle.responder_machine.specs.Responder.Outcome.{Adds}
use Rattle.responder_machine.specs.Responder.{data_turn, inner_refusal, inner_reply, on_clear, on_record, sent_by, session_turn, session_turn_by}
use Rattle.responder_machine.specs.Session.{Events, id_in_record, session_of, stage_of}
use Rattle.responder_machine.specs.Setup.{RspSetup}
use Rattle.responder_machine.specs.Turn.{Turn, answer_in, handle_in, takes}
use Rattle.secured_record.specs.Format.{plain_text}
use Rattle.spdm_grammar.specs.Message.{ChunkMessage, RequestMessage}
use Rattle.spdm_grammar.specs.Message.RequestMessage.{GetVersion, GetCapabilities, NegotiateAlgorithms, GetMeasurements, PskExchange, PskFinish, Heartbeat, KeyUpdate, EndSession, ChunkSend, ChunkGet}
use Rattle.spdm_grammar.specs.Responses.{canonical_response}
use Rattle.spdm_grammar.specs.declared.messages.error_code.ErrorCode.{ErrorCode}
use Rattle.spdm_grammar.specs.declared.names.request_code.TheConstants.{CHUNK_GET}
use Rattle.capture_machine.proofs.GetTells.{session_get}
use Rattle.capture_machine.proofs.RecordAdds.{record_added}
use Rattle.capture_machine.proofs.RepliesTell.{no_chunk}
use Rattle.capture_machine.proofs.SmallGets.{gets_are_small}
use Rattle.capture_machine.proofs.TurnsAlike.{chunk_is, is_request}
use Rattle.capture_machine.specs.CapturedAnswers.{MayLeadTo}
use Rattle.capture_machine.specs.LargeAnswers.{is_large, takes_get}
use Rattle.capture_machine.specs.Opening.{any_free, turn_in}
use Rattle.capture_machine.specs.Rounds.{no_draw}

-- ---- A turn that gives no chunk.

module _ (r : RspSetup) (s : Events) (m : List ℕ) (f : Free) where
  abbrev p : Place
  p = session_place s

  -- It is a chunk, or its reply is none.
  abbrev IsOther : Turn → Type 0
  IsOther t = takes CHUNK_GET t ≡ false → is_chunk t.reply ≡ false

  abbrev asked_turn : RequestMessage → (answer : List ℕ) → (large : Bool) → Turn
  asked_turn asked answer large = record {
    message = m;
    refused = None;
    chunk = None;
    effect = effect_of (Some asked) m answer (cond large (Some f.handle) None);
    reply = cond large (large_response f.handle) answer;
  }

  other_reply : (asked : RequestMessage) (answer : List ℕ) (large : Bool) → is_chunk answer ≡ false → IsOther (asked_turn asked answer large)
  other_reply asked answer true shown = λ none. refl
  other_reply asked answer false shown = λ none. shown

  asked_other : (asked : RequestMessage) → let answer = canonical_response (answer_of r p m f asked) in IsOther (asked_turn asked answer (goes_large p answer))
  asked_other (ChunkGet handle number) = λ none. absurd (false≢true (sym none))
  asked_other GetVersion = other_reply GetVersion (canonical_response (answer_of r p m f GetVersion)) (goes_large p (canonical_response (answer_of r p m f GetVersion))) refl
  asked_other (GetCapabilities caps) = other_reply (GetCapabilities caps) (canonical_response (answer_of r p m f (GetCapabilities caps))) (goes_large p (canonical_response (answer_of r p m f (GetCapabilities caps)))) refl
  asked_other (NegotiateAlgorithms offer) = other_reply (NegotiateAlgorithms offer) (canonical_response (answer_of r p m f (NegotiateAlgorithms offer))) (goes_large p (canonical_response (answer_of r p m f (NegotiateAlgorithms offer)))) refl
  asked_other (GetMeasurements op) = other_reply (GetMeasurements op) (canonical_response (answer_of r p m f (GetMeasurements op))) (goes_large p (canonical_response (answer_of r p m f (GetMeasurements op)))) refl
  asked_other (PskExchange x) = other_reply (PskExchange x) (canonical_response (answer_of r p m f (PskExchange x))) (goes_large p (canonical_response (answer_of r p m f (PskExchange x)))) refl
  asked_other (PskFinish verify) = other_reply (PskFinish verify) (canonical_response (answer_of r p m f (PskFinish verify))) (goes_large p (canonical_response (answer_of r p m f (PskFinish verify)))) refl
  asked_other Heartbeat = other_reply Heartbeat (canonical_response (answer_of r p m f Heartbeat)) (goes_large p (canonical_response (answer_of r p m f Heartbeat))) refl
  asked_other (KeyUpdate op tag) = other_reply (KeyUpdate op tag) (canonical_response (answer_of r p m f (KeyUpdate op tag))) (goes_large p (canonical_response (answer_of r p m f (KeyUpdate op tag)))) refl
  asked_other EndSession = other_reply EndSession (canonical_response (answer_of r p m f EndSession)) (goes_large p (canonical_response (answer_of r p m f EndSession))) refl
  asked_other (ChunkSend chunk) = other_reply (ChunkSend chunk) (canonical_response (answer_of r p m f (ChunkSend chunk))) (goes_large p (canonical_response (answer_of r p m f (ChunkSend chunk)))) refl

  by_parts : (o : Option ErrorCode) (c : Option ChunkMessage) → refusal r p m f ≡ o → chunk_in (request_at p m) ≡ c → IsOther (turn_by r p m f o c)
  unfolding answer_bytes
  by_parts (Some e) c is asks = λ none. refl
  by_parts None (Some c) is asks = absurd (no_chunk r s m f c (chunk_is (request_at p m) c asks) is)
  by_parts None None is asks =
      let one = is_request r p m f is in
      let turn : Option RequestMessage → Turn = λ q. record {
        message = m;
        refused = None;
        chunk = None;
        effect = effect_of q m (answer_to r p m f q) (handle_for p f (answer_to r p m f q));
        reply = cond (goes_large p (answer_to r p m f q)) (large_response f.handle) (answer_to r p m f q);
      } in
      subst (λ (q : Option RequestMessage). IsOther (turn q)) (sym one.1) (asked_other one.0)

  turn_other : IsOther (turn_of r p m f)
  unfolding turn_of
  turn_other = by_parts (refusal r p m f) (chunk_in (request_at p m)) refl refl

module _ (r : RspSetup) (s : Events) (inner : List ℕ) (f : Free) where
  abbrev HoldsOther : Turn → Type 0
  HoldsOther t = takes CHUNK_GET t ≡ false → (m : List ℕ) → inner_reply t ≡ 5 ∷ m → is_chunk m ≡ false

  held : (b : Bool) (reply m : List ℕ) → cond b 1 5 ∷ reply ≡ 5 ∷ m → reply ≡ m
  held b reply m is = ap (drop 1) is

  session_by : (x : Option ErrorCode) → HoldsOther (session_turn_by r s inner f x)
  session_by (Some e) = λ none m is. ap is_chunk (sym (ap (drop 1) is))
  session_by None = by_type (slice_index inner 0 == 5)
    where
      by_type : (b : Bool) → HoldsOther (cond b (turn_of r (session_place s) (drop 1 inner) f) (data_turn f (drop 1 inner)))
      by_type true = λ none m is. ap is_chunk (sym (ap (drop 1) is)) ∙ turn_other r s (drop 1 inner) f none
      by_type false = λ none m is. absurd (false≢true (ap (λ (l : List ℕ). slice_index l 0 == 5) is))

  session_other : HoldsOther (session_turn r s inner f)
  unfolding session_turn
  session_other = session_by (inner_refusal (stage_of s) inner)

-- ---- An entry.

-- What the text of an answer holds, which the session of the request seals with some padding.
pub record IsHeld (r : RspSetup) (h : History) (body : List ℕ) (e : Entry) : Type 0 where
  pub inner : List ℕ
  pub pad : List ℕ
  pub few : length pad ≤ 16
  pub text : let s = session_of (id_in_record (drop 1 body)) h in answered_text r s (turn_in r s (drop 1 body)) (drop 1 (sent_by e)) ≡ plain_text inner pad
  pub gives : takes_get e ≡ true → inner ≡ 5 ∷ answer_by e
  pub other : takes_get e ≡ false → (m : List ℕ) → inner ≡ 5 ∷ m → is_chunk m ≡ false

pub held_in : (r : RspSetup) (h : History) (tag : ℕ) (body : List ℕ) (e : Entry) → (slice_index body 0 == 5) ≡ false → MayLeadTo r h tag body (Adds e) → IsHeld r h body e
unfolding MayLeadTo
held_in r h tag body e type may =
    let sealed : List ℕ = drop 1 body in
    let s : Events = session_of (id_in_record sealed) h in
    let f : Free = may.0 in
    let inner : List ℕ = opened r.psk s sealed in
    let t : Turn = session_turn r s inner f in
    let leads : on_record r h tag sealed f no_draw ≡ Adds e = sym (ap (λ (b : Bool). cond b (on_clear r h tag sealed f no_draw) (on_record r h tag sealed f no_draw)) type) ∙ may.3 in
    let same : Sealed tag sealed t (reply_record r.psk s t (inner_reply t) f.pad) no_draw ≡ e = record_added r f tag sealed e h leads in
    record {
      inner = inner_reply t;
      pad = f.pad;
      few = may.1.pad;
      text = ap (λ (x : Entry). answered_text r s (turn_in r s sealed) (drop 1 (sent_by x))) (sym same) ∙ text_is r s t (turn_in r s sealed) (inner_reply t) f.pad (updates_alike r s inner any_free f);
      gives = λ gets.
          let takes_it : takes CHUNK_GET t ≡ true = ap takes_get same ∙ gets in
          let get = session_get r s inner f takes_it in
          let small : is_some (handle_in t.effect) ≡ false = ap is_large same ∙ gets_are_small r h tag body e may gets in
          let sends : t.reply ≡ answer_in t.effect = session_sends r s inner f get.handle (given_of (session_place s).turns) get.asked takes_it small in
          ap (λ (b : Bool). cond b 1 5 ∷ t.reply) (get_no_data t.effect takes_it) ∙ ap (λ (l : List ℕ). 5 ∷ l) (sends ∙ ap answer_by same);
      other = λ none m is. session_other r s inner f (ap takes_get same ∙ none) m is;
    }
