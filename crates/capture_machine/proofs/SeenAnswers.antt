-- No request leads to an entry that stands for an answer that was not seen: each answer has bytes.
use Rattle.std.proofs.Common.{◌≡◌, ◌==◌, ℕ, List, [], refl, sym, ap, ◌∙◌, subst, drop, Bool, true, false, Option, Some, None, cond, inl, inr}
use Rattle.std.specs.Prelude.{slice_index}
use Rattle.std.proofs.lemmas.Bool.{false≢true}
use Rattle.chunking.specs.Collecting.{under_way, joined_with}
use Rattle.spdm_grammar.specs.Message.{RequestMessage, ResponseMessage, ChunkMessage}
use Rattle.spdm_grammar.specs.Message.ResponseMessage.{Version, Capabilities, Algorithms, Measurements, PskExchangeRsp, PskFinishRsp, HeartbeatAck, KeyUpdateAck, EndSessionAck, ChunkSendAck, ChunkResponse, Error}
use Rattle.spdm_grammar.specs.Responses.{canonical_response}
use Rattle.spdm_grammar.specs.declared.messages.error_code.ErrorCode.{ErrorCode}
use Rattle.responder_machine.specs.Answer.{Free, answer_bytes, answer_of, answer_to, request_at}
use Rattle.responder_machine.specs.Handling.{turn_of, turn_by, chunk_in, carried_turn, last_chunk_turn, taken_chunk, effect_of, handle_for}
use Rattle.responder_machine.specs.History.{History, Entry}
use Rattle.responder_machine.specs.History.Entry.{Clear}
use Rattle.responder_machine.specs.LargeMessages.{chunks_of}
use Rattle.responder_machine.specs.Place.{Place, clear_place, session_place, inside}
use Rattle.responder_machine.specs.Records.{opened}
use Rattle.responder_machine.specs.Refusal.{refusal}
use Rattle.responder_machine.specs.Responder.{session_turn, session_turn_by, inner_refusal, data_turn}
use Rattle.responder_machine.specs.Responder.Outcome.{Adds}
use Rattle.responder_machine.specs.Session.{Events, stage_of, session_of, id_in_record}
use Rattle.responder_machine.specs.Setup.{RspSetup}
use Rattle.responder_machine.specs.Turn.{Turn}
use Rattle.responder_machine.specs.Turn.Effect.{NoEffect, Took}
use Rattle.capture_machine.specs.CapturedAnswers.{MayLeadTo}
use Rattle.capture_machine.specs.LargeAnswers.{is_unseen, is_unseen_effect}
use Rattle.capture_machine.specs.Rounds.{no_draw}
use Rattle.capture_machine.proofs.DropsTell.{clear_form}
use Rattle.capture_machine.proofs.GetTells.{turn_idle}
use Rattle.capture_machine.proofs.UnseenStands.{StandsUnseen}
use Rattle.capture_machine.proofs.PlainTells.{ClearLed, led_clear, led_record}
use Rattle.capture_machine.proofs.RecordAdds.{record_added}

-- A response has bytes.
seen_by : (q : RequestMessage) (m : List ℕ) (large : Option ℕ) (a : ResponseMessage) → is_unseen_effect (Took q m (canonical_response a) large) ≡ false
seen_by q m large (Version entries) = refl
seen_by q m large (Capabilities caps) = refl
seen_by q m large (Algorithms reply) = refl
seen_by q m large (Measurements measured) = refl
seen_by q m large (PskExchangeRsp exchange) = refl
seen_by q m large PskFinishRsp = refl
seen_by q m large HeartbeatAck = refl
seen_by q m large (KeyUpdateAck op tag) = refl
seen_by q m large EndSessionAck = refl
seen_by q m large (ChunkSendAck early handle number answer) = refl
seen_by q m large (ChunkResponse chunk) = refl
seen_by q m large (Error version code detail extended) = refl

module _ (r : RspSetup) (f : Free) where
  asked_seen : (p : Place) (m : List ℕ) (q : Option RequestMessage) (large : Option ℕ) → is_unseen_effect (effect_of q m (answer_to r p m f q) large) ≡ false
  asked_seen p m None large = refl
  asked_seen p m (Some q) large = seen_by q m large (answer_of r p m f q)

  effect_seen : (p : Place) (m : List ℕ) (large : Option ℕ) → is_unseen_effect (effect_of (request_at p m) m (answer_bytes r p m f) large) ≡ false
  unfolding answer_bytes
  effect_seen p m large = asked_seen p m (request_at p m) large

  last_seen : (p : Place) (m : List ℕ) (c : ChunkMessage) (text : List ℕ) (x : Option ErrorCode) → is_unseen_effect (carried_turn r p m f c text x).effect ≡ false
  last_seen p m c text (Some e) = refl
  last_seen p m c text None = effect_seen p text (handle_for p f (answer_bytes r p text f))

  chunk_seen : (p : Place) (m : List ℕ) (c : ChunkMessage) (b : Bool) (text : List ℕ) → is_unseen_effect (cond b (last_chunk_turn r p m f c text) (taken_chunk m c NoEffect [])).effect ≡ false
  chunk_seen p m c true text = last_seen p m c text (refusal r p text f)
  chunk_seen p m c false text = refl

  turn_seen : (p : Place) (m : List ℕ) (x : Option ErrorCode) (c : Option ChunkMessage) → is_unseen_effect (turn_by r p m f x c).effect ≡ false
  turn_seen p m (Some e) c = refl
  turn_seen p m None None = effect_seen p m (handle_for p f (answer_bytes r p m f))
  turn_seen p m None (Some c) = chunk_seen (inside p) m c c.last (joined_with (under_way (chunks_of p.turns)) c)

  pub turn_of_seen : (p : Place) (m : List ℕ) → is_unseen_effect (turn_of r p m f).effect ≡ false
  unfolding turn_of
  turn_of_seen p m = turn_seen p m (refusal r p m f) (chunk_in (request_at p m))

  session_seen_by : (s : Events) (inner : List ℕ) (x : Option ErrorCode) → is_unseen_effect (session_turn_by r s inner f x).effect ≡ false
  session_seen_by s inner (Some e) = refl
  session_seen_by s inner None = by_type (slice_index inner 0 == 5)
    where
      by_type : (b : Bool) → is_unseen_effect (cond b (turn_of r (session_place s) (drop 1 inner) f) (data_turn f (drop 1 inner))).effect ≡ false
      by_type true = turn_of_seen (session_place s) (drop 1 inner)
      by_type false = refl

  pub session_seen : (s : Events) (inner : List ℕ) → is_unseen_effect (session_turn r s inner f).effect ≡ false
  unfolding session_turn
  session_seen s inner = session_seen_by s inner (inner_refusal (stage_of s) inner)

-- What a request leads to was seen.
pub led_seen : (r : RspSetup) (h : History) (tag : ℕ) (body : List ℕ) (e : Entry) → MayLeadTo r h tag body (Adds e) → is_unseen e ≡ false
led_seen r h tag body e may = by_type (slice_index body 0 == 5) refl
  where
    clear : (led : ClearLed r h tag body (Adds e)) → is_unseen e ≡ false
    clear led = elim (clear_form r h tag (drop 1 body) led.free (Adds e) led.leads) [
      | inl same ↦ absurd (let x = same.1 in cc)
      | inr adds ↦
          let same : Clear tag (turn_of r (clear_place h) (drop 1 body) led.free) no_draw ≡ e = cc (sym adds) in
          ap is_unseen (sym same) ∙ turn_of_seen r led.free (clear_place h) (drop 1 body)
    ]

    by_type : (b : Bool) → (slice_index body 0 == 5) ≡ b → is_unseen e ≡ false
    by_type true is = clear (led_clear r h tag body (Adds e) is may)
    by_type false is =
        let led = led_record r h tag body (Adds e) is may in
        let s : Events = session_of (id_in_record (drop 1 body)) h in
        let same = record_added r led.free tag (drop 1 body) e h led.leads in
        ap is_unseen (sym same) ∙ session_seen r led.free s (opened r.psk s (drop 1 body))

-- And it stands as each entry of a walk.
pub led_stands : (r : RspSetup) (h : History) (tag : ℕ) (body : List ℕ) (e : Entry) → MayLeadTo r h tag body (Adds e) → StandsUnseen e
led_stands r h tag body e may = by_type (slice_index body 0 == 5) refl
  where
    clear : (led : ClearLed r h tag body (Adds e)) → StandsUnseen e
    clear led = elim (clear_form r h tag (drop 1 body) led.free (Adds e) led.leads) [
      | inl same ↦ absurd (let x = same.1 in cc)
      | inr adds ↦
          let t : Turn = turn_of r (clear_place h) (drop 1 body) led.free in
          let same : Clear tag t no_draw ≡ e = cc (sym adds) in
          subst StandsUnseen same (turn_idle r (clear_place h) (drop 1 body) led.free, λ un. absurd (false≢true (sym (turn_of_seen r led.free (clear_place h) (drop 1 body)) ∙ un)))
    ]

    by_type : (b : Bool) → (slice_index body 0 == 5) ≡ b → StandsUnseen e
    by_type true is = clear (led_clear r h tag body (Adds e) is may)
    by_type false is =
        let led = led_record r h tag body (Adds e) is may in
        let s : Events = session_of (id_in_record (drop 1 body)) h in
        let same = record_added r led.free tag (drop 1 body) e h led.leads in
        subst StandsUnseen same (λ un. absurd (false≢true (sym (session_seen r led.free s (opened r.psk s (drop 1 body))) ∙ un)))
