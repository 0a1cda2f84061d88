-- Where an answer carries PSK_EXCHANGE_RSP, and what it shows whatever its verify data are.
use Rattle.std.proofs.Common.{◌≡◌, ◌<◌, ◌≤◌, ◌-◌, ◌==◌, ◌&&◌, ◌||◌, ℕ, List, [], ◌∷◌, ◌++◌, refl, sym, ap, ◌∙◌, subst, length, drop, take, Bool, true, false, Option, Some, None, is_some, cond, arith, length-append, length-drop}
use Rattle.std.specs.Prelude.{bytes_eq, if◌then◌else◌, not, slice_index}
use Rattle.std.proofs.Math.Seq.{take-append_seam}
use Rattle.std.proofs.lemmas.Bool.{eqb-true, false≢true}
use Rattle.std.proofs.lemmas.List.{take-append-drop}
use Rattle.std.proofs.lemmas.Slice.Eq.{bytes_eq-Decides}
use Rattle.chunking.specs.Collecting.{joined_with, under_way}
use Rattle.byteorder.specs.Endian.{little_bytes}
use Rattle.key_schedule.specs.declared.direction.Direction.TheVariants as direction
use Rattle.responder_machine.proofs.VerifyLength.{length_verify}
use Rattle.responder_machine.specs.Answer.{Free, answer_bytes, answer_of, answer_to, exchange_answer, exchange_rsp, request_at, summary_answer, t1_with}
use Rattle.responder_machine.specs.Handling.{acknowledged, carried_turn, chunk_in, effect_of, goes_large, large_response, last_chunk_turn, request_effect, request_reply, taken_chunk, turn_by, turn_of}
use Rattle.responder_machine.specs.History.{History}
use Rattle.responder_machine.specs.LargeMessages.{chunks_of}
use Rattle.responder_machine.specs.May.{IsAllowed}
use Rattle.responder_machine.specs.Place.{Place, inside, place_terms}
use Rattle.responder_machine.specs.Refusal.{refusal}
use Rattle.responder_machine.specs.Setup.{RspSetup}
use Rattle.responder_machine.specs.Turn.Effect.{NoEffect, Took}
use Rattle.responder_machine.specs.Turn.{Effect, Turn, code_in, handle_in}
use Rattle.spdm_basis.proofs.Bools.{and_first, and_second}
use Rattle.spdm_grammar.specs.Message.{ChunkMessage, ExchangeMessage, RequestMessage}
use Rattle.spdm_grammar.specs.Message.RequestMessage.{GetVersion, GetCapabilities, NegotiateAlgorithms, GetMeasurements, PskExchange, PskFinish, Heartbeat, KeyUpdate, EndSession, ChunkSend, ChunkGet}
use Rattle.spdm_grammar.specs.Fields.{zeros}
use Rattle.spdm_grammar.specs.Responses.{canonical_response, response_in}
use Rattle.spdm_grammar.specs.declared.messages.error_code.ErrorCode.{ErrorCode}
use Rattle.spdm_grammar.specs.declared.names.TheConstants.{MAX_MESSAGE_SIZE}
use Rattle.spdm_grammar.specs.declared.names.request_code.TheConstants.{PSK_EXCHANGE}
use Rattle.spdm_grammar.specs.declared.names.response_code.TheConstants.{CHUNK_SEND_ACK, PSK_EXCHANGE_RSP}
use Rattle.spdm_grammar.specs.declared.names.spdm_version.TheConstants.{V1_2}
use Rattle.spdm_machine.specs.Bodies.{clear_body}
use Rattle.spdm_machine.specs.Keys.{verify_data}
use Rattle.spdm_machine.specs.Terms.{hash_len}
use Rattle.check_laws.proofs.AnswerLengths.{exchange_rsp_read}
use Rattle.check_laws.proofs.TurnShown.{inside_allowed}
use Rattle.check_laws.specs.AnswersShown.{asks_summary, values_in, values_in_reply, with_fields}
use Rattle.check_laws.specs.DropsShown.{id_begun, response_of}
use Rattle.capture_machine.proofs.TurnsAlike.{is_request}
use Rattle.capture_machine.specs.CapturedAnswers.{answer_at}
use Rattle.capture_machine.specs.Difference.{carries_exchange, is_apart}

-- ---- What has other verify data.

-- Bytes that differ from these in their last ones alone, as many as those of the end, have the same front.
pub apart_is : (front verify other : List ℕ) (size : ℕ) → length verify ≡ size → is_apart size (front ++ verify) other ≡ true → (rest : List ℕ) × (other ≡ front ++ rest) × (length rest ≡ size)
apart_is front verify other size long apart =
    let whole : List ℕ = front ++ verify in
    let same : length whole ≡ length other = eqb-true _ _ (and_first _ _ (and_first _ _ apart)) in
    let cut : take (length whole - size) whole ≡ take (length other - size) other = (bytes_eq-Decides (take (length whole - size) whole) (take (length other - size) other)).0 (and_second (length whole == length other && not (bytes_eq whole other)) _ apart) in
    let seam : length whole - size ≡ length front = omega (arith, length-append front verify, long) in
    let rest : List ℕ = drop (length other - size) other in
    let first : take (length whole - size) whole ≡ front = ap (λ (n : ℕ). take n whole) seam ∙ take-append_seam front verify in (
      rest,
      sym (take-append-drop (length other - size) other) ∙ ap (λ (l : List ℕ). l ++ rest) (sym cut ∙ first),
      omega (arith, length-drop (length other - size) other, length-append front verify, long, same),
    )

-- ---- One message.

-- What took effect is PSK_EXCHANGE, whose answer goes whole.
abbrev pub IsExchange : Effect → Type 0
IsExchange effect = (is_some (handle_in effect) ≡ false) × (code_in effect ≡ PSK_EXCHANGE)

-- It is PSK_EXCHANGE, not refused.
abbrev pub Exchanges : RspSetup → Place → List ℕ → Free → ExchangeMessage → Type 0
Exchanges r p m f x = (request_at p m ≡ Some (PskExchange x)) × (refusal r p m f ≡ None) × (request_reply r p m f ≡ canonical_response (exchange_answer r p m f x))

module _ (r : RspSetup) (p : Place) (m : List ℕ) (f : Free) where
  exchange_asked : (asked : RequestMessage) → (slice_index (canonical_response (answer_of r p m f asked)) 1 == PSK_EXCHANGE_RSP) ≡ true → (x : ExchangeMessage) × (asked ≡ PskExchange x)
  exchange_asked (PskExchange x) is = (x, refl)
  exchange_asked GetVersion is = absurd (false≢true is)
  exchange_asked (GetCapabilities caps) is = absurd (false≢true is)
  exchange_asked (NegotiateAlgorithms offer) is = absurd (false≢true is)
  exchange_asked (GetMeasurements op) is = absurd (false≢true is)
  exchange_asked (PskFinish verify) is = absurd (false≢true is)
  exchange_asked Heartbeat is = absurd (false≢true is)
  exchange_asked (KeyUpdate op tag) is = absurd (false≢true is)
  exchange_asked EndSession is = absurd (false≢true is)
  exchange_asked (ChunkSend chunk) is = absurd (false≢true is)
  exchange_asked (ChunkGet handle number) is = absurd (false≢true is)

  pub reply_carries : refusal r p m f ≡ None → (slice_index (request_reply r p m f) 1 == PSK_EXCHANGE_RSP) ≡ true → ((x : ExchangeMessage) × Exchanges r p m f x) × IsExchange (request_effect r p m f)
  unfolding answer_bytes
  reply_carries none is = by_size (goes_large p (answer_bytes r p m f)) refl
    where
      asked : RequestMessage
      asked = (is_request r p m f none).0

      here : request_at p m ≡ Some asked
      here = (is_request r p m f none).1

      bytes : answer_bytes r p m f ≡ canonical_response (answer_of r p m f asked)
      bytes = ap (answer_to r p m f) here

      whole : goes_large p (answer_bytes r p m f) ≡ false → ((x : ExchangeMessage) × Exchanges r p m f x) × IsExchange (request_effect r p m f)
      whole fits =
          let reply : request_reply r p m f ≡ canonical_response (answer_of r p m f asked) = ap (λ (b : Bool). cond b (large_response f.handle) (answer_bytes r p m f)) fits ∙ bytes in
          let known = exchange_asked asked (ap (λ (l : List ℕ). slice_index l 1 == PSK_EXCHANGE_RSP) (sym reply) ∙ is) in
          let effect : request_effect r p m f ≡ Took (PskExchange known.0) m (answer_bytes r p m f) None =
          ap (λ (b : Bool). effect_of (request_at p m) m (answer_bytes r p m f) (cond b (Some f.handle) None)) fits ∙ ap (λ (o : Option RequestMessage). effect_of o m (answer_bytes r p m f) None) (here ∙ ap Some known.1) in (
            (known.0, (here ∙ ap Some known.1, none, reply ∙ ap (λ (a : RequestMessage). canonical_response (answer_of r p m f a)) known.1)),
            (ap (λ (e : Effect). is_some (handle_in e)) effect, ap code_in effect),
          )

      by_size : (b : Bool) → goes_large p (answer_bytes r p m f) ≡ b → ((x : ExchangeMessage) × Exchanges r p m f x) × IsExchange (request_effect r p m f)
      by_size false fits = whole fits
      by_size true large = absurd (false≢true (sym (ap (λ (b : Bool). slice_index (cond b (large_response f.handle) (answer_bytes r p m f)) 1 == PSK_EXCHANGE_RSP) large) ∙ is))

-- ---- A turn.

-- PSK_EXCHANGE came whole, or in chunks, of which the last one is answered.
pub data Carries (r : RspSetup) (p : Place) (m : List ℕ) (f : Free) (reply : List ℕ) (c : Option ChunkMessage) : Type 0 where
  Plainly : (x : ExchangeMessage) → c ≡ None → Exchanges r p m f x → reply ≡ canonical_response (exchange_answer r p m f x) → Carries r p m f reply c
  InAck : (chunk : ChunkMessage) → (x : ExchangeMessage) → c ≡ Some chunk → chunk.last ≡ true → Exchanges r (inside p) (joined_with (under_way (chunks_of p.turns)) chunk) f x
      → reply ≡ acknowledged chunk (canonical_response (exchange_answer r (inside p) (joined_with (under_way (chunks_of p.turns)) chunk) f x)) → Carries r p m f reply c

abbrev pub CarriesIn : RspSetup → Place → List ℕ → Free → Turn → Option ChunkMessage → Type 0
CarriesIn r p m f t c = Carries r p m f t.reply c × IsExchange t.effect

module _ (r : RspSetup) (p : Place) (m : List ℕ) (f : Free) where
  not_acked : (asked : RequestMessage) → let answer = canonical_response (answer_of r p m f asked) in (slice_index answer 1 == CHUNK_SEND_ACK && slice_index answer 7 == PSK_EXCHANGE_RSP) ≡ false
  not_acked GetVersion = refl
  not_acked (GetCapabilities caps) = refl
  not_acked (NegotiateAlgorithms offer) = refl
  not_acked (GetMeasurements op) = refl
  not_acked (PskExchange x) = refl
  not_acked (PskFinish verify) = refl
  not_acked Heartbeat = refl
  not_acked (KeyUpdate op tag) = refl
  not_acked EndSession = refl
  not_acked (ChunkSend chunk) = refl
  not_acked (ChunkGet handle number) = refl

  reply_not_acked : refusal r p m f ≡ None → (slice_index (request_reply r p m f) 1 == CHUNK_SEND_ACK && slice_index (request_reply r p m f) 7 == PSK_EXCHANGE_RSP) ≡ false
  unfolding answer_bytes
  reply_not_acked none =
      let one = is_request r p m f none in
      let bytes : answer_bytes r p m f ≡ canonical_response (answer_of r p m f one.0) = ap (answer_to r p m f) one.1 in
      either (goes_large p (answer_bytes r p m f)) (answer_bytes r p m f) (ap (λ (l : List ℕ). slice_index l 1 == CHUNK_SEND_ACK && slice_index l 7 == PSK_EXCHANGE_RSP) bytes ∙ not_acked one.0)
    where
      either : (b : Bool) (answer : List ℕ) → (slice_index answer 1 == CHUNK_SEND_ACK && slice_index answer 7 == PSK_EXCHANGE_RSP) ≡ false
          → (slice_index (cond b (large_response f.handle) answer) 1 == CHUNK_SEND_ACK && slice_index (cond b (large_response f.handle) answer) 7 == PSK_EXCHANGE_RSP) ≡ false
      either true answer not = refl
      either false answer not = not

  plain_carries : refusal r p m f ≡ None → carries_exchange (clear_body (request_reply r p m f)) ≡ true → CarriesIn r p m f (turn_by r p m f None None) None
  plain_carries none is =
      let reply : List ℕ = request_reply r p m f in
      let only : (slice_index reply 1 == PSK_EXCHANGE_RSP) ≡ true = without_or _ _ (reply_not_acked none) is in
      let known = reply_carries r p m f none only in
      (Plainly known.0.0 refl known.0.1 known.0.1.2, known.1)
    where
      without_or : (a b : Bool) → b ≡ false → (a || b) ≡ true → a ≡ true
      without_or true b not all = refl
      without_or false b not all = absurd (false≢true (sym not ∙ all))

  module _ (c : ChunkMessage) where
    abbrev whole : List ℕ
    whole = joined_with (under_way (chunks_of p.turns)) c

    carried_carries : (o : Option ErrorCode) → c.last ≡ true → refusal r (inside p) whole f ≡ o → carries_exchange (clear_body (carried_turn r (inside p) m f c whole o).reply) ≡ true → CarriesIn r p m f (carried_turn r (inside p) m f c whole o) (Some c)
    carried_carries (Some e) last none is = absurd (false≢true is)
    carried_carries None last none is =
        let known = reply_carries r (inside p) whole f none is in
        (InAck c known.0.0 refl last known.0.1 (ap (acknowledged c) known.0.1.2), known.1)

    chunk_carries : (b : Bool) → c.last ≡ b → let t = cond b (last_chunk_turn r (inside p) m f c whole) (taken_chunk m c NoEffect []) in carries_exchange (clear_body t.reply) ≡ true → CarriesIn r p m f t (Some c)
    chunk_carries true last is = carried_carries (refusal r (inside p) whole f) last refl is
    chunk_carries false more is = absurd (false≢true is)

  by_carries : (o : Option ErrorCode) (c : Option ChunkMessage) → refusal r p m f ≡ o → carries_exchange (clear_body (turn_by r p m f o c).reply) ≡ true → CarriesIn r p m f (turn_by r p m f o c) c
  by_carries (Some e) c none is = absurd (false≢true is)
  by_carries None None none is = plain_carries none is
  by_carries None (Some c) none is = chunk_carries c c.last refl is

  -- A turn whose reply carries it.
  pub turn_carries : carries_exchange (clear_body (turn_of r p m f).reply) ≡ true → CarriesIn r p m f (turn_of r p m f) (chunk_in (request_at p m))
  unfolding turn_of
  turn_carries is = by_carries (refusal r p m f) (chunk_in (request_at p m)) refl is

-- ---- With other verify data.

-- PSK_EXCHANGE_RSP before its verify data.
abbrev front : RspSetup → Place → Free → ExchangeMessage → List ℕ
front r p f x =
    (V1_2 ∷ PSK_EXCHANGE_RSP ∷ (if (place_terms p).common.heartbeat then r.beat else 0) ∷ 0 ∷ []) ++ little_bytes 2 f.id ++ zeros 2
    ++ little_bytes 2 (length f.context) ++ little_bytes 2 (length f.exchange_opaque)
    ++ summary_answer r p x.summary ++ f.context ++ f.exchange_opaque

front_is : (r : RspSetup) (p : Place) (f : Free) (x : ExchangeMessage) (verify : List ℕ) → canonical_response (exchange_rsp r p f x verify) ≡ front r p f x ++ verify
front_is r p f x verify = refl

-- It shows the values whatever its verify data are.
front_shows : (r : RspSetup) (h : History) (p : Place) (m : List ℕ) (f k : Free) (x : ExchangeMessage) (verify : List ℕ) → r.beat < 256 → IsAllowed h p f → request_at p m ≡ Some (PskExchange x) → length verify ≡ hash_len (place_terms p)
    → length (front r p f x ++ verify) ≤ MAX_MESSAGE_SIZE → values_in r p m k (front r p f x ++ verify) ≡ record k { id = f.id; context = f.context; exchange_opaque = f.exchange_opaque }
front_shows r h p m f k x verify byte fits is long short =
    ap (λ (o : Option RequestMessage). with_fields k o (response_in (hash_len (place_terms p)) (asks_summary o) (front r p f x ++ verify))) is
    ∙ ap (with_fields k (Some (PskExchange x))) (exchange_rsp_read r h p f x verify byte fits long short)

-- Another reply that shows the same as this one.
pub record ShowsSame (r : RspSetup) (p : Place) (m : List ℕ) (reply answer : List ℕ) (c : Option ChunkMessage) : Type 0 where
  pub other : List ℕ
  pub is : answer ≡ clear_body other
  pub values : (k : Free) → values_in_reply r p m k other c ≡ values_in_reply r p m k reply c
  pub id : id_begun (response_of other) ≡ id_begun (response_of reply)

module _ (r : RspSetup) (h : History) (p : Place) (m : List ℕ) (f : Free) (byte : r.beat < 256) (fits : IsAllowed h p f) where
  -- The right verify data.
  abbrev verify_of : (q : Place) (text : List ℕ) (x : ExchangeMessage) → List ℕ
  verify_of q text x = verify_data (place_terms q).choice r.psk (t1_with r q text f x) direction.Response (t1_with r q text f x)

  verify_long : (q : Place) (text : List ℕ) (x : ExchangeMessage) → length (verify_of q text x) ≡ hash_len (place_terms q)
  verify_long q text x = length_verify (place_terms q).choice r.psk (t1_with r q text f x) direction.Response (t1_with r q text f x)

  -- The answer is as long with other verify data.
  same_length : (q : Place) (x : ExchangeMessage) (v w : List ℕ) → length v ≡ length w → length (front r q f x ++ v) ≤ MAX_MESSAGE_SIZE → length (front r q f x ++ w) ≤ MAX_MESSAGE_SIZE
  same_length q x v w same short = (let a = length-append (front r q f x) v in let b = length-append (front r q f x) w in omega (arith, a, b, same, short))

  exchange_bytes : (q : Place) (text : List ℕ) (x : ExchangeMessage) → Exchanges r q text f x → answer_bytes r q text f ≡ canonical_response (exchange_answer r q text f x)
  unfolding answer_bytes
  exchange_bytes q text x gives = ap (answer_to r q text f) gives.0

  plain_shows : (x : ExchangeMessage) (answer : List ℕ) → Exchanges r p m f x → length (answer_bytes r p m f) ≤ MAX_MESSAGE_SIZE → is_apart (hash_len (place_terms p)) (clear_body (canonical_response (exchange_answer r p m f x))) answer ≡ true
      → ShowsSame r p m (canonical_response (exchange_answer r p m f x)) answer None
  plain_shows x answer gives short apart =
      let v : List ℕ = verify_of p m x in
      let long = verify_long p m x in
      let w = apart_is (5 ∷ front r p f x) v answer (hash_len (place_terms p)) long apart in
      let brief : length (front r p f x ++ v) ≤ MAX_MESSAGE_SIZE = subst (λ (l : List ℕ). length l ≤ MAX_MESSAGE_SIZE) (exchange_bytes p m x gives) short in
      record {
        other = front r p f x ++ w.0;
        is = w.1;
        values = λ k. front_shows r h p m f k x w.0 byte fits gives.0 w.2 (same_length p x v w.0 (long ∙ sym w.2) brief) ∙ sym (front_shows r h p m f k x v byte fits gives.0 long brief);
        id = refl;
      }

  ack_shows : (chunk : ChunkMessage) (x : ExchangeMessage) (answer : List ℕ) → let q = inside p in let text = joined_with (under_way (chunks_of p.turns)) chunk in
      Exchanges r q text f x → length (answer_bytes r q text f) ≤ MAX_MESSAGE_SIZE → is_apart (hash_len (place_terms p)) (clear_body (acknowledged chunk (canonical_response (exchange_answer r q text f x)))) answer ≡ true
      → ShowsSame r p m (acknowledged chunk (canonical_response (exchange_answer r q text f x))) answer (Some chunk)
  ack_shows chunk x answer gives short apart =
      let q : Place = inside p in
      let text : List ℕ = joined_with (under_way (chunks_of p.turns)) chunk in
      let v : List ℕ = verify_of q text x in
      let long = verify_long q text x in
      let w = apart_is (5 ∷ acknowledged chunk (front r q f x)) v answer (hash_len (place_terms p)) long apart in
      let brief : length (front r q f x ++ v) ≤ MAX_MESSAGE_SIZE = subst (λ (l : List ℕ). length l ≤ MAX_MESSAGE_SIZE) (exchange_bytes q text x gives) short in
      let may : IsAllowed h q f = inside_allowed h p f fits in
      let value : (k : Free) → values_in r q text k (front r q f x ++ w.0) ≡ values_in r q text k (front r q f x ++ v) =
      λ k. front_shows r h q text f k x w.0 byte may gives.0 w.2 (same_length q x v w.0 (long ∙ sym w.2) brief) ∙ sym (front_shows r h q text f k x v byte may gives.0 long brief) in
      record {
        other = acknowledged chunk (front r q f x ++ w.0);
        is = w.1;
        values = λ k. ap (λ (u : Free). cond (chunk.last && true) u k) (value k);
        id = refl;
      }

  -- An answer from which only verify data differ shows the same.
  pub carried_shows : (reply answer : List ℕ) (c : Option ChunkMessage) → Carries r p m f reply c → length (answer_at r p m f c) ≤ MAX_MESSAGE_SIZE → is_apart (hash_len (place_terms p)) (clear_body reply) answer ≡ true → ShowsSame r p m reply answer c
  carried_shows reply answer c (Plainly x none gives same) short apart =
      let P : List ℕ → Option ChunkMessage → Type 0 = λ l o. ShowsSame r p m l answer o in
      subst (λ (o : Option ChunkMessage). P reply o) (sym none) (subst (λ (l : List ℕ). P l None) (sym same)
      (plain_shows x answer gives (subst (λ (o : Option ChunkMessage). length (answer_at r p m f o) ≤ MAX_MESSAGE_SIZE) none short) (ap (λ (l : List ℕ). is_apart (hash_len (place_terms p)) (clear_body l) answer) (sym same) ∙ apart)))
  carried_shows reply answer c (InAck chunk x some last gives same) short apart =
      let P : List ℕ → Option ChunkMessage → Type 0 = λ l o. ShowsSame r p m l answer o in
      subst (λ (o : Option ChunkMessage). P reply o) (sym some) (subst (λ (l : List ℕ). P l (Some chunk)) (sym same)
      (ack_shows chunk x answer gives (subst (λ (o : Option ChunkMessage). length (answer_at r p m f o) ≤ MAX_MESSAGE_SIZE) some short) (ap (λ (l : List ℕ). is_apart (hash_len (place_terms p)) (clear_body l) answer) (sym same) ∙ apart)))
