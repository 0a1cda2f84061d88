-- A turn in the clear whose large response is PSK_EXCHANGE_RSP, and what bytes show that differ from it in the verify
-- data alone.
use Rattle.std.proofs.Common.{◌≡◌, ◌<◌, ◌≤◌, ◌==◌, ℕ, List, [], ◌∷◌, ◌++◌, refl, sym, ap, ◌∙◌, subst, length, Bool, true, false, Option, Some, None, cond, if◌then◌else◌, arith, length-append}
use Rattle.std.specs.Prelude.{slice_index}
use Rattle.std.proofs.lemmas.Bool.{false≢true}
use Rattle.byteorder.specs.Endian.{little_bytes}
use Rattle.chunking.specs.Collecting.{joined_with, under_way}
use Rattle.key_schedule.specs.declared.direction.Direction.TheVariants as direction
use Rattle.spdm_grammar.specs.Fields.{zeros}
use Rattle.spdm_grammar.specs.Message.{ChunkMessage, ExchangeMessage, RequestMessage}
use Rattle.spdm_grammar.specs.Message.RequestMessage.{GetVersion, GetCapabilities, NegotiateAlgorithms, GetMeasurements, PskExchange, PskFinish, Heartbeat, KeyUpdate, EndSession, ChunkSend, ChunkGet}
use Rattle.spdm_grammar.specs.Responses.{canonical_response, response_in}
use Rattle.spdm_grammar.specs.declared.messages.error_code.ErrorCode.{ErrorCode}
use Rattle.spdm_grammar.specs.declared.names.TheConstants.{MAX_MESSAGE_SIZE}
use Rattle.spdm_grammar.specs.declared.names.request_code.TheConstants.{PSK_EXCHANGE}
use Rattle.spdm_grammar.specs.declared.names.response_code.TheConstants.{PSK_EXCHANGE_RSP}
use Rattle.spdm_grammar.specs.declared.names.spdm_version.TheConstants.{V1_2}
use Rattle.spdm_machine.specs.Keys.{verify_data}
use Rattle.spdm_machine.specs.Sessions.{id_in_exchange}
use Rattle.spdm_machine.specs.Terms.{hash_len}
use Rattle.responder_machine.specs.Answer.{Free, answer_bytes, answer_of, answer_to, exchange_answer, request_at, summary_answer, t1_with}
use Rattle.responder_machine.specs.Handling.{carried_turn, chunk_in, effect_of, handle_for, last_chunk_turn, taken_chunk, turn_by, turn_of}
use Rattle.responder_machine.specs.History.{History}
use Rattle.responder_machine.specs.LargeMessages.{chunks_of}
use Rattle.responder_machine.specs.May.{IsAllowed}
use Rattle.responder_machine.specs.Place.{Place, inside, place_terms}
use Rattle.responder_machine.specs.Refusal.{refusal}
use Rattle.responder_machine.specs.Setup.{RspSetup}
use Rattle.responder_machine.specs.Turn.{Effect, Turn, answer_in, code_in}
use Rattle.responder_machine.specs.Turn.Effect.{NoEffect}
use Rattle.responder_machine.proofs.VerifyLength.{length_verify}
use Rattle.check_laws.proofs.AnswerLengths.{exchange_rsp_read}
use Rattle.check_laws.proofs.CarriedExchange.{apart_is}
use Rattle.check_laws.specs.AnswersShown.{asks_summary, with_fields}
use Rattle.check_responder.specs.WholeAnswers.{whole_values}
use Rattle.capture_machine.specs.Difference.{is_apart}

module _ (r : RspSetup) (p : Place) (m : List ℕ) (f : Free) where
  exchange_asked : (asked : RequestMessage) → (slice_index (canonical_response (answer_of r p m f asked)) 1 == PSK_EXCHANGE_RSP) ≡ true → (x : ExchangeMessage) × (asked ≡ PskExchange x)
  exchange_asked (PskExchange x) is = (x, refl)
  exchange_asked GetVersion is = absurd (false≢true is)
  exchange_asked (GetCapabilities caps) is = absurd (false≢true is)
  exchange_asked (NegotiateAlgorithms offer) is = absurd (false≢true is)
  exchange_asked (GetMeasurements op) is = absurd (false≢true is)
  exchange_asked (PskFinish verify) is = absurd (false≢true is)
  exchange_asked Heartbeat is = absurd (false≢true is)
  exchange_asked (KeyUpdate op tag) is = absurd (false≢true is)
  exchange_asked EndSession is = absurd (false≢true is)
  exchange_asked (ChunkSend chunk) is = absurd (false≢true is)
  exchange_asked (ChunkGet handle number) is = absurd (false≢true is)

-- It is PSK_EXCHANGE, and this is its whole answer.
pub record IsExchangeOf (r : RspSetup) (p : Place) (m : List ℕ) (f : Free) (whole : List ℕ) : Type 0 where
  pub exchange : ExchangeMessage
  pub asks : request_at p m ≡ Some (PskExchange exchange)
  pub answers : whole ≡ canonical_response (exchange_answer r p m f exchange)

-- It came whole, or in chunks.
pub data ExchangesBy (r : RspSetup) (p : Place) (m : List ℕ) (f : Free) (whole : List ℕ) (c : Option ChunkMessage) : Type 0 where
  Plainly : c ≡ None → IsExchangeOf r p m f whole → ExchangesBy r p m f whole c
  ByChunks : (chunk : ChunkMessage) → c ≡ Some chunk → IsExchangeOf r (inside p) (joined_with (under_way (chunks_of p.turns)) chunk) f whole → ExchangesBy r p m f whole c

-- So is what took effect.
pub record Exchanges (r : RspSetup) (p : Place) (m : List ℕ) (f : Free) (t : Turn) (c : Option ChunkMessage) : Type 0 where
  pub code : code_in t.effect ≡ PSK_EXCHANGE
  pub by : ExchangesBy r p m f (answer_in t.effect) c

module _ (r : RspSetup) (f : Free) where
  effect_exchange : (p : Place) (m : List ℕ) (o : Option RequestMessage) (large : Option ℕ) → request_at p m ≡ o → (slice_index (answer_in (effect_of o m (answer_to r p m f o) large)) 1 == PSK_EXCHANGE_RSP) ≡ true
      → (code_in (effect_of o m (answer_to r p m f o) large) ≡ PSK_EXCHANGE) × IsExchangeOf r p m f (answer_in (effect_of o m (answer_to r p m f o) large))
  effect_exchange p m None large is code = absurd (false≢true code)
  effect_exchange p m (Some q) large is code =
      let known = exchange_asked r p m f q code in
      let P : RequestMessage → Type 0 = λ a. request_at p m ≡ Some a → (code_in (effect_of (Some a) m (answer_to r p m f (Some a)) large) ≡ PSK_EXCHANGE) × IsExchangeOf r p m f (answer_in (effect_of (Some a) m (answer_to r p m f (Some a)) large)) in
      subst P (sym known.1) (λ at. (refl, record { exchange = known.0; asks = at; answers = refl })) is

  -- An effect of a request at a place.
  abbrev effect_at : Place → List ℕ → Option ℕ → Effect
  effect_at p m large = effect_of (request_at p m) m (answer_bytes r p m f) large

  request_exchange : (p : Place) (m : List ℕ) (large : Option ℕ) → (slice_index (answer_in (effect_at p m large)) 1 == PSK_EXCHANGE_RSP) ≡ true → (code_in (effect_at p m large) ≡ PSK_EXCHANGE) × IsExchangeOf r p m f (answer_in (effect_at p m large))
  unfolding answer_bytes
  request_exchange p m large code = effect_exchange p m (request_at p m) large refl code

  module _ (p : Place) (m : List ℕ) where
    carried_exchange : (c : ChunkMessage) (l : List ℕ) (x : Option ErrorCode) → l ≡ joined_with (under_way (chunks_of p.turns)) c → let t = carried_turn r (inside p) m f c l x in (slice_index (answer_in t.effect) 1 == PSK_EXCHANGE_RSP) ≡ true → Exchanges r p m f t (Some c)
    carried_exchange c l (Some e) is code = absurd (false≢true code)
    carried_exchange c l None is code =
        let known = request_exchange (inside p) l (handle_for (inside p) f (answer_bytes r (inside p) l f)) code in
        record { code = known.0; by = ByChunks c refl (subst (λ (x : List ℕ). IsExchangeOf r (inside p) x f (answer_in (effect_at (inside p) l (handle_for (inside p) f (answer_bytes r (inside p) l f))))) is known.1) }

    chunk_exchange : (c : ChunkMessage) (b : Bool) → let l = joined_with (under_way (chunks_of p.turns)) c in let t = cond b (last_chunk_turn r (inside p) m f c l) (taken_chunk m c NoEffect []) in
        (slice_index (answer_in t.effect) 1 == PSK_EXCHANGE_RSP) ≡ true → Exchanges r p m f t (Some c)
    chunk_exchange c true code = carried_exchange c (joined_with (under_way (chunks_of p.turns)) c) (refusal r (inside p) (joined_with (under_way (chunks_of p.turns)) c) f) refl code
    chunk_exchange c false code = absurd (false≢true code)

    by_exchange : (x : Option ErrorCode) (c : Option ChunkMessage) → (slice_index (answer_in (turn_by r p m f x c).effect) 1 == PSK_EXCHANGE_RSP) ≡ true → Exchanges r p m f (turn_by r p m f x c) c
    by_exchange (Some e) c code = absurd (false≢true code)
    by_exchange None None code = let known = request_exchange p m (handle_for p f (answer_bytes r p m f)) code in record { code = known.0; by = Plainly refl known.1 }
    by_exchange None (Some c) code = chunk_exchange c c.last code

    pub turn_exchange : (slice_index (answer_in (turn_of r p m f).effect) 1 == PSK_EXCHANGE_RSP) ≡ true → Exchanges r p m f (turn_of r p m f) (chunk_in (request_at p m))
    unfolding turn_of
    turn_exchange code = by_exchange (refusal r p m f) (chunk_in (request_at p m)) code

-- ---- With other verify data.

abbrev front : RspSetup → Place → Free → ExchangeMessage → List ℕ
front r p f x =
    (V1_2 ∷ PSK_EXCHANGE_RSP ∷ (if (place_terms p).common.heartbeat then r.beat else 0) ∷ 0 ∷ []) ++ little_bytes 2 f.id ++ zeros 2
    ++ little_bytes 2 (length f.context) ++ little_bytes 2 (length f.exchange_opaque)
    ++ summary_answer r p x.summary ++ f.context ++ f.exchange_opaque

-- The same is shown.
pub record ShowsAlike (p : Place) (m : List ℕ) (one other : List ℕ) : Type 0 where
  pub values : (k : Free) → whole_values p m k one ≡ whole_values p m k other
  pub id : id_in_exchange one ≡ id_in_exchange other

module _ (r : RspSetup) (g : History) (p : Place) (m : List ℕ) (f : Free) (byte : r.beat < 256) (fits : IsAllowed g p f) where
  front_shows : (k : Free) (x : ExchangeMessage) (verify : List ℕ) → request_at p m ≡ Some (PskExchange x) → length verify ≡ hash_len (place_terms p) → length (front r p f x ++ verify) ≤ MAX_MESSAGE_SIZE
      → whole_values p m k (front r p f x ++ verify) ≡ record k { id = f.id; context = f.context; exchange_opaque = f.exchange_opaque }
  front_shows k x verify is long short =
      ap (λ (o : Option RequestMessage). with_fields k o (response_in (hash_len (place_terms p)) (asks_summary o) (front r p f x ++ verify))) is
      ∙ ap (with_fields k (Some (PskExchange x))) (exchange_rsp_read r g p f x verify byte fits long short)

  pub apart_shows : (whole other : List ℕ) → IsExchangeOf r p m f other → length other ≤ MAX_MESSAGE_SIZE → is_apart (hash_len (place_terms p)) other whole ≡ true → ShowsAlike p m whole other
  apart_shows whole other of short apart =
      let x : ExchangeMessage = of.exchange in
      let text : List ℕ = t1_with r p m f x in
      let v : List ℕ = verify_data (place_terms p).choice r.psk text direction.Response text in
      let long = length_verify (place_terms p).choice r.psk text direction.Response text in
      let start : List ℕ = front r p f x in
      let is : other ≡ start ++ v = of.answers in
      let w = apart_is start v whole (hash_len (place_terms p)) long (ap (λ (l : List ℕ). is_apart (hash_len (place_terms p)) l whole) (sym is) ∙ apart) in
      let brief : length (start ++ v) ≤ MAX_MESSAGE_SIZE = subst (λ (l : List ℕ). length l ≤ MAX_MESSAGE_SIZE) is short in
      let as_brief : length (start ++ w.0) ≤ MAX_MESSAGE_SIZE = (let a = length-append start v in let b = length-append start w.0 in let wide = w.2 in omega (arith, a, b, brief, long, wide)) in
      record {
        values = λ k. ap (whole_values p m k) w.1 ∙ front_shows k x w.0 of.asks w.2 as_brief ∙ sym (front_shows k x v of.asks long brief) ∙ ap (whole_values p m k) (sym is);
        id = ap id_in_exchange w.1 ∙ same_id x w.0 v ∙ ap id_in_exchange (sym is);
      }
    where
      same_id : (x : ExchangeMessage) (a b : List ℕ) → id_in_exchange (front r p f x ++ a) ≡ id_in_exchange (front r p f x ++ b)
      same_id x a b = refl
