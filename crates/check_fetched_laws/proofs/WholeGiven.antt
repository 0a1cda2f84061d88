-- The whole answer to a request shows the values that it was made at.
use Rattle.std.proofs.Common.{◌≡◌, ◌<◌, ◌≤◌, ℕ, List, [], refl, sym, ap, ◌∙◌, subst, length, Bool, true, false, Option, Some, None, is_some, cond}
use Rattle.std.proofs.lemmas.Bool.{false≢true}
use Rattle.std.proofs.lemmas.Option.{same_Some}
use Rattle.chunking.specs.Collecting.{joined_with, under_way}
use Rattle.responder_machine.specs.Answer.{Free, answer_bytes, answer_of, answer_to, request_at}
use Rattle.responder_machine.specs.Handling.{carried_turn, chunk_in, effect_of, goes_large, large_response, last_chunk_turn, plain_turn, request_effect, request_reply, taken_chunk, turn_by, turn_of}
use Rattle.responder_machine.specs.History.{History}
use Rattle.responder_machine.specs.LargeMessages.{chunks_of}
use Rattle.responder_machine.specs.May.{IsAllowed}
use Rattle.responder_machine.specs.Place.{Place, inside, place_terms}
use Rattle.responder_machine.specs.Refusal.{refusal}
use Rattle.responder_machine.specs.Setup.{RspSetup}
use Rattle.responder_machine.specs.Turn.Effect.{NoEffect}
use Rattle.responder_machine.specs.Turn.{Effect, answer_in, handle_in}
use Rattle.spdm_grammar.specs.Message.{ChunkMessage, ExchangeMessage, RequestMessage, ResponseMessage}
use Rattle.spdm_grammar.specs.Message.RequestMessage.{GetVersion, GetCapabilities, NegotiateAlgorithms, GetMeasurements, PskExchange, PskFinish, Heartbeat, KeyUpdate, EndSession, ChunkSend, ChunkGet}
use Rattle.spdm_grammar.specs.Responses.{canonical_response, response_in}
use Rattle.spdm_grammar.specs.declared.messages.error_code.ErrorCode.{ErrorCode}
use Rattle.spdm_grammar.specs.declared.names.TheConstants.{MAX_MESSAGE_SIZE}
use Rattle.spdm_machine.specs.Terms.{hash_len}
use Rattle.check_laws.proofs.AnswerLengths.{exchange_read, measured_read}
use Rattle.check_laws.proofs.ShorterAnswers.{refusal_by_length}
use Rattle.check_laws.proofs.TurnShown.{inside_allowed, outside_allowed}
use Rattle.check_laws.specs.AnswersShown.{asks_summary, with_fields}
use Rattle.capture_machine.proofs.TurnsAlike.{chunk_is, is_request}
use Rattle.capture_machine.specs.CapturedAnswers.{answer_at}
use Rattle.check_responder.specs.WholeAnswers.{clear_whole, whole_values}

-- ---- One request.

-- These values give the same whole answer, and leave the handle and the padding.
pub record GiveWhole (r : RspSetup) (h : History) (p : Place) (m : List ℕ) (f k v : Free) : Type 0 where
  pub bytes : answer_bytes r p m v ≡ answer_bytes r p m f
  pub allowed : IsAllowed h p v
  pub handle : v.handle ≡ k.handle
  pub pad : v.pad ≡ k.pad

module _ (r : RspSetup) (h : History) (p : Place) (m : List ℕ) (f k : Free) (fits : IsAllowed h p f) (may : IsAllowed h p k) where
  abbrev Gives : RequestMessage → Free → Type 0
  Gives asked v = (answer_to r p m v (Some asked) ≡ answer_to r p m f (Some asked)) × IsAllowed h p v × (v.handle ≡ k.handle) × (v.pad ≡ k.pad)

  exchange_given : (x : ExchangeMessage) → Gives (PskExchange x) (record k { id = f.id; context = f.context; exchange_opaque = f.exchange_opaque })
  exchange_given x = (
    refl,
    record {
      least = fits.least;
      most = fits.most;
      unused = fits.unused;
      context = fits.context;
      exchange_opaque = fits.exchange_opaque;
      nonce = may.nonce;
      measured_opaque = may.measured_opaque;
      handle = may.handle;
      reply = may.reply;
      pad = may.pad;
    },
    refl,
    refl,
  )

  measured_given : (op : ℕ) → Gives (GetMeasurements op) (record k { nonce = f.nonce; measured_opaque = f.measured_opaque })
  measured_given op = (
    refl,
    record {
      least = may.least;
      most = may.most;
      unused = may.unused;
      context = may.context;
      exchange_opaque = may.exchange_opaque;
      nonce = fits.nonce;
      measured_opaque = fits.measured_opaque;
      handle = may.handle;
      reply = may.reply;
      pad = may.pad;
    },
    refl,
    refl,
  )

  -- The values in the fields of the answer.
  abbrev read_values : RequestMessage → Free
  read_values asked = with_fields k (Some asked) (response_in (hash_len (place_terms p)) (asks_summary (Some asked)) (canonical_response (answer_of r p m f asked)))

  fields_given : (asked : RequestMessage) → r.beat < 256 → length (canonical_response (answer_of r p m f asked)) ≤ MAX_MESSAGE_SIZE → Gives asked (read_values asked)
  fields_given (PskExchange x) byte brief =
      subst (λ (o : Option ResponseMessage). Gives (PskExchange x) (with_fields k (Some (PskExchange x)) o)) (sym (exchange_read r h p m f x byte fits brief)) (exchange_given x)
  fields_given (GetMeasurements op) byte brief =
      subst (λ (o : Option ResponseMessage). Gives (GetMeasurements op) (with_fields k (Some (GetMeasurements op)) o)) (sym (measured_read r h p f op fits brief)) (measured_given op)
  fields_given GetVersion byte brief = (refl, may, refl, refl)
  fields_given (GetCapabilities caps) byte brief = (refl, may, refl, refl)
  fields_given (NegotiateAlgorithms offer) byte brief = (refl, may, refl, refl)
  fields_given (PskFinish verify) byte brief = (refl, may, refl, refl)
  fields_given Heartbeat byte brief = (refl, may, refl, refl)
  fields_given (KeyUpdate op tag) byte brief = (refl, may, refl, refl)
  fields_given EndSession byte brief = (refl, may, refl, refl)
  fields_given (ChunkSend chunk) byte brief = (refl, may, refl, refl)
  fields_given (ChunkGet handle number) byte brief = (refl, may, refl, refl)

  by_asked : (asked : RequestMessage) → request_at p m ≡ Some asked → r.beat < 256 → length (answer_bytes r p m f) ≤ MAX_MESSAGE_SIZE
      → GiveWhole r h p m f k (whole_values p m k (answer_bytes r p m f))
  unfolding answer_bytes
  by_asked asked is byte short =
      let text : answer_to r p m f (request_at p m) ≡ canonical_response (answer_of r p m f asked) = ap (answer_to r p m f) is in
      let gives = fields_given asked byte (subst (λ (l : List ℕ). length l ≤ MAX_MESSAGE_SIZE) text short) in
      let there : whole_values p m k (answer_to r p m f (request_at p m)) ≡ read_values asked =
      ap (λ (l : List ℕ). whole_values p m k l) text
      ∙ ap (λ (o : Option RequestMessage). with_fields k o (response_in (hash_len (place_terms p)) (asks_summary o) (canonical_response (answer_of r p m f asked)))) is in
      subst (GiveWhole r h p m f k) (sym there) (record {
        bytes = ap (answer_to r p m (read_values asked)) is ∙ gives.0 ∙ sym text;
        allowed = gives.1;
        handle = gives.2;
        pad = gives.3;
      })

  -- Of a request that is not refused.
  pub whole_gives : refusal r p m f ≡ None → r.beat < 256 → length (answer_bytes r p m f) ≤ MAX_MESSAGE_SIZE → GiveWhole r h p m f k (whole_values p m k (answer_bytes r p m f))
  whole_gives none byte short = let one = is_request r p m f none in by_asked one.0 one.1 byte short

-- Under the same handle it is answered and takes effect in the same way.
module _ (r : RspSetup) (p : Place) (m : List ℕ) (f v : Free) (bytes : answer_bytes r p m v ≡ answer_bytes r p m f) (handle : v.handle ≡ f.handle) where
  same_refusal : refusal r p m v ≡ refusal r p m f
  same_refusal = refusal_by_length r p m v f (ap (λ (l : List ℕ). length l) bytes)

  same_effect : request_effect r p m v ≡ request_effect r p m f
  same_effect =
      ap (λ (l : List ℕ). effect_of (request_at p m) m l (cond (goes_large p l) (Some v.handle) None)) bytes
      ∙ ap (λ (n : ℕ). effect_of (request_at p m) m (answer_bytes r p m f) (cond (goes_large p (answer_bytes r p m f)) (Some n) None)) handle

  same_reply : request_reply r p m v ≡ request_reply r p m f
  same_reply =
      ap (λ (l : List ℕ). cond (goes_large p l) (large_response v.handle) l) bytes
      ∙ ap (λ (n : ℕ). cond (goes_large p (answer_bytes r p m f)) (large_response n) (answer_bytes r p m f)) handle

-- ---- A turn.

-- The handle of an answer that goes by LargeResponse, and its bytes.
pub record IsLargeTurn (r : RspSetup) (p : Place) (m : List ℕ) (f : Free) : Type 0 where
  pub none : refusal r p m f ≡ None
  pub handle : handle_in (request_effect r p m f) ≡ Some f.handle
  pub answer : answer_in (request_effect r p m f) ≡ answer_bytes r p m f

effect_large : (o : Option RequestMessage) (m answer : List ℕ) (b : Bool) (n : ℕ) → is_some (handle_in (effect_of o m answer (cond b (Some n) None))) ≡ true
    → (handle_in (effect_of o m answer (cond b (Some n) None)) ≡ Some n) × (answer_in (effect_of o m answer (cond b (Some n) None)) ≡ answer)
effect_large None m answer b n large = absurd (false≢true large)
effect_large (Some asked) m answer true n large = (refl, refl)
effect_large (Some asked) m answer false n large = absurd (false≢true large)

request_large : (r : RspSetup) (p : Place) (m : List ℕ) (f : Free) → refusal r p m f ≡ None → is_some (handle_in (request_effect r p m f)) ≡ true → IsLargeTurn r p m f
request_large r p m f none large =
    let known = effect_large (request_at p m) m (answer_bytes r p m f) (goes_large p (answer_bytes r p m f)) f.handle large in
    record { none = none; handle = known.0; answer = known.1 }

-- Where a message is answered by LargeResponse, these values lead to the same turn.
pub record GiveTurn (r : RspSetup) (h : History) (p : Place) (m : List ℕ) (f k v : Free) (c : Option ChunkMessage) : Type 0 where
  pub turn : turn_by r p m v (refusal r p m v) c ≡ turn_by r p m f (refusal r p m f) c
  pub allowed : IsAllowed h p v
  pub short : length (answer_at r p m v c) ≤ MAX_MESSAGE_SIZE
  pub pad : v.pad ≡ k.pad

module _ (r : RspSetup) (h : History) (p : Place) (m : List ℕ) (f k : Free) (byte : r.beat < 256) (fits : IsAllowed h p f) (may : IsAllowed h p k) where
  pub plain_gives : refusal r p m f ≡ None → length (answer_bytes r p m f) ≤ MAX_MESSAGE_SIZE → is_some (handle_in (request_effect r p m f)) ≡ true → handle_in (request_effect r p m f) ≡ Some k.handle
      → GiveTurn r h p m f k (whole_values p m k (answer_in (request_effect r p m f))) None
  plain_gives none short large handle =
      let known = request_large r p m f none large in
      let same : k.handle ≡ f.handle = same_Some k.handle f.handle (sym handle ∙ known.handle) in
      let v : Free = whole_values p m k (answer_bytes r p m f) in
      let gives = whole_gives r h p m f k fits may none byte short in
      let there : v.handle ≡ f.handle = gives.handle ∙ same in
      let at : List ℕ → Free = λ l. whole_values p m k l in
      subst (λ (l : List ℕ). GiveTurn r h p m f k (at l) None) (sym known.answer) (record {
        turn = ap (λ (x : Option ErrorCode). turn_by r p m v x None) (same_refusal r p m f v gives.bytes there ∙ none)
            ∙ ap (λ (x : Effect). record (plain_turn r p m v) { effect = x }) (same_effect r p m f v gives.bytes there)
            ∙ ap (λ (l : List ℕ). record (plain_turn r p m f) { reply = l }) (same_reply r p m f v gives.bytes there)
            ∙ sym (ap (λ (x : Option ErrorCode). turn_by r p m f x None) none);
        allowed = gives.allowed;
        short = subst (λ (l : List ℕ). length l ≤ MAX_MESSAGE_SIZE) (sym gives.bytes) short;
        pad = gives.pad;
      })

  -- The last chunk of a large request.
  module _ (c : ChunkMessage) (asks : request_at p m ≡ Some (ChunkSend c)) (none : refusal r p m f ≡ None) where
    abbrev text : List ℕ
    text = joined_with (under_way (chunks_of p.turns)) c

    chunk_same : (v : Free) → answer_bytes r p m v ≡ answer_bytes r p m f
    unfolding answer_bytes
    chunk_same v = ap (answer_to r p m v) asks ∙ sym (ap (answer_to r p m f) asks)

    chunk_none : (v : Free) → refusal r p m v ≡ None
    chunk_none v = refusal_by_length r p m v f (ap (λ (l : List ℕ). length l) (chunk_same v)) ∙ none

    taken_as : (v : Free) → c.last ≡ true → refusal r (inside p) text v ≡ None
        → turn_by r p m v (refusal r p m v) (Some c) ≡ taken_chunk m c (request_effect r (inside p) text v) (request_reply r (inside p) text v)
    taken_as v last is =
        ap (λ (x : Option ErrorCode). turn_by r p m v x (Some c)) (chunk_none v)
        ∙ ap (λ (b : Bool). cond b (last_chunk_turn r (inside p) m v c text) (taken_chunk m c NoEffect [])) last
        ∙ ap (λ (x : Option ErrorCode). carried_turn r (inside p) m v c text x) is

    carried_gives : (o : Option ErrorCode) → c.last ≡ true → refusal r (inside p) text f ≡ o → length (answer_bytes r (inside p) text f) ≤ MAX_MESSAGE_SIZE
        → is_some (handle_in (carried_turn r (inside p) m f c text o).effect) ≡ true → handle_in (carried_turn r (inside p) m f c text o).effect ≡ Some k.handle
        → GiveTurn r h p m f k (clear_whole p m k (answer_in (carried_turn r (inside p) m f c text o).effect) (Some c)) (Some c)
    carried_gives (Some e) last is short large handle = absurd (false≢true large)
    carried_gives None last is short large handle =
        let known = request_large r (inside p) text f is large in
        let same : k.handle ≡ f.handle = same_Some k.handle f.handle (sym handle ∙ known.handle) in
        let v : Free = whole_values (inside p) text k (answer_bytes r (inside p) text f) in
        let gives = whole_gives r h (inside p) text f k (inside_allowed h p f fits) (inside_allowed h p k may) is byte short in
        let there : v.handle ≡ f.handle = gives.handle ∙ same in
        let at : List ℕ → Free = λ l. whole_values (inside p) text k l in
        subst (λ (l : List ℕ). GiveTurn r h p m f k (at l) (Some c)) (sym known.answer) (record {
          turn = taken_as v last (same_refusal r (inside p) text f v gives.bytes there ∙ is)
              ∙ ap (λ (x : Effect). taken_chunk m c x (request_reply r (inside p) text v)) (same_effect r (inside p) text f v gives.bytes there)
              ∙ ap (λ (l : List ℕ). taken_chunk m c (request_effect r (inside p) text f) l) (same_reply r (inside p) text f v gives.bytes there)
              ∙ sym (taken_as f last is);
          allowed = outside_allowed h p v gives.allowed;
          short = subst (λ (l : List ℕ). length l ≤ MAX_MESSAGE_SIZE) (sym gives.bytes) short;
          pad = gives.pad;
        })

    by_last : (b : Bool) → c.last ≡ b → length (answer_bytes r (inside p) text f) ≤ MAX_MESSAGE_SIZE
        → is_some (handle_in (cond b (last_chunk_turn r (inside p) m f c text) (taken_chunk m c NoEffect [])).effect) ≡ true
        → handle_in (cond b (last_chunk_turn r (inside p) m f c text) (taken_chunk m c NoEffect [])).effect ≡ Some k.handle
        → GiveTurn r h p m f k (clear_whole p m k (answer_in (cond b (last_chunk_turn r (inside p) m f c text) (taken_chunk m c NoEffect [])).effect) (Some c)) (Some c)
    by_last true last short large handle = carried_gives (refusal r (inside p) text f) last refl short large handle
    by_last false last short large handle = absurd (false≢true large)

  by_parts : (o : Option ErrorCode) (c : Option ChunkMessage) → refusal r p m f ≡ o → chunk_in (request_at p m) ≡ c → length (answer_at r p m f c) ≤ MAX_MESSAGE_SIZE
      → is_some (handle_in (turn_by r p m f o c).effect) ≡ true → handle_in (turn_by r p m f o c).effect ≡ Some k.handle
      → GiveTurn r h p m f k (clear_whole p m k (answer_in (turn_by r p m f o c).effect) c) c
  by_parts (Some e) c is asks short large handle = absurd (false≢true large)
  by_parts None None is asks short large handle = plain_gives is short large handle
  by_parts None (Some c) is asks short large handle = by_last c (chunk_is (request_at p m) c asks) is c.last refl short large handle

  -- Any message in the clear.
  pub turn_gives : length (answer_at r p m f (chunk_in (request_at p m))) ≤ MAX_MESSAGE_SIZE → is_some (handle_in (turn_of r p m f).effect) ≡ true → handle_in (turn_of r p m f).effect ≡ Some k.handle
      → GiveTurn r h p m f k (clear_whole p m k (answer_in (turn_of r p m f).effect) (chunk_in (request_at p m))) (chunk_in (request_at p m))
  unfolding turn_of
  turn_gives short large handle = by_parts (refusal r p m f) (chunk_in (request_at p m)) refl refl short large handle

pub same_turn : (r : RspSetup) (h : History) (p : Place) (m : List ℕ) (f k v : Free) → GiveTurn r h p m f k v (chunk_in (request_at p m)) → turn_of r p m v ≡ turn_of r p m f
unfolding turn_of
same_turn r h p m f k v gives = gives.turn

-- ---- The handle.

module _ (r : RspSetup) (p : Place) (m : List ℕ) (f : Free) where
  carried_handle : (c : ChunkMessage) (request : List ℕ) (o : Option ErrorCode) → is_some (handle_in (carried_turn r (inside p) m f c request o).effect) ≡ true → handle_in (carried_turn r (inside p) m f c request o).effect ≡ Some f.handle
  carried_handle c request (Some e) large = absurd (false≢true large)
  carried_handle c request None large = (effect_large (request_at (inside p) request) request (answer_bytes r (inside p) request f) (goes_large (inside p) (answer_bytes r (inside p) request f)) f.handle large).0

  chunk_handle : (c : ChunkMessage) (request : List ℕ) (b : Bool) → is_some (handle_in (cond b (last_chunk_turn r (inside p) m f c request) (taken_chunk m c NoEffect [])).effect) ≡ true
      → handle_in (cond b (last_chunk_turn r (inside p) m f c request) (taken_chunk m c NoEffect [])).effect ≡ Some f.handle
  chunk_handle c request true large = carried_handle c request (refusal r (inside p) request f) large
  chunk_handle c request false large = absurd (false≢true large)

  handle_by : (o : Option ErrorCode) (c : Option ChunkMessage) → is_some (handle_in (turn_by r p m f o c).effect) ≡ true → handle_in (turn_by r p m f o c).effect ≡ Some f.handle
  handle_by (Some e) c large = absurd (false≢true large)
  handle_by None None large = (effect_large (request_at p m) m (answer_bytes r p m f) (goes_large p (answer_bytes r p m f)) f.handle large).0
  handle_by None (Some c) large = chunk_handle c (joined_with (under_way (chunks_of p.turns)) c) c.last large

  -- An answer goes by LargeResponse under the handle that was chosen.
  pub turn_handle : is_some (handle_in (turn_of r p m f).effect) ≡ true → handle_in (turn_of r p m f).effect ≡ Some f.handle
  unfolding turn_of
  turn_handle large = handle_by (refusal r p m f) (chunk_in (request_at p m)) large
