-- The reply to a message shows the values that it was answered at.
use Rattle.std.proofs.Common.{◌≡◌, ◌<◌, ◌≤◌, ◌==◌, ◌&&◌, ℕ, List, [], refl, sym, ap, ◌∙◌, subst, length, drop, Bool, true, false, Option, Some, None, cond, arith}
use Rattle.std.proofs.Math.Bool.{and-false}
use Rattle.std.specs.Prelude.{slice_index}
use Rattle.chunking.specs.Collecting.{joined_with, under_way}
use Rattle.responder_machine.specs.Answer.{Free, answer_bytes, answer_to, request_at}
use Rattle.responder_machine.specs.Handling.{acknowledged, carried_turn, chunk_in, error_bytes, last_chunk_turn, taken_chunk, turn_by, turn_of}
use Rattle.responder_machine.specs.History.{History}
use Rattle.responder_machine.specs.LargeMessages.{chunks_of}
use Rattle.responder_machine.specs.May.{IsAllowed}
use Rattle.responder_machine.specs.Place.{Place, inside}
use Rattle.responder_machine.specs.Refusal.{refusal}
use Rattle.responder_machine.specs.Setup.{RspSetup}
use Rattle.responder_machine.specs.Turn.Effect.{NoEffect}
use Rattle.responder_machine.specs.Turn.{Turn}
use Rattle.spdm_grammar.specs.Message.{ChunkMessage}
use Rattle.spdm_grammar.specs.Message.RequestMessage.{ChunkSend}
use Rattle.spdm_grammar.specs.declared.messages.error_code.ErrorCode.{ErrorCode}
use Rattle.spdm_grammar.specs.declared.names.TheConstants.{MAX_MESSAGE_SIZE}
use Rattle.spdm_grammar.specs.declared.names.response_code.TheConstants.{CHUNK_SEND_ACK}
use Rattle.check_laws.proofs.LeastValues.{AreLeast, shortest}
use Rattle.check_laws.proofs.PartShown.{GiveReply, answer_gives, error_gives, reply_by}
use Rattle.check_laws.proofs.ShorterAnswers.{error_by_length, refusal_by_length}
use Rattle.check_laws.specs.AnswersShown.{values_in, values_in_reply}
use Rattle.capture_machine.proofs.TurnsAlike.{chunk_is, is_request, refusal_other}
use Rattle.capture_machine.specs.CapturedAnswers.{answer_at}

-- What is allowed in the clear is so for a large request that comes there.
pub inside_allowed : (h : History) (p : Place) (f : Free) → IsAllowed h p f → IsAllowed h (inside p) f
inside_allowed h p f fits = record {
  least = fits.least;
  most = fits.most;
  unused = fits.unused;
  context = fits.context;
  exchange_opaque = fits.exchange_opaque;
  nonce = fits.nonce;
  measured_opaque = fits.measured_opaque;
  handle = fits.handle;
  reply = fits.reply;
  pad = fits.pad;
}

pub outside_allowed : (h : History) (p : Place) (f : Free) → IsAllowed h (inside p) f → IsAllowed h p f
outside_allowed h p f fits = record {
  least = fits.least;
  most = fits.most;
  unused = fits.unused;
  context = fits.context;
  exchange_opaque = fits.exchange_opaque;
  nonce = fits.nonce;
  measured_opaque = fits.measured_opaque;
  handle = fits.handle;
  reply = fits.reply;
  pad = fits.pad;
}

pub inside_least : (p : Place) (k : Free) → AreLeast p k → AreLeast (inside p) k
inside_least p k least = record { context = least.context; exchange_opaque = least.exchange_opaque; nonce = least.nonce; measured_opaque = least.measured_opaque }

-- These values lead to the same reply.
pub record GiveTurn (r : RspSetup) (h : History) (p : Place) (m : List ℕ) (f v : Free) (o : Option ErrorCode) (c : Option ChunkMessage) : Type 0 where
  pub reply : (turn_by r p m v (refusal r p m v) c).reply ≡ (turn_by r p m f o c).reply
  pub allowed : IsAllowed h p v
  pub short : length (answer_at r p m v c) ≤ MAX_MESSAGE_SIZE

module _ (r : RspSetup) (h : History) (p : Place) (m : List ℕ) (f k : Free) (byte : r.beat < 256) (fits : IsAllowed h p f) (may : IsAllowed h p k) (least : AreLeast p k) where
  -- The least values give an answer that is no longer.
  pub least_at : (c : Option ChunkMessage) → length (answer_at r p m k c) ≤ length (answer_at r p m f c)
  unfolding answer_bytes
  least_at None = shortest r h p m f k fits may least (request_at p m)
  least_at (Some c) =
      let whole : List ℕ = joined_with (under_way (chunks_of p.turns)) c in
      shortest r h (inside p) whole f k (inside_allowed h p f fits) (inside_allowed h p k may) (inside_least p k least) (request_at (inside p) whole)

  least_brief : (c : Option ChunkMessage) → length (answer_at r p m f c) ≤ MAX_MESSAGE_SIZE → length (answer_at r p m k c) ≤ MAX_MESSAGE_SIZE
  least_brief c short = (let less = least_at c in omega (arith, short))

  -- A chunk is acknowledged alike at all values.
  chunk_same : (c : ChunkMessage) (v : Free) → request_at p m ≡ Some (ChunkSend c) → answer_bytes r p m v ≡ answer_bytes r p m f
  unfolding answer_bytes
  chunk_same c v is = ap (answer_to r p m v) is ∙ sym (ap (answer_to r p m f) is)

  chunk_refusal : (c : ChunkMessage) (v : Free) → request_at p m ≡ Some (ChunkSend c) → refusal r p m v ≡ refusal r p m f
  chunk_refusal c v is = refusal_by_length r p m v f (ap (λ (l : List ℕ). length l) (chunk_same c v is))

  -- ---- The last chunk.

  module _ (c : ChunkMessage) (asks : request_at p m ≡ Some (ChunkSend c)) (none : refusal r p m f ≡ None) where
    abbrev whole : List ℕ
    whole = joined_with (under_way (chunks_of p.turns)) c

    carried_reply : (v : Free) (o : Option ErrorCode) → (carried_turn r (inside p) m v c whole o).reply ≡ acknowledged c (reply_by r (inside p) whole v o)
    carried_reply v (Some e) = refl
    carried_reply v None = refl

    whole_gives : (o : Option ErrorCode) → refusal r (inside p) whole f ≡ o → length (answer_bytes r (inside p) whole f) ≤ MAX_MESSAGE_SIZE
        → GiveReply r h (inside p) whole f k (values_in r (inside p) whole k (reply_by r (inside p) whole f o)) o
    whole_gives (Some e) is short = error_gives r h (inside p) whole f k (inside_allowed h p f fits) (inside_allowed h p k may) (inside_least p k least) short e (refusal_other r (inside p) whole f e is)
    whole_gives None is short =
        let one = is_request r (inside p) whole f is in
        answer_gives r h (inside p) whole f k (inside_allowed h p f fits) (inside_allowed h p k may) (inside_least p k least) short one.0 one.1 byte

    -- The chunk with these values.
    chunk_reply : (v : Free) (o : Option ErrorCode) → c.last ≡ true → refusal r (inside p) whole v ≡ o → (turn_by r p m v (refusal r p m v) (Some c)).reply ≡ acknowledged c (reply_by r (inside p) whole v o)
    chunk_reply v o last is =
        ap (λ (x : Option ErrorCode). (turn_by r p m v x (Some c)).reply) (chunk_refusal c v asks ∙ none)
        ∙ ap (λ (b : Bool). (cond b (last_chunk_turn r (inside p) m v c whole) (taken_chunk m c NoEffect [])).reply) last
        ∙ ap (λ (x : Option ErrorCode). (carried_turn r (inside p) m v c whole x).reply) is ∙ carried_reply v o

    -- The response is shown in the acknowledgement.
    shown_in : (response : List ℕ) → c.last ≡ true → values_in_reply r p m k (acknowledged c response) (Some c) ≡ values_in r (inside p) whole k response
    shown_in response last = ap (λ (b : Bool). cond (b && true) (values_in r (inside p) whole k response) k) last

    last_gives : c.last ≡ true → length (answer_bytes r (inside p) whole f) ≤ MAX_MESSAGE_SIZE
        → GiveTurn r h p m f (values_in_reply r p m k (turn_by r p m f None (Some c)).reply (Some c)) None (Some c)
    last_gives last short =
        let o : Option ErrorCode = refusal r (inside p) whole f in
        let there : turn_by r p m f None (Some c) ≡ carried_turn r (inside p) m f c whole o = ap (λ (b : Bool). cond b (last_chunk_turn r (inside p) m f c whole) (taken_chunk m c NoEffect [])) last in
        let gives = whole_gives o refl short in
        let v : Free = values_in r (inside p) whole k (reply_by r (inside p) whole f o) in
        let text : (turn_by r p m f None (Some c)).reply ≡ acknowledged c (reply_by r (inside p) whole f o) = ap (λ (t : Turn). t.reply) there ∙ carried_reply f o in
        let same : values_in_reply r p m k (turn_by r p m f None (Some c)).reply (Some c) ≡ v = ap (λ (l : List ℕ). values_in_reply r p m k l (Some c)) text ∙ shown_in (reply_by r (inside p) whole f o) last in
        let G : Free → Type 0 = λ x. GiveTurn r h p m f x None (Some c) in
        subst G (sym same) (record {
          reply = chunk_reply v o last (gives.refusal refl) ∙ ap (acknowledged c) gives.reply ∙ sym text;
          allowed = outside_allowed h p v gives.allowed;
          short = gives.short;
        })

    other_gives : c.last ≡ false → length (answer_bytes r (inside p) whole f) ≤ MAX_MESSAGE_SIZE → GiveTurn r h p m f (values_in_reply r p m k (turn_by r p m f None (Some c)).reply (Some c)) None (Some c)
    other_gives more short =
        let text : List ℕ = (turn_by r p m f None (Some c)).reply in
        let same : values_in_reply r p m k text (Some c) ≡ k = ap (λ (b : Bool). cond (b && slice_index text 1 == CHUNK_SEND_ACK) (values_in r (inside p) whole k (drop 6 text)) k) more in
        let G : Free → Type 0 = λ x. GiveTurn r h p m f x None (Some c) in
        let at : (v : Free) → (cond c.last (last_chunk_turn r (inside p) m v c whole) (taken_chunk m c NoEffect [])).reply ≡ acknowledged c [] =
        λ v. ap (λ (b : Bool). (cond b (last_chunk_turn r (inside p) m v c whole) (taken_chunk m c NoEffect [])).reply) more in
        subst G (sym same) (record {
          reply = ap (λ (x : Option ErrorCode). (turn_by r p m k x (Some c)).reply) (chunk_refusal c k asks ∙ none) ∙ at k ∙ sym (at f);
          allowed = may;
          short = least_brief (Some c) short;
        })

  -- ---- Any message.

  refused_chunk : (e : ErrorCode) (c : ChunkMessage) → request_at p m ≡ Some (ChunkSend c) → refusal r p m f ≡ Some e → length (answer_at r p m f (Some c)) ≤ MAX_MESSAGE_SIZE
      → GiveTurn r h p m f (values_in_reply r p m k (error_bytes r p m f e) (Some c)) (Some e) (Some c)
  refused_chunk e c asks is short =
      let text : List ℕ = error_bytes r p m f e in
      let G : Free → Type 0 = λ x. GiveTurn r h p m f x (Some e) (Some c) in
      let same : values_in_reply r p m k text (Some c) ≡ k = ap (λ (b : Bool). cond b (values_in r (inside p) (joined_with (under_way (chunks_of p.turns)) c) k (drop 6 text)) k) (and-false c.last) in
      subst G (sym same) (record {
        reply = ap (λ (x : Option ErrorCode). (turn_by r p m k x (Some c)).reply) (chunk_refusal c k asks ∙ is)
            ∙ error_by_length r p m k f e (λ large. ap (λ (l : List ℕ). length l) (chunk_same c k asks));
        allowed = may;
        short = least_brief (Some c) short;
      })

  by_parts : (o : Option ErrorCode) (c : Option ChunkMessage) → refusal r p m f ≡ o → chunk_in (request_at p m) ≡ c → length (answer_at r p m f c) ≤ MAX_MESSAGE_SIZE
      → GiveTurn r h p m f (values_in_reply r p m k (turn_by r p m f o c).reply c) o c
  by_parts (Some e) None is asks short =
      let gives = error_gives r h p m f k fits may least short e (refusal_other r p m f e is) in
      record { reply = ap (λ (x : Option ErrorCode). (turn_by r p m (values_in r p m k (error_bytes r p m f e)) x None).reply) (gives.refusal is) ∙ gives.reply; allowed = gives.allowed; short = gives.short }
  by_parts None None is asks short =
      let one = is_request r p m f is in
      let gives = answer_gives r h p m f k fits may least short one.0 one.1 byte in
      record { reply = ap (λ (x : Option ErrorCode). (turn_by r p m (values_in r p m k (turn_by r p m f None None).reply) x None).reply) (gives.refusal is) ∙ gives.reply; allowed = gives.allowed; short = gives.short }
  by_parts (Some e) (Some c) is asks short = refused_chunk e c (chunk_is (request_at p m) c asks) is short
  by_parts None (Some c) is asks short = by_last c.last refl
    where
      by_last : (b : Bool) → c.last ≡ b → GiveTurn r h p m f (values_in_reply r p m k (turn_by r p m f None (Some c)).reply (Some c)) None (Some c)
      by_last true last = last_gives c (chunk_is (request_at p m) c asks) is last short
      by_last false more = other_gives c (chunk_is (request_at p m) c asks) is more short

  -- The values that a reply shows give it.
  pub turn_gives : length (answer_at r p m f (chunk_in (request_at p m))) ≤ MAX_MESSAGE_SIZE
      → GiveTurn r h p m f (values_in_reply r p m k (turn_of r p m f).reply (chunk_in (request_at p m))) (refusal r p m f) (chunk_in (request_at p m))
  unfolding turn_of
  turn_gives short = by_parts (refusal r p m f) (chunk_in (request_at p m)) refl refl short

pub turn_reply : (r : RspSetup) (h : History) (p : Place) (m : List ℕ) (f v : Free) → GiveTurn r h p m f v (refusal r p m f) (chunk_in (request_at p m)) → (turn_of r p m v).reply ≡ (turn_of r p m f).reply
unfolding turn_of
turn_reply r h p m f v gives = gives.reply
