-- In the clear some values give a short answer there too.
use Rattle.std.proofs.Common.{◌≡◌, ◌≤◌, ◌==◌, ◌||◌, ℕ, List, [], refl, sym, ap, ◌∙◌, subst, length, arith, Bool, true, false, Option, Some, None}
use Rattle.std.proofs.lemmas.List.{length-replicate}
use Rattle.std.specs.Prelude.{unwrap_or}
use Rattle.std.proofs.lemmas.Option.{none-some}
use Rattle.chunking.specs.Collecting.{joined_with, under_way}
use Rattle.responder_machine.proofs.Codes.{asked-code}
use Rattle.responder_machine.proofs.Ids.{free_id-range, free_id-unheld, not_four}
use Rattle.responder_machine.proofs.Settled.{same_reading}
use Rattle.responder_machine.specs.Answer.{Free, answer_bytes, answer_to, request_at}
use Rattle.responder_machine.specs.Handling.{chunk_in}
use Rattle.responder_machine.specs.History.{History}
use Rattle.responder_machine.specs.LargeMessages.{chunks_of, pending_of}
use Rattle.responder_machine.specs.May.{IsAllowed}
use Rattle.responder_machine.specs.Place.{Place, free_id, held_of, inside, place_terms}
use Rattle.responder_machine.specs.Refusal.{code_of}
use Rattle.responder_machine.specs.Setup.{RspSetup}
use Rattle.spdm_grammar.specs.Codes.{code_for}
use Rattle.spdm_grammar.specs.Message.{ChunkMessage, RequestMessage}
use Rattle.spdm_grammar.specs.Message.RequestMessage.{GetVersion, GetCapabilities, NegotiateAlgorithms, GetMeasurements, PskExchange, PskFinish, Heartbeat, KeyUpdate, EndSession, ChunkSend, ChunkGet}
use Rattle.spdm_grammar.specs.declared.names.TheConstants.{MAX_MESSAGE_SIZE}
use Rattle.spdm_grammar.specs.declared.names.request_code.TheConstants.{PSK_EXCHANGE, PSK_FINISH}
use Rattle.spdm_grammar.specs.Responses.{summary_len}
use Rattle.spdm_machine.specs.Terms.{hash_len}
use Rattle.check_laws.proofs.AnswerLengths.{exchange_length, summary_length}
use Rattle.check_laws.proofs.LongAnswers.{most_hash}
use Rattle.capture_machine.proofs.GetTells.{transfer_of}
use Rattle.capture_machine.proofs.TurnsAlike.{chunk_is}
use Rattle.capture_machine.specs.CapturedAnswers.{answer_at, clear_answer}
use Rattle.spdm_grammar.specs.Fields.{zeros}
use Rattle.check_late_laws.proofs.Sized.{chunk_few, transfer_few}

-- The same values, but for those of PSK_EXCHANGE_RSP: the least that are allowed there.
abbrev pub least_with : History → Place → Free → Free
least_with h p f = record f { id = free_id h; context = zeros (hash_len (place_terms p)); exchange_opaque = [] }

pub least_fits : (h g : History) (p o : Place) (f : Free) → IsAllowed h p f → IsAllowed g o (least_with g o f)
least_fits h g p o f fits = record {
  least = (free_id-range g).0;
  most = (free_id-range g).1;
  unused = λ room. free_id-unheld g (not_four (held_of g) room);
  context = (let long : length (zeros (hash_len (place_terms o))) ≡ hash_len (place_terms o) = length-replicate {A = ℕ} (hash_len (place_terms o)) 0 in omega (arith, long));
  exchange_opaque = omega arith;
  nonce = fits.nonce;
  measured_opaque = fits.measured_opaque;
  handle = fits.handle;
  reply = fits.reply;
  pad = fits.pad;
}

-- ---- One request.

summary_few : (n : ℕ) (b : Bool) → summary_len n b ≤ n
summary_few n true = omega arith
summary_few n false = omega arith

module _ (r : RspSetup) (p o : Place) (text : List ℕ) (f k : Free) (context : length k.context ≡ hash_len (place_terms o)) (opaque : length k.exchange_opaque ≡ 0) (nonce : k.nonce ≡ f.nonce) (measured : k.measured_opaque ≡ f.measured_opaque) where
  -- Any other request than those of the key exchange is read the same.
  read_same : (q : RequestMessage) → request_at o text ≡ Some q → (code_for q == PSK_EXCHANGE) ≡ false → (code_for q == PSK_FINISH) ≡ false → request_at p text ≡ Some q
  read_same q is one two =
      let code : code_for q ≡ code_of text = asked-code o text q is in
      same_reading (hash_len (place_terms p)) (hash_len (place_terms o)) text (ap (λ (n : ℕ). n == PSK_EXCHANGE) (sym code) ∙ one) (ap (λ (n : ℕ). n == PSK_FINISH) (sym code) ∙ two) ∙ is

  by_kind : (q : Option RequestMessage) → request_at o text ≡ q → length (answer_to r p text f (request_at p text)) ≤ MAX_MESSAGE_SIZE → length (answer_to r o text k q) ≤ MAX_MESSAGE_SIZE
  by_kind None is few = omega arith
  by_kind (Some (PskExchange x)) is few =
      let a = exchange_length r o text k x in
      let b = summary_length r o x.summary in
      let hash : hash_len (place_terms o) ≤ 48 = most_hash _ in
      let less = summary_few (hash_len (place_terms o)) (x.summary == 1 || x.summary == 255) in
      omega (arith, a, b, context, opaque, hash, less)
  by_kind (Some (GetMeasurements op)) is few =
      let there = read_same (GetMeasurements op) is refl refl in
      let same : answer_to r o text k (Some (GetMeasurements op)) ≡ answer_to r p text f (Some (GetMeasurements op)) =
      ap (λ (l : List ℕ). answer_to r o text (record k { nonce = l }) (Some (GetMeasurements op))) nonce ∙ ap (λ (l : List ℕ). answer_to r o text (record k { nonce = f.nonce; measured_opaque = l }) (Some (GetMeasurements op))) measured in
      subst (λ (l : List ℕ). length l ≤ MAX_MESSAGE_SIZE) (sym same) (subst (λ (q : Option RequestMessage). length (answer_to r p text f q) ≤ MAX_MESSAGE_SIZE) there few)
  by_kind (Some (NegotiateAlgorithms offer)) is few =
      let there = read_same (NegotiateAlgorithms offer) is refl refl in
      subst (λ (q : Option RequestMessage). length (answer_to r p text f q) ≤ MAX_MESSAGE_SIZE) there few
  by_kind (Some (ChunkGet handle number)) is few = chunk_few (transfer_of o) handle (unwrap_or (pending_of (transfer_of o) o.turns) []) number (transfer_few o)
  by_kind (Some GetVersion) is few = omega arith
  by_kind (Some (GetCapabilities caps)) is few = omega arith
  by_kind (Some (PskFinish verify)) is few = omega arith
  by_kind (Some Heartbeat) is few = omega arith
  by_kind (Some (KeyUpdate op tag)) is few = omega arith
  by_kind (Some EndSession) is few = omega arith
  by_kind (Some (ChunkSend c)) is few = omega arith

  pub request_short : length (answer_bytes r p text f) ≤ MAX_MESSAGE_SIZE → length (answer_bytes r o text k) ≤ MAX_MESSAGE_SIZE
  unfolding answer_bytes
  request_short few = by_kind (request_at o text) refl few

-- ---- A message, which may be a chunk.

module _ (r : RspSetup) (p o : Place) (chunks : chunks_of p.turns ≡ chunks_of o.turns) (m : List ℕ) (f k : Free) (context : length k.context ≡ hash_len (place_terms o)) (opaque : length k.exchange_opaque ≡ 0) (nonce : k.nonce ≡ f.nonce) (measured : k.measured_opaque ≡ f.measured_opaque) where
  chunk_moved : (a b : Place) (c : ChunkMessage) → chunk_in (request_at a m) ≡ Some c → chunk_in (request_at b m) ≡ Some c
  chunk_moved a b c is =
      let sends : request_at a m ≡ Some (ChunkSend c) = chunk_is (request_at a m) c is in
      let code : code_for (ChunkSend c) ≡ code_of m = asked-code a m (ChunkSend c) sends in
      ap chunk_in (same_reading (hash_len (place_terms b)) (hash_len (place_terms a)) m (ap (λ (n : ℕ). n == PSK_EXCHANGE) (sym code)) (ap (λ (n : ℕ). n == PSK_FINISH) (sym code)) ∙ sends)

  chunk_same : (x y : Option ChunkMessage) → chunk_in (request_at p m) ≡ x → chunk_in (request_at o m) ≡ y → x ≡ y
  chunk_same None None one two = refl
  chunk_same (Some c) y one two = sym (sym two ∙ chunk_moved p o c one)
  chunk_same None (Some c) one two = absurd (none-some c (sym one ∙ chunk_moved o p c two))

  at_short : (c : Option ChunkMessage) → length (answer_at r p m f c) ≤ MAX_MESSAGE_SIZE → length (answer_at r o m k c) ≤ MAX_MESSAGE_SIZE
  at_short None few = request_short r p o m f k context opaque nonce measured few
  at_short (Some c) few =
      let text : List ℕ = joined_with (under_way (chunks_of o.turns)) c in
      request_short r (inside p) (inside o) text f k context opaque nonce measured (subst (λ (l : List ChunkMessage). length (answer_bytes r (inside p) (joined_with (under_way l) c) f) ≤ MAX_MESSAGE_SIZE) chunks few)

  pub clear_short : length (clear_answer r p m f) ≤ MAX_MESSAGE_SIZE → length (clear_answer r o m k) ≤ MAX_MESSAGE_SIZE
  clear_short few =
      let same = chunk_same (chunk_in (request_at p m)) (chunk_in (request_at o m)) refl refl in
      subst (λ (c : Option ChunkMessage). length (answer_at r o m k c) ≤ MAX_MESSAGE_SIZE) same (at_short (chunk_in (request_at p m)) few)
