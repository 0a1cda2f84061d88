-- The least values that a responder may choose give the shortest answers.
use Rattle.std.proofs.Common.{◌≡◌, ◌≤◌, ◌-◌, ◌+◌, ◌⊎◌, ℕ, List, refl, inl, inr, length, Option, Some, None, arith, length-append}
use Rattle.std.proofs.lemmas.List.{length-replicate}
use Rattle.responder_machine.proofs.Ids.{free_id-range, free_id-unheld, not_four}
use Rattle.responder_machine.specs.Answer.{Free, answer_bytes, answer_to, request_at}
use Rattle.responder_machine.specs.History.{History}
use Rattle.responder_machine.specs.May.{IsAllowed}
use Rattle.responder_machine.specs.Place.{Place, held_of, place_terms}
use Rattle.responder_machine.specs.Setup.{RspSetup}
use Rattle.spdm_grammar.specs.Fields.{zeros}
use Rattle.spdm_grammar.specs.Message.{RequestMessage}
use Rattle.spdm_grammar.specs.Message.RequestMessage.{GetVersion, GetCapabilities, NegotiateAlgorithms, GetMeasurements, PskExchange, PskFinish, Heartbeat, KeyUpdate, EndSession, ChunkSend, ChunkGet}
use Rattle.spdm_machine.specs.Terms.{hash_len}
use Rattle.check_laws.proofs.AnswerLengths.{exchange_length, measured_length}
use Rattle.check_laws.specs.AnswersShown.{least_values, lengthened}

-- ---- The least values.

-- The values of least length at a place.
pub record AreLeast (p : Place) (k : Free) : Type 0 where
  pub context : length k.context ≡ hash_len (place_terms p)
  pub exchange_opaque : length k.exchange_opaque ≡ 0
  pub nonce : length k.nonce ≡ 32
  pub measured_opaque : length k.measured_opaque ≡ 0

-- The least values, with this padding.
abbrev pub padded : History → Place → (pad : List ℕ) → Free
padded h p pad = record (least_values h p) { pad = pad }

pub least_are : (h : History) (p : Place) (pad : List ℕ) → AreLeast p (padded h p pad)
least_are h p pad = record { context = length-replicate {A = ℕ} (hash_len (place_terms p)) 0; exchange_opaque = refl; nonce = refl; measured_opaque = refl }

pub least_allowed : (h : History) (p : Place) (pad : List ℕ) → length pad ≤ 16 → IsAllowed h p (padded h p pad)
least_allowed h p pad few = record {
  least = (free_id-range h).0;
  most = (free_id-range h).1;
  unused = λ room. free_id-unheld h (not_four (held_of h) room);
  context = (let long : length (zeros (hash_len (place_terms p))) ≡ hash_len (place_terms p) = length-replicate {A = ℕ} (hash_len (place_terms p)) 0 in omega (arith, long));
  exchange_opaque = omega arith;
  nonce = refl;
  measured_opaque = omega arith;
  handle = omega arith;
  reply = omega arith;
  pad = few;
}

-- ---- The answer to a request, at a place, under two choices.

abbrev pub size_of : RspSetup → Place → List ℕ → Option RequestMessage → Free → ℕ
size_of r p m o f = length (answer_to r p m f o)

module _ (r : RspSetup) (h : History) (p : Place) (m : List ℕ) (f k : Free) (fits : IsAllowed h p f) (may : IsAllowed h p k) (least : AreLeast p k) where
  -- The least values give the shortest answer.
  pub shortest : (o : Option RequestMessage) → size_of r p m o k ≤ size_of r p m o f
  shortest None = omega arith
  shortest (Some (PskExchange x)) =
      let a = exchange_length r p m f x in let b = exchange_length r p m k x in
      omega (arith, a, b, fits.context, least.context, least.exchange_opaque)
  shortest (Some (GetMeasurements op)) =
      let a = measured_length r f op in let b = measured_length r k op in
      omega (arith, a, b, fits.nonce, least.nonce, least.measured_opaque)
  shortest (Some GetVersion) = omega arith
  shortest (Some (GetCapabilities caps)) = omega arith
  shortest (Some (NegotiateAlgorithms offer)) = omega arith
  shortest (Some (PskFinish verify)) = omega arith
  shortest (Some Heartbeat) = omega arith
  shortest (Some (KeyUpdate op tag)) = omega arith
  shortest (Some EndSession) = omega arith
  shortest (Some (ChunkSend chunk)) = omega arith
  shortest (Some (ChunkGet handle number)) = omega arith

  pub no_longer : length (answer_bytes r p m k) ≤ length (answer_bytes r p m f)
  unfolding answer_bytes
  no_longer = shortest (request_at p m)

  -- How much longer the other answer is.
  abbrev pub more : Option RequestMessage → ℕ
  more o = size_of r p m o f - size_of r p m o k

  -- A longer answer has so many bytes more; or its length depends on no value.
  pub sized : (o : Option RequestMessage) (n : ℕ) → (size_of r p m o (lengthened k o n) ≡ size_of r p m o k + n) ⊎ (size_of r p m o (lengthened k o n) ≡ size_of r p m o f)
  sized None n = inr refl
  sized (Some (PskExchange x)) n =
      let a = exchange_length r p m (lengthened k (Some (PskExchange x)) n) x in let b = exchange_length r p m k x in
      let one = length-append k.context (zeros n) in let two = length-replicate {A = ℕ} n 0 in
      inl (omega (arith, a, b, one, two))
  sized (Some (GetMeasurements op)) n =
      let a = measured_length r (lengthened k (Some (GetMeasurements op)) n) op in let b = measured_length r k op in
      let one = length-append k.measured_opaque (zeros n) in let two = length-replicate {A = ℕ} n 0 in
      inl (omega (arith, a, b, one, two))
  sized (Some GetVersion) n = inr refl
  sized (Some (GetCapabilities caps)) n = inr refl
  sized (Some (NegotiateAlgorithms offer)) n = inr refl
  sized (Some (PskFinish verify)) n = inr refl
  sized (Some Heartbeat) n = inr refl
  sized (Some (KeyUpdate op tag)) n = inr refl
  sized (Some EndSession) n = inr refl
  sized (Some (ChunkSend chunk)) n = inr refl
  sized (Some (ChunkGet handle number)) n = inr refl

  pub as_long : (o : Option RequestMessage) → size_of r p m o (lengthened k o (more o)) ≡ size_of r p m o f
  as_long o = elim (sized o (more o)) [
    | inl grown ↦ (let less = shortest o in omega (arith, grown, less))
    | inr same ↦ same
  ]

  -- At most as many bytes longer it is allowed.
  pub longer_allowed : (o : Option RequestMessage) (n : ℕ) → n ≤ more o → IsAllowed h p (lengthened k o n)
  longer_allowed None n few = may
  longer_allowed (Some (PskExchange x)) n few =
      let one = length-append k.context (zeros n) in record {
        least = may.least;
        most = may.most;
        unused = may.unused;
        context = omega (arith, may.context);
        exchange_opaque = may.exchange_opaque;
        nonce = may.nonce;
        measured_opaque = may.measured_opaque;
        handle = may.handle;
        reply = may.reply;
        pad = may.pad;
      }
  longer_allowed (Some (GetMeasurements op)) n few =
      let a = measured_length r f op in let b = measured_length r k op in
      let one = length-append k.measured_opaque (zeros n) in let two = length-replicate {A = ℕ} n 0 in record {
        least = may.least;
        most = may.most;
        unused = may.unused;
        context = may.context;
        exchange_opaque = may.exchange_opaque;
        nonce = may.nonce;
        measured_opaque = omega (arith, a, b, one, two, few, fits.nonce, fits.measured_opaque, least.nonce, least.measured_opaque);
        handle = may.handle;
        reply = may.reply;
        pad = may.pad;
      }
  longer_allowed (Some GetVersion) n few = may
  longer_allowed (Some (GetCapabilities caps)) n few = may
  longer_allowed (Some (NegotiateAlgorithms offer)) n few = may
  longer_allowed (Some (PskFinish verify)) n few = may
  longer_allowed (Some Heartbeat) n few = may
  longer_allowed (Some (KeyUpdate op tag)) n few = may
  longer_allowed (Some EndSession) n few = may
  longer_allowed (Some (ChunkSend chunk)) n few = may
  longer_allowed (Some (ChunkGet handle number)) n few = may

-- No length depends on the handle.
pub handle_free : (r : RspSetup) (p : Place) (m : List ℕ) (v : Free) (handle : ℕ) (o : Option RequestMessage) → size_of r p m o (record v { handle = handle }) ≡ size_of r p m o v
handle_free r p m v handle None = refl
handle_free r p m v handle (Some (PskExchange x)) = refl
handle_free r p m v handle (Some (GetMeasurements op)) = refl
handle_free r p m v handle (Some GetVersion) = refl
handle_free r p m v handle (Some (GetCapabilities caps)) = refl
handle_free r p m v handle (Some (NegotiateAlgorithms offer)) = refl
handle_free r p m v handle (Some (PskFinish verify)) = refl
handle_free r p m v handle (Some Heartbeat) = refl
handle_free r p m v handle (Some (KeyUpdate op tag)) = refl
handle_free r p m v handle (Some EndSession) = refl
handle_free r p m v handle (Some (ChunkSend chunk)) = refl
handle_free r p m v handle (Some (ChunkGet other number)) = refl

pub longer_pad : (k : Free) (o : Option RequestMessage) (n : ℕ) → (lengthened k o n).pad ≡ k.pad
longer_pad k None n = refl
longer_pad k (Some GetVersion) n = refl
longer_pad k (Some (GetCapabilities caps)) n = refl
longer_pad k (Some (NegotiateAlgorithms offer)) n = refl
longer_pad k (Some (GetMeasurements op)) n = refl
longer_pad k (Some (PskExchange x)) n = refl
longer_pad k (Some (PskFinish verify)) n = refl
longer_pad k (Some Heartbeat) n = refl
longer_pad k (Some (KeyUpdate op tag)) n = refl
longer_pad k (Some EndSession) n = refl
longer_pad k (Some (ChunkSend chunk)) n = refl
longer_pad k (Some (ChunkGet handle number)) n = refl
