-- What is read of a response are the values that it shows, or ones that are too long.
use Rattle.std.proofs.Common.{◌≡◌, ◌-◌, ◌∙◌, ℕ, List, ap, inl, inr, sym, subst, length, Option, Some, None, arith, MatchOption}
use Rattle.responder_core.specs.Free.{IsFree}
use Rattle.responder_core.specs.declared.free_values.FreeValues.{FreeValues}
use Rattle.responder_machine.specs.Answer.{Free, answer_bytes, answer_of, answer_to, request_at}
use Rattle.responder_machine.specs.Place.{Place}
use Rattle.responder_machine.specs.Setup.{RspSetup}
use Rattle.spdm_grammar.specs.Message.{ExchangeMessage, RequestMessage}
use Rattle.spdm_grammar.specs.Message.RequestMessage.{GetVersion, GetCapabilities, NegotiateAlgorithms, GetMeasurements, PskExchange, PskFinish, Heartbeat, KeyUpdate, EndSession, ChunkSend, ChunkGet}
use Rattle.spdm_grammar.specs.Responses.{canonical_response}
use Rattle.check_responder.proofs.ReadLengths.{exchange_read_length}
use Rattle.check_responder.specs.JudgedResponder.{AreLonger, AreRead, AreTooLong, IsLongerContext, IsLongerOpaque, free_length}
use Rattle.check_laws.specs.AnswersShown.{lengthened}

module _ (r : RspSetup) (p : Place) (m : List ℕ) where
  answer_is : (f : Free) (a : RequestMessage) → request_at p m ≡ Some a → length (answer_bytes r p m f) ≡ length (canonical_response (answer_of r p m f a))
  unfolding answer_bytes
  answer_is f a is = ap (λ (o : Option RequestMessage). length (answer_to r p m f o)) is

  context_read : (g : Free) (e : ExchangeMessage) (x : Option FreeValues) → request_at p m ≡ Some (PskExchange e) → IsLongerContext g x → AreRead r p m g x
  context_read g e None is long = inl (let same = answer_is g (PskExchange e) is in let all = exchange_read_length r p m g e in omega (arith, same, all, long))
  context_read g e (Some values) is free = free

  opaque_read : (g : Free) (x : Option FreeValues) → IsLongerOpaque g x → AreRead r p m g x
  opaque_read g None long = inr long
  opaque_read g (Some values) free = free

  other_read : (f : Free) (x : Option FreeValues) → MatchOption x ⊥ (λ values. IsFree values f) → AreRead r p m f x
  other_read f None none = absurd none
  other_read f (Some values) free = free

  size_is : (f : Free) (n more : ℕ) (a : RequestMessage) → request_at p m ≡ Some a → more ≡ n - length (canonical_response (answer_of r p m f a)) → more ≡ n - length (answer_bytes r p m f)
  size_is f n more a is same = same ∙ ap (λ (k : ℕ). n - k) (sym (answer_is f a is))

  pub longer_read : (f : Free) (n more : ℕ) (x : Option FreeValues) (a : RequestMessage) → request_at p m ≡ Some a → more ≡ n - free_length r p m f a
      → AreLonger a (lengthened f (Some a) more) x → AreRead r p m (lengthened f (Some a) (n - length (answer_bytes r p m f))) x
  longer_read f n more x (PskExchange e) is same longer =
      subst (λ (k : ℕ). AreRead r p m (lengthened f (Some (PskExchange e)) k) x) (size_is f n more (PskExchange e) is same) (context_read (lengthened f (Some (PskExchange e)) more) e x is longer)
  longer_read f n more x (GetMeasurements op) is same longer =
      subst (λ (k : ℕ). AreRead r p m (lengthened f (Some (GetMeasurements op)) k) x) (size_is f n more (GetMeasurements op) is same) (opaque_read (lengthened f (Some (GetMeasurements op)) more) x longer)
  longer_read f n more x GetVersion is same longer = other_read f x longer
  longer_read f n more x (GetCapabilities caps) is same longer = other_read f x longer
  longer_read f n more x (NegotiateAlgorithms offer) is same longer = other_read f x longer
  longer_read f n more x (PskFinish verify) is same longer = other_read f x longer
  longer_read f n more x Heartbeat is same longer = other_read f x longer
  longer_read f n more x (KeyUpdate op tag) is same longer = other_read f x longer
  longer_read f n more x EndSession is same longer = other_read f x longer
  longer_read f n more x (ChunkSend chunk) is same longer = other_read f x longer
  longer_read f n more x (ChunkGet handle number) is same longer = other_read f x longer

  -- The handle does not make an answer longer.
  pub handle_long : (g : Free) (b : ℕ) → AreTooLong r p m g → AreTooLong r p m (record g { handle = b })
  unfolding answer_bytes
  handle_long g b long = long
