-- What is read of an answer in the clear are the values that it shows.
use Rattle.std.proofs.Common.{◌≡◌, ◌≤◌, ◌<◌, ◌+◌, ◌∙◌, ◌++◌, ◌∷◌, ℕ, List, [], Bool, true, false, ap, sym, refl, length, min, not, nat_eq, nat_lt, inl, inr, is_some, length-append, Option, Some, None, arith}
use Rattle.std.proofs.lemmas.Grind.{common_steps}
use Rattle.std.specs.Prelude.{if◌then◌else◌, slice_index}
use Rattle.chunking.proofs.FewChunks.{most, not_too_large}
use Rattle.chunking.specs.Collecting.{broken_rule, first_rule, joined, joined_with, later_rule, size_rule, told_by, told_size, under_way}
use Rattle.responder_core.specs.declared.free_values.FreeValues.{FreeValues}
use Rattle.responder_machine.proofs.Tests.{contents_shown}
use Rattle.responder_machine.specs.Answer.{Free, request_at}
use Rattle.responder_machine.specs.Handling.{chunk_in, turn_by, turn_of}
use Rattle.responder_machine.specs.History.{History}
use Rattle.responder_machine.specs.LargeMessages.{chunks_of}
use Rattle.responder_machine.specs.Place.{Place, clear_place, inside}
use Rattle.responder_machine.specs.Refusal.{chunk_fault, refusal}
use Rattle.responder_machine.specs.Setup.{RspSetup}
use Rattle.spdm_basis.proofs.Options.{none_out}
use Rattle.spdm_grammar.specs.Message.{ChunkMessage, RequestMessage}
use Rattle.spdm_grammar.specs.Message.RequestMessage.{ChunkSend}
use Rattle.spdm_grammar.specs.declared.ChunkFault.{ChunkFault}
use Rattle.spdm_grammar.specs.declared.ChunkFault.TheVariants.{WrongHandle, WrongNumber}
use Rattle.spdm_grammar.specs.declared.messages.error_code.ErrorCode.{ErrorCode}
use Rattle.spdm_grammar.specs.declared.names.TheConstants.{MAX_MESSAGE_SIZE}
use Rattle.spdm_grammar.specs.declared.names.response_code.TheConstants.{CHUNK_SEND_ACK}
use Rattle.check_responder.specs.JudgedResponder.{AreRead}
use Rattle.check_responder.specs.ShownBy.{AnswersSo, AreReadClear}
use Rattle.capture_machine.proofs.TurnsAlike.{chunk_is}
use Rattle.capture_machine.specs.CapturedAnswers.{answer_at}

-- ---- A large request is no longer than its first chunk told.

within : (told held : ℕ) (c : ChunkMessage) → size_rule told held c ≡ None → held + length c.chunk ≤ told
within told held c e = grind (arith, common_steps)

of_message : (handle number : Bool) (rule : Option ChunkFault) → (if not handle then Some WrongHandle else (if not number then Some WrongNumber else rule)) ≡ None → rule ≡ None
of_message true true rule e = e
of_message true false rule e = absurd (cc)
of_message false number rule e = absurd (cc)

joined_few : (zero : Bool) (max : ℕ) (before : List ChunkMessage) (c : ChunkMessage) → told_size before ≤ MAX_MESSAGE_SIZE → (if zero then first_rule max c else later_rule before c) ≡ None
    → length (if zero then c.chunk else joined before ++ c.chunk) ≤ MAX_MESSAGE_SIZE
joined_few true max before c few none =
    let parts = not_too_large (nat_lt (min max MAX_MESSAGE_SIZE) (told_by c)) (size_rule (told_by c) 0 c) none in
    let small = most max (told_by c) parts.0 in
    let fits = within (told_by c) 0 c parts.1 in
    omega (arith, small, fits)
joined_few false max [] c few none = absurd (cc)
joined_few false max (d ∷ earlier) c few none =
    let fits = within (told_size (d ∷ earlier)) (length (joined (d ∷ earlier))) c (of_message _ _ _ none) in
    let long = length-append (joined (d ∷ earlier)) c.chunk in
    omega (arith, few, fits, long)

module _ (r : RspSetup) (h : History) (m reply : List ℕ) where
  abbrev p : Place
  p = clear_place h

  -- ---- A message that is no chunk.

  not_plain : (f : Free) → chunk_in (request_at p m) ≡ None → AreRead r p m f None → AnswersSo r h m reply f → ⊥
  not_plain f none (inl long) so = (let same = ap (λ (c : Option ChunkMessage). length (answer_at r p m f c)) none in let short = so.short in omega (arith, long, same, short))
  not_plain f none (inr long) so = (let most = so.allowed.measured_opaque in omega (arith, long, most))

  pub read_plain : (f : Free) (x : Option FreeValues) → chunk_in (request_at p m) ≡ None → AreRead r p m f x → AreReadClear r h m reply f x
  read_plain f None none long = not_plain f none long
  read_plain f (Some values) none free = free

  -- ---- The last chunk of a large request.

  abbrev whole : ChunkMessage → List ℕ
  whole c = joined_with (under_way (chunks_of p.turns)) c

  not_whole : (c : ChunkMessage) (f : Free) → chunk_in (request_at p m) ≡ Some c → AreRead r (inside p) (whole c) f None → AnswersSo r h m reply f → ⊥
  not_whole c f some (inl long) so = (let same = ap (λ (x : Option ChunkMessage). length (answer_at r p m f x)) some in let short = so.short in omega (arith, long, same, short))
  not_whole c f some (inr long) so = (let most = so.allowed.measured_opaque in omega (arith, long, most))

  pub read_whole : (c : ChunkMessage) (f : Free) (x : Option FreeValues) → chunk_in (request_at p m) ≡ Some c → AreRead r (inside p) (whole c) f x → AreReadClear r h m reply f x
  read_whole c f None some long = not_whole c f some long
  read_whole c f (Some values) some free = free

  -- What is acknowledged is not refused.
  taken : (f : Free) (o : Option ErrorCode) → slice_index (turn_by r p m f o (chunk_in (request_at p m))).reply 1 ≡ slice_index reply 1 → slice_index reply 1 ≡ CHUNK_SEND_ACK → o ≡ None
  taken f None is ack = refl
  taken f (Some e) is ack = absurd (let other = is ∙ ack in omega (arith, other))

  acked_taken : (f : Free) → AnswersSo r h m reply f → slice_index reply 1 ≡ CHUNK_SEND_ACK → refusal r p m f ≡ None
  unfolding turn_of
  acked_taken f so ack = taken f (refusal r p m f) so.answered ack

  -- So the large request that it completes has no more than 4,096 bytes.
  pub no_room : (c : ChunkMessage) (f : Free) → told_size (under_way (chunks_of p.turns)) ≤ MAX_MESSAGE_SIZE → chunk_in (request_at p m) ≡ Some c → slice_index reply 1 ≡ CHUNK_SEND_ACK
      → MAX_MESSAGE_SIZE < length (whole c) → AnswersSo r h m reply f → ⊥
  no_room c f few some ack long so =
      let none = contents_shown r p m f (acked_taken f so ack) 8 in
      let rule : broken_rule r.max (under_way (chunks_of p.turns)) c ≡ None =
      none_out (chunk_fault r p (Some (ChunkSend c))) (ap (λ (x : Option RequestMessage). is_some (chunk_fault r p x)) (sym (chunk_is (request_at p m) c some)) ∙ none) in
      let short = joined_few (nat_eq c.number 0) r.max (under_way (chunks_of p.turns)) c few rule in
      omega (arith, long, short)
