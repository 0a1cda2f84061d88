-- What a requester asks for on LargeResponse, and on a chunk that is not the last one, in the clear.
use Rattle.std.proofs.Common.{◌≡◌, ◌<◌, ◌+◌, ◌/◌, ◌%◌, ◌^◌, ◌==◌, ◌&&◌, ℕ, List, [], ◌∷◌, ◌++◌, refl, sym, ap, ◌∙◌, subst, drop, Bool, true, false, Option, Some, None, cond, inl, inr, arith}
use Rattle.std.specs.Prelude.{Result, Ok, Err, slice_index}
use Rattle.std.proofs.lemmas.Bool.{false≢true}
use Rattle.std.proofs.lemmas.Option.{none-some, same_Some}
use Rattle.byteorder.specs.Endian.{little_bytes}
use Rattle.negotiate.specs.declared.shared.Common.{Common}
use Rattle.chunking.specs.Collecting.{joined_with}
use Rattle.spdm_grammar.specs.ErrorNumber.{error_number}
use Rattle.spdm_grammar.specs.Fields.{FitsChunk, IsSoundChunk}
use Rattle.spdm_grammar.specs.Message.{ChunkMessage, RequestMessage, ResponseMessage}
use Rattle.spdm_grammar.specs.Message.ResponseMessage.{ChunkResponse, ChunkSendAck, Error}
use Rattle.spdm_grammar.specs.Message.RequestMessage.{GetVersion}
use Rattle.spdm_grammar.specs.Responses.{FitsResponse, IsSoundResponse, canonical_response, chunk_send_ack_layout, response_body, response_layout, response_reading}
use Rattle.spdm_grammar.specs.declared.messages.error_code.ErrorCode.TheVariants.{LargeResponse}
use Rattle.spdm_grammar.specs.declared.told.event.ReqIgnored.{ReqIgnored}
use Rattle.spdm_grammar.specs.declared.messages.malformed.Malformed.{Malformed}
use Rattle.spdm_grammar.specs.declared.names.spdm_version.TheConstants.{V1_2}
use Rattle.spdm_grammar.specs.declared.messages.part_faults.ChunkFault.{ChunkFault}
use Rattle.spdm_grammar.proofs.CanonicalResponses.{response_spelled}
use Rattle.spdm_grammar.proofs.Spelled.{Spelled, one, two}
use Rattle.spdm_grammar.proofs.Spellings.{spelling_read}
use Rattle.spdm_grammar.specs.declared.names.response_code.TheConstants.{CHUNK_SEND_ACK}
use Rattle.spdm_machine.specs.Terms.{hash_len}
use Rattle.requester_machine.specs.Answers.{answer_led, goes_on, is_refused, may_be_large}
use Rattle.requester_machine.specs.Asking.Outcome.{Adds}
use Rattle.requester_machine.specs.ClearAnswers.{ack_carries, ack_tests, acknowledged, carried_by, carried_led, chunk_carries, clear_led, collected, get_fault, has_summary, read_led, reading_of}
use Rattle.requester_machine.specs.Bodies.{first_cause}
use Rattle.requester_machine.specs.ClearAnswers.Carried.{Further, Whole}
use Rattle.requester_machine.specs.Commands.{Free}
use Rattle.requester_machine.specs.Hearing.{hears}
use Rattle.requester_machine.specs.History.{Entry, History, Led, connection_terms, outstanding, sent_in}
use Rattle.requester_machine.specs.History.Effect.{Nothing, Refuses}
use Rattle.requester_machine.specs.Message.{Aim, Sent, asked_in}
use Rattle.requester_machine.specs.Message.Aim.{Plain, ByChunks, ForChunk, InSession}
use Rattle.requester_machine.specs.Sending.{get_sent, piece_of, piece_sent}
use Rattle.requester_machine.specs.Setup.{ReqSetup}
use Rattle.requester_machine.proofs.Heard.{heard}
use Rattle.responder_machine.specs.Handling as handling
use Rattle.responder_machine.specs.Handling.{large_response}
use Rattle.capture_machine.specs.LargeAnswers.{is_fetching, is_for_chunk}
use Rattle.capture_machine.specs.Rounds.{no_draw}

-- LargeResponse with this handle, plain, or in the acknowledgement of a chunk.
abbrev pub large_reply : Option ChunkMessage → (handle : ℕ) → List ℕ
large_reply None handle = large_response handle
large_reply (Some c) handle = handling.acknowledged c (large_response handle)

-- ---- Reading.

reads_so : (v : ResponseMessage) (len : ℕ) (summary : Bool) → FitsResponse v → IsSoundResponse len summary v → response_reading len summary (canonical_response v) ≡ Ok v
reads_so v len summary fits sound = spelling_read (response_layout len summary) 0 v (canonical_response v) (response_spelled len summary v fits sound).is

reads_large : (len handle : ℕ) (summary : Bool) → response_reading len summary (large_response handle) ≡ Ok (Error V1_2 (error_number LargeResponse) 0 (handle ∷ []))
reads_large len handle summary = reads_so (Error V1_2 (error_number LargeResponse) 0 (handle ∷ [])) len summary (omega arith, omega arith) (inr refl, (λ e. absurd (omega (arith, e)), λ e. refl, omega arith))

-- An acknowledgement, with some handle and some number.
pub record IsAck (len : ℕ) (summary : Bool) (m response : List ℕ) : Type 0 where
  pub handle : ℕ
  pub number : ℕ
  pub reads : response_reading len summary m ≡ Ok (ChunkSendAck false handle number response)

number_bytes : (n : ℕ) → little_bytes 2 (n % 2 ^ 16) ≡ little_bytes 2 n
number_bytes n =
    let low : n % 2 ^ 16 % 256 ≡ n % 256 = omega arith in
    let high : n % 2 ^ 16 / 256 % 256 ≡ n / 256 % 256 = omega arith in
    ap (λ (x : ℕ). x ∷ n % 2 ^ 16 / 256 % 256 ∷ []) low ∙ ap (λ (x : ℕ). n % 256 ∷ x ∷ []) high

spells_ack : (len : ℕ) (summary : Bool) (handle number : ℕ) (response : List ℕ) → number < 2 ^ 16
    → Spelled (response_layout len summary) 0 (ChunkSendAck false handle number response) (canonical_response (ChunkSendAck false handle number response))
unfolding response_body chunk_send_ack_layout
spells_ack len summary handle number response few =
    one V1_2 refl (one CHUNK_SEND_ACK refl (one 0 refl (one handle refl (two number few refl (record { is = refl })))))

reads_ack : (len : ℕ) (summary : Bool) (c : ChunkMessage) (response : List ℕ) → IsAck len summary (handling.acknowledged c response) response
reads_ack len summary c response =
    let number : ℕ = c.number % 2 ^ 16 in
    let same : canonical_response (ChunkSendAck false c.handle number response) ≡ handling.acknowledged c response =
    ap (λ (l : List ℕ). V1_2 ∷ CHUNK_SEND_ACK ∷ 0 ∷ c.handle ∷ (l ++ response)) (number_bytes c.number) in
    let v : ResponseMessage = ChunkSendAck false c.handle number response in
    let read : response_reading len summary (canonical_response v) ≡ Ok v = spelling_read (response_layout len summary) 0 v (canonical_response v) (spells_ack len summary c.handle number response (omega arith)).is in
    record { handle = c.handle; number = number; reads = ap (response_reading len summary) (sym same) ∙ read }

module _ (q : ReqSetup) (h : History) (f : Free) where
  -- If a chunk is asked for, it is the first one under this handle.
  abbrev AsksFirst : RequestMessage → ℕ → Result Led ReqIgnored → Type 0
  AsksFirst a handle (Ok led) = is_fetching led.next ≡ true → led.next ≡ Some (get_sent h a handle 0 [])
  AsksFirst a handle (Err cause) = Unit {0}

  error_first : (a : RequestMessage) (handle : ℕ) (b : Bool) → AsksFirst a handle (Ok (cond b (goes_on Nothing (get_sent h a handle 0 [])) (is_refused (error_number LargeResponse) (Refuses a))))
  error_first a handle true = λ gets. refl
  error_first a handle false = λ gets. absurd (false≢true gets)

  whole_first : (at : ℕ) (a : RequestMessage) (handle : ℕ) → AsksFirst a handle (read_led q h f at a (large_response handle) (reading_of h a (large_response handle)))
  whole_first at a handle =
      subst (λ (x : Result ResponseMessage Malformed). AsksFirst a handle (read_led q h f at a (large_response handle) x)) (sym (reads_large (hash_len (connection_terms h)) handle (has_summary a)))
      (error_first a handle (may_be_large a && (connection_terms h).common.chunk))

  ack_is_none : (at : ℕ) (a : RequestMessage) (m response : List ℕ) (number other handle : ℕ) → AsksFirst a handle (answer_led q h f at a m (ChunkSendAck false number other response))
  ack_is_none at GetVersion m response number other handle = tt
  ack_is_none at _ m response number other handle = tt

  plain_first : (a : RequestMessage) (c : Option ChunkMessage) (handle : ℕ) → AsksFirst a handle (clear_led q h f (Plain a) a (large_reply c handle))
  unfolding clear_led carried_by
  plain_first a None handle = whole_first 0 a handle
  plain_first a (Some c) handle =
      let ack = reads_ack (hash_len (connection_terms h)) (has_summary a) c (large_response handle) in
      subst (λ (x : Result ResponseMessage Malformed). AsksFirst a handle (read_led q h f 0 a (large_reply (Some c) handle) x)) (sym ack.reads) (ack_is_none 0 a (large_reply (Some c) handle) (large_response handle) ack.handle ack.number handle)

  acked_first : (common : Common) (a : RequestMessage) (piece : ChunkMessage) (handle : ℕ) (cause : Option ReqIgnored) → AsksFirst a handle (carried_led q h f a (acknowledged h common a piece false (large_response handle) cause))
  acked_first common a piece handle (Some cause) = tt
  acked_first common a piece handle None = by_last piece.last
    where
      by_last : (b : Bool) → AsksFirst a handle (carried_led q h f a (cond b (Whole (large_response handle) 6) (Further (piece_sent common h a piece.handle (piece.number + 1)))))
      by_last true = whole_first 6 a handle
      by_last false = λ gets. absurd (false≢true gets)

  chunks_first : (a : RequestMessage) (own number : ℕ) (c : Option ChunkMessage) (handle : ℕ) → AsksFirst a handle (clear_led q h f (ByChunks a own number) a (large_reply c handle))
  unfolding clear_led carried_by
  chunks_first a own number None handle =
      subst (λ (x : Result ResponseMessage Malformed). AsksFirst a handle (carried_led q h f a (ack_carries h (connection_terms h).common a (piece_of (connection_terms h).common a own number) x))) (sym (reads_large (hash_len (connection_terms h)) handle (has_summary a)))
      (λ gets. absurd (false≢true gets))
  chunks_first a own number (Some c) handle =
      let common : Common = (connection_terms h).common in
      let piece : ChunkMessage = piece_of common a own number in
      let ack = reads_ack (hash_len (connection_terms h)) (has_summary a) c (large_response handle) in
      subst (λ (x : Result ResponseMessage Malformed). AsksFirst a handle (carried_led q h f a (ack_carries h common a piece x))) (sym ack.reads)
      (acked_first common a piece handle (first_cause (ack_tests piece false ack.handle ack.number (large_response handle))))

  led_first : (aim : Aim) (a : RequestMessage) (c : Option ChunkMessage) (handle : ℕ) → asked_in aim ≡ Some a → is_for_chunk aim ≡ false → AsksFirst a handle (clear_led q h f aim a (large_reply c handle))
  led_first (Plain x) a c handle is other = subst (λ (y : RequestMessage). AsksFirst a handle (clear_led q h f (Plain y) a (large_reply c handle))) (sym (same_Some x a is)) (plain_first a c handle)
  led_first (ByChunks x own number) a c handle is other = subst (λ (y : RequestMessage). AsksFirst a handle (clear_led q h f (ByChunks y own number) a (large_reply c handle))) (sym (same_Some x a is)) (chunks_first a own number c handle)
  led_first (ForChunk x own number before) a c handle is other = absurd (false≢true (sym other))
  led_first (InSession id ask) a c handle is other = absurd (none-some a is)

  -- If a chunk is asked for after one that is not the last, it is the next one.
  abbrev AsksNext : RequestMessage → ChunkMessage → List ChunkMessage → Result Led ReqIgnored → Type 0
  AsksNext a c before (Ok led) = is_fetching led.next ≡ true → led.next ≡ Some (get_sent h a c.handle (c.number + 1) (c ∷ before))
  AsksNext a c before (Err cause) = Unit {0}

  next_chunk : (a : RequestMessage) (c : ChunkMessage) (before : List ChunkMessage) (fault : Option ChunkFault) → c.last ≡ false → AsksNext a c before (carried_led q h f a (collected h a before c fault))
  next_chunk a c before (Some fault) more = tt
  next_chunk a c before None more =
      subst (λ (b : Bool). AsksNext a c before (carried_led q h f a (cond b (Whole (joined_with before c) 0) (Further (get_sent h a c.handle (c.number + 1) (c ∷ before)))))) (sym more) (λ gets. refl)

  led_next : (a : RequestMessage) (handle number : ℕ) (before : List ChunkMessage) (c : ChunkMessage) → FitsChunk c → IsSoundChunk c → c.last ≡ false
      → AsksNext a c before (clear_led q h f (ForChunk a handle number before) a (canonical_response (ChunkResponse c)))
  unfolding clear_led carried_by
  led_next a handle number before c fits sound more =
      subst (λ (x : Result ResponseMessage Malformed). AsksNext a c before (carried_led q h f a (chunk_carries q h a handle number before x))) (sym (reads_so (ChunkResponse c) (hash_len (connection_terms h)) (has_summary a) fits sound))
      (next_chunk a c before (get_fault q.max handle number before c) more)

-- ---- What was heard.

waits_none : (h : History) (sent : Sent) → outstanding h ≡ Some sent → is_fetching (outstanding h) ≡ false → is_for_chunk sent.aim ≡ false
waits_none h sent waits none = sym (ap is_fetching waits) ∙ none

module _ (q : ReqSetup) (h : History) (f : Free) (tag : ℕ) (answer : List ℕ) (entry : Entry) (adds : hears q h false tag answer f no_draw ≡ Adds entry) (type : (slice_index answer 0 == 5) ≡ true) where
  -- Where no chunk was asked for, it is the first one.
  pub heard_first : (c : Option ChunkMessage) (handle : ℕ) → is_fetching (outstanding h) ≡ false → drop 1 answer ≡ large_reply c handle → is_fetching (outstanding (entry ∷ h)) ≡ true
      → (a : RequestMessage) × (outstanding (entry ∷ h) ≡ Some (get_sent h a handle 0 []))
  heard_first c handle none is gets = elim (heard q h false tag answer f no_draw entry adds) [
    | inl t ↦
        let leads = subst (AsksFirst q h f t.asked handle) (ap (clear_led q h f t.sent.aim t.asked) (sym is) ∙ t.leads) (led_first q h f t.sent.aim t.asked c handle t.asks (waits_none h t.sent t.waits none)) in
        (t.asked, ap sent_in t.is ∙ leads (sym (ap (λ (e : Entry). is_fetching (sent_in e)) t.is) ∙ gets))
    | inr o ↦ absurd (false≢true (sym o.0 ∙ type))
  ]

  -- Where one was that is not the last, it is the next one.
  pub heard_next : (sent : Sent) (a : RequestMessage) (handle number : ℕ) (before : List ChunkMessage) (c : ChunkMessage) → outstanding h ≡ Some sent → sent.aim ≡ ForChunk a handle number before
      → FitsChunk c → IsSoundChunk c → c.last ≡ false → drop 1 answer ≡ canonical_response (ChunkResponse c) → is_fetching (outstanding (entry ∷ h)) ≡ true
      → outstanding (entry ∷ h) ≡ Some (get_sent h a c.handle (c.number + 1) (c ∷ before))
  heard_next sent a handle number before c waits aims fits sound more is gets = elim (heard q h false tag answer f no_draw entry adds) [
    | inl t ↦
        let same : t.sent ≡ sent = same_Some t.sent sent (sym t.waits ∙ waits) in
        let aim : t.sent.aim ≡ ForChunk a handle number before = ap (λ (s : Sent). s.aim) same ∙ aims in
        let asked : a ≡ t.asked = same_Some a t.asked (sym (ap asked_in aim) ∙ t.asks) in
        let led : clear_led q h f (ForChunk a handle number before) a (canonical_response (ChunkResponse c)) ≡ Ok t.led =
        ap (clear_led q h f (ForChunk a handle number before) a) (sym is) ∙ ap (λ (x : Aim). clear_led q h f x a (drop 1 answer)) (sym aim) ∙ ap (λ (x : RequestMessage). clear_led q h f t.sent.aim x (drop 1 answer)) asked ∙ t.leads in
        let leads = subst (AsksNext q h f a c before) led (led_next q h f a handle number before c fits sound more) in
        ap sent_in t.is ∙ leads (sym (ap (λ (e : Entry). is_fetching (sent_in e)) t.is) ∙ gets)
    | inr o ↦ absurd (false≢true (sym o.0 ∙ type))
  ]
