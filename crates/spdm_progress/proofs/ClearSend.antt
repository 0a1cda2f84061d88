-- A request is sent in chunks in the clear: what the two ends make of each CHUNK_SEND and its acknowledgement.
use Rattle.std.proofs.Common.{◌≡◌, ◌∙◌, ℕ, zero, suc, ◌<◌, ◌≤◌, ◌+◌, ◌==◌, ◌&&◌, not, List, [], ◌∷◌, length, Bool, true, false, Option, Some, None, Result, Ok, refl, sym, ap, subst, arith, eq-eqb}
use Rattle.std.specs.Prelude.{bytes_eq, if◌then◌else◌, slice_index}
use Rattle.std.proofs.lemmas.Bool.{false≢true, ne_eqb}
use Rattle.chunking.specs.Collecting.{broken_rule, joined_with, under_way}
use Rattle.chunking.specs.Cutting.{IsCollectable, chunk_count, chunks_before, nth_chunk}
use Rattle.requester_machine.specs.Answers.{goes_on}
use Rattle.requester_machine.specs.Asking.Outcome.{Adds as AddsHere}
use Rattle.requester_machine.specs.Bodies.{body_fault, first_cause}
use Rattle.requester_machine.specs.ClearAnswers.{ack_carries, ack_tests, acknowledged, carried_by, carried_led, clear_led, read_led, reading_of}
use Rattle.requester_machine.specs.ClearAnswers.Carried.{Further, Whole}
use Rattle.requester_machine.specs.Commands.{Free as FreeHere}
use Rattle.requester_machine.specs.Does.{body_chosen, requester_hears}
use Rattle.requester_machine.specs.Hearing.{clear_outcome, hears, hears_by}
use Rattle.requester_machine.specs.History as asked
use Rattle.requester_machine.specs.History.{Led, outstanding}
use Rattle.requester_machine.specs.History.Effect.{Nothing}
use Rattle.requester_machine.specs.History.Entry.{TookClear}
use Rattle.requester_machine.specs.Message.{Sent}
use Rattle.requester_machine.specs.Message.Aim.{ByChunks}
use Rattle.requester_machine.specs.Message.Content.{Clear as ClearContent}
use Rattle.requester_machine.specs.Sending.{piece_of, piece_sent}
use Rattle.requester_machine.specs.Setup.{ReqSetup}
use Rattle.responder_machine.specs.Answer.{Free, request_at}
use Rattle.responder_machine.specs.History as served
use Rattle.responder_machine.specs.Handling.{carried_turn, chunk_in, chunk_turn, last_chunk_turn, request_effect, request_reply, taken_chunk, turn_by, turn_of}
use Rattle.responder_machine.specs.LargeMessages.{chunks_of}
use Rattle.responder_machine.specs.Place.{Place, clear_place, inside, place_terms}
use Rattle.responder_machine.specs.Refusal.{has_pending, lacks_flag, phase_allows, refusal}
use Rattle.responder_machine.specs.Setup.{RspSetup}
use Rattle.responder_machine.specs.Turn.{Turn}
use Rattle.responder_machine.specs.Turn.Effect.{NoEffect}
use Rattle.spdm_basis.proofs.Bools.{lt_false}
use Rattle.spdm_grammar.specs.Message.{ChunkMessage, RequestMessage, ResponseMessage}
use Rattle.spdm_grammar.specs.Message.RequestMessage.{ChunkSend}
use Rattle.spdm_grammar.specs.Message.ResponseMessage.{ChunkSendAck}
use Rattle.spdm_grammar.specs.Requests.{canonical_request}
use Rattle.spdm_grammar.specs.Responses.{canonical_response}
use Rattle.spdm_grammar.specs.declared.messages.error_code.ErrorCode.{ErrorCode}
use Rattle.spdm_grammar.specs.declared.told.event.ReqIgnored.{ReqIgnored}
use Rattle.spdm_grammar.specs.declared.told.event.ReqIgnored.TheVariants as ignored
use Rattle.spdm_grammar.specs.declared.messages.malformed.Malformed.{Malformed}
use Rattle.spdm_grammar.specs.declared.names.TheConstants.{MAX_MESSAGE_SIZE, MIN_DATA_TRANSFER_SIZE}
use Rattle.spdm_grammar.specs.declared.names.request_code.TheConstants.{CHUNK_SEND}
use Rattle.spdm_machine.specs.Bodies.{clear_body}
use Rattle.spdm_machine.specs.Keys.{Draw}
use Rattle.spdm_machine.specs.Terms.{Terms, hash_len, terms_of}
use Rattle.transcript.specs.Transcripts.{Negotiation}
use Rattle.capture_machine.proofs.SmallGets.{get_fits}
use Rattle.spdm_progress.proofs.ChunkRules.{breaks_none, fits_chunk, last_whole, sound_chunk}
use Rattle.spdm_progress.proofs.ClearFetch.{differ, reads_so}
use Rattle.spdm_progress.proofs.ResponderStages.{Takes, not_too_long}
use Rattle.spdm_progress.proofs.ResponderTurns.{contents_passed, form_passed, not_refused, read_at}
use Rattle.requester_machine.specs.ClearAnswers.{has_summary}

-- The transfer size of the responder, as it was negotiated.
abbrev pub transfer_there : Negotiation → ℕ
transfer_there n = (terms_of n).common.to_responder.transfer

abbrev pub send_chunk : ChunkMessage → List ℕ
send_chunk c = canonical_request (ChunkSend c)

-- An acknowledgement with this response in it.
abbrev pub ack_of : ChunkMessage → List ℕ → List ℕ
ack_of c response = canonical_response (ChunkSendAck false c.handle c.number response)

-- What the set-ups and the negotiation are where a request of these bytes is sent in chunks in the clear.
pub record CanSend (q : ReqSetup) (r : RspSetup) (m : List ℕ) (n : Negotiation) : Type 0 where
  pub chunk : (terms_of n).common.chunk ≡ true
  pub large : transfer_there n < length m
  pub transfer : transfer_there n ≡ r.transfer
  pub fits : length m ≤ r.max
  pub least : MIN_DATA_TRANSFER_SIZE ≤ r.transfer
  pub most : r.max ≤ MAX_MESSAGE_SIZE
  pub room : MIN_DATA_TRANSFER_SIZE ≤ q.transfer
  pub room_there : MIN_DATA_TRANSFER_SIZE ≤ (terms_of n).common.to_requester.transfer
  pub room_max : MIN_DATA_TRANSFER_SIZE ≤ (terms_of n).common.to_requester.max

long_piece : (c : ChunkMessage) → 4 ≤ length (send_chunk c)
long_piece c = omega arith

chunk_flag : (terms : Terms) → terms.common.chunk ≡ true → lacks_flag terms CHUNK_SEND ≡ false
chunk_flag terms e = rw e refl

-- A chunk that is taken.
pub chunk_taken : (r : RspSetup) (p : Place) (m : List ℕ) (f : Free) (c : ChunkMessage) → request_at p m ≡ Some (ChunkSend c) → refusal r p m f ≡ None → turn_of r p m f ≡ chunk_turn r p m f c
unfolding turn_of
chunk_taken r p m f c is taken =
    ap (λ (o : Option ErrorCode). turn_by r p m f o (chunk_in (request_at p m))) taken
    ∙ ap (λ (o : Option RequestMessage). turn_by r p m f None (chunk_in o)) is

-- CHUNK_SEND for the chunk of this number is outstanding.
abbrev pub sending : (v : RequestMessage) → (tag handle j : ℕ) → ChunkMessage → Sent
sending v tag handle j c = record { tag = tag; content = ClearContent (send_chunk c); aim = ByChunks v handle j }

no_body_fault : (q : ReqSetup) (v : RequestMessage) (tag handle j : ℕ) (c : ChunkMessage) (m : List ℕ) → length m ≤ q.transfer → body_fault q (Some (sending v tag handle j c)) false tag (clear_body m) ≡ None
unfolding body_fault
no_body_fault q v tag handle j c m fits = rw (eq-eqb tag tag refl, lt_false q.transfer (length m) fits) refl

heard_ack : (q : ReqSetup) (h : asked.History) (f : FreeHere) (v : RequestMessage) (tag handle j : ℕ) (c : ChunkMessage) (m : List ℕ) (d : Draw) → outstanding h ≡ Some (sending v tag handle j c) → length m ≤ q.transfer
    → hears q h false tag (clear_body m) f d ≡ clear_outcome tag m d (clear_led q h f (ByChunks v handle j) v m)
unfolding hears
heard_ack q h f v tag handle j c m d is fits =
    ap (λ (o : Option Sent). hears_by q h f tag (clear_body m) d o (body_fault q o false tag (clear_body m))) is
    ∙ ap (λ (o : Option ReqIgnored). hears_by q h f tag (clear_body m) d (Some (sending v tag handle j c)) o) (no_body_fault q v tag handle j c m fits)

led_ack : (q : ReqSetup) (h : asked.History) (f : FreeHere) (v : RequestMessage) (handle j : ℕ) (m response : List ℕ) (number : ℕ) → reading_of h v m ≡ Ok (ChunkSendAck false handle number response)
    → clear_led q h f (ByChunks v handle j) v m
    ≡ carried_led q h f v (acknowledged h (asked.connection_terms h).common v (piece_of (asked.connection_terms h).common v handle j) false response (first_cause (ack_tests (piece_of (asked.connection_terms h).common v handle j) false handle number response)))
unfolding clear_led carried_by
led_ack q h f v handle j m response number reads =
    ap (λ (x : Result ResponseMessage Malformed). carried_led q h f v (ack_carries h (asked.connection_terms h).common v (piece_of (asked.connection_terms h).common v handle j) x)) reads

right_ack : (a b last empty : Bool) → a ≡ true → b ≡ true → (last ≡ false → empty ≡ true) → (cause : ReqIgnored) (other third fourth : ReqIgnored)
    → (if not a then Some cause else (if not b then Some other else (if false then Some third else (if not last && not empty then Some fourth else None)))) ≡ None
right_ack a b true empty x y z cause other third fourth = rw (x, y) refl
right_ack a b false empty x y z cause other third fourth = rw (x, y, z refl) refl

module _ (q : ReqSetup) (r : RspSetup) (v : RequestMessage) (n : Negotiation) (can : CanSend q r (canonical_request v) n) (handle : ℕ) (small : handle < 256) where
  abbrev pub m : List ℕ
  m = canonical_request v

  abbrev pub count : ℕ
  count = chunk_count (transfer_there n) m

  abbrev pub piece : ℕ → ChunkMessage
  piece j = nth_chunk (transfer_there n) handle m j

  abbrev pub before : ℕ → List ChunkMessage
  before j = chunks_before (transfer_there n) handle m j

  pub collectable : IsCollectable r.max (transfer_there n) m
  collectable =
      let transfer = can.transfer in
      let least = can.least in
      let large = can.large in
      let fits = can.fits in
      let most = can.most in
      record { low = omega (arith, transfer, least); large = omega (arith, large); fits = fits; short = omega (arith, fits, most) }

  -- The chunks before this one are in progress; the first one starts over.
  abbrev pub AreHeld : (j : ℕ) → List Turn → Type 0
  AreHeld zero turns = Unit {0}
  AreHeld (suc j) turns = under_way (chunks_of turns) ≡ before (suc j)

  breaks_no_rule : (j : ℕ) (turns : List Turn) → j < count → AreHeld j turns → broken_rule r.max (under_way (chunks_of turns)) (piece j) ≡ None
  breaks_no_rule zero turns within held = breaks_none r.max (transfer_there n) handle m collectable 0 within
  breaks_no_rule (suc j) turns within held =
      ap (λ (l : List ChunkMessage). broken_rule r.max l (piece (suc j))) held ∙ breaks_none r.max (transfer_there n) handle m collectable (suc j) within

  joins : (j : ℕ) (turns : List Turn) → j < count → AreHeld j turns → (j + 1 == count) ≡ true → joined_with (under_way (chunks_of turns)) (piece j) ≡ m
  joins zero turns within held last = last_whole r.max (transfer_there n) handle m collectable 0 within last
  joins (suc j) turns within held last =
      ap (λ (l : List ChunkMessage). joined_with l (piece (suc j))) held ∙ last_whole r.max (transfer_there n) handle m collectable (suc j) within last

  -- With a further one that is not the last.
  pub held_next : (j : ℕ) (text : List ℕ) (turns : List Turn) → (j + 1 == count) ≡ false → AreHeld j turns → AreHeld (suc j) (taken_chunk text (piece j) NoEffect [] ∷ turns)
  held_next zero text turns more held = ap (λ (b : Bool). if b then [] else piece 0 ∷ []) more
  held_next (suc j) text turns more held =
      ap (λ (b : Bool). if b then [] else (if suc j == 0 then piece (suc j) ∷ [] else piece (suc j) ∷ under_way (chunks_of turns))) more
      ∙ ap (λ (b : Bool). if b then piece (suc j) ∷ [] else piece (suc j) ∷ under_way (chunks_of turns)) (ne_eqb (suc j) 0 (λ e. omega (arith, e)))
      ∙ ap (λ (l : List ChunkMessage). piece (suc j) ∷ l) held

  pub few_bytes : (j : ℕ) → length (send_chunk (piece j)) ≤ r.transfer
  few_bytes j = (let transfer = can.transfer in let least = can.least in subst (λ (k : ℕ). length (send_chunk (piece j)) ≤ k) transfer (get_fits (transfer_there n) handle j m (omega (arith, transfer, least))))

  -- Each differs from the one before it.
  pub pieces_other : (j : ℕ) → send_chunk (piece j) ≡ send_chunk (piece (suc j)) → ⊥
  pieces_other j e = (let number : slice_index (send_chunk (piece j)) 4 ≡ slice_index (send_chunk (piece (suc j))) 4 = ap (λ (l : List ℕ). slice_index l 4) e in omega (arith, number))

  pub pieces_differ : (j : ℕ) → bytes_eq (send_chunk (piece j)) (send_chunk (piece (suc j))) ≡ false
  pieces_differ j = differ (send_chunk (piece j)) (send_chunk (piece (suc j))) (bytes_eq (send_chunk (piece j)) (send_chunk (piece (suc j)))) refl (pieces_other j)

  -- ---- The responder.

  module _ (g : served.History) (f : Free) (under : served.negotiation_of (served.clear_turns g) ≡ n) (allowed : (pending : Bool) → phase_allows (served.phase_of (served.clear_turns g)) pending CHUNK_SEND ≡ true)
      (j : ℕ) (within : j < count) (held : AreHeld j (served.clear_turns g)) where
    abbrev place : Place
    place = clear_place g

    abbrev text : List ℕ
    text = send_chunk (piece j)

    reads_piece : request_at place text ≡ Some (ChunkSend (piece j))
    reads_piece = read_at place (ChunkSend (piece j)) (fits_chunk r.max (transfer_there n) handle m collectable j small within) (sound_chunk r.max (transfer_there n) handle m collectable j)

    takes_ack : Takes place (length (ack_of (piece j) []))
    takes_ack =
        let room = can.room_max in
        let there = can.room_there in
        record { both = λ known. subst (λ (k : Negotiation). (6 ≤ (terms_of k).common.to_requester.max) × (6 ≤ (terms_of k).common.to_requester.transfer)) (sym under) (omega (arith, room), omega (arith, there)) }

    piece_taken : refusal r place text f ≡ None
    piece_taken =
        not_refused r place text f
        (form_passed r place text (ChunkSend (piece j)) reads_piece (record {
          long = lt_false (length text) 4 (long_piece (piece j));
          short = lt_false r.transfer (length text) (few_bytes j);
          known = refl;
          outside = refl;
          whole = refl;
          placed = refl;
          allowed = allowed (has_pending place);
          version = refl;
        }))
        (contents_passed r place text f (ChunkSend (piece j)) reads_piece (record {
          flags = chunk_flag (place_terms place) (ap (λ (k : Negotiation). (terms_of k).common.chunk) under ∙ can.chunk);
          caps = refl;
          offer = refl;
          block = refl;
          exchange = refl;
          verify = refl;
          update = refl;
          chunk = breaks_no_rule j (served.clear_turns g) within held;
          get = refl;
          fits = not_too_long g (ack_of (piece j) []) takes_ack;
          limit = refl;
        }))

    turn_is : turn_of r place text f ≡ chunk_turn r place text f (piece j)
    turn_is = chunk_taken r place text f (piece j) reads_piece piece_taken

    pub piece_turn : (j + 1 == count) ≡ false → turn_of r place text f ≡ taken_chunk text (piece j) NoEffect []
    piece_turn more =
        turn_is
        ∙ ap (λ (b : Bool). if b then last_chunk_turn r (inside place) text f (piece j) (joined_with (under_way (chunks_of place.turns)) (piece j)) else taken_chunk text (piece j) NoEffect []) more

    pub last_turn : (j + 1 == count) ≡ true → refusal r (inside place) m f ≡ None → turn_of r place text f ≡ taken_chunk text (piece j) (request_effect r (inside place) m f) (request_reply r (inside place) m f)
    last_turn last taken =
        turn_is
        ∙ ap (λ (b : Bool). if b then last_chunk_turn r (inside place) text f (piece j) (joined_with (under_way (chunks_of place.turns)) (piece j)) else taken_chunk text (piece j) NoEffect []) last
        ∙ ap (λ (whole : List ℕ). last_chunk_turn r (inside place) text f (piece j) whole) (joins j place.turns within held last)
        ∙ ap (λ (o : Option ErrorCode). carried_turn r (inside place) text f (piece j) m o) taken

  -- ---- The requester, of an acknowledgement.

  pub piece_here_at : (h : asked.History) → asked.negotiation_of h ≡ n → (j : ℕ) → piece_of (asked.connection_terms h).common v handle j ≡ piece j
  piece_here_at h under j = ap (λ (k : Negotiation). nth_chunk (terms_of k).common.to_responder.transfer handle m j) under

  module _ (h : asked.History) (tag j : ℕ) (d : Draw) (under : asked.negotiation_of h ≡ n) (within : j < count) (waits : outstanding h ≡ Some (sending v tag handle j (piece j))) where
    piece_here : piece_of (asked.connection_terms h).common v handle j ≡ piece j
    piece_here = piece_here_at h under j

    ack_reads : (response : List ℕ) → reading_of h v (ack_of (piece j) response) ≡ Ok (ChunkSendAck false handle j response)
    ack_reads response = reads_so (ChunkSendAck false handle j response) (hash_len (asked.connection_terms h)) (has_summary v) (small, (fits_chunk r.max (transfer_there n) handle m collectable j small within).number) tt

    hears_ack : (response : List ℕ) → length (ack_of (piece j) response) ≤ q.transfer → ((j + 1 == count) ≡ false → (length response == 0) ≡ true)
        → requester_hears q h false tag (clear_body (ack_of (piece j) response)) d
        ≡ clear_outcome tag (ack_of (piece j) response) d (carried_led q h (body_chosen q h d) v (acknowledged h (asked.connection_terms h).common v (piece j) false response None))
    hears_ack response fits empty =
        let common = (asked.connection_terms h).common in
        heard_ack q h (body_chosen q h d) v tag handle j (piece j) (ack_of (piece j) response) d waits fits
        ∙ ap (clear_outcome tag (ack_of (piece j) response) d)
        (led_ack q h (body_chosen q h d) v handle j (ack_of (piece j) response) response j (ack_reads response)
        ∙ ap (λ (c : ChunkMessage). carried_led q h (body_chosen q h d) v (acknowledged h common v c false response (first_cause (ack_tests c false handle j response)))) piece_here
        ∙ ap (λ (o : Option ReqIgnored). carried_led q h (body_chosen q h d) v (acknowledged h common v (piece j) false response o))
        (right_ack (handle == handle) (j == j) (j + 1 == count) (length response == 0) (eq-eqb handle handle refl) (eq-eqb j j refl) empty (ignored.Malformed 3) (ignored.Malformed 4) (ignored.Malformed 6) (ignored.Malformed 6)))

    pub heard_more : length (ack_of (piece j) []) ≤ q.transfer → (j + 1 == count) ≡ false
        → requester_hears q h false tag (clear_body (ack_of (piece j) [])) d ≡ AddsHere (TookClear tag (ack_of (piece j) []) (goes_on Nothing (piece_sent (asked.connection_terms h).common h v handle (j + 1))) d)
    heard_more fits more =
        hears_ack [] fits (λ e. refl)
        ∙ ap (λ (b : Bool). clear_outcome tag (ack_of (piece j) []) d (carried_led q h (body_chosen q h d) v (if b then Whole [] 6 else Further (piece_sent (asked.connection_terms h).common h v handle (j + 1))))) more

    pub heard_whole : (response : List ℕ) → length (ack_of (piece j) response) ≤ q.transfer → (j + 1 == count) ≡ true
        → requester_hears q h false tag (clear_body (ack_of (piece j) response)) d ≡ clear_outcome tag (ack_of (piece j) response) d (read_led q h (body_chosen q h d) 6 v response (reading_of h v response))
    heard_whole response fits last =
        hears_ack response fits (λ e. absurd (false≢true (sym e ∙ last)))
        ∙ ap (λ (b : Bool). clear_outcome tag (ack_of (piece j) response) d (carried_led q h (body_chosen q h d) v (if b then Whole response 6 else Further (piece_sent (asked.connection_terms h).common h v handle (j + 1))))) last
