-- NEGOTIATE_ALGORITHMS is sent in chunks: what the two ends make of each CHUNK_SEND, and of the answer in the last
-- acknowledgement, which is ALGORITHMS or ERROR LargeResponse.
use Rattle.std.proofs.Common.{◌≡◌, ◌∙◌, ℕ, suc, ◌<◌, ◌≤◌, ◌+◌, ◌==◌, ◌&&◌, List, [], length, nat_lt, Bool, true, false, Some, None, refl, sym, ap, subst, arith, add-one}
use Rattle.std.specs.Prelude.{bytes_eq, if◌then◌else◌, slice_index}
use Rattle.chunking.specs.Cutting.{nth_chunk}
use Rattle.negotiate.specs.Choosing.{selected}
use Rattle.requester_machine.specs.Answers.{goes_on}
use Rattle.requester_machine.specs.Does.{body_chosen}
use Rattle.requester_machine.specs.Hearing.{clear_outcome}
use Rattle.requester_machine.specs.History as asked
use Rattle.requester_machine.specs.History.{outstanding}
use Rattle.requester_machine.specs.History.Effect.{Nothing}
use Rattle.requester_machine.specs.Sending.{get_sent, piece_sent}
use Rattle.requester_machine.specs.Setup.{ReqSetup}
use Rattle.responder_machine.specs.Answer.{request_at}
use Rattle.responder_machine.specs.Does.{chosen, clear_chosen}
use Rattle.responder_machine.specs.Handling.{goes_large, large_response, request_reply, taken_chunk, turn_of}
use Rattle.responder_machine.specs.History as served
use Rattle.responder_machine.specs.Place.{clear_place, inside}
use Rattle.responder_machine.specs.Refusal.{is_answer_too_long, phase_allows, sizes_are_known}
use Rattle.responder_machine.specs.Setup.{RspSetup, policy_of}
use Rattle.responder_machine.specs.Turn.{Effect}
use Rattle.responder_machine.specs.Turn.Effect.{NoEffect, Took}
use Rattle.spdm_basis.proofs.Bools.{lt_false}
use Rattle.spdm_grammar.specs.Message.{ChunkMessage, OfferMessage, RequestMessage}
use Rattle.spdm_grammar.specs.Message.RequestMessage.{NegotiateAlgorithms}
use Rattle.spdm_grammar.specs.Requests.{FitsRequest, IsSoundRequest}
use Rattle.spdm_grammar.specs.declared.messages.choice.Choice.{Choice}
use Rattle.spdm_grammar.specs.declared.told.event.Event.TheVariants as event
use Rattle.spdm_grammar.specs.declared.told.event.Finished.TheVariants as finished
use Rattle.spdm_grammar.specs.declared.names.request_code.TheConstants.{CHUNK_SEND}
use Rattle.spdm_grammar.specs.declared.told.phase.Phase.{Phase}
use Rattle.spdm_grammar.specs.declared.told.phase.Phase.TheVariants.{Capable, Negotiated}
use Rattle.spdm_machine.specs.Keys.{Draw}
use Rattle.spdm_machine.specs.Terms.{terms_of}
use Rattle.transcript.specs.Transcripts.{Negotiation}
use Rattle.spdm_progress.proofs.ClearFetch.{CanFetchIn, chunked_fits, differ, get_chunk, large_goes, large_read}
use Rattle.spdm_progress.proofs.ClearSend as send
use Rattle.spdm_progress.proofs.ClearSend.{CanSend, ack_of, send_chunk, sending, transfer_there}
use Rattle.spdm_progress.proofs.LargeAlgorithms.{Fetches, Holds}
use Rattle.spdm_progress.proofs.RequesterStages.{Hears, IsOver, algorithms_over, algorithms_read, hears_by, next_small}
use Rattle.spdm_progress.proofs.ResponderStages.{Answered, Stands, adds, algorithms, algorithms_inside, answers_by, negotiate_algorithms, other_message, three_pairs, two_pairs}
use Rattle.spdm_progress.proofs.ResponderTurns.{effect_so, read_at, reply_so}
use Rattle.spdm_progress.proofs.StillKept.{AreAlike}

module _ (q : ReqSetup) (r : RspSetup) (offer : OfferMessage) (can : CanSend q r (negotiate_algorithms offer) (two_pairs q r)) (handle : ℕ) (small : handle < 256) where
  abbrev asks_for : RequestMessage
  asks_for = NegotiateAlgorithms offer

  abbrev m : List ℕ
  m = negotiate_algorithms offer

  abbrev w : List ℕ
  w = algorithms r offer

  abbrev two : Negotiation
  two = two_pairs q r

  abbrev piece : ℕ → ChunkMessage
  piece j = nth_chunk (transfer_there two) handle m j

  abbrev pub pieces : ℕ
  pieces = send.count q r asks_for two can handle small

  -- The responder is in phase Capable, and holds the chunks before this one.
  pub record HasPieces (j : ℕ) (last : List ℕ) (g : served.History) : Type 0 where
    pub stands : Stands Capable two last g
    pub held : send.AreHeld q r asks_for two can handle small j (served.clear_turns g)

  pub pieces_still : (j : ℕ) (last : List ℕ) (g later : served.History) → AreAlike r g later → HasPieces j last g → HasPieces j last later
  pieces_still j last g later alike y = record {
    stands = record {
      phase_is = ap served.phase_of alike.turns ∙ y.stands.phase_is;
      negotiation = ap served.negotiation_of alike.turns ∙ y.stands.negotiation;
      last = record { kept = y.stands.last.kept; is = alike.clear.kept ∙ y.stands.last.is; message = y.stands.last.message };
    };
    held = subst (send.AreHeld q r asks_for two can handle small j) (sym alike.turns) y.held;
  }

  -- The requester waits for the acknowledgement of this one.
  pub record Sends (j tag : ℕ) (h : asked.History) : Type 0 where
    pub waits : outstanding h ≡ Some (sending asks_for tag handle j (piece j))
    pub negotiation : asked.negotiation_of h ≡ two
    pub small_tag : tag < 8

  -- ---- The responder.

  allows : (g : served.History) → served.phase_of (served.clear_turns g) ≡ Capable → (pending : Bool) → phase_allows (served.phase_of (served.clear_turns g)) pending CHUNK_SEND ≡ true
  allows g is pending = ap (λ (x : Phase). phase_allows x pending CHUNK_SEND) is

  module _ (j : ℕ) (within : j < pieces) (last : List ℕ) (other : bytes_eq last (send_chunk (piece j)) ≡ false) (g : served.History) (tag : ℕ) (d : Draw) (y : HasPieces j last g) where
    abbrev text : List ℕ
    text = send_chunk (piece j)

    pub piece_answered : (j + 1 == pieces) ≡ false → Answered r g tag text d (ack_of (piece j) []) (HasPieces (suc j) text)
    piece_answered more =
        let t = taken_chunk text (piece j) NoEffect [] in
        answers_by r g tag text d t (HasPieces (suc j) text)
        (adds r g tag text d t (other_message g tag last text y.stands.last other) (send.piece_turn q r asks_for two can handle small g (clear_chosen r g d) y.stands.negotiation (allows g y.stands.phase_is) j within y.held more))
        (record {
          stands = record {
            phase_is = y.stands.phase_is;
            negotiation = y.stands.negotiation;
            last = record { kept = record { tag = tag; message = text; reply = ack_of (piece j) [] }; is = refl; message = refl };
          };
          held = send.held_next q r asks_for two can handle small j text (served.clear_turns g) more y.held;
        })

    -- The last one is answered as the request that it completes.
    module _ (choice : Choice) (long : 4 ≤ length m) (own : FitsRequest asks_for) (sound : IsSoundRequest 32 asks_for) (selects : selected offer (policy_of r) ≡ Some choice) (max : length w ≤ (terms_of two).common.to_requester.max) (ends : (j + 1 == pieces) ≡ true) where
      answer_fits_max : is_answer_too_long (inside (clear_place g)) w ≡ false
      answer_fits_max =
          chunked_fits (sizes_are_known (served.phase_of (served.clear_turns g))) _ _ _
          (lt_false _ _ (subst (λ (x : Negotiation). length w ≤ (terms_of x).common.to_requester.max) (sym y.stands.negotiation) max))
          (ap (λ (x : Negotiation). (terms_of x).common.chunk) y.stands.negotiation ∙ can.chunk)

      reads_inside : request_at (inside (clear_place g)) m ≡ Some asks_for
      reads_inside = read_at (inside (clear_place g)) asks_for own sound

      last_turn : (large : Bool) → goes_large (inside (clear_place g)) w ≡ large
          → turn_of r (clear_place g) text (clear_chosen r g d) ≡ taken_chunk text (piece j) (Took asks_for m w (if large then Some (clear_chosen r g d).handle else None)) (if large then large_response (clear_chosen r g d).handle else w)
      last_turn large goes =
          send.last_turn q r asks_for two can handle small g (clear_chosen r g d) y.stands.negotiation (allows g y.stands.phase_is) j within y.held ends
          (algorithms_inside q r g (clear_chosen r g d) offer choice long can.fits own sound selects answer_fits_max y.stands.phase_is)
          ∙ ap (λ (e : Effect). taken_chunk text (piece j) e (request_reply r (inside (clear_place g)) m (clear_chosen r g d))) (effect_so r (inside (clear_place g)) m (clear_chosen r g d) asks_for large reads_inside goes)
          ∙ ap (taken_chunk text (piece j) (Took asks_for m w (if large then Some (clear_chosen r g d).handle else None))) (reply_so r (inside (clear_place g)) m (clear_chosen r g d) asks_for large reads_inside goes)

      goes_whole : 6 + length w ≤ (terms_of two).common.to_requester.transfer → goes_large (inside (clear_place g)) w ≡ false
      goes_whole fits =
          ap (λ (x : Phase). sizes_are_known x && nat_lt (terms_of (served.negotiation_of (served.clear_turns g))).common.to_requester.transfer (6 + length w)) y.stands.phase_is
          ∙ lt_false _ _ (subst (λ (x : Negotiation). 6 + length w ≤ (terms_of x).common.to_requester.transfer) (sym y.stands.negotiation) fits)

      pub whole_answered : 6 + length w ≤ (terms_of two).common.to_requester.transfer → Answered r g tag text d (ack_of (piece j) w) (Stands Negotiated (three_pairs q r offer) text)
      whole_answered fits =
          let t = taken_chunk text (piece j) (Took asks_for m w None) w in
          answers_by r g tag text d t (Stands Negotiated (three_pairs q r offer) text)
          (adds r g tag text d t (other_message g tag last text y.stands.last other) (last_turn false (goes_whole fits)))
          (record {
            phase_is = refl;
            negotiation = ap (λ (n : Negotiation). record n { negotiate_algorithms = m; algorithms = w }) y.stands.negotiation;
            last = record { kept = record { tag = tag; message = text; reply = ack_of (piece j) w }; is = refl; message = refl };
          })

      pub own_handle : (clear_chosen r g d).handle < 256
      unfolding chosen
      own_handle = omega arith

      pub large_answered : CanFetchIn 6 q r (length w) two → Answered r g tag text d (ack_of (piece j) (large_response (clear_chosen r g d).handle)) (Holds q r offer (clear_chosen r g d).handle 0 text)
      large_answered fetch =
          let f = clear_chosen r g d in
          let t = taken_chunk text (piece j) (Took asks_for m w (Some f.handle)) (large_response f.handle) in
          answers_by r g tag text d t (Holds q r offer f.handle 0 text)
          (adds r g tag text d t (other_message g tag last text y.stands.last other)
          (last_turn true (large_goes q r (length w) two fetch (inside (clear_place g)) w refl y.stands.negotiation (ap sizes_are_known y.stands.phase_is) refl)))
          (record {
            stands = record {
              phase_is = refl;
              negotiation = ap (λ (n : Negotiation). record n { negotiate_algorithms = m; algorithms = w }) y.stands.negotiation;
              last = record { kept = record { tag = tag; message = text; reply = ack_of (piece j) (large_response f.handle) }; is = refl; message = refl };
            };
            pending = record { large = refl; given = refl; handle_is = refl };
          })

    pub send_differs : (given : ℕ) → bytes_eq text (get_chunk given 0) ≡ false
    send_differs given = differ text (get_chunk given 0) (bytes_eq text (get_chunk given 0)) refl (λ e. (let code : slice_index text 1 ≡ slice_index (get_chunk given 0) 1 = ap (λ (l : List ℕ). slice_index l 1) e in omega (arith, code)))

  -- ---- The requester.

  module _ (j : ℕ) (within : j < pieces) (h : asked.History) (tag : ℕ) (d : Draw) (y : Sends j tag h) where
    pub ack_heard : (j + 1 == pieces) ≡ false → Hears q h tag (ack_of (piece j) []) d event.Progress (Some (piece_sent (asked.connection_terms h).common h asks_for handle (j + 1))) (Sends (suc j) (asked.next_tag h))
    ack_heard more =
        let room = can.room in
        let sent = piece_sent (asked.connection_terms h).common h asks_for handle (j + 1) in
        hears_by q h tag (ack_of (piece j) []) d (goes_on Nothing sent) (Sends (suc j) (asked.next_tag h))
        (send.heard_more q r asks_for two can handle small h tag j d y.negotiation within y.waits (omega (arith, room)) more)
        (record {
          waits = ap (λ (c : ChunkMessage). Some (sending asks_for (asked.next_tag h) handle (j + 1) c)) (send.piece_here_at q r asks_for two can handle small h y.negotiation (j + 1))
              ∙ ap (λ (k : ℕ). Some (sending asks_for (asked.next_tag h) handle k (piece k))) (add-one j);
          negotiation = y.negotiation;
          small_tag = next_small h;
        })

    pub whole_heard : (choice : Choice) → selected offer (policy_of r) ≡ Some choice → 6 + length w ≤ q.transfer → (j + 1 == pieces) ≡ true → Hears q h tag (ack_of (piece j) w) d (event.Done finished.Connected) None (IsOver (three_pairs q r offer))
    whole_heard choice selects fits ends =
        algorithms_over q r h tag (ack_of (piece j) w) d offer y.negotiation
        (send.heard_whole q r asks_for two can handle small h tag j d y.negotiation within y.waits w (omega (arith, fits)) ends
        ∙ ap (clear_outcome tag (ack_of (piece j) w) d) (algorithms_read q r h (body_chosen q h d) 6 offer choice selects))

    pub large_heard : (given : ℕ) → (j + 1 == pieces) ≡ true → Hears q h tag (ack_of (piece j) (large_response given)) d event.Progress (Some (get_sent h asks_for given 0 [])) (Fetches q r offer given 0 (asked.next_tag h))
    large_heard given ends =
        let room = can.room in
        hears_by q h tag (ack_of (piece j) (large_response given)) d (goes_on Nothing (get_sent h asks_for given 0 [])) (Fetches q r offer given 0 (asked.next_tag h))
        (send.heard_whole q r asks_for two can handle small h tag j d y.negotiation within y.waits (large_response given) (omega (arith, room)) ends
        ∙ ap (clear_outcome tag (ack_of (piece j) (large_response given)) d) (large_read q h (body_chosen q h d) 6 asks_for given refl (ap (λ (x : Negotiation). (terms_of x).common.chunk) y.negotiation ∙ can.chunk)))
        (record { waits = refl; negotiation = y.negotiation; small = next_small h })
