-- ALGORITHMS is sent in chunks: what the two ends make of ERROR LargeResponse and of each CHUNK_GET with its answer.
use Rattle.std.proofs.Common.{◌≡◌, ◌∙◌, ℕ, ◌<◌, ◌≤◌, ◌+◌, ◌==◌, List, [], ◌∷◌, length, Bool, true, false, Some, None, refl, sym, ap, subst, arith, add-one}
use Rattle.std.specs.Prelude.{bytes_eq, slice_index}
use Rattle.chunking.specs.Cutting.{chunk_count, chunks_before, nth_chunk}
use Rattle.negotiate.specs.Choosing.{selected}
use Rattle.spdm_machine.proofs.Settling.{algorithms_keep}
use Rattle.requester_machine.specs.Answers.{goes_on}
use Rattle.requester_machine.specs.Does.{body_chosen}
use Rattle.requester_machine.specs.Hearing.{clear_outcome}
use Rattle.requester_machine.specs.History as asked
use Rattle.requester_machine.specs.History.{outstanding}
use Rattle.requester_machine.specs.History.Effect.{Nothing}
use Rattle.requester_machine.specs.Sending.{get_sent}
use Rattle.requester_machine.specs.Setup.{ReqSetup}
use Rattle.responder_machine.specs.Does.{chosen, clear_chosen}
use Rattle.responder_machine.specs.Handling.{large_response, turn_of}
use Rattle.responder_machine.specs.History as served
use Rattle.responder_machine.specs.Place.{clear_place}
use Rattle.responder_machine.specs.Refusal.{sizes_are_known}
use Rattle.responder_machine.specs.Setup.{RspSetup, policy_of}
use Rattle.spdm_grammar.specs.Message.{ChunkMessage, ExchangeMessage, OfferMessage, RequestMessage}
use Rattle.spdm_grammar.specs.Message.RequestMessage.{ChunkGet, ChunkSend, NegotiateAlgorithms, PskExchange}
use Rattle.spdm_grammar.specs.Requests.{FitsRequest, IsSoundRequest, canonical_request}
use Rattle.spdm_grammar.specs.declared.messages.choice.Choice.{Choice}
use Rattle.spdm_grammar.specs.declared.told.event.Event.TheVariants as event
use Rattle.spdm_grammar.specs.declared.told.event.Finished.TheVariants as finished
use Rattle.spdm_grammar.specs.declared.told.phase.Phase.TheVariants.{Negotiated}
use Rattle.spdm_machine.specs.Keys.{Draw}
use Rattle.transcript.specs.Transcripts.{Negotiation}
use Rattle.spdm_progress.proofs.ClearFetch.{CanFetch, CanFetchIn, IsPending, chunk_response, differ, fetching, get_chunk, gives_chunk, heard_large, heard_more, heard_whole, large_fits, large_goes, pending_next, served_chunk, transfer_in}
use Rattle.spdm_progress.proofs.RequesterStages.{Asks, Hears, IsOver, algorithms_over, algorithms_read, hears_by, next_small}
use Rattle.spdm_progress.proofs.ResponderStages.{Answered, HasCapabilities, Stands, adds, algorithms, algorithms_taken, answers_by, get_capabilities, negotiate_algorithms, other_message, three_pairs, two_pairs}
use Rattle.spdm_progress.proofs.ResponderTurns.{read_at, taken_somehow, taken_turn, turn_with}
use Rattle.spdm_progress.proofs.StillKept.{AreAlike}

-- CHUNK_SEND is no PSK_EXCHANGE, and CHUNK_GET is none.
pub send_no_exchange : (c : ChunkMessage) (x : ExchangeMessage) → canonical_request (ChunkSend c) ≡ canonical_request (PskExchange x) → ⊥
send_no_exchange c x e = (let code : slice_index (canonical_request (ChunkSend c)) 1 ≡ slice_index (canonical_request (PskExchange x)) 1 = ap (λ (l : List ℕ). slice_index l 1) e in omega (arith, code))

pub get_no_exchange : (handle k : ℕ) (x : ExchangeMessage) → get_chunk handle k ≡ canonical_request (PskExchange x) → ⊥
get_no_exchange handle k x e = (let code : slice_index (get_chunk handle k) 1 ≡ slice_index (canonical_request (PskExchange x)) 1 = ap (λ (l : List ℕ). slice_index l 1) e in omega (arith, code))

module _ (q : ReqSetup) (r : RspSetup) (offer : OfferMessage) where
  abbrev pub asks_for : RequestMessage
  asks_for = NegotiateAlgorithms offer

  abbrev pub m : List ℕ
  m = negotiate_algorithms offer

  abbrev pub w : List ℕ
  w = algorithms r offer

  abbrev pub size : ℕ
  size = length w

  abbrev pub transfer : ℕ
  transfer = transfer_in (two_pairs q r)

  -- CHUNK_GET comes after another request.
  pub asks_differ : (handle : ℕ) → bytes_eq m (get_chunk handle 0) ≡ false
  asks_differ handle = differ m (get_chunk handle 0) (bytes_eq m (get_chunk handle 0)) refl (λ e. (let code : slice_index m 1 ≡ slice_index (get_chunk handle 0) 1 = ap (λ (l : List ℕ). slice_index l 1) e in omega (arith, code)))

  -- The responder has agreed, and ALGORITHMS is pending.
  pub record Holds (handle k : ℕ) (last : List ℕ) (g : served.History) : Type 0 where
    pub stands : Stands Negotiated (three_pairs q r offer) last g
    pub pending : IsPending w handle k (served.clear_turns g)

  pub holds_still : (handle k : ℕ) (last : List ℕ) (g later : served.History) → AreAlike r g later → Holds handle k last g → Holds handle k last later
  holds_still handle k last g later alike y = record {
    stands = record {
      phase_is = ap served.phase_of alike.turns ∙ y.stands.phase_is;
      negotiation = ap served.negotiation_of alike.turns ∙ y.stands.negotiation;
      last = record { kept = y.stands.last.kept; is = alike.clear.kept ∙ y.stands.last.is; message = y.stands.last.message };
    };
    pending = subst (IsPending w handle k) (sym alike.turns) y.pending;
  }

  -- The requester waits for this chunk.
  pub record Fetches (handle k tag : ℕ) (h : asked.History) : Type 0 where
    pub waits : outstanding h ≡ Some (fetching asks_for tag handle k (chunks_before transfer handle w k))
    pub negotiation : asked.negotiation_of h ≡ two_pairs q r
    pub small : tag < 8

  module _ {round : ℕ} (fetch : CanFetchIn round q r size (two_pairs q r)) where
    -- The sizes were settled by the capabilities alone.
    same_transfer : transfer_in (three_pairs q r offer) ≡ transfer
    same_transfer = ap (λ (c : _). c.to_requester.transfer) (algorithms_keep (two_pairs q r) m w)

    fetch_there : CanFetchIn round q r size (three_pairs q r offer)
    fetch_there =
        let large = fetch.large in
        let most = fetch.fits_max in
        record {
          room = fetch.room;
          chunk = ap (λ (c : _). c.chunk) (algorithms_keep (two_pairs q r) m w) ∙ fetch.chunk;
          large = subst (λ (k : ℕ). k < round + size) (sym same_transfer) large;
          few = fetch.few;
          fits_max = subst (λ (k : ℕ). size ≤ k) (sym (ap (λ (c : _). c.to_requester.max) (algorithms_keep (two_pairs q r) m w))) most;
          transfer = same_transfer ∙ fetch.transfer;
          max = ap (λ (c : _). c.to_requester.max) (algorithms_keep (two_pairs q r) m w) ∙ fetch.max;
          least = fetch.least;
          ordered = fetch.ordered;
          most = fetch.most;
        }

    -- ---- The responder.

    module _ (handle k : ℕ) (small : handle < 256) (within : k < chunk_count transfer w) where
      within_there : k < chunk_count (transfer_in (three_pairs q r offer)) w
      within_there = subst (λ (z : ℕ). k < chunk_count z w) (sym same_transfer) within

      abbrev text : List ℕ
      text = chunk_response transfer handle w k

      pub chunk_answered : (last : List ℕ) → bytes_eq last (get_chunk handle k) ≡ false → (g : served.History) (tag : ℕ) (d : Draw) → Holds handle k last g → Answered r g tag (get_chunk handle k) d text (Holds handle (k + 1) (get_chunk handle k))
      chunk_answered last other g tag d y =
          let t = taken_turn r (clear_place g) (get_chunk handle k) (clear_chosen r g d) (ChunkGet handle k) in
          let n = three_pairs q r offer in
          let does = served_chunk q r size n fetch_there w refl handle k small within_there g d y.stands.negotiation y.stands.phase_is y.pending tag last other y.stands.last in
          let gives : t.reply ≡ text =
          gives_chunk q r size n fetch_there w refl handle k small within_there (clear_place g) (clear_chosen r g d) y.stands.negotiation y.pending
          ∙ ap (λ (z : ℕ). chunk_response z handle w k) same_transfer in
          subst (λ (l : List ℕ). Answered r g tag (get_chunk handle k) d l (Holds handle (k + 1) (get_chunk handle k))) gives
          (answers_by r g tag (get_chunk handle k) d t (Holds handle (k + 1) (get_chunk handle k)) does (record {
            stands = record {
              phase_is = y.stands.phase_is;
              negotiation = y.stands.negotiation;
              last = record { kept = record { tag = tag; message = get_chunk handle k; reply = t.reply }; is = refl; message = refl };
            };
            pending = pending_next q r size n fetch_there w refl handle k small within_there g d y.stands.negotiation y.stands.phase_is y.pending;
          }))

      -- ---- The requester.

      module _ (h : asked.History) (tag : ℕ) (d : Draw) (y : Fetches handle k tag h) where
        pub next_heard : (k + 1 == chunk_count transfer w) ≡ false
            → Hears q h tag text d event.Progress (Some (get_sent h asks_for handle (k + 1) (nth_chunk transfer handle w k ∷ chunks_before transfer handle w k))) (Fetches handle (k + 1) (asked.next_tag h))
        next_heard again =
            let before = nth_chunk transfer handle w k ∷ chunks_before transfer handle w k in
            hears_by q h tag text d (goes_on Nothing (get_sent h asks_for handle (k + 1) before)) (Fetches handle (k + 1) (asked.next_tag h))
            (heard_more q r size (two_pairs q r) fetch w refl handle k small within asks_for h tag d y.waits again)
            (record {
              waits = ap (λ (l : List ChunkMessage). Some (fetching asks_for (asked.next_tag h) handle (k + 1) l)) (ap (chunks_before transfer handle w) (sym (add-one k)));
              negotiation = y.negotiation;
              small = next_small h;
            })

        pub last_heard : (choice : Choice) → selected offer (policy_of r) ≡ Some choice → (k + 1 == chunk_count transfer w) ≡ true → Hears q h tag text d (event.Done finished.Connected) None (IsOver (three_pairs q r offer))
        last_heard choice selects last =
            algorithms_over q r h tag text d offer y.negotiation
            (heard_whole q r size (two_pairs q r) fetch w refl handle k small within asks_for h tag d y.waits last
            ∙ ap (clear_outcome tag text d) (algorithms_read q r h (body_chosen q h d) 0 offer choice selects))

    pub large_heard : (handle : ℕ) (h : asked.History) (tag : ℕ) (d : Draw) → Asks q tag asks_for m (two_pairs q r) h
        → Hears q h tag (large_response handle) d event.Progress (Some (get_sent h asks_for handle 0 [])) (Fetches handle 0 (asked.next_tag h))
    large_heard handle h tag d asks =
        hears_by q h tag (large_response handle) d (goes_on Nothing (get_sent h asks_for handle 0 [])) (Fetches handle 0 (asked.next_tag h))
        (heard_large q r size (two_pairs q r) fetch asks_for m h tag handle d refl asks)
        (record { waits = refl; negotiation = asks.negotiation; small = next_small h })

  -- ---- The responder, of NEGOTIATE_ALGORITHMS.

  module _ (fetch : CanFetch q r size (two_pairs q r)) (choice : Choice) (long : 4 ≤ length m) (room : length m ≤ r.transfer) (own : FitsRequest asks_for) (sound : IsSoundRequest 32 asks_for) (selects : selected offer (policy_of r) ≡ Some choice) where
    large_turn : (g : served.History) (d : Draw) → HasCapabilities q r g → turn_of r (clear_place g) m (clear_chosen r g d) ≡ turn_with m (clear_chosen r g d) (Some asks_for) w true
    large_turn g d has =
        taken_somehow r (clear_place g) m (clear_chosen r g d) asks_for (read_at (clear_place g) asks_for own sound) refl
        (algorithms_taken q r g (clear_chosen r g d) offer choice long room own sound selects (large_fits q r size (two_pairs q r) fetch (clear_place g) w refl has.negotiation) has)
        ∙ ap (λ (large : Bool). turn_with m (clear_chosen r g d) (Some asks_for) w large)
        (large_goes q r size (two_pairs q r) fetch (clear_place g) w refl has.negotiation (ap sizes_are_known has.phase_is) refl)

    pub own_handle : (g : served.History) (d : Draw) → (clear_chosen r g d).handle < 256
    unfolding chosen
    own_handle g d = omega arith

    pub large_answered : (g : served.History) (tag : ℕ) (d : Draw) → HasCapabilities q r g → Answered r g tag m d (large_response (clear_chosen r g d).handle) (Holds (clear_chosen r g d).handle 0 m)
    large_answered g tag d has =
        let f = clear_chosen r g d in
        answers_by r g tag m d (turn_with m f (Some asks_for) w true) (Holds f.handle 0 m)
        (adds r g tag m d (turn_with m f (Some asks_for) w true) (other_message g tag (get_capabilities q) m has.last refl) (large_turn g d has))
        (record {
          stands = record {
            phase_is = refl;
            negotiation = ap (λ (n : Negotiation). record n { negotiate_algorithms = m; algorithms = w }) has.negotiation;
            last = record { kept = record { tag = tag; message = m; reply = large_response f.handle }; is = refl; message = refl };
          };
          pending = record { large = refl; given = refl; handle_is = refl };
        })
