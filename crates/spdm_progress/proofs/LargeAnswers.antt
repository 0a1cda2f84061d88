-- MEASUREMENTS is sent in chunks in the clear: what the two ends make of ERROR LargeResponse and of each CHUNK_GET with
-- its answer.
use Rattle.std.proofs.Common.{◌≡◌, ◌⊎◌, ◌∙◌, ℕ, zero, suc, ◌<◌, ◌==◌, List, [], ◌∷◌, length, Bool, true, false, Option, Some, None, Result, Ok, refl, sym, ap, subst, inl, inr, arith}
use Rattle.std.specs.Prelude.{bytes_eq, slice_index}
use Rattle.std.proofs.lemmas.Bool.{false≢true}
use Rattle.std.proofs.lemmas.Slice.Eq.{bytes_eq-Decides}
use Rattle.measurements.specs.Records.{is_missing}
use Rattle.requester_machine.specs.Answers.{is_done}
use Rattle.requester_machine.specs.Asking.Outcome.{Adds as AddsHere}
use Rattle.requester_machine.specs.ClearAnswers.{read_led, reading_of}
use Rattle.requester_machine.specs.Does.{body_chosen, requester_hears}
use Rattle.requester_machine.specs.Hearing.{clear_outcome}
use Rattle.requester_machine.specs.History as asked
use Rattle.requester_machine.specs.History.{Led, outstanding}
use Rattle.requester_machine.specs.History.Effect.{Answers, Nothing, Refuses}
use Rattle.requester_machine.specs.History.Entry.{TookClear}
use Rattle.requester_machine.specs.Setup.{ReqSetup}
use Rattle.responder_machine.proofs.Repeats.{kept_of-taken}
use Rattle.responder_machine.proofs.Turns.{turn_of-effect}
use Rattle.responder_machine.specs.Does.{IsMade, chosen, clear_chosen, clear_does}
use Rattle.responder_machine.specs.Handling.{goes_large, large_response, turn_of}
use Rattle.responder_machine.specs.History as served
use Rattle.responder_machine.specs.History.Entry.{Clear, Sealed, Queued, Ticked, Dropped}
use Rattle.responder_machine.specs.Place.{clear_place, place_terms}
use Rattle.responder_machine.specs.Refusal.{has_pending, phase_allows, refusal, sizes_are_known}
use Rattle.responder_machine.specs.Responder.{Outcome, after, body_of, is_repeat}
use Rattle.responder_machine.specs.Responder.Outcome.{Adds}
use Rattle.responder_machine.specs.Setup.{RspSetup, inventory_of}
use Rattle.responder_machine.specs.Turn.{Turn, is_taken}
use Rattle.responder_machine.specs.Turn.Effect.{NoEffect}
use Rattle.spdm_agreement.proofs.Responder.Negotiation.{entry_turn}
use Rattle.spdm_basis.proofs.Bools.{and_second, lt_false}
use Rattle.spdm_grammar.specs.Message.{ResponseMessage}
use Rattle.spdm_grammar.specs.Message.RequestMessage.{GetMeasurements}
use Rattle.spdm_grammar.specs.Message.ResponseMessage.{Measurements}
use Rattle.spdm_grammar.specs.Responses.{response_reading}
use Rattle.spdm_grammar.specs.declared.told.event.Finished.TheVariants as finished
use Rattle.spdm_grammar.specs.declared.told.event.ReqIgnored.{ReqIgnored}
use Rattle.spdm_grammar.specs.declared.messages.malformed.Malformed.{Malformed}
use Rattle.spdm_grammar.specs.declared.names.request_code.TheConstants.{GET_MEASUREMENTS}
use Rattle.spdm_grammar.specs.declared.told.phase.Phase.{Phase}
use Rattle.spdm_grammar.specs.declared.told.phase.Phase.TheVariants.{Negotiated}
use Rattle.spdm_machine.specs.Bodies.{clear_body}
use Rattle.spdm_machine.specs.Keys.{Draw}
use Rattle.spdm_machine.specs.Terms.{hash_len, terms_of}
use Rattle.spdm_machine.proofs.Members.{none_some, some_same}
use Rattle.transcript.specs.Transcripts.{Negotiation}
use Rattle.spdm_progress.specs.Measuring.{measurements_size}
use Rattle.measurements.specs.Records.{asked as blocks_asked}
use Rattle.spdm_progress.proofs.ClearFetch.{CanFetch, IsPending, differ, get_chunk, gets_differ, large_fits, large_goes}
use Rattle.spdm_progress.proofs.Drawn.{AreDrawn}
use Rattle.spdm_progress.proofs.MeasureStages.{answer_at, answer_is, get_measurements, measured, measured_fits, measured_led, measured_sound, measurements, measurements_are, measures_flag, same_negotiation, some_turn, taken_so, told_number, unchanged}
use Rattle.spdm_progress.proofs.RequesterStages.{reads}
use Rattle.spdm_progress.proofs.ResponderBegins.{is_none_none, refused_with}
use Rattle.spdm_progress.proofs.ResponderStages.{LastTook, adds, same_by}
use Rattle.spdm_progress.proofs.ResponderTurns.{contents_passed, form_passed, not_refused, read_at, taken_somehow}

-- ---- The messages.

-- The request before a CHUNK_GET.
abbrev pub before_get : (op handle k : ℕ) → List ℕ
before_get op handle zero = get_measurements op
before_get op handle (suc k) = get_chunk handle k

-- It is another one.
pub before_differs : (op handle k : ℕ) → bytes_eq (before_get op handle k) (get_chunk handle k) ≡ false
before_differs op handle zero = differ (get_measurements op) (get_chunk handle 0) (bytes_eq (get_measurements op) (get_chunk handle 0)) refl
    (λ e. (let code : slice_index (get_measurements op) 1 ≡ slice_index (get_chunk handle 0) 1 = ap (λ (l : List ℕ). slice_index l 1) e in omega (arith, code)))
before_differs op handle (suc k) = gets_differ handle k

-- What the set-ups and the negotiation are where MEASUREMENTS is sent in chunks.
pub record GoesLarge (q : ReqSetup) (r : RspSetup) (op : ℕ) (n : Negotiation) : Type 0 where
  pub byte : op < 256
  pub block : is_missing op (inventory_of r) ≡ false
  pub chosen : (terms_of n).choice.measure ≡ true
  pub fetch : CanFetch q r (measurements_size r op) n

-- Where GET_MEASUREMENTS is the last clear request that was taken, its answer is pending.
pub record Repeats (r : RspSetup) (op : ℕ) (k : served.Kept) (turns : List Turn) : Type 0 where
  pub nonce : List ℕ
  pub whole : length nonce ≡ 32
  pub handle : ℕ
  pub small : handle < 256
  pub reply : k.reply ≡ large_response handle
  pub pending : IsPending (measurements r op nonce) handle 0 turns

abbrev pub LargeAgain : RspSetup → ℕ → served.History → Type 0
LargeAgain r op h = (k : served.Kept) → served.kept_of h ≡ Some k → k.message ≡ get_measurements op → Repeats r op k (served.clear_turns h)

pub again_at : (r : RspSetup) (op : ℕ) (old new : served.History) → served.kept_of new ≡ served.kept_of old → served.clear_turns new ≡ served.clear_turns old → LargeAgain r op old → LargeAgain r op new
again_at r op old new kept turns again k is message = subst (Repeats r op k) (sym turns) (again k (sym kept ∙ is) message)

module _ (q : ReqSetup) (r : RspSetup) (op : ℕ) (n : Negotiation) (can : GoesLarge q r op n) where
  abbrev m : List ℕ
  m = get_measurements op

  pub reads_measured : (h : asked.History) (len : ℕ) (nonce : List ℕ) → length nonce ≡ 32 → response_reading len false (measurements r op nonce) ≡ Ok (Measurements (measured r op nonce))
  reads_measured h len nonce whole =
      let most = can.fetch.most in
      let fits = can.fetch.fits_max in
      let max = can.fetch.max in
      reads h (Measurements (measured r op nonce)) len (measured_fits r op nonce) (measured_sound r op len nonce whole (omega (arith, most, fits, max)))

  -- ---- The responder, of GET_MEASUREMENTS.

  module _ (g : served.History) (d : Draw) (drawn : length d.bytes ≡ 32) (under : served.negotiation_of (served.clear_turns g) ≡ n) where
    size : length (answer_at r g d op) ≡ measurements_size r op
    size = ap length (answer_is r g d op) ∙ measurements_are r op d.bytes drawn

    goes : served.phase_of (served.clear_turns g) ≡ Negotiated → goes_large (clear_place g) (answer_at r g d op) ≡ true
    goes phase = large_goes q r (measurements_size r op) n can.fetch (clear_place g) (answer_at r g d op) size under (ap sizes_are_known phase) refl

    taken : served.phase_of (served.clear_turns g) ≡ Negotiated → refusal r (clear_place g) m (clear_chosen r g d) ≡ None
    taken phase =
        let room = can.fetch.room in
        let is = read_at (clear_place g) (GetMeasurements op) can.byte tt in
        not_refused r (clear_place g) m (clear_chosen r g d)
        (form_passed r (clear_place g) m (GetMeasurements op) is (record {
          long = refl;
          short = lt_false r.transfer 4 (omega (arith, room));
          known = refl;
          outside = refl;
          whole = refl;
          placed = refl;
          allowed = ap (λ (x : Phase). phase_allows x (has_pending (clear_place g)) GET_MEASUREMENTS) phase;
          version = refl;
        }))
        (contents_passed r (clear_place g) m (clear_chosen r g d) (GetMeasurements op) is (record {
          flags = measures_flag (place_terms (clear_place g)) (ap (λ (x : Negotiation). (terms_of x).choice.measure) under ∙ can.chosen);
          caps = refl;
          offer = refl;
          block = can.block;
          exchange = refl;
          verify = refl;
          update = refl;
          chunk = refl;
          get = refl;
          fits = large_fits q r (measurements_size r op) n can.fetch (clear_place g) (answer_at r g d op) size under;
          limit = refl;
        }))

    large_turn : served.phase_of (served.clear_turns g) ≡ Negotiated → turn_of r (clear_place g) m (clear_chosen r g d) ≡ some_turn r g d op true
    large_turn phase =
        taken_somehow r (clear_place g) m (clear_chosen r g d) (GetMeasurements op) (read_at (clear_place g) (GetMeasurements op) can.byte tt) refl (taken phase)
        ∙ ap (λ (large : Bool). some_turn r g d op large) (goes phase)

    handle_small : (clear_chosen r g d).handle < 256
    unfolding chosen
    handle_small = omega arith

    pub pending_behind : IsPending (measurements r op d.bytes) (clear_chosen r g d).handle 0 (some_turn r g d op true ∷ served.clear_turns g)
    pending_behind = record { large = ap (λ (w : List ℕ). let o : Option (List ℕ) = Some w in o) (answer_is r g d op); given = refl; handle_is = refl }

  -- What GET_MEASUREMENTS leads to: LargeResponse, from memory or anew.
  pub record ServedLarge (g : served.History) (tag : ℕ) (d : Draw) : Type 0 where
    pub nonce : List ℕ
    pub whole : length nonce ≡ 32
    pub handle : ℕ
    pub small : handle < 256
    pub body : body_of (clear_does r g tag m d) ≡ clear_body (large_response handle)
    pub pending : IsPending (measurements r op nonce) handle 0 (served.clear_turns (after g (clear_does r g tag m d)))
    pub last : LastTook m (after g (clear_does r g tag m d))
    pub outcome : (after g (clear_does r g tag m d) ≡ g) ⊎ ((clear_does r g tag m d ≡ Adds (Clear tag (some_turn r g d op true) d)))

  from_memory : (g : served.History) (tag : ℕ) (d : Draw) → LargeAgain r op g → (o : Option served.Kept) → served.kept_of g ≡ o → is_repeat o tag m ≡ true → ServedLarge g tag d
  from_memory g tag d again None is repeats = absurd (false≢true repeats)
  from_memory g tag d again (Some k) is repeats =
      let message = (bytes_eq-Decides k.message m).0 (and_second (k.tag == tag) (bytes_eq k.message m) repeats) in
      let found = again k is message in
      let same = same_by r g tag m d k is (ap (λ (o : Option served.Kept). is_repeat o tag m) is ∙ repeats) in record {
        nonce = found.nonce;
        whole = found.whole;
        handle = found.handle;
        small = found.small;
        body = ap body_of same ∙ ap clear_body found.reply;
        pending = subst (λ (o : Outcome). IsPending (measurements r op found.nonce) found.handle 0 (served.clear_turns (after g o))) (sym same) found.pending;
        last = subst (λ (o : Outcome). LastTook m (after g o)) (sym same) (record { kept = k; is = is; message = message });
        outcome = inl (ap (after g) same);
      }

  anew : (g : served.History) (tag : ℕ) (d : Draw) → length d.bytes ≡ 32 → served.negotiation_of (served.clear_turns g) ≡ n → served.phase_of (served.clear_turns g) ≡ Negotiated → is_repeat (served.kept_of g) tag m ≡ false → ServedLarge g tag d
  anew g tag d drawn under phase new =
      let does = adds r g tag m d (some_turn r g d op true) new (large_turn g d drawn under phase) in record {
        nonce = d.bytes;
        whole = drawn;
        handle = (clear_chosen r g d).handle;
        small = handle_small g d drawn under;
        body = ap body_of does;
        pending = subst (λ (o : Outcome). IsPending (measurements r op d.bytes) (clear_chosen r g d).handle 0 (served.clear_turns (after g o))) (sym does) (pending_behind g d drawn under);
        last = subst (λ (o : Outcome). LastTook m (after g o)) (sym does) (record { kept = record { tag = tag; message = m; reply = large_response (clear_chosen r g d).handle }; is = refl; message = refl });
        outcome = inr does;
      }

  pub served_large : (g : served.History) (tag : ℕ) (d : Draw) → length d.bytes ≡ 32 → served.negotiation_of (served.clear_turns g) ≡ n → served.phase_of (served.clear_turns g) ≡ Negotiated → LargeAgain r op g → ServedLarge g tag d
  served_large g tag d drawn under phase again = by_repeat (is_repeat (served.kept_of g) tag m) refl
    where
      by_repeat : (b : Bool) → is_repeat (served.kept_of g) tag m ≡ b → ServedLarge g tag d
      by_repeat true is = from_memory g tag d again (served.kept_of g) refl is
      by_repeat false is = anew g tag d drawn under phase is

  -- ---- Where a repeat comes from.

  refused_turns : (t : Turn) (turns : List Turn) (w : List ℕ) (handle k : ℕ) → is_taken t ≡ false → t.effect ≡ NoEffect → IsPending w handle k turns → IsPending w handle k (t ∷ turns)
  refused_turns t turns w handle k refused nothing x = record {
    large = rw refused x.large;
    given = rw refused x.given;
    handle_is = rw nothing x.handle_is;
  }

  entry_again : (older : served.History) (tag : ℕ) (t : Turn) (d : Draw) → turn_of r (clear_place older) t.message (clear_chosen r older d) ≡ t → length d.bytes ≡ 32 → served.negotiation_of (t ∷ served.clear_turns older) ≡ n → served.phase_of (t ∷ served.clear_turns older) ≡ Negotiated
      → (served.negotiation_of (served.clear_turns older) ≡ n → served.phase_of (served.clear_turns older) ≡ Negotiated → LargeAgain r op older) → (b : Bool) → is_taken t ≡ b → LargeAgain r op (Clear tag t d ∷ older)
  entry_again older tag t d turn drawn under phase next true taken = λ k is message.
      let same : record { tag = tag; message = t.message; reply = t.reply } ≡ k = some_same _ k (sym (kept_of-taken tag t d older (is_none_none t.refused taken)) ∙ is) in
      let its : t.message ≡ get_measurements op = ap (λ (x : served.Kept). x.message) same ∙ message in
      let here : turn_of r (clear_place older) (get_measurements op) (clear_chosen r older d) ≡ t = ap (λ (z : List ℕ). turn_of r (clear_place older) z (clear_chosen r older d)) (sym its) ∙ turn in
      let so = taken_so r older d op (refusal r (clear_place older) (get_measurements op) (clear_chosen r older d)) can.byte refl (ap is_taken here ∙ taken) in
      let before : served.negotiation_of (served.clear_turns older) ≡ n = sym (same_negotiation r older d op (goes_large (clear_place older) (answer_at r older d op))) ∙ ap (λ (u : Turn). served.negotiation_of (u ∷ served.clear_turns older)) (sym so ∙ here) ∙ under in
      let was : served.phase_of (served.clear_turns older) ≡ Negotiated = same_phase older d (goes_large (clear_place older) (answer_at r older d op)) ∙ ap (λ (u : Turn). served.phase_of (u ∷ served.clear_turns older)) (sym so ∙ here) ∙ phase in
      let is_it : t ≡ some_turn r older d op true = sym here ∙ so ∙ ap (λ (large : Bool). some_turn r older d op large) (goes older d drawn before was) in record {
        nonce = d.bytes;
        whole = drawn;
        handle = (clear_chosen r older d).handle;
        small = handle_small older d drawn before;
        reply = sym (ap (λ (x : served.Kept). x.reply) same) ∙ ap (λ (u : Turn). u.reply) is_it;
        pending = subst (λ (u : Turn). IsPending (measurements r op d.bytes) (clear_chosen r older d).handle 0 (u ∷ served.clear_turns older)) (sym is_it) (pending_behind older d drawn before);
      }
    where
      same_phase : (older : served.History) (d : Draw) (large : Bool) → served.phase_of (served.clear_turns older) ≡ served.phase_of (some_turn r older d op large ∷ served.clear_turns older)
      same_phase older d large = refl
  entry_again older tag t d turn drawn under phase next false refused = λ k is message.
      let code = refused_with t.refused refused in
      let nothing : t.effect ≡ NoEffect = sym (ap (λ (u : Turn). u.effect) turn) ∙ turn_of-effect r (clear_place older) t.message (clear_chosen r older d) code.0 (ap (λ (u : Turn). u.refused) turn ∙ code.1) in
      let was : served.phase_of (served.clear_turns older) ≡ Negotiated = sym (phase_so (served.clear_turns older) nothing) ∙ phase in
      let found = next (sym (unchanged older t nothing) ∙ under) was k (sym (kept_so older refused) ∙ is) message in
      record {
        nonce = found.nonce;
        whole = found.whole;
        handle = found.handle;
        small = found.small;
        reply = found.reply;
        pending = refused_turns t (served.clear_turns older) (measurements r op found.nonce) found.handle 0 refused nothing found.pending;
      }
    where
      phase_so : (turns : List Turn) → t.effect ≡ NoEffect → served.phase_of (t ∷ turns) ≡ served.phase_of turns
      phase_so turns nothing = rw nothing refl

      kept_so : (h : served.History) → is_taken t ≡ false → served.kept_of (Clear tag t d ∷ h) ≡ served.kept_of h
      kept_so h refused = rw refused refl

  pub large_again : (h : served.History) → IsMade r h → AreDrawn h → served.negotiation_of (served.clear_turns h) ≡ n → served.phase_of (served.clear_turns h) ≡ Negotiated → LargeAgain r op h
  large_again [] made drawn under phase = λ k is message. absurd (none_some k is)
  large_again (Clear tag t d ∷ older) made drawn under phase = entry_again older tag t d (entry_turn r older tag t d made.0) drawn.0 under phase (large_again older made.1 drawn.1) (is_taken t) refl
  large_again (Sealed tag z t reply d ∷ older) made drawn under phase = again_at r op older (Sealed tag z t reply d ∷ older) refl refl (large_again older made.1 drawn under phase)
  large_again (Queued bytes ∷ older) made drawn under phase = again_at r op older (Queued bytes ∷ older) refl refl (large_again older made.2 drawn under phase)
  large_again (Ticked seconds ∷ older) made drawn under phase = again_at r op older (Ticked seconds ∷ older) refl refl (large_again older made drawn under phase)
  large_again (Dropped id ∷ older) made drawn under phase = absurd made

  -- ---- The requester takes the last chunk.

  pub heard_last : (h : asked.History) (tag : ℕ) (message : List ℕ) (d : Draw) (nonce : List ℕ) → length nonce ≡ 32
      → requester_hears q h false tag (clear_body message) d ≡ clear_outcome tag message d (read_led q h (body_chosen q h d) 0 (GetMeasurements op) (measurements r op nonce) (reading_of h (GetMeasurements op) (measurements r op nonce)))
      → requester_hears q h false tag (clear_body message) d ≡ AddsHere (TookClear tag message (measured_led r op nonce) d)
  heard_last h tag message d nonce whole hears_it =
      hears_it
      ∙ ap (clear_outcome tag message d)
      (ap (λ (x : Result ResponseMessage Malformed). read_led q h (body_chosen q h d) 0 (GetMeasurements op) (measurements r op nonce) x) (reads_measured h (hash_len (asked.connection_terms h)) nonce whole)
      ∙ ap (λ (z : ℕ). let x : Result Led ReqIgnored = Ok (is_done (finished.Measured z) (Answers (GetMeasurements op) (measurements r op nonce))) in x) (told_number (op == 0) (length (inventory_of r)) (length (blocks_asked op (inventory_of r)))))
