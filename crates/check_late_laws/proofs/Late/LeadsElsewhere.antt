-- A request for measurements or for a session may lead to the same after two histories, where the negotiation is the
-- same, it is no repeat, and the session that it begins has an id that is in use in both or in neither.
use Rattle.std.proofs.Common.{◌≡◌, ◌≤◌, ◌==◌, ◌&&◌, ◌∙◌, ℕ, suc, zero, List, refl, sym, ap, subst, arith, length, Bool, true, false, Option, Some, None, cond, inl, inr}
use Rattle.std.proofs.lemmas.Bool.{eqb-false}
use Rattle.check_late_laws.proofs.Late.TurnElsewhere.{Asks, IsFreeRequest, asks, bytes_same, no_chunk, place_by, taken_none, turn_moved, with_id}
use Rattle.check_late_laws.specs.Late.PassedLast.{IsFree}
use Rattle.responder_machine.proofs.Codes.{asked-code}
use Rattle.responder_machine.proofs.Fresh.{exchange-fresh, turn_of-fresh}
use Rattle.responder_machine.proofs.Ids.{free_id-range, free_id-unheld, not_four}
use Rattle.responder_machine.specs.Answer.{Free, answer_bytes, request_at}
use Rattle.responder_machine.proofs.Turns.{turn_of-plain}
use Rattle.responder_machine.specs.Handling.{chunk_in, effect_of, handle_for, turn_of}
use Rattle.responder_machine.specs.History.{History, clear_turns, kept_of, negotiation_of, phase_of}
use Rattle.responder_machine.specs.History.Entry.{Clear}
use Rattle.responder_machine.specs.May.{IsAllowed}
use Rattle.responder_machine.specs.Place.{Place, clear_place, free_id, held_of, is_held, place_terms}
use Rattle.responder_machine.specs.Refusal.{code_of}
use Rattle.responder_machine.specs.Responder.{is_repeat, kept_reply, on_clear}
use Rattle.responder_machine.specs.Responder.Outcome.{Same, Adds}
use Rattle.responder_machine.specs.Setup.{RspSetup}
use Rattle.responder_machine.specs.Turn.{Turn, answer_in, code_in, is_taken, takes}
use Rattle.spdm_grammar.specs.Message.{ExchangeMessage, RequestMessage}
use Rattle.spdm_grammar.specs.Message.RequestMessage.{GetVersion, GetCapabilities, NegotiateAlgorithms, GetMeasurements, PskExchange, PskFinish, Heartbeat, KeyUpdate, EndSession, ChunkSend, ChunkGet}
use Rattle.spdm_grammar.specs.declared.names.TheConstants.{MAX_MESSAGE_SIZE}
use Rattle.spdm_grammar.specs.declared.names.request_code.TheConstants.{PSK_EXCHANGE}
use Rattle.spdm_grammar.specs.declared.told.phase.Phase.{Phase}
use Rattle.spdm_machine.specs.Bodies.{clear_body}
use Rattle.spdm_machine.specs.Keys.{Draw}
use Rattle.spdm_machine.specs.Sessions.{id_in_exchange, one_if}
use Rattle.spdm_machine.specs.Terms.{hash_len, terms_of}
use Rattle.transcript.specs.Transcripts.{Negotiation}
use Rattle.capture_machine.proofs.DropsTell.{clear_form}
use Rattle.capture_machine.specs.CapturedAnswers.{MayLeadTo, answer_at, clear_answer}
use Rattle.capture_machine.specs.Rounds.{no_draw}

-- ---- Sessions past their handshake.

one_most : (b : Bool) → one_if b ≤ 1
one_most true = omega arith
one_most false = omega arith

zero_of : (b : Bool) → b ≡ false → one_if b ≡ 0
zero_of b is = ap one_if is

-- Where one of the four ids is in use by none, fewer than four are.
not_full : (k : History) (i : ℕ) → 1 ≤ i → i ≤ 4 → is_held k i ≡ false → (held_of k == 4) ≡ false
not_full k zero least most none = absurd (omega (arith, least))
not_full k (suc zero) least most none =
    not_four (held_of k) (λ four. omega (arith, four, zero_of (is_held k 1) none, one_most (is_held k 2), one_most (is_held k 3), one_most (is_held k 4)))
not_full k (suc (suc zero)) least most none =
    not_four (held_of k) (λ four. omega (arith, four, zero_of (is_held k 2) none, one_most (is_held k 1), one_most (is_held k 3), one_most (is_held k 4)))
not_full k (suc (suc (suc zero))) least most none =
    not_four (held_of k) (λ four. omega (arith, four, zero_of (is_held k 3) none, one_most (is_held k 1), one_most (is_held k 2), one_most (is_held k 4)))
not_full k (suc (suc (suc (suc zero)))) least most none =
    not_four (held_of k) (λ four. omega (arith, four, zero_of (is_held k 4) none, one_most (is_held k 1), one_most (is_held k 2), one_most (is_held k 3)))
not_full k (suc (suc (suc (suc (suc n))))) least most none = absurd (omega (arith, most))

-- ---- The values.

module _ (r : RspSetup) (g k : History) (m : List ℕ) (f : Free) (reached : phase_of (clear_turns g) ≡ phase_of (clear_turns k)) (agreed : negotiation_of (clear_turns g) ≡ negotiation_of (clear_turns k))
    (allowed : IsAllowed g (clear_place g) f) (taken : is_taken (turn_of r (clear_place g) m f) ≡ true) (free : IsFree (turn_of r (clear_place g) m f))
    (held : takes PSK_EXCHANGE (turn_of r (clear_place g) m f) ≡ true → is_held g (id_in_exchange (answer_in (turn_of r (clear_place g) m f).effect)) ≡ is_held k (id_in_exchange (answer_in (turn_of r (clear_place g) m f).effect))) where
  abbrev p : Place
  p = clear_place g

  -- The place after the other history, by what both have.
  abbrev o : Place
  o = place_by (phase_of (clear_turns g)) (negotiation_of (clear_turns g)) (clear_turns k) (held_of k)

  there : o ≡ clear_place k
  there =
      ap (λ (x : Phase). place_by x (negotiation_of (clear_turns g)) (clear_turns k) (held_of k)) reached
      ∙ ap (λ (n : Negotiation). place_by (phase_of (clear_turns k)) n (clear_turns k) (held_of k)) agreed

  asked : Asks r p m f
  asked = asks r p m f taken free

  abbrev Moved : Type 0
  Moved = (v : Free) × IsAllowed k (clear_place k) v × (turn_of r (clear_place g) m f ≡ turn_of r (clear_place k) m v) × (answer_bytes r (clear_place g) m f ≡ answer_bytes r (clear_place k) m v)

  abbrev IsFull : Type 0
  IsFull = (code_of m == PSK_EXCHANGE && held_of g == 4) ≡ (code_of m == PSK_EXCHANGE && held_of k == 4)

  context : hash_len (place_terms (clear_place k)) ≤ length f.context
  context = subst (λ (n : Negotiation). hash_len (terms_of n) ≤ length f.context) agreed allowed.context

  moved : (q : RequestMessage) → IsFreeRequest q → request_at p m ≡ Some q → (i : ℕ) → IsFull → IsAllowed k (clear_place k) (with_id q f i) → Moved
  moved q fits reads i full may = (
    with_id q f i,
    may,
    turn_moved r m (phase_of (clear_turns g)) (negotiation_of (clear_turns g)) (clear_turns g) (clear_turns k) (held_of g) (held_of k) q fits reads f i full (taken_none r p m f taken)
        ∙ ap (λ (x : Place). turn_of r x m (with_id q f i)) there,
    bytes_same r m (phase_of (clear_turns g)) (negotiation_of (clear_turns g)) (clear_turns g) (clear_turns k) (held_of g) (held_of k) q fits reads f i
        ∙ ap (λ (x : Place). answer_bytes r x m (with_id q f i)) there,
  )

  measured : (op : ℕ) → request_at p m ≡ Some (GetMeasurements op) → Moved
  measured op reads =
      let code = asked-code p m (GetMeasurements op) reads in
      moved (GetMeasurements op) tt reads (free_id k)
      (sym (ap (λ (n : ℕ). n == PSK_EXCHANGE && held_of g == 4) code) ∙ ap (λ (n : ℕ). n == PSK_EXCHANGE && held_of k == 4) code)
      (record {
        least = (free_id-range k).0;
        most = (free_id-range k).1;
        unused = λ room. free_id-unheld k (not_four (held_of k) room);
        context = context;
        exchange_opaque = allowed.exchange_opaque;
        nonce = allowed.nonce;
        measured_opaque = allowed.measured_opaque;
        handle = allowed.handle;
        reply = allowed.reply;
        pad = allowed.pad;
      })

  takes_it : (x : ExchangeMessage) → request_at p m ≡ Some (PskExchange x) → takes PSK_EXCHANGE (turn_of r p m f) ≡ true
  takes_it x reads =
      ap (takes PSK_EXCHANGE) (turn_of-plain r p m f (PskExchange x) (taken_none r p m f taken) reads refl)
      ∙ ap (λ (y : Option RequestMessage). code_in (effect_of y m (answer_bytes r p m f) (handle_for p f (answer_bytes r p m f))) == PSK_EXCHANGE) reads

  exchanged : (x : ExchangeMessage) → request_at p m ≡ Some (PskExchange x) → Moved
  exchanged x reads =
      let psk = takes_it x reads in
      let t : Turn = turn_of r p m f in
      let fresh = exchange-fresh (held_of g) f.id t.effect psk (turn_of-fresh r p m f allowed.most) in
      let unheld : is_held g f.id ≡ false = allowed.unused (eqb-false (held_of g) 4 fresh.1) in
      let now : is_held k f.id ≡ false = sym (subst (λ (i : ℕ). is_held g i ≡ is_held k i) fresh.0 (held psk)) ∙ unheld in
      let room : (held_of k == 4) ≡ false = not_full k f.id allowed.least allowed.most now in
      moved (PskExchange x) tt reads f.id (ap (λ (b : Bool). code_of m == PSK_EXCHANGE && b) (fresh.1 ∙ sym room))
      (record {
        least = allowed.least;
        most = allowed.most;
        unused = λ other. now;
        context = context;
        exchange_opaque = allowed.exchange_opaque;
        nonce = allowed.nonce;
        measured_opaque = allowed.measured_opaque;
        handle = allowed.handle;
        reply = allowed.reply;
        pad = allowed.pad;
      })

  by_request : (q : RequestMessage) → IsFreeRequest q → request_at p m ≡ Some q → Moved
  by_request (GetMeasurements op) fits reads = measured op reads
  by_request (PskExchange x) fits reads = exchanged x reads
  by_request GetVersion fits reads = absurd fits
  by_request (GetCapabilities caps) fits reads = absurd fits
  by_request (NegotiateAlgorithms offer) fits reads = absurd fits
  by_request (PskFinish verify) fits reads = absurd fits
  by_request Heartbeat fits reads = absurd fits
  by_request (KeyUpdate op tag) fits reads = absurd fits
  by_request EndSession fits reads = absurd fits
  by_request (ChunkSend c) fits reads = absurd fits
  by_request (ChunkGet handle number) fits reads = absurd fits

  pub values_moved : (v : Free) × IsAllowed k (clear_place k) v × (turn_of r (clear_place g) m f ≡ turn_of r (clear_place k) m v) × (answer_bytes r (clear_place g) m f ≡ answer_bytes r (clear_place k) m v)
  values_moved = by_request asked.q asked.free asked.reads

  chunk_none : chunk_in (request_at p m) ≡ None
  chunk_none = ap chunk_in asked.reads ∙ no_chunk asked.q asked.free

  -- The whole answer is that of one message.
  pub whole_here : clear_answer r (clear_place g) m f ≡ answer_bytes r (clear_place g) m f
  whole_here = ap (answer_at r p m f) chunk_none

  pub whole_there : (v : Free) → clear_answer r (clear_place k) m v ≡ answer_bytes r (clear_place k) m v
  whole_there v = subst (λ (x : Place). clear_answer r x m v ≡ answer_bytes r x m v) there (ap (answer_at r o m v) chunk_none)

-- ---- What the request may lead to.

entry_turn : (tag other : ℕ) (t u : Turn) (d e : Draw) → Adds (Clear tag t d) ≡ Adds (Clear other u e) → t ≡ u
entry_turn tag other t u d e same = cc

entry_draw : (tag other : ℕ) (t u : Turn) (d e : Draw) → Adds (Clear tag t d) ≡ Adds (Clear other u e) → d ≡ e
entry_draw tag other t u d e same = cc

module _ (r : RspSetup) (g k : History) (tag other : ℕ) (m : List ℕ) (now : Turn) (d : Draw) (reached : phase_of (clear_turns g) ≡ phase_of (clear_turns k)) (agreed : negotiation_of (clear_turns g) ≡ negotiation_of (clear_turns k))
    (anew : is_repeat (kept_of k) other m ≡ false) (taken : is_taken now ≡ true) (free : IsFree now)
    (held : takes PSK_EXCHANGE now ≡ true → is_held g (id_in_exchange (answer_in now.effect)) ≡ is_held k (id_in_exchange (answer_in now.effect))) where
  pub lead_moved : MayLeadTo r g tag (clear_body m) (Adds (Clear tag now d)) → MayLeadTo r k other (clear_body m) (Adds (Clear other now d))
  unfolding MayLeadTo on_clear
  lead_moved may = elim (clear_form r g tag m may.0 (Adds (Clear tag now d)) may.3) [
    | inl same ↦ absurd (let x = same.1 in cc)
    | inr adds ↦
        let t : Turn = turn_of r (clear_place g) m may.0 in
        let is : now ≡ t = entry_turn tag tag now t d no_draw adds in
        let draws : d ≡ no_draw = entry_draw tag tag now t d no_draw adds in
        let takes_one = sym (ap is_taken is) ∙ taken in
        let fits = subst IsFree is free in
        let ids = subst (λ (x : Turn). takes PSK_EXCHANGE x ≡ true → is_held g (id_in_exchange (answer_in x.effect)) ≡ is_held k (id_in_exchange (answer_in x.effect))) is held in
        let v = values_moved r g k m may.0 reached agreed may.1 takes_one fits ids in
        let here = whole_here r g k m may.0 reached agreed may.1 takes_one fits ids in
        let there = whole_there r g k m may.0 reached agreed may.1 takes_one fits ids v.0 in (
          v.0,
          v.1,
          subst (λ (l : List ℕ). length l ≤ MAX_MESSAGE_SIZE) (here ∙ v.3 ∙ sym there) may.2,
          ap (λ (b : Bool). cond b (Same (clear_body (kept_reply (kept_of k)))) (Adds (Clear other (turn_of r (clear_place k) m v.0) no_draw))) anew
              ∙ ap (λ (x : Turn). Adds (Clear other x no_draw)) (sym (is ∙ v.2)) ∙ ap (λ (x : Draw). Adds (Clear other now x)) (sym draws),
        )
  ]
