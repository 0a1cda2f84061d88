-- The answer of an entry that brings LargeResponse is one that is sent in chunks.
use Rattle.std.proofs.Common.{◌≡◌, ◌≤◌, ◌==◌, ℕ, List, [], refl, sym, ap, ◌∙◌, subst, length, drop, Bool, true, false, Option, Some, None, is_some, cond, inl, inr}
use Rattle.std.specs.Prelude.{slice_index}
use Rattle.std.proofs.lemmas.Bool.{false≢true}
use Rattle.chunking.specs.Collecting.{joined_with, under_way}
use Rattle.responder_machine.proofs.Tests.{contents_shown}
use Rattle.responder_machine.specs.Answer.{Free, answer_bytes, request_at}
use Rattle.responder_machine.specs.Handling.{carried_turn, chunk_in, effect_of, goes_large, last_chunk_turn, request_effect, taken_chunk, turn_by, turn_of}
use Rattle.responder_machine.specs.History.{Entry, History, negotiation_of, phase_of}
use Rattle.responder_machine.specs.History.Entry.{Clear}
use Rattle.responder_machine.specs.LargeMessages.{chunks_of}
use Rattle.responder_machine.specs.Place.{Place, clear_place, held_of, inside, session_place}
use Rattle.responder_machine.specs.Place.Where.{InClear}
use Rattle.responder_machine.specs.May.{with_dropped}
use Rattle.responder_machine.specs.Records.{opened}
use Rattle.responder_machine.specs.Refusal.{refusal}
use Rattle.responder_machine.specs.Responder.{data_turn, inner_refusal, on_clear, on_record, session_turn, session_turn_by}
use Rattle.responder_machine.specs.Responder.Outcome.{Adds}
use Rattle.responder_machine.specs.Session.{Events, id_in_record, session_of, stage_of}
use Rattle.responder_machine.specs.Setup.{RspSetup}
use Rattle.responder_machine.specs.Turn.Effect.{NoEffect}
use Rattle.responder_machine.specs.Turn.{Turn, answer_in, handle_in}
use Rattle.spdm_grammar.specs.Message.{ChunkMessage, RequestMessage}
use Rattle.spdm_grammar.specs.declared.messages.error_code.ErrorCode.{ErrorCode}
use Rattle.spdm_grammar.specs.declared.names.TheConstants.{MAX_MESSAGE_SIZE}
use Rattle.check_laws.proofs.LargeMoved.{beside}
use Rattle.check_laws.specs.LargeShown.{whole_of}
use Rattle.capture_machine.proofs.DropsTell.{clear_form, turns_stay}
use Rattle.capture_machine.proofs.RecordAdds.{record_added}
use Rattle.capture_machine.proofs.RepliesTell.{no_chunk}
use Rattle.capture_machine.proofs.TurnsAlike.{chunk_is}
use Rattle.capture_machine.specs.CapturedAnswers.{MayLeadTo, answer_at, clear_answer, record_answer}
use Rattle.capture_machine.specs.LargeAnswers.{IsLargeAnswer, is_large, place_of}
use Rattle.capture_machine.specs.Rounds.{no_draw}

-- The place of a turn that came to a place.
abbrev pub turn_place : Place → Turn → Place
turn_place p t = cond (is_some t.chunk) (inside p) p

-- Its answer is sent in chunks there, where it went by LargeResponse.
abbrev Fits : Place → Turn → Type 0
Fits p t = is_some (handle_in t.effect) ≡ true → IsLargeAnswer (turn_place p t) (answer_in t.effect)

effect_fits : (p : Place) (o : Option RequestMessage) (text answer : List ℕ) (b : Bool) (k : ℕ) → is_some (handle_in (effect_of o text answer (cond b (Some k) None))) ≡ true → (b ≡ true) × (answer_in (effect_of o text answer (cond b (Some k) None)) ≡ answer)
effect_fits p None text answer b k large = absurd (false≢true large)
effect_fits p (Some asked) text answer true k large = (refl, refl)
effect_fits p (Some asked) text answer false k large = absurd (false≢true large)

request_fits : (r : RspSetup) (p : Place) (m : List ℕ) (f : Free) → refusal r p m f ≡ None → length (answer_bytes r p m f) ≤ MAX_MESSAGE_SIZE → is_some (handle_in (request_effect r p m f)) ≡ true → IsLargeAnswer p (answer_in (request_effect r p m f))
request_fits r p m f none short large =
    let known = effect_fits p (request_at p m) m (answer_bytes r p m f) (goes_large p (answer_bytes r p m f)) f.handle large in
    subst (IsLargeAnswer p) (sym known.1) (known.0, contents_shown r p m f none 10, short)

module _ (r : RspSetup) (p : Place) (m : List ℕ) (f : Free) where
  carried_fits : (c : ChunkMessage) (whole : List ℕ) (o : Option ErrorCode) → refusal r (inside p) whole f ≡ o → length (answer_bytes r (inside p) whole f) ≤ MAX_MESSAGE_SIZE → Fits p (carried_turn r (inside p) m f c whole o)
  carried_fits c whole (Some e) is short = λ large. absurd (false≢true large)
  carried_fits c whole None is short = request_fits r (inside p) whole f is short

  chunk_fits : (c : ChunkMessage) (whole : List ℕ) (b : Bool) → length (answer_bytes r (inside p) whole f) ≤ MAX_MESSAGE_SIZE → Fits p (cond b (last_chunk_turn r (inside p) m f c whole) (taken_chunk m c NoEffect []))
  chunk_fits c whole true short = carried_fits c whole (refusal r (inside p) whole f) refl short
  chunk_fits c whole false short = λ large. absurd (false≢true large)

  by_fits : (o : Option ErrorCode) (c : Option ChunkMessage) → refusal r p m f ≡ o → length (answer_at r p m f c) ≤ MAX_MESSAGE_SIZE → Fits p (turn_by r p m f o c)
  by_fits (Some e) c is short = λ large. absurd (false≢true large)
  by_fits None None is short = request_fits r p m f is short
  by_fits None (Some c) is short = chunk_fits c (joined_with (under_way (chunks_of p.turns)) c) c.last short

  turn_fits : length (answer_at r p m f (chunk_in (request_at p m))) ≤ MAX_MESSAGE_SIZE → Fits p (turn_of r p m f)
  unfolding turn_of
  turn_fits short = by_fits (refusal r p m f) (chunk_in (request_at p m)) refl short

-- ---- In a session no chunk is taken.

module _ (r : RspSetup) (s : Events) (m : List ℕ) (f : Free) where
  abbrev InSession : Turn → Type 0
  InSession t = is_some (handle_in t.effect) ≡ true → IsLargeAnswer (session_place s) (answer_in t.effect)

  sealed_by : (o : Option ErrorCode) (c : Option ChunkMessage) → refusal r (session_place s) m f ≡ o → chunk_in (request_at (session_place s) m) ≡ c → length (answer_bytes r (session_place s) m f) ≤ MAX_MESSAGE_SIZE
      → InSession (turn_by r (session_place s) m f o c)
  sealed_by (Some e) c is asks short = λ large. absurd (false≢true large)
  sealed_by None None is asks short = request_fits r (session_place s) m f is short
  sealed_by None (Some c) is asks short = absurd (no_chunk r s m f c (chunk_is (request_at (session_place s) m) c asks) is)

  sealed_fits : length (answer_bytes r (session_place s) m f) ≤ MAX_MESSAGE_SIZE → InSession (turn_of r (session_place s) m f)
  unfolding turn_of
  sealed_fits short = sealed_by (refusal r (session_place s) m f) (chunk_in (request_at (session_place s) m)) refl refl short

session_fits_by : (r : RspSetup) (s : Events) (inner : List ℕ) (f : Free) (o : Option ErrorCode) → length (answer_bytes r (session_place s) (drop 1 inner) f) ≤ MAX_MESSAGE_SIZE
    → is_some (handle_in (session_turn_by r s inner f o).effect) ≡ true → IsLargeAnswer (session_place s) (answer_in (session_turn_by r s inner f o).effect)
session_fits_by r s inner f (Some e) short large = absurd (false≢true large)
session_fits_by r s inner f None short large = by_type (slice_index inner 0 == 5) large
  where
    by_type : (b : Bool) → is_some (handle_in (cond b (turn_of r (session_place s) (drop 1 inner) f) (data_turn f (drop 1 inner))).effect) ≡ true
        → IsLargeAnswer (session_place s) (answer_in (cond b (turn_of r (session_place s) (drop 1 inner) f) (data_turn f (drop 1 inner))).effect)
    by_type true large = sealed_fits r s (drop 1 inner) f short large
    by_type false large = absurd (false≢true large)

session_fits : (r : RspSetup) (s : Events) (inner : List ℕ) (f : Free) → length (answer_bytes r (session_place s) (drop 1 inner) f) ≤ MAX_MESSAGE_SIZE
    → is_some (handle_in (session_turn r s inner f).effect) ≡ true → IsLargeAnswer (session_place s) (answer_in (session_turn r s inner f).effect)
unfolding session_turn
session_fits r s inner f short large = session_fits_by r s inner f (inner_refusal (stage_of s) inner) short large

-- ---- An entry.

-- How many sessions are held does not count.
held_apart : (p : Place) (n : ℕ) (t : Turn) (whole : List ℕ) → IsLargeAnswer (turn_place (beside p n) t) whole → IsLargeAnswer (turn_place p t) whole
held_apart p n t whole = by_chunk (is_some t.chunk)
  where
    by_chunk : (b : Bool) → IsLargeAnswer (cond b (inside (beside p n)) (beside p n)) whole → IsLargeAnswer (cond b (inside p) p) whole
    by_chunk true fits = fits
    by_chunk false fits = fits

beside_is : (h : History) (ids : List ℕ) → clear_place (with_dropped h ids) ≡ beside (clear_place h) (held_of (with_dropped h ids))
beside_is h ids =
    ap (λ (l : List Turn). record { at = InClear; phase = phase_of l; turns = l; negotiation = negotiation_of l; events = []; past_handshake = held_of (with_dropped h ids) }) (turns_stay ids h)

module _ (r : RspSetup) (h : History) (tag : ℕ) (body : List ℕ) (e : Entry) (large : is_large e ≡ true) where
  clear_fits : (ids : List ℕ) (f : Free) → length (clear_answer r (clear_place (with_dropped h ids)) (drop 1 body) f) ≤ MAX_MESSAGE_SIZE → on_clear r (with_dropped h ids) tag (drop 1 body) f no_draw ≡ Adds e → IsLargeAnswer (place_of h e) (whole_of e)
  clear_fits ids f short leads =
      let g : History = with_dropped h ids in
      let t : Turn = turn_of r (clear_place g) (drop 1 body) f in
      elim (clear_form r g tag (drop 1 body) f (Adds e) leads) [
        | inl same ↦ absurd (let x = same.1 in cc)
        | inr adds ↦
            let same : Clear tag t no_draw ≡ e = cc (sym adds) in
            let fits = turn_fits r (clear_place g) (drop 1 body) f short (ap is_large same ∙ large) in
            let there = held_apart (clear_place h) (held_of g) t (answer_in t.effect) (subst (λ (p : Place). IsLargeAnswer (turn_place p t) (answer_in t.effect)) (beside_is h ids) fits) in
            subst (λ (x : Entry). IsLargeAnswer (place_of h x) (whole_of x)) same there
      ]

  record_fits : (f : Free) → length (record_answer r (session_of (id_in_record (drop 1 body)) h) (drop 1 body) f) ≤ MAX_MESSAGE_SIZE → on_record r h tag (drop 1 body) f no_draw ≡ Adds e → IsLargeAnswer (place_of h e) (whole_of e)
  record_fits f short leads =
      let s : Events = session_of (id_in_record (drop 1 body)) h in
      let same = record_added r f tag (drop 1 body) e h leads in
      subst (λ (x : Entry). IsLargeAnswer (place_of h x) (whole_of x)) same (session_fits r s (opened r.psk s (drop 1 body)) f short (ap is_large same ∙ large))

  by_type : (chosen : List ℕ) (b : Bool) (f : Free) → let g = with_dropped h (cond b chosen []) in
      length (cond b (clear_answer r (clear_place g) (drop 1 body) f) (record_answer r (session_of (id_in_record (drop 1 body)) g) (drop 1 body) f)) ≤ MAX_MESSAGE_SIZE
      → cond b (on_clear r g tag (drop 1 body) f no_draw) (on_record r g tag (drop 1 body) f no_draw) ≡ Adds e → IsLargeAnswer (place_of h e) (whole_of e)
  by_type chosen true f short leads = clear_fits chosen f short leads
  by_type chosen false f short leads = record_fits f short leads

  pub large_fits : (chosen : List ℕ) → MayLeadTo r (with_dropped h (cond (slice_index body 0 == 5) chosen [])) tag body (Adds e) → IsLargeAnswer (place_of h e) (whole_of e)
  unfolding MayLeadTo
  large_fits chosen may = by_type chosen (slice_index body 0 == 5) may.0 may.2 may.3
