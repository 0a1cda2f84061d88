-- A LargeResponse that may be given after some drops may be given after those that count as dropped before it.
use Rattle.std.proofs.Common.{◌≡◌, ◌≤◌, ◌==◌, ℕ, List, [], ◌∷◌, refl, sym, ap, ◌∙◌, subst, length, drop, Bool, true, false, Option, Some, None, is_some, cond}
use Rattle.std.specs.Prelude.{slice_index}
use Rattle.std.proofs.lemmas.Bool.{false≢true}
use Rattle.responder_machine.proofs.Ids.{free_id-range, free_id-unheld, not_four}
use Rattle.responder_machine.specs.Answer.{Free, request_at}
use Rattle.responder_machine.specs.Handling.{chunk_in, turn_of}
use Rattle.responder_machine.specs.History.{Entry, History, KeptRecord, clear_turns, ended_of, kept_of, negotiation_of, phase_of}
use Rattle.responder_machine.specs.History.Entry.{Clear, Dropped}
use Rattle.responder_machine.specs.May.{IsAllowed, place_for, with_dropped}
use Rattle.responder_machine.specs.Place.{Place, clear_place, free_id, held_of, place_terms, session_place}
use Rattle.responder_machine.specs.Place.Where.{InClear}
use Rattle.responder_machine.specs.Records.{opened, opening_fault, reply_record}
use Rattle.responder_machine.specs.Responder.{Outcome, data_turn, in_session, in_session_by, inner_refusal, inner_reply, is_repeat, kept_record, kept_reply, on_clear, on_record, repeats, sent_by, session_turn, session_turn_by, to_session}
use Rattle.responder_machine.specs.Responder.Outcome.{Same, Adds}
use Rattle.responder_machine.specs.Session.{Events, id_in_record, is_live, last_of, session_of, stage_of}
use Rattle.responder_machine.specs.Setup.{RspSetup}
use Rattle.responder_machine.specs.Turn.Effect.{NoEffect, Took, TookData}
use Rattle.responder_machine.specs.Turn.{Effect, Turn, handle_in, is_data}
use Rattle.spdm_basis.specs.declared.causes.record_fault.RecordFault.{RecordFault}
use Rattle.spdm_grammar.specs.declared.messages.error_code.ErrorCode.{ErrorCode}
use Rattle.spdm_grammar.specs.declared.names.TheConstants.{MAX_MESSAGE_SIZE}
use Rattle.spdm_grammar.specs.declared.told.phase.Phase.{Phase}
use Rattle.spdm_machine.specs.Bodies.{clear_body, record_body}
use Rattle.spdm_machine.specs.Terms.{Terms, hash_len}
use Rattle.check_laws.proofs.LargeDrops.{IsChosen}
use Rattle.check_laws.proofs.LargeMoved.{HasRoom, Moves, at_moved, beside, length_moved, named, turn_moved}
use Rattle.check_laws.proofs.SessionShown.{record_is, updates_alike}
use Rattle.capture_machine.proofs.DropsTell.{kept_same, turns_stay}
use Rattle.capture_machine.proofs.PlacesServed.{place_type}
use Rattle.capture_machine.proofs.RecordAdds.{entry_in, record_added}
use Rattle.capture_machine.specs.CapturedAnswers.{MayLeadTo, answer_to, clear_answer, record_answer}
use Rattle.capture_machine.specs.LargeAnswers.{is_large}
use Rattle.capture_machine.specs.Rounds.{no_draw}
use Rattle.capture_machine.proofs.LargeTells.{ended_stay}

-- An entry with the same LargeResponse may be led to.
pub record Leads (r : RspSetup) (h : History) (tag : ℕ) (body : List ℕ) (e : Entry) : Type 0 where
  pub other : Entry
  pub may : MayLeadTo r h tag body (Adds other)
  pub large : is_large other ≡ true
  pub sent : sent_by other ≡ sent_by e

-- The values, with an id that is free in another history.
named_allowed : (g h : History) (p q : Place) (f : Free) → place_terms p ≡ place_terms q → IsAllowed g p f → IsAllowed h q (named f (free_id h))
named_allowed g h p q f terms fits = record {
  least = (free_id-range h).0;
  most = (free_id-range h).1;
  unused = λ room. free_id-unheld h (not_four (held_of h) room);
  context = subst (λ (t : Terms). hash_len t ≤ length f.context) terms fits.context;
  exchange_opaque = fits.exchange_opaque;
  nonce = fits.nonce;
  measured_opaque = fits.measured_opaque;
  handle = fits.handle;
  reply = fits.reply;
  pad = fits.pad;
}

-- ---- In the clear.

module _ (r : RspSetup) (g h : History) (tag : ℕ) (body : List ℕ) (f : Free) (e : Entry) where
  abbrev m : List ℕ
  m = drop 1 body

  abbrev v : Free
  v = named f (free_id h)

  -- The turn that the entry has.
  clear_led : (again : Bool) → is_repeat (kept_of g) tag m ≡ again → cond again (Same (clear_body (kept_reply (kept_of g)))) (Adds (Clear tag (turn_of r (clear_place g) m f) no_draw)) ≡ Adds e
      → (is_repeat (kept_of g) tag m ≡ false) × (Clear tag (turn_of r (clear_place g) m f) no_draw ≡ e)
  clear_led true again is = absurd (cc)
  clear_led false again is = (again, cc)

  module _ (kept : kept_of h ≡ kept_of g) (turns : clear_turns h ≡ clear_turns g) (room : HasRoom (clear_place g) (held_of h)) where
    place_is : beside (clear_place g) (held_of h) ≡ clear_place h
    place_is =
        ap (λ (l : List Turn). record { at = InClear; phase = phase_of l; turns = l; negotiation = negotiation_of l; events = []; past_handshake = held_of h }) (sym turns)

    turn_there : is_some (handle_in (turn_of r (clear_place g) m f).effect) ≡ true → Moves (turn_of r (clear_place g) m f) (turn_of r (clear_place h) m v)
    turn_there large = subst (λ (p : Place). Moves (turn_of r (clear_place g) m f) (turn_of r p m v)) place_is (turn_moved r (clear_place g) (held_of h) m f (free_id h) room large)

    short_there : length (clear_answer r (clear_place g) m f) ≤ MAX_MESSAGE_SIZE → length (clear_answer r (clear_place h) m v) ≤ MAX_MESSAGE_SIZE
    short_there short =
        let same = at_moved r (clear_place g) (held_of h) m f (free_id h) (chunk_in (request_at (clear_place g) m)) in
        subst (λ (p : Place). length (clear_answer r p m v) ≤ MAX_MESSAGE_SIZE) place_is (subst (λ (n : ℕ). n ≤ MAX_MESSAGE_SIZE) (sym same) short)

    on_there : is_repeat (kept_of g) tag m ≡ false → on_clear r h tag m v no_draw ≡ Adds (Clear tag (turn_of r (clear_place h) m v) no_draw)
    unfolding on_clear
    on_there not =
        ap (λ (b : Bool). cond b (Same (clear_body (kept_reply (kept_of h)))) (Adds (Clear tag (turn_of r (clear_place h) m v) no_draw))) (ap (λ k. is_repeat k tag m) kept ∙ not)

    clear_leads : (slice_index body 0 == 5) ≡ true → IsAllowed g (place_for g body) f → length (answer_to r g body f) ≤ MAX_MESSAGE_SIZE → on_clear r g tag m f no_draw ≡ Adds e → is_large e ≡ true → Leads r h tag body e
    unfolding MayLeadTo on_clear
    clear_leads is fits short leads large =
        let known = clear_led (is_repeat (kept_of g) tag m) refl leads in
        let moves = turn_there (ap is_large known.1 ∙ large) in
        let other : Entry = Clear tag (turn_of r (clear_place h) m v) no_draw in
        let terms : place_terms (place_for g body) ≡ place_terms (place_for h body) =
        ap place_terms (place_type g body true is) ∙ ap (λ (p : Place). place_terms p) place_is ∙ ap place_terms (sym (place_type h body true is)) in
        let brief = short_there (subst (λ (b : Bool). length (cond b (clear_answer r (clear_place g) m f) (record_answer r (session_of (id_in_record m) g) m f)) ≤ MAX_MESSAGE_SIZE) is short) in
        record {
          other = other;
          may = (
            v,
            named_allowed g h (place_for g body) (place_for h body) f terms fits,
            subst (λ (b : Bool). length (cond b (clear_answer r (clear_place h) m v) (record_answer r (session_of (id_in_record m) h) m v)) ≤ MAX_MESSAGE_SIZE) (sym is) brief,
            ap (λ (b : Bool). cond b (on_clear r h tag m v no_draw) (on_record r h tag m v no_draw)) is ∙ on_there known.0,
          );
          large = moves.large;
          sent = ap clear_body moves.reply ∙ ap sent_by known.1;
        }

-- ---- In a session.

not_data : (x : Effect) → is_some (handle_in x) ≡ true → is_data x ≡ false
not_data NoEffect large = refl
not_data (Took asked request answer handle) large = refl
not_data (TookData bytes answer) large = absurd (false≢true large)

module _ (r : RspSetup) (s : Events) (inner : List ℕ) (f : Free) (id : ℕ) where
  session_moved_by : (o : Option ErrorCode) → is_some (handle_in (session_turn_by r s inner f o).effect) ≡ true → Moves (session_turn_by r s inner f o) (session_turn_by r s inner (named f id) o)
  session_moved_by (Some c) large = absurd (false≢true large)
  session_moved_by None large = by_type (slice_index inner 0 == 5) large
    where
      by_type : (b : Bool) → is_some (handle_in (cond b (turn_of r (session_place s) (drop 1 inner) f) (data_turn f (drop 1 inner))).effect) ≡ true
          → Moves (cond b (turn_of r (session_place s) (drop 1 inner) f) (data_turn f (drop 1 inner))) (cond b (turn_of r (session_place s) (drop 1 inner) (named f id)) (data_turn (named f id) (drop 1 inner)))
      by_type true large = turn_moved r (session_place s) 0 (drop 1 inner) f id (λ full. full) large
      by_type false large = absurd (false≢true large)

  session_moved : is_some (handle_in (session_turn r s inner f).effect) ≡ true → Moves (session_turn r s inner f) (session_turn r s inner (named f id))
  unfolding session_turn
  session_moved large = session_moved_by (inner_refusal (stage_of s) inner) large

  -- The record is the same.
  record_moved : is_some (handle_in (session_turn r s inner f).effect) ≡ true → let t = session_turn r s inner f in let u = session_turn r s inner (named f id) in
      reply_record r.psk s u (inner_reply u) f.pad ≡ reply_record r.psk s t (inner_reply t) f.pad
  record_moved large =
      let t : Turn = session_turn r s inner f in
      let u : Turn = session_turn r s inner (named f id) in
      let moves = session_moved large in
      let text : inner_reply u ≡ inner_reply t =
      ap (λ (b : Bool). cond b 1 5 ∷ u.reply) (not_data u.effect moves.large ∙ sym (not_data t.effect large)) ∙ ap (λ (l : List ℕ). cond (is_data t.effect) 1 5 ∷ l) moves.reply in
      record_is r.psk s u t (inner_reply u) (inner_reply t) f.pad f.pad (updates_alike r s inner (named f id) f) text refl

-- A record that adds an entry adds one at any values.
module _ (r : RspSetup) (f k : Free) (tag : ℕ) (sealed : List ℕ) (e : Entry) where
  abbrev there : Events → Entry
  there s = entry_in r k tag sealed e s

  in_too : (phase : Phase) (s : Events) (x : Option RecordFault) → in_session_by r phase s f tag sealed no_draw x ≡ Adds e → in_session_by r phase s k tag sealed no_draw x ≡ Adds (there s)
  in_too phase s (Some fault) is = absurd (cc)
  in_too phase s None is = refl

  repeat_too : (phase : Phase) (s : Events) (kept : List ℕ) (b : Bool) → cond b (Same kept) (in_session r phase s f tag sealed no_draw) ≡ Adds e → cond b (Same kept) (in_session r phase s k tag sealed no_draw) ≡ Adds (there s)
  unfolding in_session
  repeat_too phase s kept true is = absurd (cc)
  repeat_too phase s kept false is = in_too phase s (opening_fault r.psk s sealed) is

  to_too : (phase : Phase) (s : Events) → to_session r phase s f tag sealed no_draw ≡ Adds e → (to_session r phase s k tag sealed no_draw ≡ Adds (there s)) × (is_live s ≡ true)
  to_too phase [] is = absurd (cc)
  to_too phase (x ∷ s) is = (repeat_too phase (x ∷ s) _ (repeats (last_of (x ∷ s)) sealed) is, refl)

  ended_too : (phase : Phase) (s : Events) (kept : List ℕ) (b : Bool) → cond b (Same kept) (to_session r phase s f tag sealed no_draw) ≡ Adds e
      → (cond b (Same kept) (to_session r phase s k tag sealed no_draw) ≡ Adds (there s)) × (is_live s ≡ true)
  ended_too phase s kept true is = absurd (cc)
  ended_too phase s kept false is = to_too phase s is

  pub record_too : (h : History) → on_record r h tag sealed f no_draw ≡ Adds e → (on_record r h tag sealed k no_draw ≡ Adds (there (session_of (id_in_record sealed) h))) × (is_live (session_of (id_in_record sealed) h) ≡ true)
  unfolding on_record
  record_too h is = ended_too (phase_of (clear_turns h)) (session_of (id_in_record sealed) h) _ (repeats (ended_of h) sealed) is

-- A session that is live after drops is the same before them.
live_stays : (ids : List ℕ) (h : History) (id : ℕ) → is_live (session_of id (with_dropped h ids)) ≡ true → session_of id (with_dropped h ids) ≡ session_of id h
unfolding session_of
live_stays [] h id live = refl
live_stays (other ∷ ids) h id live = by_id (other == id) (live_stays ids (Dropped other ∷ h) id live) live
  where
    by_id : (b : Bool) → session_of id (with_dropped (Dropped other ∷ h) ids) ≡ cond b [] (session_of id h) → is_live (session_of id (with_dropped (Dropped other ∷ h) ids)) ≡ true
        → session_of id (with_dropped (Dropped other ∷ h) ids) ≡ session_of id h
    by_id true same live = absurd (false≢true (sym (ap is_live same) ∙ live))
    by_id false same live = same

-- What a record leads to, by what it looks at.
abbrev record_on : RspSetup → ℕ → List ℕ → Free → (ended : Option KeptRecord) → List Turn → Events → Outcome
record_on r tag sealed f ended turns s = cond (repeats ended sealed) (Same (record_body (kept_record ended))) (to_session r (phase_of turns) s f tag sealed no_draw)

module _ (r : RspSetup) (h : History) (ids : List ℕ) (tag : ℕ) (body : List ℕ) (f : Free) (e : Entry) where
  abbrev sealed : List ℕ
  sealed = drop 1 body

  abbrev id : ℕ
  id = id_in_record sealed

  abbrev mine : Free
  mine = named f (free_id h)

  on_here : session_of id (with_dropped h ids) ≡ session_of id h → on_record r (with_dropped h ids) tag sealed f no_draw ≡ Adds e → on_record r h tag sealed f no_draw ≡ Adds e
  unfolding on_record
  on_here same leads =
      let ended = ended_stay ids h in
      let turns = turns_stay ids h in
      let moved : record_on r tag sealed f (ended_of (with_dropped h ids)) (clear_turns (with_dropped h ids)) (session_of id (with_dropped h ids)) ≡ record_on r tag sealed f (ended_of h) (clear_turns h) (session_of id h) =
      ap (λ k. record_on r tag sealed f k (clear_turns (with_dropped h ids)) (session_of id (with_dropped h ids))) ended
      ∙ ap (λ (l : List Turn). record_on r tag sealed f (ended_of h) l (session_of id (with_dropped h ids))) turns
      ∙ ap (λ (s : Events). record_on r tag sealed f (ended_of h) (clear_turns h) s) same in
      sym moved ∙ leads

  record_leads : (slice_index body 0 == 5) ≡ false → IsAllowed (with_dropped h ids) (place_for (with_dropped h ids) body) f → length (answer_to r (with_dropped h ids) body f) ≤ MAX_MESSAGE_SIZE
      → on_record r (with_dropped h ids) tag sealed f no_draw ≡ Adds e → is_large e ≡ true → Leads r h tag body e
  unfolding MayLeadTo
  record_leads is fits short leads large =
      let g : History = with_dropped h ids in
      let same : session_of id g ≡ session_of id h = live_stays ids h id (record_too r f f tag sealed e g leads).1 in
      let s : Events = session_of id h in
      let inner : List ℕ = opened r.psk s sealed in
      let here = on_here same leads in
      let added : entry_in r f tag sealed e s ≡ e = record_added r f tag sealed e h here in
      let big : is_some (handle_in (session_turn r s inner f).effect) ≡ true = ap is_large added ∙ large in
      let terms : place_terms (place_for g body) ≡ place_terms (place_for h body) =
      ap place_terms (place_type g body false is) ∙ ap (λ (x : Events). place_terms (session_place x)) same ∙ ap place_terms (sym (place_type h body false is)) in
      let brief : length (record_answer r s sealed f) ≤ MAX_MESSAGE_SIZE =
      subst (λ (x : Events). length (record_answer r x sealed f) ≤ MAX_MESSAGE_SIZE) same
      (subst (λ (b : Bool). length (cond b (clear_answer r (clear_place g) sealed f) (record_answer r (session_of id g) sealed f)) ≤ MAX_MESSAGE_SIZE) is short) in
      record {
        other = entry_in r mine tag sealed e s;
        may = (
          mine,
          named_allowed g h (place_for g body) (place_for h body) f terms fits,
          subst (λ (b : Bool). length (cond b (clear_answer r (clear_place h) sealed mine) (record_answer r s sealed mine)) ≤ MAX_MESSAGE_SIZE) (sym is)
              (subst (λ (n : ℕ). n ≤ MAX_MESSAGE_SIZE) (sym (length_moved r (session_place s) 0 (drop 1 inner) f (free_id h))) brief),
          ap (λ (b : Bool). cond b (on_clear r h tag sealed mine no_draw) (on_record r h tag sealed mine no_draw)) is ∙ (record_too r f mine tag sealed e h here).0,
        );
        large = (session_moved r s inner f (free_id h) big).large;
        sent = ap record_body (record_moved r s inner f (free_id h) big) ∙ ap sent_by added;
      }

-- ---- Any body.

-- After the drops that are chosen.
pub large_leads : (r : RspSetup) (h : History) (ids chosen : List ℕ) (tag : ℕ) (body : List ℕ) (e : Entry) → IsChosen h ids chosen → MayLeadTo r (with_dropped h ids) tag body (Adds e) → is_large e ≡ true
    → Leads r (with_dropped h (cond (slice_index body 0 == 5) chosen [])) tag body e
unfolding MayLeadTo
large_leads r h ids chosen tag body e choice may large = by_type (slice_index body 0 == 5) refl
  where
    g : History
    g = with_dropped h ids

    leads_by : (b : Bool) → (slice_index body 0 == 5) ≡ b → cond b (on_clear r g tag (drop 1 body) may.0 no_draw) (on_record r g tag (drop 1 body) may.0 no_draw) ≡ Adds e
    leads_by b is = ap (λ (b : Bool). cond b (on_clear r g tag (drop 1 body) may.0 no_draw) (on_record r g tag (drop 1 body) may.0 no_draw)) (sym is) ∙ may.3

    by_type : (b : Bool) → (slice_index body 0 == 5) ≡ b → Leads r (with_dropped h (cond b chosen [])) tag body e
    by_type true is =
        clear_leads r g (with_dropped h chosen) tag body may.0 e (kept_same chosen h ∙ sym (kept_same ids h)) (turns_stay chosen h ∙ sym (turns_stay ids h)) choice.room is may.1 may.2 (leads_by true is) large
    by_type false is = record_leads r h ids tag body may.0 e is may.1 may.2 (leads_by false is) large
