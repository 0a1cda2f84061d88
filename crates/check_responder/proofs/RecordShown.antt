-- What a record leads to, and what its answer shows.
use Rattle.std.proofs.Common.{◌≡◌, ◌<◌, ◌∙◌, ◌==◌, ◌&&◌, ℕ, List, [], ◌∷◌, ◌++◌, refl, sym, ap, subst, length, drop, take, Bool, true, false, Option, Some, None, cond, is_none}
use Rattle.std.proofs.Math.Seq.{take-append_seam}
use Rattle.std.proofs.lemmas.Bool.{false≢true}
use Rattle.std.specs.Prelude.{slice_index}
use Rattle.byteorder.specs.Endian.{little_number}
use Rattle.responder_machine.specs.Answer.{Free}
use Rattle.responder_machine.specs.History.{Entry, History, clear_turns, ended_of, phase_of}
use Rattle.responder_machine.specs.May.{on_body, with_dropped}
use Rattle.responder_machine.specs.Place.{session_place}
use Rattle.responder_machine.specs.Records.{opened, opening_fault, reply_record}
use Rattle.responder_machine.specs.Responder.{Outcome, after, body_of, decrypt_error, in_session, in_session_by, inner_reply, kept_record, on_record, repeats, sealed_entry, session_turn, to_session}
use Rattle.responder_machine.specs.Responder.Outcome.{Same, Unopened, Adds}
use Rattle.responder_machine.specs.Session.{Events, id_in_record, last_of, session_of}
use Rattle.responder_machine.specs.Setup.{RspSetup}
use Rattle.responder_machine.specs.Turn.{Turn}
use Rattle.secured_record.proofs.Records.{inner_length}
use Rattle.secured_record.specs.Format.{plain_text}
use Rattle.spdm_basis.specs.declared.causes.record_fault.RecordFault.{RecordFault}
use Rattle.spdm_grammar.specs.declared.told.phase.Phase.{Phase}
use Rattle.spdm_machine.specs.Bodies.{record_body}
use Rattle.check_laws.proofs.SessionShown.{text_is, updates_alike}
use Rattle.check_laws.specs.AnswersShown.{LeadsAt, answered_text, least_values, record_values, values_for, values_shown_by}
use Rattle.check_laws.specs.DropsShown.{IsShownAnswer, drops_shown_by, may_be_dropped, outcome_shown}
use Rattle.check_responder.specs.JudgedResponder.{history_shown}
use Rattle.check_responder.specs.ShownBy.{IsRecordAnswered, opens_at}
use Rattle.capture_machine.specs.CapturedAnswers.{belongs_to, is_plain}
use Rattle.capture_machine.specs.Opening.{any_free, turn_in}
use Rattle.capture_machine.specs.Rounds.{no_draw}

none_fault : (o : Option RecordFault) → is_none o ≡ true → o ≡ None
none_fault None is = refl
none_fault (Some e) is = absurd (false≢true is)

-- ---- A session.

module _ (r : RspSetup) (phase : Phase) (tag : ℕ) (request : List ℕ) where
  abbrev into : Events → Free → Outcome
  into s f = to_session r phase s f tag request no_draw

  session_again : (s : Events) (f : Free) → repeats (last_of s) request ≡ true → into s f ≡ Same (record_body (kept_record (last_of s)))
  session_again [] f is = absurd (false≢true is)
  session_again (e ∷ s) f is = ap (λ (b : Bool). cond b (Same (record_body (kept_record (last_of (e ∷ s))))) (in_session r phase (e ∷ s) f tag request no_draw)) is

  session_opens : (s : Events) (f : Free) → repeats (last_of s) request ≡ false → opens_at r s request ≡ true → into s f ≡ Adds (sealed_entry r s f tag request no_draw (session_turn r s (opened r.psk s request) f))
  unfolding in_session
  session_opens [] f new opens = absurd (false≢true opens)
  session_opens (e ∷ s) f new opens =
      ap (λ (b : Bool). cond b (Same (record_body (kept_record (last_of (e ∷ s))))) (in_session r phase (e ∷ s) f tag request no_draw)) new
      ∙ ap (in_session_by r phase (e ∷ s) f tag request no_draw) (none_fault (opening_fault r.psk (e ∷ s) request) opens)

  session_closed : (s : Events) (f : Free) → repeats (last_of s) request ≡ false → opens_at r s request ≡ false → into s f ≡ Unopened (decrypt_error phase)
  unfolding in_session
  session_closed [] f new closed = refl
  session_closed (e ∷ s) f new closed =
      ap (λ (b : Bool). cond b (Same (record_body (kept_record (last_of (e ∷ s))))) (in_session r phase (e ∷ s) f tag request no_draw)) new
      ∙ by_fault (opening_fault r.psk (e ∷ s) request) closed
    where
      by_fault : (o : Option RecordFault) → is_none o ≡ false → in_session_by r phase (e ∷ s) f tag request no_draw o ≡ Unopened (decrypt_error phase)
      by_fault None closed = absurd (false≢true (sym closed))
      by_fault (Some x) closed = refl

-- ---- A record.

module _ (r : RspSetup) (h : History) (tag : ℕ) (request : List ℕ) where
  abbrev s : Events
  s = session_of (id_in_record request) h

  abbrev k : Free
  k = least_values h (session_place s)

  abbrev at : Free → Outcome
  at f = on_record r h tag request f no_draw

  abbrev phase : Phase
  phase = phase_of (clear_turns h)

  by_ended : (b : Bool) (f : Free) → repeats (ended_of h) request ≡ b → at f ≡ cond b (Same (record_body (kept_record (ended_of h)))) (to_session r phase s f tag request no_draw)
  unfolding on_record
  by_ended b f is = ap (λ (x : Bool). cond x (Same (record_body (kept_record (ended_of h)))) (to_session r phase s f tag request no_draw)) is

  pub at_again : (f : Free) → repeats (ended_of h) request ≡ false → repeats (last_of s) request ≡ true → at f ≡ Same (record_body (kept_record (last_of s)))
  at_again f new is = by_ended false f new ∙ session_again r phase tag request s f is

  pub at_ended : (f : Free) → repeats (ended_of h) request ≡ true → at f ≡ Same (record_body (kept_record (ended_of h)))
  at_ended f is = by_ended true f is

  pub at_opened : (f : Free) → repeats (ended_of h) request ≡ false → repeats (last_of s) request ≡ false → opens_at r s request ≡ true
      → at f ≡ Adds (sealed_entry r s f tag request no_draw (session_turn r s (opened r.psk s request) f))
  at_opened f new fresh opens = by_ended false f new ∙ session_opens r phase tag request s f fresh opens

  pub at_closed : (f : Free) → repeats (ended_of h) request ≡ false → repeats (last_of s) request ≡ false → opens_at r s request ≡ false → at f ≡ Unopened (decrypt_error phase)
  at_closed f new fresh closed = by_ended false f new ∙ session_closed r phase tag request s f fresh closed

  -- ---- The values that its answer shows.

  abbrev value : (answer : List ℕ) → Free
  value answer = values_shown_by r h tag (record_body request) answer

  value_by : (answer : List ℕ) (o : Outcome) → at k ≡ o → value answer ≡ values_for r h (record_body request) answer o
  unfolding values_shown_by
  value_by answer o is = ap (values_for r h (record_body request) answer) is

  pub value_same : (answer body : List ℕ) → at k ≡ Same body → value answer ≡ k
  value_same answer body is = value_by answer (Same body) is

  pub value_closed : (answer body : List ℕ) → at k ≡ Unopened body → value answer ≡ k
  value_closed answer body is = value_by answer (Unopened body) is

  pub value_opened : (answer : List ℕ) (entry : Entry) → at k ≡ Adds entry → value answer ≡ record_values r h request (drop 1 answer)
  value_opened answer entry is = value_by answer (Adds entry) is

  -- ---- An answer that is a record.

  abbrev shown_at : List ℕ → (answer : List ℕ) → Type 0
  shown_at ids answer =
      let g = with_dropped h ids in
      let v = values_shown_by r g tag (record_body request) answer in
      let o = on_body r g tag (record_body request) v no_draw in
      LeadsAt r g tag (record_body request) o v × (is_plain h o ≡ true) × (body_of o ≡ answer)

  no_drops : (answer : List ℕ) → slice_index answer 0 ≡ 6 → drops_shown_by r h tag (record_body request) answer ≡ []
  unfolding drops_shown_by
  no_drops answer is = ap (λ (n : ℕ). cond (n == 5 && (belongs_to r s request && may_be_dropped h (id_in_record request))) (id_in_record request ∷ []) []) is

  pub sealed_to : (answer : List ℕ) → slice_index answer 0 ≡ 6 → IsShownAnswer r h tag (record_body request) answer → IsRecordAnswered r h tag request (value answer) answer
  unfolding outcome_shown
  sealed_to answer is shown =
      let known = subst (λ (l : List ℕ). shown_at l answer) (no_drops answer is) shown in
      record { allowed = known.0.0; short = known.0.1; plain = known.1; body = known.2 }

  pub sealed_from : (answer : List ℕ) → slice_index answer 0 ≡ 6 → IsRecordAnswered r h tag request (value answer) answer → IsShownAnswer r h tag (record_body request) answer
  unfolding outcome_shown
  sealed_from answer is a =
      subst (λ (l : List ℕ). shown_at l answer) (sym (no_drops answer is)) ((a.allowed, a.short, refl), a.plain, a.body)

  pub sealed_history : (answer : List ℕ) → slice_index answer 0 ≡ 6 → history_shown r h tag (record_body request) answer ≡ after h (at (value answer))
  unfolding outcome_shown
  sealed_history answer is =
      ap (λ (l : List ℕ). let g = with_dropped h l in after g (on_body r g tag (record_body request) (values_shown_by r g tag (record_body request) answer) no_draw)) (no_drops answer is)

  -- ---- The inner message of the answer.

  pub inner_shown : (f : Free) (sealed : List ℕ) → length (inner_reply (session_turn r s (opened r.psk s request) f)) < 65536
      → reply_record r.psk s (session_turn r s (opened r.psk s request) f) (inner_reply (session_turn r s (opened r.psk s request) f)) f.pad ≡ sealed
      → let text = answered_text r s (turn_in r s request) sealed in take (little_number 2 text) (drop 2 text) ≡ inner_reply (session_turn r s (opened r.psk s request) f)
  inner_shown f sealed short is =
      let t : Turn = session_turn r s (opened r.psk s request) f in
      let inner : List ℕ = inner_reply t in
      let part : List ℕ → List ℕ = λ text. take (little_number 2 text) (drop 2 text) in
      let text : answered_text r s (turn_in r s request) sealed ≡ plain_text inner f.pad =
      ap (answered_text r s (turn_in r s request)) (sym is) ∙ text_is r s t (turn_in r s request) inner f.pad (updates_alike r s (opened r.psk s request) any_free f) in
      ap part text ∙ ap (λ (n : ℕ). take n (inner ++ f.pad)) (inner_length (length inner) (inner ++ f.pad) short) ∙ take-append_seam inner f.pad
