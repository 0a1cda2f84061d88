-- What an answer that goes whole changes is what it shows.
use Rattle.std.proofs.Common.{◌≡◌, ◌≤◌, ◌==◌, ◌&&◌, ◌||◌, ◌∙◌, ℕ, List, [], ◌∷◌, Bool, true, false, cond, Option, Some, None, is_some, length, drop, refl, sym, ap, subst, arith, inl, inr, eq-eqb, ne_eqb}
use Rattle.std.specs.Prelude.{not, slice_index}
use Rattle.std.proofs.lemmas.Bool.{not-true}
use Rattle.requester_machine.specs.Hearing.{hears}
use Rattle.requester_machine.specs.History as requester_history
use Rattle.requester_machine.specs.History.{outstanding}
use Rattle.responder_machine.specs.Answer.{Free}
use Rattle.responder_machine.specs.Handling.{turn_of}
use Rattle.responder_machine.specs.History.{History, Kept, clear_turns, ended_of, kept_of, phase_of}
use Rattle.responder_machine.specs.History.Entry.{Clear}
use Rattle.responder_machine.specs.May.{IsAllowed, place_for, with_dropped}
use Rattle.responder_machine.specs.Place.{Place, clear_place}
use Rattle.responder_machine.specs.Records.{opening_fault}
use Rattle.responder_machine.specs.Responder.{Outcome, body_of, in_session, in_session_by, is_repeat, kept_record, kept_reply, on_clear, on_record, repeats, to_session}
use Rattle.responder_machine.specs.Responder.Outcome.{Same, Adds}
use Rattle.responder_machine.specs.Session.{Events, id_in_record, last_of, session_of}
use Rattle.responder_machine.specs.Setup.{RspSetup}
use Rattle.responder_machine.specs.Turn.{Turn, answer_in, handle_in, takes}
use Rattle.spdm_basis.proofs.Bools.{and_first}
use Rattle.spdm_basis.specs.declared.causes.record_fault.RecordFault.{RecordFault}
use Rattle.spdm_grammar.specs.declared.names.request_code.TheConstants.{PSK_EXCHANGE}
use Rattle.spdm_grammar.specs.declared.told.phase.Phase.{Phase}
use Rattle.spdm_machine.specs.Bodies.{clear_body, record_body}
use Rattle.spdm_machine.specs.Sessions.{id_in_exchange}
use Rattle.check_laws.proofs.AcceptedAnswers.{answer_accepts}
use Rattle.check_laws.proofs.AnswerSteps.{taken_same}
use Rattle.check_laws.proofs.BegunSessions.{turn_few}
use Rattle.check_laws.proofs.ChangesMade.{whole_answer_changes}
use Rattle.check_laws.proofs.DropsShown.{turn_begins}
use Rattle.check_laws.specs.AnswersShown.{values_shown_by}
use Rattle.check_laws.specs.ChangeLaws.{answered_by, begun_by}
use Rattle.check_laws.specs.Changes.{IsFew, session_in}
use Rattle.check_laws.specs.DropsShown.{IsShownAnswer, clear_drops, drops_shown_by, id_begun, outcome_shown, record_drops, response_of}
use Rattle.check_laws.specs.KeptChanges.{KeptAnswerChanges, accepted_from, begun_shown, is_kept_record, taken_shown}
use Rattle.check_laws.specs.Keeping as keeping
use Rattle.check_laws.specs.Keeping.{restored}
use Rattle.check_laws.specs.RepliesShown.{answered, answered_from, heard_from, no_values, replied, responder_for}
use Rattle.capture_machine.proofs.DropsTell.{clear_form, kept_same, record_form}
use Rattle.capture_machine.specs.CapturedAnswers.{is_plain}
use Rattle.capture_machine.specs.Rounds.{Dialogue, Round, no_draw}
use Rattle.capture_machine.specs.SessionTable.{begins, is_new}

-- ---- A turn.

-- An answer with an id has bytes.
has_bytes : (a : List ℕ) → IsFew (id_in_exchange a) → (length a == 0) ≡ false
has_bytes [] few = absurd (let low : 1 ≤ 0 = few.0 in omega (arith, low))
has_bytes (x ∷ a) few = ne_eqb (length (x ∷ a)) 0 (λ none. omega (arith, none))

-- So PSK_EXCHANGE that takes effect begins a session.
begins_is : (t : Turn) → (takes PSK_EXCHANGE t ≡ true → IsFew (id_in_exchange (answer_in t.effect))) → begins t ≡ takes PSK_EXCHANGE t
begins_is t few = by_takes (takes PSK_EXCHANGE t) few
  where
    by_takes : (b : Bool) → (b ≡ true → IsFew (id_in_exchange (answer_in t.effect))) → (b && not (length (answer_in t.effect) == 0)) ≡ b
    by_takes true few = ap not (has_bytes (answer_in t.effect) (few refl))
    by_takes false few = refl

-- ---- In the clear.

module _ (r : RspSetup) (h : History) (ids : List ℕ) (tag : ℕ) (m : List ℕ) (f : Free) (o : Outcome) (is : on_clear r (with_dropped h ids) tag m f no_draw ≡ o) where
  abbrev t : Turn
  t = turn_of r (clear_place (with_dropped h ids)) m f

  adds_begun : (p : Place) → IsAllowed (with_dropped h ids) p f → Adds (Clear tag t no_draw) ≡ o → is_plain h o ≡ true → begun_by o ≡ id_begun (response_of (drop 1 (body_of o)))
  adds_begun p fits adds plain =
      let small : is_some (handle_in t.effect) ≡ false = not-true _ (and_first _ _ (ap (is_plain h) adds ∙ plain)) in
      let few : takes PSK_EXCHANGE t ≡ true → IsFew (id_in_exchange (answer_in t.effect)) = turn_few r (clear_place (with_dropped h ids)) m f t fits.least fits.most refl in
      sym (ap begun_by adds) ∙ ap (λ (b : Bool). cond b (Some (id_in_exchange (answer_in t.effect))) None) (begins_is t few)
      ∙ sym (turn_begins r (clear_place (with_dropped h ids)) m f small)
      ∙ ap (λ (x : Outcome). id_begun (response_of (drop 1 (body_of x)))) adds

  clear_begun : (p : Place) → IsAllowed (with_dropped h ids) p f → is_plain h o ≡ true → begun_by o ≡ cond (not (is_repeat (kept_of h) tag m)) (id_begun (response_of (drop 1 (body_of o)))) None
  unfolding on_clear
  clear_begun p fits plain = by_repeat (is_repeat (kept_of (with_dropped h ids)) tag m) (is_repeat (kept_of h) tag m) (ap (λ (k : Option Kept). is_repeat k tag m) (kept_same ids h)) is
    where
      by_repeat : (b c : Bool) → b ≡ c → cond b (Same (clear_body (kept_reply (kept_of (with_dropped h ids))))) (Adds (Clear tag t no_draw)) ≡ o
          → begun_by o ≡ cond (not c) (id_begun (response_of (drop 1 (body_of o)))) None
      by_repeat true true same told = sym (ap begun_by told)
      by_repeat false false same told = adds_begun p fits told plain
      by_repeat true false same told = absurd (cc)
      by_repeat false true same told = absurd (cc)

  -- No record is taken.
  clear_taken : answered_by o ≡ None
  clear_taken = elim (clear_form r (with_dropped h ids) tag m f o is) [ inl same ↦ ap answered_by same.1 | inr adds ↦ ap answered_by adds ]

-- ---- A record.

module _ (r : RspSetup) (g : History) (tag : ℕ) (sealed : List ℕ) (f : Free) (o : Outcome) where
  -- What the answer shows, by whether the record gets a reply again.
  abbrev taken_as : Bool → Option ℕ
  taken_as again = cond (slice_index (body_of o) 0 == 5 || again) None (Some (id_in_record sealed))

  abbrev IsTaken : Bool → Outcome → Type 0
  IsTaken again x = answered_by x ≡ cond (slice_index (body_of x) 0 == 5 || again) None (Some (id_in_record sealed))

  fault_taken : (phase : Phase) (s : Events) (x : Option RecordFault) → in_session_by r phase s f tag sealed no_draw x ≡ o → IsTaken false o
  fault_taken phase s (Some fault) is = subst (IsTaken false) is refl
  fault_taken phase s None is = subst (IsTaken false) is refl

  repeat_taken : (phase : Phase) (s : Events) (b : Bool) (kept : List ℕ) → cond b (Same (record_body kept)) (in_session r phase s f tag sealed no_draw) ≡ o → IsTaken b o
  unfolding in_session
  repeat_taken phase s true kept is = subst (IsTaken true) is refl
  repeat_taken phase s false kept is = fault_taken phase s (opening_fault r.psk s sealed) is

  to_taken : (phase : Phase) (s : Events) → to_session r phase s f tag sealed no_draw ≡ o → IsTaken (repeats (last_of s) sealed) o
  to_taken phase [] is = subst (IsTaken false) is refl
  to_taken phase (e ∷ s) is = repeat_taken phase (e ∷ s) (repeats (last_of (e ∷ s)) sealed) (kept_record (last_of (e ∷ s))) is

  record_taken : on_record r g tag sealed f no_draw ≡ o → IsTaken (is_kept_record g sealed) o
  unfolding on_record
  record_taken is = by_ended (repeats (ended_of g) sealed) is
    where
      by_ended : (b : Bool) → cond b (Same (record_body (kept_record (ended_of g)))) (to_session r (phase_of (clear_turns g)) (session_of (id_in_record sealed) g) f tag sealed no_draw) ≡ o
          → IsTaken (b || repeats (last_of (session_of (id_in_record sealed) g)) sealed) o
      by_ended true told = subst (IsTaken true) told refl
      by_ended false told = to_taken (phase_of (clear_turns g)) (session_of (id_in_record sealed) g) told

  -- No session is begun.
  record_begun : on_record r g tag sealed f no_draw ≡ o → begun_by o ≡ None
  record_begun is = elim (record_form r tag sealed f o g is) [
    | inl same ↦ ap begun_by same.1
    | inr rest ↦ elim rest [ inl none ↦ ap begun_by none.1 | inr added ↦ ap begun_by added.2 ]
  ]

-- ---- Any answer.

module _ (r : RspSetup) (h : History) (tag : ℕ) (body answer : List ℕ) (is : IsShownAnswer r h tag body answer) where
  abbrev ids : List ℕ
  ids = drops_shown_by r h tag body answer

  abbrev g : History
  g = with_dropped h ids

  abbrev f : Free
  f = values_shown_by r g tag body answer

  abbrev o : Outcome
  o = outcome_shown r h tag body answer

  abbrev by : Bool → Outcome
  by b = cond b (on_clear r g tag (drop 1 body) f no_draw) (on_record r g tag (drop 1 body) f no_draw)

  led : (b : Bool) → (slice_index body 0 == 5) ≡ b → by b ≡ o
  led b type = sym (ap by type) ∙ is.0.2

  pub begun_is : begun_by o ≡ begun_shown h tag body answer
  begun_is = by_type (slice_index body 0 == 5) refl
    where
      by_type : (b : Bool) → (slice_index body 0 == 5) ≡ b → begun_by o ≡ cond (b && not (is_repeat (kept_of h) tag (drop 1 body))) (id_begun (response_of (drop 1 answer))) None
      by_type true type =
          clear_begun r h ids tag (drop 1 body) f o (led true type) (place_for g body) is.0.0 is.1
          ∙ ap (λ (l : List ℕ). cond (not (is_repeat (kept_of h) tag (drop 1 body))) (id_begun (response_of (drop 1 l))) None) is.2
      by_type false type = record_begun r g tag (drop 1 body) f o (led false type)

  -- A record that is no answer in the clear shows no drop.
  none_dropped : (slice_index body 0 == 5) ≡ false → (slice_index answer 0 == 5) ≡ false → g ≡ h
  unfolding drops_shown_by
  none_dropped type plain =
      ap (λ (b : Bool). with_dropped h (cond b (clear_drops h tag (drop 1 body) (drop 1 answer)) (record_drops r h (drop 1 body) answer))) type
      ∙ ap (λ (l : List ℕ). with_dropped h l) (none_by (slice_index answer 0 == 5) plain _)
    where
      none_by : (b : Bool) → b ≡ false → (c : Bool) → cond (b && c) (id_in_record (drop 1 body) ∷ []) [] ≡ []
      none_by false plain c = refl
      none_by true plain c = absurd (cc)

  pub taken_is : answered_by o ≡ taken_shown h body answer
  taken_is = by_type (slice_index body 0 == 5) refl
    where
      by_answer : (slice_index body 0 == 5) ≡ false → (b : Bool) → (slice_index answer 0 == 5) ≡ b
          → cond (b || is_kept_record g (drop 1 body)) None (Some (id_in_record (drop 1 body))) ≡ cond (b || is_kept_record h (drop 1 body)) None (Some (id_in_record (drop 1 body)))
      by_answer type true plain = refl
      by_answer type false plain = ap (λ (x : History). cond (is_kept_record x (drop 1 body)) None (Some (id_in_record (drop 1 body)))) (none_dropped type plain)

      by_type : (b : Bool) → (slice_index body 0 == 5) ≡ b
          → answered_by o ≡ cond (b || (slice_index answer 0 == 5 || is_kept_record h (drop 1 body))) None (Some (id_in_record (drop 1 body)))
      by_type true type = clear_taken r h ids tag (drop 1 body) f o (led true type)
      by_type false type =
          record_taken r g tag (drop 1 body) f o (led false type)
          ∙ ap (λ (l : List ℕ). cond (slice_index l 0 == 5 || is_kept_record g (drop 1 body)) None (Some (id_in_record (drop 1 body)))) is.2
          ∙ by_answer type (slice_index answer 0 == 5) refl

-- ---- Behind it.

same_tag : (n : ℕ) → not (n == n) ≡ false
same_tag n = ap not (eq-eqb n n refl)

pub kept_answer_changes : KeptAnswerChanges
unfolding answered_from heard_from accepted_from
kept_answer_changes w k tag round answer at is =
    let r : RspSetup = responder_for w k in
    let h : History = k.responder in
    let next : keeping.Kept = replied w k tag round answer in
    let behind : Dialogue = record (restored k) { requester = heard_from k tag answer; responder = answered_from w k round answer; round = Some (answered round) } in
    let whole = whole_answer_changes (restored k) (restored next) (drops_shown_by r h round.tag round.body answer) (outcome_shown r h round.tag round.body answer) refl in
    let sent : requester_history.History = (restored next).requester in
    record {
      begun = whole.0 ∙ begun_is r h round.tag round.body answer is;
      accepted =
          taken_same (restored k) behind ∙ answer_accepts (restored k) behind (hears k.setup (restored k).requester false tag answer no_values no_draw) refl
          ∙ ap (λ (n : ℕ). accepted_from k n answer) (sym at.1);
      answered = whole.1 ∙ taken_is r h round.tag round.body answer is;
      asked =
          ap (λ (x : Option Round). cond (is_new x (answered round)) (session_in (outstanding sent)) None) at.0
          ∙ ap (λ (b : Bool). cond b (session_in (outstanding sent)) None) (same_tag round.tag);
    }
