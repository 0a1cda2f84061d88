-- An answer in the clear to a record is determined by what it leads to.
use Rattle.std.proofs.Common.{◌≡◌, ◌≢◌, ◌⊎◌, inl, inr, suc, ◌∙◌, ℕ, List, [], ◌∷◌, refl, sym, ap, subst, drop, Bool, true, false, arith}
use Rattle.std.specs.Prelude.{slice_index}
use Rattle.responder_machine.specs.Answer.{Free}
use Rattle.responder_machine.specs.History.{History, clear_turns, ended_of, phase_of}
use Rattle.responder_machine.specs.May.{on_body, with_dropped}
use Rattle.responder_machine.specs.Place.{session_place}
use Rattle.responder_machine.specs.Records.{opened}
use Rattle.responder_machine.specs.Responder.{Outcome, after, body_of, decrypt_error, on_record, repeats}
use Rattle.responder_machine.specs.Responder.Outcome.{Unopened}
use Rattle.responder_machine.specs.Session.{Events, id_in_record, last_of, session_of}
use Rattle.responder_machine.specs.Setup.{RspSetup}
use Rattle.spdm_machine.specs.Bodies.{clear_body, record_body}
use Rattle.check_responder.proofs.AnyAnswers.{IsSized, session_few}
use Rattle.check_laws.proofs.LeastValues.{least_allowed}
use Rattle.check_responder.proofs.RecordShown.{at_again, at_closed, at_ended, at_opened, value_closed}
use Rattle.check_responder.specs.JudgedResponder.{history_shown}
use Rattle.check_laws.specs.AnswersShown.{LeadsAt, least_values, values_shown_by}
use Rattle.check_laws.specs.DropsShown.{IsShownAnswer, drops_shown_by, outcome_shown}
use Rattle.check_responder.specs.ShownBy.{HasFewBlocks, closed_drops, opens_at}
use Rattle.capture_machine.specs.CapturedAnswers.{is_plain}
use Rattle.capture_machine.specs.Rounds.{no_draw}

-- ---- What is answered in the clear is not opened, whatever the values are.

no_record : (request sealed reply : List ℕ) (o : Outcome) → body_of o ≡ record_body sealed → body_of o ≡ clear_body reply → ⊥
no_record request sealed reply o one two = (let kind = ap (λ (l : List ℕ). slice_index l 0) (sym one ∙ two) in omega (arith, kind))

-- It is not opened.
abbrev pub IsClosed : RspSetup → History → ℕ → (request : List ℕ) → Type 0
IsClosed r g tag request = (body : List ℕ) × ((f : Free) → on_record r g tag request f no_draw ≡ Unopened body)

module _ (r : RspSetup) (g : History) (tag : ℕ) (request reply : List ℕ) (f : Free) (body : body_of (on_record r g tag request f no_draw) ≡ clear_body reply) where
  abbrev s : Events
  s = session_of (id_in_record request) g

  by_opening : (b : Bool) → opens_at r s request ≡ b → repeats (ended_of g) request ≡ false → repeats (last_of s) request ≡ false → IsClosed r g tag request
  by_opening true opens new fresh = absurd (no_record request _ reply (on_record r g tag request f no_draw) (ap body_of (at_opened r g tag request f new fresh opens)) body)
  by_opening false closed new fresh = (decrypt_error (phase_of (clear_turns g)), λ x. at_closed r g tag request x new fresh closed)

  by_last : (b : Bool) → repeats (last_of s) request ≡ b → repeats (ended_of g) request ≡ false → IsClosed r g tag request
  by_last true again new = absurd (no_record request _ reply (on_record r g tag request f no_draw) (ap body_of (at_again r g tag request f new again)) body)
  by_last false fresh new = by_opening (opens_at r s request) refl new fresh

  by_ended : (b : Bool) → repeats (ended_of g) request ≡ b → IsClosed r g tag request
  by_ended true again = absurd (no_record request _ reply (on_record r g tag request f no_draw) (ap body_of (at_ended r g tag request f again)) body)
  by_ended false new = by_last (repeats (last_of s) request) refl new

  pub closed_by : IsClosed r g tag request
  closed_by = by_ended (repeats (ended_of g) request) refl

-- ---- What it shows.

module _ (r : RspSetup) (h : History) (tag : ℕ) (request reply : List ℕ) where
  abbrev g : History
  g = with_dropped h (closed_drops r h request)

  abbrev here : Events
  here = session_of (id_in_record request) g

  abbrev k : Free
  k = least_values g (session_place here)

  abbrev answer : List ℕ
  answer = clear_body reply

  abbrev shown_at : List ℕ → Type 0
  shown_at ids =
      let x = with_dropped h ids in
      let v = values_shown_by r x tag (record_body request) answer in
      let o = on_body r x tag (record_body request) v no_draw in
      LeadsAt r x tag (record_body request) o v × (is_plain h o ≡ true) × (body_of o ≡ answer)

  drops_are : drops_shown_by r h tag (record_body request) answer ≡ closed_drops r h request
  unfolding drops_shown_by
  drops_are = refl

  to_shown : IsShownAnswer r h tag (record_body request) answer → shown_at (closed_drops r h request)
  unfolding outcome_shown
  to_shown shown = subst shown_at drops_are shown

  from_shown : shown_at (closed_drops r h request) → IsShownAnswer r h tag (record_body request) answer
  unfolding outcome_shown
  from_shown shown = subst shown_at (sym drops_are) shown

  -- At the least values it is the same answer.
  pub closed_to : IsShownAnswer r h tag (record_body request) answer → body_of (on_record r g tag request k no_draw) ≡ answer
  closed_to shown =
      let known = to_shown shown in
      let v : Free = values_shown_by r g tag (record_body request) answer in
      let closed = closed_by r g tag request reply v known.2 in
      ap body_of (closed.1 k ∙ sym (closed.1 v)) ∙ known.2

  pub closed_from : HasFewBlocks r → IsSized r here → body_of (on_record r g tag request k no_draw) ≡ answer → IsShownAnswer r h tag (record_body request) answer
  closed_from blocks sized body =
      let closed = closed_by r g tag request reply k body in
      let value = value_closed r g tag request answer closed.0 (closed.1 k) in
      let short = session_few r g here (drop 1 (opened r.psk here request)) blocks sized in
      let P : Free → Type 0 = λ v. LeadsAt r g tag (record_body request) (on_body r g tag (record_body request) v no_draw) v × (is_plain h (on_body r g tag (record_body request) v no_draw) ≡ true) × (body_of (on_body r g tag (record_body request) v no_draw) ≡ answer) in
      from_shown (subst P (sym value) ((least_allowed g (session_place here) [] (omega arith), short, refl), ap (is_plain h) (closed.1 k), body))

  pub closed_history : body_of (on_record r g tag request k no_draw) ≡ answer → history_shown r h tag (record_body request) answer ≡ after g (on_record r g tag request k no_draw)
  unfolding outcome_shown
  closed_history body =
      let closed = closed_by r g tag request reply k body in
      let value = value_closed r g tag request answer closed.0 (closed.1 k) in
      ap (λ (l : List ℕ). let x = with_dropped h l in after x (on_body r x tag (record_body request) (values_shown_by r x tag (record_body request) answer) no_draw)) drops_are
      ∙ ap (λ (v : Free). after g (on_record r g tag request v no_draw)) value

-- ---- The type of an answer.

typed_by : (n : ℕ) (l : List ℕ) → slice_index l 0 ≡ suc n → l ≡ suc n ∷ drop 1 l
typed_by n [] is = absurd (omega (arith, is))
typed_by n (x ∷ l) is = ap (λ (k : ℕ). k ∷ l) is

pub clear_typed : (l : List ℕ) → slice_index l 0 ≡ 5 → l ≡ clear_body (drop 1 l)
clear_typed l is = typed_by 4 l is

pub record_typed : (l : List ℕ) → slice_index l 0 ≡ 6 → l ≡ record_body (drop 1 l)
record_typed l is = typed_by 5 l is

module _ (r : RspSetup) (g : History) (tag : ℕ) (request : List ℕ) (f : Free) where
  abbrev there : Events
  there = session_of (id_in_record request) g

  abbrev kind : ℕ
  kind = slice_index (body_of (on_record r g tag request f no_draw)) 0

  of_opening : (b : Bool) → opens_at r there request ≡ b → repeats (ended_of g) request ≡ false → repeats (last_of there) request ≡ false → (kind ≡ 5) ⊎ (kind ≡ 6)
  of_opening true opens new fresh = inr (ap (λ (o : Outcome). slice_index (body_of o) 0) (at_opened r g tag request f new fresh opens))
  of_opening false closed new fresh = inl (ap (λ (o : Outcome). slice_index (body_of o) 0) (at_closed r g tag request f new fresh closed))

  of_last : (b : Bool) → repeats (last_of there) request ≡ b → repeats (ended_of g) request ≡ false → (kind ≡ 5) ⊎ (kind ≡ 6)
  of_last true again new = inr (ap (λ (o : Outcome). slice_index (body_of o) 0) (at_again r g tag request f new again))
  of_last false fresh new = of_opening (opens_at r there request) refl new fresh

  of_ended : (b : Bool) → repeats (ended_of g) request ≡ b → (kind ≡ 5) ⊎ (kind ≡ 6)
  of_ended true again = inr (ap (λ (o : Outcome). slice_index (body_of o) 0) (at_ended r g tag request f again))
  of_ended false new = of_last (repeats (last_of there) request) refl new

  pub kinds : (kind ≡ 5) ⊎ (kind ≡ 6)
  kinds = of_ended (repeats (ended_of g) request) refl

-- A record is answered by no body of another type.
pub other_type : (r : RspSetup) (h : History) (tag : ℕ) (request answer : List ℕ) → slice_index answer 0 ≢ 5 → slice_index answer 0 ≢ 6 → IsShownAnswer r h tag (record_body request) answer → ⊥
unfolding outcome_shown
other_type r h tag request answer clear sealed shown =
    let g : History = with_dropped h (drops_shown_by r h tag (record_body request) answer) in
    let same = ap (λ (l : List ℕ). slice_index l 0) shown.2 in
    elim (kinds r g tag request (values_shown_by r g tag (record_body request) answer)) [
      | inl is ↦ clear (sym same ∙ is)
      | inr is ↦ sealed (sym same ∙ is)
    ]
