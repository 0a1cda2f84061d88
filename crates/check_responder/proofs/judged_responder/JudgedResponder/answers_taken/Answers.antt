use Rattle.std.proofs.Common.{◌≡◌, ◌∙◌, ap, sym, subst, drop, take, ℕ, List, true}
use Rattle.std.specs.Prelude.{◌↔◌}
use Rattle.std.proofs.lemmas.Bool.{false≢true}
use Rattle.byteorder.specs.Endian.{little_number}
use Rattle.responder_machine.specs.Answer.{Free}
use Rattle.responder_machine.specs.Place.{session_place}
use Rattle.responder_machine.specs.Records.{opened, reply_number, reply_purpose}
use Rattle.responder_machine.specs.Responder.{after, on_record}
use Rattle.responder_machine.specs.Session.{id_bytes, id_in_record, is_live, session_of, session_terms}
use Rattle.spdm_machine.specs.Bodies.{record_body}
use Rattle.check_responder.proofs.RecordAnswered.{live_least}
use Rattle.check_responder.proofs.RecordTold.{first_true, part_is, size_never}
use Rattle.check_responder.proofs.judged_responder.JudgedResponder.answers_taken.Goals as goal
use Rattle.check_responder.specs.JudgedResponder.{IsAnswerer}
use Rattle.check_laws.specs.AnswersShown.{least_values, record_values, values_in_text}
use Rattle.check_responder.specs.RecordAnswers.{given_shown}
use Rattle.check_responder.specs.ShownBy.{IsRecordGiven, text_shown}
use Rattle.capture_machine.specs.Opening.{turn_in}
use Rattle.capture_machine.specs.Rounds.{no_draw}

pub returns-then-sealed-lt-MIN_RECORD_SIZE-clause-told : goal.returns-then-sealed-lt-MIN_RECORD_SIZE-clause-told
returns-then-sealed-lt-MIN_RECORD_SIZE-clause-told c = λ r h tag set stands few taken opens key.
    let request : List ℕ = c.args.request.now in
    let sealed : List ℕ = c.args.sealed.now in
    let s = session_of (id_in_record request) h in
    let least = live_least _ r h (id_in_record request) stands (first_true (is_live s) _ taken.opens) in
    λ a. size_never r h tag request taken least (record_values r h request sealed) sealed c.if-sealed-lt-MIN_RECORD_SIZE.true a

pub returns-then-not-gives_shown-clause-told : goal.returns-then-not-gives_shown-clause-told
returns-then-not-gives_shown-clause-told c = λ r h tag set stands few taken opens key.
    let request : List ℕ = c.args.request.now in
    let sealed : List ℕ = c.args.sealed.now in
    let s = session_of (id_in_record request) h in
    let t = turn_in r s request in
    let k : Free = least_values h (session_place s) in
    let v : Free = record_values r h request sealed in
    let text = c.text.ensures (session_terms s).choice (reply_purpose r.psk s t) (reply_number s t) (id_bytes s) key in
    let same : text_shown r h request c.args.inner.now c.as_slice.result.now ≡ v =
    ap (λ (l : List ℕ). values_in_text r s l k c.as_slice.result.now) opens ∙ ap (values_in_text r s (opened r.psk s request) k) (c.as_slice.ensures.value ∙ text) in
    let told = subst (λ (f : Free). (c.gives_shown.result ≡ true) ↔ IsRecordGiven r h tag request f (record_body sealed)) same (c.gives_shown.ensures.told r h tag set stands few (first_true (is_live s) _ taken.opens) opens) in
    λ a. false≢true (sym c.if-not-gives_shown.true ∙ told.1 a)

pub returns-clause-told : goal.returns-clause-told
returns-clause-told c = λ r h tag set stands few taken opens key.
    let request : List ℕ = c.args.request.now in
    let sealed : List ℕ = c.args.sealed.now in
    let s = session_of (id_in_record request) h in
    let t = turn_in r s request in
    let live = first_true (is_live s) _ taken.opens in
    let least = live_least _ r h (id_in_record request) stands live in
    let k : Free = least_values h (session_place s) in
    let v : Free = record_values r h request sealed in
    let text = c.text.ensures (session_terms s).choice (reply_purpose r.psk s t) (reply_number s t) (id_bytes s) key in
    let same : text_shown r h request c.args.inner.now c.as_slice.result.now ≡ v =
    ap (λ (l : List ℕ). values_in_text r s l k c.as_slice.result.now) opens ∙ ap (values_in_text r s (opened r.psk s request) k) (c.as_slice.ensures.value ∙ text) in
    let told = subst (λ (f : Free). (c.gives_shown.result ≡ true) ↔ IsRecordGiven r h tag request f (record_body sealed)) same (c.gives_shown.ensures.told r h tag set stands few live opens) in
    let given = told.0 c.if-not-gives_shown.false in
    let part = c.inner_part.ensures ∙ ap (λ (l : List ℕ). take (little_number 2 l) (drop 2 l)) (c.as_slice-2.ensures.value ∙ text) in
    (given, c.given_shown.ensures ∙ ap given_shown part ∙ part_is r h tag request taken least v sealed given)

pub returns-clause-stands : goal.returns-clause-stands
returns-clause-stands c = λ r h tag set stands few taken opens key.
    let request : List ℕ = c.args.request.now in
    let sealed : List ℕ = c.args.sealed.now in
    let s = session_of (id_in_record request) h in
    let t = turn_in r s request in
    let k : Free = least_values h (session_place s) in
    let text = c.text.ensures (session_terms s).choice (reply_purpose r.psk s t) (reply_number s t) (id_bytes s) key in
    let same : text_shown r h request c.args.inner.now c.as_slice.result.now ≡ record_values r h request sealed =
    ap (λ (l : List ℕ). values_in_text r s l k c.as_slice.result.now) opens ∙ ap (values_in_text r s (opened r.psk s request) k) (c.as_slice.ensures.value ∙ text) in
    subst (λ (f : Free). IsAnswerer c.gives_shown.new.self r (after h (on_record r h tag request f no_draw))) same (c.gives_shown.ensures.stands r h tag set stands few (first_true (is_live s) _ taken.opens) c.if-not-gives_shown.false)
