use Rattle.std.proofs.Common.{◌∙◌, ap, sym, subst, refl, ℕ, List, Option, false}
use Rattle.std.specs.Prelude.{IfSome}
use Rattle.std.proofs.lemmas.Bool.{false≢true}
use Rattle.responder_machine.specs.Answer.{Free}
use Rattle.responder_machine.specs.History.{History, ended_of}
use Rattle.responder_machine.specs.Place.{session_place}
use Rattle.responder_machine.specs.Responder.{after, on_record, repeats}
use Rattle.responder_machine.specs.Session.{id_in_record, is_live, last_of, session_of}
use Rattle.spdm_machine.specs.Bodies.{record_body}
use Rattle.check_responder.proofs.ClearJudged.{kept_behind}
use Rattle.check_responder.proofs.KeysComing.{none_had, reply_had}
use Rattle.check_responder.proofs.RecordAnswered.{closed_never, live_least, neither_of, repeated}
use Rattle.check_responder.proofs.RecordBrought.{adds, behind_shown, brought_shown, kept_whole, whole_only}
use Rattle.check_responder.proofs.RecordShown.{at_closed, at_opened, value_opened}
use Rattle.check_responder.proofs.RecordTold.{first_true}
use Rattle.check_responder.proofs.judged_responder.JudgedResponder.answers_sealed.Goals as goal
use Rattle.check_responder.specs.JudgedResponder.{IsAnswerer}
use Rattle.check_laws.specs.AnswersShown.{least_values}
use Rattle.check_responder.specs.RecordAnswers.{IsGivenTo, IsRecordBrought, history_behind}
use Rattle.check_responder.specs.ShownBy.{IsTaken}
use Rattle.check_responder.specs.declared.given.Given.{Given}
use Rattle.capture_machine.specs.Opening.{any_free}
use Rattle.capture_machine.specs.Rounds.{no_draw}

pub returns-then-is_repeated-clause-told : goal.returns-then-is_repeated-clause-told
returns-then-is_repeated-clause-told c = λ r h tag set stands few coming.
    let request : List ℕ = c.args.request.now in
    let answer : List ℕ = record_body c.args.sealed.now in
    let again = sym (c.is_repeated.ensures r h stands) ∙ c.if-is_repeated.true in
    let same = repeated r h tag request again in
    let told = c.answers_repeated-same.ensures.told r h tag set stands few again in
    subst (λ (o : Option Given). IsGivenTo r h tag (record_body request) answer o) (sym c.whole_if.ensures)
    (whole_only r h tag request answer (λ f body. ap adds (same.1 f)) c.answers_repeated-same.result told)

pub returns-then-is_repeated-clause-stands : goal.returns-then-is_repeated-clause-stands
returns-then-is_repeated-clause-stands c = λ r h tag set stands few coming.
    let request : List ℕ = c.args.request.now in
    let answer : List ℕ = record_body c.args.sealed.now in
    let again = sym (c.is_repeated.ensures r h stands) ∙ c.if-is_repeated.true in
    let K : Given → Type 0 = λ x. IsAnswerer c.answers_repeated-same.new.self r (history_behind r h tag (record_body request) answer x) in
    subst (λ (o : Option Given). IfSome o K) (sym c.whole_if.ensures)
    (kept_whole K c.answers_repeated-same.result (λ is. c.answers_repeated-same.ensures.stands r h tag set stands few again is))

pub returns-in-Some-clause-told : goal.returns-in-Some-clause-told
returns-in-Some-clause-told c = λ r h tag set stands few coming.
    let request : List ℕ = c.args.request.now in
    let s = session_of (id_in_record request) h in
    let answer : List ℕ = record_body c.args.sealed.now in
    let new = neither_of (repeats (ended_of h) request) (repeats (last_of s) request) (sym (c.is_repeated.ensures r h stands) ∙ c.if-is_repeated.false) in
    let known = reply_had c.args.coming.now r h request c.in-Some.key c.in-Some.is new.0 new.1 coming any_free in
    let taken : IsTaken r h request = record { ended = new.0; last = new.1; opens = known.0 } in
    let least = live_least _ r h (id_in_record request) stands (first_true (is_live s) _ taken.opens) in
    let told = c.answers_taken.ensures.told r h tag set stands few taken (c.as_slice-inner.ensures.value ∙ known.1) known.2 in
    let value = value_opened r h tag request answer _ (at_opened r h tag request (least_values h (session_place s)) new.0 new.1 known.0) in
    brought_shown r h tag request answer refl taken least c.answers_taken.result (subst (λ (f : Free). IsRecordBrought r h tag request f answer c.answers_taken.result) (sym value) told)

pub returns-in-Some-clause-stands : goal.returns-in-Some-clause-stands
returns-in-Some-clause-stands c = λ r h tag set stands few coming.
    let request : List ℕ = c.args.request.now in
    let s = session_of (id_in_record request) h in
    let answer : List ℕ = record_body c.args.sealed.now in
    let new = neither_of (repeats (ended_of h) request) (repeats (last_of s) request) (sym (c.is_repeated.ensures r h stands) ∙ c.if-is_repeated.false) in
    let known = reply_had c.args.coming.now r h request c.in-Some.key c.in-Some.is new.0 new.1 coming any_free in
    let taken : IsTaken r h request = record { ended = new.0; last = new.1; opens = known.0 } in
    let value = value_opened r h tag request answer _ (at_opened r h tag request (least_values h (session_place s)) new.0 new.1 known.0) in
    kept_behind (λ (x : History). IsAnswerer c.answers_taken.new.self r x) (history_behind r h tag (record_body request) answer) _ c.answers_taken.result
    (λ x is. behind_shown r h tag request answer refl x ∙ ap (λ (f : Free). after h (on_record r h tag request f no_draw)) value)
    (c.answers_taken.ensures.stands r h tag set stands few taken (c.as_slice-inner.ensures.value ∙ known.1) known.2)

pub returns-in-None-clause-told : goal.returns-in-None-clause-told
returns-in-None-clause-told c = λ r h tag set stands few coming.
    let request : List ℕ = c.args.request.now in
    let s = session_of (id_in_record request) h in
    let new = neither_of (repeats (ended_of h) request) (repeats (last_of s) request) (sym (c.is_repeated.ensures r h stands) ∙ c.if-is_repeated.false) in
    let closed = none_had c.args.coming.now r h request c.in-None.is new.0 new.1 coming in
    whole_only r h tag request (record_body c.args.sealed.now) (λ f body. ap adds (at_closed r h tag request f new.0 new.1 closed)) false
    (λ no. absurd (false≢true no), λ shown. absurd (closed_never r h tag request c.args.sealed.now new.0 new.1 closed shown))
