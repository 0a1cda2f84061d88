-- What the table of sessions is told where a fetch begins in a session.
use Rattle.std.proofs.Common.{◌≡◌, ◌<◌, ◌==◌, ℕ, List, ◌∷◌, refl, sym, ap, ◌∙◌, drop, false, true, Some, None}
use Rattle.std.specs.Prelude.{slice_index}
use Rattle.mctp_framing.specs.Cutting.{RouteFields}
use Rattle.check_ends.proofs.InTurn.{AnswersInTurn}
use Rattle.check_responder.specs.AnswerKeys.{will_take}
use Rattle.check_requester.specs.JudgedRequester.{Carries}
use Rattle.check_laws.specs.ChangeLaws.{AnswerAccepts, LargeAnswerChanges}
use Rattle.check_laws.specs.Changes.{IsChange, IsStep, views_in}
use Rattle.check_laws.specs.Keeping.{Kept, restored}
use Rattle.check_laws.specs.KeptChanges.{accepted_from, taken_shown}
use Rattle.check_laws.specs.LargeShown.{IsShownLarge, whole_of}
use Rattle.check_laws.specs.RepliesShown.{responder_for}
use Rattle.check_laws.specs.declared.change.Change.{Change}
use Rattle.check_late_laws.specs.Fetching.{Fetching}
use Rattle.requester_machine.specs.May.{IsSetUp}
use Rattle.requester_machine.specs.Setup.{ReqSetup}
use Rattle.responder_machine.specs.Answer.{request_at}
use Rattle.responder_machine.specs.History.{Entry, History}
use Rattle.responder_machine.specs.Place.{session_place}
use Rattle.responder_machine.specs.Records.{opened}
use Rattle.responder_machine.specs.Session.{id_in_record, session_of, session_terms}
use Rattle.spdm_grammar.specs.Message.RequestMessage.{GetMeasurements}
use Rattle.spdm_machine.specs.Bodies.{record_body}
use Rattle.capture_machine.specs.LargeAnswers.{unseen}
use Rattle.world_machine.specs.Setup.{Configuration}
use Rattle.check_fetched_ends.proofs.BeginsThere.{begun, judged_is, next}
use Rattle.check_fetched_ends.proofs.BegunStands.{none_behind}
use Rattle.check_fetched_ends.proofs.ChangesOn.{accepted_on, asked_on}
use Rattle.check_late_laws.proofs.Late.QuietSteps.{none_accepted, quiet_step}
use Rattle.check_fetched_laws.proofs.RecordTaken.{taken_is}
use Rattle.check_fetched_laws.proofs.SeenKeys.{views_alike}

module _ (w : Configuration) (q : ReqSetup) (older : List (List ℕ)) (k : Kept) (route : RouteFields) (answer : List ℕ) (byte : w.responder.beat < 256) (limits : IsSetUp k.setup) (carries : Carries w q older k) (turn : AnswersInTurn k route answer)
    (type : (slice_index turn.round.body 0 == 5) ≡ false) (will : will_take (responder_for w k) k.responder turn.round.body ≡ true) (large : IsShownLarge (responder_for w k) k.responder turn.round.tag turn.round.body answer) (op : ℕ)
    (asks : request_at (session_place (session_of (id_in_record (drop 1 turn.round.body)) k.responder)) (drop 1 (opened (responder_for w k).psk (session_of (id_in_record (drop 1 turn.round.body)) k.responder) (drop 1 turn.round.body))) ≡ Some (GetMeasurements op))
    (six : record_body (drop 1 turn.round.body) ≡ turn.round.body) (wide : 12 < (session_terms (session_of (id_in_record (drop 1 turn.round.body)) k.responder)).common.to_requester.transfer) (sealed : (slice_index answer 0 == 5) ≡ false)
    (accepts : AnswerAccepts) (law : LargeAnswerChanges) where
  abbrev h : History
  h = k.responder

  abbrev e : Entry
  e = begun w q older k route answer byte limits carries turn type will large op asks

  abbrev f : Fetching
  f = next w q older k route answer byte limits carries turn type will large op asks

  pub begun_change : (change : Change) → change.begun ≡ None → change.accepted ≡ accepted_from k turn.round.tag answer → change.answered ≡ taken_shown k.responder turn.round.body answer → change.asked ≡ None → change.views ≡ views_in (e ∷ k.responder)
      → IsChange change (restored k) (restored f.kept)
  begun_change change begun accepted answered asked views =
      let changes = law (restored k) (restored f.kept) e refl in
      let none = none_behind w q older k route answer byte limits carries turn type will large op asks six wide in record {
        begun = begun ∙ sym changes.0;
        accepted = accepted ∙ sym (accepted_on k (unseen e ∷ h) route.tag turn.round answer turn.answers.0 turn.answers.1 accepts);
        answered = answered ∙ taken_is (responder_for w k) h turn.round.tag turn.round.body answer type will sealed ∙ sym changes.1;
        asked = asked ∙ sym (asked_on k (unseen e ∷ h) route.tag turn.round answer turn.answers.0 turn.answers.1);
        views = views ∙ ap views_in (sym (judged_is w q older k route answer byte limits carries turn type will large op asks)) ∙ views_alike (id_in_record (drop 1 turn.round.body)) (whole_of e) (unseen e ∷ h) none;
      }

  pub begun_step : IsStep (restored k) (restored f.kept)
  begun_step =
      quiet_step (restored k) (restored f.kept) refl (law (restored k) (restored f.kept) e refl).0
      (accepted_on k (unseen e ∷ h) route.tag turn.round answer turn.answers.0 turn.answers.1 accepts ∙ none_accepted k turn.round.tag answer turn.body sealed)
