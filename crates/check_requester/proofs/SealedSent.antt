-- Whether a command of a session sends a record.
use Rattle.std.proofs.Common.{◌≡◌, ◌≤◌, ◌∙◌, ℕ, List, ◌∷◌, Bool, true, false, Option, Some, None, Ok, Err, refl, sym, ap, subst, length}
use Rattle.std.specs.Prelude.{Result, is_err}
use Rattle.std.proofs.lemmas.Bool.{false≢true}
use Rattle.std.proofs.lemmas.Option.{none-some}
use Rattle.requester_core.specs.Joined.{IsCommanded, IsDone, StandsFor}
use Rattle.requester_core.specs.Owed.{IsRetold, owed_with}
use Rattle.requester_core.specs.declared.joined.RequesterCore.{RequesterCore}
use Rattle.requester_machine.proofs.Entries.{asked}
use Rattle.requester_machine.specs.Asking.{Outcome, asks, asks_by, done}
use Rattle.requester_machine.specs.Asking.Outcome.{Adds, Fails}
use Rattle.requester_machine.specs.Commands.{Free, command_fault}
use Rattle.requester_machine.specs.History.{History, asks_session, begins_large}
use Rattle.requester_machine.specs.History.Entry.{Told}
use Rattle.requester_machine.specs.Message.{Ask, Command, Sent, body_of}
use Rattle.requester_machine.specs.Message.Aim.{InSession}
use Rattle.requester_machine.specs.Message.Ask.{AskBeat, AskData, AskEnd, AskMeasure, AskUpdate}
use Rattle.requester_machine.specs.Message.Command.{Beat, Connect, End, Measure, Open, Retry, Send, Update}
use Rattle.requester_machine.specs.Sending.{inner_data, inner_request, key_update, operation_of, record_sent}
use Rattle.requester_machine.specs.Session.{session_of}
use Rattle.requester_machine.specs.May.{IsSetUp}
use Rattle.requester_machine.specs.Setup.{ReqSetup}
use Rattle.requester_machine.specs.Shown.{after, fault_of}
use Rattle.spdm_grammar.specs.Message.RequestMessage.{EndSession, GetMeasurements, Heartbeat}
use Rattle.spdm_grammar.specs.declared.told.command_fault.CommandFault.{CommandFault}
use Rattle.spdm_machine.specs.Bodies.{record_body}
use Rattle.check_laws.proofs.Connecting.{pad_with, values_with, with_allowed}
use Rattle.check_laws.proofs.ShownSealed.{asks_right}
use Rattle.check_requester.specs.SealedTold.{IsSentBy}
use Rattle.capture_machine.proofs.AskTells.{same_sent}
use Rattle.capture_machine.specs.CapturedRequests.{Tells}
use Rattle.capture_machine.specs.Rounds.{no_draw}

-- What a command of a session asks, at any values, which change no fault.
pub record IsOfSession (q : ReqSetup) (h : History) (c : Command) : Type 0 where
  pub id : ℕ
  pub ask : Ask
  pub inner : List ℕ
  pub does : (f : Free) → done q h c f no_draw ≡ Adds (Told c (record_sent q h id (session_of id h) ask inner f.pad) no_draw)
  pub faults : (f k : Free) → command_fault false q h c f ≡ command_fault false q h c k

pub of_session : (q : ReqSetup) (h : History) (c : Command) → asks_session c ≡ true → IsOfSession q h c
unfolding command_fault
of_session q h Connect its = absurd (false≢true its)
of_session q h (Open summary) its = absurd (false≢true its)
of_session q h (Send id bytes) its = record { id = id; ask = AskData; inner = inner_data bytes; does = λ f. refl; faults = λ f k. refl }
of_session q h (Beat id) its = record { id = id; ask = AskBeat; inner = inner_request Heartbeat; does = λ f. refl; faults = λ f k. refl }
of_session q h (Update id all) its = record { id = id; ask = AskUpdate all; inner = inner_request (key_update (session_of id h) (operation_of all)); does = λ f. refl; faults = λ f k. refl }
of_session q h (Measure None op) its = absurd (false≢true its)
of_session q h (Measure (Some id) op) its = record { id = id; ask = AskMeasure op; inner = inner_request (GetMeasurements op); does = λ f. refl; faults = λ f k. refl }
of_session q h (End id) its = record { id = id; ask = AskEnd; inner = inner_request EndSession; does = λ f. refl; faults = λ f k. refl }
of_session q h Retry its = absurd (false≢true its)

right_by : (q : ReqSetup) (h : History) (c : Command) (f : Free) (o : Option CommandFault) → fault_of (asks_by q h c f no_draw o) ≡ None → o ≡ None
right_by q h c f None is = refl
right_by q h c f (Some why) is = absurd (none-some why (sym is))

right_of : (q : ReqSetup) (h : History) (c : Command) (f : Free) → fault_of (asks false q h c f no_draw) ≡ None → command_fault false q h c f ≡ None
unfolding asks
right_of q h c f is = right_by q h c f (command_fault false q h c f) is

module _ (q : ReqSetup) (h : History) (c : Command) (its : asks_session c ≡ true) where
  abbrev one : IsOfSession q h c
  one = of_session q h c its

  -- What it sends with this padding.
  abbrev with_pad : List ℕ → Sent
  with_pad pad = record_sent q h one.id (session_of one.id h) one.ask one.inner pad

  aims_at : (pad : List ℕ) → (with_pad pad).aim ≡ InSession one.id one.ask
  aims_at pad = refl

  asks_it : (f : Free) → command_fault false q h c f ≡ None → asks false q h c f no_draw ≡ Adds (Told c (with_pad f.pad) no_draw)
  asks_it f none = asks_right q h c f none ∙ one.does f

  told_is : (body : List ℕ) (next : History) (t : Tells q h c body next) → (command_fault false q h c t.1.0 ≡ None) × (with_pad t.1.0.pad ≡ t.0)
  told_is body next t =
      let did = asked false q h c t.1.0 no_draw (Told c t.0 no_draw) t.1.2 in
      (did.0, same_sent c _ t.0 no_draw (sym (one.does t.1.0) ∙ did.1))

  -- Another padding than what was sent with.
  padded_as : (pad other : List ℕ) → owed_with q h one.id pad (with_pad other) ≡ with_pad pad
  padded_as pad other = refl

  small_one : (pad : List ℕ) → begins_large (with_pad pad).aim ≡ false
  small_one pad = refl

  -- Where it fails at some values, it fails at all.
  fails_sent : (f : Free) (why : CommandFault) (body : List ℕ) (new : RequesterCore) → asks false q h c f no_draw ≡ Fails why → IsSentBy q h c body false new
  fails_sent f why body new fails = λ next t.
      let none = one.faults f t.1.0 ∙ (told_is body next t).0 in
      let e : Fails why ≡ Adds (Told c (with_pad f.pad) no_draw) = sym fails ∙ asks_it f none in cc

  -- What it sent is with another padding the record, or no such record.
  sealed_sent : (f : Free) (sealed : List ℕ) (new : RequesterCore) (b : Bool) → IsSetUp q → length sealed ≤ 4160 → command_fault false q h c f ≡ None → IsRetold q h c no_draw one.id (with_pad f.pad) sealed new b → IsSentBy q h c (record_body sealed) b new
  sealed_sent f sealed new true set_up short none r =
      let pad : List ℕ = r.0 in
      let k : Free = values_with q h pad in
      let same : owed_with q h one.id pad (with_pad f.pad) ≡ with_pad k.pad = padded_as pad f.pad ∙ ap with_pad (sym (pad_with q h pad)) in (
        Told c (with_pad k.pad) no_draw ∷ h,
        (with_pad k.pad, (k, with_allowed q h pad set_up r.1, asks_it k (one.faults k f ∙ none)), small_one k.pad, ap (λ (x : Sent). body_of x.content) (sym same) ∙ r.2, refl),
        subst (λ (x : Sent). StandsFor new q (Told c x no_draw ∷ h)) same r.3,
      )
  sealed_sent f sealed new false set_up short none r = λ next t.
      r short t.1.0.pad t.1.1.pad (ap (λ (x : Sent). body_of x.content) (padded_as t.1.0.pad f.pad ∙ (told_is (record_body sealed) next t).1) ∙ t.3)

  -- By what came of it.
  done_right : (f : Free) (tag : ℕ) (out : List ℕ) (new : RequesterCore) → IsDone q h (asks false q h c f no_draw) tag out new → command_fault false q h c f ≡ None
  done_right f tag out new did = right_of q h c f did.fault

  done_stands : (f : Free) (tag : ℕ) (out : List ℕ) (new : RequesterCore) → IsDone q h (asks false q h c f no_draw) tag out new → StandsFor new q (Told c (with_pad f.pad) no_draw ∷ h)
  done_stands f tag out new did = subst (λ (o : Outcome). StandsFor new q (after h o)) (asks_it f (done_right f tag out new did)) did.stands

  -- By its result, and by whether the record is taken after it.
  pub err_sent : (f : Free) (r : Result ℕ CommandFault) (out body : List ℕ) (new last : RequesterCore) → is_err r ≡ true → IsCommanded q h (asks false q h c f no_draw) r out new → IsSentBy q h c body false last
  err_sent f (Ok tag) out body new last is did = absurd (false≢true is)
  err_sent f (Err why) out body new last is did = fails_sent f why body last did.0

  pub ok_sent : (f : Free) (r : Result ℕ CommandFault) (out sealed : List ℕ) (new last : RequesterCore) (b : Bool) → is_err r ≡ false → IsSetUp q → length sealed ≤ 4160 → IsCommanded q h (asks false q h c f no_draw) r out new
      → ((sent : Sent) (id : ℕ) (ask : Ask) → sent.aim ≡ InSession id ask → StandsFor new q (Told c sent no_draw ∷ h) → IsRetold q h c no_draw id sent sealed last b) → IsSentBy q h c (record_body sealed) b last
  ok_sent f (Ok tag) out sealed new last b not set_up short did takes =
      sealed_sent f sealed last b set_up short (done_right f tag out new did) (takes (with_pad f.pad) one.id one.ask (aims_at f.pad) (done_stands f tag out new did))
  ok_sent f (Err why) out sealed new last b not set_up short did takes = absurd (false≢true (sym not))
