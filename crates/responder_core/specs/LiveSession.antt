-- A live session of a connection, as the program represents it.
use Rattle.std.specs.Prelude.{◌≡◌, ℕ, List, [], Bool, true, false, Option, Some, None}
use Rattle.responder_core.specs.declared.in_sessions.live_session.LiveSession.{LiveSession}
use Rattle.responder_machine.specs.Answer.{Free}
use Rattle.responder_machine.specs.Responder.{kept_record}
use Rattle.responder_machine.specs.Session.{Events, idle_of, is_live, last_of, period_of, session_terms}
use Rattle.responder_machine.specs.Setup.{RspSetup}
use Rattle.responder_machine.specs.SizeLaws.{HasSizes}
use Rattle.responder_session.specs.Session as sessions
use Rattle.responder_session.specs.Took.{IsTold, reply_in}
use Rattle.responder_session.specs.declared.told.RspTold.{RspTold}
use Rattle.responder_session.specs.declared.told.RspTold.TheVariants as told

-- It is kept of a session of these events, at a responder with its sizes.
pub record StandsFor (seen : LiveSession) (r : RspSetup) (s : Events) : Type 0 where
  pub session : sessions.StandsFor seen.session r.psk s
  pub idle : seen.idle ≡ idle_of s
  pub period : seen.period ≡ period_of s
  pub sizes : HasSizes r (session_terms s).common

-- A slot is empty exactly when there is no session; else its session is kept.
abbrev pub IsSlotOf : Option LiveSession → RspSetup → Events → Type 0
IsSlotOf None r s = s ≡ []
IsSlotOf (Some live) r s = StandsFor live r s

-- The record that answers, by what is reported of the one that came.
abbrev pub IsWritten : RspSetup → Events → Free → (sealed : List ℕ) → RspTold → (out : List ℕ) → Type 0
IsWritten r s f sealed (told.Moved act) out = out ≡ reply_in r s f sealed
IsWritten r s f sealed told.Same out = out ≡ kept_record (last_of s)
IsWritten r s f sealed (told.Unopened fault) out = Unit {0}

-- The seconds since its last record, by what is reported of the one that came.
abbrev pub idle_after : RspTold → Events → ℕ
idle_after (told.Moved act) s = 0
idle_after told.Same s = idle_of s
idle_after (told.Unopened fault) s = idle_of s

-- The outcome of a record at a session of these events.
pub record IsTaken (r : RspSetup) (s : Events) (f : Free) (sealed : List ℕ) (after : LiveSession) (result : RspTold) (out : List ℕ) : Type 0 where
  pub live : is_live s ≡ true
  pub told : IsTold r s f sealed after.session result
  pub idle : after.idle ≡ idle_after result s
  pub period : after.period ≡ period_of s
  pub sizes : HasSizes r (session_terms s).common
  pub written : IsWritten r s f sealed result out

-- The same of a slot.
abbrev pub IsTakenIn : RspSetup → Events → Free → (sealed : List ℕ) → Option LiveSession → Option RspTold → (out : List ℕ) → Type 0
IsTakenIn r s f sealed None None out = s ≡ []
IsTakenIn r s f sealed (Some after) (Some result) out = IsTaken r s f sealed after result out
IsTakenIn r s f sealed _ _ out = ⊥

-- Seconds passed: the session still stands, with these events; or there is none any more.
abbrev pub IsWaited : RspSetup → Events → LiveSession → Bool → Type 0
IsWaited r s after true = StandsFor after r s
IsWaited r s after false = s ≡ []
