-- A session at the requester that is stepped in place, as the typed states show it.
use Rattle.std.specs.Prelude.{◌≡◌, ℕ, List, [], Bool, true, false, if◌then◌else◌}
use Rattle.requester_machine.specs.Message.{Ask}
use Rattle.requester_machine.specs.Session.{Steps}
use Rattle.psk_session.specs.ReqOpen as open_state
use Rattle.psk_session.specs.Waiting as waiting
use Rattle.psk_session.specs.declared.session_request.Awaited.{Awaited}
use Rattle.psk_session.specs.declared.session_request.Awaited.TheVariants as awaited
use Rattle.psk_session.specs.declared.req_session.ReqSession.{ReqSession}
use Rattle.psk_session.specs.declared.session_state.SessionState.{SessionState}
use Rattle.psk_session.specs.declared.session_state.SessionState.TheVariants.{Open, Awaits}

-- ---- How it stands.

abbrev pub is_open : SessionState → Bool
is_open Open = true
is_open _ = false

abbrev pub is_awaiting : SessionState → Bool
is_awaiting (Awaits what) = true
is_awaiting _ = false

-- What is awaited, where an answer is.
abbrev pub awaited_in : SessionState → Awaited
awaited_in (Awaits what) = what
awaited_in _ = awaited.End

-- ---- The typed states in it.

-- The open session.
abbrev pub open_of : ReqSession → open_state.Seen
open_of x = record { kept = x.kept; brought = x.brought }

-- The session that awaits an answer.
abbrev pub waiting_of : ReqSession → waiting.Seen
waiting_of x =
    record { kept = x.kept; awaited = awaited_in x.standing; gathered = x.gathered; sent = x.sent }

-- ---- What it lends.

-- The record to be sent again: only while an answer is awaited is there one.
abbrev pub again_in : ReqSession → List ℕ
again_in x = if is_awaiting x.standing then x.sent else []

-- What the last answer brought: only while it is open is that known.
abbrev pub data_in : ReqSession → List ℕ
data_in x = if is_open x.standing then x.brought else []

-- ---- What it stands for.

-- It is open, and stands for a session of these steps with this pre-shared key.
abbrev pub IsOpen : ReqSession → (psk : List ℕ) → Steps → Type 0
IsOpen x psk s = (is_open x.standing ≡ true) × open_state.StandsFor (open_of x) psk s

-- It awaits an answer, and stands for a session of these steps with this pre-shared key, whose newest record asks this.
abbrev pub IsAwaiting : ReqSession → (psk : List ℕ) → Steps → Ask → Type 0
IsAwaiting x psk s a = (is_awaiting x.standing ≡ true) × waiting.StandsFor (waiting_of x) psk s a
