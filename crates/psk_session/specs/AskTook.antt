-- What comes of an ask of an open session. This project's own.
use Rattle.std.specs.Prelude.{◌≡◌, ℕ, List, Some, None, Result, Ok, Err}
use Rattle.requester_machine.specs.Session.{Steps}
use Rattle.psk_session.specs.SessionRequest.{ask_fault, asked, asked_of}
use Rattle.psk_session.specs.ReqOpen.{Seen}
use Rattle.psk_session.specs.Waiting.{StandsFor}
use Rattle.psk_session.specs.declared.session_request.SessionRequest.{SessionRequest}
use Rattle.psk_session.specs.declared.ask_fault.AskFault.{AskFault}
use Rattle.psk_session.specs.declared.req_open.ReqOpen.{ReqOpen}
use Rattle.psk_session.specs.declared.waiting.Waiting.{Waiting}

-- A state of the session with the record that asks it, padded so; or the same state, with the fault of the ask.
abbrev pub IsAsked : Seen → (psk : List ℕ) → Steps → SessionRequest → (pad : List ℕ)
    → Result Waiting (ReqOpen × AskFault) → Type 0
IsAsked old psk s a pad (Ok state) =
    (ask_fault s a ≡ None) × StandsFor state psk (asked psk s a pad) (asked_of a)
IsAsked old psk s a pad (Err refused) = (ask_fault s a ≡ Some refused.1) × (refused.0 ≡ old)
