-- The session of one ReqSessionID, as the program represents it.
use Rattle.std.specs.Prelude.{◌≡◌, ◌⊎◌, ℕ, List, [], if◌then◌else◌, Option, Some, None}
use Rattle.requester_core.specs.declared.in_sessions.slot.Slot.{Slot}
use Rattle.requester_core.specs.declared.in_sessions.slot.Slot.TheVariants as slot
use Rattle.psk_session.specs.Finishing as finishing
use Rattle.psk_session.specs.Opening as opening
use Rattle.psk_session.specs.ReqSession.{IsAwaiting, IsOpen}
use Rattle.psk_session.specs.declared.req_session.ReqSession.{ReqSession}
use Rattle.requester_machine.specs.Message.{Ask}
use Rattle.requester_machine.specs.Order.{waiting_ask}
use Rattle.requester_machine.specs.Session.{Steps, is_accepted}
use Rattle.requester_machine.specs.Shown.{view_of}
use Rattle.spdm_grammar.specs.declared.told.session_view.SessionView.{SessionView}
use Rattle.transcript.specs.Transcripts.{Negotiation}

-- PSK_EXCHANGE_RSP is awaited, with this pre-shared key.
pub record IsOpening (seen : opening.Seen) (psk : List ℕ) (s : Steps) : Type 0 where
  pub negotiation : Negotiation
  pub exchange : List ℕ
  pub steps : s ≡ opening.started negotiation exchange
  pub stands : opening.StandsFor seen psk negotiation exchange

-- PSK_FINISH_RSP is awaited.
pub record IsFinishing (seen : finishing.Seen) (psk : List ℕ) (s : Steps) : Type 0 where
  pub negotiation : Negotiation
  pub exchange : List ℕ
  pub answer : List ℕ
  pub pad : List ℕ
  pub steps : s ≡ opening.finishing psk negotiation exchange answer pad
  pub stands : finishing.StandsFor seen psk negotiation exchange answer pad

-- The session is open, and nothing is asked of it.
pub record IsResting (seen : ReqSession) (psk : List ℕ) (s : Steps) : Type 0 where
  pub idle : waiting_ask s ≡ None
  pub stands : IsOpen seen psk s

-- It was asked something, and awaits the answer.
pub record IsAsked (seen : ReqSession) (psk : List ℕ) (s : Steps) : Type 0 where
  pub ask : Ask
  pub stands : IsAwaiting seen psk s ask

-- A slot is empty exactly when there is no session; else its session is kept, as far as it has come.
abbrev pub IsSlotOf : Slot → (psk : List ℕ) → Steps → Type 0
IsSlotOf slot.Empty psk s = s ≡ []
IsSlotOf (slot.Opening seen) psk s = IsOpening seen psk s
IsSlotOf (slot.Finishing seen) psk s = IsFinishing seen psk s
IsSlotOf (slot.Live seen) psk s = IsResting seen psk s ⊎ IsAsked seen psk s

-- What is kept of a session that is not open yet.
abbrev pub IsFinishingSlot : Slot → (psk : List ℕ) → Steps → Type 0
IsFinishingSlot (slot.Live seen) psk s = ⊥
IsFinishingSlot other psk s = IsSlotOf other psk s

-- A view of a session, from its PSK_EXCHANGE_RSP on.
abbrev pub shown_of : Steps → Option SessionView
shown_of s = if is_accepted s then Some (view_of s) else None
