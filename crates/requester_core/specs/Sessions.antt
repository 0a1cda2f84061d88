-- The sessions of a requester, as the program represents them.
use Rattle.std.specs.Prelude.{⊤, ◌≡◌, ◌==◌, ◌||◌, ◌-◌, nat_lt, if◌then◌else◌, ℕ, Option, Some, None, slice_index_or}
use Rattle.requester_core.specs.Slot.{IsSlotOf}
use Rattle.requester_core.specs.declared.in_sessions.sessions.Sessions.{Sessions}
use Rattle.requester_core.specs.declared.in_sessions.slot.Slot.{Slot}
use Rattle.requester_core.specs.declared.in_sessions.slot.Slot.TheVariants as slot
use Rattle.requester_machine.specs.History.{History, outstanding}
use Rattle.requester_machine.specs.Holds.{Holds}
use Rattle.requester_machine.specs.Message.{Aim, Sent}
use Rattle.requester_machine.specs.Message.Aim.{ByChunks, ForChunk, InSession, Plain}
use Rattle.requester_machine.specs.Order.{IsInOrder}
use Rattle.requester_machine.specs.Session.{session_of}
use Rattle.requester_machine.specs.Setup.{ReqSetup}
use Rattle.spdm_grammar.specs.Message.{RequestMessage}
use Rattle.spdm_grammar.specs.Message.RequestMessage.{PskExchange}
use Rattle.spdm_grammar.specs.declared.names.TheConstants.{MAX_SESSIONS}

-- The slot of a ReqSessionID; an empty one where it is 0 or above 4.
abbrev pub slot_of : Sessions → ℕ → Slot
slot_of seen id = if id == 0 || nat_lt MAX_SESSIONS id then slot.Empty else slice_index_or seen.slots (id - 1) slot.Empty

-- The session that a request in the clear begins.
abbrev pub session_begun : RequestMessage → Option ℕ
session_begun (PskExchange exchange) = Some exchange.req_id
session_begun _ = None

-- The session of which a message asks something, or that it begins.
abbrev pub session_at : Aim → Option ℕ
session_at (Plain asked) = session_begun asked
session_at (ByChunks asked handle number) = session_begun asked
session_at (ForChunk asked handle number before) = session_begun asked
session_at (InSession id ask) = Some id

-- That of the outstanding message, if there is one.
abbrev pub session_for : Option Sent → Option ℕ
session_for None = None
session_for (Some sent) = session_at sent.aim

-- The id of the session that something waits for is kept.
abbrev pub IsNamed : Option ℕ → (kept : ℕ) → Type 0
IsNamed None kept = ⊤
IsNamed (Some id) kept = kept ≡ id

-- They are those of this history, which a requester with this set-up made under some free values:
-- the slot of each ReqSessionID has its session, and that of the outstanding message is named.
pub record StandsFor (seen : Sessions) (q : ReqSetup) (h : History) : Type 0 where
  pub holds : Holds q h
  pub orders : (id : ℕ) → IsInOrder (outstanding h) id (session_of id h)
  pub slots : (id : ℕ) → IsSlotOf (slot_of seen id) q.psk (session_of id h)
  pub named : IsNamed (session_for (outstanding h)) seen.id
