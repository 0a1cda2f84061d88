-- What a packet leaves as it was: whatever comes of it, the connections of other endpoints; where its request is refused,
-- comes again, does not open or brings no body, more than these.
use Rattle.std.specs.Prelude.{◌≡◌, ◌≢◌, ℕ, List, Some}
use Rattle.responder.specs.Standing.{StandsFor}
use Rattle.responder.specs.declared.serving.Responder.{Responder}
use Rattle.responder_machine.specs.EndLaws.{AreAlike, source_of}
use Rattle.responder_machine.specs.History.{History}
use Rattle.responder_machine.specs.Responder.{Outcome, after}
use Rattle.responder_machine.specs.Responding.{Connection, Responding, connection_of, responder_hears, with_history}
use Rattle.responder_machine.specs.SameSession.{IsSameConnection, IsSameSession}
use Rattle.responder_machine.specs.Session.{session_of}
use Rattle.spdm_grammar.specs.ErrorNumber.{error_number}
use Rattle.spdm_grammar.specs.declared.messages.error_code.ErrorCode.{ErrorCode}
use Rattle.spdm_grammar.specs.declared.told.heard.Heard.{Heard}
use Rattle.spdm_grammar.specs.declared.told.heard.Heard.TheVariants as heard

-- An outcome that is told as refused with this code: each session is what it was but for the numbers, the stored reply
-- and the clock of the one that a record names, and so is the rest of the connection.
pub record IsRefusedAt (h : History) (o : Outcome) (code : ℕ) : Type 0 where
  pub error : ErrorCode
  pub told : code ≡ error_number error
  pub sessions : (id : ℕ) → IsSameSession (session_of id h) (session_of id (after h o))
  pub connection : IsSameConnection h (after h o)

-- The request of a packet is refused at the connection with its source, and no other connection changes.
pub record IsRefusedHere (r : Responding) (packet : List ℕ) (next : List Connection) (code : ℕ) : Type 0 where
  pub c : Connection
  pub outcome : Outcome
  pub found : connection_of (source_of packet) r.connections ≡ Some c
  pub refused : IsRefusedAt c.history outcome code
  pub others : next ≡ with_history c.setup.peer (λ h. after h outcome) r.connections

-- A packet, by what is reported of it, with the connections after it: a refusal is harmless; where nothing is taken no
-- connection changes.
abbrev pub IsHarmlessBy : Responding → List ℕ → (next : List Connection) → Heard → Type 0
IsHarmlessBy r packet next (heard.Refused code) = IsRefusedHere r packet next code
IsHarmlessBy r packet next heard.Unopened = next ≡ r.connections
IsHarmlessBy r packet next heard.Same = next ≡ r.connections
IsHarmlessBy r packet next heard.More = next ≡ r.connections
IsHarmlessBy r packet next (heard.Ignored cause) = next ≡ r.connections
IsHarmlessBy r packet next _ = Unit {0}

abbrev pub IsHarmless : Responding → List ℕ → Heard → Type 0
IsHarmless r packet told = IsHarmlessBy r packet (responder_hears r packet).after.connections told

-- A packet leaves the program's responder standing for one that is, towards each endpoint but the packet's source, what
-- it was: the same connection with it, and the same packets from which its bodies are gathered.
pub record AreOthersKept (r : Responding) (packet : List ℕ) (new : Responder) : Type 0 where
  pub next : Responding
  pub stands : StandsFor new next
  pub others : (eid : ℕ) → source_of packet ≢ eid → AreAlike eid next r
