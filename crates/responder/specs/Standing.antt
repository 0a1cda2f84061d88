-- The whole responder, as the program represents it.
use Rattle.std.specs.Prelude.{◌≡◌, ◌≢◌, ◌≤◌, ◌+◌, ◌-◌, ◌*◌, ◌^◌, ◌==◌, Bool, ℕ, List, [], ◌∷◌, length, Option, Some, None}
use Rattle.std.specs.List.{AllByRecursion}
use Rattle.responder_core.specs.Sessions.{IsViewOf}
use Rattle.mctp_framing.specs.Packet.{PacketFields}
use Rattle.responder.specs.Peers as peers
use Rattle.responder.specs.SetUp.{IsPart}
use Rattle.responder.specs.declared.peer.Peer.{Peer}
use Rattle.responder.specs.declared.serving.Responder.{Responder}
use Rattle.responder_machine.specs.Independence.{AreKnownApart, Given, run_of}
use Rattle.responder_machine.specs.Responding.{Connection, Responding, RspStep, all_draws, last_data}
use Rattle.responder_machine.specs.Session.{session_of}
use Rattle.responder_machine.specs.Setup.{RspEnd, RspPart}
use Rattle.spdm_grammar.specs.declared.told.heard.Heard.{Heard}
use Rattle.spdm_grammar.specs.declared.told.session_view.SessionView.{SessionView}
use Rattle.spdm_machine.specs.Packets.{fields_in}
use Rattle.responder_machine.specs.Heard.{views_of}

-- The requester has this endpoint.
abbrev pub has_eid : ℕ → Peer → Bool
has_eid eid x = x.known.eid.number == eid

-- Each requester's state stands for its connection, in the order of the connections.
abbrev pub ArePeers : List Peer → RspPart → (given : List PacketFields) → List Connection → Type 0
ArePeers [] p given [] = Unit {0}
ArePeers [] p given (c ∷ others) = ⊥
ArePeers (x ∷ rest) p given [] = ⊥
ArePeers (x ∷ rest) p given (c ∷ others) = peers.StandsFor x p given c × ArePeers rest p given others

-- The endpoints of the connections differ.
abbrev pub AreApart : List Connection → Type 0
AreApart [] = Unit {0}
AreApart (c ∷ others) = AllByRecursion (λ (d : Connection). d.setup.peer ≢ c.setup.peer) others × AreApart others

-- It is reachable from some endpoint's initial state.
pub record IsReached (r : Responding) : Type 0 where
  pub end : RspEnd
  pub all : List Given
  pub apart : AreKnownApart end.known
  pub is : r ≡ run_of end all

-- The greatest number of a first draw: that of the last boot. This project's own limit.
abbrev pub last_first : ℕ
last_first = (2 ^ 24 - 2) * 2 ^ 40

-- The program's responder stands for this one of the definitions.
pub record StandsFor (seen : Responder) (r : Responding) : Type 0 where
  pub part : IsPart seen.part r.part
  pub seed : seen.shared.draws.seed ≡ r.seed
  pub number : seen.shared.draws.number ≡ r.first + all_draws r.connections
  pub last : seen.shared.last ≡ last_data r
  pub given : seen.given ≡ length r.given
  pub peers : ArePeers seen.peers.items r.part (fields_in r.given) r.connections
  pub apart : AreApart r.connections
  pub reached : IsReached r
  pub first : r.first ≤ last_first

-- A packet is this step: what is reported and sent is the step's, and the program's responder stands for the one after
-- it.
pub record IsStep (step : RspStep) (tells : Heard) (sends : List (List ℕ)) (new : Responder) : Type 0 where
  pub told : tells ≡ step.heard
  pub sent : sends ≡ step.sent
  pub stands : StandsFor new step.after

-- The session of an id of a connection is shown so; where there is no connection, none is.
abbrev pub IsSessionAt : Option SessionView → ℕ → Option Connection → Type 0
IsSessionAt view id None = view ≡ None
IsSessionAt view id (Some c) = IsViewOf view (session_of id c.history)

-- The sessions of a connection as they are shown; where there is no connection, none is.
abbrev pub views_at : Option Connection → List SessionView
views_at None = []
views_at (Some c) = views_of c.history
