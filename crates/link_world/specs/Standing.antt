-- The whole world, as the program represents it.
use Rattle.std.specs.Prelude.{◌≡◌, ◌≢◌, ◌≤◌, ◌+◌, ◌-◌, ◌^◌, ◌==◌, ◌++◌, min, ℕ, List, [], ◌∷◌, length, map, Bool, true, false, Option, Some, None, Result, Ok, Err}
use Rattle.std.specs.List.{AllByRecursion}
use Rattle.link_world.specs.Written.{before_full, has_full, text_of}
use Rattle.link_world.specs.declared.ends.AddressedRequester.{AddressedRequester}
use Rattle.link_world.specs.declared.ends.Ends.{Ends}
use Rattle.link_world.specs.declared.link.Link.{Link}
use Rattle.link_world.specs.declared.sent.SendFault.{SendFault}
use Rattle.link_world.specs.declared.sent.SendFault.TheVariants.{LinkFull, OutOfMemory}
use Rattle.requester.specs.Standing as asking
use Rattle.requester.specs.declared.whole.Requester.{Requester}
use Rattle.requester_machine.specs.Requesting.{Requesting}
use Rattle.responder.specs.Standing as answering
use Rattle.requester_machine.specs.Shown as asked
use Rattle.responder_machine.specs.History.{all_taken}
use Rattle.responder_machine.specs.Responding.{Connection}
use Rattle.spdm_grammar.specs.Lines.{Line}
use Rattle.world_machine.specs.Totals.{over_connections, over_requesters}
use Rattle.world_machine.specs.Trace.{packets_max}
use Rattle.world_machine.specs.World.{World, WorldStep, packet_lines, with_sent}

-- A requester and its endpoint.
pub record IsAsker (seen : AddressedRequester) (a : Requesting) : Type 0 where
  pub eid : a.setup.eid ≡ seen.eid.number
  pub stands : asking.StandsFor seen.requester a

-- All of them, in order.
abbrev pub AreAskers : List AddressedRequester → List Requesting → Type 0
AreAskers [] [] = Unit {0}
AreAskers [] (a ∷ others) = ⊥
AreAskers (x ∷ rest) [] = ⊥
AreAskers (x ∷ rest) (a ∷ others) = IsAsker x a × AreAskers rest others

-- A requester has this endpoint.
abbrev pub has_eid : ℕ → AddressedRequester → Bool
has_eid eid x = x.eid.number == eid

-- The endpoints of the requesters differ.
abbrev pub AreApart : List Requesting → Type 0
AreApart [] = Unit {0}
AreApart (a ∷ others) = AllByRecursion (λ (b : Requesting). b.setup.eid ≢ a.setup.eid) others × AreApart others

-- The endpoints of the requesters, and of those that the responder has connections with, in order.
abbrev pub eids_of : List Requesting → List ℕ
eids_of requesters = map (λ (a : Requesting). a.setup.eid) requesters

abbrev pub peers_of : List Connection → List ℕ
peers_of connections = map (λ (c : Connection). c.setup.peer) connections

-- How many application messages these requesters and connections ever took.
abbrev pub taken_in : List Requesting → List Connection → ℕ
taken_in requesters connections =
    over_requesters (λ a. asked.all_taken a.history) requesters + over_connections (λ c. all_taken c.history) connections

-- A count as the program represents it: it saturates at `u64::MAX`.
abbrev pub counted : ℕ → ℕ
counted n = min n (2 ^ 64 - 1)

-- They are the ends of this world. The responder's connections are with the requesters, in order, and what all of them
-- took is counted.
pub record AreEnds (seen : Ends) (w : World) : Type 0 where
  pub requesters : AreAskers seen.requesters.items w.requesters
  pub apart : AreApart w.requesters
  pub few : length w.requesters ≤ 8
  pub eid : w.responder.part.eid ≡ seen.eid.number
  pub responder : answering.StandsFor seen.responder w.responder
  pub peers : peers_of w.responder.connections ≡ eids_of w.requesters
  pub taken : seen.taken ≡ counted (taken_in w.requesters w.responder.connections)

-- They are the ends of this world, and these packets were sent between them.
pub record IsLink (seen : Link) (w : World) : Type 0 where
  pub ends : AreEnds seen.ends w
  pub sent : seen.sent ≡ w.sent
  pub within : length w.sent ≤ packets_max

-- ---- What is seen of it.

-- The requester is that of the definitions.
abbrev pub IsSeen : Option Requester → Option Requesting → Type 0
IsSeen None None = Unit {0}
IsSeen (Some seen) (Some a) = asking.StandsFor seen a
IsSeen _ _ = ⊥

-- ---- What a step comes to.

-- The ends did something: the lines of it, but for those of the packets that are sent in response to it, were added to
-- the text, these packets are to be sent, and the ends are those of the world after it.
pub record IsGivenTo (w : World) (step : WorldStep) (old new : List ℕ) (sends : List (List ℕ)) (seen : Ends) : Type 0 where
  pub front : List Line
  pub plain : has_full front ≡ false
  pub lines : step.lines ≡ front ++ packet_lines (length w.sent) sends
  pub text : new ≡ old ++ text_of front
  pub sent : step.after.sent ≡ with_sent w.sent sends
  pub ends : AreEnds seen step.after

-- The same where no packet is sent.
pub record IsDone (w : World) (step : WorldStep) (old new : List ℕ) (seen : Ends) : Type 0 where
  pub plain : has_full step.lines ≡ false
  pub text : new ≡ old ++ text_of step.lines
  pub sent : step.after.sent ≡ w.sent
  pub ends : AreEnds seen step.after

-- All lines of a step were added to the text, and what is kept is that of the world after it.
pub record IsWhole (step : WorldStep) (old new : List ℕ) (seen : Link) : Type 0 where
  pub fits : has_full step.lines ≡ false
  pub text : new ≡ old ++ text_of step.lines
  pub stands : IsLink seen step.after

-- The link was full: the lines before that of the first packet for which there was no room were added.
pub record IsCutOff (step : WorldStep) (old new : List ℕ) : Type 0 where
  pub full : has_full step.lines ≡ true
  pub text : new ≡ old ++ text_of (before_full step.lines)

abbrev pub IsStepped : WorldStep → Result Unit SendFault → (old new : List ℕ) → Link → Type 0
IsStepped step (Ok done) old new seen = IsWhole step old new seen
IsStepped step (Err LinkFull) old new seen = IsCutOff step old new
IsStepped step (Err OutOfMemory) old new seen = Unit {0}
