-- What a connect comes to where its messages are delivered honestly. This project's own.
use Rattle.std.specs.Prelude.{◌≡◌, ◌≤◌, ◌+◌, ℕ, List, length, Some, None, Contains}
use Rattle.negotiate.specs.Capabilities.{shared}
use Rattle.negotiate.specs.Choosing.{selected}
use Rattle.negotiate.specs.Offer.{offer_of}
use Rattle.negotiate.specs.declared.shared.Common.{Common}
use Rattle.requester_machine.specs.History as asked
use Rattle.requester_machine.specs.Message.Command.{Connect}
use Rattle.requester_machine.specs.Requesting.{Requesting}
use Rattle.responder_machine.specs.Answer.{algorithms_answer}
use Rattle.responder_machine.specs.History as served
use Rattle.responder_machine.specs.Responding.{Connection, Responding, connection_of}
use Rattle.requester_machine.specs.Setup.{ReqSetup, requester_caps}
use Rattle.responder_machine.specs.Setup.{RspSetup, policy_of, responder_caps}
use Rattle.spdm_agreement.specs.Configured.{IsConfigured}
use Rattle.spdm_grammar.specs.Lines.{Line}
use Rattle.spdm_grammar.specs.Message.{OfferMessage}
use Rattle.spdm_grammar.specs.Message.RequestMessage.{NegotiateAlgorithms}
use Rattle.spdm_grammar.specs.Requests.{canonical_request}
use Rattle.spdm_grammar.specs.Responses.{canonical_response}
use Rattle.spdm_grammar.specs.declared.messages.choice.Choice.{Choice}
use Rattle.spdm_grammar.specs.declared.told.event.Event.TheVariants as event
use Rattle.spdm_grammar.specs.declared.told.event.Finished.TheVariants as finished
use Rattle.spdm_grammar.specs.declared.told.phase.Phase.TheVariants.{Negotiated}
use Rattle.spdm_machine.specs.Packets.{wear_limit}
use Rattle.world_machine.specs.Chance.{NoChance}
use Rattle.world_machine.specs.Happenings.{Entry}
use Rattle.world_machine.specs.Happenings.Happening.{Told, Pump}
use Rattle.world_machine.specs.Setup.{WorldSetup}
use Rattle.world_machine.specs.Trace.{world_from, world_after, lines_from}
use Rattle.world_machine.specs.World.{World, requester_of, entry_step, happens}
use Rattle.spdm_progress.specs.Fitting.{CanGo}
use Rattle.spdm_progress.specs.Honest.{NothingWaits, AreHonest, HaveNoCommand}

-- The capabilities that the set-ups of the two have in common.
abbrev pub common_of_both : Requesting → Connection → Common
common_of_both a c = shared (requester_caps a.setup) (responder_caps c.setup)

-- What a connect needs of the two set-ups: the requester has a hash to offer to a responder of this transfer size, and
-- the responder can choose of the offer. Of the messages only two may have more than 42 bytes: NEGOTIATE_ALGORITHMS can
-- go to the responder, and ALGORITHMS to the requester, in chunks too.
pub record CanConnect (a : Requesting) (c : Connection) : Type 0 where
  pub offer : OfferMessage
  pub offered : offer_of a.setup.suites c.setup.transfer ≡ Some offer
  pub choice : Choice
  pub chosen : selected offer (policy_of c.setup) ≡ Some choice
  pub request_goes : CanGo (common_of_both a c) (common_of_both a c).to_responder
      (length (canonical_request (NegotiateAlgorithms offer)))
  pub answer_goes : CanGo (common_of_both a c) (common_of_both a c).to_requester
      (length (canonical_response (algorithms_answer c.setup offer)))

-- Neither end is worn out before a connect is over: the requester takes the command and three packets, the responder
-- three packets. An end takes 2^40.
pub record HasLife (a : Requesting) (r : Responding) : Type 0 where
  pub requester : length a.given + a.commands + 4 ≤ wear_limit
  pub responder : length r.given + 3 ≤ wear_limit

-- The connect of requester n is done: it is reported so in these lines; nothing is outstanding; both ends are set up as
-- they were, are in phase Negotiated, and hold the same negotiation: the same six messages, so the same choice and the
-- same common capabilities. The choice is this one, and the capabilities are what the two set-ups can do together.
pub record IsConnected (n : ℕ) (q : ReqSetup) (r : RspSetup) (choice : Choice) (world : World)
    (lines : List Line) : Type 0 where
  pub told : Contains lines (Line.ToRequester n (event.Done finished.Connected))
  pub requester : Requesting
  pub is_requester : requester_of n world ≡ Some requester
  pub connection : Connection
  pub is_connection : connection_of q.eid world.responder.connections ≡ Some connection
  pub requester_setup : requester.setup ≡ q
  pub responder_setup : connection.setup ≡ r
  pub none : asked.outstanding requester.history ≡ None
  pub requester_phase : asked.phase_of requester.history ≡ Negotiated
  pub responder_phase : served.phase_of (served.clear_turns connection.history) ≡ Negotiated
  pub same : asked.negotiation_of requester.history
      ≡ served.negotiation_of (served.clear_turns connection.history)
  pub chosen : (asked.connection_terms requester.history).choice ≡ choice
  pub common : (asked.connection_terms requester.history).common
      ≡ shared (requester_caps q) (responder_caps r)

-- The world in which requester n was told to connect.
abbrev pub connecting : World → (line n : ℕ) → World
connecting world line n =
    (entry_step world (record { line = line; happening = Told n Connect })).after

-- A connect is told to requester n of a world that a set-up and any events lead to, where no packet waits and nothing
-- agrees by chance. The responder has this connection with it, and the two can connect without chunks.
pub record ConnectIsTold (w : WorldSetup) (before : List Entry) (n : ℕ) (a : Requesting)
    (c : Connection) : Type 0 where
  pub configured : IsConfigured w
  pub no_chance : NoChance (world_after w before).log
  pub idle : NothingWaits (world_after w before)
  pub is_requester : requester_of n (world_after w before) ≡ Some a
  pub is_connection : connection_of a.setup.eid (world_after w before).responder.connections
      ≡ Some c
  pub can : CanConnect a c
  pub request_fits : length (canonical_request (NegotiateAlgorithms can.offer)) ≤ c.setup.transfer
  pub answer_fits : length (canonical_response (algorithms_answer c.setup can.offer))
      ≤ a.setup.transfer
  pub life : HasLife a (world_after w before).responder

-- Whatever stands between this command and the next one of an honest script: once no packet waits any more, the connect
-- is done.
abbrev pub ConnectCompletes : Type 0
ConnectCompletes =
    (w : WorldSetup) (before : List Entry) (n : ℕ) (a : Requesting) (c : Connection)
    → (is : ConnectIsTold w before n a c)
    → (line : ℕ) (behind : List Entry) → HaveNoCommand behind
    → AreHonest (connecting (world_after w before) line n) behind
    → NothingWaits (world_from (connecting (world_after w before) line n) behind)
    → IsConnected n a.setup c.setup is.can.choice
    (world_from (connecting (world_after w before) line n) behind)
    (lines_from (connecting (world_after w before) line n) behind)

-- A pump of six packets or more leaves none that waits.
abbrev pub SixPacketsAreEnough : Type 0
SixPacketsAreEnough =
    (w : WorldSetup) (before : List Entry) (n : ℕ) (a : Requesting) (c : Connection)
    → ConnectIsTold w before n a c
    → (line count : ℕ) → 6 ≤ count
    → NothingWaits (happens (connecting (world_after w before) line n) (Pump count)).after

-- Each requester of a world has a connection at the responder.
abbrev pub EachIsConnected : Type 0
EachIsConnected =
    (w : WorldSetup) → IsConfigured w → (before : List Entry) → NoChance (world_after w before).log
    → (n : ℕ) (a : Requesting) → requester_of n (world_after w before) ≡ Some a
    → (c : Connection)
    × (connection_of a.setup.eid (world_after w before).responder.connections ≡ Some c)
