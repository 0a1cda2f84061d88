-- What an attesting requester keeps, whatever happens: its requester is told what measures all blocks in a session alone,
-- and what was decided is a record that was measured so.
use Rattle.std.proofs.Common.{◌≡◌, ℕ, List, [], ◌∷◌, Bool, true, false, cond, Option, Some, None, is_some, refl, sym, subst, inl, inr}
use Rattle.std.specs.Prelude.{Result, Ok, Err}
use Rattle.mctp_framing.specs.Gathering.{Gathered}
use Rattle.mctp_framing.specs.Gathering.Gathered.{Whole, More, Dropped}
use Rattle.mctp_framing.specs.Packet.{PacketFields, parsed}
use Rattle.requester_machine.proofs.Heard.{heard}
use Rattle.requester_machine.proofs.Making.{asks_made, hears_made}
use Rattle.requester_machine.specs.Asking.{Outcome}
use Rattle.requester_machine.specs.Asking.Outcome.{Fails, Ignores, Warns, Resends, Adds}
use Rattle.requester_machine.specs.Does.{IsMade, body_chosen, requester_asks, requester_hears}
use Rattle.requester_machine.specs.History.{Entry, History, outstanding}
use Rattle.requester_machine.specs.History.Entry.{Told, TookClear, TookRecord}
use Rattle.requester_machine.specs.Message.{Command}
use Rattle.requester_machine.specs.Message.Command.{Connect, End, Measure, Open, Retry}
use Rattle.requester_machine.specs.Requesting.{CommandStep, PacketStep, Requesting, commanded_by, hears_gathered, hears_packet, heard_by, is_worn, next_draw, requester_given, requester_told, worn_command, worn_step}
use Rattle.requester_machine.specs.Setup.{ReqSetup}
use Rattle.requester_machine.specs.Shown.{after, last_data}
use Rattle.spdm_basis.specs.declared.PacketFault.{PacketFault}
use Rattle.spdm_grammar.specs.declared.names.TheConstants.{ALL_BLOCKS}
use Rattle.spdm_grammar.specs.declared.told.command_fault.CommandFault.{CommandFault}
use Rattle.spdm_grammar.specs.declared.told.event.Event.{Event}
use Rattle.spdm_grammar.specs.declared.told.event.Event.TheVariants as event
use Rattle.spdm_grammar.specs.declared.told.event.Finished.TheVariants as finished
use Rattle.spdm_machine.specs.Keys.{Draw}
use Rattle.spdm_machine.specs.Packets.{gathered_from}
use Rattle.attestor.specs.Attesting.{Attesting, Decision, attesting_given, attesting_started, attesting_timed, follows, given_by, goes, goes_on_by, own_session, started_by, tells, with_requester}
use Rattle.attestor.specs.Attesting.Decision.{Undecided, Measured, Failed}
use Rattle.attest_laws.proofs.AllBlocks.{AllAsk, AsksForAll, WasMeasured, asks_keep, clear_untold}
use Rattle.attest_laws.specs.Attested.{Happened, attested_after, attested_by}
use Rattle.attest_laws.specs.Attested.Happened.{Begins, Given, Timed, Elsewhere}

-- ---- Its requester.

pub record Keeps (a : Requesting) : Type 0 where
  pub made : IsMade a.setup a.history
  pub asks : AllAsk a.history

-- A record that was measured stays so.
abbrev pub Holds : List ℕ → Requesting → Type 0
Holds blocks a = WasMeasured blocks a.history

-- What a step leads to: it keeps that, and what was measured before.
record LeadsTo (a new : Requesting) : Type 0 where
  keeps : Keeps new
  holds : (blocks : List ℕ) → Holds blocks a → Holds blocks new

rests : (a new : Requesting) → new.setup ≡ a.setup → new.history ≡ a.history → Keeps a → LeadsTo a new
rests a new setup same k = record {
  keeps = record { made = subst (λ (q : ReqSetup). IsMade q new.history) (sym setup) (subst (IsMade a.setup) (sym same) k.made); asks = subst AllAsk (sym same) k.asks };
  holds = λ blocks was. subst (WasMeasured blocks) (sym same) was;
}

-- A command.
commanded : (a : Requesting) (command : Command) → AsksForAll command → Keeps a → LeadsTo a (commanded_by a (requester_asks false a.setup a.history command (next_draw a))).after
commanded a command asks k = record {
  keeps = record {
    made = (asks_made a.setup a.history command (next_draw a) k.made).made;
    asks = asks_keep AllAsk a.setup a.history command (next_draw a) k.asks (λ sent. (asks, k.asks));
  };
  holds = λ blocks was. asks_keep (WasMeasured blocks) a.setup a.history command (next_draw a) was (λ sent. was);
}

told_if : (a : Requesting) (b : Bool) (x y : CommandStep) → LeadsTo a x.after → LeadsTo a y.after → LeadsTo a (cond b x y).after
told_if a true x y one other = one
told_if a false x y one other = other

told_leads : (a : Requesting) (command : Command) → AsksForAll command → Keeps a → LeadsTo a (requester_told a command).after
unfolding requester_told
told_leads a command asks k =
    told_if a (is_worn a) (worn_command a (requester_asks true a.setup a.history command (next_draw a))) (commanded_by a (requester_asks false a.setup a.history command (next_draw a)))
    (rests a a refl refl k) (commanded a command asks k)

-- ---- A packet.

-- Where it tells measurements, a record was measured with it.
record GivenLeads (a : Requesting) (step : PacketStep) : Type 0 where
  leads : LeadsTo a step.after
  measures : (number : ℕ) → step.event ≡ event.Done (finished.Measured number) → Holds (last_data step.after.history) step.after

ignored : (a : Requesting) (step : PacketStep) → step.after.setup ≡ a.setup → step.after.history ≡ a.history → ((number : ℕ) → step.event ≡ event.Done (finished.Measured number) → ⊥) → Keeps a → GivenLeads a step
ignored a step setup same untold k = record { leads = rests a step.after setup same k; measures = λ number is. absurd (untold number is) }

-- A body adds no command.
abbrev NotTold : Entry → Type 0
NotTold (Told command sent d) = ⊥
NotTold _ = Unit {0}

not_told : (q : ReqSetup) (h : History) (owner : Bool) (tag : ℕ) (body : List ℕ) (d : Draw) (entry : Entry) → requester_hears q h owner tag body d ≡ Adds entry → NotTold entry
not_told q h owner tag body d entry is = elim (heard q h owner tag body (body_chosen q h d) d entry is) [
  | inl t ↦ subst NotTold (sym t.is) tt
  | inr o ↦ subst NotTold (sym o.1.is) tt
]

entry_leads : (a : Requesting) (packet body : List ℕ) (entry : Entry) → NotTold entry → IsMade a.setup (entry ∷ a.history) → Keeps a → GivenLeads a (heard_by a packet body (Adds entry))
entry_leads a packet body (Told command sent d) other made k = absurd other
entry_leads a packet body (TookClear tag m led d) other made k = record {
  leads = record { keeps = record { made = made; asks = k.asks }; holds = λ blocks was. was };
  measures = λ number is. absurd (clear_untold a.setup a.history tag m led d made k.asks number is);
}
entry_leads a packet body (TookRecord tag id sealed inner led d) other made k = record {
  leads = record { keeps = record { made = made; asks = k.asks }; holds = λ blocks was. inr was };
  measures = λ number is. inl (record { number = number; told = is; last = refl });
}

module _ (a : Requesting) (k : Keeps a) (packet : List ℕ) where
  outcome_leads : (owner : Bool) (tag : ℕ) (body : List ℕ) (o : Outcome) → requester_hears a.setup a.history owner tag body (next_draw a) ≡ o → GivenLeads a (heard_by a packet body o)
  outcome_leads owner tag body (Fails fault) is = ignored a (heard_by a packet body (Fails fault)) refl refl (λ number e. absurd (cc)) k
  outcome_leads owner tag body (Ignores cause) is = ignored a (heard_by a packet body (Ignores cause)) refl refl (λ number e. absurd (cc)) k
  outcome_leads owner tag body (Warns code) is = ignored a (heard_by a packet body (Warns code)) refl refl (λ number e. absurd (cc)) k
  outcome_leads owner tag body (Resends sent) is = ignored a (heard_by a packet body (Resends sent)) refl refl (λ number e. absurd (cc)) k
  outcome_leads owner tag body (Adds entry) is =
      entry_leads a packet body entry (not_told a.setup a.history owner tag body (next_draw a) entry is)
      (subst (λ (o : Outcome). IsMade a.setup (after a.history o)) is (hears_made a.setup a.history owner tag body (next_draw a) k.made).made) k

  gathered_leads : (g : Gathered) → GivenLeads a (hears_gathered a packet g)
  gathered_leads (Whole route body) = outcome_leads route.owner route.tag body (requester_hears a.setup a.history route.owner route.tag body (next_draw a)) refl
  gathered_leads More = ignored a (hears_gathered a packet More) refl refl (λ number e. absurd (cc)) k
  gathered_leads (Dropped cause) = ignored a (hears_gathered a packet (Dropped cause)) refl refl (λ number e. absurd (cc)) k

  packet_leads : (parts : Result PacketFields PacketFault) → GivenLeads a (hears_packet a packet parts)
  packet_leads (Err fault) = ignored a (hears_packet a packet (Err fault)) refl refl (λ number e. absurd (cc)) k
  packet_leads (Ok fields) = gathered_leads (gathered_from a.setup.eid a.setup.responder a.given fields)

  given_if : (b : Bool) (x y : PacketStep) → GivenLeads a x → GivenLeads a y → GivenLeads a (cond b x y)
  given_if true x y one other = one
  given_if false x y one other = other

  given_leads : GivenLeads a (requester_given a packet)
  unfolding requester_given
  given_leads = given_if (is_worn a) (worn_step a) (hears_packet a packet (parsed packet)) (ignored a (worn_step a) refl refl (λ number e. absurd (cc)) k) (packet_leads (parsed packet))

-- ---- The attesting requester.

-- What was decided is a record that was measured.
abbrev pub WasDecided : Decision → Requesting → Type 0
WasDecided (Measured blocks) a = Holds blocks a
WasDecided _ a = Unit {0}

pub record Attends (a : Attesting) : Type 0 where
  pub requester : Keeps a.requester
  pub decided : WasDecided a.decision a.requester

-- The requester goes on, and nothing is decided.
goes_on : (a : Attesting) (new : Requesting) → LeadsTo a.requester new → Attends a → Attends (with_requester a new)
goes_on a new leads k = record { requester = leads.keeps; decided = still a.decision k.decided }
  where
    still : (decision : Decision) → WasDecided decision a.requester → WasDecided decision new
    still Undecided was = tt
    still (Measured blocks) was = leads.holds blocks was
    still Failed was = tt

told_goes : (a : Attesting) (command : Command) → AsksForAll command → Attends a → Attends (tells a (requester_told a.requester command)).after
told_goes a command asks k = goes_on a (requester_told a.requester command).after (told_leads a.requester command asks k.requester) k

-- The next command is told, whether it has a fault or not.
next_goes : (a : Attesting) (command : Command) (fault : Option CommandFault) → AsksForAll command → Attends a → Attends (goes_on_by a (requester_told a.requester command) fault).after
next_goes a command None asks k = told_goes a command asks k
next_goes a command (Some fault) asks k = record { requester = (told_goes a command asks k).requester; decided = tt }

failed : (a : Attesting) → Attends a → Attends (record a { decision = Failed })
failed a k = record { requester = k.requester; decided = tt }

follows_goes : (a : Attesting) (sent : List (List ℕ)) (told : Event) → ((number : ℕ) → told ≡ event.Done (finished.Measured number) → Holds (last_data a.requester.history) a.requester) → Attends a → Attends (follows a sent told).after
follows_goes a sent (event.Done finished.Connected) measures k = next_goes a (Open 0) (requester_told a.requester (Open 0)).fault tt k
follows_goes a sent (event.Done (finished.Opened id)) measures k = next_goes a (Measure (Some own_session) ALL_BLOCKS) (requester_told a.requester (Measure (Some own_session) ALL_BLOCKS)).fault refl k
follows_goes a sent (event.Done (finished.Measured number)) measures k =
    let leads = told_leads a.requester (End own_session) tt k.requester in
    record { requester = leads.keeps; decided = leads.holds (last_data a.requester.history) (measures number refl) }
follows_goes a sent (event.Refused code) measures k = failed a k
follows_goes a sent (event.Stopped why) measures k = failed a k
follows_goes a sent (event.Lost id reply) measures k = failed a k
follows_goes a sent _ measures k = k

given_goes : (a : Attesting) (packet : List ℕ) (decision : Decision) → Attends a → Attends (given_by a (requester_given a.requester packet) decision).after
given_goes a packet decision k =
    let step = requester_given a.requester packet in
    let leads = given_leads a.requester k.requester packet in
    let gone = goes_on a step.after leads.leads k in
    by_decision leads gone decision
  where
    by_decision : GivenLeads a.requester (requester_given a.requester packet) → Attends (with_requester a (requester_given a.requester packet).after) → (d : Decision) → Attends (given_by a (requester_given a.requester packet) d).after
    by_decision leads gone Undecided = follows_goes (with_requester a (requester_given a.requester packet).after) (requester_given a.requester packet).sent (requester_given a.requester packet).event leads.measures gone
    by_decision leads gone (Measured blocks) = gone
    by_decision leads gone Failed = gone

begins_by : (a : Attesting) (decision : Decision) → Attends a → Attends (started_by a decision).after
begins_by a Undecided k = told_goes a Connect tt k
begins_by a (Measured blocks) k = k
begins_by a Failed k = k

timed_by : (a : Attesting) (b : Bool) → Attends a → Attends (cond b (tells a (requester_told a.requester Retry)) (goes a [])).after
timed_by a true k = told_goes a Retry tt k
timed_by a false k = k

attends_one : (a : Attesting) (one : Happened) → Attends a → Attends (attested_by a one)
unfolding attesting_started attesting_given attesting_timed
attends_one a Begins k = begins_by a a.decision k
attends_one a (Given packet) k = given_goes a packet a.decision k
attends_one a Timed k = timed_by a (is_some (outstanding a.requester.history)) k
attends_one a (Elsewhere happening) k = k

pub attends : (a : Attesting) (happened : List Happened) → Attends a → Attends (attested_after a happened)
attends a [] k = k
attends a (one ∷ others) k = attends (attested_by a one) others (attends_one a one k)
