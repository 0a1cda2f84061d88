-- A record that a requester sent last, with another padding: what is kept beside the sessions stays.
use Rattle.std.proofs.Common.{◌≡◌, ◌∙◌, List, ℕ, Bool, true, false, Option, Some, sym, subst}
use Rattle.requester_core.proofs.OwedSessions.{IsLast, IsSameBeside}
use Rattle.requester_core.specs.Gathering.{IsGatheredFor}
use Rattle.requester_core.specs.Joined.{StandsFor}
use Rattle.requester_core.specs.Negotiating as negotiating
use Rattle.requester_core.specs.Negotiating.{IsUpToSent}
use Rattle.requester_core.specs.Outgoing.{IsKeptOf}
use Rattle.requester_core.specs.Owed.{AreRepaddedIn, IsRepaddedIn, owed_with}
use Rattle.requester_core.specs.Sessions as sessions
use Rattle.requester_core.specs.ClearState as clear_state
use Rattle.requester_core.specs.Outstanding.{waiting_of}
use Rattle.requester_core.specs.declared.joined.RequesterCore.{RequesterCore}
use Rattle.requester_core.specs.declared.in_sessions.sessions.Sessions.{Sessions}
use Rattle.requester_machine.specs.History.{History, negotiation_of, outstanding, phase_of}
use Rattle.requester_machine.specs.Message.{Ask, Sent}
use Rattle.requester_machine.specs.Setup.{ReqSetup}
use Rattle.spdm_grammar.specs.declared.told.phase.Phase.{Phase}
use Rattle.transcript.specs.Transcripts.{Negotiation}

module _ (q : ReqSetup) (bare : History) (whole : Sent → History) (id : ℕ) (ask : Ask) (sent : Sent) (ends : IsLast bare whole id ask) (pad : List ℕ) where
  abbrev old_history : History
  old_history = whole sent

  abbrev new_sent : Sent
  new_sent = owed_with q bare id pad sent

  abbrev new_history : History
  new_history = whole new_sent

  beside : IsSameBeside old_history new_history
  beside = ends.beside sent new_sent.content

  -- What is said of the outstanding message depends on its tag and aim.
  waits_as : (P : Option Sent → Type 0) → (P (Some sent) → P (Some new_sent)) → P (outstanding old_history) → P (outstanding new_history)
  waits_as P same p = subst P (sym (ends.last new_sent)) (same (subst P (ends.last sent) p))

  shows_as : (seen : clear_state.Seen) → clear_state.Shows seen old_history → clear_state.Shows seen new_history
  shows_as seen shows = record {
    negotiating = subst (λ (n : Negotiation). negotiating.StandsFor seen.negotiating (phase_of new_history) n) beside.negotiation
        (subst (λ (p : Phase). negotiating.StandsFor seen.negotiating p (negotiation_of old_history)) beside.phase shows.negotiating);
    outgoing = record {
      tag = shows.outgoing.tag ∙ beside.tag;
      handle = shows.outgoing.handle ∙ beside.handle;
      waiting = waits_as (λ o. seen.outgoing.waiting ≡ waiting_of o) (λ p. p) shows.outgoing.waiting;
      request = waits_as (λ o. IsKeptOf o seen.outgoing.request) (λ p. p) shows.outgoing.request;
    };
    up_to = subst (IsUpToSent (outstanding new_history)) beside.negotiation (waits_as (λ o. IsUpToSent o (negotiation_of old_history)) (λ p. p) shows.up_to);
    brought = shows.brought ∙ beside.brought;
  }

  stands_as : (old : RequesterCore) (new : Sessions) → StandsFor old q old_history → sessions.StandsFor new q new_history → StandsFor (record old { sessions = new }) q new_history
  stands_as old new stands its = record {
    clear_state = record { holds = its.holds; shows = shows_as old.clear_state stands.clear_state.shows };
    sessions = its;
    gathers = record { max = stands.gathers.max; chunks = waits_as (λ o. IsGatheredFor o old.gathered) (λ p. p) stands.gathers.chunks };
  }

pub is_repadded : (old : RequesterCore) (new : Sessions) (q : ReqSetup) (bare : History) (whole : Sent → History) (id : ℕ) (ask : Ask) (sent : Sent) (sealed : List ℕ) (b : Bool) → IsLast bare whole id ask → StandsFor old q (whole sent)
    → AreRepaddedIn q bare whole id sent sealed new b → IsRepaddedIn q bare whole id sent sealed (record old { sessions = new }) b
is_repadded old new q bare whole id ask sent sealed true ends stands p = (p.0, p.1, p.2, stands_as q bare whole id ask sent ends p.0 old new stands p.3)
is_repadded old new q bare whole id ask sent sealed false ends stands p = p
