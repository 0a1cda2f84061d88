-- The clear part of a connection without its large request, as the program represents it.
use Rattle.std.specs.Prelude.{ℕ, List, []}
use Rattle.responder_core.specs.Negotiating as negotiating
use Rattle.responder_rules.specs.LargeAnswer as large_answer
use Rattle.responder_machine.specs.History.{negotiation_of, phase_of}
use Rattle.responder_machine.specs.Place.{Place, Where, place_terms}
use Rattle.responder_machine.specs.Turn.{Turn}
use Rattle.spdm_basis.specs.Sizes.{hash_size}

-- A place in the clear of these turns, the newest first, with so many established sessions.
abbrev pub place_at : Where → List Turn → (held : ℕ) → Place
place_at at turns held = record {
  at = at;
  phase = phase_of turns;
  turns = turns;
  negotiation = negotiation_of turns;
  events = [];
  past_handshake = held;
}

-- The state in contracts: the negotiation, and the large response.
pub record Seen : Type 0 where
  pub negotiating : negotiating.Seen
  pub large : large_answer.Seen

-- It is kept of a clear part of these turns. Large responses go in chunks of the requester's transfer size.
pub record StandsFor (seen : Seen) (turns : List Turn) : Type 0 where
  pub negotiating : negotiating.StandsFor seen.negotiating turns
  pub large : large_answer.StandsFor seen.large seen.negotiating.common.to_requester.transfer turns

-- The length of the hash that was chosen: the least length of a context.
abbrev pub chosen_len : Seen → ℕ
chosen_len seen = hash_size seen.negotiating.choice.hash

-- What both ends can do is settled at a place, as far as its phase says.
pub record IsSettledAt (p : Place) : Type 0 where
  pub settled : negotiating.IsSettled p.phase (place_terms p).common
