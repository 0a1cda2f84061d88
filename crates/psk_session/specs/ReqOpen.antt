-- A session at the requester that is open, with nothing outstanding.
use Rattle.std.specs.Prelude.{◌≡◌, ℕ, List}
use Rattle.requester_machine.specs.SpentLaws.{FewBy}
use Rattle.requester_machine.specs.Order.Waits.{Rests}
use Rattle.requester_machine.specs.Session.{Steps, stage_of, response_epoch}
use Rattle.spdm_grammar.specs.declared.told.phase.Stage.TheVariants.{Open}
use Rattle.psk_session.specs.Data.{data_of}
use Rattle.psk_session.specs.Kept.{Keeps}
use Rattle.psk_session.specs.declared.kept.Kept.{Kept}

-- The state as contracts see it: what is kept of the session, and what the last answer brought.
pub record Seen : Type 0 where
  pub kept : Kept
  pub brought : List ℕ

-- The state stands for a session of these steps, with this pre-shared key. Its next numbers are few enough for one more
-- record.
pub record StandsFor (seen : Seen) (psk : List ℕ) (s : Steps) : Type 0 where
  pub stage : stage_of s ≡ Open
  pub keeps : Keeps seen.kept psk s (response_epoch s)
  pub few : FewBy Rests s
  pub brought : seen.brought ≡ data_of s
