-- What is kept of the packets of a capture.
use Rattle.std.specs.Prelude.{◌≡◌, ℕ, List}
use Rattle.capture_bodies.specs.Keeping.{Keeps}
use Rattle.capture_records.specs.Ends.{eids_of, own_of}
use Rattle.capture_records.specs.Hearing.{heard_of}
use Rattle.capture_records.specs.Inside.{Collects}
use Rattle.packet_text.specs.declared.following.Following.{Following}
use Rattle.script_text.specs.declared.configuration.config.ScriptConfig.{ScriptConfig}

-- The bodies and large messages that are gathered, what was heard of the sessions, and the large messages of records, after
-- these packets, the newest first.
pub record Follows (following : Following) (config : ScriptConfig) (older : List (List ℕ)) : Type 0 where
  pub keeps : Keeps following.gathering (own_of config) (eids_of config) older
  pub hears : following.hearing ≡ heard_of config older
  pub collects : Collects following.inside config older
