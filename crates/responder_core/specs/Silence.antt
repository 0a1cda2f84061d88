-- How long a session has been silent, and its period.
use Rattle.std.specs.Prelude.{◌≡◌, [], true, Option, Some, None}
use Rattle.responder_core.specs.declared.silence.Silence.{Silence}
use Rattle.responder_machine.specs.Session.{Events, idle_of, is_live, period_of}

-- This is told of a session; nothing where there is none.
abbrev pub IsSilenceOf : Option Silence → Events → Type 0
IsSilenceOf None s = s ≡ []
IsSilenceOf (Some silence) s = (is_live s ≡ true) × (silence.seconds ≡ idle_of s) × (silence.period ≡ period_of s)
