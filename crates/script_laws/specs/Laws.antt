-- What is said of every script that a text is. This project's own.
use Rattle.std.specs.Prelude.{◌≡◌, ℕ, List, length, true, Ok}
use Rattle.script_text.specs.ScriptText.{script_in}
use Rattle.script_text.specs.Sound.{IsSoundConfig, are_sound_events}
use Rattle.script_text.specs.declared.texts.script.Script.{Script}

-- Each number and each list of bytes of a configuration is in its range, and nothing is said twice.
abbrev pub ReadConfigIsSound : Type 0
ReadConfigIsSound = (text : List ℕ) (script : Script) → script_in text ≡ Ok script → IsSoundConfig script.config

-- An event names a configured requester, a session from 1 to 4, and numbers in their ranges.
abbrev pub ReadEventsAreSound : Type 0
ReadEventsAreSound = (text : List ℕ) (script : Script) → script_in text ≡ Ok script →
    are_sound_events (length script.config.requesters) script.events ≡ true

abbrev pub ReadScriptIsSound : Type 0
ReadScriptIsSound = ReadConfigIsSound × ReadEventsAreSound
