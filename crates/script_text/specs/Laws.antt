-- Laws of printing and reading. This project's own.
use Rattle.std.specs.Prelude.{ℕ, List, [], ◌++◌, ◌∷◌, ◌+◌, ◌≤◌, ◌≡◌, length, fold, true, Ok}
use Rattle.script_text.specs.Lines.{lines_of}
use Rattle.script_text.specs.Printing.{config_text, script_text, with_entry}
use Rattle.script_text.specs.ScriptText.{script_in}
use Rattle.script_text.specs.Sound.{IsSoundConfig, are_sound_events, AreNumbered}
use Rattle.script_text.specs.declared.configuration.config.ScriptConfig.{ScriptConfig}
use Rattle.script_text.specs.declared.events.event.Entry.{Entry}
use Rattle.script_text.specs.declared.texts.script.Script.{Script}

-- What is printed of a script is read back as it was: a script in range, with at most 100,000 events, which stand on
-- the lines after those of its configuration.
abbrev pub PrintedScriptIsRead : Type 0
PrintedScriptIsRead = (script : Script) →
    IsSoundConfig script.config →
    are_sound_events (length script.config.requesters) script.events ≡ true →
    AreNumbered (1 + length (lines_of (config_text script.config))) script.events →
    length script.events ≤ 100000 →
    script_in (script_text script) ≡ Ok script

-- Events that are printed after any text of a configuration, whose last line is ended, are read back as they were.
abbrev pub PrintedEventsAreRead : Type 0
PrintedEventsAreRead = (text front : List ℕ) (config : ScriptConfig) (entries : List Entry) →
    text ≡ front ++ 10 ∷ [] →
    script_in text ≡ Ok (record { config = config; events = [] }) →
    length config.requesters ≤ 8 →
    are_sound_events (length config.requesters) entries ≡ true →
    AreNumbered (1 + length (lines_of text)) entries →
    length entries ≤ 100000 →
    script_in (fold with_entry text entries) ≡ Ok (record { config = config; events = entries })
