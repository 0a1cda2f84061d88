-- Laws of captures that are written. This project's own.
use Rattle.std.specs.Prelude.{ℕ, List, [], ◌∷◌, ◌++◌, ◌≡◌, ◌≤◌, length, true, Ok}
use Rattle.std.specs.List.{list_all}
use Rattle.capture_text.specs.Written.{packet_lines}
use Rattle.script_text.specs.ScriptText.{capture_in}
use Rattle.script_text.specs.Sound.{fits_word}
use Rattle.script_text.specs.declared.configuration.config.ScriptConfig.{ScriptConfig}
use Rattle.script_text.specs.declared.texts.script.Capture.{Capture}

-- The text of a configuration whose last line is ended, with the lines of packets after it, is read as the capture of
-- these packets. Each has at most 8,000 bytes, and they are at most 100,000.
abbrev pub WrittenCaptureIsRead : Type 0
WrittenCaptureIsRead = (text front : List ℕ) (config : ScriptConfig) (packets : List (List ℕ)) →
    text ≡ front ++ 10 ∷ [] →
    capture_in text ≡ Ok (record { config = config; packets = [] }) →
    list_all fits_word packets ≡ true →
    length packets ≤ 100000 →
    capture_in (text ++ packet_lines 1 packets) ≡ Ok (record { config = config; packets = packets })

-- The packets of a capture can be written again: each has at most 8,000 bytes, and they are at most 100,000.
abbrev pub CapturedPacketsFit : Type 0
CapturedPacketsFit = (text : List ℕ) (capture : Capture) →
    capture_in text ≡ Ok capture →
    (list_all fits_word capture.packets ≡ true) × (length capture.packets ≤ 100000)
