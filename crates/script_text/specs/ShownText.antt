-- The text of messages that are to be shown: one message a line. This project's own.
use Rattle.std.specs.Prelude.{ℕ, List, [], ◌∷◌, ◌++◌, not, codes, bytes_eq, if◌then◌else◌, Option, Some, None, Result}
use Rattle.spdm_basis.specs.declared.values.hash_alg.HashAlg.TheVariants.{Sha256, Sha384}
use Rattle.script_text.specs.HexWords.{is_hex_in, bytes_of, most_bytes}
use Rattle.script_text.specs.Lines.{lines_of, word, has_words}
use Rattle.script_text.specs.Reading.{read_lines}
use Rattle.script_text.specs.Tests.{first_of_tests}
use Rattle.script_text.specs.declared.texts.faults.LineFault.{LineFault}
use Rattle.script_text.specs.declared.texts.faults.LineFault.TheVariants.{Unknown, Words, Hex}
use Rattle.script_text.specs.declared.texts.faults.ScriptFault.{ScriptFault}
use Rattle.script_text.specs.declared.texts.shown.Shown.{Shown}
use Rattle.script_text.specs.declared.texts.shown.ShownKind.TheVariants as kind
use Rattle.script_text.specs.declared.texts.shown.ShownAs.{ShownAs}

-- What a line shows by its first word: a request, `q`, a response, `r`, or a response with a measurement summary, `s`;
-- under SHA-256, or with 48 after the letter under SHA-384.
unfoldable pub shown_as : List ℕ → Option ShownAs
shown_as word =
    if bytes_eq word (codes "q") then Some (record { kind = kind.Request; hash = Sha256 })
    else (if bytes_eq word (codes "r") then Some (record { kind = kind.Response; hash = Sha256 })
    else (if bytes_eq word (codes "s") then Some (record { kind = kind.WithSummary; hash = Sha256 })
    else (if bytes_eq word (codes "q48") then Some (record { kind = kind.Request; hash = Sha384 })
    else (if bytes_eq word (codes "r48") then Some (record { kind = kind.Response; hash = Sha384 })
    else (if bytes_eq word (codes "s48") then Some (record { kind = kind.WithSummary; hash = Sha384 })
    else None)))))

unfoldable pub message_fault : List ℕ → Option LineFault
message_fault line = first_of_tests (
    (not (has_words 2 line), Words)
    ∷ (not (is_hex_in 0 most_bytes (word 1 line)), Hex)
    ∷ [])

abbrev pub shown_kind_fault : Option ShownAs → List ℕ → Option LineFault
shown_kind_fault None line = Some Unknown
shown_kind_fault (Some as_what) line = message_fault line

abbrev pub shown_fault : List Shown → List ℕ → Option LineFault
shown_fault shown line = shown_kind_fault (shown_as (word 0 line)) line

abbrev pub after_shown_kind : List Shown → Option ShownAs → List ℕ → List Shown
after_shown_kind shown None line = shown
after_shown_kind shown (Some as_what) line = shown ++ (record { kind = as_what.kind; hash = as_what.hash; bytes = bytes_of (word 1 line) }) ∷ []

abbrev pub after_shown : List Shown → ℕ → List ℕ → List Shown
after_shown shown number line = after_shown_kind shown (shown_as (word 0 line)) line

-- The messages that a text is, or its first bad line.
unfoldable pub shown_in : List ℕ → Result (List Shown) ScriptFault
shown_in text = read_lines shown_fault after_shown (λ shown. Some shown) 1 [] (lines_of text)
