-- The words of the command line. This project's own.
use Rattle.std.specs.Prelude.{List, [], ◌∷◌, ◌≤◌, ◌-◌, ◌^◌, ◌&&◌, bytes_eq, codes, ℕ, if◌then◌else◌, map, Option, Some, None, String, string_bytes}
use Rattle.script_text.specs.Numbers.{is_number_in, value_of}
use Rattle.spdm_command.specs.declared.words.Command.{Command}
use Rattle.spdm_command.specs.declared.words.Command.TheVariants.{Attest, Check, Drive, Serve, ServeKept, Text}
use Rattle.spdm_command.specs.declared.words.TextCommand.{TextCommand}
use Rattle.spdm_command.specs.declared.words.TextCommand.TheVariants.{Gen, Lives, Run, Show}

-- The command of one word.
unfoldable pub command_named : List ℕ → Option Command
command_named word =
    if bytes_eq word (codes "run") then Some (Text Run)
    else (if bytes_eq word (codes "lives") then Some (Text Lives)
    else (if bytes_eq word (codes "show") then Some (Text Show)
    else (if bytes_eq word (codes "serve") then Some Serve
    else (if bytes_eq word (codes "drive") then Some Drive
    else (if bytes_eq word (codes "attest") then Some Attest
    else (if bytes_eq word (codes "check") then Some Check
    else None))))))

-- The command of two words.
unfoldable pub command_kept : List ℕ → List ℕ → Option Command
command_kept word kept = if bytes_eq word (codes "serve") && bytes_eq kept (codes "kept") then Some ServeKept else None

-- The command of three words: a seed below 2^64, and a count from 1 to 20,000.
unfoldable pub generator : List ℕ → List ℕ → List ℕ → Option Command
generator word seed count =
    if bytes_eq word (codes "gen") && is_number_in 0 (2 ^ 64 - 1) seed && is_number_in 1 20000 count then Some (Text (Gen (value_of seed) (value_of count)))
    else None

-- A count of events is at most the largest.
abbrev pub IsTextInRange : TextCommand → Type 0
IsTextInRange (Gen seed count) = count ≤ 20000
IsTextInRange Run = Unit {0}
IsTextInRange Lives = Unit {0}
IsTextInRange Show = Unit {0}

abbrev pub IsInRange : Command → Type 0
IsInRange (Text command) = IsTextInRange command
IsInRange Serve = Unit {0}
IsInRange ServeKept = Unit {0}
IsInRange Drive = Unit {0}
IsInRange Attest = Unit {0}
IsInRange Check = Unit {0}

-- The command that the words are, each as its bytes.
abbrev pub command_of : List (List ℕ) → Option Command
command_of (word ∷ []) = command_named word
command_of (word ∷ kept ∷ []) = command_kept word kept
command_of (word ∷ seed ∷ count ∷ []) = generator word seed count
command_of _ = None

-- The command that these words call for.
abbrev pub call_of : {Z : Type 0} → List (String Z) → Option Command
call_of words = command_of (map string_bytes words)
