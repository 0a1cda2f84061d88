-- The words of the command line. This project's own.
use Rattle.std.specs.Prelude.{List, [], ◌∷◌, bytes_eq, codes, ℕ, if◌then◌else◌, map, Option, Some, None, String, string_bytes}
use Rattle.kept_command.specs.declared.words.Command.{Command}
use Rattle.kept_command.specs.declared.words.Command.TheVariants.{Attest, Drive}

-- The command of one word.
unfoldable pub command_named : List ℕ → Option Command
command_named word =
    if bytes_eq word (codes "drive") then Some Drive
    else (if bytes_eq word (codes "attest") then Some Attest
    else None)

-- The command that the words are, each as its bytes.
abbrev pub command_of : List (List ℕ) → Option Command
command_of (word ∷ []) = command_named word
command_of _ = None

-- The command that these words call for.
abbrev pub call_of : {Z : Type 0} → List (String Z) → Option Command
call_of words = command_of (map string_bytes words)
