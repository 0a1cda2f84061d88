-- The policy before a stream: what follows the configuration, up to the line `go`. This project's own.
use Rattle.std.specs.Prelude.{ℕ, List}
use Rattle.frame_stream.specs.Text.{behind_text, go_line, text_to}

-- The policy of the bytes behind a configuration, and all bytes after it.
abbrev pub policy_of : List ℕ → List ℕ
policy_of bytes = text_to go_line bytes

abbrev pub behind_policy : List ℕ → List ℕ
behind_policy bytes = behind_text go_line bytes
