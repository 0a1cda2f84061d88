-- The lines of packets in a capture, as they are written. This project's own.
use Rattle.std.specs.Prelude.{ℕ, List, [], ◌∷◌, ◌++◌, ◌+◌}
use Rattle.spdm_grammar.specs.Lines.Line.{Packet}
use Rattle.trace_text.specs.TraceLines.{line_text}

-- A line for each packet, of which the first has this number.
abbrev pub packet_lines : ℕ → List (List ℕ) → List ℕ
packet_lines number [] = []
packet_lines number (packet ∷ others) = line_text (Packet number packet) ++ packet_lines (number + 1) others
