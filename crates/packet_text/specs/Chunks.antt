-- What a chunk does, in words. A text is given, and what is written stands behind it. This project's own.
use Rattle.std.specs.Prelude.{ℕ, List, [], ◌∷◌, codes, length, Bool}
use Rattle.std.specs.Fmt.{decimal}
use Rattle.capture_bodies.specs.Collecting.{Large}
use Rattle.capture_bodies.specs.Collecting.Large.{Awaiting, NoChunk, Refused, Whole}
use Rattle.packet_text.specs.Bodies.{with_clear}
use Rattle.script_text.specs.Printing.{with_line}
use Rattle.spdm_grammar.specs.declared.ChunkFault.{ChunkFault}
use Rattle.spdm_grammar.specs.declared.ChunkFault.TheVariants as fault

-- Why a chunk is refused.
abbrev pub chunk_fault_word : ChunkFault → List ℕ
chunk_fault_word fault.WrongHandle = codes "wrong-handle"
chunk_fault_word fault.WrongNumber = codes "wrong-number"
chunk_fault_word fault.WrongSize = codes "wrong-size"
chunk_fault_word fault.TooLarge = codes "too-large"
chunk_fault_word fault.EarlyLast = codes "early-last"
chunk_fault_word fault.MissingLast = codes "missing-last"

-- What its chunk does: how many bytes of the large message are there of how many; the whole message, with its length;
-- or why the chunk is refused.
abbrev pub with_large : List ℕ → (owner : Bool) → Large → List ℕ
with_large text owner NoChunk = text
with_large text owner (Awaiting held told) = with_line text (codes "  chunks" ∷ decimal held ∷ codes "of" ∷ decimal told ∷ codes "bytes" ∷ [])
with_large text owner (Whole message) = with_clear (with_line text (codes "  large" ∷ decimal (length message) ∷ codes "bytes" ∷ [])) owner message
with_large text owner (Refused fault) = with_line text (codes "  refused" ∷ chunk_fault_word fault ∷ [])
