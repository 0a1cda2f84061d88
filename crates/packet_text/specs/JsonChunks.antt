-- What a chunk does, as members of JSON. A text is given, and what is written stands behind it. This project's own.
use Rattle.std.specs.Prelude.{ℕ, List, [], ◌∷◌, ◌++◌, codes, length, Bool}
use Rattle.std.specs.Fmt.{decimal}
use Rattle.capture_bodies.specs.Collecting.{Large}
use Rattle.capture_bodies.specs.Collecting.Large.{Awaiting, NoChunk, Refused, Whole}
use Rattle.message_fields.specs.Json.{with_name, with_next_name, with_number_member, with_string_member}
use Rattle.packet_text.specs.Chunks.{chunk_fault_word}
use Rattle.packet_text.specs.JsonBodies.{with_json_clear}
use Rattle.trace_text.specs.Spelling.{with_word}

-- The begin of an object with a number as its first member.
abbrev pub with_counted : List ℕ → (name first : List ℕ) → ℕ → List ℕ
with_counted text name first number = with_word (with_name (with_next_name text name ++ 32 ∷ 123 ∷ []) first) (decimal number)

-- What its chunk does: how many bytes of the large message are there of how many; the whole message, with its length;
-- or why the chunk is refused.
abbrev pub with_json_large : List ℕ → (owner : Bool) → Large → List ℕ
with_json_large text owner NoChunk = text
with_json_large text owner (Awaiting held told) = with_number_member (with_counted text (codes "chunks") (codes "held") held) (codes "of") told ++ 125 ∷ []
with_json_large text owner (Whole message) = with_json_clear (with_counted text (codes "large") (codes "size") (length message)) owner message ++ 125 ∷ []
with_json_large text owner (Refused fault) = with_string_member text (codes "refused") (chunk_fault_word fault)
