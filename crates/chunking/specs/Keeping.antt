-- What a collector keeps, what one chunk does to it, and the accepted chunks that it stands for. This project's own.
-- The rules themselves are those of collecting.
use Rattle.std.specs.Prelude.{◌≡◌, ◌==◌, ◌+◌, ℕ, not, List, [], ◌∷◌, ◌++◌, length, if◌then◌else◌, Option, Some, None}
use Rattle.spdm_grammar.specs.Message.{ChunkMessage}
use Rattle.spdm_grammar.specs.declared.ChunkFault.{ChunkFault}
use Rattle.spdm_grammar.specs.declared.ChunkFault.TheVariants.{WrongHandle, WrongNumber}
use Rattle.chunking.specs.Collecting.{Collection, first_rule, size_rule, told_by, told_size, joined, under_way, answer_from}
use Rattle.chunking.specs.declared.unfinished.Unfinished.{Unfinished}

-- The greatest length of a message, what the next chunk of the unfinished message must follow, and the bytes so far.
pub record Kept : Type 0 where
  pub max : ℕ
  pub unfinished : Option Unfinished
  pub bytes : List ℕ

-- The rule that a later chunk breaks, by what its message keeps and the number of its bytes so far.
abbrev pub next_rule : Unfinished → (held : ℕ) → ChunkMessage → Option ChunkFault
next_rule u held c =
    if not (c.handle == u.handle) then Some WrongHandle
    else (if not (c.number == u.number + 1) then Some WrongNumber
    else size_rule u.told held c)

-- What is kept of the message after this chunk.
abbrev pub unfinished_after : ChunkMessage → (told : ℕ) → Unfinished
unfinished_after c told = record { handle = c.handle; number = c.number; told = told }

-- The bytes are added, and with the last mark nothing is unfinished.
abbrev pub grown : Kept → ChunkMessage → (told : ℕ) → Kept
grown k c told = record {
  max = k.max;
  unfinished = if c.last then None else Some (unfinished_after c told);
  bytes = k.bytes ++ c.chunk;
}

-- The chunk is added where it breaks no rule.
abbrev pub grown_unless : Option ChunkFault → (old started : Kept) → ChunkMessage → (told : ℕ) → Kept
grown_unless (Some fault) old started c told = old
grown_unless None old started c told = grown started c told

-- What a chunk of number 0 leaves: an accepted one drops what was unfinished.
abbrev pub after_first : Kept → ChunkMessage → Kept
after_first k c = grown_unless (first_rule k.max c) k (record { max = k.max; unfinished = None; bytes = [] }) c (told_by c)

-- What a chunk of another number leaves.
abbrev pub after_later : Option Unfinished → Kept → ChunkMessage → Kept
after_later None k c = k
after_later (Some u) k c = grown_unless (next_rule u (length k.bytes) c) k k c u.told

-- What a chunk leaves.
abbrev pub after_chunk : Kept → ChunkMessage → Kept
after_chunk k c = if c.number == 0 then after_first k c else after_later k.unfinished k c

abbrev pub answer_later : Option Unfinished → Kept → ChunkMessage → Collection
answer_later None k c = answer_from (Some WrongNumber) c (k.bytes ++ c.chunk)
answer_later (Some u) k c = answer_from (next_rule u (length k.bytes) c) c (k.bytes ++ c.chunk)

-- What a chunk is answered.
abbrev pub answer_to : Kept → ChunkMessage → Collection
answer_to k c =
    if c.number == 0 then answer_from (first_rule k.max c) c c.chunk
    else answer_later k.unfinished k c

-- What is unfinished is what the newest chunk of the message in progress leads to, with the bytes of its chunks; or no
-- message is in progress.
abbrev pub StandsForMessage : Option Unfinished → (bytes : List ℕ) → (before : List ChunkMessage) → Type 0
StandsForMessage None bytes before = before ≡ []
StandsForMessage (Some u) bytes [] = ⊥
StandsForMessage (Some u) bytes (c ∷ earlier) = (u ≡ unfinished_after c (told_size (c ∷ earlier))) × (bytes ≡ joined (c ∷ earlier))

-- The collector stands for the chunks that it accepted, the newest first.
abbrev pub StandsFor : Kept → (accepted : List ChunkMessage) → Type 0
StandsFor k accepted = StandsForMessage k.unfinished k.bytes (under_way accepted)
