-- Chunks collected into large messages (DSP0274, "CHUNK_SEND" and "CHUNK_RESPONSE"). The order of the tests and the
-- greatest length of a message are this project's own.
--
-- Each list of chunks below has the newest first.
use Rattle.std.specs.Prelude.{◌==◌, ◌+◌, ◌&&◌, ◌||◌, ℕ, Bool, not, nat_lt, List, [], ◌∷◌, ◌++◌, length, min, if◌then◌else◌, Option, Some, None}
use Rattle.std.specs.Option.{unwrap_or}
use Rattle.spdm_grammar.specs.Message.{ChunkMessage}
use Rattle.spdm_grammar.specs.declared.ChunkFault.{ChunkFault}
use Rattle.spdm_grammar.specs.declared.ChunkFault.TheVariants.{WrongHandle, WrongNumber, WrongSize, TooLarge, EarlyLast, MissingLast}
use Rattle.spdm_grammar.specs.declared.names.TheConstants.{MAX_MESSAGE_SIZE}

-- The chunks of the message in progress, of all accepted ones: none after one with the last mark; else those back to
-- the newest of number 0.
abbrev pub under_way : (accepted : List ChunkMessage) → List ChunkMessage
under_way [] = []
under_way (c ∷ earlier) = if c.last then [] else (if c.number == 0 then c ∷ [] else c ∷ under_way earlier)

-- The bytes of chunks, joined in the order in which they came.
abbrev pub joined : List ChunkMessage → List ℕ
joined [] = []
joined (c ∷ earlier) = joined earlier ++ c.chunk

-- The length announced by a first chunk; none told is 0.
abbrev pub told_by : ChunkMessage → ℕ
told_by c = unwrap_or c.large 0

-- The length that the first of these chunks tells.
abbrev pub told_size : List ChunkMessage → ℕ
told_size [] = 0
told_size (c ∷ []) = told_by c
told_size (c ∷ d ∷ earlier) = told_size (d ∷ earlier)

-- The fault of the first test that holds.
abbrev pub first_fault : List (Bool × ChunkFault) → Option ChunkFault
first_fault [] = None
first_fault (test ∷ tests) = if test.0 then Some test.1 else first_fault tests

-- The chunk is empty, or passes the announced length after the bytes held, or has fewer than 26 bytes without the last
-- mark.
abbrev pub has_wrong_size : (told held : ℕ) → ChunkMessage → Bool
has_wrong_size told held c =
    (length c.chunk == 0) || nat_lt told (held + length c.chunk) || (not c.last && nat_lt (length c.chunk) 26)

-- The rule of sizes and marks that a chunk breaks, by the announced length and the number of bytes held: its size is
-- wrong; it has the last mark before the announced length is reached; the announced length is reached without the mark.
abbrev pub size_rule : (told held : ℕ) → ChunkMessage → Option ChunkFault
size_rule told held c = first_fault (
    (has_wrong_size told held c, WrongSize)
    ∷ (c.last && nat_lt (held + length c.chunk) told, EarlyLast)
    ∷ (not c.last && (held + length c.chunk == told), MissingLast)
    ∷ [])

-- The rule that a chunk of number 0 breaks: it tells more than the greatest length or more than 4,096; or that of sizes
-- and marks.
abbrev pub first_rule : (max : ℕ) → ChunkMessage → Option ChunkFault
first_rule max c = if nat_lt (min max MAX_MESSAGE_SIZE) (told_by c) then Some TooLarge else size_rule (told_by c) 0 c

-- The rule that a chunk of another number breaks, by the chunks of its message before it: there are none; it has
-- another handle; its number is not one above that of the chunk before it; or that of sizes and marks.
abbrev pub later_rule : (before : List ChunkMessage) → ChunkMessage → Option ChunkFault
later_rule [] c = Some WrongNumber
later_rule (d ∷ earlier) c =
    if not (c.handle == d.handle) then Some WrongHandle
    else (if not (c.number == d.number + 1) then Some WrongNumber
    else size_rule (told_size (d ∷ earlier)) (length (joined (d ∷ earlier))) c)

-- The rule that a chunk breaks, by the chunks of the message in progress.
abbrev pub broken_rule : (max : ℕ) → (before : List ChunkMessage) → ChunkMessage → Option ChunkFault
broken_rule max before c = if c.number == 0 then first_rule max c else later_rule before c

-- The bytes up to a chunk: number 0 begins a message.
abbrev pub joined_with : (before : List ChunkMessage) → ChunkMessage → List ℕ
joined_with before c = if c.number == 0 then c.chunk else joined before ++ c.chunk

-- What a chunk leads to: it completes a message, more chunks are awaited, or it is refused.
pub data Collection : Type 0 where
  Whole : (message : List ℕ) → Collection
  More : Collection
  Refused : (fault : ChunkFault) → Collection

-- What a chunk leads to, by the rule that it breaks and the bytes up to it.
abbrev pub answer_from : Option ChunkFault → ChunkMessage → (message : List ℕ) → Collection
answer_from (Some fault) c message = Refused fault
answer_from None c message = if c.last then Whole message else More

-- What a chunk leads to, by all the chunks that were accepted before it.
abbrev pub collected : (max : ℕ) → (accepted : List ChunkMessage) → ChunkMessage → Collection
collected max accepted c =
    let before = under_way accepted in
    answer_from (broken_rule max before c) c (joined_with before c)

-- The accepted chunks with this one, where it breaks no rule.
abbrev pub accepted_unless : Option ChunkFault → (accepted : List ChunkMessage) → ChunkMessage → List ChunkMessage
accepted_unless (Some fault) accepted c = accepted
accepted_unless None accepted c = c ∷ accepted

-- The accepted chunks after one is given: a refused chunk changes nothing.
abbrev pub accepted_with : (max : ℕ) → (accepted : List ChunkMessage) → ChunkMessage → List ChunkMessage
accepted_with max accepted c = accepted_unless (broken_rule max (under_way accepted) c) accepted c

-- The accepted ones of the chunks given.
abbrev pub accepted_of : (max : ℕ) → (given : List ChunkMessage) → List ChunkMessage
accepted_of max [] = []
accepted_of max (c ∷ earlier) = accepted_with max (accepted_of max earlier) c

-- What each chunk of a list leads to, the newest first.
abbrev pub all_collected : (max : ℕ) → List ChunkMessage → List Collection
all_collected max [] = []
all_collected max (c ∷ earlier) = collected max (accepted_of max earlier) c ∷ all_collected max earlier
