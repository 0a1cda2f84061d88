-- What is written of the first packet that does not conform, in words and as JSON. A text is given, and what is written
-- stands behind it. This project's own.
use Rattle.std.specs.Prelude.{ℕ, List, [], ◌∷◌, ◌++◌, codes, Option, Some, None}
use Rattle.std.specs.Fmt.{decimal}
use Rattle.capture_difference.specs.Spots.{spot_word}
use Rattle.capture_difference.specs.declared.difference.Difference.{Difference}
use Rattle.capture_difference.specs.declared.difference.WrongByte.{WrongByte}
use Rattle.message_fields.specs.Json.{with_bytes_member, with_name, with_number_member, with_string_member}
use Rattle.packet_text.specs.declared.style.Style.{Style}
use Rattle.packet_text.specs.declared.style.Style.TheVariants.{Json, Words}
use Rattle.script_text.specs.Printing.{with_line}
use Rattle.spdm_grammar.specs.declared.told.why.Why.{Why}
use Rattle.spdm_grammar.specs.declared.told.why.Why.TheVariants as why
use Rattle.trace_text.specs.OtherLines.{why_word}
use Rattle.trace_text.specs.Spelling.{hex_word, with_word, with_words}

-- What was awaited where the packet came.
abbrev pub awaited : Why → List ℕ
awaited why.BadPacket = codes "a packet that its receiver takes, of a body that is an SPDM message or a record"
awaited why.UnknownEnd = codes "a packet between the responder and a requester of the configuration"
awaited why.WrongTurn = codes "an answer, or the same request again, while a request waits; else a request with the next tag"
awaited why.BadRequest = codes "a request that the requester may send here"
awaited why.BadReply = codes "an answer that the responder may give to the last request"
awaited why.BadVerify = codes "the verify data of this transcript"
awaited why.BadRecord = codes "a record that opens under the keys of its session"

-- ---- In words: a line with the number and the reason, a line with what was awaited, and one with a byte.

-- The line of a byte, up to its place.
abbrev pub with_change : List ℕ → WrongByte → List ℕ
with_change text b =
    with_words (text ++ codes "  with")
    (hex_word (b.conforms ∷ []) ∷ codes "in place of" ∷ hex_word (b.came ∷ []) ∷ codes "at byte" ∷ decimal b.place ∷ codes "of packet" ∷ decimal b.packet ∷ [])

-- Up to where it stands.
abbrev pub with_spot : List ℕ → WrongByte → List ℕ
with_spot text b = with_words (with_change text b ++ codes ", in") (spot_word b.spot ∷ [])

-- Up to its end: the packets up to this number conform.
abbrev pub with_conform : List ℕ → (number : ℕ) → List ℕ
with_conform text number = with_words text (decimal number ∷ codes "conform" ∷ []) ++ 10 ∷ []

abbrev pub with_byte_line : List ℕ → Option WrongByte → (number : ℕ) → List ℕ
with_byte_line text None number = with_conform (text ++ codes "  with no change of one byte that was tried do all packets up to") number
with_byte_line text (Some b) number = with_conform (with_spot text b ++ codes ", all packets up to") number

abbrev pub with_difference_lines : List ℕ → Difference → List ℕ
with_difference_lines text d =
    with_byte_line (with_line (with_line text (codes "differs" ∷ decimal d.packet ∷ why_word d.why ∷ [])) (codes "  awaited" ∷ awaited d.why ∷ [])) d.byte d.packet

-- ---- As an object of JSON on a line of its own.

abbrev pub with_byte_members : List ℕ → Option WrongByte → List ℕ
with_byte_members text None = text
with_byte_members text (Some b) =
    with_bytes_member
    (with_bytes_member
    (with_number_member (with_string_member (with_number_member text (codes "byte") b.place) (codes "of") (spot_word b.spot)) (codes "in") b.packet)
    (codes "came") (b.came ∷ []))
    (codes "conforms") (b.conforms ∷ [])

abbrev pub with_difference_object : List ℕ → Difference → List ℕ
with_difference_object text d =
    (with_byte_members (with_string_member (with_string_member (with_word (with_name (text ++ codes "{") (codes "differs")) (decimal d.packet)) (codes "why") (why_word d.why)) (codes "awaited") (awaited d.why)) d.byte ++ codes "}")
    ++ 10 ∷ []

-- ---- In a style; nothing of a capture that conforms.

abbrev pub difference_text : Style → Option Difference → List ℕ
difference_text style None = []
difference_text Words (Some d) = with_difference_lines [] d
difference_text Json (Some d) = with_difference_object [] d
