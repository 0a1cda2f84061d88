-- What is shown of a text of messages: a line for each. This project's own.
use Rattle.std.specs.Prelude.{◌≡◌, ℕ, List, [], length, map, true, false, Result, Ok, Err}
use Rattle.std.specs.List.{concat}
use Rattle.trace_text.specs.OtherLines.{malformed_text, message_text, request_name, response_name}
use Rattle.script_text.specs.ShownText.{shown_in}
use Rattle.script_text.specs.declared.texts.faults.LineFault.TheVariants.{TooManyEvents}
use Rattle.script_text.specs.declared.texts.faults.ScriptFault.{ScriptFault}
use Rattle.script_text.specs.declared.texts.faults.ScriptFault.TheVariants as fault
use Rattle.script_text.specs.declared.texts.shown.Shown.{Shown}
use Rattle.script_text.specs.declared.texts.shown.ShownKind.{ShownKind}
use Rattle.script_text.specs.declared.texts.shown.ShownKind.TheVariants.{Request, Response, WithSummary}
use Rattle.spdm_basis.specs.Sizes.{hash_size}
use Rattle.spdm_grammar.specs.Message.{RequestMessage, ResponseMessage}
use Rattle.spdm_grammar.specs.Requests.{request_reading}
use Rattle.spdm_grammar.specs.Responses.{response_reading}
use Rattle.spdm_grammar.specs.declared.messages.malformed.Malformed.{Malformed}
use Rattle.spdm_show.specs.declared.showing.ShowFault.{ShowFault}
use Rattle.spdm_show.specs.declared.showing.ShowFault.TheVariants as told

-- A request is shown by its name and its length, or by its first fault.
abbrev pub request_text : List ℕ → Result RequestMessage Malformed → List ℕ
request_text bytes (Ok request) = message_text (request_name request) (length bytes)
request_text bytes (Err malformed) = malformed_text malformed

-- So is a response.
abbrev pub response_text : List ℕ → Result ResponseMessage Malformed → List ℕ
response_text bytes (Ok response) = message_text (response_name response) (length bytes)
response_text bytes (Err malformed) = malformed_text malformed

-- The line of bytes that are read as this kind of message, where a hash has so many bytes.
abbrev pub line_by : ShownKind → (hash_len : ℕ) → List ℕ → List ℕ
line_by Request hash_len bytes = request_text bytes (request_reading hash_len bytes)
line_by Response hash_len bytes = response_text bytes (response_reading hash_len false bytes)
line_by WithSummary hash_len bytes = response_text bytes (response_reading hash_len true bytes)

-- The line of a message.
abbrev pub line_of : Shown → List ℕ
line_of shown = line_by shown.kind (hash_size shown.hash) shown.bytes

-- The lines of messages, in their order.
abbrev pub lines_of : List Shown → List ℕ
lines_of shown = concat (map line_of shown)

-- The lines of the messages of a text, and none where a line of it is bad.
abbrev pub shown_by : Result (List Shown) ScriptFault → List ℕ
shown_by (Ok shown) = lines_of shown
shown_by (Err fault) = []

unfoldable pub shown_text : List ℕ → List ℕ
shown_text text = shown_by (shown_in text)

-- ---- Why a text is not shown.

-- The fault of a text, as it is reported.
abbrev pub told_of : ScriptFault → ShowFault
told_of (fault.Line line f) = told.Line line f
told_of (fault.TooManyEvents line) = told.Line line TooManyEvents
told_of fault.OutOfMemory = told.OutOfMemory

-- The text has this fault.
abbrev pub IsBad : Result (List Shown) ScriptFault → ShowFault → Type 0
IsBad (Ok shown) why = ⊥
IsBad (Err f) why = told_of f ≡ why
