-- The lines of a trace as words, and the words of outcomes and events: `heard_words`, `finished_words` and
-- `event_words`. Those of phases, stages and causes stand in TraceWords.antt. This project's own.
use Rattle.std.specs.Prelude.{ℕ, List, [], ◌∷◌, ◌++◌, codes, Some, None}
use Rattle.std.specs.Fmt.{decimal}
use Rattle.trace_text.specs.Spelling.{spelled, hex_word, code_word, id_word, requester_word}
use Rattle.trace_text.specs.TraceWords.{phase_word, stage_word, command_fault_word, reply_fault_word, responder_ignored_word, requester_ignored_word, stop_word}
use Rattle.spdm_grammar.specs.Lines.{Whose, Line}
use Rattle.spdm_grammar.specs.Lines.Line.{State, Session, At, Command, Reply, ToResponder, ToRequester, ToNobody, Data, Record, Packet, NoPacket}
use Rattle.spdm_grammar.specs.Lines.Whose.{Requester, Responder}
use Rattle.spdm_grammar.specs.declared.told.session_view.SessionView.{SessionView}
use Rattle.spdm_grammar.specs.declared.told.event.Event.{Event}
use Rattle.spdm_grammar.specs.declared.told.event.Event.TheVariants as event
use Rattle.spdm_grammar.specs.declared.told.event.Finished.{Finished}
use Rattle.spdm_grammar.specs.declared.told.event.Finished.TheVariants as finished
use Rattle.spdm_grammar.specs.declared.told.heard.Heard.{Heard}
use Rattle.spdm_grammar.specs.declared.told.heard.Heard.TheVariants as heard

-- An end: a requester, or the responder towards it.
abbrev pub whose_words : Whose → List (List ℕ)
whose_words (Requester n) = requester_word n ∷ []
whose_words (Responder n) = codes "r" ∷ requester_word n ∷ []

-- A session: its id and stage, the epochs of requests and responses, their next numbers, how many messages were taken,
-- and the hash.
abbrev pub view_words : SessionView → List (List ℕ)
view_words view =
    id_word view.id
    ∷ stage_word view.stage
    ∷ decimal view.request_epoch
    ∷ decimal view.response_epoch
    ∷ decimal view.request_next
    ∷ decimal view.response_next
    ∷ decimal view.taken
    ∷ hex_word view.hash
    ∷ []

-- The outcome of a packet at the responder.
abbrev pub heard_words : Heard → List (List ℕ)
heard_words (heard.Answered code) = codes "answered" ∷ code_word code ∷ []
heard_words (heard.Taken id) = codes "taken" ∷ id_word id ∷ []
heard_words (heard.Refused code) = codes "refused" ∷ code_word code ∷ []
heard_words heard.Unopened = codes "unopened" ∷ []
heard_words heard.Same = codes "same" ∷ []
heard_words heard.More = codes "more" ∷ []
heard_words (heard.Ignored why) = codes "ignored" ∷ responder_ignored_word why ∷ []

-- The outcome of a command.
abbrev pub finished_words : Finished → List (List ℕ)
finished_words finished.Connected = codes "connected" ∷ []
finished_words (finished.Opened id) = codes "opened" ∷ id_word id ∷ []
finished_words (finished.Answered id) = codes "answered" ∷ id_word id ∷ []
finished_words (finished.Alive id) = codes "alive" ∷ id_word id ∷ []
finished_words (finished.Updated id) = codes "updated" ∷ id_word id ∷ []
finished_words (finished.Measured count) = codes "measured" ∷ decimal count ∷ []
finished_words (finished.Ended id) = codes "ended" ∷ id_word id ∷ []

-- The outcome of a packet at a requester.
abbrev pub event_words : Event → List (List ℕ)
event_words event.Progress = codes "progress" ∷ []
event_words event.More = codes "more" ∷ []
event_words (event.Done what) = codes "done" ∷ finished_words what
event_words (event.Refused code) = codes "refused" ∷ code_word code ∷ []
event_words (event.Warned code) = codes "warned" ∷ code_word code ∷ []
event_words (event.Stopped stop) = codes "stopped" ∷ stop_word stop ∷ []
event_words (event.Lost id why) = codes "lost" ∷ id_word id ∷ []
event_words (event.Ignored why) = codes "ignored" ∷ requester_ignored_word why ∷ []

-- The words of a line.
abbrev pub line_words : Line → List (List ℕ)
line_words (State whose phase) = codes "state" ∷ whose_words whose ++ phase_word phase ∷ []
line_words (Session whose view) = codes "session" ∷ whose_words whose ++ view_words view
line_words (At number) = (codes "@" ++ decimal number) ∷ []
line_words (Command n None) = requester_word n ∷ codes "ok" ∷ []
line_words (Command n (Some fault)) = requester_word n ∷ codes "fault" ∷ command_fault_word fault ∷ []
line_words (Reply None) = codes "r" ∷ codes "ok" ∷ []
line_words (Reply (Some fault)) = codes "r" ∷ codes "fault" ∷ reply_fault_word fault ∷ []
line_words (ToResponder heard) = codes "to" ∷ codes "r" ∷ heard_words heard
line_words (ToRequester n event) = codes "to" ∷ requester_word n ∷ event_words event
line_words ToNobody = codes "nobody" ∷ []
line_words (Data whose id bytes) = codes "data" ∷ whose_words whose ++ id_word id ∷ hex_word bytes ∷ []
line_words (Record n bytes) = codes "record" ∷ requester_word n ∷ hex_word bytes ∷ []
line_words (Packet number bytes) = codes "packet" ∷ decimal number ∷ hex_word bytes ∷ []
line_words (NoPacket number) = codes "no" ∷ codes "packet" ∷ decimal number ∷ []

-- A line as it is printed.
unfoldable pub line_text : Line → List ℕ
line_text line = spelled (line_words line)
