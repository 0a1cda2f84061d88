-- What is reported of a packet that is given to a requester: whether it brought application data, and its lines, but
-- for those of the packets that are sent in response to it. This project's own.
use Rattle.std.specs.Prelude.{ℕ, List, [], ◌∷◌, Bool, true, false}
use Rattle.spdm_grammar.specs.Lines.{Line, Whose}
use Rattle.spdm_grammar.specs.Lines.Line.{Data, Record, ToRequester}
use Rattle.spdm_grammar.specs.declared.told.event.Event.{Event}
use Rattle.spdm_grammar.specs.declared.told.event.Event.TheVariants as event
use Rattle.spdm_grammar.specs.declared.told.event.Finished.TheVariants as finished

-- Application data of a requester were answered.
abbrev pub is_answered : Event → Bool
is_answered (event.Done (finished.Answered id)) = true
is_answered _ = false

-- The line of the data or the measurement record that requester q took, where it took any; these are the last.
abbrev pub event_data : (q : ℕ) → Event → (last : List ℕ) → List Line
event_data q (event.Done (finished.Answered id)) last = Data (Whose.Requester q) id last ∷ []
event_data q (event.Done (finished.Measured number)) last = Record q last ∷ []
event_data q _ last = []

abbrev pub event_lines : (q : ℕ) → Event → (last : List ℕ) → List Line
event_lines q told last = ToRequester q told ∷ event_data q told last
