-- What is reported of a packet that is given to the responder: whether it brought application data, and its lines, but
-- for those of the packets that are sent in response to it. This project's own.
use Rattle.std.specs.Prelude.{ℕ, List, [], ◌∷◌, Bool, true, false}
use Rattle.spdm_grammar.specs.Lines.{Line, Whose}
use Rattle.spdm_grammar.specs.Lines.Line.{Data, ToResponder}
use Rattle.spdm_grammar.specs.declared.told.heard.Heard.{Heard}
use Rattle.spdm_grammar.specs.declared.told.heard.Heard.TheVariants as heard

-- The responder took application data.
abbrev pub is_taken : Heard → Bool
is_taken (heard.Taken id) = true
is_taken _ = false

-- The line of the data that the responder took from requester q, where it took any; these are the last that it took.
abbrev pub heard_data : (q : ℕ) → Heard → (last : List ℕ) → List Line
heard_data q (heard.Taken id) last = Data (Whose.Responder q) id last ∷ []
heard_data q _ last = []

abbrev pub heard_lines : (q : ℕ) → Heard → (last : List ℕ) → List Line
heard_lines q told last = ToResponder told ∷ heard_data q told last
