use Rattle.std.proofs.Common.{◌∙◌, sym, rules, ◌≡◌, ◌≤◌, ◌↔◌, IsTrue, length, ℕ, List, MatchOption, Some, false, drop, ◌+◌, ◌-◌, ◌*◌, ◌<◌, ◌/◌, ◌%◌, Bool, true, nat_eq, nat_lt, [], ◌∷◌, ◌++◌, slice_index_or, slice_set, bit_and, bit_or, Fits, w8, w32, w64, Bor, MutBor}
use Rattle.spdm_grammar.specs.Fields.{IsSoundChunk}
use Rattle.spdm_grammar.specs.Message.{chunk_message}
use Rattle.spdm_grammar.specs.Message.ResponseMessage.{ChunkResponse}
use Rattle.spdm_grammar.specs.Responses.{canonical_response}
use Rattle.spdm_grammar.specs.declared.names.TheConstants.{MAX_MESSAGE_SIZE}
use Rattle.spdm_machine.specs.Bodies.{clear_body}
use Rattle.check_late_laws.specs.Fetching.{Fetching, answer_by}
use Rattle.check_late_laws.specs.FetchingShown.{ShowsChunk}
use Rattle.check_late_laws.specs.LargeAnswers.{StandsFor}
use Rattle.check_fetched_ends.specs.Held.{AreHeldFitting, CanBeCut, IsShownChunk, IsShownHeld, filled_with, repeats_held}
use Rattle.check_fetched_ends.specs.InSession.{filled}
use Rattle.check_fetched_ends.proofs.clear_fetch.held.Held.takes.Goals as goal

-- src/held.rt:117:5
pub returns-clause-came : goal.returns-clause-came
returns-clause-came c f next sent shown is stands = c.take.ensures f next sent shown (is ∙ sym c.behind_type.ensures) stands
