-- The definitions computed on small histories.
use Rattle.std.proofs.Common.{refl, ◌≡◌, ℕ, List, [], ◌∷◌, ◌++◌, true, false, Option, Some, None}
use Rattle.std.specs.Prelude.{replicate, option_map}
use Rattle.spdm_grammar.specs.Reading.{field_at, number_at, optional_at, tables_at, behind_tables, behind_table}
use Rattle.spdm_grammar.specs.Requests.{request_body, get_capabilities_layout, negotiate_algorithms_layout}
use Rattle.spdm_grammar.specs.Responses.{response_body, version_layout, capabilities_layout, algorithms_layout, chunk_send_ack_layout, chunk_response_layout, error_layout}
use Rattle.spdm_grammar.specs.declared.messages.choice.Pick.TheVariants.{Small}
use Rattle.spdm_grammar.specs.declared.told.event.Event.TheVariants as event
use Rattle.spdm_grammar.specs.declared.told.event.Finished.TheVariants as finished
use Rattle.spdm_grammar.specs.declared.told.phase.Phase.TheVariants.{Negotiated}
use Rattle.spdm_machine.specs.Keys.{Draw}
use Rattle.spdm_machine.specs.Bodies.{clear_body}
use Rattle.requester_machine.specs.Setup.{ReqSetup}
use Rattle.spdm_machine.specs.Terms.{terms_of}
use Rattle.transcript.specs.Transcripts.{vca_of}
use Rattle.requester_machine.specs.Asking.{Outcome, asks}
use Rattle.requester_machine.specs.Bodies.{body_fault}
use Rattle.requester_machine.specs.ClearAnswers.{carried_by, clear_led}
use Rattle.requester_machine.specs.Commands.{command_fault}
use Rattle.requester_machine.specs.Does.{chosen, requester_asks, requester_hears}
use Rattle.requester_machine.specs.Hearing.{hears}
use Rattle.requester_machine.specs.History.{History, outstanding, phase_of, negotiation_of}
use Rattle.requester_machine.specs.Message.{Sent, body_of}
use Rattle.requester_machine.specs.Message.Command.{Connect}
use Rattle.requester_machine.specs.Session.{session_of}
use Rattle.requester_machine.specs.Shown.{after, sent_by, event_of}

abbrev q : ReqSetup
q = record {
  eid = 9;
  responder = 8;
  transfer = 1024;
  max = 4096;
  unit = 64;
  pad = 0;
  flags = record { measure = false; heartbeat = true; key_update = true; chunk = true };
  hint = 0x71 ∷ [];
  psk = 1 ∷ 2 ∷ [];
  opaque = [];
  suites = record { hash = Small; aead = Small };
}

abbrev d : Draw
d = record { number = 0; bytes = replicate 32 7 }

-- The tag and the body that go out.
abbrev body_sent : Outcome → Option (ℕ × List ℕ)
body_sent outcome = option_map (λ (sent : Sent). (sent.tag, body_of sent.content)) (sent_by outcome)

abbrev waiting_tag : Option Sent → ℕ
waiting_tag None = 0
waiting_tag (Some sent) = sent.tag

-- A clear answer, under the tag of what it answers.
abbrev answered : ReqSetup → History → List ℕ → Outcome
answered q h m = requester_hears q h false (waiting_tag (outstanding h)) (clear_body m) d

-- The history after Connect and these clear answers, the newest first.
abbrev connected : ReqSetup → List (List ℕ) → History
connected q [] = after [] (requester_asks false q [] Connect d)
connected q (m ∷ older) = after (connected q older) (answered q (connected q older) m)

-- ---- The negotiation.

connect_sends_get_version : body_sent (requester_asks false q [] Connect d) ≡ Some (0, 5 ∷ 16 ∷ 132 ∷ 0 ∷ 0 ∷ [])
unfolding asks hears command_fault body_fault carried_by clear_led chosen session_of terms_of field_at number_at optional_at tables_at behind_tables behind_table request_body response_body get_capabilities_layout negotiate_algorithms_layout version_layout capabilities_layout algorithms_layout chunk_send_ack_layout chunk_response_layout error_layout
connect_sends_get_version = refl

abbrev version : List ℕ
version = 16 ∷ 4 ∷ 0 ∷ 0 ∷ 0 ∷ 1 ∷ 0 ∷ 18 ∷ []

abbrev get_capabilities : List ℕ
get_capabilities = 18 ∷ 225 ∷ 0 ∷ 0 ∷ 0 ∷ 0 ∷ 0 ∷ 0 ∷ 192 ∷ 100 ∷ 2 ∷ 0 ∷ 0 ∷ 4 ∷ 0 ∷ 0 ∷ 0 ∷ 16 ∷ 0 ∷ 0 ∷ []

version_then_capabilities : body_sent (answered q (connected q []) version) ≡ Some (1, 5 ∷ get_capabilities)
unfolding asks hears command_fault body_fault carried_by clear_led chosen session_of terms_of field_at number_at optional_at tables_at behind_tables behind_table request_body response_body get_capabilities_layout negotiate_algorithms_layout version_layout capabilities_layout algorithms_layout chunk_send_ack_layout chunk_response_layout error_layout
version_then_capabilities = refl

abbrev capabilities : List ℕ
capabilities = 18 ∷ 97 ∷ 0 ∷ 0 ∷ 0 ∷ 0 ∷ 0 ∷ 0 ∷ 200 ∷ 104 ∷ 2 ∷ 0 ∷ 0 ∷ 4 ∷ 0 ∷ 0 ∷ 0 ∷ 16 ∷ 0 ∷ 0 ∷ []

abbrev offer : List ℕ
offer = 18 ∷ 227 ∷ 4 ∷ 0 ∷ 48 ∷ 0 ∷ 1 ∷ 2 ∷ 0 ∷ 0 ∷ 0 ∷ 0 ∷ 1 ∷ 0 ∷ 0 ∷ 0 ∷ 0 ∷ 0 ∷ 0 ∷ 0 ∷ 0 ∷ 0 ∷ 0 ∷ 0 ∷ 0 ∷ 0 ∷ 0 ∷ 0 ∷ 0 ∷ 0 ∷ 0 ∷ 0 ∷ 2 ∷ 32 ∷ 0 ∷ 0 ∷ 3 ∷ 32 ∷ 1 ∷ 0 ∷ 4 ∷ 32 ∷ 0 ∷ 0 ∷ 5 ∷ 32 ∷ 1 ∷ 0 ∷ []

then_the_offer : body_sent (answered q (connected q (version ∷ [])) capabilities) ≡ Some (2, 5 ∷ offer)
unfolding asks hears command_fault body_fault carried_by clear_led chosen session_of terms_of field_at number_at optional_at tables_at behind_tables behind_table request_body response_body get_capabilities_layout negotiate_algorithms_layout version_layout capabilities_layout algorithms_layout chunk_send_ack_layout chunk_response_layout error_layout
then_the_offer = refl

abbrev algorithms : List ℕ
algorithms = 18 ∷ 99 ∷ 4 ∷ 0 ∷ 52 ∷ 0 ∷ 1 ∷ 2 ∷ 2 ∷ 0 ∷ 0 ∷ 0 ∷ 0 ∷ 0 ∷ 0 ∷ 0 ∷ 1 ∷ 0 ∷ 0 ∷ 0 ∷ 0 ∷ 0 ∷ 0 ∷ 0 ∷ 0 ∷ 0 ∷ 0 ∷ 0 ∷ 0 ∷ 0 ∷ 0 ∷ 0 ∷ 0 ∷ 0 ∷ 0 ∷ 0 ∷ 2 ∷ 32 ∷ 0 ∷ 0 ∷ 3 ∷ 32 ∷ 1 ∷ 0 ∷ 4 ∷ 32 ∷ 0 ∷ 0 ∷ 5 ∷ 32 ∷ 1 ∷ 0 ∷ []

negotiation_completes : event_of (answered q (connected q (capabilities ∷ version ∷ [])) algorithms) ≡ Some (event.Done finished.Connected)
unfolding asks hears command_fault body_fault carried_by clear_led chosen session_of terms_of field_at number_at optional_at tables_at behind_tables behind_table request_body response_body get_capabilities_layout negotiate_algorithms_layout version_layout capabilities_layout algorithms_layout chunk_send_ack_layout chunk_response_layout error_layout
negotiation_completes = refl

is_negotiated : phase_of (connected q (algorithms ∷ capabilities ∷ version ∷ [])) ≡ Negotiated
unfolding asks hears command_fault body_fault carried_by clear_led chosen session_of terms_of field_at number_at optional_at tables_at behind_tables behind_table request_body response_body get_capabilities_layout negotiate_algorithms_layout version_layout capabilities_layout algorithms_layout chunk_send_ack_layout chunk_response_layout error_layout
is_negotiated = refl

-- ---- The same with transfer size 42 at both ends: the offer goes by two chunks, and so does its answer.

abbrev small : ReqSetup
small = record q { transfer = 42 }

abbrev get_version : List ℕ
get_version = 16 ∷ 132 ∷ 0 ∷ 0 ∷ []

abbrev small_get_capabilities : List ℕ
small_get_capabilities = 18 ∷ 225 ∷ 0 ∷ 0 ∷ 0 ∷ 0 ∷ 0 ∷ 0 ∷ 192 ∷ 100 ∷ 2 ∷ 0 ∷ 42 ∷ 0 ∷ 0 ∷ 0 ∷ 0 ∷ 16 ∷ 0 ∷ 0 ∷ []

abbrev small_capabilities : List ℕ
small_capabilities = 18 ∷ 97 ∷ 0 ∷ 0 ∷ 0 ∷ 0 ∷ 0 ∷ 0 ∷ 200 ∷ 104 ∷ 2 ∷ 0 ∷ 42 ∷ 0 ∷ 0 ∷ 0 ∷ 0 ∷ 16 ∷ 0 ∷ 0 ∷ []

abbrev first_piece : List ℕ
first_piece = 18 ∷ 133 ∷ 0 ∷ 0 ∷ 0 ∷ 0 ∷ 0 ∷ 0 ∷ 26 ∷ 0 ∷ 0 ∷ 0 ∷ 48 ∷ 0 ∷ 0 ∷ 0 ∷ 18 ∷ 227 ∷ 4 ∷ 0 ∷ 48 ∷ 0 ∷ 1 ∷ 2 ∷ 0 ∷ 0 ∷ 0 ∷ 0 ∷ 1 ∷ 0 ∷ 0 ∷ 0 ∷ 0 ∷ 0 ∷ 0 ∷ 0 ∷ 0 ∷ 0 ∷ 0 ∷ 0 ∷ 0 ∷ 0 ∷ []

abbrev last_piece : List ℕ
last_piece = 18 ∷ 133 ∷ 1 ∷ 0 ∷ 1 ∷ 0 ∷ 0 ∷ 0 ∷ 22 ∷ 0 ∷ 0 ∷ 0 ∷ 0 ∷ 0 ∷ 0 ∷ 0 ∷ 0 ∷ 0 ∷ 2 ∷ 32 ∷ 0 ∷ 0 ∷ 3 ∷ 32 ∷ 1 ∷ 0 ∷ 4 ∷ 32 ∷ 0 ∷ 0 ∷ 5 ∷ 32 ∷ 1 ∷ 0 ∷ []

abbrev first_ack : List ℕ
first_ack = 18 ∷ 5 ∷ 0 ∷ 0 ∷ 0 ∷ 0 ∷ []

abbrev last_ack : List ℕ
last_ack = 18 ∷ 5 ∷ 0 ∷ 0 ∷ 1 ∷ 0 ∷ 18 ∷ 127 ∷ 15 ∷ 0 ∷ 0 ∷ []

abbrev first_chunk : List ℕ
first_chunk = 18 ∷ 6 ∷ 0 ∷ 0 ∷ 0 ∷ 0 ∷ 0 ∷ 0 ∷ 26 ∷ 0 ∷ 0 ∷ 0 ∷ 52 ∷ 0 ∷ 0 ∷ 0 ∷ 18 ∷ 99 ∷ 4 ∷ 0 ∷ 52 ∷ 0 ∷ 1 ∷ 2 ∷ 2 ∷ 0 ∷ 0 ∷ 0 ∷ 0 ∷ 0 ∷ 0 ∷ 0 ∷ 1 ∷ 0 ∷ 0 ∷ 0 ∷ 0 ∷ 0 ∷ 0 ∷ 0 ∷ 0 ∷ 0 ∷ []

abbrev last_chunk : List ℕ
last_chunk = 18 ∷ 6 ∷ 1 ∷ 0 ∷ 1 ∷ 0 ∷ 0 ∷ 0 ∷ 26 ∷ 0 ∷ 0 ∷ 0 ∷ 0 ∷ 0 ∷ 0 ∷ 0 ∷ 0 ∷ 0 ∷ 0 ∷ 0 ∷ 0 ∷ 0 ∷ 2 ∷ 32 ∷ 0 ∷ 0 ∷ 3 ∷ 32 ∷ 1 ∷ 0 ∷ 4 ∷ 32 ∷ 0 ∷ 0 ∷ 5 ∷ 32 ∷ 1 ∷ 0 ∷ []

begins_by_chunks : body_sent (answered small (connected small (version ∷ [])) small_capabilities) ≡ Some (2, 5 ∷ first_piece)
unfolding asks hears command_fault body_fault carried_by clear_led chosen session_of terms_of field_at number_at optional_at tables_at behind_tables behind_table request_body response_body get_capabilities_layout negotiate_algorithms_layout version_layout capabilities_layout algorithms_layout chunk_send_ack_layout chunk_response_layout error_layout
begins_by_chunks = refl

goes_on_by_chunks : body_sent (answered small (connected small (small_capabilities ∷ version ∷ [])) first_ack) ≡ Some (3, 5 ∷ last_piece)
unfolding asks hears command_fault body_fault carried_by clear_led chosen session_of terms_of field_at number_at optional_at tables_at behind_tables behind_table request_body response_body get_capabilities_layout negotiate_algorithms_layout version_layout capabilities_layout algorithms_layout chunk_send_ack_layout chunk_response_layout error_layout
goes_on_by_chunks = refl

asks_for_the_first : body_sent (answered small (connected small (first_ack ∷ small_capabilities ∷ version ∷ [])) last_ack) ≡ Some (4, 5 ∷ 18 ∷ 134 ∷ 0 ∷ 0 ∷ 0 ∷ 0 ∷ [])
unfolding asks hears command_fault body_fault carried_by clear_led chosen session_of terms_of field_at number_at optional_at tables_at behind_tables behind_table request_body response_body get_capabilities_layout negotiate_algorithms_layout version_layout capabilities_layout algorithms_layout chunk_send_ack_layout chunk_response_layout error_layout
asks_for_the_first = refl

asks_for_the_last : body_sent (answered small (connected small (last_ack ∷ first_ack ∷ small_capabilities ∷ version ∷ [])) first_chunk) ≡ Some (5, 5 ∷ 18 ∷ 134 ∷ 0 ∷ 0 ∷ 1 ∷ 0 ∷ [])
unfolding asks hears command_fault body_fault carried_by clear_led chosen session_of terms_of field_at number_at optional_at tables_at behind_tables behind_table request_body response_body get_capabilities_layout negotiate_algorithms_layout version_layout capabilities_layout algorithms_layout chunk_send_ack_layout chunk_response_layout error_layout
asks_for_the_last = refl

negotiation_by_chunks : event_of (answered small (connected small (first_chunk ∷ last_ack ∷ first_ack ∷ small_capabilities ∷ version ∷ [])) last_chunk) ≡ Some (event.Done finished.Connected)
unfolding asks hears command_fault body_fault carried_by clear_led chosen session_of terms_of field_at number_at optional_at tables_at behind_tables behind_table request_body response_body get_capabilities_layout negotiate_algorithms_layout version_layout capabilities_layout algorithms_layout chunk_send_ack_layout chunk_response_layout error_layout
negotiation_by_chunks = refl

whole_in_the_vca : vca_of (negotiation_of (connected small (last_chunk ∷ first_chunk ∷ last_ack ∷ first_ack ∷ small_capabilities ∷ version ∷ []))) ≡ get_version ++ version ++ small_get_capabilities ++ small_capabilities ++ offer ++ algorithms
unfolding asks hears command_fault body_fault carried_by clear_led chosen session_of terms_of field_at number_at optional_at tables_at behind_tables behind_table request_body response_body get_capabilities_layout negotiate_algorithms_layout version_layout capabilities_layout algorithms_layout chunk_send_ack_layout chunk_response_layout error_layout
whole_in_the_vca = refl
