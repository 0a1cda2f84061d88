-- What the first connect of the world leads to, by computation.
use Rattle.std.proofs.Common.{◌≡◌, List, [], ◌∷◌, refl, Some, None, arith}
use Rattle.std.specs.Prelude.{unwrap_or}
use Rattle.spdm_grammar.specs.Reading.{field_at, number_at, optional_at, behind_table, behind_tables, tables_at}
use Rattle.spdm_grammar.specs.Requests.{get_version_layout, get_capabilities_layout, negotiate_algorithms_layout, get_measurements_layout, psk_exchange_layout, psk_finish_layout, heartbeat_layout, key_update_layout, end_session_layout, chunk_send_layout, chunk_get_layout, request_body}
use Rattle.spdm_grammar.specs.Responses.{version_layout, capabilities_layout, algorithms_layout, measurements_layout, psk_exchange_rsp_layout, psk_finish_rsp_layout, heartbeat_ack_layout, key_update_ack_layout, end_session_ack_layout, chunk_send_ack_layout, chunk_response_layout, error_layout, response_body}
use Rattle.spdm_machine.specs.Terms.{terms_of}
use Rattle.spdm_machine.specs.Packets.{gathered_from}
use Rattle.requester_machine.specs.InnerMessages.{inner_led}
use Rattle.requester_machine.specs.Hearing.{on_record as here_record, hears}
use Rattle.requester_machine.specs.Asking.{asks}
use Rattle.requester_machine.specs.Session.{session_of}
use Rattle.requester_machine.specs.Does.{chosen}
use Rattle.requester_machine.specs.Requesting.{next_draw, requester_told, requester_given}
use Rattle.requester_machine.specs.Commands.{command_fault}
use Rattle.requester_machine.specs.ClearAnswers.{carried_by, clear_led}
use Rattle.requester_machine.specs.Bodies.{body_fault}
use Rattle.responder_machine.specs.Session.{session_of as there_session_of}
use Rattle.responder_machine.specs.Does.{chosen as there_chosen}
use Rattle.responder_machine.specs.Answer.{answer_bytes}
use Rattle.responder_machine.specs.Handling.{turn_of}
use Rattle.responder_machine.specs.Refusal.{refused_form, refused_contents, refusal}
use Rattle.responder_machine.specs.Responder.{on_clear, session_turn, in_session, on_record}
use Rattle.responder_machine.specs.Responding.{next_draw as there_next_draw, responder_hears}
use Rattle.world_machine.specs.World.{pumps, happens}
use Rattle.sha2.specs.Sha256.{sha256, digest_bytes, hash_after, compress, rounds, schedule, first_words}
use Rattle.hmac_hkdf.specs.Hmac.{hmac}
use Rattle.example_world.specs.Example.{part, requester, setup}
use Rattle.requester_machine.specs.Message.Command.{Connect, Open}
use Rattle.requester_machine.specs.Requesting.{Requesting, new_requesting}
use Rattle.responder_machine.specs.Place.{held_of}
use Rattle.responder_machine.specs.Responding.{Connection, connection_of, new_connection}
use Rattle.spdm_progress.specs.Opening.{CanOpen, exchange_rsp_size, terms_now}
use Rattle.spdm_progress.specs.SessionCommands.{most_packets}
use Rattle.world_machine.specs.Happenings.{Entry}
use Rattle.world_machine.specs.Happenings.Happening.{Pump, Told}
use Rattle.world_machine.specs.Setup.{first_draw, known_of, requester_seed}
use Rattle.world_machine.specs.Trace.{world_after}
use Rattle.world_machine.specs.World.{World, requester_of}
use Rattle.std.specs.Prelude.{replicate}

-- The connect and its pump.
abbrev pub connect : List Entry
connect = record { line = 5; happening = Told 1 Connect } ∷ record { line = 6; happening = Pump most_packets } ∷ []

abbrev pub connected : World
connected = world_after setup connect

abbrev pub asker : Requesting
asker = new_requesting (record { setup = requester; seed = requester_seed (replicate 32 0) 1; first = first_draw 0 })

abbrev pub server : Connection
server = new_connection part (known_of requester)

abbrev pub one : Requesting
one = unwrap_or (requester_of 1 connected) asker

abbrev pub other : Connection
other = unwrap_or (connection_of 9 connected.responder.connections) server

pub is_requester : requester_of 1 connected ≡ Some one
unfolding field_at number_at optional_at behind_table behind_tables tables_at get_version_layout get_capabilities_layout negotiate_algorithms_layout get_measurements_layout psk_exchange_layout psk_finish_layout heartbeat_layout key_update_layout end_session_layout chunk_send_layout chunk_get_layout request_body version_layout capabilities_layout algorithms_layout measurements_layout psk_exchange_rsp_layout psk_finish_rsp_layout heartbeat_ack_layout key_update_ack_layout end_session_ack_layout chunk_send_ack_layout chunk_response_layout error_layout response_body terms_of gathered_from inner_led here_record hears asks session_of chosen next_draw requester_told requester_given command_fault carried_by clear_led body_fault there_session_of there_chosen answer_bytes turn_of refused_form refused_contents refusal on_clear session_turn in_session on_record there_next_draw responder_hears pumps happens hmac sha256 digest_bytes hash_after compress rounds schedule first_words
is_requester = refl

pub is_connection : connection_of 9 connected.responder.connections ≡ Some other
unfolding field_at number_at optional_at behind_table behind_tables tables_at get_version_layout get_capabilities_layout negotiate_algorithms_layout get_measurements_layout psk_exchange_layout psk_finish_layout heartbeat_layout key_update_layout end_session_layout chunk_send_layout chunk_get_layout request_body version_layout capabilities_layout algorithms_layout measurements_layout psk_exchange_rsp_layout psk_finish_rsp_layout heartbeat_ack_layout key_update_ack_layout end_session_ack_layout chunk_send_ack_layout chunk_response_layout error_layout response_body terms_of gathered_from inner_led here_record hears asks session_of chosen next_draw requester_told requester_given command_fault carried_by clear_led body_fault there_session_of there_chosen answer_bytes turn_of refused_form refused_contents refusal on_clear session_turn in_session on_record there_next_draw responder_hears pumps happens hmac sha256 digest_bytes hash_after compress rounds schedule first_words
is_connection = refl

pub same_setup : one.setup ≡ requester
unfolding field_at number_at optional_at behind_table behind_tables tables_at get_version_layout get_capabilities_layout negotiate_algorithms_layout get_measurements_layout psk_exchange_layout psk_finish_layout heartbeat_layout key_update_layout end_session_layout chunk_send_layout chunk_get_layout request_body version_layout capabilities_layout algorithms_layout measurements_layout psk_exchange_rsp_layout psk_finish_rsp_layout heartbeat_ack_layout key_update_ack_layout end_session_ack_layout chunk_send_ack_layout chunk_response_layout error_layout response_body terms_of gathered_from inner_led here_record hears asks session_of chosen next_draw requester_told requester_given command_fault carried_by clear_led body_fault there_session_of there_chosen answer_bytes turn_of refused_form refused_contents refusal on_clear session_turn in_session on_record there_next_draw responder_hears pumps happens hmac sha256 digest_bytes hash_after compress rounds schedule first_words
same_setup = refl

pub accepted : (requester_told one (Open 0)).fault ≡ None
unfolding field_at number_at optional_at behind_table behind_tables tables_at get_version_layout get_capabilities_layout negotiate_algorithms_layout get_measurements_layout psk_exchange_layout psk_finish_layout heartbeat_layout key_update_layout end_session_layout chunk_send_layout chunk_get_layout request_body version_layout capabilities_layout algorithms_layout measurements_layout psk_exchange_rsp_layout psk_finish_rsp_layout heartbeat_ack_layout key_update_ack_layout end_session_ack_layout chunk_send_ack_layout chunk_response_layout error_layout response_body terms_of gathered_from inner_led here_record hears asks session_of chosen next_draw requester_told requester_given command_fault carried_by clear_led body_fault there_session_of there_chosen answer_bytes turn_of refused_form refused_contents refusal on_clear session_turn in_session on_record there_next_draw responder_hears pumps happens hmac sha256 digest_bytes hash_after compress rounds schedule first_words
accepted = refl

none_held : held_of other.history ≡ 0
unfolding field_at number_at optional_at behind_table behind_tables tables_at get_version_layout get_capabilities_layout negotiate_algorithms_layout get_measurements_layout psk_exchange_layout psk_finish_layout heartbeat_layout key_update_layout end_session_layout chunk_send_layout chunk_get_layout request_body version_layout capabilities_layout algorithms_layout measurements_layout psk_exchange_rsp_layout psk_finish_rsp_layout heartbeat_ack_layout key_update_ack_layout end_session_ack_layout chunk_send_ack_layout chunk_response_layout error_layout response_body terms_of gathered_from inner_led here_record hears asks session_of chosen next_draw requester_told requester_given command_fault carried_by clear_led body_fault there_session_of there_chosen answer_bytes turn_of refused_form refused_contents refusal on_clear session_turn in_session on_record there_next_draw responder_hears pumps happens hmac sha256 digest_bytes hash_after compress rounds schedule first_words
none_held = refl

answer_size : exchange_rsp_size other.setup (terms_now one) 0 ≡ 76
unfolding field_at number_at optional_at behind_table behind_tables tables_at get_version_layout get_capabilities_layout negotiate_algorithms_layout get_measurements_layout psk_exchange_layout psk_finish_layout heartbeat_layout key_update_layout end_session_layout chunk_send_layout chunk_get_layout request_body version_layout capabilities_layout algorithms_layout measurements_layout psk_exchange_rsp_layout psk_finish_rsp_layout heartbeat_ack_layout key_update_ack_layout end_session_ack_layout chunk_send_ack_layout chunk_response_layout error_layout response_body terms_of gathered_from inner_led here_record hears asks session_of chosen next_draw requester_told requester_given command_fault carried_by clear_led body_fault there_session_of there_chosen answer_bytes turn_of refused_form refused_contents refusal on_clear session_turn in_session on_record there_next_draw responder_hears pumps happens hmac sha256 digest_bytes hash_after compress rounds schedule first_words
answer_size = refl

most : (terms_now one).common.to_requester.max ≡ 2048
unfolding field_at number_at optional_at behind_table behind_tables tables_at get_version_layout get_capabilities_layout negotiate_algorithms_layout get_measurements_layout psk_exchange_layout psk_finish_layout heartbeat_layout key_update_layout end_session_layout chunk_send_layout chunk_get_layout request_body version_layout capabilities_layout algorithms_layout measurements_layout psk_exchange_rsp_layout psk_finish_rsp_layout heartbeat_ack_layout key_update_ack_layout end_session_ack_layout chunk_send_ack_layout chunk_response_layout error_layout response_body terms_of gathered_from inner_led here_record hears asks session_of chosen next_draw requester_told requester_given command_fault carried_by clear_led body_fault there_session_of there_chosen answer_bytes turn_of refused_form refused_contents refusal on_clear session_turn in_session on_record there_next_draw responder_hears pumps happens hmac sha256 digest_bytes hash_after compress rounds schedule first_words
most = refl

transfer : (terms_now one).common.to_requester.transfer ≡ 512
unfolding field_at number_at optional_at behind_table behind_tables tables_at get_version_layout get_capabilities_layout negotiate_algorithms_layout get_measurements_layout psk_exchange_layout psk_finish_layout heartbeat_layout key_update_layout end_session_layout chunk_send_layout chunk_get_layout request_body version_layout capabilities_layout algorithms_layout measurements_layout psk_exchange_rsp_layout psk_finish_rsp_layout heartbeat_ack_layout key_update_ack_layout end_session_ack_layout chunk_send_ack_layout chunk_response_layout error_layout response_body terms_of gathered_from inner_led here_record hears asks session_of chosen next_draw requester_told requester_given command_fault carried_by clear_led body_fault there_session_of there_chosen answer_bytes turn_of refused_form refused_contents refusal on_clear session_turn in_session on_record there_next_draw responder_hears pumps happens hmac sha256 digest_bytes hash_after compress rounds schedule first_words
transfer = refl

pub can_open : CanOpen one other 0
can_open = record { answer_goes = (omega (arith, answer_size, most), λ none. omega (arith, answer_size, transfer)); limit = λ four. absurd (omega (arith, four, none_held)) }
