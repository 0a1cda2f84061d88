-- What each packet leads to at the end that it is given to.
use Rattle.std.proofs.Common.{◌≡◌, ◌∙◌, ◌++◌, ℕ, List, [], ◌∷◌, refl, ap, ap₂, true, Option, Some, None}
use Rattle.spdm_grammar.specs.Reading.{field_at, number_at, optional_at, behind_table, behind_tables, tables_at}
use Rattle.spdm_grammar.specs.Requests.{get_version_layout, get_capabilities_layout, negotiate_algorithms_layout, get_measurements_layout, psk_exchange_layout, psk_finish_layout, heartbeat_layout, key_update_layout, end_session_layout, chunk_send_layout, chunk_get_layout, request_body}
use Rattle.spdm_grammar.specs.Responses.{version_layout, capabilities_layout, algorithms_layout, measurements_layout, psk_exchange_rsp_layout, psk_finish_rsp_layout, heartbeat_ack_layout, key_update_ack_layout, end_session_ack_layout, chunk_send_ack_layout, chunk_response_layout, error_layout, response_body}
use Rattle.spdm_machine.specs.Terms.{terms_of}
use Rattle.spdm_machine.specs.Packets.{gathered_from}
use Rattle.requester_machine.specs.InnerMessages.{inner_led}
use Rattle.requester_machine.specs.Hearing.{on_record as here_record, hears}
use Rattle.requester_machine.specs.Asking.{asks}
use Rattle.requester_machine.specs.Session.{session_of}
use Rattle.requester_machine.specs.Does.{chosen}
use Rattle.requester_machine.specs.Requesting.{next_draw, requester_told, requester_given}
use Rattle.requester_machine.specs.Commands.{command_fault}
use Rattle.requester_machine.specs.ClearAnswers.{carried_by, clear_led}
use Rattle.requester_machine.specs.Bodies.{body_fault}
use Rattle.responder_machine.specs.Session.{session_of as there_session_of}
use Rattle.responder_machine.specs.Does.{chosen as there_chosen}
use Rattle.responder_machine.specs.Answer.{answer_bytes}
use Rattle.responder_machine.specs.Handling.{turn_of}
use Rattle.responder_machine.specs.Refusal.{refused_form, refused_contents, refusal}
use Rattle.responder_machine.specs.Responder.{on_clear, session_turn, in_session, on_record}
use Rattle.responder_machine.specs.Responding.{next_draw as there_next_draw, responder_hears}
use Rattle.world_machine.specs.World.{pumps, happens}
use Rattle.requester_machine.specs.Records.{answer_fault, answer_inner, sealed_next}
use Rattle.responder_machine.specs.Records.{opened, opening_fault, reply_record}
use Rattle.spdm_machine.specs.Keys.{Draw, verify_data}
use Rattle.hmac_hkdf.specs.Hkdf.{block_of, blocks_of, expand}
use Rattle.hmac_hkdf.specs.Hmac.{hmac}
use Rattle.key_schedule.specs.Schedule.{secret_at}
use Rattle.sha2.specs.Sha256.{sha256, digest_bytes, hash_after, compress, rounds, schedule, first_words}
use Rattle.example_world.proofs.Bytes.{covered, exchange_bytes, first_inner, first_record, first_tag, packet_10, packet_11, packet_7, packet_12, packet_13, packet_8, packet_9, request_verify, response_bytes, response_verify, second_inner, second_record, second_tag, third_inner, third_record, third_tag, fourth_inner, fourth_record, fourth_tag, transcript}
use Rattle.example_world.proofs.Connected.{connected, one, other}
use Rattle.example_world.proofs.Keys.{choice, data_request, data_response, fits_first, fits_fourth, fits_second, fits_third, opens_first, opens_fourth, opens_second, opens_third, psk, request, response, seals_first, seals_fourth, seals_second, seals_third, tags_first, tags_fourth, tags_second, tags_third}
use Rattle.example_world.specs.Example.{requester}
use Rattle.key_schedule.specs.Purpose.{verify}
use Rattle.key_schedule.specs.declared.direction.Direction.TheVariants as direction
use Rattle.mctp_framing.specs.Cutting.{RouteFields}
use Rattle.requester_machine.specs.Answers.{goes_on}
use Rattle.requester_machine.specs.Commands.{Free as FreeHere}
use Rattle.requester_machine.specs.Does.{body_chosen}
use Rattle.requester_machine.specs.Hearing.{record_outcome}
use Rattle.requester_machine.specs.History.Effect.{Answers, Grants}
use Rattle.requester_machine.specs.History.Entry.{Told, TookClear}
use Rattle.requester_machine.specs.InnerMessages.{Came}
use Rattle.requester_machine.specs.Message.{Sent}
use Rattle.requester_machine.specs.Message.Aim.{InSession, Plain}
use Rattle.requester_machine.specs.Message.Ask.{AskData, AskFinish}
use Rattle.requester_machine.specs.Message.Command.{Open, Send}
use Rattle.requester_machine.specs.Message.Content.{Clear as InClear, Sealed as InRecord}
use Rattle.requester_machine.specs.Requesting.{CommandStep, PacketStep, Requesting, heard_by, ignores, packets_of_sent}
use Rattle.requester_machine.specs.Session.{Steps}
use Rattle.requester_machine.specs.Session.Step.{Accepted, Asked, Started, Took as TookStep}
use Rattle.responder_machine.specs.Answer.{Free}
use Rattle.responder_machine.specs.Does.{record_chosen}
use Rattle.responder_machine.specs.History.{Entry}
use Rattle.responder_machine.specs.History.Entry.{Clear, Sealed}
use Rattle.responder_machine.specs.Responder.{Outcome, in_session_by, sealed_entry}
use Rattle.responder_machine.specs.Responder.Outcome.{Adds}
use Rattle.responder_machine.specs.ResponderLog.{inner_acts}
use Rattle.responder_machine.specs.Responding.{Connection, Responding, RspStep, answers}
use Rattle.responder_machine.specs.Session.{Events}
use Rattle.responder_machine.specs.Session.Event.{Began, Heard}
use Rattle.responder_machine.specs.Turn.{Turn}
use Rattle.responder_machine.specs.Turn.Effect.{Took, TookData}
use Rattle.secured_record.specs.Faults.{header_fault}
use Rattle.spdm_basis.specs.declared.causes.record_fault.RecordFault.{RecordFault}
use Rattle.spdm_grammar.specs.Message.{ExchangeMessage}
use Rattle.spdm_grammar.specs.Message.RequestMessage.{PskExchange, PskFinish}
use Rattle.spdm_grammar.specs.declared.told.event.Event.TheVariants as event
use Rattle.spdm_grammar.specs.declared.told.heard.Heard.TheVariants as heard
use Rattle.spdm_grammar.specs.declared.told.phase.Phase.TheVariants.{Negotiated}
use Rattle.spdm_machine.specs.Bodies.{record_body}
use Rattle.spdm_machine.specs.TagLog.{Act, record_input, record_tag}
use Rattle.spdm_machine.specs.TagLog.Act.{Checked, Made}
use Rattle.transcript.specs.Transcripts.{Negotiation}

-- ---- The command.

abbrev exchange : ExchangeMessage
exchange = record { summary = 0; req_id = 1; hint = 1 ∷ []; context = 100 ∷ 235 ∷ 55 ∷ 243 ∷ 72 ∷ 110 ∷ 86 ∷ 160 ∷ 236 ∷ 115 ∷ 69 ∷ 43 ∷ 200 ∷ 195 ∷ 37 ∷ 125 ∷ 180 ∷ 238 ∷ 14 ∷ 81 ∷ 173 ∷ 211 ∷ 31 ∷ 246 ∷ 0 ∷ 0 ∷ 0 ∷ 0 ∷ 0 ∷ 0 ∷ 0 ∷ 0 ∷ []; opaque = [] }

abbrev first_draw : Draw
first_draw = record { number = 0; bytes = 100 ∷ 235 ∷ 55 ∷ 243 ∷ 72 ∷ 110 ∷ 86 ∷ 160 ∷ 236 ∷ 115 ∷ 69 ∷ 43 ∷ 200 ∷ 195 ∷ 37 ∷ 125 ∷ 180 ∷ 238 ∷ 14 ∷ 81 ∷ 173 ∷ 211 ∷ 31 ∷ 246 ∷ 228 ∷ 153 ∷ 65 ∷ 179 ∷ 58 ∷ 27 ∷ 62 ∷ 212 ∷ [] }

abbrev asked_exchange : Sent
asked_exchange = record { tag = 3; content = InClear exchange_bytes; aim = Plain (PskExchange exchange) }

abbrev pub asking : Requesting
asking = record one { commands = 2; history = Told (Open 0) asked_exchange first_draw ∷ one.history }

abbrev pub told_open : CommandStep
told_open = record { fault = None; sent = packet_7 ∷ []; acts = []; after = asking }

pub told : requester_told one (Open 0) ≡ told_open
unfolding field_at number_at optional_at behind_table behind_tables tables_at get_version_layout get_capabilities_layout negotiate_algorithms_layout get_measurements_layout psk_exchange_layout psk_finish_layout heartbeat_layout key_update_layout end_session_layout chunk_send_layout chunk_get_layout request_body version_layout capabilities_layout algorithms_layout measurements_layout psk_exchange_rsp_layout psk_finish_rsp_layout heartbeat_ack_layout key_update_ack_layout end_session_ack_layout chunk_send_ack_layout chunk_response_layout error_layout response_body terms_of gathered_from inner_led here_record hears asks session_of chosen next_draw requester_told requester_given command_fault carried_by clear_led body_fault there_session_of there_chosen answer_bytes turn_of refused_form refused_contents refusal on_clear session_turn in_session on_record there_next_draw responder_hears pumps happens verify_data expand blocks_of block_of secret_at hmac sha256 digest_bytes hash_after compress rounds schedule first_words
told = refl

-- ---- PSK_EXCHANGE comes to the responder.

abbrev pub beginning : Responding
beginning = connected.responder

abbrev own_draw : Draw
own_draw = record { number = 0; bytes = 34 ∷ 230 ∷ 60 ∷ 56 ∷ 254 ∷ 212 ∷ 171 ∷ 26 ∷ 249 ∷ 187 ∷ 187 ∷ 139 ∷ 237 ∷ 128 ∷ 105 ∷ 97 ∷ 240 ∷ 95 ∷ 11 ∷ 149 ∷ 87 ∷ 101 ∷ 253 ∷ 153 ∷ 84 ∷ 126 ∷ 43 ∷ 178 ∷ 155 ∷ 223 ∷ 47 ∷ 250 ∷ [] }

abbrev exchange_turn : Turn
exchange_turn = record { message = exchange_bytes; refused = None; chunk = None; effect = Took (PskExchange exchange) exchange_bytes response_bytes None; reply = response_bytes }

abbrev began : Connection
began = record other { history = Clear 3 exchange_turn own_draw ∷ other.history }

abbrev pub answering : Responding
answering = record beginning { given = packet_7 ∷ beginning.given; connections = began ∷ [] }

abbrev pub answered_exchange : RspStep
answered_exchange = record {
  heard = heard.Answered 230;
  sent = packet_8 ∷ packet_9 ∷ [];
  taken = None;
  acts = Made (verify psk transcript direction.Response) transcript response_verify ∷ [];
  after = answering;
}

pub heard_exchange : responder_hears beginning packet_7 ≡ answered_exchange
unfolding field_at number_at optional_at behind_table behind_tables tables_at get_version_layout get_capabilities_layout negotiate_algorithms_layout get_measurements_layout psk_exchange_layout psk_finish_layout heartbeat_layout key_update_layout end_session_layout chunk_send_layout chunk_get_layout request_body version_layout capabilities_layout algorithms_layout measurements_layout psk_exchange_rsp_layout psk_finish_rsp_layout heartbeat_ack_layout key_update_ack_layout end_session_ack_layout chunk_send_ack_layout chunk_response_layout error_layout response_body terms_of gathered_from inner_led here_record hears asks session_of chosen next_draw requester_told requester_given command_fault carried_by clear_led body_fault there_session_of there_chosen answer_bytes turn_of refused_form refused_contents refusal on_clear session_turn in_session on_record there_next_draw responder_hears pumps happens verify_data expand blocks_of block_of secret_at hmac sha256 digest_bytes hash_after compress rounds schedule first_words
heard_exchange = refl

-- ---- PSK_EXCHANGE_RSP comes to the requester, in two packets.

abbrev pub awaiting : Requesting
awaiting = record asking { given = packet_8 ∷ asking.given }

pub given_part : requester_given asking packet_8 ≡ ignores asking packet_8 event.More
unfolding field_at number_at optional_at behind_table behind_tables tables_at get_version_layout get_capabilities_layout negotiate_algorithms_layout get_measurements_layout psk_exchange_layout psk_finish_layout heartbeat_layout key_update_layout end_session_layout chunk_send_layout chunk_get_layout request_body version_layout capabilities_layout algorithms_layout measurements_layout psk_exchange_rsp_layout psk_finish_rsp_layout heartbeat_ack_layout key_update_ack_layout end_session_ack_layout chunk_send_ack_layout chunk_response_layout error_layout response_body terms_of gathered_from inner_led here_record hears asks session_of chosen next_draw requester_told requester_given command_fault carried_by clear_led body_fault there_session_of there_chosen answer_bytes turn_of refused_form refused_contents refusal on_clear session_turn in_session on_record there_next_draw responder_hears pumps happens
given_part = refl

abbrev negotiation : Negotiation
negotiation = record {
  get_version = 16 ∷ 132 ∷ 0 ∷ 0 ∷ [];
  version = 16 ∷ 4 ∷ 0 ∷ 0 ∷ 0 ∷ 1 ∷ 0 ∷ 18 ∷ [];
  get_capabilities = 18 ∷ 225 ∷ 0 ∷ 0 ∷ 0 ∷ 0 ∷ 0 ∷ 0 ∷ 192 ∷ 100 ∷ 2 ∷ 0 ∷ 0 ∷ 2 ∷ 0 ∷ 0 ∷ 0 ∷ 8 ∷ 0 ∷ 0 ∷ [];
  capabilities = 18 ∷ 97 ∷ 0 ∷ 0 ∷ 0 ∷ 0 ∷ 0 ∷ 0 ∷ 192 ∷ 104 ∷ 2 ∷ 0 ∷ 0 ∷ 2 ∷ 0 ∷ 0 ∷ 0 ∷ 8 ∷ 0 ∷ 0 ∷ [];
  negotiate_algorithms = 18 ∷ 227 ∷ 4 ∷ 0 ∷ 48 ∷ 0 ∷ 1 ∷ 2 ∷ 0 ∷ 0 ∷ 0 ∷ 0 ∷ 1 ∷ 0 ∷ 0 ∷ 0 ∷ 0 ∷ 0 ∷ 0 ∷ 0 ∷ 0 ∷ 0 ∷ 0 ∷ 0 ∷ 0 ∷ 0 ∷ 0 ∷ 0 ∷ 0 ∷ 0 ∷ 0 ∷ 0 ∷ 2 ∷ 32 ∷ 0 ∷ 0 ∷ 3 ∷ 32 ∷ 1 ∷ 0 ∷ 4 ∷ 32 ∷ 0 ∷ 0 ∷ 5 ∷ 32 ∷ 1 ∷ 0 ∷ [];
  algorithms = 18 ∷ 99 ∷ 4 ∷ 0 ∷ 52 ∷ 0 ∷ 0 ∷ 2 ∷ 0 ∷ 0 ∷ 0 ∷ 0 ∷ 0 ∷ 0 ∷ 0 ∷ 0 ∷ 1 ∷ 0 ∷ 0 ∷ 0 ∷ 0 ∷ 0 ∷ 0 ∷ 0 ∷ 0 ∷ 0 ∷ 0 ∷ 0 ∷ 0 ∷ 0 ∷ 0 ∷ 0 ∷ 0 ∷ 0 ∷ 0 ∷ 0 ∷ 2 ∷ 32 ∷ 0 ∷ 0 ∷ 3 ∷ 32 ∷ 1 ∷ 0 ∷ 4 ∷ 32 ∷ 0 ∷ 0 ∷ 5 ∷ 32 ∷ 1 ∷ 0 ∷ [];
}

abbrev accepted : Steps
accepted = Accepted response_bytes ∷ Started negotiation exchange_bytes ∷ []

abbrev second_draw : Draw
second_draw = record { number = 1; bytes = 205 ∷ 198 ∷ 176 ∷ 176 ∷ 111 ∷ 84 ∷ 69 ∷ 62 ∷ 82 ∷ 188 ∷ 241 ∷ 103 ∷ 60 ∷ 105 ∷ 100 ∷ 55 ∷ 28 ∷ 100 ∷ 35 ∷ 250 ∷ 7 ∷ 66 ∷ 5 ∷ 249 ∷ 195 ∷ 174 ∷ 159 ∷ 254 ∷ 221 ∷ 132 ∷ 191 ∷ 32 ∷ [] }

abbrev finish_with : List ℕ → Sent
finish_with sealed = record { tag = 4; content = InRecord sealed first_inner []; aim = InSession 1 AskFinish }

abbrev finishing_with : List ℕ → Requesting
finishing_with sealed = record awaiting {
  given = packet_9 ∷ awaiting.given;
  history = TookClear 3 response_bytes (goes_on (Answers (PskExchange exchange) response_bytes) (finish_with sealed)) second_draw ∷ awaiting.history;
}

abbrev pub finishing : Requesting
finishing = finishing_with first_record

-- What comes of it with a record and its tag.
abbrev took_answer_with : List ℕ → List ℕ → PacketStep
took_answer_with sealed tag = record {
  event = event.Progress;
  sent = packets_of_sent requester (Some (finish_with sealed));
  taken = None;
  measured = None;
  acts = Made request (record_input 0 sealed) tag
      ∷ Made (verify psk transcript direction.Request) covered request_verify
      ∷ Checked (verify psk transcript direction.Response) transcript response_verify response_verify ∷ [];
  after = finishing_with sealed;
}

abbrev pub took_answer : PacketStep
took_answer = record {
  event = event.Progress;
  sent = packet_10 ∷ [];
  taken = None;
  measured = None;
  acts = Made request (record_input 0 first_record) first_tag
      ∷ Made (verify psk transcript direction.Request) covered request_verify
      ∷ Checked (verify psk transcript direction.Response) transcript response_verify response_verify ∷ [];
  after = finishing;
}

given_by : requester_given awaiting packet_9 ≡ took_answer_with (sealed_next psk accepted first_inner []) (record_tag choice request 0 (sealed_next psk accepted first_inner []))
unfolding field_at number_at optional_at behind_table behind_tables tables_at get_version_layout get_capabilities_layout negotiate_algorithms_layout get_measurements_layout psk_exchange_layout psk_finish_layout heartbeat_layout key_update_layout end_session_layout chunk_send_layout chunk_get_layout request_body version_layout capabilities_layout algorithms_layout measurements_layout psk_exchange_rsp_layout psk_finish_rsp_layout heartbeat_ack_layout key_update_ack_layout end_session_ack_layout chunk_send_ack_layout chunk_response_layout error_layout response_body terms_of gathered_from inner_led here_record hears asks session_of chosen next_draw requester_told requester_given command_fault carried_by clear_led body_fault there_session_of there_chosen answer_bytes turn_of refused_form refused_contents refusal on_clear session_turn in_session on_record there_next_draw responder_hears pumps happens verify_data expand blocks_of block_of secret_at hmac sha256 digest_bytes hash_after compress rounds schedule first_words
given_by = refl

sealed_finish : sealed_next psk accepted first_inner [] ≡ first_record
unfolding sealed_next field_at number_at optional_at behind_table behind_tables tables_at get_version_layout get_capabilities_layout negotiate_algorithms_layout get_measurements_layout psk_exchange_layout psk_finish_layout heartbeat_layout key_update_layout end_session_layout chunk_send_layout chunk_get_layout request_body version_layout capabilities_layout algorithms_layout measurements_layout psk_exchange_rsp_layout psk_finish_rsp_layout heartbeat_ack_layout key_update_ack_layout end_session_ack_layout chunk_send_ack_layout chunk_response_layout error_layout response_body terms_of gathered_from inner_led here_record hears asks session_of chosen next_draw requester_told requester_given command_fault carried_by clear_led body_fault there_session_of there_chosen answer_bytes turn_of refused_form refused_contents refusal on_clear session_turn in_session on_record there_next_draw responder_hears pumps happens verify_data expand blocks_of block_of secret_at hmac sha256 digest_bytes hash_after compress rounds schedule first_words
sealed_finish = seals_first

given_whole : took_answer_with first_record first_tag ≡ took_answer
unfolding field_at number_at optional_at behind_table behind_tables tables_at get_version_layout get_capabilities_layout negotiate_algorithms_layout get_measurements_layout psk_exchange_layout psk_finish_layout heartbeat_layout key_update_layout end_session_layout chunk_send_layout chunk_get_layout request_body version_layout capabilities_layout algorithms_layout measurements_layout psk_exchange_rsp_layout psk_finish_rsp_layout heartbeat_ack_layout key_update_ack_layout end_session_ack_layout chunk_send_ack_layout chunk_response_layout error_layout response_body terms_of gathered_from inner_led here_record hears asks session_of chosen next_draw requester_told requester_given command_fault carried_by clear_led body_fault there_session_of there_chosen answer_bytes turn_of refused_form refused_contents refusal on_clear session_turn in_session on_record there_next_draw responder_hears pumps happens
given_whole = refl

pub given_answer : requester_given awaiting packet_9 ≡ took_answer
given_answer =
    given_by ∙ ap (λ (x : List ℕ). took_answer_with x (record_tag choice request 0 x)) sealed_finish ∙ ap (took_answer_with first_record) tags_first ∙ given_whole

-- ---- PSK_FINISH comes to the responder.

abbrev opening : Events
opening = Began negotiation exchange_bytes response_bytes ∷ []

abbrev next_own_draw : Draw
next_own_draw = record { number = 1; bytes = 45 ∷ 247 ∷ 26 ∷ 238 ∷ 50 ∷ 57 ∷ 217 ∷ 249 ∷ 55 ∷ 71 ∷ 3 ∷ 150 ∷ 40 ∷ 227 ∷ 2 ∷ 143 ∷ 194 ∷ 26 ∷ 189 ∷ 18 ∷ 119 ∷ 136 ∷ 106 ∷ 105 ∷ 174 ∷ 37 ∷ 70 ∷ 133 ∷ 179 ∷ 213 ∷ 182 ∷ 130 ∷ [] }

abbrev finish_free : Free
finish_free = record_chosen began.setup began.history first_record next_own_draw

abbrev route : RouteFields
route = record { to = 8; from = 9; owner = true; tag = 4 }

abbrev finish_led : Option RecordFault → Outcome
finish_led fault = in_session_by began.setup Negotiated opening finish_free 4 first_record next_own_draw fault

answers_by : responder_hears answering packet_10 ≡ answers answering began packet_10 route (record_body first_record) (finish_led (opening_fault psk opening first_record))
unfolding field_at number_at optional_at behind_table behind_tables tables_at get_version_layout get_capabilities_layout negotiate_algorithms_layout get_measurements_layout psk_exchange_layout psk_finish_layout heartbeat_layout key_update_layout end_session_layout chunk_send_layout chunk_get_layout request_body version_layout capabilities_layout algorithms_layout measurements_layout psk_exchange_rsp_layout psk_finish_rsp_layout heartbeat_ack_layout key_update_ack_layout end_session_ack_layout chunk_send_ack_layout chunk_response_layout error_layout response_body terms_of gathered_from inner_led here_record hears asks session_of chosen next_draw requester_told requester_given command_fault carried_by clear_led body_fault there_session_of there_chosen answer_bytes turn_of refused_form refused_contents refusal on_clear session_turn in_session on_record there_next_draw responder_hears pumps happens hmac sha256 digest_bytes hash_after compress rounds schedule first_words
answers_by = refl

no_fault : opening_fault psk opening first_record ≡ None
unfolding opening_fault field_at number_at optional_at behind_table behind_tables tables_at get_version_layout get_capabilities_layout negotiate_algorithms_layout get_measurements_layout psk_exchange_layout psk_finish_layout heartbeat_layout key_update_layout end_session_layout chunk_send_layout chunk_get_layout request_body version_layout capabilities_layout algorithms_layout measurements_layout psk_exchange_rsp_layout psk_finish_rsp_layout heartbeat_ack_layout key_update_ack_layout end_session_ack_layout chunk_send_ack_layout chunk_response_layout error_layout response_body terms_of gathered_from inner_led here_record hears asks session_of chosen next_draw requester_told requester_given command_fault carried_by clear_led body_fault there_session_of there_chosen answer_bytes turn_of refused_form refused_contents refusal on_clear session_turn in_session on_record there_next_draw responder_hears pumps happens verify_data expand blocks_of block_of secret_at hmac sha256 digest_bytes hash_after compress rounds schedule first_words
no_fault = fits_first

opened_finish : opened psk opening first_record ≡ first_inner
unfolding opened field_at number_at optional_at behind_table behind_tables tables_at get_version_layout get_capabilities_layout negotiate_algorithms_layout get_measurements_layout psk_exchange_layout psk_finish_layout heartbeat_layout key_update_layout end_session_layout chunk_send_layout chunk_get_layout request_body version_layout capabilities_layout algorithms_layout measurements_layout psk_exchange_rsp_layout psk_finish_rsp_layout heartbeat_ack_layout key_update_ack_layout end_session_ack_layout chunk_send_ack_layout chunk_response_layout error_layout response_body terms_of gathered_from inner_led here_record hears asks session_of chosen next_draw requester_told requester_given command_fault carried_by clear_led body_fault there_session_of there_chosen answer_bytes turn_of refused_form refused_contents refusal on_clear session_turn in_session on_record there_next_draw responder_hears pumps happens verify_data expand blocks_of block_of secret_at hmac sha256 digest_bytes hash_after compress rounds schedule first_words
opened_finish = opens_first

abbrev finish_turn : Turn
finish_turn = record {
  message = 18 ∷ 231 ∷ 0 ∷ 0 ∷ 155 ∷ 81 ∷ 34 ∷ 235 ∷ 169 ∷ 147 ∷ 108 ∷ 1 ∷ 251 ∷ 146 ∷ 201 ∷ 167 ∷ 193 ∷ 185 ∷ 0 ∷ 99 ∷ 214 ∷ 113 ∷ 139 ∷ 73 ∷ 113 ∷ 228 ∷ 13 ∷ 196 ∷ 186 ∷ 231 ∷ 229 ∷ 80 ∷ 78 ∷ 78 ∷ 140 ∷ 192 ∷ [];
  refused = None;
  chunk = None;
  effect = Took (PskFinish request_verify) (18 ∷ 231 ∷ 0 ∷ 0 ∷ 155 ∷ 81 ∷ 34 ∷ 235 ∷ 169 ∷ 147 ∷ 108 ∷ 1 ∷ 251 ∷ 146 ∷ 201 ∷ 167 ∷ 193 ∷ 185 ∷ 0 ∷ 99 ∷ 214 ∷ 113 ∷ 139 ∷ 73 ∷ 113 ∷ 228 ∷ 13 ∷ 196 ∷ 186 ∷ 231 ∷ 229 ∷ 80 ∷ 78 ∷ 78 ∷ 140 ∷ 192 ∷ []) (18 ∷ 103 ∷ 0 ∷ 0 ∷ []) None;
  reply = 18 ∷ 103 ∷ 0 ∷ 0 ∷ [];
}

turns : session_turn began.setup opening first_inner finish_free ≡ finish_turn
unfolding field_at number_at optional_at behind_table behind_tables tables_at get_version_layout get_capabilities_layout negotiate_algorithms_layout get_measurements_layout psk_exchange_layout psk_finish_layout heartbeat_layout key_update_layout end_session_layout chunk_send_layout chunk_get_layout request_body version_layout capabilities_layout algorithms_layout measurements_layout psk_exchange_rsp_layout psk_finish_rsp_layout heartbeat_ack_layout key_update_ack_layout end_session_ack_layout chunk_send_ack_layout chunk_response_layout error_layout response_body terms_of gathered_from inner_led here_record hears asks session_of chosen next_draw requester_told requester_given command_fault carried_by clear_led body_fault there_session_of there_chosen answer_bytes turn_of refused_form refused_contents refusal on_clear session_turn in_session on_record there_next_draw responder_hears pumps happens verify_data expand blocks_of block_of secret_at hmac sha256 digest_bytes hash_after compress rounds schedule first_words
turns = refl

replies : reply_record psk opening finish_turn second_inner [] ≡ second_record
unfolding reply_record field_at number_at optional_at behind_table behind_tables tables_at get_version_layout get_capabilities_layout negotiate_algorithms_layout get_measurements_layout psk_exchange_layout psk_finish_layout heartbeat_layout key_update_layout end_session_layout chunk_send_layout chunk_get_layout request_body version_layout capabilities_layout algorithms_layout measurements_layout psk_exchange_rsp_layout psk_finish_rsp_layout heartbeat_ack_layout key_update_ack_layout end_session_ack_layout chunk_send_ack_layout chunk_response_layout error_layout response_body terms_of gathered_from inner_led here_record hears asks session_of chosen next_draw requester_told requester_given command_fault carried_by clear_led body_fault there_session_of there_chosen answer_bytes turn_of refused_form refused_contents refusal on_clear session_turn in_session on_record there_next_draw responder_hears pumps happens verify_data expand blocks_of block_of secret_at hmac sha256 digest_bytes hash_after compress rounds schedule first_words
replies = seals_second

abbrev finish_entry : Entry
finish_entry = Sealed 4 first_record finish_turn second_record next_own_draw

entered : finish_led None ≡ Adds finish_entry
unfolding field_at number_at optional_at behind_table behind_tables tables_at get_version_layout get_capabilities_layout negotiate_algorithms_layout get_measurements_layout psk_exchange_layout psk_finish_layout heartbeat_layout key_update_layout end_session_layout chunk_send_layout chunk_get_layout request_body version_layout capabilities_layout algorithms_layout measurements_layout psk_exchange_rsp_layout psk_finish_rsp_layout heartbeat_ack_layout key_update_ack_layout end_session_ack_layout chunk_send_ack_layout chunk_response_layout error_layout response_body terms_of gathered_from inner_led here_record hears asks session_of chosen next_draw requester_told requester_given command_fault carried_by clear_led body_fault there_session_of there_chosen answer_bytes turn_of refused_form refused_contents refusal on_clear session_turn in_session on_record there_next_draw responder_hears pumps happens
entered =
    ap (λ (x : List ℕ). Adds (sealed_entry began.setup opening finish_free 4 first_record next_own_draw (session_turn began.setup opening x finish_free))) opened_finish
    ∙ ap (λ (t : Turn). Adds (sealed_entry began.setup opening finish_free 4 first_record next_own_draw t)) turns
    ∙ ap (λ (x : List ℕ). Adds (Sealed 4 first_record finish_turn x next_own_draw)) replies

abbrev pub answered_finish : RspStep
answered_finish = answers answering began packet_10 route (record_body first_record) (Adds finish_entry)

pub heard_finish : responder_hears answering packet_10 ≡ answered_finish
heard_finish =
    answers_by ∙ ap (λ (o : Option RecordFault). answers answering began packet_10 route (record_body first_record) (finish_led o)) no_fault
    ∙ ap (answers answering began packet_10 route (record_body first_record)) entered

pub finish_sent : answered_finish.sent ≡ packet_11 ∷ []
unfolding field_at number_at optional_at behind_table behind_tables tables_at get_version_layout get_capabilities_layout negotiate_algorithms_layout get_measurements_layout psk_exchange_layout psk_finish_layout heartbeat_layout key_update_layout end_session_layout chunk_send_layout chunk_get_layout request_body version_layout capabilities_layout algorithms_layout measurements_layout psk_exchange_rsp_layout psk_finish_rsp_layout heartbeat_ack_layout key_update_ack_layout end_session_ack_layout chunk_send_ack_layout chunk_response_layout error_layout response_body terms_of gathered_from inner_led here_record hears asks session_of chosen next_draw requester_told requester_given command_fault carried_by clear_led body_fault there_session_of there_chosen answer_bytes turn_of refused_form refused_contents refusal on_clear session_turn in_session on_record there_next_draw responder_hears pumps happens
finish_sent = refl

abbrev finish_acts_with : (inner one_tag other_tag : List ℕ) → List Act
finish_acts_with inner one_tag other_tag =
    Made response (record_input 0 second_record) other_tag ∷ inner_acts began.setup opening inner ++ Checked request (record_input 0 first_record) one_tag first_tag ∷ []

abbrev pub finish_acts : List Act
finish_acts =
    Made response (record_input 0 second_record) second_tag
    ∷ Checked (verify psk transcript direction.Request) covered request_verify request_verify
    ∷ Checked request (record_input 0 first_record) first_tag first_tag ∷ []

acts_by : answered_finish.acts ≡ finish_acts_with (opened psk opening first_record) (record_tag choice request 0 first_record) (record_tag choice response 0 second_record)
unfolding header_fault field_at number_at optional_at behind_table behind_tables tables_at get_version_layout get_capabilities_layout negotiate_algorithms_layout get_measurements_layout psk_exchange_layout psk_finish_layout heartbeat_layout key_update_layout end_session_layout chunk_send_layout chunk_get_layout request_body version_layout capabilities_layout algorithms_layout measurements_layout psk_exchange_rsp_layout psk_finish_rsp_layout heartbeat_ack_layout key_update_ack_layout end_session_ack_layout chunk_send_ack_layout chunk_response_layout error_layout response_body terms_of gathered_from inner_led here_record hears asks session_of chosen next_draw requester_told requester_given command_fault carried_by clear_led body_fault there_session_of there_chosen answer_bytes turn_of refused_form refused_contents refusal on_clear session_turn in_session on_record there_next_draw responder_hears pumps happens
acts_by = refl

inner_checked : inner_acts began.setup opening first_inner ≡ Checked (verify psk transcript direction.Request) covered request_verify request_verify ∷ []
unfolding field_at number_at optional_at behind_table behind_tables tables_at get_version_layout get_capabilities_layout negotiate_algorithms_layout get_measurements_layout psk_exchange_layout psk_finish_layout heartbeat_layout key_update_layout end_session_layout chunk_send_layout chunk_get_layout request_body version_layout capabilities_layout algorithms_layout measurements_layout psk_exchange_rsp_layout psk_finish_rsp_layout heartbeat_ack_layout key_update_ack_layout end_session_ack_layout chunk_send_ack_layout chunk_response_layout error_layout response_body terms_of gathered_from inner_led here_record hears asks session_of chosen next_draw requester_told requester_given command_fault carried_by clear_led body_fault there_session_of there_chosen answer_bytes turn_of refused_form refused_contents refusal on_clear session_turn in_session on_record there_next_draw responder_hears pumps happens verify_data expand blocks_of block_of secret_at hmac sha256 digest_bytes hash_after compress rounds schedule first_words
inner_checked = refl

pub finish_made : answered_finish.acts ≡ finish_acts
finish_made =
    acts_by ∙ ap (λ (x : List ℕ). finish_acts_with x (record_tag choice request 0 first_record) (record_tag choice response 0 second_record)) opened_finish
    ∙ ap₂ (λ (x y : List ℕ). finish_acts_with first_inner x y) tags_first tags_second
    ∙ ap (λ (x : List Act). Made response (record_input 0 second_record) second_tag ∷ x ++ Checked request (record_input 0 first_record) first_tag first_tag ∷ []) inner_checked

-- ---- PSK_FINISH_RSP comes to the requester.

abbrev asked : Steps
asked = Asked AskFinish first_inner first_record ∷ accepted

abbrev last_free : FreeHere
last_free = body_chosen requester finishing.history second_draw

abbrev came_with : List ℕ → Came
came_with inner = record { id = 1; steps = asked; sealed = second_record; inner = inner }

abbrev last_step : List ℕ → Option RecordFault → PacketStep
last_step inner fault = heard_by finishing packet_11 (record_body second_record) (record_outcome requester finishing.history last_free 4 AskFinish (came_with inner) second_draw fault)

hears_by : requester_given finishing packet_11 ≡ last_step (answer_inner psk asked AskFinish second_record) (answer_fault psk asked AskFinish second_record)
unfolding field_at number_at optional_at behind_table behind_tables tables_at get_version_layout get_capabilities_layout negotiate_algorithms_layout get_measurements_layout psk_exchange_layout psk_finish_layout heartbeat_layout key_update_layout end_session_layout chunk_send_layout chunk_get_layout request_body version_layout capabilities_layout algorithms_layout measurements_layout psk_exchange_rsp_layout psk_finish_rsp_layout heartbeat_ack_layout key_update_ack_layout end_session_ack_layout chunk_send_ack_layout chunk_response_layout error_layout response_body terms_of gathered_from inner_led here_record hears asks session_of chosen next_draw requester_told requester_given command_fault carried_by clear_led body_fault there_session_of there_chosen answer_bytes turn_of refused_form refused_contents refusal on_clear session_turn in_session on_record there_next_draw responder_hears pumps happens hmac sha256 digest_bytes hash_after compress rounds schedule first_words
hears_by = refl

no_answer_fault : answer_fault psk asked AskFinish second_record ≡ None
unfolding answer_fault field_at number_at optional_at behind_table behind_tables tables_at get_version_layout get_capabilities_layout negotiate_algorithms_layout get_measurements_layout psk_exchange_layout psk_finish_layout heartbeat_layout key_update_layout end_session_layout chunk_send_layout chunk_get_layout request_body version_layout capabilities_layout algorithms_layout measurements_layout psk_exchange_rsp_layout psk_finish_rsp_layout heartbeat_ack_layout key_update_ack_layout end_session_ack_layout chunk_send_ack_layout chunk_response_layout error_layout response_body terms_of gathered_from inner_led here_record hears asks session_of chosen next_draw requester_told requester_given command_fault carried_by clear_led body_fault there_session_of there_chosen answer_bytes turn_of refused_form refused_contents refusal on_clear session_turn in_session on_record there_next_draw responder_hears pumps happens verify_data expand blocks_of block_of secret_at hmac sha256 digest_bytes hash_after compress rounds schedule first_words
no_answer_fault = fits_second

opened_answer : answer_inner psk asked AskFinish second_record ≡ second_inner
unfolding answer_inner field_at number_at optional_at behind_table behind_tables tables_at get_version_layout get_capabilities_layout negotiate_algorithms_layout get_measurements_layout psk_exchange_layout psk_finish_layout heartbeat_layout key_update_layout end_session_layout chunk_send_layout chunk_get_layout request_body version_layout capabilities_layout algorithms_layout measurements_layout psk_exchange_rsp_layout psk_finish_rsp_layout heartbeat_ack_layout key_update_ack_layout end_session_ack_layout chunk_send_ack_layout chunk_response_layout error_layout response_body terms_of gathered_from inner_led here_record hears asks session_of chosen next_draw requester_told requester_given command_fault carried_by clear_led body_fault there_session_of there_chosen answer_bytes turn_of refused_form refused_contents refusal on_clear session_turn in_session on_record there_next_draw responder_hears pumps happens verify_data expand blocks_of block_of secret_at hmac sha256 digest_bytes hash_after compress rounds schedule first_words
opened_answer = opens_second

abbrev pub took_last : PacketStep
took_last = last_step second_inner None

pub given_last : requester_given finishing packet_11 ≡ took_last
given_last = hears_by ∙ ap₂ last_step opened_answer no_answer_fault

pub nothing_sent : took_last.sent ≡ []
unfolding field_at number_at optional_at behind_table behind_tables tables_at get_version_layout get_capabilities_layout negotiate_algorithms_layout get_measurements_layout psk_exchange_layout psk_finish_layout heartbeat_layout key_update_layout end_session_layout chunk_send_layout chunk_get_layout request_body version_layout capabilities_layout algorithms_layout measurements_layout psk_exchange_rsp_layout psk_finish_rsp_layout heartbeat_ack_layout key_update_ack_layout end_session_ack_layout chunk_send_ack_layout chunk_response_layout error_layout response_body terms_of gathered_from inner_led here_record hears asks session_of chosen next_draw requester_told requester_given command_fault carried_by clear_led body_fault there_session_of there_chosen answer_bytes turn_of refused_form refused_contents refusal on_clear session_turn in_session on_record there_next_draw responder_hears pumps happens
nothing_sent = refl

abbrev pub last_acts : List Act
last_acts = Checked response (record_input 0 second_record) second_tag second_tag ∷ []

last_by : took_last.acts ≡ Checked response (record_input 0 second_record) (record_tag choice response 0 second_record) second_tag ∷ []
unfolding header_fault field_at number_at optional_at behind_table behind_tables tables_at get_version_layout get_capabilities_layout negotiate_algorithms_layout get_measurements_layout psk_exchange_layout psk_finish_layout heartbeat_layout key_update_layout end_session_layout chunk_send_layout chunk_get_layout request_body version_layout capabilities_layout algorithms_layout measurements_layout psk_exchange_rsp_layout psk_finish_rsp_layout heartbeat_ack_layout key_update_ack_layout end_session_ack_layout chunk_send_ack_layout chunk_response_layout error_layout response_body terms_of gathered_from inner_led here_record hears asks session_of chosen next_draw requester_told requester_given command_fault carried_by clear_led body_fault there_session_of there_chosen answer_bytes turn_of refused_form refused_contents refusal on_clear session_turn in_session on_record there_next_draw responder_hears pumps happens
last_by = refl

pub last_made : took_last.acts ≡ last_acts
last_made = last_by ∙ ap (λ (x : List ℕ). Checked response (record_input 0 second_record) x second_tag ∷ []) tags_second

-- ---- Application data is sent.

abbrev pub opened_end : Requesting
opened_end = took_last.after

abbrev data_bytes : List ℕ
data_bytes = 104 ∷ 105 ∷ []

abbrev opened_steps : Steps
opened_steps = TookStep second_record second_inner (Grants AskFinish (18 ∷ 103 ∷ 0 ∷ 0 ∷ [])) ∷ asked

abbrev data_sent : List ℕ → Sent
data_sent sealed = record { tag = 5; content = InRecord sealed third_inner []; aim = InSession 1 AskData }

abbrev told_data_with : List ℕ → List ℕ → CommandStep
told_data_with sealed tag = record {
  fault = None;
  sent = packets_of_sent requester (Some (data_sent sealed));
  acts = Made data_request (record_input 0 sealed) tag ∷ [];
  after = record opened_end { commands = 3; history = Told (Send 1 data_bytes) (data_sent sealed) second_draw ∷ opened_end.history };
}

abbrev pub sending : Requesting
sending = record opened_end { commands = 3; history = Told (Send 1 data_bytes) (data_sent third_record) second_draw ∷ opened_end.history }

abbrev pub told_send : CommandStep
told_send = record { fault = None; sent = packet_12 ∷ []; acts = Made data_request (record_input 0 third_record) third_tag ∷ []; after = sending }

told_data_by : requester_told opened_end (Send 1 data_bytes) ≡ told_data_with (sealed_next psk opened_steps third_inner []) (record_tag choice data_request 0 (sealed_next psk opened_steps third_inner []))
unfolding field_at number_at optional_at behind_table behind_tables tables_at get_version_layout get_capabilities_layout negotiate_algorithms_layout get_measurements_layout psk_exchange_layout psk_finish_layout heartbeat_layout key_update_layout end_session_layout chunk_send_layout chunk_get_layout request_body version_layout capabilities_layout algorithms_layout measurements_layout psk_exchange_rsp_layout psk_finish_rsp_layout heartbeat_ack_layout key_update_ack_layout end_session_ack_layout chunk_send_ack_layout chunk_response_layout error_layout response_body terms_of gathered_from inner_led here_record hears asks session_of chosen next_draw requester_told requester_given command_fault carried_by clear_led body_fault there_session_of there_chosen answer_bytes turn_of refused_form refused_contents refusal on_clear session_turn in_session on_record there_next_draw responder_hears pumps happens verify_data expand blocks_of block_of secret_at hmac sha256 digest_bytes hash_after compress rounds schedule first_words
told_data_by = refl

sealed_data : sealed_next psk opened_steps third_inner [] ≡ third_record
unfolding sealed_next field_at number_at optional_at behind_table behind_tables tables_at get_version_layout get_capabilities_layout negotiate_algorithms_layout get_measurements_layout psk_exchange_layout psk_finish_layout heartbeat_layout key_update_layout end_session_layout chunk_send_layout chunk_get_layout request_body version_layout capabilities_layout algorithms_layout measurements_layout psk_exchange_rsp_layout psk_finish_rsp_layout heartbeat_ack_layout key_update_ack_layout end_session_ack_layout chunk_send_ack_layout chunk_response_layout error_layout response_body terms_of gathered_from inner_led here_record hears asks session_of chosen next_draw requester_told requester_given command_fault carried_by clear_led body_fault there_session_of there_chosen answer_bytes turn_of refused_form refused_contents refusal on_clear session_turn in_session on_record there_next_draw responder_hears pumps happens verify_data expand blocks_of block_of secret_at hmac sha256 digest_bytes hash_after compress rounds schedule first_words
sealed_data = seals_third

told_data_whole : told_data_with third_record third_tag ≡ told_send
unfolding field_at number_at optional_at behind_table behind_tables tables_at get_version_layout get_capabilities_layout negotiate_algorithms_layout get_measurements_layout psk_exchange_layout psk_finish_layout heartbeat_layout key_update_layout end_session_layout chunk_send_layout chunk_get_layout request_body version_layout capabilities_layout algorithms_layout measurements_layout psk_exchange_rsp_layout psk_finish_rsp_layout heartbeat_ack_layout key_update_ack_layout end_session_ack_layout chunk_send_ack_layout chunk_response_layout error_layout response_body terms_of gathered_from inner_led here_record hears asks session_of chosen next_draw requester_told requester_given command_fault carried_by clear_led body_fault there_session_of there_chosen answer_bytes turn_of refused_form refused_contents refusal on_clear session_turn in_session on_record there_next_draw responder_hears pumps happens
told_data_whole = refl

pub told_data : requester_told opened_end (Send 1 data_bytes) ≡ told_send
told_data =
    told_data_by ∙ ap (λ (x : List ℕ). told_data_with x (record_tag choice data_request 0 x)) sealed_data ∙ ap (told_data_with third_record) tags_third ∙ told_data_whole

-- ---- It comes to the responder.

abbrev pub serving : Responding
serving = answered_finish.after

abbrev opened_there : Connection
opened_there = record began { history = finish_entry ∷ began.history }

abbrev events : Events
events = Heard first_record finish_turn second_record ∷ opening

abbrev data_free : Free
data_free = record_chosen opened_there.setup opened_there.history third_record next_own_draw

abbrev data_route : RouteFields
data_route = record { to = 8; from = 9; owner = true; tag = 5 }

abbrev data_led : Option RecordFault → Outcome
data_led fault = in_session_by opened_there.setup Negotiated events data_free 5 third_record next_own_draw fault

data_answers_by : responder_hears serving packet_12 ≡ answers serving opened_there packet_12 data_route (record_body third_record) (data_led (opening_fault psk events third_record))
unfolding field_at number_at optional_at behind_table behind_tables tables_at get_version_layout get_capabilities_layout negotiate_algorithms_layout get_measurements_layout psk_exchange_layout psk_finish_layout heartbeat_layout key_update_layout end_session_layout chunk_send_layout chunk_get_layout request_body version_layout capabilities_layout algorithms_layout measurements_layout psk_exchange_rsp_layout psk_finish_rsp_layout heartbeat_ack_layout key_update_ack_layout end_session_ack_layout chunk_send_ack_layout chunk_response_layout error_layout response_body terms_of gathered_from inner_led here_record hears asks session_of chosen next_draw requester_told requester_given command_fault carried_by clear_led body_fault there_session_of there_chosen answer_bytes turn_of refused_form refused_contents refusal on_clear session_turn in_session on_record there_next_draw responder_hears pumps happens hmac sha256 digest_bytes hash_after compress rounds schedule first_words
data_answers_by = refl

no_data_fault : opening_fault psk events third_record ≡ None
unfolding opening_fault field_at number_at optional_at behind_table behind_tables tables_at get_version_layout get_capabilities_layout negotiate_algorithms_layout get_measurements_layout psk_exchange_layout psk_finish_layout heartbeat_layout key_update_layout end_session_layout chunk_send_layout chunk_get_layout request_body version_layout capabilities_layout algorithms_layout measurements_layout psk_exchange_rsp_layout psk_finish_rsp_layout heartbeat_ack_layout key_update_ack_layout end_session_ack_layout chunk_send_ack_layout chunk_response_layout error_layout response_body terms_of gathered_from inner_led here_record hears asks session_of chosen next_draw requester_told requester_given command_fault carried_by clear_led body_fault there_session_of there_chosen answer_bytes turn_of refused_form refused_contents refusal on_clear session_turn in_session on_record there_next_draw responder_hears pumps happens verify_data expand blocks_of block_of secret_at hmac sha256 digest_bytes hash_after compress rounds schedule first_words
no_data_fault = fits_third

opened_data : opened psk events third_record ≡ third_inner
unfolding opened field_at number_at optional_at behind_table behind_tables tables_at get_version_layout get_capabilities_layout negotiate_algorithms_layout get_measurements_layout psk_exchange_layout psk_finish_layout heartbeat_layout key_update_layout end_session_layout chunk_send_layout chunk_get_layout request_body version_layout capabilities_layout algorithms_layout measurements_layout psk_exchange_rsp_layout psk_finish_rsp_layout heartbeat_ack_layout key_update_ack_layout end_session_ack_layout chunk_send_ack_layout chunk_response_layout error_layout response_body terms_of gathered_from inner_led here_record hears asks session_of chosen next_draw requester_told requester_given command_fault carried_by clear_led body_fault there_session_of there_chosen answer_bytes turn_of refused_form refused_contents refusal on_clear session_turn in_session on_record there_next_draw responder_hears pumps happens verify_data expand blocks_of block_of secret_at hmac sha256 digest_bytes hash_after compress rounds schedule first_words
opened_data = opens_third

abbrev data_turn : Turn
data_turn = record { message = data_bytes; refused = None; chunk = None; effect = TookData data_bytes []; reply = [] }

data_turns : session_turn opened_there.setup events third_inner data_free ≡ data_turn
unfolding field_at number_at optional_at behind_table behind_tables tables_at get_version_layout get_capabilities_layout negotiate_algorithms_layout get_measurements_layout psk_exchange_layout psk_finish_layout heartbeat_layout key_update_layout end_session_layout chunk_send_layout chunk_get_layout request_body version_layout capabilities_layout algorithms_layout measurements_layout psk_exchange_rsp_layout psk_finish_rsp_layout heartbeat_ack_layout key_update_ack_layout end_session_ack_layout chunk_send_ack_layout chunk_response_layout error_layout response_body terms_of gathered_from inner_led here_record hears asks session_of chosen next_draw requester_told requester_given command_fault carried_by clear_led body_fault there_session_of there_chosen answer_bytes turn_of refused_form refused_contents refusal on_clear session_turn in_session on_record there_next_draw responder_hears pumps happens
data_turns = refl

data_replies : reply_record psk events data_turn fourth_inner [] ≡ fourth_record
unfolding reply_record field_at number_at optional_at behind_table behind_tables tables_at get_version_layout get_capabilities_layout negotiate_algorithms_layout get_measurements_layout psk_exchange_layout psk_finish_layout heartbeat_layout key_update_layout end_session_layout chunk_send_layout chunk_get_layout request_body version_layout capabilities_layout algorithms_layout measurements_layout psk_exchange_rsp_layout psk_finish_rsp_layout heartbeat_ack_layout key_update_ack_layout end_session_ack_layout chunk_send_ack_layout chunk_response_layout error_layout response_body terms_of gathered_from inner_led here_record hears asks session_of chosen next_draw requester_told requester_given command_fault carried_by clear_led body_fault there_session_of there_chosen answer_bytes turn_of refused_form refused_contents refusal on_clear session_turn in_session on_record there_next_draw responder_hears pumps happens verify_data expand blocks_of block_of secret_at hmac sha256 digest_bytes hash_after compress rounds schedule first_words
data_replies = seals_fourth

abbrev data_entry : Entry
data_entry = Sealed 5 third_record data_turn fourth_record next_own_draw

data_entered : data_led None ≡ Adds data_entry
unfolding field_at number_at optional_at behind_table behind_tables tables_at get_version_layout get_capabilities_layout negotiate_algorithms_layout get_measurements_layout psk_exchange_layout psk_finish_layout heartbeat_layout key_update_layout end_session_layout chunk_send_layout chunk_get_layout request_body version_layout capabilities_layout algorithms_layout measurements_layout psk_exchange_rsp_layout psk_finish_rsp_layout heartbeat_ack_layout key_update_ack_layout end_session_ack_layout chunk_send_ack_layout chunk_response_layout error_layout response_body terms_of gathered_from inner_led here_record hears asks session_of chosen next_draw requester_told requester_given command_fault carried_by clear_led body_fault there_session_of there_chosen answer_bytes turn_of refused_form refused_contents refusal on_clear session_turn in_session on_record there_next_draw responder_hears pumps happens
data_entered =
    ap (λ (x : List ℕ). Adds (sealed_entry opened_there.setup events data_free 5 third_record next_own_draw (session_turn opened_there.setup events x data_free))) opened_data
    ∙ ap (λ (t : Turn). Adds (sealed_entry opened_there.setup events data_free 5 third_record next_own_draw t)) data_turns
    ∙ ap (λ (x : List ℕ). Adds (Sealed 5 third_record data_turn x next_own_draw)) data_replies

abbrev pub answered_data : RspStep
answered_data = answers serving opened_there packet_12 data_route (record_body third_record) (Adds data_entry)

pub heard_data : responder_hears serving packet_12 ≡ answered_data
heard_data =
    data_answers_by ∙ ap (λ (o : Option RecordFault). answers serving opened_there packet_12 data_route (record_body third_record) (data_led o)) no_data_fault
    ∙ ap (answers serving opened_there packet_12 data_route (record_body third_record)) data_entered

pub data_answer_sent : answered_data.sent ≡ packet_13 ∷ []
unfolding field_at number_at optional_at behind_table behind_tables tables_at get_version_layout get_capabilities_layout negotiate_algorithms_layout get_measurements_layout psk_exchange_layout psk_finish_layout heartbeat_layout key_update_layout end_session_layout chunk_send_layout chunk_get_layout request_body version_layout capabilities_layout algorithms_layout measurements_layout psk_exchange_rsp_layout psk_finish_rsp_layout heartbeat_ack_layout key_update_ack_layout end_session_ack_layout chunk_send_ack_layout chunk_response_layout error_layout response_body terms_of gathered_from inner_led here_record hears asks session_of chosen next_draw requester_told requester_given command_fault carried_by clear_led body_fault there_session_of there_chosen answer_bytes turn_of refused_form refused_contents refusal on_clear session_turn in_session on_record there_next_draw responder_hears pumps happens
data_answer_sent = refl

abbrev data_acts_with : (inner one_tag other_tag : List ℕ) → List Act
data_acts_with inner one_tag other_tag =
    Made data_response (record_input 0 fourth_record) other_tag ∷ inner_acts opened_there.setup events inner ++ Checked data_request (record_input 0 third_record) one_tag third_tag ∷ []

abbrev pub data_acts : List Act
data_acts = Made data_response (record_input 0 fourth_record) fourth_tag ∷ Checked data_request (record_input 0 third_record) third_tag third_tag ∷ []

data_acts_by : answered_data.acts ≡ data_acts_with (opened psk events third_record) (record_tag choice data_request 0 third_record) (record_tag choice data_response 0 fourth_record)
unfolding header_fault field_at number_at optional_at behind_table behind_tables tables_at get_version_layout get_capabilities_layout negotiate_algorithms_layout get_measurements_layout psk_exchange_layout psk_finish_layout heartbeat_layout key_update_layout end_session_layout chunk_send_layout chunk_get_layout request_body version_layout capabilities_layout algorithms_layout measurements_layout psk_exchange_rsp_layout psk_finish_rsp_layout heartbeat_ack_layout key_update_ack_layout end_session_ack_layout chunk_send_ack_layout chunk_response_layout error_layout response_body terms_of gathered_from inner_led here_record hears asks session_of chosen next_draw requester_told requester_given command_fault carried_by clear_led body_fault there_session_of there_chosen answer_bytes turn_of refused_form refused_contents refusal on_clear session_turn in_session on_record there_next_draw responder_hears pumps happens
data_acts_by = refl

data_checked : data_acts_with third_inner third_tag fourth_tag ≡ data_acts
unfolding field_at number_at optional_at behind_table behind_tables tables_at get_version_layout get_capabilities_layout negotiate_algorithms_layout get_measurements_layout psk_exchange_layout psk_finish_layout heartbeat_layout key_update_layout end_session_layout chunk_send_layout chunk_get_layout request_body version_layout capabilities_layout algorithms_layout measurements_layout psk_exchange_rsp_layout psk_finish_rsp_layout heartbeat_ack_layout key_update_ack_layout end_session_ack_layout chunk_send_ack_layout chunk_response_layout error_layout response_body terms_of gathered_from inner_led here_record hears asks session_of chosen next_draw requester_told requester_given command_fault carried_by clear_led body_fault there_session_of there_chosen answer_bytes turn_of refused_form refused_contents refusal on_clear session_turn in_session on_record there_next_draw responder_hears pumps happens
data_checked = refl

pub data_made : answered_data.acts ≡ data_acts
data_made =
    data_acts_by ∙ ap (λ (x : List ℕ). data_acts_with x (record_tag choice data_request 0 third_record) (record_tag choice data_response 0 fourth_record)) opened_data
    ∙ ap₂ (λ (x y : List ℕ). data_acts_with third_inner x y) tags_third tags_fourth ∙ data_checked

-- ---- Its answer comes to the requester.

abbrev asked_data : Steps
asked_data = Asked AskData third_inner third_record ∷ opened_steps

abbrev data_answer_free : FreeHere
data_answer_free = body_chosen requester sending.history second_draw

abbrev data_came : List ℕ → Came
data_came inner = record { id = 1; steps = asked_data; sealed = fourth_record; inner = inner }

abbrev data_step : List ℕ → Option RecordFault → PacketStep
data_step inner fault = heard_by sending packet_13 (record_body fourth_record) (record_outcome requester sending.history data_answer_free 5 AskData (data_came inner) second_draw fault)

data_hears_by : requester_given sending packet_13 ≡ data_step (answer_inner psk asked_data AskData fourth_record) (answer_fault psk asked_data AskData fourth_record)
unfolding field_at number_at optional_at behind_table behind_tables tables_at get_version_layout get_capabilities_layout negotiate_algorithms_layout get_measurements_layout psk_exchange_layout psk_finish_layout heartbeat_layout key_update_layout end_session_layout chunk_send_layout chunk_get_layout request_body version_layout capabilities_layout algorithms_layout measurements_layout psk_exchange_rsp_layout psk_finish_rsp_layout heartbeat_ack_layout key_update_ack_layout end_session_ack_layout chunk_send_ack_layout chunk_response_layout error_layout response_body terms_of gathered_from inner_led here_record hears asks session_of chosen next_draw requester_told requester_given command_fault carried_by clear_led body_fault there_session_of there_chosen answer_bytes turn_of refused_form refused_contents refusal on_clear session_turn in_session on_record there_next_draw responder_hears pumps happens hmac sha256 digest_bytes hash_after compress rounds schedule first_words
data_hears_by = refl

no_data_answer_fault : answer_fault psk asked_data AskData fourth_record ≡ None
unfolding answer_fault field_at number_at optional_at behind_table behind_tables tables_at get_version_layout get_capabilities_layout negotiate_algorithms_layout get_measurements_layout psk_exchange_layout psk_finish_layout heartbeat_layout key_update_layout end_session_layout chunk_send_layout chunk_get_layout request_body version_layout capabilities_layout algorithms_layout measurements_layout psk_exchange_rsp_layout psk_finish_rsp_layout heartbeat_ack_layout key_update_ack_layout end_session_ack_layout chunk_send_ack_layout chunk_response_layout error_layout response_body terms_of gathered_from inner_led here_record hears asks session_of chosen next_draw requester_told requester_given command_fault carried_by clear_led body_fault there_session_of there_chosen answer_bytes turn_of refused_form refused_contents refusal on_clear session_turn in_session on_record there_next_draw responder_hears pumps happens verify_data expand blocks_of block_of secret_at hmac sha256 digest_bytes hash_after compress rounds schedule first_words
no_data_answer_fault = fits_fourth

opened_data_answer : answer_inner psk asked_data AskData fourth_record ≡ fourth_inner
unfolding answer_inner field_at number_at optional_at behind_table behind_tables tables_at get_version_layout get_capabilities_layout negotiate_algorithms_layout get_measurements_layout psk_exchange_layout psk_finish_layout heartbeat_layout key_update_layout end_session_layout chunk_send_layout chunk_get_layout request_body version_layout capabilities_layout algorithms_layout measurements_layout psk_exchange_rsp_layout psk_finish_rsp_layout heartbeat_ack_layout key_update_ack_layout end_session_ack_layout chunk_send_ack_layout chunk_response_layout error_layout response_body terms_of gathered_from inner_led here_record hears asks session_of chosen next_draw requester_told requester_given command_fault carried_by clear_led body_fault there_session_of there_chosen answer_bytes turn_of refused_form refused_contents refusal on_clear session_turn in_session on_record there_next_draw responder_hears pumps happens verify_data expand blocks_of block_of secret_at hmac sha256 digest_bytes hash_after compress rounds schedule first_words
opened_data_answer = opens_fourth

abbrev pub took_data : PacketStep
took_data = data_step fourth_inner None

pub given_data : requester_given sending packet_13 ≡ took_data
given_data = data_hears_by ∙ ap₂ data_step opened_data_answer no_data_answer_fault

pub no_more_sent : took_data.sent ≡ []
unfolding field_at number_at optional_at behind_table behind_tables tables_at get_version_layout get_capabilities_layout negotiate_algorithms_layout get_measurements_layout psk_exchange_layout psk_finish_layout heartbeat_layout key_update_layout end_session_layout chunk_send_layout chunk_get_layout request_body version_layout capabilities_layout algorithms_layout measurements_layout psk_exchange_rsp_layout psk_finish_rsp_layout heartbeat_ack_layout key_update_ack_layout end_session_ack_layout chunk_send_ack_layout chunk_response_layout error_layout response_body terms_of gathered_from inner_led here_record hears asks session_of chosen next_draw requester_told requester_given command_fault carried_by clear_led body_fault there_session_of there_chosen answer_bytes turn_of refused_form refused_contents refusal on_clear session_turn in_session on_record there_next_draw responder_hears pumps happens
no_more_sent = refl

data_last_by : took_data.acts ≡ Checked data_response (record_input 0 fourth_record) (record_tag choice data_response 0 fourth_record) fourth_tag ∷ []
unfolding header_fault field_at number_at optional_at behind_table behind_tables tables_at get_version_layout get_capabilities_layout negotiate_algorithms_layout get_measurements_layout psk_exchange_layout psk_finish_layout heartbeat_layout key_update_layout end_session_layout chunk_send_layout chunk_get_layout request_body version_layout capabilities_layout algorithms_layout measurements_layout psk_exchange_rsp_layout psk_finish_rsp_layout heartbeat_ack_layout key_update_ack_layout end_session_ack_layout chunk_send_ack_layout chunk_response_layout error_layout response_body terms_of gathered_from inner_led here_record hears asks session_of chosen next_draw requester_told requester_given command_fault carried_by clear_led body_fault there_session_of there_chosen answer_bytes turn_of refused_form refused_contents refusal on_clear session_turn in_session on_record there_next_draw responder_hears pumps happens
data_last_by = refl

pub data_last_made : took_data.acts ≡ Checked data_response (record_input 0 fourth_record) fourth_tag fourth_tag ∷ []
data_last_made = data_last_by ∙ ap (λ (x : List ℕ). Checked data_response (record_input 0 fourth_record) x fourth_tag ∷ []) tags_fourth
