-- The log of the world, by its packets; and that nothing agrees by chance in it.
use Rattle.std.proofs.Common.{◌≡◌, ◌∙◌, ◌++◌, ◌==◌, ℕ, List, [], ◌∷◌, refl, sym, ap, ap₂, subst, cond, inl, inr, Bool, true, false, Option, None, slice_index}
use Rattle.spdm_grammar.specs.Reading.{field_at, number_at, optional_at, behind_table, behind_tables, tables_at}
use Rattle.spdm_grammar.specs.Requests.{get_version_layout, get_capabilities_layout, negotiate_algorithms_layout, get_measurements_layout, psk_exchange_layout, psk_finish_layout, heartbeat_layout, key_update_layout, end_session_layout, chunk_send_layout, chunk_get_layout, request_body}
use Rattle.spdm_grammar.specs.Responses.{version_layout, capabilities_layout, algorithms_layout, measurements_layout, psk_exchange_rsp_layout, psk_finish_rsp_layout, heartbeat_ack_layout, key_update_ack_layout, end_session_ack_layout, chunk_send_ack_layout, chunk_response_layout, error_layout, response_body}
use Rattle.spdm_machine.specs.Terms.{terms_of}
use Rattle.spdm_machine.specs.Packets.{gathered_from}
use Rattle.requester_machine.specs.InnerMessages.{inner_led}
use Rattle.requester_machine.specs.Hearing.{on_record as here_record, hears}
use Rattle.requester_machine.specs.Asking.{asks}
use Rattle.requester_machine.specs.Session.{session_of}
use Rattle.requester_machine.specs.Does.{chosen}
use Rattle.requester_machine.specs.Requesting.{next_draw, requester_told, requester_given}
use Rattle.requester_machine.specs.Commands.{command_fault}
use Rattle.requester_machine.specs.ClearAnswers.{carried_by, clear_led}
use Rattle.requester_machine.specs.Bodies.{body_fault}
use Rattle.responder_machine.specs.Session.{session_of as there_session_of}
use Rattle.responder_machine.specs.Does.{chosen as there_chosen}
use Rattle.responder_machine.specs.Answer.{answer_bytes}
use Rattle.responder_machine.specs.Handling.{turn_of}
use Rattle.responder_machine.specs.Refusal.{refused_form, refused_contents, refusal}
use Rattle.responder_machine.specs.Responder.{on_clear, session_turn, in_session, on_record}
use Rattle.responder_machine.specs.Responding.{next_draw as there_next_draw, responder_hears}
use Rattle.world_machine.specs.World.{pumps, happens}
use Rattle.example_world.proofs.Bytes.{covered, first_record, first_tag, packet_10, packet_11, packet_7, packet_12, packet_13, packet_8, packet_9, request_verify, response_verify, second_record, second_tag, third_record, third_tag, fourth_record, fourth_tag, transcript}
use Rattle.example_world.proofs.Connected.{connected, is_requester}
use Rattle.example_world.proofs.Ends.{answered_data, data_acts, data_answer_sent, data_last_made, data_made, given_data, heard_data, no_more_sent, opened_end, sending, serving, told_data, took_data, answered_exchange, answered_finish, answering, asking, awaiting, beginning, finish_acts, finish_made, finish_sent, finishing, given_answer, given_last, given_part, heard_exchange, heard_finish, last_made, nothing_sent, told, took_answer, took_last}
use Rattle.example_world.proofs.Keys.{data_request, data_response, psk, request, response}
use Rattle.example_world.proofs.Walk.{Comes, Goes, at, rests, to_requester, to_responder}
use Rattle.example_world.specs.Example.{data_bytes, world}
use Rattle.key_schedule.specs.Purpose.{verify}
use Rattle.key_schedule.specs.declared.direction.Direction.TheVariants as direction
use Rattle.requester_machine.specs.Message.Command.{Open, Send}
use Rattle.std.proofs.lemmas.Bool.{eqb-false}
use Rattle.requester_machine.specs.Requesting.{CommandStep, PacketStep, Requesting, ignores}
use Rattle.spdm_grammar.specs.declared.told.event.Event.TheVariants as event
use Rattle.spdm_machine.specs.TagLog.{Log, record_input}
use Rattle.spdm_machine.specs.TagLog.Act.{Checked, Made}
use Rattle.world_machine.specs.Chance.{NoChance}
use Rattle.world_machine.specs.Happenings.Happening.{Pump, Told as IsTold}
use Rattle.world_machine.specs.World.{SentPacket, World, first_waiting, stopped_of, told as tells, told_by, with_requester, with_sent}

-- ---- The packets sent, one event after another.

abbrev sent_7 : List SentPacket
sent_7 = with_sent connected.sent (packet_7 ∷ [])

abbrev sent_9 : List SentPacket
sent_9 = with_sent (stopped_of 7 sent_7) (packet_8 ∷ packet_9 ∷ [])

abbrev sent_10 : List SentPacket
sent_10 = stopped_of 8 sent_9 ++ []

abbrev sent_11 : List SentPacket
sent_11 = with_sent (stopped_of 9 sent_10) (packet_10 ∷ [])

abbrev sent_12 : List SentPacket
sent_12 = with_sent (stopped_of 10 sent_11) (packet_11 ∷ [])

abbrev sent_last : List SentPacket
sent_last = stopped_of 11 sent_12 ++ []

-- ---- The log.

abbrev log_7 : Log
log_7 = Made (verify psk transcript direction.Response) transcript response_verify ∷ []

abbrev log_9 : Log
log_9 = took_answer.acts ++ log_7

abbrev log_10 : Log
log_10 = finish_acts ++ log_9

abbrev pub whole_log : Log
whole_log = Checked response (record_input 0 second_record) second_tag second_tag ∷ log_10

alone : with_requester asking connected.requesters ≡ asking ∷ []
unfolding field_at number_at optional_at behind_table behind_tables tables_at get_version_layout get_capabilities_layout negotiate_algorithms_layout get_measurements_layout psk_exchange_layout psk_finish_layout heartbeat_layout key_update_layout end_session_layout chunk_send_layout chunk_get_layout request_body version_layout capabilities_layout algorithms_layout measurements_layout psk_exchange_rsp_layout psk_finish_rsp_layout heartbeat_ack_layout key_update_ack_layout end_session_ack_layout chunk_send_ack_layout chunk_response_layout error_layout response_body terms_of gathered_from inner_led here_record hears asks session_of chosen next_draw requester_told requester_given command_fault carried_by clear_led body_fault there_session_of there_chosen answer_bytes turn_of refused_form refused_contents refusal on_clear session_turn in_session on_record there_next_draw responder_hears pumps happens
alone = refl

none_yet : connected.log ≡ []
unfolding field_at number_at optional_at behind_table behind_tables tables_at get_version_layout get_capabilities_layout negotiate_algorithms_layout get_measurements_layout psk_exchange_layout psk_finish_layout heartbeat_layout key_update_layout end_session_layout chunk_send_layout chunk_get_layout request_body version_layout capabilities_layout algorithms_layout measurements_layout psk_exchange_rsp_layout psk_finish_rsp_layout heartbeat_ack_layout key_update_ack_layout end_session_ack_layout chunk_send_ack_layout chunk_response_layout error_layout response_body terms_of gathered_from inner_led here_record hears asks session_of chosen next_draw requester_told requester_given command_fault carried_by clear_led body_fault there_session_of there_chosen answer_bytes turn_of refused_form refused_contents refusal on_clear session_turn in_session on_record there_next_draw responder_hears pumps happens
none_yet = refl

abbrev opened_world : World
opened_world = (happens (happens connected (IsTold 1 (Open 0))).after (Pump 414)).after

starts : opened_world ≡ (pumps 414 (at asking beginning sent_7 [])).after
unfolding happens
starts =
    ap (λ (o : Option Requesting). (pumps 414 (tells connected 1 (Open 0) o).after).after) is_requester
    ∙ ap (λ (st : CommandStep). (pumps 414 (told_by connected 1 st).after).after) told
    ∙ ap₂ (λ (x : List Requesting) (y : Log). (pumps 414 (record { requesters = x; responder = beginning; sent = sent_7; log = y })).after) alone none_yet

comes_7 : Comes beginning sent_7 7 packet_7
unfolding field_at number_at optional_at behind_table behind_tables tables_at get_version_layout get_capabilities_layout negotiate_algorithms_layout get_measurements_layout psk_exchange_layout psk_finish_layout heartbeat_layout key_update_layout end_session_layout chunk_send_layout chunk_get_layout request_body version_layout capabilities_layout algorithms_layout measurements_layout psk_exchange_rsp_layout psk_finish_rsp_layout heartbeat_ack_layout key_update_ack_layout end_session_ack_layout chunk_send_ack_layout chunk_response_layout error_layout response_body terms_of gathered_from inner_led here_record hears asks session_of chosen next_draw requester_told requester_given command_fault carried_by clear_led body_fault there_session_of there_chosen answer_bytes turn_of refused_form refused_contents refusal on_clear session_turn in_session on_record there_next_draw responder_hears pumps happens
comes_7 = record { first = refl; packet = refl; long = refl; mine = refl }

goes_7 : (pumps 414 (at asking beginning sent_7 [])).after ≡ (pumps 413 (at asking answering sent_9 log_7)).after
goes_7 = to_responder 413 asking beginning sent_7 [] 7 packet_7 comes_7 answered_exchange heard_exchange

abbrev part_step : PacketStep
part_step = ignores asking packet_8 event.More

goes_on_8 : Goes asking answering sent_9 8 packet_8 part_step
unfolding field_at number_at optional_at behind_table behind_tables tables_at get_version_layout get_capabilities_layout negotiate_algorithms_layout get_measurements_layout psk_exchange_layout psk_finish_layout heartbeat_layout key_update_layout end_session_layout chunk_send_layout chunk_get_layout request_body version_layout capabilities_layout algorithms_layout measurements_layout psk_exchange_rsp_layout psk_finish_rsp_layout heartbeat_ack_layout key_update_ack_layout end_session_ack_layout chunk_send_ack_layout chunk_response_layout error_layout response_body terms_of gathered_from inner_led here_record hears asks session_of chosen next_draw requester_told requester_given command_fault carried_by clear_led body_fault there_session_of there_chosen answer_bytes turn_of refused_form refused_contents refusal on_clear session_turn in_session on_record there_next_draw responder_hears pumps happens
goes_on_8 = record { first = refl; packet = refl; long = refl; other = refl; named = refl; same = refl }

goes_8 : (pumps 413 (at asking answering sent_9 log_7)).after ≡ (pumps 412 (at awaiting answering sent_10 log_7)).after
goes_8 = to_requester 412 asking answering sent_9 log_7 8 packet_8 part_step goes_on_8 given_part

goes_on_9 : Goes awaiting answering sent_10 9 packet_9 took_answer
unfolding field_at number_at optional_at behind_table behind_tables tables_at get_version_layout get_capabilities_layout negotiate_algorithms_layout get_measurements_layout psk_exchange_layout psk_finish_layout heartbeat_layout key_update_layout end_session_layout chunk_send_layout chunk_get_layout request_body version_layout capabilities_layout algorithms_layout measurements_layout psk_exchange_rsp_layout psk_finish_rsp_layout heartbeat_ack_layout key_update_ack_layout end_session_ack_layout chunk_send_ack_layout chunk_response_layout error_layout response_body terms_of gathered_from inner_led here_record hears asks session_of chosen next_draw requester_told requester_given command_fault carried_by clear_led body_fault there_session_of there_chosen answer_bytes turn_of refused_form refused_contents refusal on_clear session_turn in_session on_record there_next_draw responder_hears pumps happens
goes_on_9 = record { first = refl; packet = refl; long = refl; other = refl; named = refl; same = refl }

goes_9 : (pumps 412 (at awaiting answering sent_10 log_7)).after ≡ (pumps 411 (at finishing answering sent_11 log_9)).after
goes_9 = to_requester 411 awaiting answering sent_10 log_7 9 packet_9 took_answer goes_on_9 given_answer

comes_10 : Comes answering sent_11 10 packet_10
unfolding field_at number_at optional_at behind_table behind_tables tables_at get_version_layout get_capabilities_layout negotiate_algorithms_layout get_measurements_layout psk_exchange_layout psk_finish_layout heartbeat_layout key_update_layout end_session_layout chunk_send_layout chunk_get_layout request_body version_layout capabilities_layout algorithms_layout measurements_layout psk_exchange_rsp_layout psk_finish_rsp_layout heartbeat_ack_layout key_update_ack_layout end_session_ack_layout chunk_send_ack_layout chunk_response_layout error_layout response_body terms_of gathered_from inner_led here_record hears asks session_of chosen next_draw requester_told requester_given command_fault carried_by clear_led body_fault there_session_of there_chosen answer_bytes turn_of refused_form refused_contents refusal on_clear session_turn in_session on_record there_next_draw responder_hears pumps happens
comes_10 = record { first = refl; packet = refl; long = refl; mine = refl }

goes_10 : (pumps 411 (at finishing answering sent_11 log_9)).after ≡ (pumps 410 (at finishing answered_finish.after sent_12 log_10)).after
goes_10 =
    to_responder 410 finishing answering sent_11 log_9 10 packet_10 comes_10 answered_finish heard_finish
    ∙ ap₂ (λ (x : List (List ℕ)) (y : Log). (pumps 410 (at finishing answered_finish.after (with_sent (stopped_of 10 sent_11) x) (y ++ log_9))).after) finish_sent finish_made

goes_on_11 : Goes finishing answered_finish.after sent_12 11 packet_11 took_last
unfolding field_at number_at optional_at behind_table behind_tables tables_at get_version_layout get_capabilities_layout negotiate_algorithms_layout get_measurements_layout psk_exchange_layout psk_finish_layout heartbeat_layout key_update_layout end_session_layout chunk_send_layout chunk_get_layout request_body version_layout capabilities_layout algorithms_layout measurements_layout psk_exchange_rsp_layout psk_finish_rsp_layout heartbeat_ack_layout key_update_ack_layout end_session_ack_layout chunk_send_ack_layout chunk_response_layout error_layout response_body terms_of gathered_from inner_led here_record hears asks session_of chosen next_draw requester_told requester_given command_fault carried_by clear_led body_fault there_session_of there_chosen answer_bytes turn_of refused_form refused_contents refusal on_clear session_turn in_session on_record there_next_draw responder_hears pumps happens
goes_on_11 = record { first = refl; packet = refl; long = refl; other = refl; named = refl; same = refl }

goes_11 : (pumps 410 (at finishing answered_finish.after sent_12 log_10)).after ≡ (pumps 409 (at took_last.after answered_finish.after sent_last whole_log)).after
goes_11 =
    to_requester 409 finishing answered_finish.after sent_12 log_10 11 packet_11 took_last goes_on_11 given_last
    ∙ ap₂ (λ (x : List (List ℕ)) (y : Log). (pumps 409 (at took_last.after answered_finish.after (with_sent (stopped_of 11 sent_12) x) (y ++ log_10))).after) nothing_sent last_made

none_waits : first_waiting sent_last ≡ None
unfolding field_at number_at optional_at behind_table behind_tables tables_at get_version_layout get_capabilities_layout negotiate_algorithms_layout get_measurements_layout psk_exchange_layout psk_finish_layout heartbeat_layout key_update_layout end_session_layout chunk_send_layout chunk_get_layout request_body version_layout capabilities_layout algorithms_layout measurements_layout psk_exchange_rsp_layout psk_finish_rsp_layout heartbeat_ack_layout key_update_ack_layout end_session_ack_layout chunk_send_ack_layout chunk_response_layout error_layout response_body terms_of gathered_from inner_led here_record hears asks session_of chosen next_draw requester_told requester_given command_fault carried_by clear_led body_fault there_session_of there_chosen answer_bytes turn_of refused_form refused_contents refusal on_clear session_turn in_session on_record there_next_draw responder_hears pumps happens
none_waits = refl

pub opened_is : opened_world ≡ at opened_end serving sent_last whole_log
opened_is = starts ∙ goes_7 ∙ goes_8 ∙ goes_9 ∙ goes_10 ∙ goes_11 ∙ rests 408 (at opened_end serving sent_last whole_log) none_waits

-- ---- The data.

abbrev sent_13 : List SentPacket
sent_13 = with_sent sent_last (packet_12 ∷ [])

abbrev sent_14 : List SentPacket
sent_14 = with_sent (stopped_of 12 sent_13) (packet_13 ∷ [])

abbrev pub sent_end : List SentPacket
sent_end = stopped_of 13 sent_14 ++ []

abbrev log_12 : Log
log_12 = Made data_request (record_input 0 third_record) third_tag ∷ whole_log

abbrev log_13 : Log
log_13 = data_acts ++ log_12

abbrev pub log_end : Log
log_end = Checked data_response (record_input 0 fourth_record) fourth_tag fourth_tag ∷ log_13

same_told : (opened_end.setup.eid == sending.setup.eid) ≡ true
unfolding field_at number_at optional_at behind_table behind_tables tables_at get_version_layout get_capabilities_layout negotiate_algorithms_layout get_measurements_layout psk_exchange_layout psk_finish_layout heartbeat_layout key_update_layout end_session_layout chunk_send_layout chunk_get_layout request_body version_layout capabilities_layout algorithms_layout measurements_layout psk_exchange_rsp_layout psk_finish_rsp_layout heartbeat_ack_layout key_update_ack_layout end_session_ack_layout chunk_send_ack_layout chunk_response_layout error_layout response_body terms_of gathered_from inner_led here_record hears asks session_of chosen next_draw requester_told requester_given command_fault carried_by clear_led body_fault there_session_of there_chosen answer_bytes turn_of refused_form refused_contents refusal on_clear session_turn in_session on_record there_next_draw responder_hears pumps happens
same_told = refl

starts_data : world ≡ (pumps 414 (at sending serving sent_13 log_12)).after
unfolding happens
starts_data =
    ap (λ (w : World). (happens (happens w (IsTold 1 (Send 1 data_bytes))).after (Pump 414)).after) opened_is
    ∙ ap (λ (st : CommandStep). (pumps 414 (told_by (at opened_end serving sent_last whole_log) 1 st).after).after) told_data
    ∙ ap (λ (b : Bool). (pumps 414 (at (cond b sending opened_end) serving sent_13 log_12)).after) same_told

comes_12 : Comes serving sent_13 12 packet_12
unfolding field_at number_at optional_at behind_table behind_tables tables_at get_version_layout get_capabilities_layout negotiate_algorithms_layout get_measurements_layout psk_exchange_layout psk_finish_layout heartbeat_layout key_update_layout end_session_layout chunk_send_layout chunk_get_layout request_body version_layout capabilities_layout algorithms_layout measurements_layout psk_exchange_rsp_layout psk_finish_rsp_layout heartbeat_ack_layout key_update_ack_layout end_session_ack_layout chunk_send_ack_layout chunk_response_layout error_layout response_body terms_of gathered_from inner_led here_record hears asks session_of chosen next_draw requester_told requester_given command_fault carried_by clear_led body_fault there_session_of there_chosen answer_bytes turn_of refused_form refused_contents refusal on_clear session_turn in_session on_record there_next_draw responder_hears pumps happens
comes_12 = record { first = refl; packet = refl; long = refl; mine = refl }

goes_12 : (pumps 414 (at sending serving sent_13 log_12)).after ≡ (pumps 413 (at sending answered_data.after sent_14 log_13)).after
goes_12 =
    to_responder 413 sending serving sent_13 log_12 12 packet_12 comes_12 answered_data heard_data
    ∙ ap₂ (λ (x : List (List ℕ)) (y : Log). (pumps 413 (at sending answered_data.after (with_sent (stopped_of 12 sent_13) x) (y ++ log_12))).after) data_answer_sent data_made

goes_on_13 : Goes sending answered_data.after sent_14 13 packet_13 took_data
unfolding field_at number_at optional_at behind_table behind_tables tables_at get_version_layout get_capabilities_layout negotiate_algorithms_layout get_measurements_layout psk_exchange_layout psk_finish_layout heartbeat_layout key_update_layout end_session_layout chunk_send_layout chunk_get_layout request_body version_layout capabilities_layout algorithms_layout measurements_layout psk_exchange_rsp_layout psk_finish_rsp_layout heartbeat_ack_layout key_update_ack_layout end_session_ack_layout chunk_send_ack_layout chunk_response_layout error_layout response_body terms_of gathered_from inner_led here_record hears asks session_of chosen next_draw requester_told requester_given command_fault carried_by clear_led body_fault there_session_of there_chosen answer_bytes turn_of refused_form refused_contents refusal on_clear session_turn in_session on_record there_next_draw responder_hears pumps happens
goes_on_13 = record { first = refl; packet = refl; long = refl; other = refl; named = refl; same = refl }

goes_13 : (pumps 413 (at sending answered_data.after sent_14 log_13)).after ≡ (pumps 412 (at took_data.after answered_data.after sent_end log_end)).after
goes_13 =
    to_requester 412 sending answered_data.after sent_14 log_13 13 packet_13 took_data goes_on_13 given_data
    ∙ ap₂ (λ (x : List (List ℕ)) (y : Log). (pumps 412 (at took_data.after answered_data.after (with_sent (stopped_of 13 sent_14) x) (y ++ log_13))).after) no_more_sent data_last_made

none_waits_still : first_waiting sent_end ≡ None
unfolding field_at number_at optional_at behind_table behind_tables tables_at get_version_layout get_capabilities_layout negotiate_algorithms_layout get_measurements_layout psk_exchange_layout psk_finish_layout heartbeat_layout key_update_layout end_session_layout chunk_send_layout chunk_get_layout request_body version_layout capabilities_layout algorithms_layout measurements_layout psk_exchange_rsp_layout psk_finish_rsp_layout heartbeat_ack_layout key_update_ack_layout end_session_ack_layout chunk_send_ack_layout chunk_response_layout error_layout response_body terms_of gathered_from inner_led here_record hears asks session_of chosen next_draw requester_told requester_given command_fault carried_by clear_led body_fault there_session_of there_chosen answer_bytes turn_of refused_form refused_contents refusal on_clear session_turn in_session on_record there_next_draw responder_hears pumps happens
none_waits_still = refl

pub world_is : world ≡ at took_data.after answered_data.after sent_end log_end
world_is = starts_data ∙ goes_12 ∙ goes_13 ∙ rests 411 (at took_data.after answered_data.after sent_end log_end) none_waits_still

-- ---- No chance.

apart : (x y : List ℕ) → (slice_index x 0 == slice_index y 0) ≡ false → x ≡ y → ⊥
apart x y other same = eqb-false (slice_index x 0) (slice_index y 0) other (ap (λ (l : List ℕ). slice_index l 0) same)

abbrev acts_1 : Log
acts_1 = Made (verify psk transcript direction.Response) transcript response_verify ∷ []

none_1 : NoChance acts_1
none_1 = (tt, tt)

abbrev acts_2 : Log
acts_2 = Checked (verify psk transcript direction.Response) transcript response_verify response_verify ∷ acts_1

none_2 : NoChance acts_2
none_2 = ((λ e. (refl, refl), tt), λ e. inl refl, none_1)

abbrev acts_3 : Log
acts_3 = Made (verify psk transcript direction.Request) covered request_verify ∷ acts_2

none_3 : NoChance acts_3
none_3 = ((λ e. absurd (apart response_verify request_verify refl e), (λ e. absurd (apart response_verify request_verify refl e), tt)), none_2)

abbrev acts_4 : Log
acts_4 = Made request (record_input 0 first_record) first_tag ∷ acts_3

none_4 : NoChance acts_4
none_4 = ((λ e. absurd (apart request_verify first_tag refl e), (λ e. absurd (apart response_verify first_tag refl e), (λ e. absurd (apart response_verify first_tag refl e), tt))), none_3)

abbrev acts_5 : Log
acts_5 = Checked request (record_input 0 first_record) first_tag first_tag ∷ acts_4

none_5 : NoChance acts_5
none_5 = ((λ e. (refl, refl), (λ e. absurd (apart request_verify first_tag refl e), (λ e. absurd (apart response_verify first_tag refl e), (λ e. absurd (apart response_verify first_tag refl e), tt)))), λ e. inl refl, none_4)

abbrev acts_6 : Log
acts_6 = Checked (verify psk transcript direction.Request) covered request_verify request_verify ∷ acts_5

none_6 : NoChance acts_6
none_6 = ((λ e. absurd (apart first_tag request_verify refl e), (λ e. absurd (apart first_tag request_verify refl e), (λ e. (refl, refl), (λ e. absurd (apart response_verify request_verify refl e), (λ e. absurd (apart response_verify request_verify refl e), tt))))), λ e. inr (inl refl), none_5)

abbrev acts_7 : Log
acts_7 = Made response (record_input 0 second_record) second_tag ∷ acts_6

none_7 : NoChance acts_7
none_7 = ((λ e. absurd (apart request_verify second_tag refl e), (λ e. absurd (apart first_tag second_tag refl e), (λ e. absurd (apart first_tag second_tag refl e), (λ e. absurd (apart request_verify second_tag refl e), (λ e. absurd (apart response_verify second_tag refl e), (λ e. absurd (apart response_verify second_tag refl e), tt)))))), none_6)

abbrev acts_8 : Log
acts_8 = Checked response (record_input 0 second_record) second_tag second_tag ∷ acts_7

none_8 : NoChance acts_8
none_8 = ((λ e. (refl, refl), (λ e. absurd (apart request_verify second_tag refl e), (λ e. absurd (apart first_tag second_tag refl e), (λ e. absurd (apart first_tag second_tag refl e), (λ e. absurd (apart request_verify second_tag refl e), (λ e. absurd (apart response_verify second_tag refl e), (λ e. absurd (apart response_verify second_tag refl e), tt))))))), λ e. inl refl, none_7)

abbrev acts_9 : Log
acts_9 = Made data_request (record_input 0 third_record) third_tag ∷ acts_8

none_9 : NoChance acts_9
none_9 = ((λ e. absurd (apart second_tag third_tag refl e), (λ e. absurd (apart second_tag third_tag refl e), (λ e. absurd (apart request_verify third_tag refl e), (λ e. absurd (apart first_tag third_tag refl e), (λ e. absurd (apart first_tag third_tag refl e), (λ e. absurd (apart request_verify third_tag refl e), (λ e. absurd (apart response_verify third_tag refl e), (λ e. absurd (apart response_verify third_tag refl e), tt)))))))), none_8)

abbrev acts_10 : Log
acts_10 = Checked data_request (record_input 0 third_record) third_tag third_tag ∷ acts_9

none_10 : NoChance acts_10
none_10 = ((λ e. (refl, refl), (λ e. absurd (apart second_tag third_tag refl e), (λ e. absurd (apart second_tag third_tag refl e), (λ e. absurd (apart request_verify third_tag refl e), (λ e. absurd (apart first_tag third_tag refl e), (λ e. absurd (apart first_tag third_tag refl e), (λ e. absurd (apart request_verify third_tag refl e), (λ e. absurd (apart response_verify third_tag refl e), (λ e. absurd (apart response_verify third_tag refl e), tt))))))))), λ e. inl refl, none_9)

abbrev acts_11 : Log
acts_11 = Made data_response (record_input 0 fourth_record) fourth_tag ∷ acts_10

none_11 : NoChance acts_11
none_11 = ((λ e. absurd (apart third_tag fourth_tag refl e), (λ e. absurd (apart third_tag fourth_tag refl e), (λ e. absurd (apart second_tag fourth_tag refl e), (λ e. absurd (apart second_tag fourth_tag refl e), (λ e. absurd (apart request_verify fourth_tag refl e), (λ e. absurd (apart first_tag fourth_tag refl e), (λ e. absurd (apart first_tag fourth_tag refl e), (λ e. absurd (apart request_verify fourth_tag refl e), (λ e. absurd (apart response_verify fourth_tag refl e), (λ e. absurd (apart response_verify fourth_tag refl e), tt)))))))))), none_10)

abbrev acts_12 : Log
acts_12 = Checked data_response (record_input 0 fourth_record) fourth_tag fourth_tag ∷ acts_11

none_12 : NoChance acts_12
none_12 = ((λ e. (refl, refl), (λ e. absurd (apart third_tag fourth_tag refl e), (λ e. absurd (apart third_tag fourth_tag refl e), (λ e. absurd (apart second_tag fourth_tag refl e), (λ e. absurd (apart second_tag fourth_tag refl e), (λ e. absurd (apart request_verify fourth_tag refl e), (λ e. absurd (apart first_tag fourth_tag refl e), (λ e. absurd (apart first_tag fourth_tag refl e), (λ e. absurd (apart request_verify fourth_tag refl e), (λ e. absurd (apart response_verify fourth_tag refl e), (λ e. absurd (apart response_verify fourth_tag refl e), tt))))))))))), λ e. inl refl, none_11)

pub no_chance : NoChance world.log
no_chance = subst NoChance (sym (ap (λ (w : World). w.log) world_is)) none_12
