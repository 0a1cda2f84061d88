-- What the world holds, and what its script asks for.
use Rattle.std.proofs.Common.{◌≡◌, ◌∙◌, ℕ, List, [], ◌∷◌, refl, sym, ap, subst, arith, inl, true, false, Some}
use Rattle.std.specs.Prelude.{Contains, replicate, unwrap_or}
use Rattle.std.proofs.lemmas.Option.{same_Some}
use Rattle.spdm_grammar.specs.Reading.{field_at, number_at, optional_at, behind_table, behind_tables, tables_at}
use Rattle.spdm_grammar.specs.Requests.{get_version_layout, get_capabilities_layout, negotiate_algorithms_layout, get_measurements_layout, psk_exchange_layout, psk_finish_layout, heartbeat_layout, key_update_layout, end_session_layout, chunk_send_layout, chunk_get_layout, request_body}
use Rattle.spdm_grammar.specs.Responses.{version_layout, capabilities_layout, algorithms_layout, measurements_layout, psk_exchange_rsp_layout, psk_finish_rsp_layout, heartbeat_ack_layout, key_update_ack_layout, end_session_ack_layout, chunk_send_ack_layout, chunk_response_layout, error_layout, response_body}
use Rattle.spdm_machine.specs.Terms.{terms_of}
use Rattle.spdm_machine.specs.Packets.{gathered_from}
use Rattle.requester_machine.specs.InnerMessages.{inner_led}
use Rattle.requester_machine.specs.Hearing.{on_record as here_record, hears}
use Rattle.requester_machine.specs.Asking.{asks}
use Rattle.requester_machine.specs.Session.{session_of}
use Rattle.requester_machine.specs.Does.{chosen}
use Rattle.requester_machine.specs.Requesting.{next_draw, requester_told, requester_given}
use Rattle.requester_machine.specs.Commands.{command_fault}
use Rattle.requester_machine.specs.ClearAnswers.{carried_by, clear_led}
use Rattle.requester_machine.specs.Bodies.{body_fault}
use Rattle.responder_machine.specs.Session.{session_of as there_session_of}
use Rattle.responder_machine.specs.Does.{chosen as there_chosen}
use Rattle.responder_machine.specs.Answer.{answer_bytes}
use Rattle.responder_machine.specs.Handling.{turn_of}
use Rattle.responder_machine.specs.Refusal.{refused_form, refused_contents, refusal}
use Rattle.responder_machine.specs.Responder.{on_clear, session_turn, in_session, on_record}
use Rattle.responder_machine.specs.Responding.{next_draw as there_next_draw, responder_hears}
use Rattle.world_machine.specs.World.{pumps, happens}
use Rattle.example_world.proofs.Configured.{configuration}
use Rattle.example_world.proofs.Connected.{asker, can_open, connected, is_connection, is_requester, one, other, same_setup, server}
use Rattle.example_world.proofs.Ends.{answered_data, took_data}
use Rattle.example_world.proofs.Logged.{log_end, no_chance, sent_end, world_is}
use Rattle.example_world.proofs.Walk.{at}
use Rattle.example_world.specs.Example.{HoldOne, IsHonestly, SessionOpens, data_bytes, entries, part, requester, script, setup}
use Rattle.requester_machine.specs.Message.Command.{Connect, Open}
use Rattle.requester_machine.specs.Requesting.{Requesting}
use Rattle.requester_machine.specs.Session as asking
use Rattle.requester_machine.specs.Setup.{ReqSetup}
use Rattle.responder_machine.specs.Place.{is_held}
use Rattle.responder_machine.specs.Responding.{Connection, connection_of}
use Rattle.responder_machine.specs.Session as serving
use Rattle.spdm_agreement.proofs.Requester.OwnRequests.{offer_with}
use Rattle.spdm_agreement.proofs.Worlds.Scripts.{scripts_are_configured}
use Rattle.spdm_agreement.specs.Configured.{IsConfigured}
use Rattle.spdm_basis.specs.declared.values.aead_alg.AeadAlg.TheVariants.{Aes128Gcm}
use Rattle.spdm_basis.specs.declared.values.hash_alg.HashAlg.TheVariants.{Sha256}
use Rattle.spdm_progress.proofs.PumpedScripts.{pumped_scripts_are_honest}
use Rattle.spdm_progress.proofs.Told.{contained}
use Rattle.spdm_progress.specs.Connecting.{CanConnect}
use Rattle.spdm_progress.specs.Opening.{CanOpen}
use Rattle.spdm_progress.specs.Scripts.{CanBeDone, OfEachCommand}
use Rattle.spdm_progress.specs.SessionCommands.{most_packets}
use Rattle.world_machine.specs.Agreement.{holds, requests_taken}
use Rattle.world_machine.specs.Happenings.Happening.{Pump}
use Rattle.world_machine.specs.World.{new_world}

-- ---- What each command needs.

can_connect : CanConnect asker server
can_connect = record {
  offer = offer_with 1 1;
  offered = refl;
  choice = record { hash = Sha256; aead = Aes128Gcm; measure = false };
  chosen = refl;
  request_goes = (omega arith, λ none. omega arith);
  answer_goes = (omega arith, λ none. omega arith);
}

connects : CanBeDone (new_world setup) 5 1 Connect (record { line = 6; happening = Pump most_packets } ∷ [])
connects a c is con ok =
    let same : asker ≡ a = same_Some asker a is in
    let there : server ≡ c = same_Some server c (subst (λ (x : Requesting). connection_of x.setup.eid (new_world setup).responder.connections ≡ Some c) (sym same) con) in
    subst (λ (x : Requesting). CanConnect x c) same (subst (λ (y : Connection). CanConnect asker y) there can_connect)

connection_at : (a : Requesting) (c : Connection) → one ≡ a → connection_of a.setup.eid connected.responder.connections ≡ Some c → other ≡ c
connection_at a c same con =
    let eid : a.setup.eid ≡ 9 = ap (λ (x : Requesting). x.setup.eid) (sym same) ∙ ap (λ (q : ReqSetup). q.eid) same_setup in
    same_Some other c (sym is_connection ∙ subst (λ (n : ℕ). connection_of n connected.responder.connections ≡ Some c) eid con)

opens : CanBeDone connected 7 1 (Open 0) (record { line = 8; happening = Pump most_packets } ∷ [])
opens a c is con ok =
    let same : one ≡ a = same_Some one a (sym is_requester ∙ is) in
    subst (λ (x : Requesting). CanOpen x c 0) same (subst (λ (y : Connection). CanOpen one y 0) (connection_at a c same con) can_open)

configured : IsConfigured setup
configured = scripts_are_configured (record { responder = part; requesters = requester ∷ [] }) (replicate 32 0) 0 configuration (omega arith)

each : OfEachCommand CanBeDone (new_world setup) entries
each = (connects, (tt, (opens, (tt, (λ a c is con ok. tt, (tt, tt))))))

honestly : IsHonestly
honestly =
    let runs = pumped_scripts_are_honest setup configured script (omega arith) no_chance each in
    record { honest = runs.0; idle = runs.1; can = each }

-- ---- What both ends hold.

abbrev end : Requesting
end = took_data.after

abbrev there : Connection
there = unwrap_or (connection_of 9 answered_data.after.connections) server

one_connection : answered_data.after.connections ≡ there ∷ []
unfolding field_at number_at optional_at behind_table behind_tables tables_at get_version_layout get_capabilities_layout negotiate_algorithms_layout get_measurements_layout psk_exchange_layout psk_finish_layout heartbeat_layout key_update_layout end_session_layout chunk_send_layout chunk_get_layout request_body version_layout capabilities_layout algorithms_layout measurements_layout psk_exchange_rsp_layout psk_finish_rsp_layout heartbeat_ack_layout key_update_ack_layout end_session_ack_layout chunk_send_ack_layout chunk_response_layout error_layout response_body terms_of gathered_from inner_led here_record hears asks session_of chosen next_draw requester_told requester_given command_fault carried_by clear_led body_fault there_session_of there_chosen answer_bytes turn_of refused_form refused_contents refusal on_clear session_turn in_session on_record there_next_draw responder_hears pumps happens
one_connection = refl

peer_is : there.setup.peer ≡ end.setup.eid
unfolding field_at number_at optional_at behind_table behind_tables tables_at get_version_layout get_capabilities_layout negotiate_algorithms_layout get_measurements_layout psk_exchange_layout psk_finish_layout heartbeat_layout key_update_layout end_session_layout chunk_send_layout chunk_get_layout request_body version_layout capabilities_layout algorithms_layout measurements_layout psk_exchange_rsp_layout psk_finish_rsp_layout heartbeat_ack_layout key_update_ack_layout end_session_ack_layout chunk_send_ack_layout chunk_response_layout error_layout response_body terms_of gathered_from inner_led here_record hears asks session_of chosen next_draw requester_told requester_given command_fault carried_by clear_led body_fault there_session_of there_chosen answer_bytes turn_of refused_form refused_contents refusal on_clear session_turn in_session on_record there_next_draw responder_hears pumps happens
peer_is = refl

end_holds : holds end.history 1 ≡ true
unfolding field_at number_at optional_at behind_table behind_tables tables_at get_version_layout get_capabilities_layout negotiate_algorithms_layout get_measurements_layout psk_exchange_layout psk_finish_layout heartbeat_layout key_update_layout end_session_layout chunk_send_layout chunk_get_layout request_body version_layout capabilities_layout algorithms_layout measurements_layout psk_exchange_rsp_layout psk_finish_rsp_layout heartbeat_ack_layout key_update_ack_layout end_session_ack_layout chunk_send_ack_layout chunk_response_layout error_layout response_body terms_of gathered_from inner_led here_record hears asks session_of chosen next_draw requester_told requester_given command_fault carried_by clear_led body_fault there_session_of there_chosen answer_bytes turn_of refused_form refused_contents refusal on_clear session_turn in_session on_record there_next_draw responder_hears pumps happens
end_holds = refl

there_holds : is_held there.history 1 ≡ true
unfolding field_at number_at optional_at behind_table behind_tables tables_at get_version_layout get_capabilities_layout negotiate_algorithms_layout get_measurements_layout psk_exchange_layout psk_finish_layout heartbeat_layout key_update_layout end_session_layout chunk_send_layout chunk_get_layout request_body version_layout capabilities_layout algorithms_layout measurements_layout psk_exchange_rsp_layout psk_finish_rsp_layout heartbeat_ack_layout key_update_ack_layout end_session_ack_layout chunk_send_ack_layout chunk_response_layout error_layout response_body terms_of gathered_from inner_led here_record hears asks session_of chosen next_draw requester_told requester_given command_fault carried_by clear_led body_fault there_session_of there_chosen answer_bytes turn_of refused_form refused_contents refusal on_clear session_turn in_session on_record there_next_draw responder_hears pumps happens
there_holds = refl

same_ids : asking.id_bytes (asking.session_of 1 end.history) ≡ serving.id_bytes (serving.session_of 1 there.history)
unfolding field_at number_at optional_at behind_table behind_tables tables_at get_version_layout get_capabilities_layout negotiate_algorithms_layout get_measurements_layout psk_exchange_layout psk_finish_layout heartbeat_layout key_update_layout end_session_layout chunk_send_layout chunk_get_layout request_body version_layout capabilities_layout algorithms_layout measurements_layout psk_exchange_rsp_layout psk_finish_rsp_layout heartbeat_ack_layout key_update_ack_layout end_session_ack_layout chunk_send_ack_layout chunk_response_layout error_layout response_body terms_of gathered_from inner_led here_record hears asks session_of chosen next_draw requester_told requester_given command_fault carried_by clear_led body_fault there_session_of there_chosen answer_bytes turn_of refused_form refused_contents refusal on_clear session_turn in_session on_record there_next_draw responder_hears pumps happens
same_ids = refl

same_transcript : asking.t2_of (asking.session_of 1 end.history) ≡ serving.t2_of (serving.session_of 1 there.history)
unfolding field_at number_at optional_at behind_table behind_tables tables_at get_version_layout get_capabilities_layout negotiate_algorithms_layout get_measurements_layout psk_exchange_layout psk_finish_layout heartbeat_layout key_update_layout end_session_layout chunk_send_layout chunk_get_layout request_body version_layout capabilities_layout algorithms_layout measurements_layout psk_exchange_rsp_layout psk_finish_rsp_layout heartbeat_ack_layout key_update_ack_layout end_session_ack_layout chunk_send_ack_layout chunk_response_layout error_layout response_body terms_of gathered_from inner_led here_record hears asks session_of chosen next_draw requester_told requester_given command_fault carried_by clear_led body_fault there_session_of there_chosen answer_bytes turn_of refused_form refused_contents refusal on_clear session_turn in_session on_record there_next_draw responder_hears pumps happens
same_transcript = refl

data_taken : requests_taken (asking.t2_of (asking.session_of 1 end.history)) there.history ≡ data_bytes ∷ []
unfolding field_at number_at optional_at behind_table behind_tables tables_at get_version_layout get_capabilities_layout negotiate_algorithms_layout get_measurements_layout psk_exchange_layout psk_finish_layout heartbeat_layout key_update_layout end_session_layout chunk_send_layout chunk_get_layout request_body version_layout capabilities_layout algorithms_layout measurements_layout psk_exchange_rsp_layout psk_finish_rsp_layout heartbeat_ack_layout key_update_ack_layout end_session_ack_layout chunk_send_ack_layout chunk_response_layout error_layout response_body terms_of gathered_from inner_led here_record hears asks session_of chosen next_draw requester_told requester_given command_fault carried_by clear_led body_fault there_session_of there_chosen answer_bytes turn_of refused_form refused_contents refusal on_clear session_turn in_session on_record there_next_draw responder_hears pumps happens
data_taken = refl

hold_one : HoldOne (at end answered_data.after sent_end log_end)
hold_one = record {
  asks = end;
  answers = there;
  pair = record {
    requester = contained (end ∷ []) end (inl refl);
    connection = subst (λ (cs : List Connection). Contains cs there) (sym one_connection) (contained (there ∷ []) there (inl refl));
    peer = peer_is;
  };
  req = 1;
  rsp = 1;
  held = end_holds;
  held_there = there_holds;
  ids = same_ids;
  transcript = same_transcript;
  taken = data_taken;
}

pub session_opens : SessionOpens
session_opens = (configured, no_chance, subst HoldOne (sym world_is) hold_one, honestly)
