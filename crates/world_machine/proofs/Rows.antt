-- Traces computed from the definitions. In none of them is a tag computed.
use Rattle.std.proofs.Common.{refl, ◌≡◌, List, [], ◌∷◌, true, false, None}
use Rattle.std.specs.Prelude.{replicate, codes}
use Rattle.requester_machine.specs.Asking.{asks}
use Rattle.requester_machine.specs.Bodies.{body_fault}
use Rattle.requester_machine.specs.ClearAnswers.{carried_by, clear_led}
use Rattle.requester_machine.specs.Commands.{command_fault}
use Rattle.requester_machine.specs.Does as requester_does
use Rattle.requester_machine.specs.Hearing.{hears}
use Rattle.requester_machine.specs.Message.Command.{Connect}
use Rattle.requester_machine.specs.Session as requester_session
use Rattle.spdm_grammar.specs.Reading.{field_at, number_at, optional_at, tables_at, behind_tables, behind_table}
use Rattle.spdm_grammar.specs.Requests.{request_body, get_version_layout, get_capabilities_layout, negotiate_algorithms_layout, psk_finish_layout, chunk_send_layout, chunk_get_layout}
use Rattle.spdm_grammar.specs.Responses.{response_body, version_layout, capabilities_layout, algorithms_layout, chunk_send_ack_layout, chunk_response_layout, error_layout}
use Rattle.spdm_grammar.specs.declared.messages.choice.Pick.TheVariants.{Small}
use Rattle.spdm_grammar.specs.declared.told.event.Event.TheVariants as event
use Rattle.spdm_grammar.specs.declared.told.event.Finished.TheVariants as finished
use Rattle.spdm_grammar.specs.declared.told.heard.Heard.TheVariants as heard
use Rattle.spdm_grammar.specs.declared.told.phase.Phase.TheVariants.{Fresh, Negotiated}
use Rattle.responder_machine.specs.Answer.{answer_bytes}
use Rattle.responder_machine.specs.Does as responder_does
use Rattle.responder_machine.specs.Handling.{turn_of}
use Rattle.responder_machine.specs.Refusal.{refused_form, refused_contents, refusal}
use Rattle.responder_machine.specs.Responder.{on_clear, on_record}
use Rattle.responder_machine.specs.Session as responder_session
use Rattle.spdm_machine.specs.Terms.{terms_of}
use Rattle.world_machine.specs.Happenings.{Entry}
use Rattle.world_machine.specs.Happenings.Happening.{Told, Deliver, Inject, Pump, Show}
use Rattle.spdm_grammar.specs.Lines.Line.{State, At, Command, Packet, NoPacket, ToResponder, ToRequester}
use Rattle.spdm_grammar.specs.Lines.Whose.{Requester, Responder}
use Rattle.spdm_machine.specs.Packets.{gathered_from}
use Rattle.requester_machine.specs.Requesting.{requester_told, requester_given}
use Rattle.responder_machine.specs.Responding.{responder_hears}
use Rattle.world_machine.specs.Setup.{Configuration, WorldSetup, script_world}
use Rattle.world_machine.specs.Trace.{trace_lines}
use Rattle.world_machine.specs.World.{happens, pumps}

-- `responder 8 1024 4096 64 30 mhkc`; `requester 9 1024 4096 64 0 hkc 71 31..36 -`.
abbrev setup : Configuration
setup = record {
  responder = record {
    eid = 8;
    transfer = 1024;
    max = 4096;
    unit = 64;
    beat = 30;
    flags = record { measure = true; heartbeat = true; key_update = true; chunk = true };
    opaque = [];
    blocks = [];
    suites = record { hash = Small; aead = Small };
  };
  requesters = record {
    eid = 9;
    responder = 8;
    transfer = 1024;
    max = 4096;
    unit = 64;
    pad = 0;
    flags = record { measure = false; heartbeat = true; key_update = true; chunk = true };
    hint = 0x71 ∷ [];
    psk = codes "1234567890123456";
    opaque = [];
    suites = record { hash = Small; aead = Small };
  } ∷ [];
}

-- The same with transfer size 42 at both ends.
abbrev small : Configuration
small = record {
  responder = record {
    eid = 8;
    transfer = 42;
    max = 4096;
    unit = 64;
    beat = 30;
    flags = record { measure = true; heartbeat = true; key_update = true; chunk = true };
    opaque = [];
    blocks = [];
    suites = record { hash = Small; aead = Small };
  };
  requesters = record {
    eid = 9;
    responder = 8;
    transfer = 42;
    max = 4096;
    unit = 64;
    pad = 0;
    flags = record { measure = false; heartbeat = true; key_update = true; chunk = true };
    hint = 0x71 ∷ [];
    psk = codes "1234567890123456";
    opaque = [];
    suites = record { hash = Small; aead = Small };
  } ∷ [];
}

-- The world of a script with a seed of zeros.
abbrev zeros : Configuration → WorldSetup
zeros c = script_world c (replicate 32 0) 0

abbrev configuration_alone_events : List Entry
configuration_alone_events =
    []

configuration_alone : trace_lines (zeros setup) configuration_alone_events
    ≡ State (Requester 1) Fresh
    ∷ State (Responder 1) Fresh
    ∷ []
unfolding happens pumps responder_hears requester_told requester_given gathered_from asks hears command_fault body_fault carried_by clear_led requester_does.chosen requester_session.session_of on_clear on_record refused_form refused_contents refusal turn_of answer_bytes responder_does.chosen responder_session.session_of terms_of field_at number_at optional_at tables_at behind_tables behind_table request_body response_body get_version_layout get_capabilities_layout negotiate_algorithms_layout psk_finish_layout chunk_send_layout chunk_get_layout version_layout capabilities_layout algorithms_layout chunk_send_ack_layout chunk_response_layout error_layout
configuration_alone = refl

abbrev connect_sends_get_version_events : List Entry
connect_sends_get_version_events =
    record { line = 5; happening = Told 1 Connect }
    ∷ record { line = 6; happening = Pump 1 }
    ∷ []

connect_sends_get_version : trace_lines (zeros setup) connect_sends_get_version_events
    ≡ State (Requester 1) Fresh
    ∷ State (Responder 1) Fresh
    ∷ At 5
    ∷ Command 1 None
    ∷ Packet 1 (0x01 ∷ 0x08 ∷ 0x09 ∷ 0xc8 ∷ 0x05 ∷ 0x10 ∷ 0x84 ∷ 0x00 ∷ 0x00 ∷ [])
    ∷ At 6
    ∷ ToResponder (heard.Answered 0x84)
    ∷ Packet 2 (0x01 ∷ 0x09 ∷ 0x08 ∷ 0xc0 ∷ 0x05 ∷ 0x10 ∷ 0x04 ∷ 0x00 ∷ 0x00 ∷ 0x00 ∷ 0x01 ∷ 0x00 ∷ 0x12 ∷ [])
    ∷ []
unfolding happens pumps responder_hears requester_told requester_given gathered_from asks hears command_fault body_fault carried_by clear_led requester_does.chosen requester_session.session_of on_clear on_record refused_form refused_contents refusal turn_of answer_bytes responder_does.chosen responder_session.session_of terms_of field_at number_at optional_at tables_at behind_tables behind_table request_body response_body get_version_layout get_capabilities_layout negotiate_algorithms_layout psk_finish_layout chunk_send_layout chunk_get_layout version_layout capabilities_layout algorithms_layout chunk_send_ack_layout chunk_response_layout error_layout
connect_sends_get_version = refl

abbrev version_then_capabilities_events : List Entry
version_then_capabilities_events =
    record { line = 5; happening = Told 1 Connect }
    ∷ record { line = 6; happening = Pump 3 }
    ∷ []

version_then_capabilities : trace_lines (zeros setup) version_then_capabilities_events
    ≡ State (Requester 1) Fresh
    ∷ State (Responder 1) Fresh
    ∷ At 5
    ∷ Command 1 None
    ∷ Packet 1 (0x01 ∷ 0x08 ∷ 0x09 ∷ 0xc8 ∷ 0x05 ∷ 0x10 ∷ 0x84 ∷ 0x00 ∷ 0x00 ∷ [])
    ∷ At 6
    ∷ ToResponder (heard.Answered 0x84)
    ∷ Packet 2 (0x01 ∷ 0x09 ∷ 0x08 ∷ 0xc0 ∷ 0x05 ∷ 0x10 ∷ 0x04 ∷ 0x00 ∷ 0x00 ∷ 0x00 ∷ 0x01 ∷ 0x00 ∷ 0x12 ∷ [])
    ∷ ToRequester 1 event.Progress
    ∷ Packet 3 (0x01 ∷ 0x08 ∷ 0x09 ∷ 0xc9 ∷ 0x05 ∷ 0x12 ∷ 0xe1 ∷ 0x00 ∷ 0x00 ∷ 0x00 ∷ 0x00 ∷ 0x00 ∷ 0x00 ∷ 0xc0 ∷ 0x64 ∷ 0x02 ∷ 0x00 ∷ 0x00 ∷ 0x04 ∷ 0x00 ∷ 0x00 ∷ 0x00 ∷ 0x10 ∷ 0x00 ∷ 0x00 ∷ [])
    ∷ ToResponder (heard.Answered 0xe1)
    ∷ Packet 4 (0x01 ∷ 0x09 ∷ 0x08 ∷ 0xc1 ∷ 0x05 ∷ 0x12 ∷ 0x61 ∷ 0x00 ∷ 0x00 ∷ 0x00 ∷ 0x00 ∷ 0x00 ∷ 0x00 ∷ 0xc8 ∷ 0x68 ∷ 0x02 ∷ 0x00 ∷ 0x00 ∷ 0x04 ∷ 0x00 ∷ 0x00 ∷ 0x00 ∷ 0x10 ∷ 0x00 ∷ 0x00 ∷ [])
    ∷ []
unfolding happens pumps responder_hears requester_told requester_given gathered_from asks hears command_fault body_fault carried_by clear_led requester_does.chosen requester_session.session_of on_clear on_record refused_form refused_contents refusal turn_of answer_bytes responder_does.chosen responder_session.session_of terms_of field_at number_at optional_at tables_at behind_tables behind_table request_body response_body get_version_layout get_capabilities_layout negotiate_algorithms_layout psk_finish_layout chunk_send_layout chunk_get_layout version_layout capabilities_layout algorithms_layout chunk_send_ack_layout chunk_response_layout error_layout
version_then_capabilities = refl

abbrev deliver_absent_packet_events : List Entry
deliver_absent_packet_events =
    record { line = 5; happening = Deliver 7 }
    ∷ []

deliver_absent_packet : trace_lines (zeros setup) deliver_absent_packet_events
    ≡ State (Requester 1) Fresh
    ∷ State (Responder 1) Fresh
    ∷ At 5
    ∷ NoPacket 7
    ∷ []
unfolding happens pumps responder_hears requester_told requester_given gathered_from asks hears command_fault body_fault carried_by clear_led requester_does.chosen requester_session.session_of on_clear on_record refused_form refused_contents refusal turn_of answer_bytes responder_does.chosen responder_session.session_of terms_of field_at number_at optional_at tables_at behind_tables behind_table request_body response_body get_version_layout get_capabilities_layout negotiate_algorithms_layout psk_finish_layout chunk_send_layout chunk_get_layout version_layout capabilities_layout algorithms_layout chunk_send_ack_layout chunk_response_layout error_layout
deliver_absent_packet = refl

abbrev capabilities_before_version_events : List Entry
capabilities_before_version_events =
    record { line = 5; happening = Inject (0x01 ∷ 0x08 ∷ 0x09 ∷ 0xc8 ∷ 0x05 ∷ 0x12 ∷ 0xe1 ∷ 0x00 ∷ 0x00 ∷ 0x00 ∷ 0x00 ∷ 0x00 ∷ 0x00 ∷ 0xc0 ∷ 0x64 ∷ 0x02 ∷ 0x00 ∷ 0x00 ∷ 0x04 ∷ 0x00 ∷ 0x00 ∷ 0x00 ∷ 0x10 ∷ 0x00 ∷ 0x00 ∷ []) }
    ∷ []

capabilities_before_version : trace_lines (zeros setup) capabilities_before_version_events
    ≡ State (Requester 1) Fresh
    ∷ State (Responder 1) Fresh
    ∷ At 5
    ∷ ToResponder (heard.Refused 0x04)
    ∷ Packet 1 (0x01 ∷ 0x09 ∷ 0x08 ∷ 0xc0 ∷ 0x05 ∷ 0x10 ∷ 0x7f ∷ 0x04 ∷ 0x00 ∷ [])
    ∷ []
unfolding happens pumps responder_hears requester_told requester_given gathered_from asks hears command_fault body_fault carried_by clear_led requester_does.chosen requester_session.session_of on_clear on_record refused_form refused_contents refusal turn_of answer_bytes responder_does.chosen responder_session.session_of terms_of field_at number_at optional_at tables_at behind_tables behind_table request_body response_body get_version_layout get_capabilities_layout negotiate_algorithms_layout psk_finish_layout chunk_send_layout chunk_get_layout version_layout capabilities_layout algorithms_layout chunk_send_ack_layout chunk_response_layout error_layout
capabilities_before_version = refl

abbrev get_version_of_version_12_events : List Entry
get_version_of_version_12_events =
    record { line = 5; happening = Inject (0x01 ∷ 0x08 ∷ 0x09 ∷ 0xc8 ∷ 0x05 ∷ 0x12 ∷ 0x84 ∷ 0x00 ∷ 0x00 ∷ []) }
    ∷ []

get_version_of_version_12 : trace_lines (zeros setup) get_version_of_version_12_events
    ≡ State (Requester 1) Fresh
    ∷ State (Responder 1) Fresh
    ∷ At 5
    ∷ ToResponder (heard.Refused 0x41)
    ∷ Packet 1 (0x01 ∷ 0x09 ∷ 0x08 ∷ 0xc0 ∷ 0x05 ∷ 0x10 ∷ 0x7f ∷ 0x41 ∷ 0x00 ∷ [])
    ∷ []
unfolding happens pumps responder_hears requester_told requester_given gathered_from asks hears command_fault body_fault carried_by clear_led requester_does.chosen requester_session.session_of on_clear on_record refused_form refused_contents refusal turn_of answer_bytes responder_does.chosen responder_session.session_of terms_of field_at number_at optional_at tables_at behind_tables behind_table request_body response_body get_version_layout get_capabilities_layout negotiate_algorithms_layout psk_finish_layout chunk_send_layout chunk_get_layout version_layout capabilities_layout algorithms_layout chunk_send_ack_layout chunk_response_layout error_layout
get_version_of_version_12 = refl

abbrev one_byte_message_events : List Entry
one_byte_message_events =
    record { line = 5; happening = Inject (0x01 ∷ 0x08 ∷ 0x09 ∷ 0xc8 ∷ 0x05 ∷ 0x10 ∷ []) }
    ∷ []

one_byte_message : trace_lines (zeros setup) one_byte_message_events
    ≡ State (Requester 1) Fresh
    ∷ State (Responder 1) Fresh
    ∷ At 5
    ∷ ToResponder (heard.Refused 0x01)
    ∷ Packet 1 (0x01 ∷ 0x09 ∷ 0x08 ∷ 0xc0 ∷ 0x05 ∷ 0x10 ∷ 0x7f ∷ 0x01 ∷ 0x00 ∷ [])
    ∷ []
unfolding happens pumps responder_hears requester_told requester_given gathered_from asks hears command_fault body_fault carried_by clear_led requester_does.chosen requester_session.session_of on_clear on_record refused_form refused_contents refusal turn_of answer_bytes responder_does.chosen responder_session.session_of terms_of field_at number_at optional_at tables_at behind_tables behind_table request_body response_body get_version_layout get_capabilities_layout negotiate_algorithms_layout psk_finish_layout chunk_send_layout chunk_get_layout version_layout capabilities_layout algorithms_layout chunk_send_ack_layout chunk_response_layout error_layout
one_byte_message = refl

abbrev negotiation_completes_events : List Entry
negotiation_completes_events =
    record { line = 5; happening = Told 1 Connect }
    ∷ record { line = 6; happening = Pump 6 }
    ∷ record { line = 7; happening = Show }
    ∷ []

negotiation_completes : trace_lines (zeros setup) negotiation_completes_events
    ≡ State (Requester 1) Fresh
    ∷ State (Responder 1) Fresh
    ∷ At 5
    ∷ Command 1 None
    ∷ Packet 1 (0x01 ∷ 0x08 ∷ 0x09 ∷ 0xc8 ∷ 0x05 ∷ 0x10 ∷ 0x84 ∷ 0x00 ∷ 0x00 ∷ [])
    ∷ At 6
    ∷ ToResponder (heard.Answered 0x84)
    ∷ Packet 2 (0x01 ∷ 0x09 ∷ 0x08 ∷ 0xc0 ∷ 0x05 ∷ 0x10 ∷ 0x04 ∷ 0x00 ∷ 0x00 ∷ 0x00 ∷ 0x01 ∷ 0x00 ∷ 0x12 ∷ [])
    ∷ ToRequester 1 event.Progress
    ∷ Packet 3 (0x01 ∷ 0x08 ∷ 0x09 ∷ 0xc9 ∷ 0x05 ∷ 0x12 ∷ 0xe1 ∷ 0x00 ∷ 0x00 ∷ 0x00 ∷ 0x00 ∷ 0x00 ∷ 0x00 ∷ 0xc0 ∷ 0x64 ∷ 0x02 ∷ 0x00 ∷ 0x00 ∷ 0x04 ∷ 0x00 ∷ 0x00 ∷ 0x00 ∷ 0x10 ∷ 0x00 ∷ 0x00 ∷ [])
    ∷ ToResponder (heard.Answered 0xe1)
    ∷ Packet 4 (0x01 ∷ 0x09 ∷ 0x08 ∷ 0xc1 ∷ 0x05 ∷ 0x12 ∷ 0x61 ∷ 0x00 ∷ 0x00 ∷ 0x00 ∷ 0x00 ∷ 0x00 ∷ 0x00 ∷ 0xc8 ∷ 0x68 ∷ 0x02 ∷ 0x00 ∷ 0x00 ∷ 0x04 ∷ 0x00 ∷ 0x00 ∷ 0x00 ∷ 0x10 ∷ 0x00 ∷ 0x00 ∷ [])
    ∷ ToRequester 1 event.Progress
    ∷ Packet 5 (0x01 ∷ 0x08 ∷ 0x09 ∷ 0xca ∷ 0x05 ∷ 0x12 ∷ 0xe3 ∷ 0x04 ∷ 0x00 ∷ 0x30 ∷ 0x00 ∷ 0x01 ∷ 0x02 ∷ 0x00 ∷ 0x00 ∷ 0x00 ∷ 0x00 ∷ 0x01 ∷ 0x00 ∷ 0x00 ∷ 0x00 ∷ 0x00 ∷ 0x00 ∷ 0x00 ∷ 0x00 ∷ 0x00 ∷ 0x00 ∷ 0x00 ∷ 0x00 ∷ 0x00 ∷ 0x00 ∷ 0x00 ∷ 0x00 ∷ 0x00 ∷ 0x00 ∷ 0x00 ∷ 0x00 ∷ 0x02 ∷ 0x20 ∷ 0x00 ∷ 0x00 ∷ 0x03 ∷ 0x20 ∷ 0x01 ∷ 0x00 ∷ 0x04 ∷ 0x20 ∷ 0x00 ∷ 0x00 ∷ 0x05 ∷ 0x20 ∷ 0x01 ∷ 0x00 ∷ [])
    ∷ ToResponder (heard.Answered 0xe3)
    ∷ Packet 6 (0x01 ∷ 0x09 ∷ 0x08 ∷ 0xc2 ∷ 0x05 ∷ 0x12 ∷ 0x63 ∷ 0x04 ∷ 0x00 ∷ 0x34 ∷ 0x00 ∷ 0x01 ∷ 0x02 ∷ 0x02 ∷ 0x00 ∷ 0x00 ∷ 0x00 ∷ 0x00 ∷ 0x00 ∷ 0x00 ∷ 0x00 ∷ 0x01 ∷ 0x00 ∷ 0x00 ∷ 0x00 ∷ 0x00 ∷ 0x00 ∷ 0x00 ∷ 0x00 ∷ 0x00 ∷ 0x00 ∷ 0x00 ∷ 0x00 ∷ 0x00 ∷ 0x00 ∷ 0x00 ∷ 0x00 ∷ 0x00 ∷ 0x00 ∷ 0x00 ∷ 0x00 ∷ 0x02 ∷ 0x20 ∷ 0x00 ∷ 0x00 ∷ 0x03 ∷ 0x20 ∷ 0x01 ∷ 0x00 ∷ 0x04 ∷ 0x20 ∷ 0x00 ∷ 0x00 ∷ 0x05 ∷ 0x20 ∷ 0x01 ∷ 0x00 ∷ [])
    ∷ ToRequester 1 (event.Done finished.Connected)
    ∷ At 7
    ∷ State (Requester 1) Negotiated
    ∷ State (Responder 1) Negotiated
    ∷ []
unfolding happens pumps responder_hears requester_told requester_given gathered_from asks hears command_fault body_fault carried_by clear_led requester_does.chosen requester_session.session_of on_clear on_record refused_form refused_contents refusal turn_of answer_bytes responder_does.chosen responder_session.session_of terms_of field_at number_at optional_at tables_at behind_tables behind_table request_body response_body get_version_layout get_capabilities_layout negotiate_algorithms_layout psk_finish_layout chunk_send_layout chunk_get_layout version_layout capabilities_layout algorithms_layout chunk_send_ack_layout chunk_response_layout error_layout
negotiation_completes = refl

abbrev unsupported_and_session_required_events : List Entry
unsupported_and_session_required_events =
    record { line = 5; happening = Told 1 Connect }
    ∷ record { line = 6; happening = Pump 6 }
    ∷ record { line = 7; happening = Inject (0x01 ∷ 0x08 ∷ 0x09 ∷ 0xc8 ∷ 0x05 ∷ 0x12 ∷ 0x81 ∷ 0x00 ∷ 0x00 ∷ []) }
    ∷ record { line = 8; happening = Inject (0x01 ∷ 0x08 ∷ 0x09 ∷ 0xc8 ∷ 0x05 ∷ 0x12 ∷ 0xe7 ∷ 0x00 ∷ 0x00 ∷ 0x00 ∷ 0x00 ∷ 0x00 ∷ 0x00 ∷ 0x00 ∷ 0x00 ∷ 0x00 ∷ 0x00 ∷ 0x00 ∷ 0x00 ∷ 0x00 ∷ 0x00 ∷ 0x00 ∷ 0x00 ∷ 0x00 ∷ 0x00 ∷ 0x00 ∷ 0x00 ∷ 0x00 ∷ 0x00 ∷ 0x00 ∷ 0x00 ∷ 0x00 ∷ 0x00 ∷ 0x00 ∷ 0x00 ∷ 0x00 ∷ 0x00 ∷ 0x00 ∷ 0x00 ∷ 0x00 ∷ 0x00 ∷ []) }
    ∷ record { line = 9; happening = Show }
    ∷ []

unsupported_and_session_required : trace_lines (zeros setup) unsupported_and_session_required_events
    ≡ State (Requester 1) Fresh
    ∷ State (Responder 1) Fresh
    ∷ At 5
    ∷ Command 1 None
    ∷ Packet 1 (0x01 ∷ 0x08 ∷ 0x09 ∷ 0xc8 ∷ 0x05 ∷ 0x10 ∷ 0x84 ∷ 0x00 ∷ 0x00 ∷ [])
    ∷ At 6
    ∷ ToResponder (heard.Answered 0x84)
    ∷ Packet 2 (0x01 ∷ 0x09 ∷ 0x08 ∷ 0xc0 ∷ 0x05 ∷ 0x10 ∷ 0x04 ∷ 0x00 ∷ 0x00 ∷ 0x00 ∷ 0x01 ∷ 0x00 ∷ 0x12 ∷ [])
    ∷ ToRequester 1 event.Progress
    ∷ Packet 3 (0x01 ∷ 0x08 ∷ 0x09 ∷ 0xc9 ∷ 0x05 ∷ 0x12 ∷ 0xe1 ∷ 0x00 ∷ 0x00 ∷ 0x00 ∷ 0x00 ∷ 0x00 ∷ 0x00 ∷ 0xc0 ∷ 0x64 ∷ 0x02 ∷ 0x00 ∷ 0x00 ∷ 0x04 ∷ 0x00 ∷ 0x00 ∷ 0x00 ∷ 0x10 ∷ 0x00 ∷ 0x00 ∷ [])
    ∷ ToResponder (heard.Answered 0xe1)
    ∷ Packet 4 (0x01 ∷ 0x09 ∷ 0x08 ∷ 0xc1 ∷ 0x05 ∷ 0x12 ∷ 0x61 ∷ 0x00 ∷ 0x00 ∷ 0x00 ∷ 0x00 ∷ 0x00 ∷ 0x00 ∷ 0xc8 ∷ 0x68 ∷ 0x02 ∷ 0x00 ∷ 0x00 ∷ 0x04 ∷ 0x00 ∷ 0x00 ∷ 0x00 ∷ 0x10 ∷ 0x00 ∷ 0x00 ∷ [])
    ∷ ToRequester 1 event.Progress
    ∷ Packet 5 (0x01 ∷ 0x08 ∷ 0x09 ∷ 0xca ∷ 0x05 ∷ 0x12 ∷ 0xe3 ∷ 0x04 ∷ 0x00 ∷ 0x30 ∷ 0x00 ∷ 0x01 ∷ 0x02 ∷ 0x00 ∷ 0x00 ∷ 0x00 ∷ 0x00 ∷ 0x01 ∷ 0x00 ∷ 0x00 ∷ 0x00 ∷ 0x00 ∷ 0x00 ∷ 0x00 ∷ 0x00 ∷ 0x00 ∷ 0x00 ∷ 0x00 ∷ 0x00 ∷ 0x00 ∷ 0x00 ∷ 0x00 ∷ 0x00 ∷ 0x00 ∷ 0x00 ∷ 0x00 ∷ 0x00 ∷ 0x02 ∷ 0x20 ∷ 0x00 ∷ 0x00 ∷ 0x03 ∷ 0x20 ∷ 0x01 ∷ 0x00 ∷ 0x04 ∷ 0x20 ∷ 0x00 ∷ 0x00 ∷ 0x05 ∷ 0x20 ∷ 0x01 ∷ 0x00 ∷ [])
    ∷ ToResponder (heard.Answered 0xe3)
    ∷ Packet 6 (0x01 ∷ 0x09 ∷ 0x08 ∷ 0xc2 ∷ 0x05 ∷ 0x12 ∷ 0x63 ∷ 0x04 ∷ 0x00 ∷ 0x34 ∷ 0x00 ∷ 0x01 ∷ 0x02 ∷ 0x02 ∷ 0x00 ∷ 0x00 ∷ 0x00 ∷ 0x00 ∷ 0x00 ∷ 0x00 ∷ 0x00 ∷ 0x01 ∷ 0x00 ∷ 0x00 ∷ 0x00 ∷ 0x00 ∷ 0x00 ∷ 0x00 ∷ 0x00 ∷ 0x00 ∷ 0x00 ∷ 0x00 ∷ 0x00 ∷ 0x00 ∷ 0x00 ∷ 0x00 ∷ 0x00 ∷ 0x00 ∷ 0x00 ∷ 0x00 ∷ 0x00 ∷ 0x02 ∷ 0x20 ∷ 0x00 ∷ 0x00 ∷ 0x03 ∷ 0x20 ∷ 0x01 ∷ 0x00 ∷ 0x04 ∷ 0x20 ∷ 0x00 ∷ 0x00 ∷ 0x05 ∷ 0x20 ∷ 0x01 ∷ 0x00 ∷ [])
    ∷ ToRequester 1 (event.Done finished.Connected)
    ∷ At 7
    ∷ ToResponder (heard.Refused 0x07)
    ∷ Packet 7 (0x01 ∷ 0x09 ∷ 0x08 ∷ 0xc0 ∷ 0x05 ∷ 0x12 ∷ 0x7f ∷ 0x07 ∷ 0x81 ∷ [])
    ∷ At 8
    ∷ ToResponder (heard.Refused 0x0b)
    ∷ Packet 8 (0x01 ∷ 0x09 ∷ 0x08 ∷ 0xc0 ∷ 0x05 ∷ 0x12 ∷ 0x7f ∷ 0x0b ∷ 0x00 ∷ [])
    ∷ At 9
    ∷ State (Requester 1) Negotiated
    ∷ State (Responder 1) Negotiated
    ∷ []
unfolding happens pumps responder_hears requester_told requester_given gathered_from asks hears command_fault body_fault carried_by clear_led requester_does.chosen requester_session.session_of on_clear on_record refused_form refused_contents refusal turn_of answer_bytes responder_does.chosen responder_session.session_of terms_of field_at number_at optional_at tables_at behind_tables behind_table request_body response_body get_version_layout get_capabilities_layout negotiate_algorithms_layout psk_finish_layout chunk_send_layout chunk_get_layout version_layout capabilities_layout algorithms_layout chunk_send_ack_layout chunk_response_layout error_layout
unsupported_and_session_required = refl

abbrev negotiation_by_chunks_events : List Entry
negotiation_by_chunks_events =
    record { line = 5; happening = Told 1 Connect }
    ∷ record { line = 6; happening = Pump 100 }
    ∷ record { line = 7; happening = Show }
    ∷ []

negotiation_by_chunks : trace_lines (zeros small) negotiation_by_chunks_events
    ≡ State (Requester 1) Fresh
    ∷ State (Responder 1) Fresh
    ∷ At 5
    ∷ Command 1 None
    ∷ Packet 1 (0x01 ∷ 0x08 ∷ 0x09 ∷ 0xc8 ∷ 0x05 ∷ 0x10 ∷ 0x84 ∷ 0x00 ∷ 0x00 ∷ [])
    ∷ At 6
    ∷ ToResponder (heard.Answered 0x84)
    ∷ Packet 2 (0x01 ∷ 0x09 ∷ 0x08 ∷ 0xc0 ∷ 0x05 ∷ 0x10 ∷ 0x04 ∷ 0x00 ∷ 0x00 ∷ 0x00 ∷ 0x01 ∷ 0x00 ∷ 0x12 ∷ [])
    ∷ ToRequester 1 event.Progress
    ∷ Packet 3 (0x01 ∷ 0x08 ∷ 0x09 ∷ 0xc9 ∷ 0x05 ∷ 0x12 ∷ 0xe1 ∷ 0x00 ∷ 0x00 ∷ 0x00 ∷ 0x00 ∷ 0x00 ∷ 0x00 ∷ 0xc0 ∷ 0x64 ∷ 0x02 ∷ 0x00 ∷ 0x2a ∷ 0x00 ∷ 0x00 ∷ 0x00 ∷ 0x00 ∷ 0x10 ∷ 0x00 ∷ 0x00 ∷ [])
    ∷ ToResponder (heard.Answered 0xe1)
    ∷ Packet 4 (0x01 ∷ 0x09 ∷ 0x08 ∷ 0xc1 ∷ 0x05 ∷ 0x12 ∷ 0x61 ∷ 0x00 ∷ 0x00 ∷ 0x00 ∷ 0x00 ∷ 0x00 ∷ 0x00 ∷ 0xc8 ∷ 0x68 ∷ 0x02 ∷ 0x00 ∷ 0x2a ∷ 0x00 ∷ 0x00 ∷ 0x00 ∷ 0x00 ∷ 0x10 ∷ 0x00 ∷ 0x00 ∷ [])
    ∷ ToRequester 1 event.Progress
    ∷ Packet 5 (0x01 ∷ 0x08 ∷ 0x09 ∷ 0xca ∷ 0x05 ∷ 0x12 ∷ 0x85 ∷ 0x00 ∷ 0x00 ∷ 0x00 ∷ 0x00 ∷ 0x00 ∷ 0x00 ∷ 0x1a ∷ 0x00 ∷ 0x00 ∷ 0x00 ∷ 0x30 ∷ 0x00 ∷ 0x00 ∷ 0x00 ∷ 0x12 ∷ 0xe3 ∷ 0x04 ∷ 0x00 ∷ 0x30 ∷ 0x00 ∷ 0x01 ∷ 0x02 ∷ 0x00 ∷ 0x00 ∷ 0x00 ∷ 0x00 ∷ 0x01 ∷ 0x00 ∷ 0x00 ∷ 0x00 ∷ 0x00 ∷ 0x00 ∷ 0x00 ∷ 0x00 ∷ 0x00 ∷ 0x00 ∷ 0x00 ∷ 0x00 ∷ 0x00 ∷ 0x00 ∷ [])
    ∷ ToResponder (heard.Answered 0x85)
    ∷ Packet 6 (0x01 ∷ 0x09 ∷ 0x08 ∷ 0xc2 ∷ 0x05 ∷ 0x12 ∷ 0x05 ∷ 0x00 ∷ 0x00 ∷ 0x00 ∷ 0x00 ∷ [])
    ∷ ToRequester 1 event.Progress
    ∷ Packet 7 (0x01 ∷ 0x08 ∷ 0x09 ∷ 0xcb ∷ 0x05 ∷ 0x12 ∷ 0x85 ∷ 0x01 ∷ 0x00 ∷ 0x01 ∷ 0x00 ∷ 0x00 ∷ 0x00 ∷ 0x16 ∷ 0x00 ∷ 0x00 ∷ 0x00 ∷ 0x00 ∷ 0x00 ∷ 0x00 ∷ 0x00 ∷ 0x00 ∷ 0x00 ∷ 0x02 ∷ 0x20 ∷ 0x00 ∷ 0x00 ∷ 0x03 ∷ 0x20 ∷ 0x01 ∷ 0x00 ∷ 0x04 ∷ 0x20 ∷ 0x00 ∷ 0x00 ∷ 0x05 ∷ 0x20 ∷ 0x01 ∷ 0x00 ∷ [])
    ∷ ToResponder (heard.Answered 0x85)
    ∷ Packet 8 (0x01 ∷ 0x09 ∷ 0x08 ∷ 0xc3 ∷ 0x05 ∷ 0x12 ∷ 0x05 ∷ 0x00 ∷ 0x00 ∷ 0x01 ∷ 0x00 ∷ 0x12 ∷ 0x7f ∷ 0x0f ∷ 0x00 ∷ 0x00 ∷ [])
    ∷ ToRequester 1 event.Progress
    ∷ Packet 9 (0x01 ∷ 0x08 ∷ 0x09 ∷ 0xcc ∷ 0x05 ∷ 0x12 ∷ 0x86 ∷ 0x00 ∷ 0x00 ∷ 0x00 ∷ 0x00 ∷ [])
    ∷ ToResponder (heard.Answered 0x86)
    ∷ Packet 10 (0x01 ∷ 0x09 ∷ 0x08 ∷ 0xc4 ∷ 0x05 ∷ 0x12 ∷ 0x06 ∷ 0x00 ∷ 0x00 ∷ 0x00 ∷ 0x00 ∷ 0x00 ∷ 0x00 ∷ 0x1a ∷ 0x00 ∷ 0x00 ∷ 0x00 ∷ 0x34 ∷ 0x00 ∷ 0x00 ∷ 0x00 ∷ 0x12 ∷ 0x63 ∷ 0x04 ∷ 0x00 ∷ 0x34 ∷ 0x00 ∷ 0x01 ∷ 0x02 ∷ 0x02 ∷ 0x00 ∷ 0x00 ∷ 0x00 ∷ 0x00 ∷ 0x00 ∷ 0x00 ∷ 0x00 ∷ 0x01 ∷ 0x00 ∷ 0x00 ∷ 0x00 ∷ 0x00 ∷ 0x00 ∷ 0x00 ∷ 0x00 ∷ 0x00 ∷ 0x00 ∷ [])
    ∷ ToRequester 1 event.Progress
    ∷ Packet 11 (0x01 ∷ 0x08 ∷ 0x09 ∷ 0xcd ∷ 0x05 ∷ 0x12 ∷ 0x86 ∷ 0x00 ∷ 0x00 ∷ 0x01 ∷ 0x00 ∷ [])
    ∷ ToResponder (heard.Answered 0x86)
    ∷ Packet 12 (0x01 ∷ 0x09 ∷ 0x08 ∷ 0xc5 ∷ 0x05 ∷ 0x12 ∷ 0x06 ∷ 0x01 ∷ 0x00 ∷ 0x01 ∷ 0x00 ∷ 0x00 ∷ 0x00 ∷ 0x1a ∷ 0x00 ∷ 0x00 ∷ 0x00 ∷ 0x00 ∷ 0x00 ∷ 0x00 ∷ 0x00 ∷ 0x00 ∷ 0x00 ∷ 0x00 ∷ 0x00 ∷ 0x00 ∷ 0x00 ∷ 0x02 ∷ 0x20 ∷ 0x00 ∷ 0x00 ∷ 0x03 ∷ 0x20 ∷ 0x01 ∷ 0x00 ∷ 0x04 ∷ 0x20 ∷ 0x00 ∷ 0x00 ∷ 0x05 ∷ 0x20 ∷ 0x01 ∷ 0x00 ∷ [])
    ∷ ToRequester 1 (event.Done finished.Connected)
    ∷ At 7
    ∷ State (Requester 1) Negotiated
    ∷ State (Responder 1) Negotiated
    ∷ []
unfolding happens pumps responder_hears requester_told requester_given gathered_from asks hears command_fault body_fault carried_by clear_led requester_does.chosen requester_session.session_of on_clear on_record refused_form refused_contents refusal turn_of answer_bytes responder_does.chosen responder_session.session_of terms_of field_at number_at optional_at tables_at behind_tables behind_table request_body response_body get_version_layout get_capabilities_layout negotiate_algorithms_layout psk_finish_layout chunk_send_layout chunk_get_layout version_layout capabilities_layout algorithms_layout chunk_send_ack_layout chunk_response_layout error_layout
negotiation_by_chunks = refl
