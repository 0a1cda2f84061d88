-- Captures that conform, computed from the definitions. In none of them is a tag computed.
use Rattle.std.proofs.Common.{refl, ℕ, List, [], ◌∷◌, true, false, inl, inr, lit≤, lit<, reverse, map, subst}
use Rattle.std.specs.Prelude.{replicate, codes}
use Rattle.std.proofs.Common.{sym}
use Rattle.std.proofs.lemmas.Bool.{false≢true}
use Rattle.std.proofs.lemmas.Option.{none-some}
use Rattle.requester_machine.specs.Asking.{asks}
use Rattle.requester_machine.specs.Bodies.{body_fault}
use Rattle.requester_machine.specs.ClearAnswers.{carried_by, clear_led}
use Rattle.requester_machine.specs.Commands as commands
use Rattle.requester_machine.specs.Commands.{command_fault}
use Rattle.requester_machine.specs.Hearing.{hears}
use Rattle.requester_machine.specs.Session as requester_session
use Rattle.spdm_grammar.specs.Reading.{field_at, number_at, optional_at, tables_at, behind_tables, behind_table}
use Rattle.spdm_grammar.specs.Requests.{request_body, get_version_layout, get_capabilities_layout, negotiate_algorithms_layout, psk_finish_layout, chunk_send_layout, chunk_get_layout}
use Rattle.spdm_grammar.specs.Responses.{response_body, version_layout, capabilities_layout, algorithms_layout, chunk_send_ack_layout, chunk_response_layout, error_layout}
use Rattle.spdm_grammar.specs.declared.messages.choice.Pick.TheVariants.{Small}
use Rattle.responder_machine.specs.Answer as answer
use Rattle.responder_machine.specs.Answer.{answer_bytes}
use Rattle.responder_machine.specs.Handling.{turn_of}
use Rattle.responder_machine.specs.Refusal.{refused_form, refused_contents, refusal}
use Rattle.responder_machine.specs.Responder.{on_clear, on_record}
use Rattle.responder_machine.specs.Session as responder_session
use Rattle.spdm_machine.specs.Terms.{terms_of}
use Rattle.capture_machine.specs.Capture.{Conforms, IsFirstDifference, Leads, Follows}
use Rattle.capture_machine.specs.CapturedAnswers.{Answers, Hears, MayLeadTo}
use Rattle.capture_machine.specs.CapturedRequests.{Sends}
use Rattle.capture_machine.specs.Rounds.{Dialogue, new_dialogue}
use Rattle.capture_machine.specs.Difference.{IsApartBy, IsDifference, IsOtherwiseWrong, IsVerifyApart}
use Rattle.capture_machine.specs.Difference.Why.{WrongTurn}
use Rattle.spdm_machine.specs.Packets.{gathered_from}
use Rattle.mctp_framing.specs.Packet.{parsed}
use Rattle.world_machine.specs.Setup.{Configuration}

-- `responder 8 1024 4096 64 30 mhkc`; `requester 9 1024 4096 64 0 hkc 71 31..36 -`.
abbrev setup : Configuration
setup = record {
  responder = record {
    eid = 8;
    transfer = 1024;
    max = 4096;
    unit = 64;
    beat = 30;
    flags = record { measure = true; heartbeat = true; key_update = true; chunk = true };
    opaque = [];
    blocks = [];
    suites = record { hash = Small; aead = Small };
  };
  requesters = record {
    eid = 9;
    responder = 8;
    transfer = 1024;
    max = 4096;
    unit = 64;
    pad = 0;
    flags = record { measure = false; heartbeat = true; key_update = true; chunk = true };
    hint = 0x71 ∷ [];
    psk = codes "1234567890123456";
    opaque = [];
    suites = record { hash = Small; aead = Small };
  } ∷ [];
}

-- Free values that are allowed while no session is live.
abbrev asked : commands.Free
asked = record { id = 1; context = replicate 32 0; opaque = []; pad = [] }

abbrev answered : ℕ → answer.Free
answered handle = record { id = 1; context = replicate 32 0; exchange_opaque = []; nonce = replicate 32 0; measured_opaque = []; handle = handle; reply = []; pad = [] }

-- GET_VERSION and VERSION.
abbrev first_packets : List (List ℕ)
first_packets =
    (0x01 ∷ 0x08 ∷ 0x09 ∷ 0xc8 ∷ 0x05 ∷ 0x10 ∷ 0x84 ∷ 0x00 ∷ 0x00 ∷ [])
    ∷ (0x01 ∷ 0x09 ∷ 0x08 ∷ 0xc0 ∷ 0x05 ∷ 0x10 ∷ 0x04 ∷ 0x00 ∷ 0x00 ∷ 0x00 ∷ 0x01 ∷ 0x00 ∷ 0x12 ∷ [])
    ∷ []

empty_conforms : Conforms setup []
empty_conforms = (_, refl)

first_capture_conforms : Conforms setup first_packets
unfolding Follows Sends Answers Hears MayLeadTo gathered_from asks hears command_fault body_fault carried_by clear_led requester_session.session_of on_clear on_record refused_form refused_contents refusal turn_of answer_bytes responder_session.session_of terms_of field_at number_at optional_at tables_at behind_tables behind_table request_body response_body get_version_layout get_capabilities_layout negotiate_algorithms_layout psk_finish_layout chunk_send_layout chunk_get_layout version_layout capabilities_layout algorithms_layout chunk_send_ack_layout chunk_response_layout error_layout
first_capture_conforms = (
  _,
  (
    _,
    (
      _,
      refl,
      (
        _,
        (refl, refl, inr (refl, refl, (_, _, inl (inl (_, (asked, record { least = lit≤ tt; most = lit≤ tt; unused = λ _. refl; context = lit≤ tt; opaque = lit≤ tt; exchange = lit≤ tt; pad = lit≤ tt }, refl), refl, refl, refl), refl), refl))),
        refl,
      ),
    ),
    (
      _,
      (refl, refl, (_, refl, refl, lit< tt, (_, _, inl (([], _, (tt, (answered 0, record { least = lit≤ tt; most = lit≤ tt; unused = λ _. refl; context = lit≤ tt; exchange_opaque = lit≤ tt; nonce = refl; measured_opaque = lit≤ tt; handle = lit< tt; reply = lit≤ tt; pad = lit≤ tt }, lit≤ tt, refl)), tt, refl, refl, refl), refl), (_, (_, (asked, record { least = lit≤ tt; most = lit≤ tt; unused = λ _. refl; context = lit≤ tt; opaque = lit≤ tt; exchange = lit≤ tt; pad = lit≤ tt }, refl), refl), refl, refl)))),
      refl,
    ),
  ),
)

-- VERSION alone: no round has begun that it could belong to.
abbrev version_packet : List ℕ
version_packet = 0x01 ∷ 0x09 ∷ 0x08 ∷ 0xc0 ∷ 0x05 ∷ 0x10 ∷ 0x04 ∷ 0x00 ∷ 0x00 ∷ 0x00 ∷ 0x01 ∷ 0x00 ∷ 0x12 ∷ []

none_answers : (next : List Dialogue) → Follows setup [] (map new_dialogue setup.requesters) version_packet next → ⊥
unfolding Follows gathered_from
none_answers next steps = none-some steps.1.2.0 steps.1.2.1

version_is_first : IsFirstDifference setup (version_packet ∷ []) 1
version_is_first = record {
  least = lit< tt;
  most = lit< tt;
  before = (_, refl);
  at = λ conforms. let P : List Dialogue → Type 0 = λ before. Follows setup [] before version_packet conforms.0 in
      none_answers conforms.0 (subst P conforms.1.1 conforms.1.2);
}

none_is_apart : IsApartBy setup [] (map new_dialogue setup.requesters) (parsed version_packet) → ⊥
unfolding gathered_from
none_is_apart apart = absurd (false≢true (sym apart.0))

version_alone_differs : IsDifference setup (version_packet ∷ []) 1 WrongTurn
unfolding IsVerifyApart IsOtherwiseWrong gathered_from
version_alone_differs = record {
  first = version_is_first;
  reason = (
    λ apart. let P : List Dialogue → Type 0 = λ before. IsApartBy setup [] before (parsed version_packet) in
        none_is_apart (subst P apart.1 apart.2),
    (_, refl, refl),
  );
}

-- Transfer size 42 at both ends.
abbrev small : Configuration
small = record setup {
  responder = record setup.responder { transfer = 42 };
  requesters = record {
    eid = 9;
    responder = 8;
    transfer = 42;
    max = 4096;
    unit = 64;
    pad = 0;
    flags = record { measure = false; heartbeat = true; key_update = true; chunk = true };
    hint = 0x71 ∷ [];
    psk = codes "1234567890123456";
    opaque = [];
    suites = record { hash = Small; aead = Small };
  } ∷ [];
}

-- The offer and the answer to it.
abbrev offer : List ℕ
offer = 0x12 ∷ 0xe3 ∷ 0x04 ∷ 0x00 ∷ 0x30 ∷ 0x00 ∷ 0x01 ∷ 0x02 ∷ 0x00 ∷ 0x00 ∷ 0x00 ∷ 0x00 ∷ 0x01 ∷ 0x00 ∷ 0x00 ∷ 0x00 ∷ 0x00 ∷ 0x00 ∷ 0x00 ∷ 0x00 ∷ 0x00 ∷ 0x00 ∷ 0x00 ∷ 0x00 ∷ 0x00 ∷ 0x00 ∷ 0x00 ∷ 0x00 ∷ 0x00 ∷ 0x00 ∷ 0x00 ∷ 0x00 ∷ 0x02 ∷ 0x20 ∷ 0x00 ∷ 0x00 ∷ 0x03 ∷ 0x20 ∷ 0x01 ∷ 0x00 ∷ 0x04 ∷ 0x20 ∷ 0x00 ∷ 0x00 ∷ 0x05 ∷ 0x20 ∷ 0x01 ∷ 0x00 ∷ []

abbrev algorithms : List ℕ
algorithms = 0x12 ∷ 0x63 ∷ 0x04 ∷ 0x00 ∷ 0x34 ∷ 0x00 ∷ 0x01 ∷ 0x02 ∷ 0x02 ∷ 0x00 ∷ 0x00 ∷ 0x00 ∷ 0x00 ∷ 0x00 ∷ 0x00 ∷ 0x00 ∷ 0x01 ∷ 0x00 ∷ 0x00 ∷ 0x00 ∷ 0x00 ∷ 0x00 ∷ 0x00 ∷ 0x00 ∷ 0x00 ∷ 0x00 ∷ 0x00 ∷ 0x00 ∷ 0x00 ∷ 0x00 ∷ 0x00 ∷ 0x00 ∷ 0x00 ∷ 0x00 ∷ 0x00 ∷ 0x00 ∷ 0x02 ∷ 0x20 ∷ 0x00 ∷ 0x00 ∷ 0x03 ∷ 0x20 ∷ 0x01 ∷ 0x00 ∷ 0x04 ∷ 0x20 ∷ 0x00 ∷ 0x00 ∷ 0x05 ∷ 0x20 ∷ 0x01 ∷ 0x00 ∷ []

-- GET_VERSION and VERSION.
abbrev packets_2 : List (List ℕ)
packets_2 =
    (0x01 ∷ 0x09 ∷ 0x08 ∷ 0xc0 ∷ 0x05 ∷ 0x10 ∷ 0x04 ∷ 0x00 ∷ 0x00 ∷ 0x00 ∷ 0x01 ∷ 0x00 ∷ 0x12 ∷ [])
    ∷ (0x01 ∷ 0x08 ∷ 0x09 ∷ 0xc8 ∷ 0x05 ∷ 0x10 ∷ 0x84 ∷ 0x00 ∷ 0x00 ∷ [])
    ∷ []

after_2 : (ds : List Dialogue) × Leads small packets_2 ds
unfolding Follows Sends Answers Hears MayLeadTo gathered_from asks hears command_fault body_fault carried_by clear_led requester_session.session_of on_clear on_record refused_form refused_contents refusal turn_of answer_bytes responder_session.session_of terms_of field_at number_at optional_at tables_at behind_tables behind_table request_body response_body get_version_layout get_capabilities_layout negotiate_algorithms_layout psk_finish_layout chunk_send_layout chunk_get_layout version_layout capabilities_layout algorithms_layout chunk_send_ack_layout chunk_response_layout error_layout
after_2 = (
  _,
  (
    _,
    (
      _,
      refl,
      (
        _,
        (refl, refl, inr (refl, refl, (_, _, inl (inl (_, (asked, record { least = lit≤ tt; most = lit≤ tt; unused = λ _. refl; context = lit≤ tt; opaque = lit≤ tt; exchange = lit≤ tt; pad = lit≤ tt }, refl), refl, refl, refl), refl), refl))),
        refl,
      ),
    ),
    (
      _,
      (refl, refl, (_, refl, refl, lit< tt, (_, _, inl (([], _, (tt, (answered 0, record { least = lit≤ tt; most = lit≤ tt; unused = λ _. refl; context = lit≤ tt; exchange_opaque = lit≤ tt; nonce = refl; measured_opaque = lit≤ tt; handle = lit< tt; reply = lit≤ tt; pad = lit≤ tt }, lit≤ tt, refl)), tt, refl, refl, refl), refl), (_, (_, (asked, record { least = lit≤ tt; most = lit≤ tt; unused = λ _. refl; context = lit≤ tt; opaque = lit≤ tt; exchange = lit≤ tt; pad = lit≤ tt }, refl), refl), refl, refl)))),
      refl,
    ),
  ),
)

-- GET_CAPABILITIES and CAPABILITIES.
abbrev packets_4 : List (List ℕ)
packets_4 =
    (0x01 ∷ 0x09 ∷ 0x08 ∷ 0xc1 ∷ 0x05 ∷ 0x12 ∷ 0x61 ∷ 0x00 ∷ 0x00 ∷ 0x00 ∷ 0x00 ∷ 0x00 ∷ 0x00 ∷ 0xc8 ∷ 0x68 ∷ 0x02 ∷ 0x00 ∷ 0x2a ∷ 0x00 ∷ 0x00 ∷ 0x00 ∷ 0x00 ∷ 0x10 ∷ 0x00 ∷ 0x00 ∷ [])
    ∷ (0x01 ∷ 0x08 ∷ 0x09 ∷ 0xc9 ∷ 0x05 ∷ 0x12 ∷ 0xe1 ∷ 0x00 ∷ 0x00 ∷ 0x00 ∷ 0x00 ∷ 0x00 ∷ 0x00 ∷ 0xc0 ∷ 0x64 ∷ 0x02 ∷ 0x00 ∷ 0x2a ∷ 0x00 ∷ 0x00 ∷ 0x00 ∷ 0x00 ∷ 0x10 ∷ 0x00 ∷ 0x00 ∷ [])
    ∷ packets_2

after_4 : (ds : List Dialogue) × Leads small packets_4 ds
unfolding Follows Sends Answers Hears MayLeadTo gathered_from asks hears command_fault body_fault carried_by clear_led requester_session.session_of on_clear on_record refused_form refused_contents refusal turn_of answer_bytes responder_session.session_of terms_of field_at number_at optional_at tables_at behind_tables behind_table request_body response_body get_version_layout get_capabilities_layout negotiate_algorithms_layout psk_finish_layout chunk_send_layout chunk_get_layout version_layout capabilities_layout algorithms_layout chunk_send_ack_layout chunk_response_layout error_layout after_2
after_4 = (
  _,
  (
    _,
    (
      after_2.0,
      after_2.1,
      (
        _,
        (refl, refl, inr (refl, refl, (_, _, inr (inl (_, (refl, refl), refl, refl, tt, refl, refl)), refl))),
        refl,
      ),
    ),
    (
      _,
      (refl, refl, (_, refl, refl, lit< tt, (_, _, inl (([], _, (tt, (answered 0, record { least = lit≤ tt; most = lit≤ tt; unused = λ _. refl; context = lit≤ tt; exchange_opaque = lit≤ tt; nonce = refl; measured_opaque = lit≤ tt; handle = lit< tt; reply = lit≤ tt; pad = lit≤ tt }, lit≤ tt, refl)), tt, refl, refl, refl), refl), (_, (_, (asked, record { least = lit≤ tt; most = lit≤ tt; unused = λ _. refl; context = lit≤ tt; opaque = lit≤ tt; exchange = lit≤ tt; pad = lit≤ tt }, refl), refl), refl, refl)))),
      refl,
    ),
  ),
)

-- The first chunk of the offer, and its acknowledgement.
abbrev packets_6 : List (List ℕ)
packets_6 =
    (0x01 ∷ 0x09 ∷ 0x08 ∷ 0xc2 ∷ 0x05 ∷ 0x12 ∷ 0x05 ∷ 0x00 ∷ 0x00 ∷ 0x00 ∷ 0x00 ∷ [])
    ∷ (0x01 ∷ 0x08 ∷ 0x09 ∷ 0xca ∷ 0x05 ∷ 0x12 ∷ 0x85 ∷ 0x00 ∷ 0x00 ∷ 0x00 ∷ 0x00 ∷ 0x00 ∷ 0x00 ∷ 0x1a ∷ 0x00 ∷ 0x00 ∷ 0x00 ∷ 0x30 ∷ 0x00 ∷ 0x00 ∷ 0x00 ∷ 0x12 ∷ 0xe3 ∷ 0x04 ∷ 0x00 ∷ 0x30 ∷ 0x00 ∷ 0x01 ∷ 0x02 ∷ 0x00 ∷ 0x00 ∷ 0x00 ∷ 0x00 ∷ 0x01 ∷ 0x00 ∷ 0x00 ∷ 0x00 ∷ 0x00 ∷ 0x00 ∷ 0x00 ∷ 0x00 ∷ 0x00 ∷ 0x00 ∷ 0x00 ∷ 0x00 ∷ 0x00 ∷ 0x00 ∷ [])
    ∷ packets_4

after_6 : (ds : List Dialogue) × Leads small packets_6 ds
unfolding Follows Sends Answers Hears MayLeadTo gathered_from asks hears command_fault body_fault carried_by clear_led requester_session.session_of on_clear on_record refused_form refused_contents refusal turn_of answer_bytes responder_session.session_of terms_of field_at number_at optional_at tables_at behind_tables behind_table request_body response_body get_version_layout get_capabilities_layout negotiate_algorithms_layout psk_finish_layout chunk_send_layout chunk_get_layout version_layout capabilities_layout algorithms_layout chunk_send_ack_layout chunk_response_layout error_layout after_4
after_6 = (
  _,
  (
    _,
    (
      after_4.0,
      after_4.1,
      (
        _,
        (refl, refl, inr (refl, refl, (_, _, inr (inr (offer, inr (_, _, (refl, refl), refl, refl, (refl, refl, lit≤ tt), refl, refl), refl)), refl))),
        refl,
      ),
    ),
    (
      _,
      (refl, refl, (_, refl, refl, lit< tt, (_, _, inl (([], _, (tt, (answered 0, record { least = lit≤ tt; most = lit≤ tt; unused = λ _. refl; context = lit≤ tt; exchange_opaque = lit≤ tt; nonce = refl; measured_opaque = lit≤ tt; handle = lit< tt; reply = lit≤ tt; pad = lit≤ tt }, lit≤ tt, refl)), tt, refl, refl, refl), refl), (_, refl, refl, refl)))),
      refl,
    ),
  ),
)

-- The last chunk, and LargeResponse in its acknowledgement.
abbrev packets_8 : List (List ℕ)
packets_8 =
    (0x01 ∷ 0x09 ∷ 0x08 ∷ 0xc3 ∷ 0x05 ∷ 0x12 ∷ 0x05 ∷ 0x00 ∷ 0x00 ∷ 0x01 ∷ 0x00 ∷ 0x12 ∷ 0x7f ∷ 0x0f ∷ 0x00 ∷ 0x00 ∷ [])
    ∷ (0x01 ∷ 0x08 ∷ 0x09 ∷ 0xcb ∷ 0x05 ∷ 0x12 ∷ 0x85 ∷ 0x01 ∷ 0x00 ∷ 0x01 ∷ 0x00 ∷ 0x00 ∷ 0x00 ∷ 0x16 ∷ 0x00 ∷ 0x00 ∷ 0x00 ∷ 0x00 ∷ 0x00 ∷ 0x00 ∷ 0x00 ∷ 0x00 ∷ 0x00 ∷ 0x02 ∷ 0x20 ∷ 0x00 ∷ 0x00 ∷ 0x03 ∷ 0x20 ∷ 0x01 ∷ 0x00 ∷ 0x04 ∷ 0x20 ∷ 0x00 ∷ 0x00 ∷ 0x05 ∷ 0x20 ∷ 0x01 ∷ 0x00 ∷ [])
    ∷ packets_6

after_8 : (ds : List Dialogue) × Leads small packets_8 ds
unfolding Follows Sends Answers Hears MayLeadTo gathered_from asks hears command_fault body_fault carried_by clear_led requester_session.session_of on_clear on_record refused_form refused_contents refusal turn_of answer_bytes responder_session.session_of terms_of field_at number_at optional_at tables_at behind_tables behind_table request_body response_body get_version_layout get_capabilities_layout negotiate_algorithms_layout psk_finish_layout chunk_send_layout chunk_get_layout version_layout capabilities_layout algorithms_layout chunk_send_ack_layout chunk_response_layout error_layout after_6
after_8 = (
  _,
  (
    _,
    (
      after_6.0,
      after_6.1,
      (
        _,
        (refl, refl, inr (refl, refl, (_, _, inr (inl (_, (refl, refl), refl, refl, (refl, tt), refl, refl)), refl))),
        refl,
      ),
    ),
    (
      _,
      (refl, refl, (_, refl, refl, lit< tt, (_, _, inr (inl (algorithms, ([], _, (tt, (answered 0, record { least = lit≤ tt; most = lit≤ tt; unused = λ _. refl; context = lit≤ tt; exchange_opaque = lit≤ tt; nonce = refl; measured_opaque = lit≤ tt; handle = lit< tt; reply = lit≤ tt; pad = lit≤ tt }, lit≤ tt, refl)), refl, (refl, refl, lit≤ tt), refl, refl), refl)), (_, (_, (asked, record { least = lit≤ tt; most = lit≤ tt; unused = λ _. refl; context = lit≤ tt; opaque = lit≤ tt; exchange = lit≤ tt; pad = lit≤ tt }, refl), refl), refl, refl)))),
      refl,
    ),
  ),
)

-- The first chunk of ALGORITHMS.
abbrev packets_10 : List (List ℕ)
packets_10 =
    (0x01 ∷ 0x09 ∷ 0x08 ∷ 0xc4 ∷ 0x05 ∷ 0x12 ∷ 0x06 ∷ 0x00 ∷ 0x00 ∷ 0x00 ∷ 0x00 ∷ 0x00 ∷ 0x00 ∷ 0x1a ∷ 0x00 ∷ 0x00 ∷ 0x00 ∷ 0x34 ∷ 0x00 ∷ 0x00 ∷ 0x00 ∷ 0x12 ∷ 0x63 ∷ 0x04 ∷ 0x00 ∷ 0x34 ∷ 0x00 ∷ 0x01 ∷ 0x02 ∷ 0x02 ∷ 0x00 ∷ 0x00 ∷ 0x00 ∷ 0x00 ∷ 0x00 ∷ 0x00 ∷ 0x00 ∷ 0x01 ∷ 0x00 ∷ 0x00 ∷ 0x00 ∷ 0x00 ∷ 0x00 ∷ 0x00 ∷ 0x00 ∷ 0x00 ∷ 0x00 ∷ [])
    ∷ (0x01 ∷ 0x08 ∷ 0x09 ∷ 0xcc ∷ 0x05 ∷ 0x12 ∷ 0x86 ∷ 0x00 ∷ 0x00 ∷ 0x00 ∷ 0x00 ∷ [])
    ∷ packets_8

after_10 : (ds : List Dialogue) × Leads small packets_10 ds
unfolding Follows Sends Answers Hears MayLeadTo gathered_from asks hears command_fault body_fault carried_by clear_led requester_session.session_of on_clear on_record refused_form refused_contents refusal turn_of answer_bytes responder_session.session_of terms_of field_at number_at optional_at tables_at behind_tables behind_table request_body response_body get_version_layout get_capabilities_layout negotiate_algorithms_layout psk_finish_layout chunk_send_layout chunk_get_layout version_layout capabilities_layout algorithms_layout chunk_send_ack_layout chunk_response_layout error_layout after_8
after_10 = (
  _,
  (
    _,
    (
      after_8.0,
      after_8.1,
      (
        _,
        (refl, refl, inr (refl, refl, (_, _, inr (inl (_, (refl, refl), refl, refl, tt, refl, refl)), refl))),
        refl,
      ),
    ),
    (
      _,
      (refl, refl, (_, refl, refl, lit< tt, (_, _, inl (([], _, (tt, (answered 0, record { least = lit≤ tt; most = lit≤ tt; unused = λ _. refl; context = lit≤ tt; exchange_opaque = lit≤ tt; nonce = refl; measured_opaque = lit≤ tt; handle = lit< tt; reply = lit≤ tt; pad = lit≤ tt }, lit≤ tt, refl)), tt, refl, refl, refl), refl), (_, (_, (asked, record { least = lit≤ tt; most = lit≤ tt; unused = λ _. refl; context = lit≤ tt; opaque = lit≤ tt; exchange = lit≤ tt; pad = lit≤ tt }, refl), refl), refl, refl)))),
      refl,
    ),
  ),
)

-- The last chunk.
abbrev packets_12 : List (List ℕ)
packets_12 =
    (0x01 ∷ 0x09 ∷ 0x08 ∷ 0xc5 ∷ 0x05 ∷ 0x12 ∷ 0x06 ∷ 0x01 ∷ 0x00 ∷ 0x01 ∷ 0x00 ∷ 0x00 ∷ 0x00 ∷ 0x1a ∷ 0x00 ∷ 0x00 ∷ 0x00 ∷ 0x00 ∷ 0x00 ∷ 0x00 ∷ 0x00 ∷ 0x00 ∷ 0x00 ∷ 0x00 ∷ 0x00 ∷ 0x00 ∷ 0x00 ∷ 0x02 ∷ 0x20 ∷ 0x00 ∷ 0x00 ∷ 0x03 ∷ 0x20 ∷ 0x01 ∷ 0x00 ∷ 0x04 ∷ 0x20 ∷ 0x00 ∷ 0x00 ∷ 0x05 ∷ 0x20 ∷ 0x01 ∷ 0x00 ∷ [])
    ∷ (0x01 ∷ 0x08 ∷ 0x09 ∷ 0xcd ∷ 0x05 ∷ 0x12 ∷ 0x86 ∷ 0x00 ∷ 0x00 ∷ 0x01 ∷ 0x00 ∷ [])
    ∷ packets_10

after_12 : (ds : List Dialogue) × Leads small packets_12 ds
unfolding Follows Sends Answers Hears MayLeadTo gathered_from asks hears command_fault body_fault carried_by clear_led requester_session.session_of on_clear on_record refused_form refused_contents refusal turn_of answer_bytes responder_session.session_of terms_of field_at number_at optional_at tables_at behind_tables behind_table request_body response_body get_version_layout get_capabilities_layout negotiate_algorithms_layout psk_finish_layout chunk_send_layout chunk_get_layout version_layout capabilities_layout algorithms_layout chunk_send_ack_layout chunk_response_layout error_layout after_10
after_12 = (
  _,
  (
    _,
    (
      after_10.0,
      after_10.1,
      (
        _,
        (refl, refl, inr (refl, refl, (_, _, inr (inl (_, (refl, refl), refl, refl, tt, refl, refl)), refl))),
        refl,
      ),
    ),
    (
      _,
      (refl, refl, (_, refl, refl, lit< tt, (_, _, inr (inr (inr ((_, [], _, refl, (answered 0, record { least = lit≤ tt; most = lit≤ tt; unused = λ _. refl; context = lit≤ tt; exchange_opaque = lit≤ tt; nonce = refl; measured_opaque = lit≤ tt; handle = lit< tt; reply = lit≤ tt; pad = lit≤ tt }, lit≤ tt, refl), refl, ((tt, (answered 0, record { least = lit≤ tt; most = lit≤ tt; unused = λ _. refl; context = lit≤ tt; exchange_opaque = lit≤ tt; nonce = refl; measured_opaque = lit≤ tt; handle = lit< tt; reply = lit≤ tt; pad = lit≤ tt }, lit≤ tt, refl)), tt), refl, refl, refl), refl))), (_, (_, (asked, record { least = lit≤ tt; most = lit≤ tt; unused = λ _. refl; context = lit≤ tt; opaque = lit≤ tt; exchange = lit≤ tt; pad = lit≤ tt }, refl), refl), refl, refl)))),
      refl,
    ),
  ),
)

chunks_conform : Conforms small (reverse packets_12)
chunks_conform = after_12

-- A copy of GET_VERSION gets the same again. GET_VERSION in place of GET_CAPABILITIES, which is owed, has the tag that
-- this would have had.
abbrev packets_copied : List (List ℕ)
packets_copied =
    (0x01 ∷ 0x09 ∷ 0x08 ∷ 0xc1 ∷ 0x05 ∷ 0x10 ∷ 0x04 ∷ 0x00 ∷ 0x00 ∷ 0x00 ∷ 0x01 ∷ 0x00 ∷ 0x12 ∷ [])
    ∷ (0x01 ∷ 0x08 ∷ 0x09 ∷ 0xc9 ∷ 0x05 ∷ 0x10 ∷ 0x84 ∷ 0x00 ∷ 0x00 ∷ [])
    ∷ (0x01 ∷ 0x09 ∷ 0x08 ∷ 0xc0 ∷ 0x05 ∷ 0x10 ∷ 0x04 ∷ 0x00 ∷ 0x00 ∷ 0x00 ∷ 0x01 ∷ 0x00 ∷ 0x12 ∷ [])
    ∷ (0x01 ∷ 0x09 ∷ 0x08 ∷ 0xc0 ∷ 0x05 ∷ 0x10 ∷ 0x04 ∷ 0x00 ∷ 0x00 ∷ 0x00 ∷ 0x01 ∷ 0x00 ∷ 0x12 ∷ [])
    ∷ (0x01 ∷ 0x08 ∷ 0x09 ∷ 0xc8 ∷ 0x05 ∷ 0x10 ∷ 0x84 ∷ 0x00 ∷ 0x00 ∷ [])
    ∷ (0x01 ∷ 0x08 ∷ 0x09 ∷ 0xc8 ∷ 0x05 ∷ 0x10 ∷ 0x84 ∷ 0x00 ∷ 0x00 ∷ [])
    ∷ []

after_copied : (ds : List Dialogue) × Leads setup packets_copied ds
unfolding Follows Sends Answers Hears MayLeadTo gathered_from asks hears command_fault body_fault carried_by clear_led requester_session.session_of on_clear on_record refused_form refused_contents refusal turn_of answer_bytes responder_session.session_of terms_of field_at number_at optional_at tables_at behind_tables behind_table request_body response_body get_version_layout get_capabilities_layout negotiate_algorithms_layout psk_finish_layout chunk_send_layout chunk_get_layout version_layout capabilities_layout algorithms_layout chunk_send_ack_layout chunk_response_layout error_layout
after_copied = (
  _,
  (
    _,
    (
      _,
      (
        _,
        (
          _,
          (
            _,
            (
              _,
              refl,
              (
                _,
                (refl, refl, inr (refl, refl, (_, _, inl (inl (_, (asked, record { least = lit≤ tt; most = lit≤ tt; unused = λ _. refl; context = lit≤ tt; opaque = lit≤ tt; exchange = lit≤ tt; pad = lit≤ tt }, refl), refl, refl, refl), refl), refl))),
                refl,
              ),
            ),
            (
              _,
              (refl, refl, inl (_, refl, refl, refl, refl)),
              refl,
            ),
          ),
          (
            _,
            (refl, refl, (_, refl, refl, lit< tt, (_, _, inl (([], _, (tt, (answered 0, record { least = lit≤ tt; most = lit≤ tt; unused = λ _. refl; context = lit≤ tt; exchange_opaque = lit≤ tt; nonce = refl; measured_opaque = lit≤ tt; handle = lit< tt; reply = lit≤ tt; pad = lit≤ tt }, lit≤ tt, refl)), tt, refl, refl, refl), refl), (_, (_, (asked, record { least = lit≤ tt; most = lit≤ tt; unused = λ _. refl; context = lit≤ tt; opaque = lit≤ tt; exchange = lit≤ tt; pad = lit≤ tt }, refl), refl), refl, refl)))),
            refl,
          ),
        ),
        (
          _,
          (refl, refl, (_, refl, refl, lit< tt, (_, _, inl (([], _, (tt, (answered 0, record { least = lit≤ tt; most = lit≤ tt; unused = λ _. refl; context = lit≤ tt; exchange_opaque = lit≤ tt; nonce = refl; measured_opaque = lit≤ tt; handle = lit< tt; reply = lit≤ tt; pad = lit≤ tt }, lit≤ tt, refl)), tt, refl, refl, refl), refl), (_, (_, (asked, record { least = lit≤ tt; most = lit≤ tt; unused = λ _. refl; context = lit≤ tt; opaque = lit≤ tt; exchange = lit≤ tt; pad = lit≤ tt }, refl), refl), refl, refl)))),
          refl,
        ),
      ),
      (
        _,
        (refl, refl, inr (refl, refl, (_, _, inl (inl (_, (asked, record { least = lit≤ tt; most = lit≤ tt; unused = λ _. refl; context = lit≤ tt; opaque = lit≤ tt; exchange = lit≤ tt; pad = lit≤ tt }, refl), refl, refl, refl), refl), refl))),
        refl,
      ),
    ),
    (
      _,
      (refl, refl, (_, refl, refl, lit< tt, (_, _, inl (([], _, (tt, (answered 0, record { least = lit≤ tt; most = lit≤ tt; unused = λ _. refl; context = lit≤ tt; exchange_opaque = lit≤ tt; nonce = refl; measured_opaque = lit≤ tt; handle = lit< tt; reply = lit≤ tt; pad = lit≤ tt }, lit≤ tt, refl)), tt, refl, refl, refl), refl), (_, (_, (asked, record { least = lit≤ tt; most = lit≤ tt; unused = λ _. refl; context = lit≤ tt; opaque = lit≤ tt; exchange = lit≤ tt; pad = lit≤ tt }, refl), refl), refl, refl)))),
      refl,
    ),
  ),
)

copies_conform : Conforms setup (reverse packets_copied)
copies_conform = after_copied

-- GET_VERSION cuts off the offer after its first chunk, and a new negotiation begins.
abbrev packets_anew : List (List ℕ)
packets_anew =
    (0x01 ∷ 0x09 ∷ 0x08 ∷ 0xc4 ∷ 0x05 ∷ 0x12 ∷ 0x61 ∷ 0x00 ∷ 0x00 ∷ 0x00 ∷ 0x00 ∷ 0x00 ∷ 0x00 ∷ 0xc8 ∷ 0x68 ∷ 0x02 ∷ 0x00 ∷ 0x2a ∷ 0x00 ∷ 0x00 ∷ 0x00 ∷ 0x00 ∷ 0x10 ∷ 0x00 ∷ 0x00 ∷ [])
    ∷ (0x01 ∷ 0x08 ∷ 0x09 ∷ 0xcc ∷ 0x05 ∷ 0x12 ∷ 0xe1 ∷ 0x00 ∷ 0x00 ∷ 0x00 ∷ 0x00 ∷ 0x00 ∷ 0x00 ∷ 0xc0 ∷ 0x64 ∷ 0x02 ∷ 0x00 ∷ 0x2a ∷ 0x00 ∷ 0x00 ∷ 0x00 ∷ 0x00 ∷ 0x10 ∷ 0x00 ∷ 0x00 ∷ [])
    ∷ (0x01 ∷ 0x09 ∷ 0x08 ∷ 0xc3 ∷ 0x05 ∷ 0x10 ∷ 0x04 ∷ 0x00 ∷ 0x00 ∷ 0x00 ∷ 0x01 ∷ 0x00 ∷ 0x12 ∷ [])
    ∷ (0x01 ∷ 0x08 ∷ 0x09 ∷ 0xcb ∷ 0x05 ∷ 0x10 ∷ 0x84 ∷ 0x00 ∷ 0x00 ∷ [])
    ∷ packets_6

after_anew : (ds : List Dialogue) × Leads small packets_anew ds
unfolding Follows Sends Answers Hears MayLeadTo gathered_from asks hears command_fault body_fault carried_by clear_led requester_session.session_of on_clear on_record refused_form refused_contents refusal turn_of answer_bytes responder_session.session_of terms_of field_at number_at optional_at tables_at behind_tables behind_table request_body response_body get_version_layout get_capabilities_layout negotiate_algorithms_layout psk_finish_layout chunk_send_layout chunk_get_layout version_layout capabilities_layout algorithms_layout chunk_send_ack_layout chunk_response_layout error_layout after_6
after_anew = (
  _,
  (
    _,
    (
      _,
      (
        _,
        (
          after_6.0,
          after_6.1,
          (
            _,
            (refl, refl, inr (refl, refl, (_, _, inl (inl (_, (asked, record { least = lit≤ tt; most = lit≤ tt; unused = λ _. refl; context = lit≤ tt; opaque = lit≤ tt; exchange = lit≤ tt; pad = lit≤ tt }, refl), refl, refl, refl), refl), refl))),
            refl,
          ),
        ),
        (
          _,
          (refl, refl, (_, refl, refl, lit< tt, (_, _, inl (([], _, (tt, (answered 0, record { least = lit≤ tt; most = lit≤ tt; unused = λ _. refl; context = lit≤ tt; exchange_opaque = lit≤ tt; nonce = refl; measured_opaque = lit≤ tt; handle = lit< tt; reply = lit≤ tt; pad = lit≤ tt }, lit≤ tt, refl)), tt, refl, refl, refl), refl), (_, (_, (asked, record { least = lit≤ tt; most = lit≤ tt; unused = λ _. refl; context = lit≤ tt; opaque = lit≤ tt; exchange = lit≤ tt; pad = lit≤ tt }, refl), refl), refl, refl)))),
          refl,
        ),
      ),
      (
        _,
        (refl, refl, inr (refl, refl, (_, _, inr (inl (_, (refl, refl), refl, refl, tt, refl, refl)), refl))),
        refl,
      ),
    ),
    (
      _,
      (refl, refl, (_, refl, refl, lit< tt, (_, _, inl (([], _, (tt, (answered 0, record { least = lit≤ tt; most = lit≤ tt; unused = λ _. refl; context = lit≤ tt; exchange_opaque = lit≤ tt; nonce = refl; measured_opaque = lit≤ tt; handle = lit< tt; reply = lit≤ tt; pad = lit≤ tt }, lit≤ tt, refl)), tt, refl, refl, refl), refl), (_, (_, (asked, record { least = lit≤ tt; most = lit≤ tt; unused = λ _. refl; context = lit≤ tt; opaque = lit≤ tt; exchange = lit≤ tt; pad = lit≤ tt }, refl), refl), refl, refl)))),
      refl,
    ),
  ),
)

-- The next offer has the next handle.
abbrev packets_cut : List (List ℕ)
packets_cut =
    (0x01 ∷ 0x08 ∷ 0x09 ∷ 0xcd ∷ 0x05 ∷ 0x12 ∷ 0x85 ∷ 0x00 ∷ 0x01 ∷ 0x00 ∷ 0x00 ∷ 0x00 ∷ 0x00 ∷ 0x1a ∷ 0x00 ∷ 0x00 ∷ 0x00 ∷ 0x30 ∷ 0x00 ∷ 0x00 ∷ 0x00 ∷ 0x12 ∷ 0xe3 ∷ 0x04 ∷ 0x00 ∷ 0x30 ∷ 0x00 ∷ 0x01 ∷ 0x02 ∷ 0x00 ∷ 0x00 ∷ 0x00 ∷ 0x00 ∷ 0x01 ∷ 0x00 ∷ 0x00 ∷ 0x00 ∷ 0x00 ∷ 0x00 ∷ 0x00 ∷ 0x00 ∷ 0x00 ∷ 0x00 ∷ 0x00 ∷ 0x00 ∷ 0x00 ∷ 0x00 ∷ [])
    ∷ packets_anew

after_cut : (ds : List Dialogue) × Leads small packets_cut ds
unfolding Follows Sends Answers Hears MayLeadTo gathered_from asks hears command_fault body_fault carried_by clear_led requester_session.session_of on_clear on_record refused_form refused_contents refusal turn_of answer_bytes responder_session.session_of terms_of field_at number_at optional_at tables_at behind_tables behind_table request_body response_body get_version_layout get_capabilities_layout negotiate_algorithms_layout psk_finish_layout chunk_send_layout chunk_get_layout version_layout capabilities_layout algorithms_layout chunk_send_ack_layout chunk_response_layout error_layout after_anew
after_cut = (
  _,
  (
    after_anew.0,
    after_anew.1,
    (
      _,
      (refl, refl, inr (refl, refl, (_, _, inr (inr (offer, inr (_, _, (refl, refl), refl, refl, (refl, refl, lit≤ tt), refl, refl), refl)), refl))),
      refl,
    ),
  ),
)

cut_off_conforms : Conforms small (reverse packets_cut)
cut_off_conforms = after_cut

-- Bytes that no offer has, and no ALGORITHMS either.
abbrev other : List ℕ
other = replicate 60 0x55

-- The first chunk of such an offer conforms: only the last one is judged by its bytes.
abbrev packets_other_offer : List (List ℕ)
packets_other_offer =
    (0x01 ∷ 0x08 ∷ 0x09 ∷ 0xca ∷ 0x05 ∷ 0x12 ∷ 0x85 ∷ 0x00 ∷ 0x00 ∷ 0x00 ∷ 0x00 ∷ 0x00 ∷ 0x00 ∷ 0x1a ∷ 0x00 ∷ 0x00 ∷ 0x00 ∷ 0x3c ∷ 0x00 ∷ 0x00 ∷ 0x00 ∷ 0x55 ∷ 0x55 ∷ 0x55 ∷ 0x55 ∷ 0x55 ∷ 0x55 ∷ 0x55 ∷ 0x55 ∷ 0x55 ∷ 0x55 ∷ 0x55 ∷ 0x55 ∷ 0x55 ∷ 0x55 ∷ 0x55 ∷ 0x55 ∷ 0x55 ∷ 0x55 ∷ 0x55 ∷ 0x55 ∷ 0x55 ∷ 0x55 ∷ 0x55 ∷ 0x55 ∷ 0x55 ∷ 0x55 ∷ [])
    ∷ packets_4

after_other_offer : (ds : List Dialogue) × Leads small packets_other_offer ds
unfolding Follows Sends Answers Hears MayLeadTo gathered_from asks hears command_fault body_fault carried_by clear_led requester_session.session_of on_clear on_record refused_form refused_contents refusal turn_of answer_bytes responder_session.session_of terms_of field_at number_at optional_at tables_at behind_tables behind_table request_body response_body get_version_layout get_capabilities_layout negotiate_algorithms_layout psk_finish_layout chunk_send_layout chunk_get_layout version_layout capabilities_layout algorithms_layout chunk_send_ack_layout chunk_response_layout error_layout after_4
after_other_offer = (
  _,
  (
    after_4.0,
    after_4.1,
    (
      _,
      (refl, refl, inr (refl, refl, (_, _, inr (inr (other, inr (_, _, (refl, refl), refl, refl, (refl, refl, lit≤ tt), refl, refl), refl)), refl))),
      refl,
    ),
  ),
)

other_offer_conforms : Conforms small (reverse packets_other_offer)
other_offer_conforms = after_other_offer

-- So does the first chunk of such an answer.
abbrev packets_other_answer : List (List ℕ)
packets_other_answer =
    (0x01 ∷ 0x09 ∷ 0x08 ∷ 0xc4 ∷ 0x05 ∷ 0x12 ∷ 0x06 ∷ 0x00 ∷ 0x00 ∷ 0x00 ∷ 0x00 ∷ 0x00 ∷ 0x00 ∷ 0x1a ∷ 0x00 ∷ 0x00 ∷ 0x00 ∷ 0x3c ∷ 0x00 ∷ 0x00 ∷ 0x00 ∷ 0x55 ∷ 0x55 ∷ 0x55 ∷ 0x55 ∷ 0x55 ∷ 0x55 ∷ 0x55 ∷ 0x55 ∷ 0x55 ∷ 0x55 ∷ 0x55 ∷ 0x55 ∷ 0x55 ∷ 0x55 ∷ 0x55 ∷ 0x55 ∷ 0x55 ∷ 0x55 ∷ 0x55 ∷ 0x55 ∷ 0x55 ∷ 0x55 ∷ 0x55 ∷ 0x55 ∷ 0x55 ∷ 0x55 ∷ [])
    ∷ (0x01 ∷ 0x08 ∷ 0x09 ∷ 0xcc ∷ 0x05 ∷ 0x12 ∷ 0x86 ∷ 0x00 ∷ 0x00 ∷ 0x00 ∷ 0x00 ∷ [])
    ∷ (0x01 ∷ 0x09 ∷ 0x08 ∷ 0xc3 ∷ 0x05 ∷ 0x12 ∷ 0x05 ∷ 0x00 ∷ 0x00 ∷ 0x01 ∷ 0x00 ∷ 0x12 ∷ 0x7f ∷ 0x0f ∷ 0x00 ∷ 0x00 ∷ [])
    ∷ (0x01 ∷ 0x08 ∷ 0x09 ∷ 0xcb ∷ 0x05 ∷ 0x12 ∷ 0x85 ∷ 0x01 ∷ 0x00 ∷ 0x01 ∷ 0x00 ∷ 0x00 ∷ 0x00 ∷ 0x16 ∷ 0x00 ∷ 0x00 ∷ 0x00 ∷ 0x00 ∷ 0x00 ∷ 0x00 ∷ 0x00 ∷ 0x00 ∷ 0x00 ∷ 0x02 ∷ 0x20 ∷ 0x00 ∷ 0x00 ∷ 0x03 ∷ 0x20 ∷ 0x01 ∷ 0x00 ∷ 0x04 ∷ 0x20 ∷ 0x00 ∷ 0x00 ∷ 0x05 ∷ 0x20 ∷ 0x01 ∷ 0x00 ∷ [])
    ∷ packets_6

after_other_answer : (ds : List Dialogue) × Leads small packets_other_answer ds
unfolding Follows Sends Answers Hears MayLeadTo gathered_from asks hears command_fault body_fault carried_by clear_led requester_session.session_of on_clear on_record refused_form refused_contents refusal turn_of answer_bytes responder_session.session_of terms_of field_at number_at optional_at tables_at behind_tables behind_table request_body response_body get_version_layout get_capabilities_layout negotiate_algorithms_layout psk_finish_layout chunk_send_layout chunk_get_layout version_layout capabilities_layout algorithms_layout chunk_send_ack_layout chunk_response_layout error_layout after_6
after_other_answer = (
  _,
  (
    _,
    (
      _,
      (
        _,
        (
          after_6.0,
          after_6.1,
          (
            _,
            (refl, refl, inr (refl, refl, (_, _, inr (inl (_, (refl, refl), refl, refl, (refl, tt), refl, refl)), refl))),
            refl,
          ),
        ),
        (
          _,
          (refl, refl, (_, refl, refl, lit< tt, (_, _, inr (inl (other, ([], _, (tt, (answered 0, record { least = lit≤ tt; most = lit≤ tt; unused = λ _. refl; context = lit≤ tt; exchange_opaque = lit≤ tt; nonce = refl; measured_opaque = lit≤ tt; handle = lit< tt; reply = lit≤ tt; pad = lit≤ tt }, lit≤ tt, refl)), refl, (refl, refl, lit≤ tt), refl, refl), refl)), (_, (_, (asked, record { least = lit≤ tt; most = lit≤ tt; unused = λ _. refl; context = lit≤ tt; opaque = lit≤ tt; exchange = lit≤ tt; pad = lit≤ tt }, refl), refl), refl, refl)))),
          refl,
        ),
      ),
      (
        _,
        (refl, refl, inr (refl, refl, (_, _, inr (inl (_, (refl, refl), refl, refl, tt, refl, refl)), refl))),
        refl,
      ),
    ),
    (
      _,
      (refl, refl, (_, refl, refl, lit< tt, (_, _, inl (([], _, (tt, (answered 0, record { least = lit≤ tt; most = lit≤ tt; unused = λ _. refl; context = lit≤ tt; exchange_opaque = lit≤ tt; nonce = refl; measured_opaque = lit≤ tt; handle = lit< tt; reply = lit≤ tt; pad = lit≤ tt }, lit≤ tt, refl)), tt, refl, refl, refl), refl), (_, (_, (asked, record { least = lit≤ tt; most = lit≤ tt; unused = λ _. refl; context = lit≤ tt; opaque = lit≤ tt; exchange = lit≤ tt; pad = lit≤ tt }, refl), refl), refl, refl)))),
      refl,
    ),
  ),
)

other_answer_conforms : Conforms small (reverse packets_other_answer)
other_answer_conforms = after_other_answer
