-- Generated scripts: a configuration and events that a seed and a count determine. This project's own.
use Rattle.std.specs.Prelude.{ℕ, zero, suc, List, [], ◌∷◌, ◌++◌, ◌+◌, ◌*◌, ◌/◌, ◌%◌, ◌^◌, ◌==◌, nat_le, replicate, if◌then◌else◌, Bool, true, false, Some}
use Rattle.std.specs.Int.{to_le_bytes, w64}
use Rattle.spdm_grammar.specs.declared.told.block_spec.BlockSpec.{BlockSpec}
use Rattle.spdm_grammar.specs.declared.names.TheConstants.{MAX_MESSAGE_SIZE}
use Rattle.script_text.specs.Choices.{small_suites}
use Rattle.script_text.specs.EndPoints.{eid_of}
use Rattle.script_text.specs.declared.configuration.config.ReqPart.{ReqPart}
use Rattle.script_text.specs.declared.configuration.config.RspPart.{RspPart}
use Rattle.script_text.specs.declared.configuration.config.ScriptConfig.{ScriptConfig}
use Rattle.script_text.specs.declared.events.event.Entry.{Entry}
use Rattle.script_text.specs.declared.events.event.LinkEvent.{LinkEvent}
use Rattle.script_text.specs.declared.events.event.LinkEvent.TheVariants as event
use Rattle.script_text.specs.declared.texts.script.Script.{Script}

-- A number as eight bytes, the low one first.
abbrev pub eight_bytes : ℕ → List ℕ
eight_bytes n = to_le_bytes w64 n

-- ---- The configuration.

-- The seed of the script: the eight bytes four times over.
abbrev pub four_times : ℕ → List ℕ
four_times seed = eight_bytes seed ++ eight_bytes seed ++ eight_bytes seed ++ eight_bytes seed

-- `responder 8 1024 4096 64 30 mhkc`.
unfoldable pub generated_responder : RspPart
generated_responder = record {
  eid = eid_of 8;
  transfer = 1024;
  max = MAX_MESSAGE_SIZE;
  unit = 64;
  beat = 30;
  flags = record { measure = true; heartbeat = true; key_update = true; chunk = true };
  opaque = [];
  suites = small_suites;
}

-- A block of 32 bytes AA.
unfoldable pub generated_block : (index value_type : ℕ) → Bool → BlockSpec
generated_block index value_type tcb = record { index = index; value_type = value_type; tcb = tcb; value = replicate 32 0xaa }

-- `requester EID 1024 4096 64 0 hkc HINT PSK -`, with a hint of one byte and a key of 16 equal bytes.
unfoldable pub generated_requester : (eid hint key : ℕ) → ReqPart
generated_requester eid hint key = record {
  eid = eid_of eid;
  transfer = 1024;
  max = MAX_MESSAGE_SIZE;
  unit = 64;
  pad = 0;
  flags = record { measure = false; heartbeat = true; key_update = true; chunk = true };
  hint = hint ∷ [];
  psk = replicate 16 key;
  opaque = [];
  suites = small_suites;
}

-- One responder with two blocks, `block 1 0 1` and `block 2 129 0`, and two requesters.
abbrev pub generated_config : ℕ → ScriptConfig
generated_config seed = record {
  seed = Some (four_times seed);
  responder = generated_responder;
  blocks = generated_block 1 0 true ∷ generated_block 2 129 false ∷ [];
  requesters = generated_requester 9 0x71 0x11 ∷ generated_requester 10 0x72 0x22 ∷ [];
}

-- ---- The events.

abbrev pub entry_at : ℕ → LinkEvent → Entry
entry_at line event = record { line = line; event = event }

-- Each requester connects and opens a session. After the seven lines of the configuration the first event has line 8.
abbrev pub opening : List Entry
opening =
    entry_at 8 (event.Connect 1)
    ∷ entry_at 9 (event.Pump 100)
    ∷ entry_at 10 (event.Open 1 0)
    ∷ entry_at 11 (event.Pump 100)
    ∷ entry_at 12 (event.Connect 2)
    ∷ entry_at 13 (event.Pump 100)
    ∷ entry_at 14 (event.Open 2 0)
    ∷ entry_at 15 (event.Pump 100)
    ∷ []

-- The number that is drawn next, and the one before event i, counted from 1.
abbrev pub next_drawn : ℕ → ℕ
next_drawn x = (x * 6364136223846793005 + 1442695040888963407) % 2 ^ 64

unfoldable pub drawn : ℕ → ℕ → ℕ
drawn seed zero = seed
drawn seed (suc i) = next_drawn (drawn seed i)

-- What a number that was drawn picks: a requester, a kind of event, and the number of a packet.
abbrev pub drawn_requester : ℕ → ℕ
drawn_requester x = 1 + x / 2 ^ 32 % 2

abbrev pub drawn_kind : ℕ → ℕ
drawn_kind x = x / 2 ^ 33 % 20

abbrev pub drawn_packet : (i x : ℕ) → ℕ
drawn_packet i x = 1 + x / 2 ^ 40 % (4 * i + 16)

-- Event i of a kind: application data of i in both directions, packets that go on, are lost or come again, and commands
-- in session 1.
abbrev pub event_of_kind : (i q kind packet : ℕ) → LinkEvent
event_of_kind i q kind packet =
    if nat_le kind 5 then event.Send q 1 (eight_bytes i)
    else (if kind == 6 then event.Reply q (eight_bytes i)
    else (if nat_le kind 13 then event.Pump 1
    else (if kind == 14 then event.Lose packet
    else (if kind == 15 then event.Deliver packet
    else (if kind == 16 then event.Retry q
    else (if kind == 17 then event.Update q 1 (packet % 2 == 0)
    else (if kind == 18 then event.Beat q 1
    else event.Measure q (Some 1) 255)))))))

unfoldable pub generated_event : (i x : ℕ) → LinkEvent
generated_event i x = event_of_kind i (drawn_requester x) (drawn_kind x) (drawn_packet i x)

-- The opening and the events up to number i.
unfoldable pub events_up_to : (seed i : ℕ) → List Entry
events_up_to seed zero = opening
events_up_to seed (suc i) = events_up_to seed i ++ entry_at (16 + i) (generated_event (suc i) (drawn seed (suc i))) ∷ []

-- The script of a seed and a count of events.
abbrev pub generated : (seed count : ℕ) → Script
generated seed count = record { config = generated_config seed; events = events_up_to seed count }
