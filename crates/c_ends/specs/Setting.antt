-- The ends that a caller's words set up, and why they set up none.
use Rattle.std.specs.Prelude.{◌==◌, ◌||◌, ◌&&◌, ◌*◌, ◌^◌, not, nat_le, nat_lt, ℕ, List, [], ◌∷◌, map, length, Bool, Option, Some, None, if◌then◌else◌}
use Rattle.std.specs.List.{list_any}
use Rattle.c_ends.specs.declared.argument.ArgumentFault.{ArgumentFault}
use Rattle.c_ends.specs.declared.argument.ArgumentFault.TheVariants as argument
use Rattle.c_ends.specs.declared.config.Block.{Block}
use Rattle.c_ends.specs.declared.config.KnownRequester.{KnownRequester}
use Rattle.c_ends.specs.declared.config.Offer.{Offer}
use Rattle.c_ends.specs.declared.config.RequesterConfig.{RequesterConfig}
use Rattle.c_ends.specs.declared.config.ResponderConfig.{ResponderConfig}
use Rattle.requester_core.specs.declared.command.Command as declared
use Rattle.requester_core.specs.Joined.{command_of}
use Rattle.requester_machine.specs.Message.{Command}
use Rattle.requester_machine.specs.Message.Command.{Beat, Connect, End, Measure, Open, Retry, Send, Update}
use Rattle.requester_machine.specs.Setup.{ReqEnd, ReqSetup}
use Rattle.responder_machine.specs.Setup.{Known, RspEnd, RspPart}
use Rattle.spdm_basis.specs.Tests.{first_of_tests}
use Rattle.spdm_grammar.specs.declared.messages.choice.FlagSet.{FlagSet}
use Rattle.spdm_grammar.specs.declared.messages.choice.Pick.{Pick}
use Rattle.spdm_grammar.specs.declared.messages.choice.Pick.TheVariants.{Both, Large, Small}
use Rattle.spdm_grammar.specs.declared.messages.choice.Suites.{Suites}
use Rattle.spdm_grammar.specs.declared.told.block_spec.BlockSpec.{BlockSpec}

-- ---- What is announced.

-- A byte other than 0 is yes.
abbrev pub is_yes : ℕ → Bool
is_yes n = not (n == 0)

abbrev pub flags_in : Offer → FlagSet
flags_in o = record { measure = is_yes o.measure; heartbeat = is_yes o.heartbeat; key_update = is_yes o.key_update; chunk = is_yes o.chunk }

-- The algorithms that a number names, of 1, 2 and 3.
abbrev pub pick_in : ℕ → Pick
pick_in number = if number == 1 then Small else (if number == 2 then Large else Both)

abbrev pub suites_in : Offer → Suites
suites_in o = record { hash = pick_in o.hash; aead = pick_in o.aead }

-- ---- Ends.

-- Each boot begins its draws 2^40 behind the one before.
abbrev pub first_draw : (boot : ℕ) → ℕ
first_draw boot = boot * 2 ^ 40

abbrev pub known_in : KnownRequester → Known
known_in k = record { eid = k.eid; hint = k.hint.now; psk = k.psk.now }

abbrev pub block_in : Block → BlockSpec
block_in b = record { index = b.index; value_type = b.value_type; tcb = is_yes b.tcb; value = b.value.now }

abbrev pub part_in : ResponderConfig → List Block → RspPart
part_in c blocks = record {
  eid = c.eid;
  transfer = c.transfer;
  max = c.max;
  unit = c.unit;
  beat = c.beat;
  flags = flags_in c.offer;
  opaque = c.opaque.now;
  blocks = map block_in blocks;
  suites = suites_in c.offer;
}

abbrev pub responder_in : ResponderConfig → List KnownRequester → List Block → RspEnd
responder_in c known blocks = record { part = part_in c blocks; known = map known_in known; seed = c.seed.now; first = first_draw c.boot }

abbrev pub set_up_in : RequesterConfig → ReqSetup
set_up_in c = record {
  eid = c.eid;
  responder = c.responder;
  transfer = c.transfer;
  max = c.max;
  unit = c.unit;
  pad = c.pad;
  flags = flags_in c.offer;
  hint = c.hint.now;
  psk = c.psk.now;
  opaque = c.opaque.now;
  suites = suites_in c.offer;
}

abbrev pub requester_in : RequesterConfig → ReqEnd
requester_in c = record { setup = set_up_in c; seed = c.seed.now; first = first_draw c.boot }

-- ---- Words that set up no end.

-- An endpoint ID is from 8 to 254,
abbrev pub is_eid : ℕ → Bool
is_eid n = nat_le 8 n && nat_lt n 255

-- a pre-shared key has 1 to 64 bytes,
abbrev pub is_psk : List ℕ → Bool
is_psk bytes = nat_lt 0 (length bytes) && nat_le (length bytes) 64

-- the algorithms are one of two, or both,
abbrev pub is_pick : ℕ → Bool
is_pick n = nat_le 1 n && nat_le n 3

abbrev pub has_algorithms : Offer → Bool
has_algorithms o = is_pick o.hash && is_pick o.aead

-- and the boot number is not above the last.
abbrev pub last_boot : ℕ
last_boot = 16777214

abbrev pub has_bad_eid : List KnownRequester → Bool
has_bad_eid known = list_any (λ k. not (is_eid k.eid)) known

abbrev pub has_bad_psk : List KnownRequester → Bool
has_bad_psk known = list_any (λ k. not (is_psk k.psk.now)) known

-- The first fault of the words for a responder, in this order.
abbrev pub responder_argument : ResponderConfig → List KnownRequester → Option ArgumentFault
responder_argument c known = first_of_tests (
    (not (is_eid c.eid) || has_bad_eid known, argument.Eid)
    ∷ (has_bad_psk known, argument.Psk)
    ∷ (not (has_algorithms c.offer), argument.Algorithms)
    ∷ (nat_lt last_boot c.boot, argument.Boot)
    ∷ [])

-- The same of those for a requester.
abbrev pub requester_argument : RequesterConfig → Option ArgumentFault
requester_argument c = first_of_tests (
    (not (is_eid c.eid) || not (is_eid c.responder), argument.Eid)
    ∷ (not (is_psk c.psk.now), argument.Psk)
    ∷ (not (has_algorithms c.offer), argument.Algorithms)
    ∷ (nat_lt last_boot c.boot, argument.Boot)
    ∷ [])

-- ---- Commands.

-- The command of a number, if there is one. `session` is its ReqSessionID, of which 0 asks for measurements in the
-- clear. `number` is the kind of summary of a session that is opened, the operation of a measurement, and of a key
-- update 0 where the request key alone is updated.
abbrev pub command_in : (command session number : ℕ) → List ℕ → Option Command
command_in command session number bytes =
    if command == 1 then Some Connect
    else (if command == 2 then Some (Open number)
    else (if command == 3 then Some (Send session bytes)
    else (if command == 4 then Some (Beat session)
    else (if command == 5 then Some (Update session (is_yes number))
    else (if command == 6 then Some (Measure (if session == 0 then None else Some session) number)
    else (if command == 7 then Some (End session)
    else (if command == 8 then Some Retry
    else None)))))))

-- A command of the program as the definitions see it.
abbrev pub as_told : Option declared.Command → Option Command
as_told None = None
as_told (Some command) = Some (command_of command)
