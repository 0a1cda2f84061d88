-- The lines of a configuration: which faults each kind has, in order, and what it says. This project's own.
use Rattle.std.specs.Prelude.{ℕ, List, [], ◌∷◌, ◌++◌, ◌+◌, ◌==◌, zero, suc, ◌&&◌, ◌||◌, nat_le, nat_lt, not, codes, length, slice_index_or, slice_set, bytes_eq, replicate, if◌then◌else◌, Bool, true, false, Option, Some, None, is_some, is_none, unwrap_or}
use Rattle.std.specs.List.{list_any}
use Rattle.spdm_grammar.specs.declared.told.block_spec.BlockSpec.{BlockSpec}
use Rattle.spdm_grammar.specs.declared.messages.choice.Suites.{Suites}
use Rattle.spdm_grammar.specs.declared.messages.choice.Pick.TheVariants.{Small}
use Rattle.spdm_grammar.specs.declared.names.TheConstants.{MAX_MESSAGE_SIZE, MAX_OPAQUE_LEN, MIN_DATA_TRANSFER_SIZE}
use Rattle.script_text.specs.declared.configuration.config.ReqPart.{ReqPart}
use Rattle.script_text.specs.declared.configuration.config.RspPart.{RspPart}
use Rattle.script_text.specs.declared.configuration.config.ScriptConfig.{ScriptConfig}
use Rattle.script_text.specs.declared.texts.faults.LineFault.{LineFault}
use Rattle.script_text.specs.declared.texts.faults.LineFault.TheVariants.{Unknown, Order, Words, Number, Hex, Flags, TooMany, Twice, SameEid, SamePsk, Block, NoSuchEnd, Incomplete}
use Rattle.script_text.specs.declared.configuration.config_kind.ConfigKind.{ConfigKind}
use Rattle.script_text.specs.declared.configuration.config_kind.ConfigKind.TheVariants as kind
use Rattle.script_text.specs.declared.configuration.partial_config.PartialConfig.{PartialConfig}
use Rattle.script_text.specs.declared.configuration.partial_config.RspLine.{RspLine}
use Rattle.script_text.specs.declared.configuration.end_numbers.EndNumbers.{EndNumbers}
use Rattle.script_text.specs.Choices.{is_flags, flags_of, hash_in, aead_in, end_in, small_suites}
use Rattle.script_text.specs.EndPoints.{eid_of}
use Rattle.script_text.specs.HexWords.{is_hex_in, bytes_of, most_bytes}
use Rattle.script_text.specs.Lines.{word, has_words, count_of_words}
use Rattle.script_text.specs.Measured.{block_size, sizes_of}
use Rattle.script_text.specs.Numbers.{is_number_in, value_of}
use Rattle.script_text.specs.Tests.{first_of_tests}

-- ---- `seed H`: 32 bytes; at most once.

unfoldable pub seed_fault : PartialConfig → List ℕ → Option LineFault
seed_fault given line = first_of_tests (
    (given.ended, Order)
    ∷ (not (has_words 2 line), Words)
    ∷ (not (is_hex_in 32 32 (word 1 line)), Hex)
    ∷ (is_some given.seed, Twice)
    ∷ [])

unfoldable pub after_seed : PartialConfig → List ℕ → PartialConfig
after_seed given line = record given { seed = Some (bytes_of (word 1 line)) }

-- ---- `opaque H`: the opaque data of the responder, at most 1,024 bytes; at most once.

unfoldable pub opaque_fault : PartialConfig → List ℕ → Option LineFault
opaque_fault given line = first_of_tests (
    (given.ended, Order)
    ∷ (not (has_words 2 line), Words)
    ∷ (not (is_hex_in 0 MAX_OPAQUE_LEN (word 1 line)), Hex)
    ∷ (is_some given.opaque, Twice)
    ∷ [])

unfoldable pub after_opaque : PartialConfig → List ℕ → PartialConfig
after_opaque given line = record given { opaque = Some (bytes_of (word 1 line)) }

-- ---- `block INDEX TYPE TCB H`: a measurement. All blocks together have at most 4,054 bytes in a record.

-- A block has this index.
abbrev pub has_block : ℕ → List BlockSpec → Bool
has_block index blocks = list_any (λ (b : BlockSpec). b.index == index) blocks

-- The block that a line says.
unfoldable pub block_of : List ℕ → BlockSpec
block_of line = record { index = value_of (word 1 line); value_type = value_of (word 2 line); tcb = value_of (word 3 line) == 1; value = bytes_of (word 4 line) }

unfoldable pub block_fault : PartialConfig → List ℕ → Option LineFault
block_fault given line = first_of_tests (
    (given.ended, Order)
    ∷ (not (has_words 5 line), Words)
    ∷ (not (is_number_in 1 254 (word 1 line)), Number)
    ∷ (not (is_number_in 0 255 (word 2 line)), Number)
    ∷ (not (is_number_in 0 1 (word 3 line)), Number)
    ∷ (not (is_hex_in 0 most_bytes (word 4 line)), Hex)
    ∷ (has_block (value_of (word 1 line)) given.blocks, Twice)
    ∷ (nat_lt 4054 (sizes_of given.blocks + block_size (block_of line)), Block)
    ∷ [])

unfoldable pub after_block : PartialConfig → List ℕ → PartialConfig
after_block given line = record given { blocks = given.blocks ++ block_of line ∷ [] }

-- ---- `responder EID TRANSFER MAX UNIT BEAT FLAGS` and `requester EID TRANSFER MAX UNIT PAD FLAGS ..`

-- The five numbers of an end are in their ranges: the endpoint, the transfer size, the size of a message, which is at
-- least the transfer size, the payload of a packet, and one of its own.
abbrev pub has_numbers : ℕ → List ℕ → Bool
has_numbers limit line =
    is_number_in 8 254 (word 1 line)
    && is_number_in MIN_DATA_TRANSFER_SIZE MAX_MESSAGE_SIZE (word 2 line)
    && is_number_in (value_of (word 2 line)) MAX_MESSAGE_SIZE (word 3 line)
    && is_number_in 64 1024 (word 4 line)
    && is_number_in 0 limit (word 5 line)

abbrev pub numbers_of : List ℕ → EndNumbers
numbers_of line = record {
  eid = eid_of (value_of (word 1 line));
  transfer = value_of (word 2 line);
  max = value_of (word 3 line);
  unit = value_of (word 4 line);
  own = value_of (word 5 line);
}

-- The capabilities of an end of these sizes: without chunks its messages have at most its transfer size.
abbrev pub fits_flags : (transfer max : ℕ) → List ℕ → Bool
fits_flags transfer max word = is_flags word && ((flags_of word).chunk || nat_le max transfer)

abbrev pub has_flags : List ℕ → Bool
has_flags line = fits_flags (value_of (word 2 line)) (value_of (word 3 line)) (word 6 line)

-- An end that was configured has this endpoint.
abbrev pub responder_has_eid : ℕ → Option RspLine → Bool
responder_has_eid eid None = false
responder_has_eid eid (Some responder) = responder.eid.number == eid

abbrev pub requester_has_eid : ℕ → List ReqPart → Bool
requester_has_eid eid requesters = list_any (λ (q : ReqPart). q.eid.number == eid) requesters

abbrev pub has_eid : ℕ → PartialConfig → Bool
has_eid eid given = responder_has_eid eid given.responder || requester_has_eid eid given.requesters

-- A requester that was configured has this pre-shared key.
abbrev pub has_psk : List ℕ → List ReqPart → Bool
has_psk psk requesters = list_any (λ (q : ReqPart). bytes_eq q.psk psk) requesters

-- ---- `responder EID TRANSFER MAX UNIT BEAT FLAGS`: exactly once; BEAT is 0 to 255.

unfoldable pub responder_fault : PartialConfig → List ℕ → Option LineFault
responder_fault given line = first_of_tests (
    (given.ended, Order)
    ∷ (not (has_words 7 line), Words)
    ∷ (not (has_numbers 255 line), Number)
    ∷ (not (has_flags line), Flags)
    ∷ (is_some given.responder, Twice)
    ∷ (has_eid (numbers_of line).eid.number given, SameEid)
    ∷ [])

abbrev pub responder_line : EndNumbers → List ℕ → RspLine
responder_line n flags = record { eid = n.eid; transfer = n.transfer; max = n.max; unit = n.unit; beat = n.own; flags = flags_of flags }

unfoldable pub after_responder : PartialConfig → List ℕ → PartialConfig
after_responder given line = record given { responder = Some (responder_line (numbers_of line) (word 6 line)) }

-- ---- `requester EID TRANSFER MAX UNIT PAD FLAGS HINT PSK OPAQUE`: the next requester, of at most eight; PAD is
-- 0 to 16, HINT at most 64 bytes, PSK 1 to 64 bytes and OPAQUE at most 1,024 bytes.

unfoldable pub requester_fault : PartialConfig → List ℕ → Option LineFault
requester_fault given line = first_of_tests (
    (given.ended, Order)
    ∷ (not (has_words 10 line), Words)
    ∷ (not (has_numbers 16 line), Number)
    ∷ (not (is_hex_in 0 64 (word 7 line)), Hex)
    ∷ (not (is_hex_in 1 64 (word 8 line)), Hex)
    ∷ (not (is_hex_in 0 MAX_OPAQUE_LEN (word 9 line)), Hex)
    ∷ (not (has_flags line), Flags)
    ∷ (nat_le 8 (length given.requesters), TooMany)
    ∷ (has_eid (numbers_of line).eid.number given, SameEid)
    ∷ (has_psk (bytes_of (word 8 line)) given.requesters, SamePsk)
    ∷ [])

unfoldable pub requester_of : List ℕ → ReqPart
requester_of line =
    let n = numbers_of line in
    record {
      eid = n.eid;
      transfer = n.transfer;
      max = n.max;
      unit = n.unit;
      pad = n.own;
      flags = flags_of (word 6 line);
      hint = bytes_of (word 7 line);
      psk = bytes_of (word 8 line);
      opaque = bytes_of (word 9 line);
      suites = small_suites;
    }

unfoldable pub after_requester : PartialConfig → List ℕ → PartialConfig
after_requester given line = record given { requesters = given.requesters ++ requester_of line ∷ [] }

-- ---- `suite END HASH AEAD`: the algorithms of the responder, `r`, or of a requester that was configured; once
-- for each end. An END that is none makes the line unknown.

-- The end of the line; the responder, 0, where it is none.
abbrev pub suite_end : List ℕ → ℕ
suite_end line = unwrap_or (end_in (word 1 line)) 0

unfoldable pub suite_fault : PartialConfig → List ℕ → Option LineFault
suite_fault given line = first_of_tests (
    (nat_le 2 (count_of_words line) && is_none (end_in (word 1 line)), Unknown)
    ∷ (given.ended, Order)
    ∷ (not (has_words 4 line), Words)
    ∷ (is_none (hash_in (word 2 line)), Flags)
    ∷ (is_none (aead_in (word 3 line)), Flags)
    ∷ (slice_index_or given.has_suites (suite_end line) false, Twice)
    ∷ (nat_lt (length given.requesters) (suite_end line), NoSuchEnd)
    ∷ [])

abbrev pub suites_in : List ℕ → Suites
suites_in line = record { hash = unwrap_or (hash_in (word 2 line)) Small; aead = unwrap_or (aead_in (word 3 line)) Small }

-- The requesters, of which number n, counted from 0, has these algorithms.
abbrev pub with_suites : ℕ → Suites → List ReqPart → List ReqPart
with_suites n suites [] = []
with_suites zero suites (q ∷ qs) = record q { suites = suites } ∷ qs
with_suites (suc n) suites (q ∷ qs) = q ∷ with_suites n suites qs

-- The end has its line, and its algorithms.
abbrev pub after_suite_of : ℕ → Suites → PartialConfig → PartialConfig
after_suite_of zero suites given = record given { responder_suites = suites; has_suites = slice_set given.has_suites 0 true }
after_suite_of (suc n) suites given = record given { requesters = with_suites n suites given.requesters; has_suites = slice_set given.has_suites (suc n) true }

unfoldable pub after_suite : PartialConfig → List ℕ → PartialConfig
after_suite given line = after_suite_of (suite_end line) (suites_in line) given

-- ---- `end`: the configuration is complete. It has a responder and a requester, and a seed where one is needed.

unfoldable pub end_fault : Bool → PartialConfig → List ℕ → Option LineFault
end_fault needs_seed given line = first_of_tests (
    (given.ended, Order)
    ∷ (not (has_words 1 line), Words)
    ∷ (is_none given.responder || length given.requesters == 0 || (needs_seed && is_none given.seed), Incomplete)
    ∷ [])

unfoldable pub after_end : PartialConfig → PartialConfig
after_end given = record given { ended = true }

-- ---- What a configuration says as a whole.

-- Before the first line.
abbrev pub nothing_given : PartialConfig
nothing_given = record {
  seed = None;
  responder = None;
  opaque = None;
  blocks = [];
  requesters = [];
  responder_suites = small_suites;
  has_suites = replicate 9 false;
  ended = false;
}

-- The responder that its line says, with its opaque data and its algorithms.
abbrev pub responder_part : RspLine → List ℕ → Suites → RspPart
responder_part r opaque suites = record {
  eid = r.eid;
  transfer = r.transfer;
  max = r.max;
  unit = r.unit;
  beat = r.beat;
  flags = r.flags;
  opaque = opaque;
  suites = suites;
}

abbrev pub config_with : Option RspLine → PartialConfig → Option ScriptConfig
config_with None given = None
config_with (Some r) given = Some (record {
  seed = given.seed;
  responder = responder_part r (unwrap_or given.opaque []) given.responder_suites;
  blocks = given.blocks;
  requesters = given.requesters;
})

-- The configuration, once its `end` was read; no configuration is ended without a responder.
abbrev pub config_of : PartialConfig → Option ScriptConfig
config_of given = if given.ended then config_with given.responder given else None

-- ---- A line of the configuration of any kind.

-- The kind of a line by its first word.
unfoldable pub config_kind : List ℕ → Option ConfigKind
config_kind word =
    if bytes_eq word (codes "seed") then Some kind.Seed
    else (if bytes_eq word (codes "responder") then Some kind.Responder
    else (if bytes_eq word (codes "opaque") then Some kind.Opaque
    else (if bytes_eq word (codes "block") then Some kind.Block
    else (if bytes_eq word (codes "requester") then Some kind.Requester
    else (if bytes_eq word (codes "suite") then Some kind.Suite
    else (if bytes_eq word (codes "end") then Some kind.End
    else None))))))

abbrev pub config_fault : Bool → PartialConfig → ConfigKind → List ℕ → Option LineFault
config_fault needs_seed given kind.Seed line = seed_fault given line
config_fault needs_seed given kind.Responder line = responder_fault given line
config_fault needs_seed given kind.Opaque line = opaque_fault given line
config_fault needs_seed given kind.Block line = block_fault given line
config_fault needs_seed given kind.Requester line = requester_fault given line
config_fault needs_seed given kind.Suite line = suite_fault given line
config_fault needs_seed given kind.End line = end_fault needs_seed given line

abbrev pub after_config : PartialConfig → ConfigKind → List ℕ → PartialConfig
after_config given kind.Seed line = after_seed given line
after_config given kind.Responder line = after_responder given line
after_config given kind.Opaque line = after_opaque given line
after_config given kind.Block line = after_block given line
after_config given kind.Requester line = after_requester given line
after_config given kind.Suite line = after_suite given line
after_config given kind.End line = after_end given
