-- How long the answers are in which values are free, as the program tells it.
use Rattle.std.proofs.Common.{◌≡◌, ◌+◌, ◌==◌, ◌&&◌, ◌||◌, ℕ, List, [], refl, length, Bool, true, false, Option, Some, None, arith, is_none}
use Rattle.std.specs.Prelude.{if◌then◌else◌, not}
use Rattle.measurements.specs.Blocks.{at_most_one, block_of, record_of}
use Rattle.measurements.specs.Records.{asked, is_missing}
use Rattle.responder_machine.specs.Answer.{Free, exchange_answer, measurements_answer}
use Rattle.responder_machine.specs.Place.{Place, place_terms}
use Rattle.responder_machine.specs.Setup.{RspSetup, inventory_of}
use Rattle.spdm_basis.specs.Sizes.{hash_size}
use Rattle.spdm_grammar.specs.Message.{ExchangeMessage, ResponseMessage}
use Rattle.spdm_grammar.specs.Message.ResponseMessage.{Version, Capabilities, Algorithms, Measurements, PskExchangeRsp, PskFinishRsp, HeartbeatAck, KeyUpdateAck, EndSessionAck, ChunkSendAck, ChunkResponse, Error}
use Rattle.spdm_grammar.specs.Responses.{IsSoundResponse, canonical_response}
use Rattle.spdm_grammar.specs.declared.told.block_spec.BlockSpec.{BlockSpec}
use Rattle.check_laws.proofs.AnswerLengths.{exchange_length, measured_length, summary_length}
use Rattle.check_responder.specs.JudgedResponder.{HasShortFields}

-- Of a block that is missing nothing is asked.
pub missing_none : (op : ℕ) (blocks : List BlockSpec) → is_missing op blocks ≡ true → length (record_of (asked op blocks)) ≡ 0
missing_none op blocks = by_op (op == 0) (op == 255) (block_of op blocks)
  where
    by_op : (zero all : Bool) (o : Option BlockSpec) → (not (zero || all) && is_none o) ≡ true
        → length (record_of (if zero then [] else (if all then blocks else at_most_one o))) ≡ 0
    by_op true all o is = absurd (let h = is in cc)
    by_op false true o is = absurd (let h = is in cc)
    by_op false false (Some block) is = absurd (let h = is in cc)
    by_op false false None is = refl

pub exchange_read_length : (r : RspSetup) (p : Place) (m : List ℕ) (f : Free) (x : ExchangeMessage)
    → length (canonical_response (exchange_answer r p m f x))
    ≡ 12 + (if x.summary == 1 || x.summary == 255 then hash_size (place_terms p).choice.hash else 0) + length f.context + length f.exchange_opaque + hash_size (place_terms p).choice.hash
exchange_read_length r p m f x =
    let all = exchange_length r p m f x in
    let one = summary_length r p x.summary in
    omega (arith, all, one)

pub measured_read_length : (r : RspSetup) (f : Free) (op : ℕ) → length f.nonce ≡ 32
    → length (canonical_response (measurements_answer r f op)) ≡ 42 + length (record_of (asked op (inventory_of r))) + length f.measured_opaque
measured_read_length r f op nonce =
    let all = measured_length r f op in
    omega (arith, all, nonce)

-- What is sound has no longer fields.
pub sound_short : (len : ℕ) (summary : Bool) (v : ResponseMessage) → IsSoundResponse len summary v → HasShortFields v
sound_short len summary (Version entries) sound = tt
sound_short len summary (Capabilities caps) sound = tt
sound_short len summary (Algorithms reply) sound = tt
sound_short len summary (Measurements measured) sound = (sound.nonce, sound.opaque)
sound_short len summary (PskExchangeRsp rsp) sound = (sound.context, sound.opaque)
sound_short len summary PskFinishRsp sound = tt
sound_short len summary HeartbeatAck sound = tt
sound_short len summary (KeyUpdateAck op tag) sound = tt
sound_short len summary EndSessionAck sound = tt
sound_short len summary (ChunkSendAck early handle number response) sound = tt
sound_short len summary (ChunkResponse chunk) sound = tt
sound_short len summary (Error version code detail extended) sound = tt
