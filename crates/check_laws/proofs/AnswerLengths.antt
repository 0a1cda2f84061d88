-- How long an answer is depends on the lengths of what is chosen alone, and a response is read off its bytes.
use Rattle.std.proofs.Common.{◌≡◌, ◌<◌, ◌≤◌, ◌+◌, ◌==◌, ◌||◌, ℕ, zero, suc, List, [], ◌++◌, refl, ap, length, Bool, true, false, Option, Some, None, arith, length-append}
use Rattle.std.proofs.lemmas.Bool.Decides.{nat_tests}
use Rattle.std.specs.Prelude.{if◌then◌else◌, unwrap_or}
use Rattle.std.specs.Result.{result_ok}
use Rattle.byteorder.specs.Endian.{little_bytes}
use Rattle.key_schedule.specs.declared.direction.Direction.TheVariants as direction
use Rattle.measurements.specs.Blocks.{at_most_one, block_of, record_of, up_to}
use Rattle.measurements.specs.Records.{asked}
use Rattle.measurements.specs.Summaries.{hash_of_blocks, summarized}
use Rattle.responder_machine.proofs.VerifyLength.{length_blocks, length_verify}
use Rattle.responder_machine.specs.Answer.{Free, exchange_answer, exchange_rsp, measurements_answer, summary_answer, t1_with}
use Rattle.responder_machine.specs.History.{History}
use Rattle.responder_machine.specs.May.{IsAllowed}
use Rattle.responder_machine.specs.Place.{Place, place_terms}
use Rattle.responder_machine.specs.Setup.{RspSetup, inventory_of}
use Rattle.running_hash.specs.Hash.{hash_of}
use Rattle.spdm_basis.specs.Sizes.{hash_size}
use Rattle.spdm_basis.specs.declared.values.hash_alg.HashAlg.{HashAlg}
use Rattle.spdm_grammar.proofs.CanonicalResponses.{response_spelled}
use Rattle.spdm_grammar.proofs.Spellings.{spelling_read}
use Rattle.spdm_grammar.specs.Message.{ExchangeMessage, ResponseMessage}
use Rattle.spdm_grammar.specs.Responses.{FitsResponse, IsSoundResponse, canonical_response, response_in, response_layout, summary_len}
use Rattle.spdm_grammar.specs.declared.told.block_spec.BlockSpec.{BlockSpec}
use Rattle.spdm_grammar.specs.declared.names.TheConstants.{MAX_MESSAGE_SIZE}
use Rattle.spdm_machine.specs.Keys.{verify_data}
use Rattle.spdm_machine.specs.Terms.{hash_len}

-- ---- PSK_EXCHANGE_RSP.

pub summary_length : (r : RspSetup) (p : Place) (kind : ℕ) → length (summary_answer r p kind) ≡ summary_len (hash_len (place_terms p)) (kind == 1 || kind == 255)
summary_length r p kind = by_kind (kind == 0) (kind == 1 || kind == 255) (λ none. not_zero kind none)
  where
    hash : HashAlg
    hash = (place_terms p).choice.hash

    not_zero : (n : ℕ) → (n == 0) ≡ true → (n == 1 || n == 255) ≡ false
    not_zero n none = grind (arith, nat_tests)

    by_kind : (none some : Bool) → (none ≡ true → some ≡ false)
        → length (if none then [] else unwrap_or (if some then Some (hash_of_blocks (hash_of hash) (summarized kind (inventory_of r))) else None) []) ≡ summary_len (hash_size hash) some
    by_kind true true never = absurd (let h = never refl in cc)
    by_kind true false never = refl
    by_kind false true never = length_blocks hash (summarized kind (inventory_of r))
    by_kind false false never = refl

pub exchange_rsp_length : (r : RspSetup) (p : Place) (f : Free) (x : ExchangeMessage) (verify : List ℕ)
    → length (canonical_response (exchange_rsp r p f x verify)) ≡ 12 + length (summary_answer r p x.summary) + length f.context + length f.exchange_opaque + length verify
exchange_rsp_length r p f x verify =
    let summary : List ℕ = summary_answer r p x.summary in
    let one = length-append (summary ++ f.context ++ f.exchange_opaque) verify in
    let two = length-append (summary ++ f.context) f.exchange_opaque in
    let three = length-append summary f.context in
    omega arith

pub exchange_length : (r : RspSetup) (p : Place) (m : List ℕ) (f : Free) (x : ExchangeMessage)
    → length (canonical_response (exchange_answer r p m f x)) ≡ 12 + length (summary_answer r p x.summary) + length f.context + length f.exchange_opaque + hash_len (place_terms p)
exchange_length r p m f x =
    let text : List ℕ = t1_with r p m f x in
    let long = length_verify (place_terms p).choice r.psk text direction.Response text in
    let all = exchange_rsp_length r p f x (verify_data (place_terms p).choice r.psk text direction.Response text) in
    omega arith

-- ---- MEASUREMENTS.

abbrev blocks_bytes : RspSetup → (op : ℕ) → List ℕ
blocks_bytes r op = record_of (asked op (inventory_of r))

pub measured_length : (r : RspSetup) (f : Free) (op : ℕ)
    → length (canonical_response (measurements_answer r f op)) ≡ 10 + length (blocks_bytes r op) + length f.nonce + length f.measured_opaque
measured_length r f op =
    let block : List ℕ = blocks_bytes r op in
    let told : List ℕ = little_bytes 2 (length f.measured_opaque) in
    let one = length-append (block ++ f.nonce ++ told) f.measured_opaque in
    let two = length-append (block ++ f.nonce) told in
    let three = length-append block f.nonce in
    omega arith

up_to_few : (n : ℕ) (blocks : List BlockSpec) → length (up_to n blocks) ≤ n
unfolding up_to
up_to_few zero blocks = omega arith
up_to_few (suc n) blocks =
    let few = up_to_few n blocks in
    let one = one_few (block_of (n + 1) blocks) in
    let both = length-append (up_to n blocks) (at_most_one (block_of (n + 1) blocks)) in
    omega arith
  where
    one_few : (o : Option BlockSpec) → length (at_most_one o) ≤ 1
    one_few None = omega arith
    one_few (Some block) = omega arith

inventory_few : (r : RspSetup) → length (inventory_of r) ≤ 254
inventory_few r = up_to_few 254 r.blocks

total_few : (r : RspSetup) (b : Bool) → (if b then length (inventory_of r) else 0) < 256
total_few r true = (let few = inventory_few r in omega arith)
total_few r false = omega arith

asked_few : (r : RspSetup) (b c : Bool) (o : Option BlockSpec) → length (if b then [] else (if c then inventory_of r else at_most_one o)) < 256
asked_few r true c o = omega arith
asked_few r false true o = (let few = inventory_few r in omega arith)
asked_few r false false None = omega arith
asked_few r false false (Some block) = omega arith

-- ---- They are read.

read_back : (v : ResponseMessage) (len : ℕ) (summary : Bool) → FitsResponse v → IsSoundResponse len summary v → response_in len summary (canonical_response v) ≡ Some v
read_back v len summary fits sound = ap result_ok (spelling_read (response_layout len summary) 0 v (canonical_response v) (response_spelled len summary v fits sound).is)

beat_small : (r : RspSetup) (b : Bool) → r.beat < 256 → (if b then r.beat else 0) < 256
beat_small r true byte = byte
beat_small r false byte = omega arith

-- PSK_EXCHANGE_RSP is read whatever its verify data are.
pub exchange_rsp_read : (r : RspSetup) (h : History) (p : Place) (f : Free) (x : ExchangeMessage) (verify : List ℕ) → r.beat < 256 → IsAllowed h p f → length verify ≡ hash_len (place_terms p) → length (canonical_response (exchange_rsp r p f x verify)) ≤ MAX_MESSAGE_SIZE
    → response_in (hash_len (place_terms p)) (x.summary == 1 || x.summary == 255) (canonical_response (exchange_rsp r p f x verify)) ≡ Some (exchange_rsp r p f x verify)
exchange_rsp_read r h p f x verify byte fits long short =
    let all = exchange_rsp_length r p f x verify in
    let most = fits.most in
    read_back (exchange_rsp r p f x verify) (hash_len (place_terms p)) (x.summary == 1 || x.summary == 255) (beat_small r (place_terms p).common.heartbeat byte, omega arith) (record {
      summary = summary_length r p x.summary;
      context_long = fits.context;
      context = omega (arith, short);
      opaque = fits.exchange_opaque;
      verify = long;
    })

pub exchange_read : (r : RspSetup) (h : History) (p : Place) (m : List ℕ) (f : Free) (x : ExchangeMessage) → r.beat < 256 → IsAllowed h p f → length (canonical_response (exchange_answer r p m f x)) ≤ MAX_MESSAGE_SIZE
    → response_in (hash_len (place_terms p)) (x.summary == 1 || x.summary == 255) (canonical_response (exchange_answer r p m f x)) ≡ Some (exchange_answer r p m f x)
exchange_read r h p m f x byte fits short =
    let text : List ℕ = t1_with r p m f x in
    exchange_rsp_read r h p f x (verify_data (place_terms p).choice r.psk text direction.Response text) byte fits (length_verify (place_terms p).choice r.psk text direction.Response text) short

pub measured_read : (r : RspSetup) (h : History) (p : Place) (f : Free) (op : ℕ) → IsAllowed h p f → length (canonical_response (measurements_answer r f op)) ≤ MAX_MESSAGE_SIZE
    → response_in (hash_len (place_terms p)) false (canonical_response (measurements_answer r f op)) ≡ Some (measurements_answer r f op)
measured_read r h p f op fits short =
    let all = measured_length r f op in
    let total = total_few r (op == 0) in
    let blocks = asked_few r (op == 0) (op == 255) (block_of op (inventory_of r)) in
    read_back (measurements_answer r f op) (hash_len (place_terms p)) false (total, blocks) (record {
      block_bytes = omega (arith, short);
      nonce = fits.nonce;
      opaque = fits.measured_opaque;
    })
