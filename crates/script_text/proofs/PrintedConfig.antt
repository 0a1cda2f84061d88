-- Each printed line of a configuration is read back as it was.
use Rattle.std.proofs.Common.{◌≡◌, ℕ, ◌+◌, ◌*◌, ◌^◌, ◌<◌, ◌≤◌, ◌++◌, List, [], ◌∷◌, length, refl, Bool, true, false, ◌&&◌, nat_eq, nat_lt, arith, Some, None}
use Rattle.std.specs.Prelude.{nat_le, ◌==◌, codes}
use Rattle.std.specs.Fmt.{decimal}
use Rattle.std.proofs.lemmas.Bool.{and_parts, ne_eqb}
use Rattle.std.proofs.lemmas.Bool.Decides.{nat_tests}
use Rattle.spdm_grammar.specs.declared.told.block_spec.BlockSpec.{BlockSpec}
use Rattle.script_text.specs.Configuring.{config_kind, config_fault, after_config, seed_fault, after_seed, opaque_fault, after_opaque, block_fault, after_block, block_of, has_block, end_fault, after_end}
use Rattle.script_text.specs.HexWords.{is_hex_in, bytes_of}
use Rattle.script_text.specs.Lines.{words_of}
use Rattle.script_text.specs.Measured.{block_size, sizes_of}
use Rattle.script_text.specs.Numbers.{is_number, is_number_in, value_of}
use Rattle.script_text.specs.Printing.{seed_words, opaque_words, block_words, tcb_word}
use Rattle.script_text.specs.Sound.{is_within, are_bytes, are_bytes_in, fits_word, is_sound_block}
use Rattle.trace_text.specs.Spelling.{hex_word}
use Rattle.script_text.specs.declared.configuration.config_kind.ConfigKind.{ConfigKind}
use Rattle.script_text.specs.declared.configuration.config_kind.ConfigKind.TheVariants as kind
use Rattle.script_text.specs.declared.configuration.config.ReqPart.{ReqPart}
use Rattle.script_text.specs.declared.configuration.partial_config.PartialConfig.{PartialConfig}
use Rattle.script_text.specs.declared.configuration.partial_config.RspLine.{RspLine}
use Rattle.trace_text.proofs.Decimals.{decimal_short}
use Rattle.script_text.proofs.PlainWords.{long_words, plain_decimal, plain_hex}
use Rattle.script_text.proofs.PrintedBytes.{bytes_of-hex_word, is_hex_in-hex_word, length-hex_word}
use Rattle.script_text.proofs.PrintedEvents.{number_in-decimal}
use Rattle.script_text.proofs.PrintedLines.{are_plain, is_plain_word}
use Rattle.script_text.proofs.PrintedNumbers.{value_of-decimal}

-- a line of these words is taken under what was given, and leaves this
pub record IsTaken (given : PartialConfig) (words : List (List ℕ)) (after : PartialConfig) : Type 0 where
  pub plain : are_plain words ≡ true
  pub first : ℕ
  pub rest : List ℕ
  pub others : List (List ℕ)
  pub begins : words ≡ (first ∷ rest) ∷ others
  pub no_comment : nat_eq first 35 ≡ false
  pub short : long_words words ≤ 16200
  pub kind : ConfigKind
  pub is_kind : config_kind (first ∷ rest) ≡ Some kind
  pub good : (line : List ℕ) → words_of line ≡ words → config_fault true given kind line ≡ None
  pub leads : (line : List ℕ) → words_of line ≡ words → after_config given kind line ≡ after

-- bytes of a count are read back
pub record IsBytesWord (low high : ℕ) (bytes : List ℕ) : Type 0 where
  pub good : is_hex_in low high (hex_word bytes) ≡ true
  pub value : bytes_of (hex_word bytes) ≡ bytes
  pub short : length (hex_word bytes) ≤ 2 * high + 1
  pub are : are_bytes bytes ≡ true

pub bytes_are : (low high : ℕ) (bytes : List ℕ) → are_bytes_in low high bytes ≡ true → IsBytesWord low high bytes
bytes_are low high bytes h =
    let parts = and_parts (are_bytes bytes) (is_within low high (length bytes)) h in
    let range = and_parts (nat_le low (length bytes)) (nat_le (length bytes) high) parts.1 in
    let more : low ≤ length bytes = grind (arith, nat_tests, range.0) in
    let less : length bytes ≤ high = grind (arith, nat_tests, range.1) in
    record {
      good = is_hex_in-hex_word low high bytes parts.0 more less;
      value = bytes_of-hex_word bytes parts.0;
      short = omega (arith, length-hex_word bytes, less);
      are = parts.0;
    }

-- numbers of a range are read back
pub record IsNumberWord (low high n : ℕ) : Type 0 where
  pub good : is_number_in low high (decimal n) ≡ true
  pub value : value_of (decimal n) ≡ n
  pub plain : is_plain_word (decimal n) ≡ true
  pub short : length (decimal n) ≤ 20

pub number_is : (low high n : ℕ) → low ≤ n → n ≤ high → high < 2 ^ 64 → IsNumberWord low high n
number_is low high n more less fits =
    let small : n < 2 ^ 64 = omega arith in
    record {
      good = number_in-decimal low high n more less small;
      value = value_of-decimal n small;
      plain = plain_decimal n small;
      short = decimal_short n small;
    }

-- ---- `seed`

pub seed_taken : (given : PartialConfig) (seed : List ℕ) → given.ended ≡ false → given.seed ≡ None → are_bytes_in 32 32 seed ≡ true → IsTaken given (seed_words seed) (record given { seed = Some seed })
unfolding config_kind seed_fault after_seed
seed_taken given seed open_ none sound =
    let b = bytes_are 32 32 seed sound in
    record {
      plain = rw (plain_hex seed b.are) refl;
      first = 115;
      rest = 101 ∷ 101 ∷ 100 ∷ [];
      others = hex_word seed ∷ [];
      begins = refl;
      no_comment = refl;
      short = omega (arith, b.short);
      kind = kind.Seed;
      is_kind = refl;
      good = λ line words. rw (open_, words, b.good, none) refl;
      leads = λ line words. rw (words, b.value) refl;
    }

-- ---- `opaque`

pub opaque_taken : (given : PartialConfig) (bytes : List ℕ) → given.ended ≡ false → given.opaque ≡ None → are_bytes_in 0 1024 bytes ≡ true → IsTaken given (opaque_words bytes) (record given { opaque = Some bytes })
unfolding config_kind opaque_fault after_opaque
opaque_taken given bytes open_ none sound =
    let b = bytes_are 0 1024 bytes sound in
    record {
      plain = rw (plain_hex bytes b.are) refl;
      first = 111;
      rest = 112 ∷ 97 ∷ 113 ∷ 117 ∷ 101 ∷ [];
      others = hex_word bytes ∷ [];
      begins = refl;
      no_comment = refl;
      short = omega (arith, b.short);
      kind = kind.Opaque;
      is_kind = refl;
      good = λ line words. rw (open_, words, b.good, none) refl;
      leads = λ line words. rw (words, b.value) refl;
    }

pub plain_number : {low high n : ℕ} → IsNumberWord low high n → is_plain_word (decimal n) ≡ true
plain_number w = w.plain

plain_tcb : (t : Bool) → is_plain_word (tcb_word t) ≡ true
plain_tcb true = refl
plain_tcb false = refl

-- ---- `block`

record IsTcbWord (t : Bool) : Type 0 where
  good : is_number_in 0 1 (tcb_word t) ≡ true
  value : (value_of (tcb_word t) == 1) ≡ t
  short : length (tcb_word t) ≤ 1

tcb_is : (t : Bool) → IsTcbWord t
unfolding value_of is_number
tcb_is true = record { good = refl; value = refl; short = omega arith }
tcb_is false = record { good = refl; value = refl; short = omega arith }

-- the parts of a block in range
record IsBlockParts (b : BlockSpec) : Type 0 where
  index : IsNumberWord 1 254 b.index
  value_type : IsNumberWord 0 255 b.value_type
  value : IsBytesWord 0 8000 b.value

block_parts : (b : BlockSpec) → is_sound_block b ≡ true → IsBlockParts b
block_parts b sound =
    let parts = and_parts (is_within 1 254 b.index && nat_le b.value_type 255) (fits_word b.value) sound in
    let numbers = and_parts (is_within 1 254 b.index) (nat_le b.value_type 255) parts.0 in
    let range = and_parts (nat_le 1 b.index) (nat_le b.index 254) numbers.0 in
    let low : 1 ≤ b.index = grind (arith, nat_tests, range.0) in
    let high : b.index ≤ 254 = grind (arith, nat_tests, range.1) in
    let kind : b.value_type ≤ 255 = grind (arith, nat_tests, numbers.1) in
    let bytes = and_parts (are_bytes b.value) (nat_le (length b.value) 8000) parts.1 in
    let none : nat_le 0 (length b.value) ≡ true = grind (arith, nat_tests) in
    let range_is : are_bytes_in 0 8000 b.value ≡ true = rw (bytes.0, none, bytes.1) refl in
    record {
      index = number_is 1 254 b.index low high (omega arith);
      value_type = number_is 0 255 b.value_type (omega arith) kind (omega arith);
      value = bytes_are 0 8000 b.value range_is;
    }

block_is : (b : BlockSpec) → IsBlockParts b → (line : List ℕ) → words_of line ≡ block_words b → block_of line ≡ b
unfolding block_of
block_is b p line words = rw (words, p.index.value, p.value_type.value, (tcb_is b.tcb).value, p.value.value) refl

pub block_taken : (given : PartialConfig) (b : BlockSpec) → given.ended ≡ false → is_sound_block b ≡ true → has_block b.index given.blocks ≡ false → nat_lt 4054 (sizes_of given.blocks + block_size b) ≡ false →
    IsTaken given (block_words b) (record given { blocks = given.blocks ++ b ∷ [] })
unfolding config_kind block_fault after_block
block_taken given b open_ sound new room =
    let p = block_parts b sound in
    let t = tcb_is b.tcb in
    record {
      plain = rw (plain_number p.index, plain_number p.value_type, plain_tcb b.tcb, plain_hex b.value p.value.are) refl;
      first = 98;
      rest = 108 ∷ 111 ∷ 99 ∷ 107 ∷ [];
      others = decimal b.index ∷ decimal b.value_type ∷ tcb_word b.tcb ∷ hex_word b.value ∷ [];
      begins = refl;
      no_comment = refl;
      short = omega (arith, p.index.short, p.value_type.short, t.short, p.value.short);
      kind = kind.Block;
      is_kind = refl;
      good = λ line words. rw (open_, block_is b p line words, words, p.index.good, p.value_type.good, t.good, p.value.good, p.index.value, new, room) refl;
      leads = λ line words. rw (block_is b p line words) refl;
    }

-- ---- `end`

pub end_taken : (given : PartialConfig) (r : RspLine) (q : ReqPart) (qs : List ReqPart) (seed : List ℕ) → given.ended ≡ false → given.responder ≡ Some r → given.requesters ≡ q ∷ qs → given.seed ≡ Some seed →
    IsTaken given (codes "end" ∷ []) (record given { ended = true })
unfolding config_kind end_fault after_end
end_taken given r q qs seed open_ responder requesters seeded =
    let some : nat_eq (length (q ∷ qs)) 0 ≡ false = ne_eqb _ _ (omega arith) in
    record {
      plain = refl;
      first = 101;
      rest = 110 ∷ 100 ∷ [];
      others = [];
      begins = refl;
      no_comment = refl;
      short = omega arith;
      kind = kind.End;
      is_kind = refl;
      good = λ line words. rw (open_, words, responder, requesters, some, seeded) refl;
      leads = λ line words. refl;
    }
