-- Capabilities and algorithms as they are printed are read back.
use Rattle.std.proofs.Common.{◌≡◌, ◌≤◌, length, refl, Bool, true, false, Some, arith}
use Rattle.spdm_grammar.specs.declared.messages.choice.FlagSet.{FlagSet}
use Rattle.spdm_grammar.specs.declared.messages.choice.Pick.{Pick}
use Rattle.spdm_grammar.specs.declared.messages.choice.Pick.TheVariants.{Small, Large, Both}
use Rattle.script_text.specs.Choices.{is_flags, flags_of, hash_in, aead_in}
use Rattle.script_text.specs.Printing.{flags_word, hash_word, aead_word}
use Rattle.script_text.proofs.PrintedLines.{is_plain_word}

-- what is known of the word of some capabilities
pub record IsFlagsWord (f : FlagSet) : Type 0 where
  pub good : is_flags (flags_word f) ≡ true
  pub value : flags_of (flags_word f) ≡ f
  pub plain : is_plain_word (flags_word f) ≡ true
  pub short : length (flags_word f) ≤ 4

flags_by : (m h k c : Bool) → IsFlagsWord (record { measure = m; heartbeat = h; key_update = k; chunk = c })
unfolding is_flags flags_of flags_word
flags_by false false false false = record { good = refl; value = refl; plain = refl; short = omega arith }
flags_by false false false true = record { good = refl; value = refl; plain = refl; short = omega arith }
flags_by false false true false = record { good = refl; value = refl; plain = refl; short = omega arith }
flags_by false false true true = record { good = refl; value = refl; plain = refl; short = omega arith }
flags_by false true false false = record { good = refl; value = refl; plain = refl; short = omega arith }
flags_by false true false true = record { good = refl; value = refl; plain = refl; short = omega arith }
flags_by false true true false = record { good = refl; value = refl; plain = refl; short = omega arith }
flags_by false true true true = record { good = refl; value = refl; plain = refl; short = omega arith }
flags_by true false false false = record { good = refl; value = refl; plain = refl; short = omega arith }
flags_by true false false true = record { good = refl; value = refl; plain = refl; short = omega arith }
flags_by true false true false = record { good = refl; value = refl; plain = refl; short = omega arith }
flags_by true false true true = record { good = refl; value = refl; plain = refl; short = omega arith }
flags_by true true false false = record { good = refl; value = refl; plain = refl; short = omega arith }
flags_by true true false true = record { good = refl; value = refl; plain = refl; short = omega arith }
flags_by true true true false = record { good = refl; value = refl; plain = refl; short = omega arith }
flags_by true true true true = record { good = refl; value = refl; plain = refl; short = omega arith }

pub flags_are : (f : FlagSet) → IsFlagsWord f
flags_are f = flags_by f.measure f.heartbeat f.key_update f.chunk

-- what is known of the word of a pick of hashes, and of one of AEADs
pub hash_in-word : (p : Pick) → hash_in (hash_word p) ≡ Some p
unfolding hash_in
hash_in-word Small = refl
hash_in-word Large = refl
hash_in-word Both = refl

pub aead_in-word : (p : Pick) → aead_in (aead_word p) ≡ Some p
unfolding aead_in
aead_in-word Small = refl
aead_in-word Large = refl
aead_in-word Both = refl

pub plain_hash : (p : Pick) → is_plain_word (hash_word p) ≡ true
plain_hash Small = refl
plain_hash Large = refl
plain_hash Both = refl

pub plain_aead : (p : Pick) → is_plain_word (aead_word p) ≡ true
plain_aead Small = refl
plain_aead Large = refl
plain_aead Both = refl

pub short_hash : (p : Pick) → length (hash_word p) ≤ 4
short_hash Small = omega arith
short_hash Large = omega arith
short_hash Both = omega arith

pub short_aead : (p : Pick) → length (aead_word p) ≤ 4
short_aead Small = omega arith
short_aead Large = omega arith
short_aead Both = omega arith
