-- The configuration of every generated script is in range.
use Rattle.std.proofs.Common.{◌≡◌, ◌++◌, ◌%◌, ◌/◌, ℕ, List, [], ◌∷◌, refl, arith, true, nat_lt}
use Rattle.std.proofs.lemmas.Bool.{lt-ltb}
use Rattle.spdm_basis.proofs.Bools.{and_first, and_second}
use Rattle.script_text.specs.EndPoints.{eid_of}
use Rattle.script_text.specs.Generator.{eight_bytes, four_times, generated_block, generated_config, generated_requester, generated_responder}
use Rattle.script_text.specs.Sound.{IsSoundConfig, are_bytes, are_bytes_in}

bytes_both : (xs ys : List ℕ) → are_bytes xs ≡ true → are_bytes ys ≡ true → are_bytes (xs ++ ys) ≡ true
bytes_both [] ys a b = b
bytes_both (x ∷ xs) ys a b = rw (and_first (nat_lt x 256) (are_bytes xs) a) (bytes_both xs ys (and_second (nat_lt x 256) (are_bytes xs) a) b)

low : (n : ℕ) → nat_lt (n % 256) 256 ≡ true
low n = lt-ltb (n % 256) 256 (omega arith)

eight : (n : ℕ) → are_bytes (eight_bytes n) ≡ true
eight n = rw (low n, low (n / 256), low (n / 65536), low (n / 16777216), low (n / 4294967296), low (n / 1099511627776), low (n / 281474976710656), low (n / 72057594037927936)) refl

seed_bytes : (seed : ℕ) → are_bytes_in 32 32 (four_times seed) ≡ true
seed_bytes seed =
    let e = eight_bytes seed in
    let all : are_bytes (four_times seed) ≡ true = bytes_both e (e ++ (e ++ e)) (eight seed) (bytes_both e (e ++ e) (eight seed) (bytes_both e e (eight seed) (eight seed))) in
    rw all refl

pub generated_sound : (seed : ℕ) → IsSoundConfig (generated_config seed)
unfolding generated_responder generated_requester generated_block eid_of
generated_sound seed = record {
  seed_bytes = four_times seed;
  seed = refl;
  seed_size = seed_bytes seed;
  responder = refl;
  blocks = refl;
  some = omega arith;
  requesters = refl;
}
