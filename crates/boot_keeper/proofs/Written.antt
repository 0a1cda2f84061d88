-- A device after a write, byte for byte.
use Rattle.std.proofs.Common.{◌≡◌, ◌<◌, ◌≤◌, ◌+◌, ◌-◌, ◌++◌, ℕ, List, Some, length, take, drop, get_or, arith, refl, ap, ◌∙◌}
use Rattle.std.proofs.lemmas.Grind.{common_steps}
use Rattle.std.proofs.lemmas.List.{get_or_append_left, get_or-append_right, get_or-take, get_or-drop}
use Rattle.boot_keeper.specs.Device.{IsTorn, TearsBytes, written}

-- It is as long as before.
pub length-written : (at : ℕ) (bytes old : List ℕ) → at + length bytes ≤ length old → length (written at bytes old) ≡ length old
length-written at bytes old fits = grind (arith, common_steps)

-- Before the place nothing changed.
pub before-written : (at : ℕ) (bytes old : List ℕ) → at + length bytes ≤ length old → (i : ℕ) → i < at → get_or (written at bytes old) i 0 ≡ get_or old i 0
before-written at bytes old fits i less =
    let size : length (take at old) ≡ at = grind (arith, common_steps) in
    let there : i < length (take at old) = omega (arith, size) in
    get_or_append_left (take at old) (bytes ++ drop (at + length bytes) old) 0 i there ∙ get_or-take at old i 0 less

-- Behind the bytes nothing changed.
pub behind-written : (at : ℕ) (bytes old : List ℕ) → at + length bytes ≤ length old → (i : ℕ) → at + length bytes ≤ i → get_or (written at bytes old) i 0 ≡ get_or old i 0
behind-written at bytes old fits i more =
    let size : length (take at old) ≡ at = grind (arith, common_steps) in
    let back : at + length bytes + (i - at - length bytes) ≡ i = omega arith in
    get_or-append_right (take at old) (bytes ++ drop (at + length bytes) old) at i 0 size (omega arith)
    ∙ get_or-append_right bytes (drop (at + length bytes) old) (length bytes) (i - at) 0 refl (omega arith)
    ∙ get_or-drop (at + length bytes) old (i - at - length bytes) 0
    ∙ ap (λ k. get_or old k 0) back

-- A write of fewer bytes than were to be written leaves a device that is torn where they were to go.
pub written_torn : (at count : ℕ) (bytes old : List ℕ) → at + count ≤ length old → length bytes ≤ count → IsTorn at count old (written at bytes old)
written_torn at count bytes old fits few = record {
  long = length-written at bytes old (omega arith);
  before = λ i less. before-written at bytes old (omega arith) i less;
  behind = λ i more. behind-written at bytes old (omega arith) i (omega arith);
}

-- So does the device that it tells.
pub torn_told : (now device new : List ℕ) (at count : ℕ) (bytes : List ℕ) → device ≡ now → new ≡ written at bytes device → at + count ≤ length device →
    length bytes ≤ count → TearsBytes (Some now) at count (Some new)
torn_told now device new at count bytes same is fits few = λ old told.
    let e : device ≡ old = cc in
    let torn = written_torn at count bytes device fits few in
    (new, refl, rw (is, ← e) torn)
