-- How many packets a large message takes in chunks.
use Rattle.std.proofs.Common.{◌≡◌, ◌+◌, ◌-◌, ◌*◌, ◌<◌, ◌≤◌, ℕ, zero, suc, Bool, true, false, nat_le, refl, subst, arith}
use Rattle.std.proofs.lemmas.Bool.{leb-false, leb-true}
use Rattle.std.proofs.lemmas.Grind.{div_ceil_times}
use Rattle.std.proofs.lemmas.Nat.{mul-le}
use Rattle.std.specs.Int.{div_ceil}
use Rattle.spdm_grammar.specs.declared.names.TheConstants.{MAX_MESSAGE_SIZE, MIN_DATA_TRANSFER_SIZE}

-- With the request before them, c + 1 chunks of e packets each.
middle : (e c unit : ℕ) → 3 ≤ e → e ≤ 34 → 64 * e ≤ unit + 103 → 89 ≤ unit → c * unit ≤ 4099 → e * suc (suc c) ≤ 276
middle e c unit some few packets wide within =
    let chunks : c * 89 ≤ c * unit = mul-le c 89 c unit (omega arith) wide in
    let all : (64 * e) * c ≤ (unit + 103) * c = mul-le (64 * e) c (unit + 103) c packets (omega arith) in
    let left : (64 * e) * c ≡ 64 * (e * c) = grind arith in
    let right : (unit + 103) * c ≡ c * unit + 103 * c = grind arith in
    let whole : e * suc (suc c) ≡ e * c + e + e = grind arith in
    omega (arith, chunks, all, left, right, whole, few, within)

at_most_one : (e c unit : ℕ) → e ≤ 65 → 2137 ≤ unit → c * unit ≤ 4099 → e * suc (suc c) ≤ 276
at_most_one e zero unit few wide within = omega (arith, few)
at_most_one e (suc zero) unit few wide within = omega (arith, few)
at_most_one e (suc (suc c)) unit few wide within = (let twice : 2 * unit ≤ suc (suc c) * unit = mul-le 2 unit (suc (suc c)) unit (omega arith) (omega arith) in absurd (omega (arith, twice, wide, within)))

many : (e c unit : ℕ) (b : Bool) → nat_le e 34 ≡ b → 3 ≤ e → e ≤ 65 → 64 * e ≤ unit + 103 → c * unit ≤ 4099 → e * suc (suc c) ≤ 276
many e c unit true is some few upper within = (let less = leb-true e 34 is in middle e c unit some less upper (omega (arith, upper, some)) within)
many e c unit false is some few upper within = (let more = leb-false e 34 is in at_most_one e c unit few (omega (arith, upper, more)) within)

few_chunks : (c unit : ℕ) → 30 ≤ unit → c * unit ≤ 4099 → suc (suc c) ≤ 138
few_chunks c unit wide within = (let chunks : c * 30 ≤ c * unit = mul-le c 30 c unit (omega arith) wide in omega (arith, chunks, within))

few_in_all : (e c unit : ℕ) → e ≤ 65 → 30 ≤ unit → 64 * e ≤ unit + 103 → c * unit ≤ 4099 → e * suc (suc c) ≤ 276
few_in_all zero c unit few wide upper within = omega arith
few_in_all (suc zero) c unit few wide upper within = (let chunks = few_chunks c unit wide within in omega (arith, chunks))
few_in_all (suc (suc zero)) c unit few wide upper within = (let chunks = few_chunks c unit wide within in omega (arith, chunks))
few_in_all (suc (suc (suc e))) c unit few wide upper within = many (suc (suc (suc e))) c unit (nat_le (suc (suc (suc e))) 34) refl (omega arith) few upper within

-- A message that is sent in chunks, with the round before them: so many packets of each chunk, which has 28 bytes more
-- in a session, and so many of all of them.
pub record InChunks (transfer size : ℕ) : Type 0 where
  pub each : ℕ
  pub fits : transfer + 28 ≤ 64 * each
  pub few : each * suc (div_ceil (size + 4) (transfer - 12)) ≤ 276
  pub rounds : suc (div_ceil (size + 4) (transfer - 12)) ≤ 138

abbrev AreFewSo : (e q : ℕ) → Type 0
AreFewSo e q = (e * suc q ≤ 276) × (suc q ≤ 138)

by_count : (e q unit n : ℕ) → e ≤ 65 → 30 ≤ unit → 64 * e ≤ unit + 103 → n ≤ 4100 → 0 < n → n ≤ q * unit → q * unit < n + unit → AreFewSo e q
by_count e zero unit n few wide upper most filled enough spare = absurd (omega (arith, filled, enough))
by_count e (suc c) unit n few wide upper most filled enough spare =
    let units : suc c * unit ≡ c * unit + unit = grind arith in
    let within : c * unit ≤ 4099 = omega (arith, units, spare, most) in
    (few_in_all e c unit few wide upper within, few_chunks c unit wide within)

pub in_chunks : (transfer size : ℕ) → MIN_DATA_TRANSFER_SIZE ≤ transfer → transfer < size → size ≤ MAX_MESSAGE_SIZE → InChunks transfer size
in_chunks transfer size low large most =
    let around = div_ceil_times (transfer + 28) 64 (omega arith) in
    let chunks = div_ceil_times (size + 4) (transfer - 12) (omega (arith, low)) in
    let all = by_count (div_ceil (transfer + 28) 64) (div_ceil (size + 4) (transfer - 12)) (transfer - 12) (size + 4) (omega (arith, around.1, large, most)) (omega (arith, low)) (omega (arith, around.1, low)) (omega (arith, most)) (omega arith) chunks.0 chunks.1 in record {
      each = div_ceil (transfer + 28) 64;
      fits = omega (arith, around.0);
      few = all.0;
      rounds = all.1;
    }

-- A message of at most 1,228 bytes has 42 chunks at most.
pub chunks_within : (transfer size : ℕ) → MIN_DATA_TRANSFER_SIZE ≤ transfer → size ≤ 1228 → div_ceil (size + 4) (transfer - 12) ≤ 42
chunks_within transfer size low few =
    let chunks = div_ceil_times (size + 4) (transfer - 12) (omega (arith, low)) in
    by_number (div_ceil (size + 4) (transfer - 12)) (transfer - 12) (omega (arith, low)) (omega (arith, chunks.1, few))
  where
    by_number : (q unit : ℕ) → 30 ≤ unit → q * unit ≤ 1231 + unit → q ≤ 42
    by_number zero unit wide spare = omega arith
    by_number (suc c) unit wide spare =
        let units : suc c * unit ≡ c * unit + unit = grind arith in
        let thirties : c * 30 ≤ c * unit = mul-le c 30 c unit (omega arith) wide in
        omega (arith, units, spare, thirties)

-- A message of at most 1,228 bytes in chunks in the clear: so many packets of each chunk, and so many of all of them.
pub record InFewChunks (transfer size : ℕ) : Type 0 where
  pub fits : transfer + 1 ≤ 64 * div_ceil (transfer + 1) 64
  pub few : div_ceil (transfer + 1) 64 * div_ceil (size + 4) (transfer - 12) ≤ 84
  pub chunks : div_ceil (size + 4) (transfer - 12) ≤ 42

small_in_all : (e c unit : ℕ) → e ≤ 20 → 64 * e ≤ unit + 76 → c * unit ≤ 1231 → c ≤ 41 → e * suc c ≤ 84
small_in_all zero c unit few upper within chunks = omega arith
small_in_all (suc zero) c unit few upper within chunks = omega (arith, chunks)
small_in_all (suc (suc e)) c unit few upper within chunks =
    let wide : 52 ≤ unit = omega (arith, upper) in
    let wider : c * 52 ≤ c * unit = mul-le c 52 c unit (omega arith) wide in
    let all : (64 * suc (suc e)) * c ≤ (unit + 76) * c = mul-le (64 * suc (suc e)) c (unit + 76) c upper (omega arith) in
    let left : (64 * suc (suc e)) * c ≡ 64 * (suc (suc e) * c) = grind arith in
    let right : (unit + 76) * c ≡ c * unit + 76 * c = grind arith in
    let whole : suc (suc e) * suc c ≡ suc (suc e) * c + suc (suc e) = grind arith in
    omega (arith, wider, all, left, right, whole, few, within)

small_by : (e q unit : ℕ) → e ≤ 20 → 64 * e ≤ unit + 76 → q * unit ≤ 1231 + unit → q ≤ 42 → e * q ≤ 84
small_by e zero unit few upper spare chunks = omega arith
small_by e (suc c) unit few upper spare chunks =
    let units : suc c * unit ≡ c * unit + unit = grind arith in
    small_in_all e c unit few upper (omega (arith, units, spare)) (omega (arith, chunks))

pub in_few : (transfer size : ℕ) → MIN_DATA_TRANSFER_SIZE ≤ transfer → transfer ≤ 1233 → size ≤ 1228 → InFewChunks transfer size
in_few transfer size low high few =
    let around = div_ceil_times (transfer + 1) 64 (omega arith) in
    let spare = div_ceil_times (size + 4) (transfer - 12) (omega (arith, low)) in
    let chunks = chunks_within transfer size low few in
    record {
      fits = omega (arith, around.0);
      few = small_by (div_ceil (transfer + 1) 64) (div_ceil (size + 4) (transfer - 12)) (transfer - 12) (omega (arith, around.1, high)) (omega (arith, around.1, low)) (omega (arith, spare.1, few)) chunks;
      chunks = chunks;
    }

pub not_zero : (z : ℕ) → (z ≡ 0 → ⊥) → 1 ≤ z
not_zero zero other = absurd (other refl)
not_zero (suc z) other = omega arith

-- One that is not the last is followed by another.
pub next_below : (j z : ℕ) → j < z → (j + 1 ≡ z → ⊥) → suc j < z
next_below j z within other = by_case (nat_le z (suc j)) refl
  where
    by_case : (b : Bool) → nat_le z (suc j) ≡ b → suc j < z
    by_case true is = (let few = leb-true _ _ is in absurd (other (omega (arith, few, within))))
    by_case false is = leb-false _ _ is

-- A message that has bytes has a chunk.
pub some_of : (size unit : ℕ) → 0 < size → 0 < unit → 1 ≤ div_ceil size unit
some_of size unit some wide =
    let around = div_ceil_times size unit wide in
    not_zero (div_ceil size unit) (λ e. (let none : size ≤ 0 * unit = subst (λ (z : ℕ). size ≤ z * unit) e around.0 in omega (arith, none, some)))
