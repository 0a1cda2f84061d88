-- The packets of a body of at most 4,161 bytes fit into 72 packets and 8,192 bytes.
use Rattle.std.proofs.Common.{◌≡◌, ◌∙◌, ◌+◌, ◌*◌, ◌<◌, ◌≤◌, ◌++◌, ℕ, zero, suc, List, ◌∷◌, length, sym, ap, subst, arith, length-append}
use Rattle.std.proofs.lemmas.Nat.{mul-le}
use Rattle.std.proofs.lemmas.Grind.{div_ceil_times}
use Rattle.std.proofs.lemmas.List.Sums.{sum_by-append, sum_by-cons, sum_by-le}
use Rattle.mctp_framing.specs.Cutting.{RouteFields, packet_count, packets_of}
use Rattle.mctp_framing.specs.Spans.{total_len}
use Rattle.mctp_framing.proofs.Packets.{length-packets_of, packets_fit}

-- few units hold the body
few_units : (q unit n : ℕ) → q * unit < n + unit → n ≤ 4161 → 64 ≤ unit → q ≤ 66
few_units zero unit n spare short low = omega arith
few_units (suc k) unit n spare short low =
    let most : 66 ≤ k → 64 ≤ unit → 66 * 64 ≤ k * unit = mul-le 66 64 k unit in
    grind (arith, most)

-- with four bytes each they have few bytes
few_bytes : (q unit n : ℕ) → q * unit < n + unit → n ≤ 4161 → unit ≤ 1024 → q ≤ 66 → q * (unit + 4) ≤ 8192
few_bytes q unit n spare short high few = grind arith

total_len-part : (before after : List (List ℕ)) (p : List ℕ) → total_len before + length p ≤ total_len (before ++ p ∷ after)
total_len-part before after p = rw (sum_by-append length before (p ∷ after), sum_by-cons length p after) (omega arith)

pub room : (route : RouteFields) (unit : ℕ) (body : List ℕ) (before after : List (List ℕ)) (p : List ℕ) →
    length body ≤ 4161 → 64 ≤ unit → unit ≤ 1024 → before ++ p ∷ after ≡ packets_of route unit body →
    (length before < 72) × (total_len before + length p ≤ 8192)
room route unit body before after p short low high e =
    let all = packets_of route unit body in
    let around = div_ceil_times (length body) unit (omega arith) in
    let few : packet_count unit body ≤ 66 = few_units (packet_count unit body) unit (length body) around.1 short low in
    let many : length all ≡ packet_count unit body = length-packets_of route unit body in
    let shorter : length before + suc (length after) ≡ length all = sym (length-append before (p ∷ after)) ∙ ap length e in
    let bytes : total_len all ≤ length all * (unit + 4) = sum_by-le length (unit + 4) all (packets_fit route unit body) in
    let most : packet_count unit body * (unit + 4) ≤ 8192 = few_bytes (packet_count unit body) unit (length body) around.1 short high few in
    let P : List (List ℕ) → Type 0 = λ ps. total_len before + length p ≤ total_len ps in
    let part : total_len before + length p ≤ total_len all = subst P e (total_len-part before after p) in
    let Q : ℕ → Type 0 = λ n. total_len all ≤ n * (unit + 4) in
    let bytes' : total_len all ≤ packet_count unit body * (unit + 4) = subst Q many bytes in
    (omega (arith, few, many, shorter), omega (arith, part, bytes', most))
