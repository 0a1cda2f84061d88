-- The packets of a body as a list: how many there are, and the list from one of them on.
use Rattle.std.proofs.Common.{zero, suc, ◌*◌, slice_range, subst, add-one, take-add, append-nil, All, ◌++◌, take, map, ◌≡◌, ◌∙◌, ◌≤◌, ◌<◌, ◌+◌, ℕ, List, [], ◌∷◌, drop, length, get_or, refl, ap, arith}
use Rattle.std.specs.List.{concat, range_with_len}
use Rattle.std.proofs.lemmas.List.Folds.{concat-append}
use Rattle.std.proofs.lemmas.Nat.{mul-le}
use Rattle.std.proofs.lemmas.Grind.{common_steps, div_ceil_times}
use Rattle.std.proofs.lemmas.List.{drop_more, drop_all, take_all}
use Rattle.std.proofs.lemmas.List.FromFn.{length-map-range_with_len, map-range_with_len_more, get_or-map-range_with_len}
use Rattle.mctp_framing.specs.Packet.{PacketFields, spelled_packet}
use Rattle.mctp_framing.specs.Cutting.{RouteFields, nth_packet, only_packet, packet_count, packets_of}

pub length-packets_of : (route : RouteFields) (unit : ℕ) (body : List ℕ) → length (packets_of route unit body) ≡ packet_count unit body
length-packets_of route unit body = length-map-range_with_len (λ k. spelled_packet (nth_packet route unit body k)) 0 (packet_count unit body)

-- the packets from number k on are packet k and those from the next on
pub packets_from : (route : RouteFields) (unit : ℕ) (body : List ℕ) (k : ℕ) → k < packet_count unit body →
    drop k (packets_of route unit body) ≡ spelled_packet (nth_packet route unit body k) ∷ drop (k + 1) (packets_of route unit body)
packets_from route unit body k within =
    let all = packets_of route unit body in
    let inside : k < length all = rw (length-packets_of route unit body) within in
    drop_more all k [] inside
    ∙ ap (λ (p : List ℕ). p ∷ drop (k + 1) all) (get_or-map-range_with_len (λ n. spelled_packet (nth_packet route unit body n)) 0 (packet_count unit body) k k [] within (omega arith))

-- nothing is left after the last packet
pub no_packets_from : (route : RouteFields) (unit : ℕ) (body : List ℕ) (k : ℕ) → k ≡ packet_count unit body → drop k (packets_of route unit body) ≡ []
no_packets_from route unit body k end =
    let past : length (packets_of route unit body) ≤ k = rw (length-packets_of route unit body, end) (omega arith) in
    drop_all k (packets_of route unit body) past

-- a number of units that holds what is more than none and at most one of them, with less than a unit to spare, is 1
one_unit : (q unit n : ℕ) → n ≤ q * unit → q * unit < n + unit → 0 < n → n ≤ unit → q ≡ 1
one_unit zero unit n holds spare filled fits = absurd (omega arith)
one_unit (suc zero) unit n holds spare filled fits = refl
one_unit (suc (suc q)) unit n holds spare filled fits =
    let two : 2 * unit ≤ suc (suc q) * unit = mul-le 2 unit (suc (suc q)) unit (omega arith) (omega arith) in
    absurd (omega arith)

-- a body of at most a unit has one packet
pub one_packet : (unit : ℕ) (body : List ℕ) → 0 < length body → length body ≤ unit → packet_count unit body ≡ 1
one_packet unit body filled fits =
    let around = div_ceil_times (length body) unit (omega arith) in
    one_unit (packet_count unit body) unit (length body) around.0 around.1 filled fits

whole_range : (unit : ℕ) (body : List ℕ) → length body ≤ unit → slice_range body (0 * unit) (0 * unit + unit) ≡ body
whole_range unit body fits = grind (arith, common_steps)

-- the only packet of a short body
pub packets_of-short : (route : RouteFields) (unit : ℕ) (body : List ℕ) → 0 < length body → length body ≤ unit →
    packets_of route unit body ≡ spelled_packet (only_packet route body) ∷ []
packets_of-short route unit body filled fits = rw (one_packet unit body filled fits, whole_range unit body fits) refl

-- the slice after the first m units is the next part of the list
pub next_unit : (unit m : ℕ) (body : List ℕ) → take (m * unit) body ++ slice_range body (m * unit) (m * unit + unit) ≡ take ((m + 1) * unit) body
next_unit unit m body = grind (arith, common_steps, take-add)

join_more : (f : ℕ → List ℕ) (m : ℕ) → concat (map f (range_with_len 0 (m + 1))) ≡ concat (map f (range_with_len 0 m)) ++ f m
join_more f m =
    ap concat (map-range_with_len_more f 0 m m (omega arith))
    ∙ concat-append (map f (range_with_len 0 m)) (f m ∷ [])
    ∙ ap (λ (xs : List ℕ). concat (map f (range_with_len 0 m)) ++ xs) (append-nil (f m))

-- the first m payloads joined are the first m units
payloads_join : (unit : ℕ) (body : List ℕ) (m : ℕ) →
    concat (map (λ k. slice_range body (k * unit) (k * unit + unit)) (range_with_len 0 m)) ≡ take (m * unit) body
payloads_join unit body zero = grind (arith, common_steps)
payloads_join unit body (suc m) =
    let f : ℕ → List ℕ = λ k. slice_range body (k * unit) (k * unit + unit) in
    let P : ℕ → Type 0 = λ n. concat (map f (range_with_len 0 n)) ≡ take (n * unit) body in
    subst P (add-one m) (join_more f m ∙ ap (λ (xs : List ℕ). xs ++ f m) (payloads_join unit body m) ∙ next_unit unit m body)

payloads_of : (f : ℕ → PacketFields) (ks : List ℕ) → map (drop 4) (map (λ k. spelled_packet (f k)) ks) ≡ map (λ k. (f k).payload) ks
payloads_of f [] = refl
payloads_of f (k ∷ ks) = ap (λ (xs : List (List ℕ)). (f k).payload ∷ xs) (payloads_of f ks)

-- the payloads of the packets, in order
payloads-packets_of : (route : RouteFields) (unit : ℕ) (body : List ℕ) → map (drop 4) (packets_of route unit body) ≡
    map (λ k. slice_range body (k * unit) (k * unit + unit)) (range_with_len 0 (packet_count unit body))
payloads-packets_of route unit body = payloads_of (nth_packet route unit body) (range_with_len 0 (packet_count unit body))

-- the payloads of the packets, joined, are the body
pub packets_join : (route : RouteFields) (unit : ℕ) (body : List ℕ) → 0 < unit → concat (map (drop 4) (packets_of route unit body)) ≡ body
packets_join route unit body some =
    let whole : take (packet_count unit body * unit) body ≡ body = take_all (packet_count unit body * unit) body (div_ceil_times (length body) unit some).0 in
    ap concat (payloads-packets_of route unit body) ∙ payloads_join unit body (packet_count unit body) ∙ whole

-- a packet has four bytes more than its payload
nth_fits : (route : RouteFields) (unit : ℕ) (body : List ℕ) (k : ℕ) → length (spelled_packet (nth_packet route unit body k)) ≤ unit + 4
nth_fits route unit body k = grind (arith, common_steps)

pub nth-packets_of : (route : RouteFields) (unit : ℕ) (body : List ℕ) (k : ℕ) (d : List ℕ) → k < packet_count unit body →
    get_or (packets_of route unit body) k d ≡ spelled_packet (nth_packet route unit body k)
nth-packets_of route unit body k d within =
    get_or-map-range_with_len (λ n. spelled_packet (nth_packet route unit body n)) 0 (packet_count unit body) k k d within (omega arith)

-- each packet has at most four bytes more than a unit
pub packets_fit : (route : RouteFields) (unit : ℕ) (body : List ℕ) → All (λ packet. length packet ≤ unit + 4) (packets_of route unit body)
packets_fit route unit body k d within =
    let inside : k < packet_count unit body = rw (← length-packets_of route unit body) within in
    rw (nth-packets_of route unit body k d inside) (nth_fits route unit body k)
