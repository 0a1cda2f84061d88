-- The packets that were sent after the first so many.
use Rattle.std.proofs.Common.{◌≡◌, ◌∙◌, ◌<◌, ◌≤◌, ◌+◌, ◌++◌, ◌∷◌, [], ◌-◌, ℕ, zero, suc, List, length, take, map, ap, sym, arith, Option, Some, None}
use Rattle.std.specs.Prelude.{unwrap_or}
use Rattle.std.proofs.lemmas.Grind.{common_steps}
use Rattle.std.proofs.lemmas.List.{length-map}
use Rattle.script_capture.specs.Carried.{bytes_of, sent_behind}
use Rattle.world_machine.specs.World.{SentPacket, packet_at, packet_of}

same_bytes : (bytes p : List ℕ) → Some bytes ≡ Some p → bytes ≡ p
same_bytes bytes p h = ap (λ (o : Option (List ℕ)). unwrap_or o p) h

behind_more : (before k i : ℕ) (sent : List SentPacket) (p : List ℕ) → i ≡ before + k → packet_at i sent ≡ Some p
    → take (k + 1) (sent_behind before sent) ≡ take k (sent_behind before sent) ++ p ∷ []
behind_more before k i [] p is h = absurd (cc h)
behind_more zero zero zero (x ∷ xs) p is h = ap (λ (b : List ℕ). b ∷ []) (same_bytes x.bytes p h)
behind_more zero zero (suc i) (x ∷ xs) p is h = absurd (omega (arith, is))
behind_more zero (suc k) zero (x ∷ xs) p is h = absurd (omega (arith, is))
behind_more zero (suc k) (suc i) (x ∷ xs) p is h =
    let next : suc k + 1 ≡ suc (k + 1) = omega arith in
    ap (λ (n : ℕ). take n (x.bytes ∷ map bytes_of xs)) next
    ∙ ap (λ (l : List (List ℕ)). x.bytes ∷ l) (behind_more zero k i xs p (omega (arith, is)) h)
behind_more (suc before) k zero (x ∷ xs) p is h = absurd (omega (arith, is))
behind_more (suc before) k (suc i) (x ∷ xs) p is h = behind_more before k i xs p (omega (arith, is)) h

-- One more of them.
pub one_behind : (before index : ℕ) (sent : List SentPacket) (p : List ℕ) → before ≤ index → packet_of (index + 1) sent ≡ Some p
    → take (index + 1 - before) (sent_behind before sent) ≡ take (index - before) (sent_behind before sent) ++ p ∷ []
one_behind before index sent p from h =
    let next : index + 1 - before ≡ (index - before) + 1 = omega (arith, from) in
    let number : index + 1 ≡ suc index = omega arith in
    ap (λ (n : ℕ). take n (sent_behind before sent)) next
    ∙ behind_more before (index - before) index sent p (omega (arith, from)) (ap (λ (n : ℕ). packet_of n sent) (sym number) ∙ h)

-- All of them.
pub all_behind : (before index : ℕ) (sent : List SentPacket) → length sent ≤ index → take (index - before) (sent_behind before sent) ≡ sent_behind before sent
all_behind before index sent few =
    let count : length (map bytes_of sent) ≡ length sent = length-map sent bytes_of in
    grind (arith, common_steps, count, few)

at_there : (i : ℕ) (sent : List SentPacket) → i < length sent → None ≡ packet_at i sent → ⊥
at_there i [] inside h = absurd (omega (arith, inside))
at_there zero (x ∷ xs) inside h = cc h
at_there (suc i) (x ∷ xs) inside h = at_there i xs (omega (arith, inside)) h

-- Each number up to that of the last packet has one.
pub there : (index : ℕ) (sent : List SentPacket) → index < length sent → None ≡ packet_of (index + 1) sent → ⊥
there index sent inside h = let number : index + 1 ≡ suc index = omega arith in at_there index sent inside (h ∙ ap (λ (n : ℕ). packet_of n sent) number)
