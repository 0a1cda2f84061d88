-- The places of packets: with one more, with one that waits no longer, and the first that waits.
use Rattle.std.proofs.Common.{refl, ◌≡◌, ◌∙◌, ◌≤◌, ◌<◌, ◌+◌, ◌-◌, ◌++◌, ◌∷◌, [], ℕ, zero, suc, List, Bool, true, false, Option, Some, None, ap, sym, subst, length, slice_range, slice_set, get_or, arith, Bor, ◌⊎◌, inl, inr}
use Rattle.std.proofs.lemmas.Grind.{common_steps}
use Rattle.std.specs.Prelude.{if◌then◌else◌, nat_lt}
use Rattle.std.specs.Option.{MatchOption, option_map}
use Rattle.std.proofs.lemmas.List.{length-append}
use Rattle.std.proofs.lemmas.Bool.{ltb-false, ltb-true}
use Rattle.link_world.specs.Sent.{AreWithin, NoneWaits, packet_in, packet_limit, sent_of, waits_at, waits_of}
use Rattle.link_world.specs.declared.sent.Place.{Place}
use Rattle.world_machine.specs.World.{SentPacket, first_waiting, next_number, packet_at, packet_of, stopped_at, stopped_of, waiting}

-- ---- One more packet.

range_kept : (bytes more : List ℕ) (a b : ℕ) → b ≤ length bytes → slice_range (bytes ++ more) a b ≡ slice_range bytes a b
range_kept bytes more a b within = grind (arith, common_steps)

range_new : (bytes more : List ℕ) → slice_range (bytes ++ more) (length bytes) (length (bytes ++ more)) ≡ more
range_new bytes more = grind (arith, common_steps)

sent_kept : (bytes more : List ℕ) (places : List Place) → AreWithin (length bytes) places → sent_of (bytes ++ more) places ≡ sent_of bytes places
sent_kept bytes more [] within = refl
sent_kept bytes more (p ∷ others) within =
    ap (λ (b : List ℕ). record { bytes = b; waits = p.waits } ∷ sent_of (bytes ++ more) others) (range_kept bytes more p.start p.end within.1)
    ∙ ap (λ (l : List SentPacket). packet_in bytes p ∷ l) (sent_kept bytes more others within.2)

sent_behind : (bytes : List ℕ) (places : List Place) (p : Place) → sent_of bytes (places ++ p ∷ []) ≡ sent_of bytes places ++ packet_in bytes p ∷ []
sent_behind bytes [] p = refl
sent_behind bytes (q ∷ others) p = ap (λ (l : List SentPacket). packet_in bytes q ∷ l) (sent_behind bytes others p)

-- The packets with one more, which waits.
pub sent_more : (bytes more : List ℕ) (places : List Place) (p : Place) → AreWithin (length bytes) places → p ≡ record { start = length bytes; end = length (bytes ++ more); waits = true }
    → sent_of (bytes ++ more) (places ++ p ∷ []) ≡ sent_of bytes places ++ waiting more ∷ []
sent_more bytes more places p within is =
    sent_behind (bytes ++ more) places p
    ∙ ap (λ (l : List SentPacket). l ++ packet_in (bytes ++ more) p ∷ []) (sent_kept bytes more places within)
    ∙ ap (λ (q : Place). sent_of bytes places ++ packet_in (bytes ++ more) q ∷ []) is
    ∙ ap (λ (b : List ℕ). sent_of bytes places ++ record { bytes = b; waits = true } ∷ []) (range_new bytes more)

pub within_more : (n m : ℕ) (places : List Place) (p : Place) → AreWithin n places → n ≤ m → p.start ≤ p.end → p.end ≤ m → AreWithin m (places ++ p ∷ [])
within_more n m [] p within more ordered inside = (ordered, inside, tt)
within_more n m (q ∷ others) p within more ordered inside = (within.0, (let w = within.1 in omega (arith, w, more)), within_more n m others p within.2 more ordered inside)

pub none_more : (k : ℕ) (places : List Place) (p : Place) → NoneWaits k places → k ≤ length places → NoneWaits k (places ++ p ∷ [])
none_more zero places p none few = tt
none_more (suc k) [] p none few = absurd (omega (arith, few))
none_more (suc k) (q ∷ others) p none few = (none.0, none_more k others p none.1 (omega (arith, few)))

-- ---- One that waits no longer.

pub within_set : (n i : ℕ) (places : List Place) (p : Place) → AreWithin n places → p.start ≤ p.end → p.end ≤ n → AreWithin n (slice_set places i p)
within_set n i [] p within ordered inside = tt
within_set n zero (q ∷ others) p within ordered inside = (ordered, inside, within.2)
within_set n (suc i) (q ∷ others) p within ordered inside = (within.0, within.1, within_set n i others p within.2 ordered inside)

pub none_set : (k i : ℕ) (places : List Place) (p : Place) → NoneWaits k places → p.waits ≡ false → NoneWaits k (slice_set places i p)
none_set zero i places p none is = tt
none_set (suc k) i [] p none is = tt
none_set (suc k) zero (q ∷ others) p none is = (is, none.1)
none_set (suc k) (suc i) (q ∷ others) p none is = (none.0, none_set k i others p none.1 is)

pub place_within : (n i : ℕ) (places : List Place) (d : Place) → AreWithin n places → i < length places → ((get_or places i d).start ≤ (get_or places i d).end) × ((get_or places i d).end ≤ n)
place_within n i [] d within few = absurd (omega (arith, few))
place_within n zero (q ∷ others) d within few = (within.0, within.1)
place_within n (suc i) (q ∷ others) d within few = place_within n i others d within.2 (omega (arith, few))

pub stopped_set : (bytes : List ℕ) (i : ℕ) (places : List Place) (d : Place) → i < length places
    → sent_of bytes (slice_set places i (record (get_or places i d) { waits = false })) ≡ stopped_at i (sent_of bytes places)
stopped_set bytes i [] d few = absurd (omega (arith, few))
stopped_set bytes zero (q ∷ others) d few = refl
stopped_set bytes (suc i) (q ∷ others) d few = ap (λ (l : List SentPacket). packet_in bytes q ∷ l) (stopped_set bytes i others d (omega (arith, few)))

pub stopped_beyond : (i : ℕ) (sent : List SentPacket) → length sent ≤ i → stopped_at i sent ≡ sent
stopped_beyond i [] few = refl
stopped_beyond zero (q ∷ others) few = absurd (omega (arith, few))
stopped_beyond (suc i) (q ∷ others) few = ap (λ (l : List SentPacket). q ∷ l) (stopped_beyond i others (omega (arith, few)))

-- ---- The packet of a number.

pub packet_there : (bytes : List ℕ) (i : ℕ) (places : List Place) (d : Place) → i < length places
    → packet_at i (sent_of bytes places) ≡ Some (slice_range bytes (get_or places i d).start (get_or places i d).end)
packet_there bytes i [] d few = absurd (omega (arith, few))
packet_there bytes zero (q ∷ others) d few = refl
packet_there bytes (suc i) (q ∷ others) d few = packet_there bytes i others d (omega (arith, few))

pub packet_beyond : (i : ℕ) (sent : List SentPacket) → length sent ≤ i → packet_at i sent ≡ None
packet_beyond i [] few = refl
packet_beyond zero (q ∷ others) few = absurd (omega (arith, few))
packet_beyond (suc i) (q ∷ others) few = packet_beyond i others (omega (arith, few))

-- ---- The first that waits.

pub first_there : (bytes : List ℕ) (k : ℕ) (places : List Place) (d : Place) → NoneWaits k places → k < length places → (get_or places k d).waits ≡ true → first_waiting (sent_of bytes places) ≡ Some (k + 1)
first_there bytes k [] d none few waits = absurd (omega (arith, few))
first_there bytes zero (q ∷ others) d none few waits = ap (λ (b : Bool). if b then Some 1 else next_number (first_waiting (sent_of bytes others))) waits
first_there bytes (suc k) (q ∷ others) d none few waits =
    ap (λ (b : Bool). if b then Some 1 else next_number (first_waiting (sent_of bytes others))) none.0
    ∙ ap next_number (first_there bytes k others d none.1 (omega (arith, few)) waits)
    ∙ ap Some (omega arith)

pub none_there : (bytes : List ℕ) (k : ℕ) (places : List Place) → NoneWaits k places → length places ≤ k → first_waiting (sent_of bytes places) ≡ None
none_there bytes k [] none few = refl
none_there bytes zero (q ∷ others) none few = absurd (omega (arith, few))
none_there bytes (suc k) (q ∷ others) none few =
    ap (λ (b : Bool). if b then Some 1 else next_number (first_waiting (sent_of bytes others))) none.0
    ∙ ap next_number (none_there bytes k others none.1 (omega (arith, few)))

pub none_next : (k : ℕ) (places : List Place) (d : Place) → NoneWaits k places → k < length places → (get_or places k d).waits ≡ false → NoneWaits (suc k) places
none_next k [] d none few rests = absurd (omega (arith, few))
none_next zero (q ∷ others) d none few rests = (rests, tt)
none_next (suc k) (q ∷ others) d none few rests = (none.0, none_next k others d none.1 (omega (arith, few)) rests)

-- ---- As the program meets them.

pub first_at : (bytes : List ℕ) (k : ℕ) (places : List Place) (d p : Place) → NoneWaits k places → true ≡ nat_lt k (length places) → p ≡ get_or places k d → p.waits ≡ true → Some (k + 1) ≡ first_waiting (sent_of bytes places)
first_at bytes k places d p none few is waits = sym (first_there bytes k places d none (ltb-true k (length places) (sym few)) (ap (λ (q : Place). q.waits) (sym is) ∙ waits))

pub passed_at : (k : ℕ) (places : List Place) (d p : Place) → NoneWaits k places → true ≡ nat_lt k (length places) → p ≡ get_or places k d → p.waits ≡ false → NoneWaits (k + 1) places × (k + 1 ≤ length places)
passed_at k places d p none few is rests =
    let inside = ltb-true k (length places) (sym few) in
    (let more : suc k ≡ k + 1 = omega arith in subst (λ (n : ℕ). NoneWaits n places) more (none_next k places d none inside (ap (λ (q : Place). q.waits) (sym is) ∙ rests)), omega (arith, inside))

pub none_at : (bytes : List ℕ) (k : ℕ) (places : List Place) → NoneWaits k places → false ≡ nat_lt k (length places) → None ≡ first_waiting (sent_of bytes places)
none_at bytes k places none few = sym (none_there bytes k places none (ltb-false k (length places) (sym few)))

-- A packet was put after the others.
pub record IsPushed (bytes more bytes' : List ℕ) (places places' : List Place) : Type 0 where
  pub start : ℕ
  pub end : ℕ
  pub bytes_are : bytes' ≡ bytes ++ more
  pub places_are : places' ≡ places ++ record { start = start; end = end; waits = true } ∷ []
  pub starts : start ≡ length bytes
  pub ends : end ≡ length bytes'

pub pushed_kept : (bytes more bytes' : List ℕ) (places places' : List Place) (passed : ℕ) → IsPushed bytes more bytes' places places' → AreWithin (length bytes) places → NoneWaits passed places → passed ≤ length places
    → length places < packet_limit → AreWithin (length bytes') places' × NoneWaits passed places' × (passed ≤ length places') × (length places' ≤ packet_limit)
pushed_kept bytes more bytes' places places' passed p within none few limit =
    let long = ap length p.bytes_are in
    let new : Place = record { start = p.start; end = p.end; waits = true } in
    let starts = p.starts in
    let ends = p.ends in
    let count : length places' ≡ length places + 1 = ap length p.places_are ∙ length-append places (new ∷ []) in
    let more_bytes : length bytes ≤ length bytes' = omega (arith, long, length-append bytes more) in (
      subst (λ (l : List Place). AreWithin (length bytes') l) (sym p.places_are) (within_more (length bytes) (length bytes') places new within more_bytes (omega (arith, starts, ends, more_bytes)) (omega (arith, ends))),
      subst (λ (l : List Place). NoneWaits passed l) (sym p.places_are) (none_more passed places new none few),
      omega (arith, count, few),
      omega (arith, count, limit),
    )

pub pushed_sent : (bytes more bytes' : List ℕ) (places places' : List Place) → IsPushed bytes more bytes' places places' → AreWithin (length bytes) places → sent_of bytes' places' ≡ sent_of bytes places ++ waiting more ∷ []
pushed_sent bytes more bytes' places places' p within =
    ap (λ (l : List Place). sent_of bytes' l) p.places_are
    ∙ ap (λ (b : List ℕ). sent_of b (places ++ record { start = p.start; end = p.end; waits = true } ∷ [])) p.bytes_are
    ∙ sent_more bytes more places (record { start = p.start; end = p.end; waits = true }) within (λ i. record { start = p.starts i; end = (p.ends ∙ ap length p.bytes_are) i; waits = true })

pub stopped_number : (number index : ℕ) (sent : List SentPacket) → 1 ≤ number → index ≡ number - 1 → stopped_at index sent ≡ stopped_of number sent
stopped_number zero index sent some is = absurd (omega (arith, some))
stopped_number (suc n) index sent some is = (let same : index ≡ n = omega (arith, is) in ap (λ (k : ℕ). stopped_at k sent) same)

pub packet_number : (number index : ℕ) (sent : List SentPacket) → 1 ≤ number → index ≡ number - 1 → packet_at index sent ≡ packet_of number sent
packet_number zero index sent some is = absurd (omega (arith, some))
packet_number (suc n) index sent some is = (let same : index ≡ n = omega (arith, is) in ap (λ (k : ℕ). packet_at k sent) same)

-- The part of the bytes that a place names is there.
pub part_there : (o : Option (Bor (List ℕ))) (start end : ℕ) (bytes : List ℕ) → MatchOption o ((end < start) ⊎ (length bytes < end)) (λ x. (start ≤ end) × (end ≤ length bytes) × (x.now ≡ slice_range bytes start end) × (length x.now + start ≡ end))
    → start ≤ end → end ≤ length bytes → option_map (λ (x : Bor (List ℕ)). x.now) o ≡ Some (slice_range bytes start end)
part_there None start end bytes (inl h) ordered inside = absurd (omega (arith, h, ordered))
part_there None start end bytes (inr h) ordered inside = absurd (omega (arith, h, inside))
part_there (Some x) start end bytes h ordered inside = ap Some h.2

-- ---- Whether a packet waits.

pub waits_there : (bytes : List ℕ) (i : ℕ) (places : List Place) (d : Place) → i < length places → waits_at i (sent_of bytes places) ≡ (get_or places i d).waits
waits_there bytes i [] d few = absurd (omega (arith, few))
waits_there bytes zero (q ∷ others) d few = refl
waits_there bytes (suc i) (q ∷ others) d few = waits_there bytes i others d (omega (arith, few))

pub waits_beyond : (i : ℕ) (sent : List SentPacket) → length sent ≤ i → waits_at i sent ≡ false
waits_beyond i [] few = refl
waits_beyond zero (q ∷ others) few = absurd (omega (arith, few))
waits_beyond (suc i) (q ∷ others) few = waits_beyond i others (omega (arith, few))

pub waits_number : (number index : ℕ) (sent : List SentPacket) → 1 ≤ number → index ≡ number - 1 → waits_at index sent ≡ waits_of number sent
waits_number zero index sent some is = absurd (omega (arith, some))
waits_number (suc n) index sent some is = (let same : index ≡ n = omega (arith, is) in ap (λ (k : ℕ). waits_at k sent) same)
