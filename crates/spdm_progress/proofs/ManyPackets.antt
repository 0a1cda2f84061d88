-- A long body comes packet by packet: each but the last leads to nothing but that more is awaited, and the last one
-- completes it.
use Rattle.std.proofs.Common.{◌≡◌, ◌∙◌, ℕ, zero, suc, ◌<◌, ◌≤◌, ◌+◌, ◌*◌, nat_le, List, [], ◌∷◌, ◌++◌, length, Bool, true, false, nat_eq, Option, Some, None, Result, Ok, refl, ap, arith, eq-eqb}
use Rattle.std.specs.Prelude.{if◌then◌else◌, slice_index}
use Rattle.std.proofs.lemmas.Bool.{leb-false, leb-true, ne_eqb}
use Rattle.std.proofs.lemmas.Grind.{div_ceil_times}
use Rattle.std.proofs.lemmas.Nat.{mul-le}
use Rattle.mctp_framing.proofs.CutAndGathered.{gathered-nth}
use Rattle.mctp_framing.proofs.Spelled.{parsed-spelled_packet}
use Rattle.mctp_framing.specs.CutAndGather.{IsGatherable}
use Rattle.mctp_framing.specs.Cutting.{RouteFields, nth_packet, packet_count, packets_before}
use Rattle.mctp_framing.specs.Gathering.{gathered}
use Rattle.mctp_framing.specs.Gathering.Gathered.{Whole, More}
use Rattle.mctp_framing.specs.Packet.{PacketFields, spelled_packet, parsed}
use Rattle.spdm_basis.specs.declared.PacketFault.{PacketFault}
use Rattle.spdm_machine.specs.Bodies.{clear_body}
use Rattle.spdm_machine.specs.Packets.{gathered_from, fields_in, fields_with, body_limit}
use Rattle.world_machine.specs.World.{SentPacket, first_waiting, next_number, packet_at, stopped_at, with_sent}
use Rattle.spdm_progress.proofs.OnePacket.{route_to}
use Rattle.spdm_progress.proofs.Waiting.{one_more}

-- ---- The packets that wait, in order.

abbrev pub waiting_in : List SentPacket → List (List ℕ)
waiting_in [] = []
waiting_in (s ∷ others) = if s.waits then s.bytes ∷ waiting_in others else waiting_in others

idle_by : (s : SentPacket) (others : List SentPacket) (b : Bool) → (if b then Some 1 else next_number (first_waiting others)) ≡ None → (first_waiting others ≡ None → waiting_in others ≡ []) → (if b then s.bytes ∷ waiting_in others else waiting_in others) ≡ []
idle_by s others true idle next = absurd (cc)
idle_by s others false idle next = next (none (first_waiting others) idle)
  where
    none : (o : Option ℕ) → next_number o ≡ None → o ≡ None
    none None e = refl
    none (Some n) e = absurd (cc)

pub idle_waits : (sent : List SentPacket) → first_waiting sent ≡ None → waiting_in sent ≡ []
idle_waits [] idle = refl
idle_waits (s ∷ others) idle = idle_by s others s.waits idle (idle_waits others)

none_by : (s : SentPacket) (others : List SentPacket) (b : Bool) → (if b then s.bytes ∷ waiting_in others else waiting_in others) ≡ [] → (waiting_in others ≡ [] → first_waiting others ≡ None) → (if b then Some 1 else next_number (first_waiting others)) ≡ None
none_by s others true empty next = absurd (cc)
none_by s others false empty next = ap next_number (next empty)

pub waits_idle : (sent : List SentPacket) → waiting_in sent ≡ [] → first_waiting sent ≡ None
waits_idle [] empty = refl
waits_idle (s ∷ others) empty = none_by s others s.waits empty (waits_idle others)

sent_by : (s : SentPacket) (others : List SentPacket) (packets : List (List ℕ)) (b : Bool) → waiting_in (with_sent others packets) ≡ waiting_in others ++ packets
    → (if b then s.bytes ∷ waiting_in (with_sent others packets) else waiting_in (with_sent others packets)) ≡ (if b then s.bytes ∷ waiting_in others else waiting_in others) ++ packets
sent_by s others packets true next = ap (λ (x : List (List ℕ)). s.bytes ∷ x) next
sent_by s others packets false next = next

all_wait : (packets : List (List ℕ)) → waiting_in (with_sent [] packets) ≡ packets
all_wait [] = refl
all_wait (packet ∷ packets) = ap (λ (x : List (List ℕ)). packet ∷ x) (all_wait packets)

pub sent_waits : (sent : List SentPacket) (packets : List (List ℕ)) → waiting_in (with_sent sent packets) ≡ waiting_in sent ++ packets
sent_waits [] packets = all_wait packets
sent_waits (s ∷ others) packets = sent_by s others packets s.waits (sent_waits others packets)

-- The first of them is the next that a pump gives.
pub record FirstWaits (packet : List ℕ) (rest : List (List ℕ)) (sent : List SentPacket) : Type 0 where
  pub place : ℕ
  pub first : first_waiting sent ≡ Some (suc place)
  pub is : packet_at place sent ≡ Some packet
  pub behind : waiting_in (stopped_at place sent) ≡ rest

first_by : (bytes : List ℕ) (others : List SentPacket) (packet : List ℕ) (rest : List (List ℕ)) (b : Bool) → (if b then bytes ∷ waiting_in others else waiting_in others) ≡ packet ∷ rest → (waiting_in others ≡ packet ∷ rest → FirstWaits packet rest others)
    → FirstWaits packet rest (record { bytes = bytes; waits = b } ∷ others)
first_by bytes others packet rest true e next =
    let head : bytes ≡ packet = cc in
    let tail : waiting_in others ≡ rest = cc in record {
      place = 0;
      first = refl;
      is = ap (λ (x : List ℕ). let o : Option (List ℕ) = Some x in o) head;
      behind = tail;
    }
first_by bytes others packet rest false e next =
    let w = next e in record {
      place = suc w.place;
      first = ap next_number w.first ∙ ap (λ (n : ℕ). let o : Option ℕ = Some n in o) (one_more w.place);
      is = w.is;
      behind = w.behind;
    }

pub first_waits : (sent : List SentPacket) (packet : List ℕ) (rest : List (List ℕ)) → waiting_in sent ≡ packet ∷ rest → FirstWaits packet rest sent
first_waits [] packet rest e = absurd (cc)
first_waits (s ∷ others) packet rest e = first_by s.bytes others packet rest s.waits e (first_waits others packet rest)

-- ---- One packet of a body at its receiver.

-- A body that is gathered whole: it has a byte, its first byte has no integrity check bit, and it is within the limit.
pub record IsBody (body : List ℕ) : Type 0 where
  pub filled : 0 < length body
  pub plain : slice_index body 0 < 128
  pub fits : length body ≤ body_limit

pub clear_is_body : (m : List ℕ) → length m < 4161 → IsBody (clear_body m)
clear_is_body m fits = record { filled = omega arith; plain = omega arith; fits = omega arith }

module _ (own peer : ℕ) (owner : Bool) (tag unit : ℕ) (body : List ℕ) (small : tag < 8) (some : 0 < unit) (whole : IsBody body) where
  abbrev pub route : RouteFields
  route = route_to own peer owner tag

  abbrev pub number : ℕ
  number = packet_count unit body

  abbrev pub nth : ℕ → PacketFields
  nth k = nth_packet route unit body k

  pub nth_read : (k : ℕ) → parsed (spelled_packet (nth k)) ≡ Ok (nth k)
  nth_read k = parsed-spelled_packet (nth k) (omega arith) small

  sound : IsGatherable (record { own = own; peer = peer; limit = body_limit }) route unit body
  sound = record { to_is = refl; from_is = refl; filled = whole.filled; plain = whole.plain; fits = whole.fits; some = some }

  -- The packets before this one were given after some others.
  pub record Came (k : ℕ) (given : List (List ℕ)) : Type 0 where
    pub earlier : List PacketFields
    pub fields : fields_in given ≡ packets_before route unit body k ++ earlier

  pub none_came : (given : List (List ℕ)) → Came 0 given
  none_came given = record { earlier = fields_in given; fields = refl }

  pub one_came : (k : ℕ) (given : List (List ℕ)) → Came k given → Came (suc k) (spelled_packet (nth k) ∷ given)
  one_came k given came = record {
    earlier = came.earlier;
    fields = ap (λ (r : Result PacketFields PacketFault). fields_with r (fields_in given)) (nth_read k) ∙ ap (λ (x : List PacketFields). nth k ∷ x) came.fields;
  }

  gathers : (k : ℕ) (given : List (List ℕ)) → Came k given → k < number → gathered_from own peer given (nth k) ≡ (if nat_eq (k + 1) number then Whole route body else More)
  unfolding gathered_from
  gathers k given came within =
      ap (λ (x : List PacketFields). gathered (record { own = own; peer = peer; limit = body_limit }) x (nth k)) came.fields
      ∙ gathered-nth (record { own = own; peer = peer; limit = body_limit }) route unit body sound came.earlier k within

  -- The last one completes the body, any other awaits more.
  pub last_gathers : (k : ℕ) (given : List (List ℕ)) → Came k given → k + 1 ≡ number → gathered_from own peer given (nth k) ≡ Whole route body
  last_gathers k given came last = gathers k given came (omega arith) ∙ ap (λ (b : Bool). if b then Whole route body else More) (eq-eqb (k + 1) number last)

  pub more_gathers : (k left : ℕ) (given : List (List ℕ)) → Came k given → k + suc (suc left) ≡ number → gathered_from own peer given (nth k) ≡ More
  more_gathers k left given came sum = gathers k given came (omega arith) ∙ ap (λ (b : Bool). if b then Whole route body else More) (ne_eqb (k + 1) number (λ e. omega (arith, e, sum)))

-- ---- How many packets a body has.

some_packets : (q unit n : ℕ) → n ≤ q * unit → 0 < n → 0 < q
some_packets zero unit n holds filled = absurd (omega arith)
some_packets (suc q) unit n holds filled = omega arith

-- A body of so many times 64 bytes has so many packets at most.
pub packets_within : (unit round : ℕ) (body : List ℕ) → 64 ≤ unit → 0 < length body → length body ≤ 64 * round → (0 < packet_count unit body) × (packet_count unit body ≤ round)
packets_within unit round body wide filled fits =
    let around = div_ceil_times (length body) unit (omega arith) in
    let wider : 64 * round ≤ unit * round = mul-le 64 round unit round wide (omega arith) in
    (some_packets (packet_count unit body) unit (length body) around.0 filled, within_by (packet_count unit body) unit round (length body) (nat_le (suc round) (packet_count unit body)) refl around.1 (omega (arith, wider)))
  where
    within_by : (q unit round n : ℕ) (b : Bool) → nat_le (suc round) q ≡ b → q * unit < n + unit → n ≤ unit * round → q ≤ round
    within_by q unit round n true many spare fits =
        let most : suc round * unit ≤ q * unit = mul-le (suc round) unit q unit (leb-true (suc round) q many) (omega arith) in
        let units : suc round * unit ≡ unit * round + unit = omega arith in
        absurd (omega (arith, most, units))
    within_by q unit round n false few spare fits = (let less = leb-false (suc round) q few in omega arith)

pub few_packets : (unit : ℕ) (body : List ℕ) → 64 ≤ unit → 0 < length body → length body ≤ 4162 → (0 < packet_count unit body) × (packet_count unit body ≤ 66)
few_packets unit body wide filled fits = packets_within unit 66 body wide filled (omega (arith, fits))

pub before_it : (n : ℕ) → 0 < n → (k : ℕ) × (suc k ≡ n)
before_it zero some = absurd (omega arith)
before_it (suc n) some = (n, refl)
