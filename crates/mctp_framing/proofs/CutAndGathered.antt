-- What is cut is gathered again.
use Rattle.std.proofs.Common.{◌≡◌, ◌∙◌, ◌+◌, ◌*◌, ◌%◌, ◌<◌, ◌≤◌, ◌&&◌, ◌||◌, ◌++◌, ℕ, zero, suc, Bool, true, false, not, cond, nat_lt, nat_le, List, [], ◌∷◌, length, take, slice_range, slice_index, refl, sym, ap, subst, arith, add-one, eq-eqb, min, ◌-◌, nat_eq, append-nil, length-take}
use Rattle.std.proofs.lemmas.Grind.{common_steps, div_ceil_times}
use Rattle.std.proofs.lemmas.Nat.{mul-le}
use Rattle.std.proofs.lemmas.Bool.{ne_eqb, eqb-true, eqb-false}
use Rattle.std.proofs.lemmas.List.{take_all}
use Rattle.std.specs.Prelude.{filter, Option, None, is_none, if◌then◌else◌}
use Rattle.spdm_basis.specs.declared.DropCause.{DropCause}
use Rattle.spdm_basis.specs.declared.DropCause.TheVariants.{WrongSequence, WrongSize, TooLong, IntegritySet, NotOurs, NoStart}
use Rattle.mctp_framing.specs.Packet.{PacketFields}
use Rattle.mctp_framing.specs.Cutting.{RouteFields, nth_packet, packet_count, packets_before}
use Rattle.mctp_framing.specs.Gathering.{Receiver, Gathered, first_cause, is_ours, has_same_tag, group_of, joined, unit_of, has_wrong_size, broken_rule, is_unfinished, belongs_to, answer_from, answer_of, gathered}
use Rattle.mctp_framing.specs.CutAndGather.{IsGatherable}
use Rattle.mctp_framing.specs.Gathering.Gathered.{Whole, More, Dropped}
use Rattle.mctp_framing.proofs.Packets.{next_unit}
use Rattle.mctp_framing.proofs.GroupStep.{with_packet, group_of-later, group_of-first}
use Rattle.mctp_framing.proofs.NewStart.{gathered-from}
use Rattle.spdm_basis.proofs.Bools.{suc_units, lt_false}

module _ (route : RouteFields) (unit : ℕ) (body : List ℕ) where
  abbrev nth : ℕ → PacketFields
  nth k = nth_packet route unit body k

  abbrev sent : ℕ → List PacketFields
  sent k = packets_before route unit body k

  abbrev count : ℕ
  count = packet_count unit body

  same_tags : (j k : ℕ) → has_same_tag (nth j) (nth k) ≡ true
  same_tags j k = grind (arith, common_steps)

  joined-sent : (k : ℕ) → joined (sent k) ≡ take (k * unit) body
  joined-sent zero = grind (arith, common_steps)
  joined-sent (suc k) =
      ap (λ (xs : List ℕ). xs ++ slice_range body (k * unit) (k * unit + unit)) (joined-sent k)
      ∙ next_unit unit k body
      ∙ ap (λ (n : ℕ). take (n * unit) body) (add-one k)

  unit_of-sent : (k : ℕ) → unit_of (sent (suc k)) ≡ length (slice_range body (0 * unit) (0 * unit + unit))
  unit_of-sent zero = refl
  unit_of-sent (suc k) = unit_of-sent k

  -- a packet that there is has bytes
  reaches : (k : ℕ) → 0 < unit → k < count → k * unit < length body
  reaches k some within =
      let around = div_ceil_times (length body) unit some in
      let most : suc k * unit ≤ count * unit = mul-le (suc k) unit count unit (omega arith) (omega arith) in
      let next : suc k * unit ≡ k * unit + unit = suc_units k unit in
      omega (arith, around.1, most, next)

  payload_size : (k : ℕ) → length (slice_range body (k * unit) (k * unit + unit)) ≡ min unit (length body - k * unit)
  payload_size k = grind (arith, common_steps)

le_false : (a b : ℕ) → b < a → nat_le a b ≡ false
le_false a b less = grind (arith, common_steps)

no_test : (a b c : Bool) (x y z : DropCause) → a ≡ false → b ≡ false → c ≡ false → first_cause ((a, x) ∷ (b, y) ∷ (c, z) ∷ []) ≡ None
no_test a b c x y z ea eb ec = rw (ea, eb, ec) refl

right_size : (empty above below end : Bool) → empty ≡ false → above ≡ false → below && not end ≡ false → empty || above || (below && not end) ≡ false
right_size empty above below end a b c = rw (a, b, c) refl

below_end : (len unit : ℕ) (end : Bool) → (end ≡ false → len ≡ unit) → nat_lt len unit && not end ≡ false
below_end len unit true same = elim (nat_lt len unit) as (λ b. b && false ≡ false) [ true ↦ refl | false ↦ refl ]
below_end len unit false same = rw (same refl, lt_false unit unit (omega arith)) refl

first_byte : (body : List ℕ) (n : ℕ) → 0 < n → slice_index (take n body) 0 ≡ slice_index body 0
first_byte body n some = grind (arith, common_steps)

module _ (r : Receiver) (route : RouteFields) (unit : ℕ) (body : List ℕ) (sound : IsGatherable r route unit body) where
  abbrev packet : ℕ → PacketFields
  packet k = nth_packet route unit body k

  abbrev before : ℕ → List PacketFields
  before k = packets_before route unit body k

  abbrev number : ℕ
  number = packet_count unit body

  abbrev size : ℕ → ℕ
  size k = length (packet k).payload

  size_is : (k : ℕ) → size k ≡ min unit (length body - k * unit)
  size_is k = payload_size route unit body k

  has_bytes : (k : ℕ) → k < number → 0 < size k
  has_bytes k within = rw (size_is k) (omega (arith, reaches route unit body k sound.some within, sound.some))

  -- all but the last have a unit
  whole_size : (k : ℕ) → suc k < number → size k ≡ unit
  whole_size k within =
      let next = reaches route unit body (suc k) sound.some within in
      rw (size_is k) (omega (arith, next, suc_units k unit))

  short_size : (k : ℕ) → size k ≤ unit
  short_size k = rw (size_is k) (omega arith)

  first_bytes : slice_range body (0 * unit) (0 * unit + unit) ≡ take unit body
  first_bytes = grind (arith, common_steps)

  first_is_sound : 0 < number → broken_rule r.limit (packet 0 ∷ []) ≡ None
  first_is_sound within =
      let byte : slice_index (packet 0).payload 0 ≡ slice_index body 0 = ap (λ (xs : List ℕ). slice_index xs 0) first_bytes ∙ first_byte body unit sound.some in
      no_test _ _ _ WrongSize IntegritySet TooLong
      (ne_eqb (size 0) 0 (λ e. omega (arith, has_bytes 0 within, e)))
      (le_false 128 (slice_index (packet 0).payload 0) (rw byte sound.plain))
      (lt_false r.limit (size 0) (omega (arith, size_is 0, sound.fits)))

  unit_is : (j : ℕ) → suc j < number → unit_of (packet j ∷ before j) ≡ unit
  unit_is j within = unit_of-sent route unit body j ∙ whole_size 0 (omega (arith, within))

  later_is_sound : (j : ℕ) → suc j < number → broken_rule r.limit (packet (suc j) ∷ packet j ∷ before j) ≡ None
  later_is_sound j within =
      let held : length (joined (packet j ∷ before j)) ≡ min (suc j * unit) (length body) = ap length (joined-sent route unit body (suc j)) ∙ length-take (suc j * unit) body in
      let whole : nat_eq (suc j + 1) number ≡ false → size (suc j) ≡ unit = λ more. whole_size (suc j) (omega (arith, within, eqb-false (suc j + 1) number more)) in
      let sized : has_wrong_size (packet (suc j)) unit ≡ false = right_size _ _ _ _
      (ne_eqb (size (suc j)) 0 (λ e. omega (arith, has_bytes (suc j) within, e)))
      (lt_false unit (size (suc j)) (short_size (suc j)))
      (below_end (size (suc j)) unit (nat_eq (suc j + 1) number) whole) in
      let P : ℕ → Type 0 = λ u. has_wrong_size (packet (suc j)) u ≡ false in
      no_test _ _ _ WrongSequence WrongSize TooLong
      (ap not (eq-eqb (suc j % 4) ((j % 4 + 1) % 4) (omega arith)))
      (subst P (sym (unit_is j within)) sized)
      (lt_false r.limit (length (joined (packet j ∷ before j)) + size (suc j)) (omega (arith, held, size_is (suc j), sound.fits)))

  goes_on_one : (end : Bool) (rule : Option DropCause) → end ≡ false → rule ≡ None → not end && is_none rule ≡ true
  goes_on_one end rule e n = rw (e, n) refl

  goes_on_more : (end : Bool) (rule : Option DropCause) (before : Bool) → end ≡ false → rule ≡ None → before ≡ true → not end && is_none rule && before ≡ true
  goes_on_more end rule before e n b = rw (e, n, b) refl

  not_last : (k : ℕ) → suc k < number → nat_eq (k + 1) number ≡ false
  not_last k within = ne_eqb (k + 1) number (λ e. omega (arith, within, e))

  unfinished : (k : ℕ) → suc k < number → is_unfinished r.limit (before (suc k)) ≡ true
  unfinished zero within = goes_on_one _ _ (not_last 0 within) (first_is_sound (omega (arith, within)))
  unfinished (suc k) within =
      goes_on_more _ _ _ (not_last (suc k) within) (later_is_sound k (omega (arith, within))) (unfinished k (omega (arith, within)))

  ours : (k : ℕ) → is_ours r (packet k) ≡ true
  ours k = rw (eq-eqb route.to r.own sound.to_is, eq-eqb route.from r.peer sound.from_is) refl

  filter_ours : (k : ℕ) → filter (is_ours r) (before k) ≡ before k
  filter_ours zero = refl
  filter_ours (suc k) =
      let P : Bool → Type 0 = λ b. cond b (packet k ∷ filter (is_ours r) (before k)) (filter (is_ours r) (before k)) ≡ packet k ∷ before k in
      subst P (sym (ours k)) (ap (λ (xs : List PacketFields). packet k ∷ xs) (filter_ours k))

  not_first : (k : ℕ) → nat_eq (suc k) 0 ≡ false
  not_first k = ne_eqb (suc k) 0 (λ e. omega (arith, e))

  group_before : (k : ℕ) → group_of (before (suc k)) ≡ before (suc k)
  group_before zero = group_of-first (packet 0) [] refl
  group_before (suc k) =
      group_of-later (packet (suc k)) (before (suc k)) (not_first k)
      ∙ ap (with_packet (packet (suc k))) (group_before k)
      ∙ ap (λ (b : Bool). if b then packet (suc k) ∷ before (suc k) else before (suc k)) (same_tags route unit body (suc k) k)

  -- the packets after the first one, the newest first
  after_first : ℕ → List PacketFields
  after_first zero = []
  after_first (suc k) = packet (suc k) ∷ after_first k

  split_first : (k : ℕ) (earlier : List PacketFields) → before (suc k) ++ earlier ≡ after_first k ++ packet 0 ∷ earlier
  unfolding after_first
  split_first zero earlier = refl
  split_first (suc k) earlier = ap (λ (xs : List PacketFields). packet (suc k) ∷ xs) (split_first k earlier)

  alone : (k : ℕ) (earlier : List PacketFields) (q : PacketFields) → gathered r (before (suc k) ++ earlier) q ≡ gathered r (before (suc k)) q
  alone k earlier q =
      ap (λ (xs : List PacketFields). gathered r xs q) (split_first k earlier)
      ∙ gathered-from r (after_first k) earlier (packet 0) q (ours 0) refl
      ∙ sym (ap (λ (xs : List PacketFields). gathered r xs q) (sym (append-nil (before (suc k))) ∙ split_first k []))

  told : (k : ℕ) (last : Bool) → nat_eq (k + 1) number ≡ last → (if last then Whole route (joined (before (suc k))) else More) ≡ (if last then Whole route body else More)
  told k true e =
      let all : k + 1 ≡ number = eqb-true (k + 1) number e in
      let around = div_ceil_times (length body) unit sound.some in
      let same : suc k ≡ number = omega (arith, all) in
      let enough : length body ≤ suc k * unit = rw same around.0 in
      ap (λ (xs : List ℕ). Whole route xs) (joined-sent route unit body (suc k) ∙ take_all (suc k * unit) body enough)
  told k false e = refl

  answered : (p : PacketFields) → Bool → Bool → List PacketFields → Gathered
  answered p o s group =
      if not o then Dropped NotOurs
      else (if s then answer_of r.limit p []
      else (if belongs_to r.limit p group then answer_of r.limit p group
      else Dropped NoStart))

  pub gathered-nth : (earlier : List PacketFields) (k : ℕ) → k < number →
      gathered r (before k ++ earlier) (packet k) ≡ (if nat_eq (k + 1) number then Whole route body else More)
  unfolding answered
  gathered-nth earlier zero within =
      ap (λ (o : Bool). answered (packet 0) o true (group_of (filter (is_ours r) earlier))) (ours 0)
      ∙ ap (λ (rule : Option DropCause). answer_from rule (packet 0) (joined (before 1))) (first_is_sound within)
      ∙ told 0 (nat_eq (0 + 1) number) refl
  gathered-nth earlier (suc j) within =
      let p = packet (suc j) in
      let group : group_of (filter (is_ours r) (before (suc j))) ≡ before (suc j) = ap group_of (filter_ours (suc j)) ∙ group_before j in
      let member : has_same_tag p (packet j) && is_unfinished r.limit (before (suc j)) ≡ true =
      ap (λ (b : Bool). b && is_unfinished r.limit (before (suc j))) (same_tags route unit body (suc j) j) ∙ unfinished j within in
      alone j earlier p
      ∙ ap (λ (o : Bool). answered p o (nat_eq (suc j) 0) (group_of (filter (is_ours r) (before (suc j))))) (ours (suc j))
      ∙ ap (λ (s : Bool). answered p true s (group_of (filter (is_ours r) (before (suc j))))) (not_first j)
      ∙ ap (λ (g : List PacketFields). answered p true false g) group
      ∙ ap (λ (b : Bool). if b then answer_of r.limit p (before (suc j)) else Dropped NoStart) member
      ∙ ap (λ (rule : Option DropCause). answer_from rule p (joined (before (suc (suc j))))) (later_is_sound j within)
      ∙ told (suc j) (nat_eq (suc j + 1) number) refl
