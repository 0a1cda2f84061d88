-- What came before a first packet counts no more.
use Rattle.std.proofs.Common.{◌≡◌, ◌∙◌, Bool, true, false, not, cond, List, [], ◌∷◌, ◌++◌, refl, sym, ap, subst}
use Rattle.std.specs.Prelude.{filter, Option, Some, None, if◌then◌else◌}
use Rattle.mctp_framing.specs.Packet.{PacketFields}
use Rattle.mctp_framing.specs.Gathering.{Receiver, Gathered, is_ours, last_start, after_start, group_from, group_of, belongs_to, answer_of, gathered}
use Rattle.mctp_framing.specs.Gathering.Gathered.{Dropped}
use Rattle.spdm_basis.specs.declared.DropCause.TheVariants.{NoStart, NotOurs}

-- the last first packet, and those after it, where one stands before
last_start-from : (later earlier : List PacketFields) (p : PacketFields) → p.start ≡ true → last_start (later ++ p ∷ earlier) ≡ last_start (later ++ p ∷ [])
last_start-from [] earlier p first =
    let P : Bool → Type 0 = λ b. cond b (Some p) (last_start earlier) ≡ cond b (Some p) None in
    subst P (sym first) refl
last_start-from (x ∷ later) earlier p first = ap (λ (o : Option PacketFields). cond x.start (Some x) o) (last_start-from later earlier p first)

after_start-from : (later earlier : List PacketFields) (p : PacketFields) → p.start ≡ true → after_start (later ++ p ∷ earlier) ≡ after_start (later ++ p ∷ [])
after_start-from [] earlier p first =
    let P : Bool → Type 0 = λ b. cond b [] (p ∷ after_start earlier) ≡ cond b [] (p ∷ []) in
    subst P (sym first) refl
after_start-from (x ∷ later) earlier p first = ap (λ (xs : List PacketFields). cond x.start [] (x ∷ xs)) (after_start-from later earlier p first)

group_of-from : (later earlier : List PacketFields) (p : PacketFields) → p.start ≡ true → group_of (later ++ p ∷ earlier) ≡ group_of (later ++ p ∷ [])
group_of-from later earlier p first =
    ap (λ (o : Option PacketFields). group_from o (after_start (later ++ p ∷ earlier))) (last_start-from later earlier p first)
    ∙ ap (λ (xs : List PacketFields). group_from (last_start (later ++ p ∷ [])) xs) (after_start-from later earlier p first)

-- the packets for a receiver, around one that is
ours_around : (r : Receiver) (later earlier : List PacketFields) (p : PacketFields) → is_ours r p ≡ true →
    filter (is_ours r) (later ++ p ∷ earlier) ≡ filter (is_ours r) later ++ p ∷ filter (is_ours r) earlier
ours_around r [] earlier p ours =
    let P : Bool → Type 0 = λ b. cond b (p ∷ filter (is_ours r) earlier) (filter (is_ours r) earlier) ≡ p ∷ filter (is_ours r) earlier in
    subst P (sym ours) refl
ours_around r (x ∷ later) earlier p ours =
    ap (λ (xs : List PacketFields). cond (is_ours r x) (x ∷ xs) xs) (ours_around r later earlier p ours) ∙ put (is_ours r x) x (filter (is_ours r) later) (p ∷ filter (is_ours r) earlier)
  where
    put : (b : Bool) (x : PacketFields) (xs ys : List PacketFields) → cond b (x ∷ xs ++ ys) (xs ++ ys) ≡ cond b (x ∷ xs) xs ++ ys
    put true x xs ys = refl
    put false x xs ys = refl

pub group-from : (r : Receiver) (later earlier : List PacketFields) (p : PacketFields) → is_ours r p ≡ true → p.start ≡ true →
    group_of (filter (is_ours r) (later ++ p ∷ earlier)) ≡ group_of (filter (is_ours r) (later ++ p ∷ []))
group-from r later earlier p ours first =
    ap group_of (ours_around r later earlier p ours)
    ∙ group_of-from (filter (is_ours r) later) (filter (is_ours r) earlier) p first
    ∙ sym (ap group_of (ours_around r later [] p ours))

abbrev answer_with : Receiver → List PacketFields → PacketFields → Gathered
answer_with r group q =
    if not (is_ours r q) then Dropped NotOurs
    else (if q.start then answer_of r.limit q []
    else (if belongs_to r.limit q group then answer_of r.limit q group
    else Dropped NoStart))

pub gathered-from : (r : Receiver) (later earlier : List PacketFields) (p q : PacketFields) → is_ours r p ≡ true → p.start ≡ true →
    gathered r (later ++ p ∷ earlier) q ≡ gathered r (later ++ p ∷ []) q
gathered-from r later earlier p q ours first = ap (λ (group : List PacketFields). answer_with r group q) (group-from r later earlier p ours first)

-- a first packet is answered alike whatever came before
pub gathered-first : (r : Receiver) (earlier : List PacketFields) (p : PacketFields) → p.start ≡ true → gathered r earlier p ≡ gathered r [] p
gathered-first r earlier p first =
    let rest : List PacketFields → Gathered = λ group. (if belongs_to r.limit p group then answer_of r.limit p group else Dropped NoStart) in
    let P : Bool → Type 0 = λ b.
    (if not (is_ours r p) then Dropped NotOurs else (if b then answer_of r.limit p [] else rest (group_of (filter (is_ours r) earlier))))
    ≡ (if not (is_ours r p) then Dropped NotOurs else (if b then answer_of r.limit p [] else rest [])) in
    subst P (sym first) refl
