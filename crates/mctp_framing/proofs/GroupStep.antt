-- One packet more: what it does to the group, and that an assembler still stands for the packets given.
use Rattle.std.proofs.Common.{◌≡◌, ◌∙◌, ◌==◌, ◌&&◌, ℕ, Bool, true, false, cond, List, [], ◌∷◌, ◌++◌, refl, sym, ap, subst}
use Rattle.std.specs.Prelude.{filter, Option, Some, None, if◌then◌else◌}
use Rattle.std.specs.Bool.{beq}
use Rattle.std.proofs.lemmas.Bool.{eqb-true}
use mathlib.Core.Bool.{true≢false}
use Rattle.mctp_framing.specs.Packet.{PacketFields}
use Rattle.mctp_framing.specs.Gathering.{has_same_tag, last_start, after_start, group_from, group_of}

-- the group with one later packet more
abbrev pub with_packet : PacketFields → List PacketFields → List PacketFields
with_packet p [] = []
with_packet p (q ∷ earlier) = if has_same_tag p q then p ∷ q ∷ earlier else q ∷ earlier

pub both_true : (a b : Bool) → a && b ≡ true → (a ≡ true) × (b ≡ true)
both_true true true e = (refl, refl)
both_true true false e = absurd (true≢false (sym e))
both_true false b e = absurd (true≢false (sym e))

same_bool : (a b : Bool) → beq a b ≡ true → a ≡ b
same_bool true true e = refl
same_bool true false e = absurd (true≢false (sym e))
same_bool false true e = absurd (true≢false (sym e))
same_bool false false e = refl

-- packets are compared alike with two that have the same tag
same_comparison : (p q first : PacketFields) → has_same_tag q first ≡ true → has_same_tag p q ≡ has_same_tag p first
same_comparison p q first same =
    let parts = both_true (q.tag == first.tag) (beq q.owner first.owner) same in
    let tag : q.tag ≡ first.tag = eqb-true q.tag first.tag parts.0 in
    let owner : q.owner ≡ first.owner = same_bool q.owner first.owner parts.1 in
    ap (λ (t : ℕ). p.tag == t && beq p.owner q.owner) tag ∙ ap (λ (o : Bool). p.tag == first.tag && beq p.owner o) owner

-- one packet before a list that begins so, by two tests that agree
put_first : (a b : Bool) (p q : PacketFields) (rest last : List PacketFields) → a ≡ b →
    (if a then p ∷ q ∷ rest ++ last else q ∷ rest ++ last) ≡ cond b (p ∷ q ∷ rest) (q ∷ rest) ++ last
put_first a true p q rest last e = rw e refl
put_first a false p q rest last e = rw e refl

put_before : (b : Bool) (p first : PacketFields) → (if b then p ∷ first ∷ [] else first ∷ []) ≡ cond b (p ∷ []) [] ++ first ∷ []
put_before true p first = refl
put_before false p first = refl

-- the same of a list with one packet more, if it has the tag
with_packet-kept : (p first q : PacketFields) (same : List PacketFields) (b : Bool) → has_same_tag q first ≡ b →
    with_packet p (same ++ first ∷ []) ≡ cond (has_same_tag p first) (p ∷ same) same ++ first ∷ [] →
    with_packet p (cond b (q ∷ same) same ++ first ∷ []) ≡ cond (has_same_tag p first) (p ∷ cond b (q ∷ same) same) (cond b (q ∷ same) same) ++ first ∷ []
with_packet-kept p first q same true e before =
    put_first (has_same_tag p q) (has_same_tag p first) p q same (first ∷ []) (same_comparison p q first e)
with_packet-kept p first q same false e before = before

with_packet-later : (p first : PacketFields) (later : List PacketFields) →
    with_packet p (filter (λ q. has_same_tag q first) later ++ first ∷ []) ≡ filter (λ q. has_same_tag q first) (p ∷ later) ++ first ∷ []
with_packet-later p first [] = put_before (has_same_tag p first) p first
with_packet-later p first (q ∷ later) =
    with_packet-kept p first q (filter (λ x. has_same_tag x first) later) (has_same_tag q first) refl (with_packet-later p first later)

group_from-later : (start : Option PacketFields) (p : PacketFields) (later : List PacketFields) → group_from start (p ∷ later) ≡ with_packet p (group_from start later)
group_from-later None p later = refl
group_from-later (Some first) p later = sym (with_packet-later p first later)

pub group_of-later : (p : PacketFields) (packets : List PacketFields) → p.start ≡ false → group_of (p ∷ packets) ≡ with_packet p (group_of packets)
group_of-later p packets later =
    let P : Bool → Type 0 = λ b. group_from (cond b (Some p) (last_start packets)) (cond b [] (p ∷ after_start packets)) ≡ with_packet p (group_of packets) in
    subst P (sym later) (group_from-later (last_start packets) p (after_start packets))

pub group_of-first : (p : PacketFields) (packets : List PacketFields) → p.start ≡ true → group_of (p ∷ packets) ≡ p ∷ []
group_of-first p packets first =
    let P : Bool → Type 0 = λ b. group_from (cond b (Some p) (last_start packets)) (cond b [] (p ∷ after_start packets)) ≡ p ∷ [] in
    subst P (sym first) refl
