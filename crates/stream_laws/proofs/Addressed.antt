-- Which packets are for an end.
use Rattle.std.proofs.Common.{◌≡◌, ◌≢◌, ◌==◌, ◌&&◌, ◌∙◌, ℕ, List, ◌∷◌, not, nat_lt, filter, Bool, true, false, cond, length, slice_index, refl, sym, ap, eq-eqb, eqb-true}
use Rattle.std.proofs.lemmas.Bool.{false≢true, ne_eqb}
use Rattle.stream_laws.specs.Coming.{Coming, is_packet_for}

module _ (eid : ℕ) (packet : List ℕ) where
  by_length : (short : Bool) → nat_lt (length packet) 2 ≡ short → is_packet_for eid packet ≡ not short && slice_index packet 1 == eid
  by_length short e = ap (λ (b : Bool). not b && slice_index packet 1 == eid) e

  pub short_for_nobody : nat_lt (length packet) 2 ≡ true → is_packet_for eid packet ≡ false
  short_for_nobody e = by_length true e

  pub for_end : nat_lt (length packet) 2 ≡ false → slice_index packet 1 ≡ eid → is_packet_for eid packet ≡ true
  for_end e same = by_length false e ∙ eq-eqb (slice_index packet 1) eid same

  pub for_other : nat_lt (length packet) 2 ≡ false → slice_index packet 1 ≢ eid → is_packet_for eid packet ≡ false
  for_other e differ = by_length false e ∙ ne_eqb (slice_index packet 1) eid differ

-- A packet for an end names it, so it is for no other.

named : (eid : ℕ) (packet : List ℕ) (short : Bool) → nat_lt (length packet) 2 ≡ short → is_packet_for eid packet ≡ true → (nat_lt (length packet) 2 ≡ false) × (slice_index packet 1 ≡ eid)
named eid packet true e is = absurd (false≢true (sym (short_for_nobody eid packet e) ∙ is))
named eid packet false e is = (e, eqb-true (slice_index packet 1) eid (sym (ap (λ (b : Bool). not b && slice_index packet 1 == eid) e) ∙ is))

pub names_end : (eid : ℕ) (packet : List ℕ) → is_packet_for eid packet ≡ true → (nat_lt (length packet) 2 ≡ false) × (slice_index packet 1 ≡ eid)
names_end eid packet is = named eid packet (nat_lt (length packet) 2) refl is

pub for_one : (eid other : ℕ) (packet : List ℕ) → eid ≢ other → is_packet_for eid packet ≡ true → is_packet_for other packet ≡ false
for_one eid other packet differ is =
    let names = names_end eid packet is in
    for_other other packet names.0 (λ e. differ (sym names.1 ∙ e))

-- What comes, to the end or not, before others.
pub kept : (p : Coming → Bool) (x : Coming) (rest : List Coming) (b : Bool) → p x ≡ b → filter p (x ∷ rest) ≡ cond b (x ∷ filter p rest) (filter p rest)
kept p x rest b e = ap (λ (c : Bool). cond c (x ∷ filter p rest) (filter p rest)) e
