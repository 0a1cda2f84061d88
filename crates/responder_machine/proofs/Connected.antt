-- Connections of which one gets another history.
use Rattle.std.proofs.Common.{◌≡◌, ◌≢◌, ◌⊎◌, ℕ, ◌+◌, ◌==◌, List, [], ◌∷◌, Bool, true, false, cond, map, refl, sym, ap, ◌∙◌, subst, inl, inr, arith, eqb-true, eq-eqb, true≢false}
use Rattle.responder_machine.specs.History.{History}
use Rattle.responder_machine.specs.Responding.{Connection, changed, changed_if, with_history, over_all}
use Rattle.responder_machine.specs.Setup.{RspSetup}
use Rattle.spdm_machine.proofs.Members.{IsIn, in_map}

-- Each connection has an endpoint of its own.
abbrev pub PeersDiffer : List Connection → Type 0
PeersDiffer [] = Unit {0}
PeersDiffer (c ∷ others) = ((d : Connection) → IsIn others d → d.setup.peer ≡ c.setup.peer → ⊥) × PeersDiffer others

pub same_connection : (cs : List Connection) → PeersDiffer cs → (c d : Connection) → IsIn cs c → IsIn cs d → c.setup.peer ≡ d.setup.peer → c ≡ d
same_connection [] apart c d m n e = absurd m
same_connection (x ∷ others) apart c d m n e = elim m [
  | inl is ↦ elim n [ inl its ↦ is ∙ sym its | inr l ↦ absurd (apart.0 d l (sym e ∙ ap (λ (y : Connection). y.setup.peer) is)) ]
  | inr k ↦ elim n [ inl its ↦ absurd (apart.0 c k (e ∙ ap (λ (y : Connection). y.setup.peer) its)) | inr l ↦ same_connection others apart.1 c d k l e ]
]

-- ---- Any change of histories.

-- Each connection keeps its set-up.
abbrev pub KeepsSetup : (Connection → Connection) → Type 0
KeepsSetup f = (c : Connection) → (f c).setup ≡ c.setup

pub peers_stay : (f : Connection → Connection) (cs : List Connection) → KeepsSetup f → PeersDiffer cs → PeersDiffer (map f cs)
peers_stay f [] keeps apart = tt
peers_stay f (c ∷ others) keeps apart = (
  λ d m e. (let o = in_map f others d m in
      apart.0 o.0 o.1 (sym (ap (λ (s : RspSetup). s.peer) (keeps o.0)) ∙ sym (ap (λ (x : Connection). x.setup.peer) o.2) ∙ e ∙ ap (λ (s : RspSetup). s.peer) (keeps c))),
  peers_stay f others keeps apart.1,
)

pub changed_keeps : (eid : ℕ) (change : History → History) → KeepsSetup (changed_if eid change)
changed_keeps eid change c = go (c.setup.peer == eid)
  where
    go : (b : Bool) → (cond b (changed change c) c).setup ≡ c.setup
    go true = refl
    go false = refl

-- Where a connection of the new list comes from.
pub record Origin (eid : ℕ) (change : History → History) (cs : List Connection) (x : Connection) : Type 0 where
  pub old : Connection
  pub is : IsIn cs old
  pub same : ((old.setup.peer ≡ eid) × (x ≡ changed change old)) ⊎ ((old.setup.peer ≢ eid) × (x ≡ old))

origin_by : (eid : ℕ) (change : History → History) (cs : List Connection) (old x : Connection) (b : Bool) → (old.setup.peer == eid) ≡ b → IsIn cs old → x ≡ cond b (changed change old) old → Origin eid change cs x
origin_by eid change cs old x true e m is = record { old = old; is = m; same = inl (eqb-true _ _ e, is) }
origin_by eid change cs old x false e m is = record { old = old; is = m; same = inr (λ s. true≢false (sym (eq-eqb _ _ s) ∙ e), is) }

pub origin : (eid : ℕ) (change : History → History) (cs : List Connection) (x : Connection) → IsIn (with_history eid change cs) x → Origin eid change cs x
origin eid change cs x m = (let o = in_map (changed_if eid change) cs x m in origin_by eid change cs o.0 x (o.0.setup.peer == eid) refl o.1 o.2)

-- ---- Counts.

count_kept : (count : History → ℕ) (eid : ℕ) (change : History → History) (cs : List Connection) → ((d : Connection) → IsIn cs d → d.setup.peer ≡ eid → ⊥) → over_all count (with_history eid change cs) ≡ over_all count cs
count_kept count eid change [] none = refl
count_kept count eid change (c ∷ others) none = go (c.setup.peer == eid) refl (count_kept count eid change others (λ d m. none d (inr m)))
  where
    go : (b : Bool) → (c.setup.peer == eid) ≡ b → over_all count (with_history eid change others) ≡ over_all count others → over_all count (with_history eid change (c ∷ others)) ≡ over_all count (c ∷ others)
    go true e next = absurd (none c (inl refl) (eqb-true _ _ e))
    go false e next = ap (λ (b : Bool). count (cond b (changed change c) c).history + over_all count (with_history eid change others)) e ∙ ap (λ (n : ℕ). count c.history + n) next

-- What a count over all connections comes to where one has another history.
pub count_changed : (count : History → ℕ) (change : History → History) (cs : List Connection) (c : Connection) → PeersDiffer cs → IsIn cs c
    → over_all count (with_history c.setup.peer change cs) + count c.history ≡ over_all count cs + count (change c.history)
count_changed count change [] c apart m = absurd m
count_changed count change (d ∷ others) c apart m = elim m [
  | inl e ↦ (let here : over_all count (with_history d.setup.peer change (d ∷ others)) ≡ count (change d.history) + over_all count others =
      ap (λ (b : Bool). count (cond b (changed change d) d).history + over_all count (with_history d.setup.peer change others)) (eq-eqb d.setup.peer d.setup.peer refl)
      ∙ ap (λ (n : ℕ). count (change d.history) + n) (count_kept count d.setup.peer change others apart.0) in
      subst (λ (x : Connection). over_all count (with_history x.setup.peer change (d ∷ others)) + count x.history ≡ over_all count (d ∷ others) + count (change x.history)) (sym e) (omega (arith, here)))
  | inr l ↦ (let there = count_changed count change others c apart.1 l in
      go (d.setup.peer == c.setup.peer) refl l there)
]
  where
    go : (b : Bool) → (d.setup.peer == c.setup.peer) ≡ b → IsIn others c → over_all count (with_history c.setup.peer change others) + count c.history ≡ over_all count others + count (change c.history)
        → over_all count (with_history c.setup.peer change (d ∷ others)) + count c.history ≡ over_all count (d ∷ others) + count (change c.history)
    go true e l there = absurd (apart.0 c l (sym (eqb-true _ _ e)))
    go false e l there =
        let here : over_all count (with_history c.setup.peer change (d ∷ others)) ≡ count d.history + over_all count (with_history c.setup.peer change others) =
        ap (λ (b : Bool). count (cond b (changed change d) d).history + over_all count (with_history c.setup.peer change others)) e in
        omega (arith, here, there)
