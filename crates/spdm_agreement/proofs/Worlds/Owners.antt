-- The tags that the ends of one key make are of purposes of that key.
use Rattle.std.proofs.Common.{◌≡◌, ◌⊎◌, ℕ, List, [], ◌∷◌, sym, ap, subst, inl, inr}
use Rattle.key_schedule.specs.Purpose.{Purpose}
use Rattle.world_machine.specs.Agreement.{IsMade}
use Rattle.spdm_agreement.specs.Moves.{State, Move, after, IsRun}
use Rattle.spdm_agreement.specs.Moves.Move.{Start, Begin, Accept, Finish, Refuse, Open, Say, Take, Hear, Check, Foreign}
use Rattle.spdm_agreement.specs.Reading.{Reading}
use Rattle.spdm_agreement.proofs.Moves.Foreign.{IsOwn, AreOwn}
use Rattle.spdm_agreement.proofs.Worlds.EndSteps.{OwnLeads}

one : (r : Reading) (m : Move) (s : State) (p : Purpose) (i : List ℕ) → IsOwn m → IsMade p i (after r m s).log → (p.psk ≡ r.psk) ⊎ IsMade p i s.log
one r (Start id draw) s p i own made = inr made
one r (Begin t value) s p i own made = elim made [ inl e ↦ inl (sym (ap (λ (q : Purpose). q.psk) e.0)) | inr l ↦ inr l ]
one r (Accept t input value sealed) s p i own made = elim made [
  | inl e ↦ inl (sym (ap (λ (q : Purpose). q.psk) e.0))
  | inr l ↦ elim l [ inl e ↦ inl (sym (ap (λ (q : Purpose). q.psk) e.0)) | inr x ↦ inr x ]
]
one r (Finish t u number b at reply value) s p i own made = elim made [ inl e ↦ inl (sym (ap (λ (q : Purpose). q.psk) e.0)) | inr l ↦ inr l ]
one r (Refuse t number b at reply value) s p i own made = elim made [ inl e ↦ inl (sym (ap (λ (q : Purpose). q.psk) e.0)) | inr l ↦ inr l ]
one r (Open t u b) s p i own made = inr made
one r (Say t u b value) s p i own made = elim made [ inl e ↦ inl (sym (ap (λ (q : Purpose). q.psk) e.0)) | inr l ↦ inr l ]
one r (Take t u b reply value) s p i own made = elim made [ inl e ↦ inl (sym (ap (λ (q : Purpose). q.psk) e.0)) | inr l ↦ inr l ]
one r (Hear t u b reply) s p i own made = inr made
one r (Check q j value received) s p i own made = inr made
one r (Foreign q j value) s p i own made = absurd own

by_run : (r : Reading) (ms : List Move) (s z : State) (p : Purpose) (i : List ℕ) → AreOwn ms → IsRun r ms s z → IsMade p i z.log → (p.psk ≡ r.psk) ⊎ IsMade p i s.log
by_run r [] s z p i own run made = inr (subst (λ (x : State). IsMade p i x.log) (sym run) made)
by_run r (m ∷ ms) s z p i own run made = elim (by_run r ms (after r m s) z p i own.1 run.1 made) [ inl e ↦ inl e | inr l ↦ one r m s p i own.0 l ]

pub own_made : (r : Reading) (s z : State) (p : Purpose) (i : List ℕ) → OwnLeads r s z → IsMade p i z.log → (p.psk ≡ r.psk) ⊎ IsMade p i s.log
own_made r s z p i l made = by_run r l.0 s z p i l.1 l.2 made
