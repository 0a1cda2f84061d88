-- What the slot of a session says of what PSK_EXCHANGE_RSP told.
use Rattle.std.specs.Prelude.{◌⊎◌}
use Rattle.std.proofs.Common.{◌≡◌, ◌∙◌, ap, subst, sym, inl, inr, ℕ, List, [], Some, None}
use Rattle.psk_session.specs.Told.{told_of}
use Rattle.psk_session.specs.declared.finishing.Finishing.{Finishing}
use Rattle.psk_session.specs.declared.opening.Opening.{Opening}
use Rattle.psk_session.specs.declared.req_session.ReqSession.{ReqSession}
use Rattle.psk_session.specs.declared.session_told.SessionTold.{SessionTold}
use Rattle.requester_core.specs.Slot.{IsSlotOf}
use Rattle.requester_core.specs.declared.in_sessions.slot.Slot.{Slot}
use Rattle.requester_core.specs.declared.in_sessions.slot.Slot.TheVariants as slot
use Rattle.requester_machine.specs.Session.{Steps}

-- Where there is no session nothing is told.
pub empty_told : (s : Steps) → s ≡ [] → told_of s ≡ None
unfolding told_of
empty_told s is = ap told_of is

opening_told : (x : Opening) (psk : List ℕ) (s : Steps) → IsSlotOf (slot.Opening x) psk s → told_of s ≡ None
unfolding told_of
opening_told x psk s o = ap told_of o.steps

-- Before PSK_EXCHANGE_RSP was taken nothing is told.
pub none_told : (x : Slot) (psk : List ℕ) (s : Steps) → (x ≡ slot.Empty) ⊎ ((o : Opening) × (x ≡ slot.Opening o)) → IsSlotOf x psk s → told_of s ≡ None
none_told x psk s (inl e) is = empty_told s (subst (λ (y : Slot). IsSlotOf y psk s) e is)
none_told x psk s (inr o) is = opening_told o.0 psk s (subst (λ (y : Slot). IsSlotOf y psk s) o.1 is)

pub finishing_told : (x : Finishing) (psk : List ℕ) (s : Steps) (told : SessionTold) → IsSlotOf (slot.Finishing x) psk s
    → told ≡ x.told → told_of s ≡ Some told
unfolding told_of
finishing_told x psk s told f is = ap told_of f.steps ∙ f.stands.told ∙ ap (λ (t : SessionTold). Some t) (sym is)

pub live_told : (x : ReqSession) (psk : List ℕ) (s : Steps) (told : SessionTold) → IsSlotOf (slot.Live x) psk s
    → told ≡ x.kept.told → told_of s ≡ Some told
live_told x psk s told (inl r) is = r.stands.1.keeps.told ∙ ap (λ (t : SessionTold). Some t) (sym is)
live_told x psk s told (inr k) is = k.stands.1.keeps.told ∙ ap (λ (t : SessionTold). Some t) (sym is)
