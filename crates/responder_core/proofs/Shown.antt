-- What is seen of the sessions.
use Rattle.std.proofs.Common.{refl, ◌≡◌, ◌+◌, ◌<◌, ◌^◌, ℕ, [], true, false, Bool, Option, Some, None, ap, sym, subst, arith}
use Rattle.std.specs.Prelude.{◌&&◌, if◌then◌else◌, not}
use Rattle.responder_core.specs.LiveSession.{IsSlotOf, StandsFor}
use Rattle.responder_core.specs.Sessions.{IsViewOf, is_held_in, is_timed_in}
use Rattle.responder_core.specs.declared.in_sessions.live_session.LiveSession.{LiveSession}
use Rattle.responder_machine.proofs.Within.{session_within}
use Rattle.responder_machine.specs.BoundLaws.{messages_of}
use Rattle.responder_machine.specs.Heard.{view_of}
use Rattle.responder_machine.specs.History.{History}
use Rattle.responder_machine.specs.Session.{Events, is_live, is_timed, session_of, stage_of, taken_of}
use Rattle.responder_machine.specs.Setup.{RspSetup}
use Rattle.spdm_grammar.specs.declared.told.session_view.SessionView.{SessionView}
use Rattle.spdm_machine.specs.Sessions.{is_past_handshake, one_if}

-- The session of a slot.
pub in_slot : (r : RspSetup) (s : Events) (x : Option LiveSession) (live : LiveSession) → x ≡ Some live → IsSlotOf x r s → StandsFor live r s
in_slot r s x live is slot = subst (λ (y : Option LiveSession). IsSlotOf y r s) is slot

pub no_slot : (r : RspSetup) (s : Events) (x : Option LiveSession) → x ≡ None → IsSlotOf x r s → s ≡ []
no_slot r s x is slot = subst (λ (y : Option LiveSession). IsSlotOf y r s) is slot

pub held_live : (s : Events) → is_live s ≡ true → is_past_handshake (stage_of s) ≡ is_held_in s
held_live s live = ap (λ (b : Bool). b && is_past_handshake (stage_of s)) (sym live)

pub held_none : (s : Events) → s ≡ [] → false ≡ is_held_in s
held_none s none = ap is_held_in (sym none)

pub timed_live : (s : Events) → is_live s ≡ true → is_timed s ≡ is_timed_in s
timed_live s live = ap (λ (b : Bool). b && is_timed s) (sym live)

pub held_is : (a b c d : ℕ) (w x y z : Bool) → a ≡ one_if w → b ≡ one_if x → c ≡ one_if y → d ≡ one_if z → one_if w + one_if x + one_if y + one_if z ≡ a + b + c + d
held_is a b c d w x y z e f g h = omega (arith, e, f, g, h)

abbrev free_by : (w x y : Bool) → ℕ
free_by w x y = if not w then 1 else (if not x then 2 else (if not y then 3 else 4))

pub first_free : (w x y : Bool) → w ≡ false → 1 ≡ free_by w x y
first_free w x y e = rw e refl

pub second_free : (w x y : Bool) → w ≡ true → x ≡ false → 2 ≡ free_by w x y
second_free w x y e f = rw (e, f) refl

pub third_free : (w x y : Bool) → w ≡ true → x ≡ true → y ≡ false → 3 ≡ free_by w x y
third_free w x y e f g = rw (e, f, g) refl

pub last_free : (w x y : Bool) → w ≡ true → x ≡ true → y ≡ true → 4 ≡ free_by w x y
last_free w x y e f g = rw (e, f, g) refl

pub taken_few : (h : History) (id : ℕ) → messages_of h < 2 ^ 64 → taken_of (session_of id h) < 2 ^ 64
taken_few h id few = (let within = session_within h id in let most = within.taken in omega arith)

pub viewed : (x : Option SessionView) (s : Events) → is_live s ≡ true → x ≡ Some (view_of s) → IsViewOf x s
viewed x s live is = subst (λ (v : Option SessionView). IsViewOf v s) (sym is) (live, refl)
