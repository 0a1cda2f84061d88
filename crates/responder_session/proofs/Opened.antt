-- What an inner message does in a session, by the message after its type.
use Rattle.std.proofs.Common.{◌≡◌, ◌≤◌, ◌∙◌, ap, sym, subst, refl, ℕ, List, [], ◌∷◌, Bool, true, false, length, length-drop, drop, arith}
use Rattle.std.proofs.lemmas.Bool.Decides.{nat_tests}
use Rattle.std.proofs.lemmas.Option.{none-some}
use Rattle.std.specs.Prelude.{◌==◌, ◌&&◌, ◌||◌, not, nat_lt, Option, Some, None, slice_index}
use Rattle.spdm_basis.specs.Tests.{first_of_tests}
use Rattle.spdm_grammar.specs.declared.messages.error_code.ErrorCode.TheVariants.{InvalidRequest, UnexpectedRequest, RequestTooLarge}
use Rattle.responder_machine.specs.Answer.{Free}
use Rattle.responder_machine.specs.Handling.{error_bytes, turn_of}
use Rattle.responder_machine.specs.Place.{session_place}
use Rattle.responder_machine.specs.Refusal.{refused_form}
use Rattle.responder_machine.specs.Responder.{session_turn, inner_refusal, is_open}
use Rattle.responder_machine.specs.Session.{Events, stage_of}
use Rattle.responder_machine.specs.Setup.{RspSetup}
use Rattle.spdm_grammar.specs.declared.messages.error_code.ErrorCode.{ErrorCode}
use Rattle.spdm_grammar.specs.declared.told.phase.Stage.{Stage}
use Rattle.spdm_grammar.specs.declared.told.phase.Stage.TheVariants.{Handshake, Open, Verifying}
use Rattle.responder_session.proofs.Contents.{inner-data, inner-refused, inner-spoken, turn-misfit}
use Rattle.responder_session.specs.RequestEffects.{IsDeed, IsInnerDeed}
use Rattle.responder_session.specs.declared.request_effect.RequestEffect.{RequestEffect}
use Rattle.responder_session.specs.declared.request_effect.RequestEffect.TheVariants as deed

-- An SPDM message: its turn is that of the message after the type.
five : (n : ℕ) (inner : List ℕ) → n ≡ slice_index inner 0 → n ≡ 5 → (slice_index inner 0 == 5) ≡ true
five n inner is same = (let e : slice_index inner 0 ≡ 5 = sym is ∙ same in grind (arith, nat_tests))

other : (n : ℕ) (inner : List ℕ) → n ≡ slice_index inner 0 → (n ≡ 5 → ⊥) → (slice_index inner 0 == 5) ≡ false
other n inner is not_same = by_test (slice_index inner 0 == 5) (slice_index inner 0) (λ e. not_same (is ∙ e)) refl
  where
    by_test : (b : Bool) (x : ℕ) → (x ≡ 5 → ⊥) → (x == 5) ≡ b → b ≡ false
    by_test true x h e = absurd (h (grind (arith, nat_tests)))
    by_test false x h e = refl

refuses : (s : Events) (stage : Stage) (inner : List ℕ) (code : Option ErrorCode) → stage ≡ stage_of s → code ≡ inner_refusal stage inner → inner_refusal (stage_of s) inner ≡ code
refuses s stage inner code at is = ap (λ (x : Stage). inner_refusal x inner) (sym at) ∙ sym is

pub spoken : (r : RspSetup) (s : Events) (f : Free) (stage : Stage) (inner m : List ℕ) (n : ℕ) → stage ≡ stage_of s → None ≡ inner_refusal stage inner → n ≡ slice_index inner 0 → n ≡ 5 → m ≡ drop 1 inner
    → session_turn r s inner f ≡ turn_of r (session_place s) m f
spoken r s f stage inner m n at h is same behind =
    inner-spoken r s inner f (refuses s stage inner None at h) (five n inner is same) ∙ ap (λ (x : List ℕ). turn_of r (session_place s) x f) (sym behind)

-- Application data that is not refused has at most 1,024 bytes, and comes where the session is open.
few : (empty five one opens long : Bool)
    → first_of_tests ((empty, InvalidRequest) ∷ (not (five || one), InvalidRequest) ∷ (one && not opens, UnexpectedRequest) ∷ (one && long, RequestTooLarge) ∷ []) ≡ None
    → five ≡ false → (long ≡ false) × (opens ≡ true)
few true five one opens long h k = absurd (none-some InvalidRequest (sym h))
few false true one opens long h k = absurd (cc)
few false false false opens long h k = absurd (none-some InvalidRequest (sym h))
few false false true true true h k = absurd (none-some RequestTooLarge (sym h))
few false false true true false h k = (refl, refl)
few false false true false long h k = absurd (none-some UnexpectedRequest (sym h))

opens : (stage : Stage) → is_open stage ≡ true → stage ≡ Open
opens Handshake h = absurd (cc)
opens Open h = refl
opens Verifying h = absurd (cc)

data_fits : (inner : List ℕ) → nat_lt 1025 (length inner) ≡ false → length (drop 1 inner) ≤ 1024
data_fits inner h = (let short : length inner ≤ 1025 = grind (arith, nat_tests) in omega (arith, length-drop 1 inner))

known : (stage : Stage) (inner : List ℕ) (n : ℕ) → None ≡ inner_refusal stage inner → n ≡ slice_index inner 0 → (n ≡ 5 → ⊥) → (nat_lt 1025 (length inner) ≡ false) × (is_open stage ≡ true)
known stage inner n h is not_same = few (length inner == 0) (slice_index inner 0 == 5) (slice_index inner 0 == 1) (is_open stage) (nat_lt 1025 (length inner)) (sym h) (other n inner is not_same)

pub data_in_open : (s : Events) (stage : Stage) (inner : List ℕ) (n : ℕ) → stage ≡ stage_of s → None ≡ inner_refusal stage inner → n ≡ slice_index inner 0 → (n ≡ 5 → ⊥) → stage_of s ≡ Open
data_in_open s stage inner n at h is not_same = sym at ∙ opens stage (known stage inner n h is not_same).1

pub data_deed : (r : RspSetup) (s : Events) (f : Free) (stage : Stage) (inner out : List ℕ) (n : ℕ) → stage ≡ stage_of s → None ≡ inner_refusal stage inner → n ≡ slice_index inner 0 → (n ≡ 5 → ⊥)
    → out ≡ f.reply → IsInnerDeed r s f inner (drop 1 inner) out deed.Data
data_deed r s f stage inner out n at h is not_same written = record {
  turn = inner-data r s inner f (refuses s stage inner None at h) (other n inner is not_same);
  fit = (data_in_open s stage inner n at h is not_same, data_fits inner (known stage inner n h is not_same).0, written);
}

-- What the message does is what the inner message does.
pub inner_deed : (r : RspSetup) (s : Events) (f : Free) (inner m out : List ℕ) (does : RequestEffect) → m ≡ drop 1 inner → session_turn r s inner f ≡ turn_of r (session_place s) m f
    → IsDeed r s f m out does → IsInnerDeed r s f inner (drop 1 inner) out does
inner_deed r s f inner m out does behind turn d =
    subst (λ (x : List ℕ). IsInnerDeed r s f inner x out does) behind (record { turn = turn ∙ d.turn; fit = d.fit })

-- It is refused before it is read, or for its form.
pub refused_inner : (r : RspSetup) (s : Events) (f : Free) (stage : Stage) (inner m out : List ℕ) (code : ErrorCode) (does : RequestEffect) → stage ≡ stage_of s → Some code ≡ inner_refusal stage inner → m ≡ drop 1 inner
    → does ≡ deed.Refused code → out ≡ error_bytes r (session_place s) m f code → IsInnerDeed r s f inner (drop 1 inner) out does
refused_inner r s f stage inner m out code does at h behind is written =
    subst (λ (d : RequestEffect). IsInnerDeed r s f inner (drop 1 inner) out d) (sym is)
    (record { turn = inner-refused r s inner f code (refuses s stage inner (Some code) at h); fit = written ∙ ap (λ (x : List ℕ). error_bytes r (session_place s) x f code) behind })

pub misfit_inner : (r : RspSetup) (s : Events) (f : Free) (inner m out : List ℕ) (code : ErrorCode) (does : RequestEffect) → m ≡ drop 1 inner → session_turn r s inner f ≡ turn_of r (session_place s) m f
    → refused_form r (session_place s) m ≡ Some code → does ≡ deed.Refused code → out ≡ error_bytes r (session_place s) m f code → IsInnerDeed r s f inner (drop 1 inner) out does
misfit_inner r s f inner m out code does behind turn h is written =
    subst (λ (d : RequestEffect). IsInnerDeed r s f inner (drop 1 inner) out d) (sym is) (subst (λ (x : List ℕ). IsInnerDeed r s f inner x out (deed.Refused code)) behind
    (record { turn = turn ∙ turn-misfit r (session_place s) m f code h; fit = written }))
