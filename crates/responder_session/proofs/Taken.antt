-- What comes of a record that a session takes.
use Rattle.std.proofs.Common.{◌≡◌, ◌∙◌, ap, sym, subst, refl, ℕ, List, ◌∷◌, Bool, true, false, inl, inr}
use Rattle.std.specs.Prelude.{None, Option}
use Rattle.responder_machine.specs.Answer.{Free}
use Rattle.responder_machine.specs.History.{KeptRecord}
use Rattle.responder_machine.specs.Records.{opening_fault, opened, reply_record}
use Rattle.responder_machine.specs.Responder.{session_turn, inner_reply, repeats}
use Rattle.responder_machine.specs.Session.{Events, id_bytes, last_of, session_terms}
use Rattle.responder_machine.specs.Session.Event.{Heard}
use Rattle.responder_machine.specs.Setup.{RspSetup}
use Rattle.responder_machine.specs.SizeLaws.{HasSizes}
use Rattle.responder_machine.specs.Turn.{Turn, takes}
use Rattle.spdm_grammar.specs.declared.names.request_code.TheConstants.{END_SESSION}
use Rattle.responder_session.specs.RequestEffects.{is_whole, turn_for}
use Rattle.responder_session.specs.EndedTook.{IsEndedStill}
use Rattle.responder_session.specs.Kept.{Keeps, kept_record}
use Rattle.responder_session.specs.Session.{StandsFor, IsEnded}
use Rattle.responder_session.specs.Took.{IsAfter, IsMoved, IsSessionAfter, IsStateOf, IsTold, act_of}
use Rattle.responder_session.specs.declared.request_effect.RequestEffect.{RequestEffect}
use Rattle.responder_session.specs.declared.request_effect.RequestEffect.TheVariants as deed
use Rattle.responder_session.specs.declared.kept.Kept.{Kept}
use Rattle.responder_session.specs.declared.session.RspSession.{RspSession}
use Rattle.responder_session.specs.declared.told.RspAct.{RspAct}
use Rattle.responder_session.specs.declared.told.RspTold.TheVariants as told
use Rattle.responder_session.specs.declared.took.RspState.{RspState}
use Rattle.responder_session.specs.declared.took.RspState.TheVariants as state

-- The record is the last one as what is kept says so.
pub repeats_kept : (kept : Kept) (psk : List ℕ) (s : Events) (sealed : List ℕ) (b : Bool) → Keeps kept psk s → b ≡ repeats (kept_record kept.last) sealed → repeats (last_of s) sealed ≡ b
repeats_kept kept psk s sealed b keeps is = ap (λ (x : Option KeptRecord). repeats x sealed) (sym keeps.last) ∙ sym is

-- A turn of its inner message is the turn of the record.
pub taken : (r : RspSetup) (s : Events) (f : Free) (sealed inner pad : List ℕ) (t : Turn) (after : RspSession) (act : RspAct)
    → repeats (last_of s) sealed ≡ false → opening_fault r.psk s sealed ≡ None → inner ≡ opened r.psk s sealed → session_turn r s inner f ≡ t → f.pad ≡ pad
    → IsMoved r.psk s sealed t pad after act → IsTold r s f sealed after (told.Moved act)
taken r s f sealed inner pad t after act other unfaulted is turn padded (stands, told) =
    let same : t ≡ session_turn r s (opened r.psk s sealed) f = sym turn ∙ ap (λ (x : List ℕ). session_turn r s x f) is in (
      other,
      unfaulted,
      subst (λ (u : Turn). IsSessionAfter after r.psk s sealed u (reply_record r.psk s u (inner_reply u) f.pad)) same
          (subst (λ (x : List ℕ). IsSessionAfter after r.psk s sealed t (reply_record r.psk s t (inner_reply t) x)) (sym padded) stands),
      told ∙ ap act_of same,
    )

-- The turn of what a message does.
pub moved_by : (r : RspSetup) (s : Events) (f : Free) (message answer sealed pad : List ℕ) (d x : RequestEffect) (after : RspSession) (act : RspAct) → d ≡ x
    → IsMoved r.psk s sealed (turn_for r s f message answer x) pad after act → IsMoved r.psk s sealed (turn_for r s f message answer d) pad after act
moved_by r s f message answer sealed pad d x after act is h = subst (λ (y : RequestEffect). IsMoved r.psk s sealed (turn_for r s f message answer y) pad after act) (sym is) h

-- ---- A session as a state.

pub live_after : (state : RspState) (r : RspSetup) (s : Events) (sealed : List ℕ) (t : Turn) (reply : List ℕ) → takes END_SESSION t ≡ false
    → IsStateOf state r (Heard sealed t reply ∷ s) → IsAfter state r s sealed t reply
live_after (state.Handshake h) r s sealed t reply other x = (other, x)
live_after (state.Open o) r s sealed t reply other x = (other, x)
live_after (state.Verifying v) r s sealed t reply other x = (other, x)
live_after (state.Ended e) r s sealed t reply other x = absurd x

pub ended_after : (state : RspState) (r : RspSetup) (s : Events) (sealed : List ℕ) (t : Turn) (reply : List ℕ) → takes END_SESSION t ≡ true
    → IsEndedStill (id_bytes s) sealed reply state → IsAfter state r s sealed t reply
ended_after (state.Handshake h) r s sealed t reply ends x = absurd x
ended_after (state.Open o) r s sealed t reply ends x = absurd x
ended_after (state.Verifying v) r s sealed t reply ends x = absurd x
ended_after (state.Ended e) r s sealed t reply ends x = (ends, x)

pub state_after : (session : RspSession) (state : RspState) (r : RspSetup) (s : Events) (sealed : List ℕ) (t : Turn) (reply : List ℕ)
    → HasSizes r (session_terms s).common
    → ((r : RspSetup) (s : Events) → HasSizes r (session_terms s).common → StandsFor session r.psk s → IsStateOf state r s)
    → ((id old answer : List ℕ) → IsEnded session id old answer → IsEndedStill id old answer state)
    → IsSessionAfter session r.psk s sealed t reply → IsAfter state r s sealed t reply
state_after session state r s sealed t reply sizes live ends (inl (other, x)) = live_after state r s sealed t reply other (live r (Heard sealed t reply ∷ s) sizes x)
state_after session state r s sealed t reply sizes live ends (inr (is, x)) = ended_after state r s sealed t reply is (ends (id_bytes s) sealed reply x)

-- ---- Deeds but one.

pub whole_but : (d : RequestEffect) → ((op handle : ℕ) → d ≡ deed.Large op handle → ⊥) → is_whole d ≡ true
whole_but (deed.Large op handle) other = absurd (other op handle refl)
whole_but _ other = refl
