-- What is shown of a record of which this is told, and what is kept after it.
use Rattle.std.proofs.Common.{◌≡◌, ◌∙◌, ◌+◌, ◌-◌, ℕ, List, length, refl, sym, ap, slice_set}
use Rattle.std.specs.Prelude.{Option, Some, None}
use Rattle.capture_records.specs.Heard.{Heard, IsTold, IsToldBy, after_told}
use Rattle.capture_records.specs.Keyed.{Keyed}
use Rattle.capture_records.specs.Opening.{IsInner, after_opening}
use Rattle.capture_records.specs.Showing.{after_at, inner_told, no_session, seen_as, seen_at, seen_in, seen_told, session_after, shown_told}
use Rattle.capture_records.specs.Showing.Seen.{Open}
use Rattle.capture_records.specs.declared.dialogue.RecordTold.{RecordTold}
use Rattle.capture_records.specs.declared.dialogue.RecordTold.TheVariants.{InSession, NoSession}
use Rattle.capture_records.specs.declared.opening.Opening.{Opening}
use Rattle.capture_records.specs.declared.opening.Opening.TheVariants.{Opened, Shut}
use Rattle.key_schedule.specs.declared.direction.Direction.{Direction}
use Rattle.secured_record.specs.declared.TheConstants.{MIN_RECORD_SIZE}
use Rattle.spdm_basis.specs.declared.SessionId.{SessionId}

module _ (sealed out : List ℕ) (direction : Direction) where
  module _ (s : Keyed) (psk : List ℕ) where
    -- by the inner message that was put down
    shown_so : (id : SessionId) (t : Opening) → IsInner s psk direction sealed t out → seen_as (shown_told sealed (InSession id t) (length out)) out ≡ seen_told sealed t (inner_told s psk direction sealed t)
    shown_so id (Shut fault) is = refl
    shown_so id (Opened keys) is = ap (λ (inner : List ℕ). Open keys (length sealed - (MIN_RECORD_SIZE + length inner)) inner) is

    kept_so : (t : Opening) → IsInner s psk direction sealed t out → after_opening s direction t out ≡ after_opening s direction t (inner_told s psk direction sealed t)
    kept_so (Shut fault) is = refl
    kept_so (Opened keys) is = ap (after_opening s direction (Opened keys)) is

    shown_by : (told : RecordTold) → IsToldBy s psk direction sealed told out → seen_as (shown_told sealed told (length out)) out ≡ seen_in s psk direction sealed
    shown_by NoSession is = absurd is
    shown_by (InSession id t) is = shown_so id t is.2 ∙ ap (λ (o : Opening). seen_told sealed o (inner_told s psk direction sealed o)) is.1

    kept_by : (told : RecordTold) → IsToldBy s psk direction sealed told out → after_told s direction told out ≡ session_after s psk direction sealed
    kept_by NoSession is = absurd is
    kept_by (InSession id t) is = kept_so t is.2 ∙ ap (λ (o : Opening). after_opening s direction o (inner_told s psk direction sealed o)) is.1

  pub shown_told_of : (h : Heard) (place : Option ℕ) (told : RecordTold) (left : Heard) → IsTold h direction sealed place told out left → seen_as (shown_told sealed told (length out)) out ≡ seen_at h direction sealed place
  shown_told_of h None told left is = ap (λ (t : RecordTold). seen_as (shown_told sealed t (length out)) out) is.0
  shown_told_of h (Some place) told left is =
      shown_by is.session h.psk told is.is ∙ ap (λ (s : Keyed). seen_in s h.psk direction sealed) (sym (is.there no_session))

  pub kept_told_of : (h : Heard) (place : Option ℕ) (told : RecordTold) (left : Heard) → IsTold h direction sealed place told out left → left ≡ after_at h direction sealed place
  kept_told_of h None told left is = is.1
  kept_told_of h (Some place) told left is =
      is.after
      ∙ ap (λ (s : Keyed). record h { sessions = slice_set h.sessions place s })
      (kept_by is.session h.psk told is.is ∙ ap (λ (s : Keyed). session_after s h.psk direction sealed) (sym (is.there no_session)))
