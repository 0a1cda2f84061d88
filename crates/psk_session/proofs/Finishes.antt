-- The record of PSK_FINISH is the next one of the accepted session.
use Rattle.std.proofs.Common.{◌≡◌, ◌∙◌, ap, ℕ, List, ◌∷◌}
use Rattle.key_schedule.specs.Purpose.{handshake_record}
use Rattle.key_schedule.specs.declared.direction.Direction.TheVariants.{Request}
use Rattle.requester_machine.specs.Records.{sealed_next}
use Rattle.requester_machine.specs.Session.{t1_of, session_id}
use Rattle.spdm_basis.specs.SessionIdBytes.{session_id_bytes}
use Rattle.spdm_basis.specs.declared.values.session_id.SessionId.{SessionId}
use Rattle.spdm_machine.specs.Keys.{sealed_of}
use Rattle.spdm_machine.specs.Terms.{terms_of}
use Rattle.transcript.specs.Transcripts.{Negotiation}
use Rattle.psk_session.specs.Finishing.{finish_message}
use Rattle.psk_session.specs.Opening.{accepted, finish_record}

pub finish_sealed : (psk : List ℕ) (n : Negotiation) (exchange answer : List ℕ) (id : SessionId) (message pad out : List ℕ)
    → id ≡ session_id (accepted n exchange answer) → message ≡ finish_message psk n exchange answer
    → out ≡ sealed_of (terms_of n).choice (handshake_record psk (t1_of (accepted n exchange answer)) Request) 0 (session_id_bytes id.req id.rsp) (5 ∷ message) pad
    → out ≡ finish_record psk (accepted n exchange answer) pad
unfolding sealed_next
finish_sealed psk n exchange answer id message pad out same finish e =
    e ∙ ap (λ (i : SessionId). sealed_of (terms_of n).choice (handshake_record psk (t1_of (accepted n exchange answer)) Request) 0 (session_id_bytes i.req i.rsp) (5 ∷ message) pad) same
    ∙ ap (λ (m : List ℕ). sealed_of (terms_of n).choice (handshake_record psk (t1_of (accepted n exchange answer)) Request) 0 (session_id_bytes (session_id (accepted n exchange answer)).req (session_id (accepted n exchange answer)).rsp) (5 ∷ m) pad) finish
