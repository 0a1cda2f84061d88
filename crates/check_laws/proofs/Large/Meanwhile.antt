-- What is there beside a large request that is in progress.
use Rattle.std.proofs.Common.{◌≡◌, ◌∷◌, ℕ, List, refl, sym, ap, ◌∙◌, subst, true, Some, None}
use Rattle.std.proofs.lemmas.Option.{none-some, same_Some}
use Rattle.requester_machine.specs.History.{History, begins_large, outstanding}
use Rattle.requester_machine.specs.History.Entry.{Told}
use Rattle.requester_machine.specs.May.{IsSetUp}
use Rattle.requester_machine.specs.Message.{Sent}
use Rattle.requester_machine.specs.Message.Command.{Connect}
use Rattle.requester_machine.specs.Owed.{with_next}
use Rattle.requester_machine.specs.Sending.{plain_sent}
use Rattle.spdm_grammar.specs.Message.RequestMessage.{GetVersion}
use Rattle.spdm_grammar.specs.Requests.{canonical_request}
use Rattle.spdm_machine.specs.Bodies.{clear_body}
use Rattle.check_laws.proofs.Connecting.{version_told}
use Rattle.check_laws.proofs.KeptParts.{it_owes, owed_is}
use Rattle.check_laws.proofs.OneWalk.{walks_alike}
use Rattle.check_laws.proofs.PairWalks.{walks_setup}
use Rattle.check_laws.specs.Keeping.{Kept}
use Rattle.capture_machine.proofs.AskersStep.{connect_body, owed}
use Rattle.capture_machine.specs.Capture.{may_begin}
use Rattle.capture_machine.specs.CapturedRequests.{Tells}
use Rattle.capture_machine.specs.Rounds.{Dialogue, following_tag, no_draw}
use Rattle.check_laws.specs.Large.Sending.{Beginning, dialogue_of, is_upon_clear}
use Rattle.check_laws.specs.Large.SendingLaws.{ConnectsSending, OwedMayBegin, SendingConnects, SendingIsAlone, whole_kept, without_due}
use Rattle.check_laws.proofs.Large.Begun.{alike_e, back, bare_e, e, owes_e, walk_e}
use Rattle.check_laws.proofs.Large.UponClear.{owed_upon}
use Rattle.check_laws.proofs.Large.Ways.{way}

pub sending_is_alone : SendingIsAlone
sending_is_alone w q older s k own keeps =
    let d : Dialogue = dialogue_of s own.begins.0 own.stands.0 in
    let walk = (own.all own.begins.0 own.stands.0 own.begins.1 own.stands.1).0 in
    let a = (walks_alike w q older d keeps.0 walk keeps.1).alike in
    let x = way d.round d.requester keeps.0.requester d.sending keeps.0.sending own.stands.0 a.askers refl in
    none-some x.other (sym keeps.2 ∙ x.sends)

pub owed_may_begin : OwedMayBegin
owed_may_begin w q older k sent asked keeps owes_it large asks =
    let d : Dialogue = e w q older k keeps in
    let are = owes_e w q older k keeps sent owes_it in
    let has = it_owes k.round d.requester d.requester None None (alike_e w q older k keeps) refl are in
    let t : Sent = has.sent in
    let one = same_Some sent _ (sym owes_it ∙ ap (λ (x : Kept). x.owed) (sym (back w q older k keeps)) ∙ owed_is d t are has.waits) in
    let upon = owed_upon w q older d t (walk_e w q older k keeps) (alike_e w q older k keeps) refl are has.waits (ap (λ (m : Sent). begins_large m.aim) (sym one) ∙ large) in
    let bare_is : with_next None d.requester ≡ k.requester = sym (owed d are) ∙ bare_e w q older k keeps in
    (sent, owes_it, subst (λ (l : History). is_upon_clear l ≡ true) bare_is upon.0, subst (λ (l : History). outstanding l ≡ None) bare_is upon.1, large, asks)

pub sending_connects : SendingConnects
sending_connects w q older s tag body set_up own = (to, back_to)
  where
    to : ((next : Kept) × ConnectsSending s tag body next) → (may_begin (Some s.round) body ≡ true) × (tag ≡ following_tag (Some s.round)) × (body ≡ clear_body (canonical_request GetVersion))
    to c = (c.1.0, c.1.1, connect_body s.before.setup (without_due s c.1.2.0 c.1.2.1) body c.1.2.2 c.1.2.5)

    back_to : (may_begin (Some s.round) body ≡ true) × (tag ≡ following_tag (Some s.round)) × (body ≡ clear_body (canonical_request GetVersion)) → (next : Kept) × ConnectsSending s tag body next
    back_to c =
        let b : Beginning = own.begins.0 in
        let v : List ℕ = own.stands.0 in
        let bare : History = without_due s b v in
        let q_is : q ≡ s.before.setup = sym (walks_setup w q older (dialogue_of s b v) (own.all b v own.begins.1 own.stands.1).0) in
        let after : History = Told Connect (plain_sent bare GetVersion) no_draw ∷ bare in
        let tells : Tells s.before.setup bare Connect body after = subst (λ (l : List ℕ). Tells s.before.setup bare Connect l after) (sym c.2) (version_told s.before.setup bare (subst IsSetUp q_is set_up)) in
        (whole_kept s after tag body, (c.0, c.1, (b, v, after, own.begins.1, own.stands.1, tells, refl)))
