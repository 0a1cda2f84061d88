use Rattle.std.proofs.Common.{Some, ◌≡◌, ◌++◌, sym, ap, subst, refl, ◌∙◌, ℕ, List, drop, arith}
use Rattle.key_schedule.specs.Keys.{DirectionSecret}
use Rattle.key_schedule.specs.Purpose.{application_record}
use Rattle.key_schedule.specs.declared.direction.Direction.TheVariants.{Request, Response}
use Rattle.requester_machine.specs.Session.{response_epoch, t1_of, t2_of}
use Rattle.running_hash.specs.Hash.{hash_of}
use Rattle.spdm_basis.specs.declared.values.hash_alg.HashAlg.{HashAlg}
use Rattle.spdm_grammar.specs.declared.messages.choice.Choice.{Choice}
use Rattle.spdm_machine.specs.Terms.{terms_of}
use Rattle.transcript.specs.Transcripts.{vca_of}
use Rattle.psk_session.specs.Finished.{finished_by}
use Rattle.psk_session.specs.Finishing.{Seen, StandsFor, finish_message}
use Rattle.session_keys.specs.Keys.{IsKeyOf}
use Rattle.psk_session.specs.Kept.{Keeps}
use Rattle.psk_session.specs.Opening.{accepted, finishing}
use Rattle.psk_session.specs.Told.{told_of}
use Rattle.psk_session.specs.declared.kept.Kept.{Kept}
use Rattle.psk_session.specs.declared.session_told.SessionTold.{SessionTold}
use Rattle.psk_session.proofs.finishing.Finishing.finish.Goals as goal

pub returns : goal.returns
unfolding told_of
returns c = λ psk n exchange answer pad sealed stands held.
    let inside = subst (λ (x : Seen). StandsFor x psk n exchange answer pad) (sym c.self.view_is) stands in
    let after = finished_by psk (finishing psk n exchange answer pad) sealed in
    let t1 = t1_of (accepted n exchange answer) in
    let t2 = t2_of (finished_by psk (finishing psk n exchange answer pad) sealed) in
    let before = vca_of n ++ exchange ++ answer ++ finish_message psk n exchange answer in
    let th2 : c.finish-th2.result ≡ (hash_of (terms_of n).choice.hash).digest t2 =
    c.finish-th2.ensures.value (before ++ c.behind_type.result.now) (c.lane_with.ensures.pushed before inside.pushed)
    ∙ ap (λ (h : HashAlg). (hash_of h).digest (before ++ c.behind_type.result.now)) (c.lane_with.ensures.hash ∙ c.self.invariant.0 ∙ ap (λ (x : Choice). x.hash) inside.terms.choice)
    ∙ ap (λ (m : List ℕ). (hash_of (terms_of n).choice.hash).digest (before ++ m)) (c.behind_type.ensures ∙ ap (λ (m : List ℕ). drop 1 m) held) in
    record {
      stage = refl;
      keeps = subst (λ (x : Kept). Keeps x psk after (response_epoch after)) (sym c.new-3.ensures.kept) (record {
        past = refl;
        choice = inside.terms.choice;
        common = inside.terms.common;
        id = inside.id;
        request = subst (λ (k : DirectionSecret). IsKeyOf k (terms_of n).choice (application_record psk t2 Request 0)) (sym c.new.ensures)
            (c.app_keys-keys.ensures.request (terms_of n).choice psk t1 t2 inside.handshake th2);
        response = subst (λ (k : DirectionSecret). IsKeyOf k (terms_of n).choice (application_record psk t2 Response 0)) (sym c.new-2.ensures)
            (c.app_keys-keys.ensures.response (terms_of n).choice psk t1 t2 inside.handshake th2);
        request_next = refl;
        response_next = refl;
        taken = λ _. refl;
        th2 = th2;
        told = inside.told ∙ ap (λ (t : SessionTold). Some t) (sym c.copy.ensures);
      });
      few = (omega arith, omega arith);
      brought = c.new-3.ensures.brought;
    }
