use Rattle.std.proofs.Common.{◌≡◌, ◌∙◌, sym, subst, refl, [], ℕ, List}
use Rattle.requester_machine.specs.Message.{Ask}
use Rattle.requester_machine.specs.Order.{stage_for}
use Rattle.requester_machine.specs.Session.{session_terms, response_epoch}
use Rattle.psk_session.specs.SessionRequest.{asked_of}
use Rattle.psk_session.specs.Course.{with_asked}
use Rattle.psk_session.specs.Kept.{Keeps}
use Rattle.psk_session.specs.ReqSession.{IsAwaiting}
use Rattle.psk_session.specs.Waiting.{Awaits, awaited_epoch}
use Rattle.psk_session.specs.declared.session_request.SessionRequest as declared
use Rattle.psk_session.specs.declared.session_request.SessionRequest.TheVariants.{Data, Beat, UpdateKey, UpdateAll, Measure, End}
use Rattle.spdm_grammar.specs.declared.told.phase.Stage.TheVariants.{Open}
use Rattle.psk_session.proofs.AskFew.{asked_few}
use Rattle.psk_session.proofs.req_session.ReqSession.make.Goals as goal

asked_when_open : (a : declared.SessionRequest) → Open ≡ stage_for (asked_of a)
asked_when_open (Data bytes) = refl
asked_when_open Beat = refl
asked_when_open UpdateKey = refl
asked_when_open UpdateAll = refl
asked_when_open (Measure op) = refl
asked_when_open End = refl

pub returns-clause-asked : goal.returns-clause-asked
returns-clause-asked c = λ psk s stands none.
    let a = asked_of c.args.ask in
    let most = (session_terms s).common.to_requester.max in
    let gathered = c.args.self.now.gathered in
    let awaits : Awaits c.awaited-awaited.result gathered most a = record {
      before = [];
      is = sym c.awaited-awaited.ensures.is;
      behind = c.awaited-awaited.ensures.behind most;
      gathered = c.awaited-awaited.ensures.gathered most gathered;
    } in
    let keeps : Keeps c.use_next_key.new.self psk s (awaited_epoch s a) =
    subst (λ (x : Ask). Keeps c.use_next_key.new.self psk s (awaited_epoch s x)) c.awaited-awaited.ensures.is (c.use_next_key.ensures psk s [] stands.keeps) in
    subst (λ (m : List ℕ). IsAwaiting c.send.new.self psk (with_asked psk s a m c.args.pad.now) a) (c.write_inner.ensures.value psk s (response_epoch s) stands.keeps)
    (c.send.ensures.sent psk s a keeps (stands.stage ∙ asked_when_open c.args.ask) stands.few.0 (asked_few s c.args.ask none stands.few) awaits)
