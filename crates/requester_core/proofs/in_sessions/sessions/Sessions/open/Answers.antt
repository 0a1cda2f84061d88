use Rattle.std.proofs.Common.{refl, ◌∷◌, ◌∙◌, List, ℕ, ap, subst, sym}
use Rattle.std.specs.Prelude.{◌==◌, not}
use Rattle.requester_core.proofs.SessionsBegun.{open_request, open_terms, opens}
use Rattle.requester_core.specs.ClearState.{Seen}
use Rattle.psk_session.specs.Opening as opening
use Rattle.requester_machine.specs.Commands.{exchange_for}
use Rattle.requester_machine.specs.History.{History, negotiation_of}
use Rattle.requester_machine.specs.History.Entry.{Told}
use Rattle.requester_machine.specs.Message.Command.{Open}
use Rattle.session_keys.specs.Terms.{AreTermsOf}
use Rattle.session_keys.specs.declared.terms.SessionTerms.{SessionTerms}
use Rattle.spdm_grammar.specs.Requests.{canonical_request}
use Rattle.requester_core.proofs.in_sessions.sessions.Sessions.open.Goals as goal

pub returns : goal.returns
returns c = λ q h f d sent key its adds told stands.
    let summary : ℕ = c.args.summary in
    let later : History = Told (Open summary) sent d ∷ h in
    let n = negotiation_of h in
    let x = canonical_request (exchange_for q f summary) in
    let request = c.request.ensures.value ∙ ap (λ (s : Seen). s.outgoing.request) c.clear_state.view_is ∙ open_request c.args.clear_state.now q h f d sent summary adds told.shows in
    let terms : SessionTerms = record { choice = c.choice.result; common = c.common.result.now; summary = not (summary == 0); req_id = c.args.id } in
    let are = open_terms q h f summary c.args.id terms its c.requires.most (c.choice.ensures later told.shows) (c.common.ensures later told.shows) refl refl in
    let begins = c.start-state.ensures.stands n (c.vca.ensures later told.shows) (subst (λ (e : List ℕ). AreTermsOf terms n e) (sym request) are) in
    let stands_for = subst (λ (k : List ℕ). opening.StandsFor c.start-state.result k n x) (sym key) (subst (λ (e : List ℕ). opening.StandsFor c.start-state.result c.args.psk.now n e) request begins) in
    opens c.args.self.now c.put.new.self q h f d sent summary c.args.id c.start-state.result its adds stands stands_for c.put.ensures.own c.put.ensures.others c.put.ensures.id
