use Rattle.std.proofs.Common.{refl, ◌≡◌, ◌≤◌, ◌∙◌, subst, sym, ℕ, List, None, length}
use Rattle.requester_core.proofs.Awaited.{in_clear, in_session, nothing_waits}
use Rattle.requester_core.proofs.WholeBodies.{clear_gathers, clear_heard, faulty, hears_clear, nothing_heard, session_gathers, session_heard, short_body}
use Rattle.requester_core.specs.Gathering.{Gathered}
use Rattle.requester_core.specs.ReplyOutcome.{IsTaken}
use Rattle.spdm_grammar.specs.declared.names.TheConstants.{MAX_MESSAGE_SIZE}
use Rattle.requester_core.specs.Hearing.{IsHeard, IsRegathered, heard_of}
use Rattle.requester_core.specs.ClearState.{Seen, StandsFor}
use Rattle.requester_core.specs.declared.clear.body_outcome.BodyOutcome as seen_heard
use Rattle.requester_core.specs.declared.clear.outstanding.PendingRequest.{PendingRequest}
use Rattle.requester_machine.specs.Bodies.{body_fault, is_clear}
use Rattle.requester_machine.specs.History.{outstanding}
use Rattle.requester_core.proofs.clear.clear_state.ClearState.on_body.Goals as goal

pub returns-in-Some-clause-heard : goal.returns-in-Some-clause-heard
returns-in-Some-clause-heard c = λ q h setup stands gathers. (faulty q h c.args.owner c.args.tag c.args.body.now c.in-Some.cause (sym (c.in-Some.ensures q h setup stands.shows)), refl)

pub returns-in-Nothing-clause-heard : goal.returns-in-Nothing-clause-heard
returns-in-Nothing-clause-heard c = λ q h setup stands gathers.
    let before : Seen = record { negotiating = c.self.inside.negotiating; outgoing = c.self.inside.outgoing; brought = c.self.inside.brought } in
    let stood = subst (λ (s : Seen). StandsFor s q h) (sym c.self.view_is) stands in
    let none : body_fault q (outstanding h) c.args.owner c.args.tag c.args.body.now ≡ None = sym (c.in_default.ensures q h setup stands.shows) in
    (nothing_heard q h c.args.owner c.args.tag c.args.body.now (nothing_waits (outstanding h) (c.in-Nothing.ensures ∙ stood.shows.outgoing.waiting)) none, refl)

pub returns-in-InSession-clause-heard : goal.returns-in-InSession-clause-heard
returns-in-InSession-clause-heard c = λ q h setup stands gathers.
    let before : Seen = record { negotiating = c.self.inside.negotiating; outgoing = c.self.inside.outgoing; brought = c.self.inside.brought } in
    let stood = subst (λ (s : Seen). StandsFor s q h) (sym c.self.view_is) stands in
    let none : body_fault q (outstanding h) c.args.owner c.args.tag c.args.body.now ≡ None = sym (c.in_default.ensures q h setup stands.shows) in
    let waits = in_session (outstanding h) c.in-InSession.tag c.in-InSession.id (c.in-InSession.ensures ∙ stood.shows.outgoing.waiting) in
    subst (λ (r : seen_heard.BodyOutcome). IsHeard q h c.args.owner c.args.tag c.args.body.now r c.args.self.now c.args.self.now c.args.out.now) (sym c.in_session.ensures)
    (session_heard q h c.args.owner c.args.tag c.args.body.now waits.sent c.in-InSession.id waits.of.0 c.args.self.now c.args.out.now waits.is none waits.of.1)

pub returns-in-InSession-clause-gathered : goal.returns-in-InSession-clause-gathered
returns-in-InSession-clause-gathered c = λ q h setup stands gathers.
    subst (λ (r : seen_heard.BodyOutcome). IsRegathered q h c.args.owner c.args.tag c.args.body.now r c.args.gathered.now c.args.gathered.now) (sym c.in_session.ensures)
    (session_gathers q h c.args.owner c.args.tag c.args.body.now c.in-InSession.id c.args.gathered.now (is_clear c.args.body.now))

pub returns-in-InClear-clause-heard : goal.returns-in-InClear-clause-heard
returns-in-InClear-clause-heard c = λ q h setup stands gathers.
    let before : Seen = record { negotiating = c.self.inside.negotiating; outgoing = c.self.inside.outgoing; brought = c.self.inside.brought } in
    let stood = subst (λ (s : Seen). StandsFor s q h) (sym c.self.view_is) stands in
    let owner = c.args.owner in
    let tag = c.args.tag in
    let body = c.args.body.now in
    let none : body_fault q (outstanding h) owner tag body ≡ None = sym (c.in_default.ensures q h setup stands.shows) in
    let waits = in_clear (outstanding h) c.in-InClear.tag c.in-InClear.asked c.in-InClear.mode (c.in-InClear.ensures ∙ stood.shows.outgoing.waiting) in
    let short = subst (λ (x : List ℕ). length x ≤ MAX_MESSAGE_SIZE) (sym c.message_in.ensures) (short_body q h owner tag body waits.sent waits.request setup.sizes waits.is none waits.asks) in
    let taken = subst (λ (x : List ℕ). IsTaken q h waits.sent waits.request x c.on_clear.result c.args.self.now c.on_clear.new.self c.on_clear.new.out) c.message_in.ensures
    (c.on_clear.ensures.taken q h waits.sent waits.request setup stands waits.is gathers waits.asks short) in
    subst (λ (r : seen_heard.BodyOutcome). IsHeard q h owner tag body r c.args.self.now c.on_clear.new.self c.on_clear.new.out) (sym c.heard.ensures)
    (subst (λ (a : PendingRequest). IsHeard q h owner tag body (heard_of a c.on_clear.result) c.args.self.now c.on_clear.new.self c.on_clear.new.out) waits.kind
    (clear_heard q h owner tag body waits.sent waits.request c.on_clear.result c.args.self.now c.on_clear.new.self c.on_clear.new.out stood.holds waits.is waits.asks (λ f d. hears_clear q h owner tag body f d waits.sent waits.request waits.is none waits.asks) taken))

pub returns-in-InClear-clause-gathered : goal.returns-in-InClear-clause-gathered
returns-in-InClear-clause-gathered c = λ q h setup stands gathers.
    let before : Seen = record { negotiating = c.self.inside.negotiating; outgoing = c.self.inside.outgoing; brought = c.self.inside.brought } in
    let stood = subst (λ (s : Seen). StandsFor s q h) (sym c.self.view_is) stands in
    let owner = c.args.owner in
    let tag = c.args.tag in
    let body = c.args.body.now in
    let none : body_fault q (outstanding h) owner tag body ≡ None = sym (c.in_default.ensures q h setup stands.shows) in
    let waits = in_clear (outstanding h) c.in-InClear.tag c.in-InClear.asked c.in-InClear.mode (c.in-InClear.ensures ∙ stood.shows.outgoing.waiting) in
    let short = subst (λ (x : List ℕ). length x ≤ MAX_MESSAGE_SIZE) (sym c.message_in.ensures) (short_body q h owner tag body waits.sent waits.request setup.sizes waits.is none waits.asks) in
    let left = subst (λ (x : List ℕ). Gathered q h waits.sent waits.request x c.on_clear.result c.args.gathered.now c.on_clear.new.gathered) c.message_in.ensures
    (c.on_clear.ensures.gathered q h waits.sent waits.request setup stands waits.is gathers waits.asks short) in
    subst (λ (r : seen_heard.BodyOutcome). IsRegathered q h owner tag body r c.args.gathered.now c.on_clear.new.gathered) (sym c.heard.ensures)
    (clear_gathers q h owner tag body waits.sent waits.request c.in-InClear.asked c.on_clear.result c.args.gathered.now c.on_clear.new.gathered (λ f d. hears_clear q h owner tag body f d waits.sent waits.request waits.is none waits.asks) left)
