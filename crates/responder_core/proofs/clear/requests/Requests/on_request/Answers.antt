use Rattle.std.proofs.Common.{refl, ◌≡◌, ◌∙◌, ap, sym, subst, List, ℕ}
use Rattle.responder_core.proofs.Chunked.{standing_now, turned_plain, turned_refused}
use Rattle.std.specs.Prelude.{◌==◌}
use Rattle.responder_core.proofs.Draws.{draws_beside, plain_draws}
use Rattle.responder_machine.specs.Refusal.{code_of}
use Rattle.spdm_grammar.specs.declared.names.request_code.TheConstants.{GET_MEASUREMENTS}
use Rattle.responder_core.proofs.NoExchange.{plain_takes_none}
use Rattle.responder_core.specs.Coming.{Seen, StandsFor}
use Rattle.responder_core.specs.ClearState as standing
use Rattle.responder_core.specs.ClearState.{place_at}
use Rattle.responder_machine.specs.Place.{Place}
use Rattle.responder_machine.specs.Place.Where.{InClear}
use Rattle.responder_core.proofs.clear.requests.Requests.on_request.Goals as goal
use Rattle.responder_machine.specs.Handling.{plain_turn}
use Rattle.spdm_grammar.specs.Message.{exchange_message}

pub returns-in-Refused-clause-come : goal.returns-in-Refused-clause-come
returns-in-Refused-clause-come c = λ r turns f setup free stands.
    let before : Seen = record { standing = c.self.inside.standing; collector = c.self.inside.collector; whole = c.self.inside.whole } in
    let same : c.args.self.now ≡ before = sym c.self.view_is in
    let stood = subst (λ (s : Seen). StandsFor s r turns) same stands in
    let handled = c.in-Refused.ensures.handled r turns f setup free stood.standing tt in
    let now = subst (λ (s : standing.Seen). StandsFor (standing_now before s) r turns) (sym handled.1) stood in
    turned_refused r InClear turns c.args.held c.args.message.now f c.in-Refused.code (standing_now before c.handle.new.self) c.handle.new.out handled.0 now handled.2

pub returns-in-Exchange-clause-come : goal.returns-in-Exchange-clause-come
returns-in-Exchange-clause-come c = λ r turns f setup free stands.
    let before : Seen = record { standing = c.self.inside.standing; collector = c.self.inside.collector; whole = c.self.inside.whole } in
    let same : c.args.self.now ≡ before = sym c.self.view_is in
    let stood = subst (λ (s : Seen). StandsFor s r turns) same stands in
    let handled = c.in-Exchange.ensures.handled r turns f setup free stood.standing tt in
    record {
      exchange = exchange_message c.in-Exchange.field-0;
      form = handled.0;
      asked_is = handled.2;
      refused = handled.1;
      stands = subst (λ (s : standing.Seen). StandsFor (standing_now before s) r turns) (sym handled.3) stood;
    }

pub returns-in-Answered-clause-come : goal.returns-in-Answered-clause-come
returns-in-Answered-clause-come c = λ r turns f setup free stands.
    let p : Place = place_at InClear turns c.args.held in
    let m : List ℕ = c.args.message.now in
    let before : Seen = record { standing = c.self.inside.standing; collector = c.self.inside.collector; whole = c.self.inside.whole } in
    let same : c.args.self.now ≡ before = sym c.self.view_is in
    let stood = subst (λ (s : Seen). StandsFor s r turns) same stands in
    let handled = c.in-Answered.ensures.handled r turns f setup free stood.standing tt in
    let now : Seen = record { standing = c.handle.new.self; collector = c.clear.new.self; whole = c.self.inside.whole } in (
      turned_plain r InClear turns c.args.held m f now c.handle.new.out handled.0 handled.1 (handled.2 (plain_turn r p m f) refl refl) c.clear.ensures.stands (c.clear.ensures.max ∙ stood.max) handled.3,
      plain_takes_none r p m f handled.0 handled.1 handled.4,
      ap (λ (n : ℕ). n == GET_MEASUREMENTS) handled.5 ∙ sym (plain_draws r p m f handled.0 handled.1 ∙ draws_beside (code_of m) handled.4),
      handled.5,
    )
