use Rattle.std.proofs.Common.{◌≡◌, ◌∙◌, sym, subst, ℕ, List}
use Rattle.std.proofs.lemmas.Option.{same_Some}
use Rattle.responder_machine.specs.Session.{stage_of}
use Rattle.responder_session.specs.RequestEffects.{IsInnerDeed, turn_for}
use Rattle.responder_session.proofs.Taken.{repeats_kept, taken}
use Rattle.responder_session.proofs.session.RspSession.take_with.Goals as goal

pub returns-clause-live : goal.returns-clause-live
returns-clause-live c = λ r s f sizes padded blocks given stands.
    let at : c.in-Some.stage ≡ stage_of s = same_Some c.in-Some.stage (stage_of s) (sym c.in-Some.is ∙ stands.stage) in
    let inner = c.as_slice-inner.result.now in
    let message = c.behind_type.result.now in
    let out = c.judge-deed.new.out in
    let does = c.judge-deed.result in
    let opened = subst (λ (x : List ℕ). IsInnerDeed r s f inner x out does) (sym c.behind_type.ensures) (c.judge-deed.ensures r s f sizes blocks given stands at) in
    taken r s f c.args.sealed.now inner c.args.free.now.pad.now (turn_for r s f message out does) c.apply.new.self c.apply.result
    (repeats_kept c.args.self.now.kept r.psk s c.args.sealed.now _ stands.keeps c.if-repeats.ensures)
    (c.in_default-open.ensures.fault r.psk s stands.keeps)
    (c.as_slice-inner.ensures.value ∙ c.in_default-open.ensures.inner r.psk s stands.keeps)
    opened.turn padded (c.apply.ensures r s f stands sizes opened.fit)
