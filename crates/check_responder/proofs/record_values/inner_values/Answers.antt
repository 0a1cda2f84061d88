use Rattle.std.proofs.Common.{◌≡◌, ◌∙◌, ◌==◌, sym, subst, cond, drop, List, ℕ, Bool, true, false}
use Rattle.std.proofs.lemmas.Bool.{eq-eqb, ne_eqb}
use Rattle.std.specs.Prelude.{slice_index}
use Rattle.responder_core.specs.Free.{IsFree}
use Rattle.responder_machine.specs.Place.{session_place}
use Rattle.check_responder.specs.JudgedResponder.{AreRead}
use Rattle.check_laws.specs.AnswersShown.{values_in}
use Rattle.check_responder.proofs.record_values.inner_values.Goals as goal

pub returns-then-byte_at-eq-APP_DATA : goal.returns-then-byte_at-eq-APP_DATA
returns-then-byte_at-eq-APP_DATA c = λ r s f set at free short.
    let inner = c.args.inner.now in
    let m : List ℕ = drop 1 c.args.request.now in
    let is : (slice_index inner 0 == 1) ≡ true = eq-eqb (slice_index inner 0) 1 (sym c.byte_at.ensures ∙ c.if-byte_at-eq-APP_DATA.true) in
    subst (λ (b : Bool). IsFree c.with_reply.result (cond b (record f { reply = drop 1 inner }) (values_in r (session_place s) m f (drop 1 inner)))) (sym is)
    (subst (λ (l : List ℕ). IsFree c.with_reply.result (record f { reply = l })) c.behind_type.ensures (c.with_reply.ensures f free))

pub returns : goal.returns
returns c = λ r s f set at free short.
    let inner = c.args.inner.now in
    let m : List ℕ = drop 1 c.args.request.now in
    let p = session_place s in
    let is : (slice_index inner 0 == 1) ≡ false = ne_eqb (slice_index inner 0) 1 (λ e. c.if-byte_at-eq-APP_DATA.false (c.byte_at.ensures ∙ e)) in
    subst (λ (b : Bool). AreRead r p m (cond b (record f { reply = drop 1 inner }) (values_in r p m f (drop 1 inner))) c.values_in.result) (sym is)
    (subst (λ (l : List ℕ). AreRead r p m (values_in r p m f l) c.values_in.result) c.behind_type-3.ensures
    (subst (λ (l : List ℕ). AreRead r p l (values_in r p l f c.behind_type-3.result.now) c.values_in.result) c.behind_type-2.ensures (c.values_in.ensures r p f set at free short)))
