use Rattle.std.proofs.Common.{◌≡◌, ◌≤◌, ◌==◌, ◌&&◌, ◌∙◌, ◌∷◌, ℕ, List, [], refl, sym, ap, subst, drop, length, arith, Bool, true, false, Option, Some, None, is_some, cond}
use Rattle.std.specs.Option.{IfSome}
use Rattle.std.specs.Prelude.{bytes_eq}
use Rattle.std.proofs.lemmas.Bool.{false≢true}
use Rattle.std.proofs.lemmas.Slice.Eq.{bytes_eq-Decides}
use Rattle.check_laws.proofs.LeastValues.{least_allowed}
use Rattle.check_laws.specs.AnswersShown.{least_values}
use Rattle.responder_core.specs.Trying.{IsTried}
use Rattle.responder_core.specs.declared.judging.dry_run.DryRun.{DryRun}
use Rattle.responder_machine.specs.Handling.{turn_of}
use Rattle.responder_machine.specs.History.{History, kept_of}
use Rattle.responder_machine.specs.History.Entry.{Clear}
use Rattle.responder_machine.specs.Place.{clear_place}
use Rattle.responder_machine.specs.Responder.{Outcome, body_of, is_repeat, kept_reply, on_clear}
use Rattle.responder_machine.specs.Responder.Outcome.{Same, Adds}
use Rattle.responder_machine.specs.Setup.{RspSetup}
use Rattle.responder_machine.specs.Answer.{Free}
use Rattle.spdm_machine.specs.Bodies.{clear_body}
use Rattle.capture_machine.specs.Rounds.{no_draw}
use Rattle.check_fetched_ends.proofs.clear_fetch.late_begins.gets_again.Goals as goal

-- A repeat gets the stored reply.
same_body : (r : RspSetup) (h : History) (tag : ℕ) (m : List ℕ) (f : Free) → is_repeat (kept_of h) tag m ≡ true → body_of (on_clear r h tag m f no_draw) ≡ clear_body (kept_reply (kept_of h))
unfolding on_clear
same_body r h tag m f again = ap (λ (b : Bool). body_of (cond b (Same (clear_body (kept_reply (kept_of h)))) (Adds (Clear tag (turn_of r (clear_place h) m f) no_draw)))) again

written : (o : Option DryRun) (h : History) (out : Outcome) (sent : List ℕ) → is_some o ≡ true → IfSome o (λ tried. IsTried h out tried sent) → sent ≡ body_of out
written None h out sent some is = absurd (false≢true some)
written (Some tried) h out sent some is = is.body

pub returns-then-not-is_repeat-clause-again : goal.returns-then-not-is_repeat-clause-again
returns-then-not-is_repeat-clause-again c = λ r h set_up stands idle.
    sym (ap (λ (b : Bool). b && bytes_eq (kept_reply (kept_of h)) c.args.reply.now) (sym (c.is_repeat.ensures r h stands) ∙ c.if-not-is_repeat.true))

pub returns-clause-again : goal.returns-clause-again
returns-clause-again c = λ r h set_up stands idle.
    let again : is_repeat (kept_of h) c.args.tag c.args.message.now ≡ true = sym (c.is_repeat.ensures r h stands) ∙ c.if-not-is_repeat.false in
    let free = c.least_values-values.ensures.free r h stands in
    let tried = c.would_answer.ensures.tried r h (least_values h (clear_place h)) no_draw set_up free (least_allowed h (clear_place h) [] (omega arith)) stands in
    let sent = written c.would_answer.result h (on_clear r h c.args.tag c.args.message.now (least_values h (clear_place h)) no_draw) (clear_body c.would_answer.new.out) (c.would_answer.ensures.idle r h stands idle) tried in
    let kept : c.would_answer.new.out ≡ kept_reply (kept_of h) = ap (drop 1) (sent ∙ same_body r h c.args.tag c.args.message.now (least_values h (clear_place h)) again) in
    c.same_bytes.ensures ∙ ap (λ (l : List ℕ). bytes_eq l c.args.reply.now) (c.as_slice.ensures.value ∙ kept)
    ∙ sym (ap (λ (b : Bool). b && bytes_eq (kept_reply (kept_of h)) c.args.reply.now) again)

pub returns-clause-few : goal.returns-clause-few
returns-clause-few c = λ is.
    let same = sym c.as_slice.ensures.value ∙ (bytes_eq-Decides c.as_slice.result.now c.args.reply.now).0 (sym c.same_bytes.ensures ∙ is) in
    subst (λ (l : List ℕ). length l ≤ 4096) same c.as_slice.ensures.fits
