use Rattle.std.proofs.Common.{◌∙◌, sym, ap, subst, drop, List, ℕ, Some}
use Rattle.std.proofs.lemmas.Bool.{false≢true}
use Rattle.std.specs.Prelude.{slice_index}
use Rattle.responder_machine.specs.Session.{session_of}
use Rattle.check_fetched_ends.proofs.session_fetch.session_again.prepared_again.Goals as goal
use Rattle.check_fetched_ends.specs.AgainRead.{IsKeptFor, holds_large, last_message}

pub returns-then-repeats_ended-clause-kept : goal.returns-then-repeats_ended-clause-kept
returns-then-repeats_ended-clause-kept c = λ r h set stands op handle again asks. false≢true (sym again.anew ∙ sym (c.repeats_ended.ensures r h stands) ∙ c.if-repeats_ended.true)

pub returns-clause-kept : goal.returns-clause-kept
returns-clause-kept c = λ r h set stands.
    let request : List ℕ = c.args.request.now in
    let id = ap (λ x. x.rsp) c.record_id.ensures in
    let reply = c.read_last.ensures.reply r h stands c.if-not-read_last.false in
    let inner = c.read_last.ensures.inner r h stands c.if-not-read_last.false in
    let message = c.behind_type-message.ensures ∙ ap (λ (l : List ℕ). drop 1 l) (c.as_slice-2.ensures.value ∙ inner) in
    let kept = subst (λ x. IsKeptFor r (session_of c.record_id.result.rsp h) c.record_id.result.rsp c.behind_type-message.result.now x) c.in_ok-fetched.was (c.kept_in.ensures.kept r h set stands) in (
      record {
        anew = sym (c.repeats_ended.ensures r h stands) ∙ c.if-repeats_ended.false;
        reads = sym (c.read_last.ensures.told r h stands) ∙ c.if-not-read_last.false;
        large = ap holds_large (sym (c.as_slice.ensures.value ∙ reply)) ∙ sym c.holds_large.ensures ∙ c.if-not-holds_large.false;
        handle_is = c.byte_at-handle.ensures ∙ ap (λ (l : List ℕ). slice_index l 5) (c.as_slice-3.ensures.value ∙ reply);
      },
      subst (λ (n : ℕ). IsKeptFor r (session_of n h) n (last_message r h request) (Some c.in_ok-fetched.fetched)) id
          (subst (λ (l : List ℕ). IsKeptFor r (session_of c.record_id.result.rsp h) c.record_id.result.rsp l (Some c.in_ok-fetched.fetched)) message kept),
    )
