use Rattle.std.proofs.Common.{◌≤◌, ◌∙◌, ap, sym, subst, drop, length, ℕ, List, arith}
use Rattle.std.proofs.lemmas.Bool.{leb-true}
use Rattle.check_requester.proofs.FinishApart.{drop_short}
use Rattle.check_responder.specs.AnswerKeys.{IsComingKey}
use Rattle.check_laws.specs.AnswersShown.{answered_text}
use Rattle.responder_machine.specs.Records.{reply_number, reply_purpose}
use Rattle.responder_machine.specs.Session.{Events, id_bytes, id_in_record, session_of, session_terms}
use Rattle.responder_machine.specs.Turn.{Turn}
use Rattle.capture_machine.specs.Opening.{any_free, turn_in}
use Rattle.check_fetched_ends.proofs.session_fetch.session_texts.reads_text.Goals as goal

pub text-requires-clause-most : goal.text-requires-clause-most
text-requires-clause-most c = subst (λ (l : List ℕ). length l ≤ 4160) (sym c.behind_type-sealed.ensures) (drop_short c.args.answer.now c.requires)

pub returns-in-Some-clause-told : goal.returns-in-Some-clause-told
returns-in-Some-clause-told c = λ r h is few brief.
    let request : List ℕ = drop 1 c.args.body.now in
    let s : Events = session_of (id_in_record request) h in
    let t : Turn = turn_in r s request in
    let key = subst (IsComingKey r h c.args.body.now) c.in-Some.is (c.coming_key.ensures.key r h is few) in
    let text = c.text.ensures (session_terms s).choice (reply_purpose r.psk s t) (reply_number s t) (id_bytes s) (key.1 any_free) in
    let short = leb-true (length c.as_slice.result.now) 65535 brief in
    let same = ap (λ (l : List ℕ). length l) c.as_slice.ensures.value in record {
      taken = key.0;
      holds = text ∙ ap (answered_text r s t) c.behind_type-sealed.ensures;
      brief = omega (arith, short, same);
    }
