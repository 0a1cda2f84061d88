use Rattle.std.proofs.Common.{◌≡◌, ◌≤◌, ap, sym, subst, refl, drop, length, ℕ, List, [], arith}
use Rattle.measurements.specs.Blocks.{record_of}
use Rattle.measurements.specs.Records.{asked}
use Rattle.responder_machine.specs.Answer.{Free}
use Rattle.responder_machine.specs.History.{History}
use Rattle.responder_machine.specs.Place.{session_place}
use Rattle.responder_machine.specs.Records.{opened}
use Rattle.responder_machine.specs.Responder.{after, body_of, on_record}
use Rattle.responder_machine.specs.Session.{id_in_record, session_of}
use Rattle.spdm_grammar.specs.declared.told.block_spec.BlockSpec.{BlockSpec}
use Rattle.spdm_machine.specs.Bodies.{record_body}
use Rattle.check_responder.proofs.AnyAnswers.{session_few}
use Rattle.check_laws.proofs.LeastValues.{least_allowed}
use Rattle.check_responder.proofs.RecordAnswered.{repeated, session_sized}
use Rattle.check_responder.proofs.RecordShown.{sealed_from, sealed_history, sealed_to, value_same}
use Rattle.check_responder.proofs.judged_responder.JudgedResponder.answers_repeated.Goals as goal
use Rattle.check_responder.specs.JudgedResponder.{IsAnswerer}
use Rattle.check_laws.specs.AnswersShown.{least_values}
use Rattle.check_responder.specs.ShownBy.{IsRecordAnswered}
use Rattle.capture_machine.specs.CapturedAnswers.{is_plain}
use Rattle.capture_machine.specs.Rounds.{no_draw}

pub returns-clause-told : goal.returns-clause-told
returns-clause-told c = λ r h tag set stands few again.
    let request : List ℕ = c.args.request.now in
    let s = session_of (id_in_record request) h in
    let k : Free = least_values h (session_place s) in
    let answer : List ℕ = record_body c.args.sealed.now in
    let same = repeated r h tag request again in
    let value = value_same r h tag request answer same.0 (same.1 k) in
    let sends = c.sends.ensures.told r h tag k set stands few (c.least_free.ensures.free h (session_place s)) in
    let blocks = λ (op : ℕ). subst (λ (b : List BlockSpec). length (record_of (asked op b)) ≤ 4054) (sym set.inventory) (c.blocks_are_few.ensures op) in
    let short = session_few r h s (drop 1 (opened r.psk s request)) blocks (session_sized _ r h (id_in_record request) stands) in (
      λ is. sealed_from r h tag request answer refl (subst (λ (f : Free). IsRecordAnswered r h tag request f answer) (sym value) (record {
        allowed = least_allowed h (session_place s) [] (omega arith);
        short = short;
        plain = ap (is_plain h) (same.1 k);
        body = sends.0 is;
      })),
      λ shown. sends.1 (subst (λ (f : Free). body_of (on_record r h tag request f no_draw) ≡ answer) value (sealed_to r h tag request answer refl shown).body),
    )

pub returns-clause-stands : goal.returns-clause-stands
returns-clause-stands c = λ r h tag set stands few again is.
    let request : List ℕ = c.args.request.now in
    let s = session_of (id_in_record request) h in
    let k : Free = least_values h (session_place s) in
    let answer : List ℕ = record_body c.args.sealed.now in
    let same = repeated r h tag request again in
    let value = value_same r h tag request answer same.0 (same.1 k) in
    subst (λ (x : History). IsAnswerer c.sends.new.self r x) (sym (sealed_history r h tag request answer refl))
    (subst (λ (f : Free). IsAnswerer c.sends.new.self r (after h (on_record r h tag request f no_draw))) (sym value) (c.sends.ensures.stands r h tag k set stands few (c.least_free.ensures.free h (session_place s))))
