use Rattle.std.proofs.Common.{◌≤◌, sym, subst, length, ℕ, List}
use Rattle.measurements.specs.Blocks.{record_of}
use Rattle.measurements.specs.Records.{asked}
use Rattle.responder_machine.specs.History.{History}
use Rattle.responder_machine.specs.May.{with_dropped}
use Rattle.responder_machine.specs.Session.{id_in_record}
use Rattle.spdm_grammar.specs.declared.told.block_spec.BlockSpec.{BlockSpec}
use Rattle.check_responder.proofs.RecordAnswered.{few_closed, session_sized}
use Rattle.check_responder.proofs.RecordClosed.{closed_from, closed_history, closed_to}
use Rattle.check_responder.proofs.judged_responder.JudgedResponder.answers_closed.Goals as goal
use Rattle.check_responder.specs.JudgedResponder.{IsAnswerer}
use Rattle.check_responder.specs.ShownBy.{closed_drops}

pub returns-clause-told : goal.returns-clause-told
returns-clause-told c = λ r h tag set stands few.
    let request = c.args.request.now in
    let g : History = with_dropped h (closed_drops r h request) in
    let kept = c.drop_closed.ensures r h stands in
    let blocks = λ (op : ℕ). subst (λ (b : List BlockSpec). length (record_of (asked op b)) ≤ 4054) (sym set.inventory) (c.blocks_are_few.ensures op) in
    let told = c.refuses.ensures.told r g tag set kept (few_closed r h request few) in
    (λ is. closed_from r h tag request c.args.reply.now blocks (session_sized _ r g (id_in_record request) kept) (told.0 is), λ shown. told.1 (closed_to r h tag request c.args.reply.now shown))

pub returns-clause-stands : goal.returns-clause-stands
returns-clause-stands c = λ r h tag set stands few is.
    let request = c.args.request.now in
    let g : History = with_dropped h (closed_drops r h request) in
    let kept = c.drop_closed.ensures r h stands in
    let told = c.refuses.ensures.told r g tag set kept (few_closed r h request few) in
    subst (λ (x : History). IsAnswerer c.refuses.new.self r x) (sym (closed_history r h tag request c.args.reply.now (told.0 is))) (c.refuses.ensures.stands r g tag set kept (few_closed r h request few))
