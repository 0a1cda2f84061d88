use Rattle.std.proofs.Common.{refl, ◌≡◌, ◌∙◌, ◌+◌, ◌∷◌, ap, subst, sym, ℕ, List, Bool, Option, Some, arith, eq-eqb}
use Rattle.std.specs.Prelude.{if◌then◌else◌}
use Rattle.requester_core.proofs.Carrying.{whole_carried}
use Rattle.requester_core.proofs.Early.{fault_near}
use Rattle.requester_core.proofs.Fetched.{collected_here, kept_leaves, other_leaves, own_rule}
use Rattle.requester_core.specs.ReplyOutcome.{IsCarried}
use Rattle.chunking.specs.Answers.{collection_of}
use Rattle.chunking.specs.Collecting as chunks
use Rattle.chunking.specs.Collecting.{accepted_with, broken_rule, joined_with}
use Rattle.chunking.specs.Keeping as keeping
use Rattle.requester_machine.proofs.Collected.{is_next, means_more, means_refused, means_whole}
use Rattle.requester_machine.specs.ClearAnswers.{Carried, carried_led, collected, get_fault, has_summary}
use Rattle.requester_machine.specs.ClearAnswers.Carried.{Further, Whole}
use Rattle.requester_machine.specs.History.{connection_terms}
use Rattle.requester_machine.specs.Sending.{get_sent}
use Rattle.spdm_grammar.specs.Message.{ChunkMessage, chunk_message}
use Rattle.spdm_grammar.specs.declared.messages.part_faults.ChunkFault.{ChunkFault}
use Rattle.spdm_machine.specs.Terms.{hash_len}
use Rattle.requester_core.proofs.clear.clear_state.ClearState.on_chunk.Goals as goal

pub returns-in-Refused : goal.returns-in-Refused
returns-in-Refused c = λ q h request before setup shows awaits kind keeps up under gathered max.
    let piece = chunk_message c.args.chunk in
    let rule = means_refused piece c.in-Refused.fault (joined_with before piece) (broken_rule q.max before piece)
    (c.in-Refused.ensures.answer before gathered ∙ collected_here c.args.gathered.now.max q.max piece.handle piece.number before piece max under) in
    let leads : get_fault q.max piece.handle piece.number before piece ≡ Some c.in-Refused.fault = own_rule q.max before piece ∙ rule in
    record {
      carries = λ f. (ap (λ (o : Option ChunkFault). carried_led q h f request (collected h request before piece o)) leads, refl);
      leaves = c.take.follows.holds-at-none.refused c.in-Refused.fault (ap collection_of c.in-Refused.is);
    }

pub returns-in-More : goal.returns-in-More
returns-in-More c = λ q h request before setup shows awaits kind keeps up under gathered max.
    let piece = chunk_message c.args.chunk in
    let rests = c.take.follows.holds-at-none in
    let came = c.in-More.ensures.answer before gathered in
    let next = is_next q.max piece.handle piece.number before piece (eq-eqb piece.handle piece.handle refl) (eq-eqb piece.number piece.number refl) under (came ∙ ap (λ (n : ℕ). chunks.collected n before piece) max) in
    let rule = means_more piece (joined_with before piece) (broken_rule q.max before piece) (came ∙ collected_here c.args.gathered.now.max q.max piece.handle piece.number before piece max under) in
    let sent = get_sent h request piece.handle (piece.number + 1) (piece ∷ before) in
    let leads : collected h request before piece (get_fault q.max piece.handle piece.number before piece) ≡ Further sent =
    ap (collected h request before piece) (own_rule q.max before piece ∙ rule.0) ∙ ap (λ (b : Bool). if b then Whole (joined_with before piece) 0 else Further sent) rule.1 in
    record {
      carries = (sent, leads, c.fetch.ensures h request (piece ∷ before) shows kind keeps up next.under.few);
      leaves = (
        sent,
        leads,
        record {
          max = rests.max ∙ max;
          chunks = subst (λ (x : List ChunkMessage). keeping.StandsFor c.take.follows.lender-at-none x) next.accepted (subst (λ (n : ℕ). keeping.StandsFor c.take.follows.lender-at-none (accepted_with n before piece)) max (rests.stands before gathered));
        },
      );
    }

pub returns-then-changes_nothing : goal.returns-then-changes_nothing
returns-then-changes_nothing c = λ q h request before setup shows awaits kind keeps up under gathered max.
    let piece = chunk_message c.args.chunk in
    let answer = c.in-Whole.answer.now in
    let short = c.in-Whole.ensures.fits in
    let rule = means_whole piece answer (joined_with before piece) (broken_rule q.max before piece)
    (c.in-Whole.ensures.answer before gathered ∙ collected_here c.args.gathered.now.max q.max piece.handle piece.number before piece max under) in
    let leads : collected h request before piece (get_fault q.max piece.handle piece.number before piece) ≡ Whole answer 0 =
    ap (collected h request before piece) (own_rule q.max before piece ∙ rule.0)
    ∙ ap (λ (b : Bool). if b then Whole (joined_with before piece) 0 else Further (get_sent h request piece.handle (piece.number + 1) (piece ∷ before))) rule.1 ∙ ap (λ (m : List ℕ). Whole m 0) (sym rule.2) in
    let answered = c.on_answer-led.ensures q h request setup shows awaits kind keeps up short (λ e faulty. (let near = fault_near (hash_len (connection_terms h)) (has_summary request) answer e faulty in omega (arith, near, short))) in
    record {
      carries = subst (λ (x : Carried). IsCarried q h request x c.on_answer-led.result c.args.self.now c.on_answer-led.new.self c.on_answer-led.new.out) (sym leads)
          (whole_carried q h request answer 0 c.on_answer-led.result c.args.self.now c.on_answer-led.new.self c.on_answer-led.new.out answered);
      leaves = kept_leaves q (collected h request before piece (get_fault q.max piece.handle piece.number before piece)) c.on_answer-led.result c.args.gathered.now c.copy-before.result (sym c.if-changes_nothing.ensures) c.copy-before.ensures;
    }

pub returns-else-changes_nothing : goal.returns-else-changes_nothing
returns-else-changes_nothing c = λ q h request before setup shows awaits kind keeps up under gathered max.
    let piece = chunk_message c.args.chunk in
    let answer = c.in-Whole.answer.now in
    let short = c.in-Whole.ensures.fits in
    let rests = c.take.follows.holds-at-none in
    let rule = means_whole piece answer (joined_with before piece) (broken_rule q.max before piece)
    (c.in-Whole.ensures.answer before gathered ∙ collected_here c.args.gathered.now.max q.max piece.handle piece.number before piece max under) in
    let leads : collected h request before piece (get_fault q.max piece.handle piece.number before piece) ≡ Whole answer 0 =
    ap (collected h request before piece) (own_rule q.max before piece ∙ rule.0)
    ∙ ap (λ (b : Bool). if b then Whole (joined_with before piece) 0 else Further (get_sent h request piece.handle (piece.number + 1) (piece ∷ before))) rule.1 ∙ ap (λ (m : List ℕ). Whole m 0) (sym rule.2) in
    let answered = c.on_answer-led.ensures q h request setup shows awaits kind keeps up short (λ e faulty. (let near = fault_near (hash_len (connection_terms h)) (has_summary request) answer e faulty in omega (arith, near, short))) in
    record {
      carries = subst (λ (x : Carried). IsCarried q h request x c.on_answer-led.result c.args.self.now c.on_answer-led.new.self c.on_answer-led.new.out) (sym leads)
          (whole_carried q h request answer 0 c.on_answer-led.result c.args.self.now c.on_answer-led.new.self c.on_answer-led.new.out answered);
      leaves = other_leaves q h 0 request answer (collected h request before piece (get_fault q.max piece.handle piece.number before piece)) c.on_answer-led.result c.args.self.now c.on_answer-led.new.self c.on_answer-led.new.out c.args.gathered.now
          c.take.follows.lender-at-none answered (sym c.if-changes_nothing.ensures) (rests.max ∙ max);
    }
