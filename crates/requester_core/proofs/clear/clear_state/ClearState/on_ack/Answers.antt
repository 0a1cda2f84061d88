use Rattle.std.proofs.Common.{refl, ◌≡◌, ◌∙◌, ◌≤◌, ◌+◌, ap, subst, sym, ℕ, List, Option, Bool, false, length, arith}
use Rattle.std.specs.Prelude.{if◌then◌else◌, unwrap_or}
use Rattle.requester_core.proofs.Answered.{clear_request}
use Rattle.requester_core.proofs.Carrying.{carried_by, count_few, next_within, whole_carried}
use Rattle.requester_core.proofs.Early.{fault_near}
use Rattle.requester_core.proofs.Leading.{next_led, piece_small, small_sends}
use Rattle.requester_core.specs.ReplyOutcome.{IsCarried, SendsNext}
use Rattle.requester_core.specs.Outgoing.{IsCut, message_for, tag_after}
use Rattle.requester_core.specs.declared.clear.reply_outcome.ReplyOutcome.TheVariants as seen
use Rattle.requester_core.specs.declared.clear.outstanding.Outstanding.TheVariants as waits
use Rattle.requester_core.specs.declared.clear.outstanding.TransferMode.{TransferMode}
use Rattle.requester_core.specs.ClearState.{Seen, Shows}
use Rattle.requester_core.specs.declared.clear.outstanding.TransferMode.TheVariants as modes
use Rattle.chunking.specs.Cutting.{chunk_count}
use Rattle.negotiate.specs.declared.shared.Common.{Common}
use Rattle.requester_machine.specs.Answers.{goes_on}
use Rattle.requester_machine.specs.Bodies.{error_in}
use Rattle.requester_machine.specs.ClearAnswers.{Carried, acknowledged, carried_led, has_summary}
use Rattle.requester_machine.specs.ClearAnswers.Carried.{Further, Refused, Whole}
use Rattle.requester_machine.specs.History.{Led, connection_terms}
use Rattle.requester_machine.specs.History.Effect.{Nothing}
use Rattle.requester_machine.specs.Sending.{piece_of, piece_sent}
use Rattle.spdm_grammar.specs.Requests.{canonical_request}
use Rattle.spdm_grammar.specs.declared.told.event.ReqIgnored.{ReqIgnored}
use Rattle.spdm_grammar.specs.declared.names.TheConstants.{MAX_MESSAGE_SIZE}
use Rattle.spdm_machine.specs.Terms.{hash_len}
use Rattle.requester_core.proofs.clear.clear_state.ClearState.on_ack.Goals as goal

pub returns-in-Some : goal.returns-in-Some
returns-in-Some c = λ q h request setup shows awaits kind keeps up short cut last.
    let common = (connection_terms h).common in
    let piece = piece_of common request c.args.piece.now.handle c.args.piece.now.number in
    let some = c.in-Some.ensures piece refl refl (sym last) in
    λ f. (ap (λ (o : Option ReqIgnored). carried_led q h f request (acknowledged h common request piece c.args.ack.now.early c.args.ack.now.response.now o)) (sym some), refl)

pub returns-then-ack : goal.returns-then-ack
returns-then-ack c = λ q h request setup shows awaits kind keeps up short cut last.
    let common = (connection_terms h).common in
    let piece = piece_of common request c.args.piece.now.handle c.args.piece.now.number in
    let response = c.args.ack.now.response.now in
    let none = c.in_default.ensures piece refl refl (sym last) in
    let code = c.unwrap_or.ensures ∙ ap (λ (o : Option ℕ). unwrap_or o 0) c.error_in.ensures in
    let is = ap (λ (b : Bool). if b then Refused (unwrap_or (error_in response) 0) else (if piece.last then Whole response 6 else Further (piece_sent common h request piece.handle (piece.number + 1)))) (sym c.if-ack.true) in
    let leads = ap (λ (n : ℕ). Refused n) code ∙ is ∙ ap (λ (o : Option ReqIgnored). acknowledged h common request piece c.args.ack.now.early response o) none in
    subst (λ (x : Carried). IsCarried q h request x c.refuse.result c.args.self.now c.refuse.new.self c.args.out.now) leads
    (carried_by q h request (Refused c.unwrap_or.result) c.refuse.result c.args.self.now c.refuse.new.self c.args.out.now (λ f. c.refuse.ensures h request c.args.out.now shows (clear_request q h request awaits) kind))

pub returns-then-piece : goal.returns-then-piece
returns-then-piece c = λ q h request setup shows awaits kind keeps up short cut last.
    let common = (connection_terms h).common in
    let piece = piece_of common request c.args.piece.now.handle c.args.piece.now.number in
    let response = c.args.ack.now.response.now in
    let further = Further (piece_sent common h request piece.handle (piece.number + 1)) in
    let none = c.in_default.ensures piece refl refl (sym last) in
    let is = ap (λ (b : Bool). if b then Whole response 6 else further) (sym c.if-piece.true ∙ last) in
    let late = ap (λ (b : Bool). if b then Refused (unwrap_or (error_in response) 0) else (if piece.last then Whole response 6 else further)) (sym c.if-ack.false) in
    let leads = is ∙ late ∙ ap (λ (o : Option ReqIgnored). acknowledged h common request piece c.args.ack.now.early response o) none in
    subst (λ (x : Carried). IsCarried q h request x c.on_answer.result c.args.self.now c.on_answer.new.self c.on_answer.new.out) leads
    (whole_carried q h request response 6 c.on_answer.result c.args.self.now c.on_answer.new.self c.on_answer.new.out
    (c.on_answer.ensures q h request setup shows awaits kind keeps up short (λ e faulty. (let near = fault_near (hash_len (connection_terms h)) (has_summary request) response e faulty in omega (arith, near, short)))))

pub returns : goal.returns
returns c = λ q h request setup shows awaits kind keeps up short cut last.
    let before : Seen = record { negotiating = c.self.inside.negotiating; outgoing = c.self.inside.outgoing; brought = c.self.inside.brought } in
    let shown = subst (λ (s : Seen). Shows s h) (sym c.self.view_is) shows in
    let kept = subst (λ (s : Seen). s.outgoing.request ≡ canonical_request request) (sym c.self.view_is) keeps in
    let common = (connection_terms h).common in
    let handle : ℕ = c.args.piece.now.handle in
    let number : ℕ = c.args.piece.now.number in
    let piece = piece_of common request handle number in
    let response = c.args.ack.now.response.now in
    let next = piece_sent common h request handle (number + 1) in
    let none = c.in_default.ensures piece refl refl (sym last) in
    let more : piece.last ≡ false = sym last ∙ c.if-piece.false in
    let is = ap (λ (b : Bool). if b then Whole response 6 else Further next) (sym more) in
    let late = ap (λ (b : Bool). if b then Refused (unwrap_or (error_in response) 0) else (if piece.last then Whole response 6 else Further next)) (sym c.if-ack.false) in
    let leads = is ∙ late ∙ ap (λ (o : Option ReqIgnored). acknowledged h common request piece c.args.ack.now.early response o) none in
    let long = subst (λ (m : List ℕ). length m ≤ MAX_MESSAGE_SIZE) kept c.send.ensures.fits in
    let few = count_few common.to_responder.transfer (canonical_request request) long in
    let after = next_within number (chunk_count common.to_responder.transfer (canonical_request request)) c.saturating_add.result cut.2 few more c.saturating_add.ensures in
    let transfer : common.to_responder.transfer ≡ c.common.result.now.to_responder.transfer = ap (λ (x : Common). x.to_responder.transfer) (shown.negotiating.common ∙ sym c.common.ensures) in
    let mode = modes.ByChunks handle (number + 1) in
    let same : modes.ByChunks handle c.saturating_add.result ≡ mode = ap (λ (n : ℕ). modes.ByChunks handle n) after.0 in
    let cut_next : IsCut mode common.to_responder.transfer (canonical_request request) = (cut.0, cut.1, after.1) in
    let cut_here = subst (λ (w : TransferMode). IsCut w c.common.result.now.to_responder.transfer before.outgoing.request) (sym same) (subst (λ (n : ℕ). IsCut mode n before.outgoing.request) transfer (subst (λ (m : List ℕ). IsCut mode common.to_responder.transfer m) (sym kept) cut_next)) in
    let out : c.send.new.out ≡ message_for mode common.to_responder.transfer (canonical_request request) =
    c.send.ensures.out cut_here ∙ ap (λ (w : TransferMode). message_for w c.common.result.now.to_responder.transfer before.outgoing.request) same ∙ ap (λ (n : ℕ). message_for mode n before.outgoing.request) (sym transfer)
    ∙ ap (message_for mode common.to_responder.transfer) kept in
    let sends = small_sends next h request c.args.asked mode before.outgoing c.send.new.self c.send.result (message_for mode common.to_responder.transfer (canonical_request request)) (piece_small common h request handle number) kind shown.outgoing.tag c.send.ensures.tag
    (c.send.ensures.new ∙ ap (λ (w : TransferMode). record before.outgoing { tag = tag_after before.outgoing.tag; waiting = waits.InClear before.outgoing.tag c.args.asked w }) same) in
    let led : Led = goes_on Nothing next in
    let goes = next_led h Nothing next request before before.negotiating before.outgoing c.send.new.self c.send.result (message_for mode common.to_responder.transfer (canonical_request request)) shown shown.negotiating up refl refl refl refl kept sends in
    subst (λ (x : Carried). IsCarried q h request x (seen.Sends c.send.result) c.args.self.now (record { negotiating = before.negotiating; outgoing = c.send.new.self; brought = before.brought }) c.send.new.out) leads
    (λ f. (led, refl, next, refl, subst (λ (m : List ℕ). SendsNext h led next c.send.result (record { negotiating = before.negotiating; outgoing = c.send.new.self; brought = before.brought }) m) (sym out) goes))
