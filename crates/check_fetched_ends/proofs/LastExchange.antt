-- Whether the request of a large response that is held is PSK_EXCHANGE.
use Rattle.std.proofs.Common.{◌≡◌, ◌∙◌, ℕ, List, [], refl, sym, ap, subst, Bool, true, Option, None, is_some}
use Rattle.check_responder.proofs.ClearJudged.{adds_at}
use Rattle.check_responder.specs.declared.answer_keys.AnswerKeys.{AnswerKeys}
use Rattle.check_responder.specs.declared.judged_responder.JudgedResponder.{JudgedResponder}
use Rattle.check_fetched_ends.proofs.HeldTurns.{IsLargeTurn, large_turn}
use Rattle.check_fetched_laws.proofs.LastBefore.{left_like}
use Rattle.check_fetched_ends.proofs.LastWhole.{adds_anew}
use Rattle.check_fetched_ends.specs.AskedInClear.{IsExchangeBy, chunk_at}
use Rattle.check_fetched_ends.specs.Held.{StandsBefore}
use Rattle.check_fetched_ends.specs.declared.clear_fetch.held.Held.{Held}
use Rattle.responder_machine.specs.Handling.{turn_of}
use Rattle.responder_machine.specs.History.{Entry, History, clear_turns}
use Rattle.responder_machine.specs.History.Entry.{Clear}
use Rattle.responder_machine.specs.May.{with_dropped}
use Rattle.responder_machine.specs.Place.{clear_place}
use Rattle.responder_machine.specs.Responder.Outcome.{Adds}
use Rattle.responder_machine.specs.Setup.{RspSetup}
use Rattle.responder_machine.specs.Turn.{Turn, handle_in, takes}
use Rattle.spdm_grammar.specs.Message.{ChunkMessage}
use Rattle.spdm_grammar.specs.declared.names.request_code.TheConstants.{PSK_EXCHANGE}
use Rattle.spdm_machine.specs.Bodies.{clear_body}
use Rattle.capture_machine.proofs.DropsTell.{turns_stay}
use Rattle.capture_machine.proofs.FetchedSessions.{takes_with}
use Rattle.capture_machine.proofs.PlainTells.{led_clear}
use Rattle.capture_machine.specs.LargeAnswers.{is_large, turn_with, unseen}
use Rattle.capture_machine.specs.Rounds.{no_draw}

same_entry : (tag : ℕ) (t : Turn) (e : Entry) → Adds (Clear tag t no_draw) ≡ Adds e → Clear tag t no_draw ≡ e
same_entry tag t e same = cc

same_turn : (tag : ℕ) (t u : Turn) → Clear tag t no_draw ≡ Clear tag u no_draw → t ≡ u
same_turn tag t u same = cc

pub exchange_held : (seen : JudgedResponder) (keys : AnswerKeys) (held : Held) (r : RspSetup) (h : History) (b : StandsBefore seen keys held r h) (exchange : Bool)
    → IsExchangeBy r (clear_turns b.left) b.turn.message (chunk_at (clear_turns b.left) b.turn.message) exchange → exchange ≡ takes PSK_EXCHANGE b.turn
exchange_held seen keys held r h b exchange is =
    let m : List ℕ = b.turn.message in
    let there : History = with_dropped b.before b.led.0 in
    let led = led_clear r there held.tag (clear_body m) (Adds b.led.1) refl b.led.2 in
    let turn : Turn = turn_of r (clear_place there) m led.free in
    let fresh = adds_anew r there held.tag m led.free b.led.1 led.leads in
    let entry = same_entry held.tag turn b.led.1 (sym (adds_at r held.tag m b.turn.reply there led.free fresh) ∙ led.leads) in
    let big : is_some (handle_in turn.effect) ≡ true = ap is_large entry ∙ b.led.3 in
    let erased = same_turn held.tag (turn_with [] None turn) b.turn (ap unseen entry ∙ b.led.4) in
    let facts : IsLargeTurn r (clear_turns there) m turn = large_turn r led.free there m big in
    let turns : clear_turns b.left ≡ clear_turns there = (left_like (Clear held.tag b.turn no_draw) b.before b.left b.left_is).turns ∙ sym (turns_stay b.led.0 b.before) in
    let here : IsExchangeBy r (clear_turns there) m turn.chunk exchange =
    subst (λ (o : Option ChunkMessage). IsExchangeBy r (clear_turns there) m o exchange) (sym facts.chunk) (subst (λ (l : List Turn). IsExchangeBy r l m (chunk_at l m) exchange) turns is) in
    sym (facts.asked exchange here) ∙ sym (takes_with [] None PSK_EXCHANGE turn) ∙ ap (takes PSK_EXCHANGE) erased
