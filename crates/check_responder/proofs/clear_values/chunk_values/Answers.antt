use Rattle.std.proofs.Common.{◌≡◌, ◌∙◌, ◌==◌, ◌&&◌, ap, sym, subst, cond, drop, Bool, true, false}
use Rattle.std.proofs.Math.Bool.{and-false}
use Rattle.std.proofs.lemmas.Bool.{eq-eqb, ne_eqb}
use Rattle.std.specs.Prelude.{slice_index}
use Rattle.chunking.specs.Collecting.{joined_with, under_way}
use Rattle.responder_core.specs.Free.{IsFree}
use Rattle.responder_machine.specs.Answer.{Free}
use Rattle.responder_machine.specs.History.{clear_turns}
use Rattle.responder_machine.specs.LargeMessages.{chunks_of}
use Rattle.responder_machine.specs.Place.{clear_place, inside}
use Rattle.spdm_grammar.specs.Message.{chunk_message}
use Rattle.spdm_grammar.specs.declared.names.response_code.TheConstants.{CHUNK_SEND_ACK}
use Rattle.check_laws.specs.AnswersShown.{least_values, values_in}
use Rattle.check_responder.specs.ShownBy.{AreReadClear}
use Rattle.check_responder.proofs.clear_values.chunk_values.Goals as goal

pub returns-then-byte_at-ne-CHUNK_SEND_ACK : goal.returns-then-byte_at-ne-CHUNK_SEND_ACK
returns-then-byte_at-ne-CHUNK_SEND_ACK c = λ r h m set at free so_far few some.
    let reply = c.args.reply.now in
    let chunk = chunk_message c.args.chunk.now in
    let k : Free = least_values h (clear_place h) in
    let shown : Free = values_in r (inside (clear_place h)) (joined_with (under_way (chunks_of (clear_turns h))) chunk) k (drop 6 reply) in
    let is : (slice_index reply 1 == CHUNK_SEND_ACK) ≡ false = ne_eqb (slice_index reply 1) CHUNK_SEND_ACK (λ e. c.if-byte_at-ne-CHUNK_SEND_ACK.true (c.byte_at.ensures ∙ e)) in
    subst (λ (b : Bool). IsFree c.args.least (cond b shown k)) (sym (ap (λ (b : Bool). chunk.last && b) is ∙ and-false chunk.last)) free

pub returns : goal.returns
returns c = λ r h m set at free so_far few some.
    let reply = c.args.reply.now in
    let chunk = chunk_message c.args.chunk.now in
    let k : Free = least_values h (clear_place h) in
    let shown : Free = values_in r (inside (clear_place h)) (joined_with (under_way (chunks_of (clear_turns h))) chunk) k (drop 6 reply) in
    let ack = sym c.byte_at.ensures ∙ c.if-byte_at-ne-CHUNK_SEND_ACK.false in
    let is : (chunk.last && slice_index reply 1 == CHUNK_SEND_ACK) ≡ true = ap (λ (b : Bool). b && slice_index reply 1 == CHUNK_SEND_ACK) c.if-not-chunk.false ∙ eq-eqb (slice_index reply 1) CHUNK_SEND_ACK ack in
    subst (λ (b : Bool). AreReadClear r h m reply (cond b shown k) c.whole_values.result) (sym is) (c.whole_values.ensures r h m set at free so_far few some c.if-not-chunk.false ack)
