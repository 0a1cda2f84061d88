use Rattle.std.proofs.Common.{◌≡◌, ◌≤◌, ◌==◌, ◌∙◌, ap, sym, subst, eqb-true, length, ℕ, List, Some, None}
use Rattle.std.specs.Prelude.{slice_index}
use Rattle.measurements.specs.Blocks.{record_of}
use Rattle.measurements.specs.Records.{asked}
use Rattle.responder_machine.specs.Answer.{request_at}
use Rattle.responder_machine.specs.Handling.{chunk_in}
use Rattle.responder_machine.specs.Place.{clear_place, place_terms}
use Rattle.spdm_basis.proofs.Bools.{and_first, and_second}
use Rattle.spdm_basis.specs.Sizes.{hash_size}
use Rattle.spdm_grammar.specs.Message.{ChunkMessage, chunk_message}
use Rattle.spdm_grammar.specs.Requests.{request_in}
use Rattle.spdm_grammar.specs.declared.told.block_spec.BlockSpec.{BlockSpec}
use Rattle.spdm_grammar.specs.declared.names.response_code.TheConstants.{CHUNK_SEND_ACK}
use Rattle.spdm_machine.specs.Terms.{hash_len}
use Rattle.check_responder.proofs.ClearAsked.{long_carried, long_chunk, long_itself, never_given}
use Rattle.check_laws.specs.AnswersShown.{clear_values}
use Rattle.check_responder.proofs.request_source.asked_by.Goals as goal

pub returns-in-None : goal.returns-in-None
returns-in-None c = λ r h set stands chosen.
    let m : List ℕ = c.args.message.now in
    let len : c.size.result ≡ hash_len (place_terms (clear_place h)) = c.size.ensures ∙ ap hash_size (sym chosen) in
    let is : chunk_in (request_at (clear_place h) m) ≡ None = sym (c.in-None.ensures ∙ ap (λ (n : ℕ). chunk_in (request_in n m)) len) in
    long_itself r h m (clear_values r h m c.args.reply.now) is

pub returns-then-completes : goal.returns-then-completes
returns-then-completes c = λ r h set stands chosen.
    let m : List ℕ = c.args.message.now in
    let chunk : ChunkMessage = chunk_message c.in-Some.chunk in
    let len : c.size.result ≡ hash_len (place_terms (clear_place h)) = c.size.ensures ∙ ap hash_size (sym chosen) in
    let is : chunk_in (request_at (clear_place h) m) ≡ Some chunk = sym (c.in-Some.ensures ∙ ap (λ (n : ℕ). chunk_in (request_in n m)) len) in
    long_carried r h m (clear_values r h m c.args.reply.now) chunk c.completes.new.whole is (c.if-completes.ensures r h stands)

pub returns-then-is_acknowledged : goal.returns-then-is_acknowledged
returns-then-is_acknowledged c = λ r h set stands chosen f.
    let m : List ℕ = c.args.message.now in
    let reply : List ℕ = c.args.reply.now in
    let chunk : ChunkMessage = chunk_message c.in-Some.chunk in
    let len : c.size.result ≡ hash_len (place_terms (clear_place h)) = c.size.ensures ∙ ap hash_size (sym chosen) in
    let is : chunk_in (request_at (clear_place h) m) ≡ Some chunk = sym (c.in-Some.ensures ∙ ap (λ (n : ℕ). chunk_in (request_in n m)) len) in
    let both = sym c.is_acknowledged.ensures ∙ c.if-is_acknowledged.true in
    never_given r h m f chunk reply is (and_first chunk.last (slice_index reply 1 == CHUNK_SEND_ACK) both) (c.if-completes.ensures r h stands) (eqb-true (slice_index reply 1) CHUNK_SEND_ACK (and_second chunk.last (slice_index reply 1 == CHUNK_SEND_ACK) both))

pub returns-else-is_acknowledged : goal.returns-else-is_acknowledged
returns-else-is_acknowledged c = λ r h set stands chosen.
    let m : List ℕ = c.args.message.now in
    let chunk : ChunkMessage = chunk_message c.in-Some.chunk in
    let len : c.size.result ≡ hash_len (place_terms (clear_place h)) = c.size.ensures ∙ ap hash_size (sym chosen) in
    let is : chunk_in (request_at (clear_place h) m) ≡ Some chunk = sym (c.in-Some.ensures ∙ ap (λ (n : ℕ). chunk_in (request_in n m)) len) in
    let blocks = λ (op : ℕ). subst (λ (b : List BlockSpec). length (record_of (asked op b)) ≤ 4054) (sym set.inventory) (c.blocks_are_few.ensures op) in
    long_chunk r h m chunk c.args.reply.now blocks is (sym c.is_acknowledged.ensures ∙ c.if-is_acknowledged.false)
