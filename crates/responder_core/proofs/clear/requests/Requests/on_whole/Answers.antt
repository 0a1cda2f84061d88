use Rattle.std.proofs.Common.{true, false, refl, ◌≡◌, ◌∙◌, ◌+◌, ◌≤◌, ◌∷◌, sym, subst, ap, List, ℕ, Some, None, length}
use Rattle.std.specs.Prelude.{◌==◌}
use Rattle.responder_core.proofs.Chunked.{chunk_known, error_fits, no_chunk_inside, reply_fits, standing_now, turned_last_refused, turned_last_taken}
use Rattle.responder_core.proofs.Draws.{draws_beside, last_refused_draws, last_taken_draws}
use Rattle.responder_core.proofs.NoExchange.{last_refused_takes_none, last_taken_takes_none}
use Rattle.responder_core.proofs.Passing.{settled_at}
use Rattle.responder_core.specs.Coming.{Completes, Seen}
use Rattle.responder_core.specs.ClearState as standing
use Rattle.responder_core.specs.ClearState.{place_at}
use Rattle.responder_machine.proofs.Codes.{asked-code}
use Rattle.responder_machine.specs.Answer.{request_at}
use Rattle.responder_machine.specs.Handling.{acknowledged, error_bytes, request_effect, request_reply}
use Rattle.responder_machine.specs.Place.{Place}
use Rattle.responder_machine.specs.Place.Where.{InChunks, InClear}
use Rattle.responder_machine.specs.Refusal.{code_of, refusal, refused_form}
use Rattle.responder_machine.specs.Turn.{Turn, is_taken}
use Rattle.spdm_grammar.specs.Message.{ChunkMessage, chunk_message}
use Rattle.spdm_grammar.specs.Message.RequestMessage.{ChunkSend, PskExchange}
use Rattle.spdm_grammar.specs.declared.names.TheConstants.{MAX_MESSAGE_SIZE}
use Rattle.spdm_grammar.specs.declared.names.request_code.TheConstants.{GET_MEASUREMENTS, PSK_EXCHANGE}
use Rattle.responder_core.proofs.clear.requests.Requests.on_whole.Goals as goal
use Rattle.spdm_grammar.specs.Message.{exchange_message}

pub returns-in-Refused-clause-come : goal.returns-in-Refused-clause-come
returns-in-Refused-clause-come c = λ r turns m f setup free completes.
    let p : Place = place_at InClear turns c.args.held in
    let within : Place = place_at InChunks turns c.args.held in
    let chunk : ChunkMessage = chunk_message c.args.chunk in
    let before : Seen = record { standing = c.self.inside.standing; collector = c.self.inside.collector; whole = c.self.inside.whole } in
    let same : c.args.self.now ≡ before = sym c.self.view_is in
    let done = subst (λ (s : Seen). Completes r p m f chunk s) same completes in
    let bytes = c.as_slice-whole.ensures.value in
    let settled = settled_at before.standing InClear turns c.args.held done.standing in
    let known = chunk_known r p m chunk tt settled done.form done.asked_is in
    let handled = c.in-Refused.ensures.handled r turns f setup free done.standing tt in
    let code = c.in-Refused.field-0 in
    let refused = subst (λ (w : List ℕ). refusal r within w f ≡ Some code) bytes handled.0 in
    let written = subst (λ (w : List ℕ). c.handle.new.out ≡ error_bytes r within w f code) bytes handled.2 in
    let stood = subst (λ (s : standing.Seen). standing.StandsFor s turns) (sym handled.1) done.standing in
    let response = c.as_slice.ensures.value ∙ written in
    let fits = subst (λ (a : List ℕ). length a + 6 ≤ MAX_MESSAGE_SIZE) (sym response) (error_fits r within before.whole f code) in (
      turned_last_refused r InClear turns c.args.held m f chunk before c.take_chunk.new.self code c.write_acknowledgement.new.out done refused (λ t taken nothing. c.take_chunk.ensures turns t stood taken nothing)
          (c.write_acknowledgement.ensures fits ∙ ap (acknowledged chunk) response),
      last_refused_takes_none r p m f chunk before code done refused,
      sym (last_refused_draws r p m f chunk before code done refused),
      asked-code p m (ChunkSend chunk) done.asked_is,
    )

pub returns-in-Answered-clause-come : goal.returns-in-Answered-clause-come
returns-in-Answered-clause-come c = λ r turns m f setup free completes.
    let p : Place = place_at InClear turns c.args.held in
    let within : Place = place_at InChunks turns c.args.held in
    let chunk : ChunkMessage = chunk_message c.args.chunk in
    let before : Seen = record { standing = c.self.inside.standing; collector = c.self.inside.collector; whole = c.self.inside.whole } in
    let same : c.args.self.now ≡ before = sym c.self.view_is in
    let done = subst (λ (s : Seen). Completes r p m f chunk s) same completes in
    let bytes = c.as_slice-whole.ensures.value in
    let settled = settled_at before.standing InClear turns c.args.held done.standing in
    let known = chunk_known r p m chunk tt settled done.form done.asked_is in
    let handled = c.in-Answered.ensures.handled r turns f setup free done.standing tt in
    let taken = subst (λ (w : List ℕ). refusal r within w f ≡ None) bytes handled.0 in
    let takes = subst (λ (w : List ℕ). (t : Turn) → is_taken t ≡ true → t.effect ≡ request_effect r within w f → standing.StandsFor c.handle.new.self (t ∷ turns)) bytes handled.2 in
    let written = subst (λ (w : List ℕ). c.handle.new.out ≡ request_reply r within w f) bytes handled.3 in
    let response = c.as_slice-in-Answered.ensures.value ∙ written in
    let fits = subst (λ (a : List ℕ). length a + 6 ≤ MAX_MESSAGE_SIZE) (sym response) (reply_fits r p before.whole f known.0 known.1) in
    let other = subst (λ (w : List ℕ). (code_of w == PSK_EXCHANGE) ≡ false) bytes handled.4 in (
      turned_last_taken r InClear turns c.args.held m f chunk before c.handle.new.self c.write_acknowledgement-in-Answered.new.out done taken takes
          (c.write_acknowledgement-in-Answered.ensures fits ∙ ap (acknowledged chunk) response),
      last_taken_takes_none r p m f chunk before done taken other,
      ap (λ (n : ℕ). n == GET_MEASUREMENTS) (handled.5 ∙ ap code_of bytes) ∙ sym (last_taken_draws r p m f chunk before done taken ∙ draws_beside (code_of before.whole) other),
      asked-code p m (ChunkSend chunk) done.asked_is,
    )

pub returns-in-Exchange-clause-come : goal.returns-in-Exchange-clause-come
returns-in-Exchange-clause-come c = λ r turns m f setup free completes.
    let p : Place = place_at InClear turns c.args.held in
    let within : Place = place_at InChunks turns c.args.held in
    let chunk : ChunkMessage = chunk_message c.args.chunk in
    let before : Seen = record { standing = c.self.inside.standing; collector = c.self.inside.collector; whole = c.self.inside.whole } in
    let same : c.args.self.now ≡ before = sym c.self.view_is in
    let done = subst (λ (s : Seen). Completes r p m f chunk s) same completes in
    let bytes = c.as_slice-whole.ensures.value in
    let settled = settled_at before.standing InClear turns c.args.held done.standing in
    let known = chunk_known r p m chunk tt settled done.form done.asked_is in
    let handled = c.in-Exchange.ensures.handled r turns f setup free done.standing tt in
    record {
      chunk = chunk;
      handle_is = refl;
      number_is = refl;
      completes = subst (λ (s : standing.Seen). Completes r p m f chunk (standing_now before s)) (sym handled.3) done;
      exchange = exchange_message c.in-Exchange.field-0;
      form = subst (λ (w : List ℕ). refused_form r within w ≡ None) bytes handled.0;
      asked_is = subst (λ (w : List ℕ). request_at within w ≡ Some (PskExchange (exchange_message c.in-Exchange.field-0))) bytes handled.2;
      refused = subst (λ (w : List ℕ). refusal r within w f ≡ None) bytes handled.1;
    }

pub returns-in-Chunk-clause-come : goal.returns-in-Chunk-clause-come
returns-in-Chunk-clause-come c = λ r turns m f setup free completes.
    let p : Place = place_at InClear turns c.args.held in
    let within : Place = place_at InChunks turns c.args.held in
    let chunk : ChunkMessage = chunk_message c.args.chunk in
    let before : Seen = record { standing = c.self.inside.standing; collector = c.self.inside.collector; whole = c.self.inside.whole } in
    let same : c.args.self.now ≡ before = sym c.self.view_is in
    let done = subst (λ (s : Seen). Completes r p m f chunk s) same completes in
    let bytes = c.as_slice-whole.ensures.value in
    let settled = settled_at before.standing InClear turns c.args.held done.standing in
    let known = chunk_known r p m chunk tt settled done.form done.asked_is in
    let handled = c.in-Chunk.ensures.handled r turns f setup free done.standing tt in
    absurd (no_chunk_inside r p c.as_slice-whole.result.now (chunk_message c.in-Chunk.field-0) handled.0 handled.1)
