use Rattle.std.proofs.Common.{◌≡◌, ◌∙◌, sym, subst, ap, ℕ}
use Rattle.chunking.specs.Collecting.{collected}
use Rattle.chunking.specs.Keeping as keeping
use Rattle.chunking.specs.Keeping.{Kept}
use Rattle.responder_core.proofs.clear.requests.Requests.completes.Goals as goal
use Rattle.responder_core.specs.Coming.{Seen, StandsFor}
use Rattle.responder_core.specs.Gathering.{is_whole}
use Rattle.responder_machine.specs.LargeMessages.{chunks_of}
use Rattle.spdm_grammar.specs.Message.{ChunkMessage, chunk_message}

pub returns-in-Whole : goal.returns-in-Whole
returns-in-Whole c = λ r turns stands.
    let chunk : ChunkMessage = chunk_message c.args.chunk in
    let before : Seen = record { standing = c.self.inside.standing; collector = c.self.inside.collector; whole = c.self.inside.whole } in
    let same : c.args.self.now ≡ before = sym c.self.view_is in
    let stood = subst (λ (s : Seen). StandsFor s r turns) same stands in
    let copied = subst (λ (k : Kept). keeping.StandsFor k (chunks_of turns)) (sym c.copy-collector.ensures) stood.collector in
    let max = ap (λ (k : Kept). k.max) c.copy-collector.ensures ∙ stood.max in
    sym (c.in-Whole.ensures.answer (chunks_of turns) copied ∙ ap (λ (n : ℕ). collected n (chunks_of turns) chunk) max)

pub returns-in-More : goal.returns-in-More
returns-in-More c = λ r turns stands.
    let chunk : ChunkMessage = chunk_message c.args.chunk in
    let before : Seen = record { standing = c.self.inside.standing; collector = c.self.inside.collector; whole = c.self.inside.whole } in
    let same : c.args.self.now ≡ before = sym c.self.view_is in
    let stood = subst (λ (s : Seen). StandsFor s r turns) same stands in
    let copied = subst (λ (k : Kept). keeping.StandsFor k (chunks_of turns)) (sym c.copy-collector.ensures) stood.collector in
    let max = ap (λ (k : Kept). k.max) c.copy-collector.ensures ∙ stood.max in
    ap is_whole (sym (c.in-More.ensures.answer (chunks_of turns) copied ∙ ap (λ (n : ℕ). collected n (chunks_of turns) chunk) max))

pub returns-in-Refused : goal.returns-in-Refused
returns-in-Refused c = λ r turns stands.
    let chunk : ChunkMessage = chunk_message c.args.chunk in
    let before : Seen = record { standing = c.self.inside.standing; collector = c.self.inside.collector; whole = c.self.inside.whole } in
    let same : c.args.self.now ≡ before = sym c.self.view_is in
    let stood = subst (λ (s : Seen). StandsFor s r turns) same stands in
    let copied = subst (λ (k : Kept). keeping.StandsFor k (chunks_of turns)) (sym c.copy-collector.ensures) stood.collector in
    let max = ap (λ (k : Kept). k.max) c.copy-collector.ensures ∙ stood.max in
    ap is_whole (sym (c.in-Refused.ensures.answer (chunks_of turns) copied ∙ ap (λ (n : ℕ). collected n (chunks_of turns) chunk) max))
