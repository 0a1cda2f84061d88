use Rattle.std.proofs.Common.{◌≡◌, ◌∙◌, ℕ, [], drop, unwrap_or, ap}
use Rattle.std.proofs.lemmas.Option.{same_Some}
use Rattle.chunking.specs.Cutting.{chunks_of}
use Rattle.responder_machine.specs.LargeMessages.{given_of, handle_of}
use Rattle.responder_rules.proofs.Replaced.{replaced}
use Rattle.responder_rules.specs.LargeAnswer.{Seen}
use Rattle.responder_rules.proofs.large_answer.LargeAnswer.put.Goals as goal

pub returns-in-Some : goal.returns-in-Some
returns-in-Some c = λ turns least large stands pending.
    let answer = c.args.answer.now in
    let new : Seen = record { left = unwrap_or c.splitter_at-self-inside.result []; next = c.self.inside.next } in
    let same : ◌≡◌ {A = ℕ × ℕ} (c.in-Some.handle, c.in-Some.number) (handle_of turns, given_of turns) = same_Some _ _ (c.in-Some.ensures c.args.transfer turns stands pending) in
    replaced c.args.self.now new c.args.transfer turns answer stands pending
    (c.splitter_at-self-inside.ensures least large ∙ (λ i. drop (same i).1 (chunks_of c.args.transfer (same i).0 answer))) (ap (λ (s : Seen). s.next) c.self.view_is)
