use Rattle.std.proofs.Common.{◌≡◌, ◌+◌, ◌++◌, ◌≤◌, subst, List, ℕ, length}
use Rattle.responder_core.proofs.Reached.{versioned}
use Rattle.responder_core.proofs.clear.negotiating.Negotiating.take_version.Goals as goal

pub returns : goal.returns
returns c = λ r p f turns t large is answered effect.
    let request = c.args.request.now in
    let answer = c.args.answer.now in
    let kept = subst (λ (before : List ℕ). length before + length request + length answer ≤ 8768 → c.keep.new.messages ≡ before ++ request ++ answer) c.clear.ensures c.keep.ensures in
    versioned r p f request answer c.keep.new.messages large turns t kept is answered effect
