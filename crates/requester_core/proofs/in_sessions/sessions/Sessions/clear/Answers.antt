use Rattle.std.proofs.Common.{◌∙◌, ◌≢◌, arith}
use Rattle.requester_core.proofs.SessionsAsked.{all_empty, cleared}
use Rattle.requester_core.proofs.in_sessions.sessions.Sessions.clear.Goals as goal

pub returns : goal.returns
returns c =
    let one_two : 1 ≢ 2 = omega arith in
    let one_three : 1 ≢ 3 = omega arith in
    let one_four : 1 ≢ 4 = omega arith in
    let two_three : 2 ≢ 3 = omega arith in
    let two_four : 2 ≢ 4 = omega arith in
    let three_four : 3 ≢ 4 = omega arith in
    λ q h f d sent adds.
    cleared c.empty-4.new.self q h f d sent adds
    (all_empty c.empty-4.new.self
    (c.empty-4.ensures.others 1 one_four ∙ c.empty-3.ensures.others 1 one_three ∙ c.empty-2.ensures.others 1 one_two ∙ c.empty.ensures.own)
    (c.empty-4.ensures.others 2 two_four ∙ c.empty-3.ensures.others 2 two_three ∙ c.empty-2.ensures.own)
    (c.empty-4.ensures.others 3 three_four ∙ c.empty-3.ensures.own)
    c.empty-4.ensures.own)
