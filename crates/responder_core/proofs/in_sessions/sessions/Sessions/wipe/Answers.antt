use Rattle.std.proofs.Common.{◌∙◌, ◌≢◌, arith}
use Rattle.responder_core.proofs.in_sessions.sessions.Sessions.wipe.Goals as goal

pub returns : goal.returns
returns c =
    let one_two : 1 ≢ 2 = omega arith in
    let one_three : 1 ≢ 3 = omega arith in
    let one_four : 1 ≢ 4 = omega arith in
    let two_three : 2 ≢ 3 = omega arith in
    let two_four : 2 ≢ 4 = omega arith in
    let three_four : 3 ≢ 4 = omega arith in
    record {
      first = c.empty-4.ensures.others 1 one_four ∙ c.empty-3.ensures.others 1 one_three ∙ c.empty-2.ensures.others 1 one_two ∙ c.empty.ensures.own;
      second = c.empty-4.ensures.others 2 two_four ∙ c.empty-3.ensures.others 2 two_three ∙ c.empty-2.ensures.own;
      third = c.empty-4.ensures.others 3 three_four ∙ c.empty-3.ensures.own;
      fourth = c.empty-4.ensures.own;
    }
