use Rattle.std.proofs.Common.{◌∙◌, ◌≢◌, arith, subst, sym}
use Rattle.requester_core.proofs.in_sessions.sessions.Sessions.wipe.Goals as goal
use Rattle.requester_core.specs.Wiped.{IsWipedSlot}
use Rattle.requester_core.specs.declared.in_sessions.slot.Slot.{Slot}

pub returns : goal.returns
returns c =
    let one_two : 1 ≢ 2 = omega arith in
    let one_three : 1 ≢ 3 = omega arith in
    let one_four : 1 ≢ 4 = omega arith in
    let two_three : 2 ≢ 3 = omega arith in
    let two_four : 2 ≢ 4 = omega arith in
    let three_four : 3 ≢ 4 = omega arith in
    record {
      first = subst (λ (x : Slot). IsWipedSlot x) (sym (c.wipe_at-4.ensures.others 1 one_four ∙ c.wipe_at-3.ensures.others 1 one_three ∙ c.wipe_at-2.ensures.others 1 one_two)) c.wipe_at.ensures.own;
      second = subst (λ (x : Slot). IsWipedSlot x) (sym (c.wipe_at-4.ensures.others 2 two_four ∙ c.wipe_at-3.ensures.others 2 two_three)) c.wipe_at-2.ensures.own;
      third = subst (λ (x : Slot). IsWipedSlot x) (sym (c.wipe_at-4.ensures.others 3 three_four)) c.wipe_at-3.ensures.own;
      fourth = c.wipe_at-4.ensures.own;
    }
