use Rattle.std.proofs.Common.{refl}
use Rattle.check_requester.proofs.judged_requester.JudgedRequester.new.Goals as goal

pub returns : goal.returns
returns c = λ q set_up limits key. record {
  kept = c.in_ok-kept.ensures q set_up limits key;
  setup = refl;
  stands = c.in_ok-asking.ensures q set_up.max;
  owes = refl;
}
