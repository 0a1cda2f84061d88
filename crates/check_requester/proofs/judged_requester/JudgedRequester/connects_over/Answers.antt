use Rattle.std.proofs.Common.{refl}
use Rattle.check_requester.proofs.LargeOver.{connected_over}
use Rattle.check_requester.proofs.judged_requester.JudgedRequester.connects_over.Goals as goal

pub returns : goal.returns
returns c = λ w q older earlier s own keeps number asker.
    connected_over q s own.begins.0 own.stands.0 own.begins.1 own.stands.1 c.args.self.now asker c.args.number number c.connect_over.new.self c.connect_over.result c.connect_over.new.out
    (record { told = c.connect_over.ensures.told; owed = c.connect_over.ensures.owed }) _ refl refl refl
