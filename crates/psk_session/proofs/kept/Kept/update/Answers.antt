use Rattle.std.proofs.Common.{refl}
use Rattle.psk_session.proofs.Past.{keeps_updated}
use Rattle.psk_session.proofs.kept.Kept.update.Goals as goal

pub returns : goal.returns
returns c = λ psk s sealed inner answer keeps few.
    keeps_updated c.args.all sealed inner answer c.args.self.now _ psk s refl c.update.ensures c.next_behind_update-self.ensures keeps few
