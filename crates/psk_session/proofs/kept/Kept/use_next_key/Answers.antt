use Rattle.std.proofs.Common.{◌∙◌, sym, refl}
use Rattle.psk_session.specs.Waiting.{awaited_by}
use Rattle.psk_session.proofs.Past.{keeps_ahead}
use Rattle.psk_session.proofs.kept.Kept.use_next_key.Goals as goal

pub returns-then-is_of_all : goal.returns-then-is_of_all
returns-then-is_of_all c = λ psk s before keeps.
    keeps_ahead (awaited_by c.args.awaited before) c.args.self.now _ psk s
    (sym (c.is_of_all.ensures before) ∙ c.if-is_of_all.true)
    refl c.update.ensures keeps
