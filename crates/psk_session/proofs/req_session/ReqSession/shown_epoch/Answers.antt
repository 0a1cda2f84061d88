use Rattle.std.proofs.Common.{◌∙◌, sym, []}
use Rattle.std.proofs.lemmas.Bool.{false≢true}
use Rattle.psk_session.proofs.Standings.{open_calm}
use Rattle.psk_session.proofs.req_session.ReqSession.shown_epoch.Goals as goal

pub returns-then-is_of_all-clause-opened : goal.returns-then-is_of_all-clause-opened
returns-then-is_of_all-clause-opened c = λ is.
    absurd (false≢true (sym (open_calm c.args.self.now.standing is) ∙ sym (c.is_of_all.ensures []) ∙ c.if-is_of_all.true))
