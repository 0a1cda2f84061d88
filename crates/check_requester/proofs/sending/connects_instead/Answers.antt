use Rattle.std.proofs.Common.{◌≡◌, List, subst}
use Rattle.std.specs.Bool.{Decides}
use Rattle.std.proofs.lemmas.Bool.Decides.{Decides-eqb}
use Rattle.std.proofs.lemmas.Slice.Eq.{slice_eq-Decides}
use Rattle.check_laws.proofs.Connecting.{some_values}
use Rattle.check_requester.proofs.SentBy.{connected}
use Rattle.check_requester.proofs.sending.connects_instead.Goals as goal
use Rattle.capture_machine.specs.Rounds.{no_draw}

pub returns : goal.returns
returns c = λ q bare sent set_up took stands.
    connected q bare (some_values q bare) c.restart_instead.result c.restart_instead.new.out c.args.body.now c.restart_instead.new.self c.eq.result set_up
    (c.restart_instead.ensures q bare sent (some_values q bare) no_draw took stands)
    (subst (λ (l : List _). Decides c.eq.result (l ≡ c.args.body.now)) c.as_slice.ensures.value (slice_eq-Decides Decides-eqb _ _ _ c.eq.ensures))
