use Rattle.c_attestor.proofs.Opened.{opened, sets_up}
use Rattle.c_attestor.proofs.attestor_set_up.open_attestor.Goals as goal

pub returns-in-Ok-new-clause-opened : goal.returns-in-Ok-new-clause-opened
returns-in-Ok-new-clause-opened c =
    opened c.in-Ok-new.made.value c.args.config.now c.in-Ok.own c.args.text.now c.in-Ok-policy_of.policy c.in-Ok.ensures.set c.in-Ok-policy_of.ensures.says c.in-Ok-new.ensures.stands c.in-Ok-new.ensures.sends

pub returns-in-Err-Bad-clause-fault : goal.returns-in-Err-Bad-clause-fault
returns-in-Err-Bad-clause-fault c =
    let bad = rw c.in-Err-Bad.field-0-is at c.in-Err-Bad.ensures.unread in
    (sets_up c.args.config.now c.in-Ok.own c.in-Ok.ensures.words c.in-Ok.ensures.set c.in-Ok.ensures.sound, bad)
