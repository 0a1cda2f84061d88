use Rattle.std.proofs.Common.{Bool, ap, subst}
use Rattle.requester_core.specs.OwnRecords.{OpensAs, awaits_record}
use Rattle.requester_machine.specs.Named.{session_named}
use Rattle.check_requester.proofs.SealedJudged.{shut}
use Rattle.check_requester.proofs.sealed_commands.sends_sealed.Goals as goal

pub returns-then-not-open_next : goal.returns-then-not-open_next
returns-then-not-open_next c = λ q h kept short fits none stands.
    let opens = c.open_next.ensures.resting q h stands short (ap awaits_record none) in
    shut c.args.asking.now q h c.args.sealed.now stands none fits c.open_next.new.out c.args.asking.now
    (subst (λ (b : Bool). OpensAs q.psk (session_named h c.args.sealed.now) c.args.sealed.now b c.open_next.new.out) c.if-not-open_next.true opens)

pub returns : goal.returns
returns c = λ q h kept short fits none stands.
    let opens = c.open_next.ensures.resting q h stands short (ap awaits_record none) in
    c.sends_opened.ensures q h kept short fits none stands
    (subst (λ (b : Bool). OpensAs q.psk (session_named h c.args.sealed.now) c.args.sealed.now b c.open_next.new.out) c.if-not-open_next.false opens)
