use Rattle.std.proofs.Common.{ℕ, List, subst}
use Rattle.std.specs.Prelude.{None, Some, unwrap_or}
use Rattle.check_requester.proofs.SealedJudged.{asks_it, number_as, told, untold}
use Rattle.check_requester.proofs.sealed_commands.sends_opened.Goals as goal
use Rattle.check_requester.specs.SealedTold.{TellsCommand, command_told}

pub returns-in-Some : goal.returns-in-Some
returns-in-Some c = λ q h kept short fits none stands opens.
    let sealed = c.args.sealed.now in
    let tells = subst (λ (l : List ℕ). TellsCommand (Some c.in-Some.command) (command_told c.session_number-session.result l)) c.as_slice.ensures.value c.in-Some.ensures in
    let its = asks_it c.args.asking.now q h sealed stands none fits c.args.inner.now opens c.named-named.result (c.named-named.ensures q h stands short) c.session_number-session.result (number_as c.session_number-session.result c.unwrap_or.result (unwrap_or c.named-named.result 0) c.unwrap_or.ensures (λ few. c.session_number-session.ensures few)) c.in-Some.command tells in
    told c.args.asking.now q h sealed stands none fits c.args.inner.now opens c.named-named.result (c.named-named.ensures q h stands short) c.session_number-session.result (number_as c.session_number-session.result c.unwrap_or.result (unwrap_or c.named-named.result 0) c.unwrap_or.ensures (λ few. c.session_number-session.ensures few)) c.in-Some.command c.seals.result c.seals.new.asking kept.limits tells
    (c.seals.ensures q h kept short fits stands its)

pub returns-in-None : goal.returns-in-None
returns-in-None c = λ q h kept short fits none stands opens.
    let sealed = c.args.sealed.now in
    let tells = subst (λ (l : List ℕ). TellsCommand None (command_told c.session_number-session.result l)) c.as_slice.ensures.value c.in-None.ensures in
    untold c.args.asking.now q h sealed stands none fits c.args.inner.now opens c.named-named.result (c.named-named.ensures q h stands short) c.session_number-session.result (number_as c.session_number-session.result c.unwrap_or.result (unwrap_or c.named-named.result 0) c.unwrap_or.ensures (λ few. c.session_number-session.ensures few)) c.args.asking.now tells
