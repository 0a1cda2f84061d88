use Rattle.std.proofs.Common.{◌≡◌, ◌∙◌, [], Bool, true, false, refl, subst, sym}
use Rattle.requester_machine.specs.Named.{session_named}
use Rattle.spdm_machine.specs.Bodies.{record_body}
use Rattle.check_requester.proofs.OwedTook.{kept_few}
use Rattle.check_requester.proofs.PlainJudged.{bare_plain, plain_asks, plain_why, shut_as}
use Rattle.check_requester.proofs.SealedJudged.{shut}
use Rattle.check_requester.proofs.judged_requester.JudgedRequester.judge_record.Goals as goal
use Rattle.check_requester.specs.Commanded.{IsSentByCommand}
use Rattle.capture_machine.specs.Opening.{opens_asking}

pub returns-then-not-opens_next : goal.returns-then-not-opens_next
returns-then-not-opens_next c = λ w q older k keeps few fits asker owed none.
    let sealed = c.args.sealed.now in
    let x = c.args.self.now.asking in
    let short = kept_few w q older k keeps few in
    let stands = bare_plain q k owed c.args.self.now asker in
    let opens : false ≡ opens_asking q (session_named k.requester sealed) sealed = sym c.if-not-opens_next.true ∙ c.opens_next.ensures.told q k.requester short stands in
    let shuts = shut_as x q k.requester sealed [] stands none opens in (
      plain_asks q k owed c.args.self.now asker c.args.self.now sealed none refl refl false (shut x q k.requester sealed stands none fits [] x shuts),
      plain_why q k owed c.args.self.now asker w older keeps sealed false opens,
    )

pub returns-then-sends_opened : goal.returns-then-sends_opened
returns-then-sends_opened c = λ w q older k keeps few fits asker owed none.
    let sealed = c.args.sealed.now in
    let short = kept_few w q older k keeps few in
    let stands = bare_plain q k owed c.args.self.now asker in
    let opened = c.opens_next.ensures.opened q k.requester short stands c.if-not-opens_next.false in
    plain_asks q k owed c.args.self.now asker _ sealed none refl refl true
    (subst (λ (b : Bool). IsSentByCommand q k.requester (record_body sealed) b c.sends_opened.new.asking) c.if-sends_opened.true (c.sends_opened.ensures q k.requester asker.kept short fits none stands opened))

pub returns-else-sends_opened : goal.returns-else-sends_opened
returns-else-sends_opened c = λ w q older k keeps few fits asker owed none.
    let sealed = c.args.sealed.now in
    let short = kept_few w q older k keeps few in
    let stands = bare_plain q k owed c.args.self.now asker in
    let opens : true ≡ opens_asking q (session_named k.requester sealed) sealed = sym c.if-not-opens_next.false ∙ c.opens_next.ensures.told q k.requester short stands in
    let opened = c.opens_next.ensures.opened q k.requester short stands c.if-not-opens_next.false in (
      plain_asks q k owed c.args.self.now asker c.args.self.now sealed none refl refl false
          (subst (λ (b : Bool). IsSentByCommand q k.requester (record_body sealed) b c.sends_opened.new.asking) c.if-sends_opened.false (c.sends_opened.ensures q k.requester asker.kept short fits none stands opened)),
      plain_why q k owed c.args.self.now asker w older keeps sealed true opens,
    )
