use Rattle.std.proofs.Common.{◌≡◌, ◌<◌, ◌-◌, ◌^◌, ◌∙◌, refl, ap, is_some, length, arith}
use Rattle.check_requester.proofs.FetchesUpon.{owing_fetches, sending_fetches, silent_fetches}
use Rattle.check_requester.proofs.HearsKept.{deaf_accepted, deaf_asker, heard_accepted, heard_asker, heard_still}
use Rattle.check_requester.proofs.OwedTook.{kept_few, kept_short}
use Rattle.check_requester.proofs.judged_requester.JudgedRequester.hears.Goals as goal

-- ---- While it owes a message.

pub returns-then-self-clause-kept : goal.returns-then-self-clause-kept
returns-then-self-clause-kept c = λ w q older k behind round keeps few is one asker.
    deaf_asker w q older k behind round c.args.tag c.args.answer.now keeps is one c.args.self.now asker c.if-self.true

pub returns-then-self-clause-accepted : goal.returns-then-self-clause-accepted
returns-then-self-clause-accepted c = λ w q older k round keeps few is one asker.
    deaf_accepted w q older k k.responder round c.args.tag c.args.answer.now keeps is one c.args.self.now asker c.if-self.true

pub returns-then-self-clause-fetches : goal.returns-then-self-clause-fetches
returns-then-self-clause-fetches c = λ w q older k round keeps few is one asker waits.
    owing_fetches w q older k round c.args.tag c.args.answer.now keeps is one c.args.self.now asker c.args.awaits waits c.if-self.true

-- ---- Where it sends nothing upon it.

pub returns-then-not-self-clause-kept : goal.returns-then-not-self-clause-kept
returns-then-not-self-clause-kept c = λ w q older k behind round keeps few is one asker.
    let short : length k.requester < 2 ^ 64 - 2 = (let s = kept_short w q older k keeps in omega (arith, s, few)) in
    heard_asker w q older k behind round c.args.tag c.args.answer.now keeps is one c.args.self.now _ asker c.if-self.false refl short
    (λ p h limits less stands. heard_still p h c.args.tag c.args.answer.now c.hear-self.new.room _ c.hear-self.result c.hear-self.new.asking _ (c.hear-self.ensures p h limits (omega (arith, less)) stands) c.if-not-self.true less
    (λ l long here. c.awaits_still-fetches.ensures.stands p l limits long here))

pub returns-then-not-self-clause-accepted : goal.returns-then-not-self-clause-accepted
returns-then-not-self-clause-accepted c = λ w q older k round keeps few is one asker.
    heard_accepted w q older k k.responder round c.args.tag c.args.answer.now keeps is one c.args.self.now (record c.args.self.now { asking = c.hear-self.new.asking; room = c.hear-self.new.room; owes = c.hear-self.result }) c.is_some-in_session.result c.awaited_anew-accepted.result asker c.if-self.false
    (kept_few w q older k keeps few) c.hear-self.ensures (λ p h stands. c.is_some-in_session.ensures ∙ ap is_some (c.session_awaited.ensures p h stands)) c.awaited_anew-accepted.ensures

pub returns-then-not-self-clause-fetches : goal.returns-then-not-self-clause-fetches
returns-then-not-self-clause-fetches c = λ w q older k round keeps few is one asker waits.
    silent_fetches w q older k round c.args.tag c.args.answer.now keeps is one c.args.self.now asker c.if-self.false few c.hear-self.result c.hear-self.new.asking c.hear-self.new.room c.hear-self.ensures
    c.args.awaits c.awaits_still-fetches.result waits c.if-not-self.true c.awaits_still-fetches.ensures.waits

-- ---- And where it sends something.

pub returns-clause-kept : goal.returns-clause-kept
returns-clause-kept c = λ w q older k behind round keeps few is one asker.
    let short : length k.requester < 2 ^ 64 - 2 = (let s = kept_short w q older k keeps in omega (arith, s, few)) in
    heard_asker w q older k behind round c.args.tag c.args.answer.now keeps is one c.args.self.now _ asker c.if-self.false refl short (λ p h limits less stands. c.hear-self.ensures p h limits (omega (arith, less)) stands)

pub returns-clause-accepted : goal.returns-clause-accepted
returns-clause-accepted c = λ w q older k round keeps few is one asker.
    heard_accepted w q older k k.responder round c.args.tag c.args.answer.now keeps is one c.args.self.now (record c.args.self.now { asking = c.hear-self.new.asking; room = c.hear-self.new.room; owes = c.hear-self.result }) c.is_some-in_session.result c.awaited_anew-accepted.result asker c.if-self.false
    (kept_few w q older k keeps few) c.hear-self.ensures (λ p h stands. c.is_some-in_session.ensures ∙ ap is_some (c.session_awaited.ensures p h stands)) c.awaited_anew-accepted.ensures

pub returns-clause-fetches : goal.returns-clause-fetches
returns-clause-fetches c = λ w q older k round keeps few is one asker waits.
    sending_fetches w q older k round c.args.tag c.args.answer.now keeps is one c.args.self.now asker c.if-self.false few c.hear-self.result c.hear-self.new.asking c.hear-self.new.room c.hear-self.ensures c.asks_chunk-fetches.result c.if-not-self.false
    c.asks_chunk-fetches.ensures
