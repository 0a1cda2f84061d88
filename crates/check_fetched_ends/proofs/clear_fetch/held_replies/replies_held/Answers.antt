use Rattle.std.proofs.Common.{◌≡◌, ◌≢◌, ◌∙◌, ◌<◌, ◌-◌, ◌^◌, ℕ, List, Bool, true, false, Option, Some, Ok, Err, Result, drop, refl, sym, ap, subst}
use Rattle.std.specs.Prelude.{IfOk}
use Rattle.spdm_basis.specs.declared.OutOfMemory.{OutOfMemory}
use Rattle.check_ends.proofs.InTurn.{answers_in_turn}
use Rattle.check_laws.specs.Keeping.{restored}
use Rattle.check_laws.specs.Order.{body_in}
use Rattle.check_laws.specs.RepliesShown.{responder_for}
use Rattle.check_fetched_ends.proofs.HeldJudged.{awaits, behind_took, body_is, heard_as, newly_is, next_same, next_took, not_version, round_is, same_asks, same_on, shown_as, tag_is, took_asks, took_on, took_quiet}
use Rattle.check_fetched_ends.proofs.HeldOn.{few}
use Rattle.check_fetched_ends.proofs.HeldSame.{quiet}
use Rattle.check_fetched_ends.proofs.HeldTold.{refused_told}
use Rattle.check_fetched_ends.specs.Held.{IsHeardHeld, IsHeldIn, IsShownHeld}
use Rattle.check_fetched_ends.specs.declared.clear_fetch.shown.Shown.{Shown}
use Rattle.check_fetched_ends.specs.declared.upon.Upon.{Upon}
use Rattle.check_fetched_ends.specs.declared.upon.Upon.TheVariants as upon
use Rattle.check_late_laws.specs.Fetching.{Fetching}
use Rattle.requester_machine.specs.May.{IsSetUp}
use Rattle.capture_machine.specs.Rounds.{Dialogue}
use Rattle.spdm_grammar.specs.declared.told.why.Why as declared_why
use Rattle.check_fetched_ends.proofs.clear_fetch.held_replies.replies_held.Goals as goal

-- GET_VERSION came.
stays_on : {A : Type 0} (x : Result (Result Upon declared_why.Why) OutOfMemory) (s t : A) → IfOk x (λ told. (told ≡ Ok upon.Ended → ⊥) → t ≡ s) → IfOk x (λ told. (told ≡ Ok upon.Fetched → ⊥) → (told ≡ Ok upon.Ended → ⊥) → t ≡ s)
stays_on (Ok told) s t is = λ fetched ended. is ended
stays_on (Err e) s t is = is

pub returns-then-asks_version-clause-told : goal.returns-then-asks_version-clause-told
returns-then-asks_version-clause-told c w q older rows f route own less byte now set_up none kept stands =
    let answer : List ℕ = c.args.answer.now in
    let turn = answers_in_turn f.kept route answer none in
    let body = c.body-body.ensures ∙ ap body_in (now ∙ turn.answers.0) in
    let version = sym (c.asks_version.ensures.0 c.if-asks_version.true ∙ body) in
    c.ends_by_version.ensures.told w q older rows f route c.args.held.now turn.round own less now turn.answers.0 version set_up none kept stands

pub returns-then-asks_version-clause-stays : goal.returns-then-asks_version-clause-stays
returns-then-asks_version-clause-stays c = stays_on c.ends_by_version.result c.args.table.now c.ends_by_version.new.table c.ends_by_version.ensures.stays

pub returns-in_ok-hears_on-in-Same-clause-told : goal.returns-in_ok-hears_on-in-Same-clause-told
returns-in_ok-hears_on-in-Same-clause-told c w q older rows f route own less byte now set_up none kept stands =
    let answer : List ℕ = c.args.answer.now in
    let party = c.args.party.now in
    let held = c.args.held.now in
    let turn = answers_in_turn f.kept route answer none in
    let limits = subst IsSetUp (sym kept.beside.asker.setup) kept.beside.asker.kept.limits in
    let other = not_version f route answer turn c.args.round.now now c.body-body.result.now c.body-body.ensures c.asks_version.result c.asks_version.ensures c.if-asks_version.false in
    let body = body_is f route answer turn c.args.round.now now c.body-body.result.now c.body-body.ensures in
    let tag = tag_is f route answer turn c.args.round.now now c.tag.result c.tag.ensures in
    let told = subst (λ (s : Shown). IsShownHeld held turn.round.tag turn.round.body answer s) c.in-Same.is (shown_as w q older rows f own party held kept route answer limits turn other c.tag.result c.body-body.result.now c.shows.result tag body c.shows.ensures) in
    let blocks = c.blocks_are_few.ensures (responder_for w f.kept) set_up in
    let asks = same_asks w q older rows f own party held kept route answer limits turn other told blocks in
    let new = c.hears_on.new.party in
    let table = c.hears_on.new.table in
    let next : Fetching = next_same w q older rows f own party held kept route answer limits turn other new table in
    let heard = heard_as (IsHeardHeld party new table w q older rows f next) c.hears_on.result c.in_ok-hears_on-in-Same.field-0
    (c.hears_on.ensures.told w q older rows f route held f.kept.responder turn.round own less turn.answers.0 (round_is f route answer turn c.args.round.now now) turn.answers.1 kept (awaits w q older rows f own party held kept route answer limits turn other) asks.0 asks.1 (quiet w q older rows f own party held kept route answer limits turn other told.0 blocks told.1) stands)
    c.in_ok-hears_on-in-Same.was in
    same_on w q older rows f own party held kept route answer limits turn other new table told blocks heard

pub returns-in_ok-hears_on-in-Between-clause-told : goal.returns-in_ok-hears_on-in-Between-clause-told
returns-in_ok-hears_on-in-Between-clause-told c w q older rows f route own less byte now set_up none kept stands =
    let answer : List ℕ = c.args.answer.now in
    let party = c.args.party.now in
    let held = c.args.held.now in
    let turn = answers_in_turn f.kept route answer none in
    let limits = subst IsSetUp (sym kept.beside.asker.setup) kept.beside.asker.kept.limits in
    let other = not_version f route answer turn c.args.round.now now c.body-body.result.now c.body-body.ensures c.asks_version.result c.asks_version.ensures c.if-asks_version.false in
    let body = body_is f route answer turn c.args.round.now now c.body-body.result.now c.body-body.ensures in
    let tag = tag_is f route answer turn c.args.round.now now c.tag.result c.tag.ensures in
    let told = subst (λ (s : Shown). IsShownHeld held turn.round.tag turn.round.body answer s) c.in-Between.is (shown_as w q older rows f own party held kept route answer limits turn other c.tag.result c.body-body.result.now c.shows.result tag body c.shows.ensures) in
    let asks = took_asks w q older rows f own party held kept route answer limits turn other told in
    let new = c.hears_on-in-Between.new.party in
    let table = c.hears_on-in-Between.new.table in
    let next : Fetching = next_took w q older rows f own party held kept route answer limits turn other told in
    let heard = heard_as (IsHeardHeld party new table w q older rows f next) c.hears_on-in-Between.result c.in_ok-hears_on-in-Between.field-0
    (c.hears_on-in-Between.ensures.told w q older rows f route held (behind_took w q older rows f own party held kept route answer limits turn other told) turn.round own less turn.answers.0 (round_is f route answer turn c.args.round.now now) turn.answers.1 kept (awaits w q older rows f own party held kept route answer limits turn other) asks.0 asks.1 (took_quiet w q older rows f own party held kept route answer limits turn other told) stands)
    c.in_ok-hears_on-in-Between.was in
    let second = tag_is f route answer turn c.args.round.now now c.tag-in-Between.result c.tag-in-Between.ensures in
    let newly = c.takes.new.self in
    let is = newly_is w q older rows f own party held kept route answer limits turn other told newly c.tag-in-Between.result c.body-body.result.now second body c.takes.ensures.same c.takes.ensures.newest c.takes.ensures.came in
    took_on w q older rows f own party held kept route answer limits turn other told new newly table heard is

pub returns-in-Last-clause-told : goal.returns-in-Last-clause-told
returns-in-Last-clause-told c w q older rows f route own less byte now set_up none kept stands =
    let answer : List ℕ = c.args.answer.now in
    let party = c.args.party.now in
    let held = c.args.held.now in
    let turn = answers_in_turn f.kept route answer none in
    let limits = subst IsSetUp (sym kept.beside.asker.setup) kept.beside.asker.kept.limits in
    let other = not_version f route answer turn c.args.round.now now c.body-body.result.now c.body-body.ensures c.asks_version.result c.asks_version.ensures c.if-asks_version.false in
    let body = body_is f route answer turn c.args.round.now now c.body-body.result.now c.body-body.ensures in
    let tag = tag_is f route answer turn c.args.round.now now c.tag.result c.tag.ensures in
    let told = subst (λ (s : Shown). IsShownHeld held turn.round.tag turn.round.body answer s) c.in-Last.is (shown_as w q older rows f own party held kept route answer limits turn other c.tag.result c.body-body.result.now c.shows.result tag body c.shows.ensures) in
    c.ends_by_chunk.ensures.told w q older rows f route turn.round own less byte now turn.answers.0 other told set_up none kept stands

pub returns-in-Last-clause-stays : goal.returns-in-Last-clause-stays
returns-in-Last-clause-stays c = stays_on c.ends_by_chunk.result c.args.table.now c.ends_by_chunk.new.table c.ends_by_chunk.ensures.stays

pub returns-in-Other-clause-told : goal.returns-in-Other-clause-told
returns-in-Other-clause-told c w q older rows f route own less byte now set_up none kept stands =
    let answer : List ℕ = c.args.answer.now in
    let party = c.args.party.now in
    let held = c.args.held.now in
    let turn = answers_in_turn f.kept route answer none in
    let limits = subst IsSetUp (sym kept.beside.asker.setup) kept.beside.asker.kept.limits in
    let other = not_version f route answer turn c.args.round.now now c.body-body.result.now c.body-body.ensures c.asks_version.result c.asks_version.ensures c.if-asks_version.false in
    let body = body_is f route answer turn c.args.round.now now c.body-body.result.now c.body-body.ensures in
    let tag = tag_is f route answer turn c.args.round.now now c.tag.result c.tag.ensures in
    let told = subst (λ (s : Shown). IsShownHeld held turn.round.tag turn.round.body answer s) c.in-Other.is (shown_as w q older rows f own party held kept route answer limits turn other c.tag.result c.body-body.result.now c.shows.result tag body c.shows.ensures) in
    let r = responder_for w f.kept in
    let d : Dialogue = record (restored f.kept) { responder = kept.before.left } in
    let small = few w q older rows f own party held kept less in
    let new = record party { answerer = c.reply_why.new.self } in
    let why = c.reply_why.ensures.told r d turn.round kept.before.stands small kept.before.keys (sym body) in
    refused_told w q older rows f own party held kept route answer turn new (IsHeldIn new held w q) c.args.table.now other told d c.reply_why.result refl why
