use Rattle.std.proofs.Common.{◌≡◌, ◌≢◌, ◌+◌, ◌∙◌, refl, sym, ap, subst, length, arith, List, ℕ, ◌∷◌, Result}
use Rattle.std.specs.Prelude.{OnOk, slice_index}
use Rattle.std.proofs.lemmas.Option.{same_Some}
use Rattle.spdm_basis.specs.declared.OutOfMemory.{OutOfMemory}
use Rattle.check_requester.proofs.FewMessages.{kept_messages}
use Rattle.check_ends.proofs.InTurn.{answers_in_turn}
use Rattle.check_requester.specs.JudgedRequester.{IsAsker}
use Rattle.check_requester.specs.HeardKept.{asks_upon, heard_kept}
use Rattle.check_ends.specs.declared.party.Party.{Party}
use Rattle.check_laws.specs.Keeping.{restored}
use Rattle.check_laws.specs.KeptChanges.{accepted_from}
use Rattle.check_laws.specs.Order.{body_in, tag_in}
use Rattle.check_laws.specs.RepliesShown.{responder_for}
use Rattle.check_laws.specs.Rows as rows_of
use Rattle.responder_core.specs.Connected as connected
use Rattle.responder_core.specs.declared.connected.Connection.{Connection}
use Rattle.check_fetched_ends.proofs.FrontApart.{unmarked_apart}
use Rattle.check_fetched_ends.proofs.FrontHeld.{marks_held}
use Rattle.check_fetched_ends.proofs.FrontMarked.{marked_not, unmarked_shown}
use Rattle.check_fetched_ends.proofs.HeldOn.{carries, few}
use Rattle.check_fetched_ends.proofs.HeldJudged.{awaits}
use Rattle.check_fetched_ends.proofs.LastEnds.{behind, behind_few, change_last, ended_on, moved_before, next, step_last}
use Rattle.check_fetched_ends.proofs.LastRefused.{refused_apart, refused_asking, refused_marked, refused_other}
use Rattle.check_fetched_ends.proofs.LastRound.{is_last, keys_behind, stands_behind}
use Rattle.check_fetched_ends.specs.Held.{AreHeldFitting, IsHeldIn, IsShownHeld, filled_with}
use Rattle.check_fetched_ends.specs.InSession.{filled}
use Rattle.check_fetched_ends.specs.LastHeld.{IsLastOf, IsLedSo, all_given, begun_if, left_by}
use Rattle.check_fetched_ends.specs.LastMarked.{begins_touched}
use Rattle.check_fetched_ends.specs.declared.clear_fetch.shown.Shown.TheVariants as shown
use Rattle.requester_machine.specs.May.{IsSetUp}
use Rattle.requester_machine.specs.Setup.{ReqSetup}
use Rattle.responder_machine.specs.History.{Entry}
use Rattle.responder_machine.specs.History.Entry.{Clear}
use Rattle.spdm_grammar.specs.Message.RequestMessage.{GetVersion}
use Rattle.spdm_grammar.specs.Requests.{canonical_request}
use Rattle.spdm_machine.specs.Bodies.{clear_body}
use Rattle.capture_machine.specs.Rounds.{Dialogue, Round, no_draw}
use Rattle.capture_machine.specs.SessionTable.{number_from, rows_between}
use Rattle.check_fetched_ends.proofs.clear_fetch.held_last.ends_by_chunk.Goals as goal

pub returns-in_default-clause-told : goal.returns-in_default-clause-told
returns-in_default-clause-told c = λ w q older rows f route of own below byte now is version shows set_up none kept stands.
    let answer : List ℕ = c.args.answer.now in
    let party = c.args.party.now in
    let held = c.args.held.now in
    let r = responder_for w f.kept in
    let turn = answers_in_turn f.kept route answer none in
    let same : of ≡ turn.round = same_Some of turn.round (sym is ∙ turn.answers.0) in
    let other = subst (λ (x : Round). x.body ≢ clear_body (canonical_request GetVersion)) same version in
    let told = subst (λ (x : Round). IsShownHeld held x.tag x.body answer shown.Last) same shows in
    let at_now = now ∙ turn.answers.0 in
    let body = c.body-body.ensures ∙ ap body_in at_now in
    let tag = c.tag-tag.ensures ∙ ap tag_in at_now in
    let small = few w q older rows f own party held kept below in
    let b = kept.before in
    let moved = moved_before party.answerer c.reply_why-why.new.self party.keys held r f.kept.responder c.reply_why-why.ensures.same b in
    let d : Dialogue = record (restored f.kept) { responder = b.left } in
    let why = c.reply_why-why.ensures.told r d turn.round b.stands small b.keys (sym body) in
    absurd (c.in_default.ensures (subst (AreHeldFitting held) (sym c.behind_type.ensures) told.1.fits))

pub returns-then-begins_touched-clause-told : goal.returns-then-begins_touched-clause-told
returns-then-begins_touched-clause-told c = λ w q older rows f route of own below byte now is version shows set_up none kept stands.
    let answer : List ℕ = c.args.answer.now in
    let party = c.args.party.now in
    let held = c.args.held.now in
    let r = responder_for w f.kept in
    let turn = answers_in_turn f.kept route answer none in
    let same : of ≡ turn.round = same_Some of turn.round (sym is ∙ turn.answers.0) in
    let other = subst (λ (x : Round). x.body ≢ clear_body (canonical_request GetVersion)) same version in
    let told = subst (λ (x : Round). IsShownHeld held x.tag x.body answer shown.Last) same shows in
    let at_now = now ∙ turn.answers.0 in
    let body = c.body-body.ensures ∙ ap body_in at_now in
    let tag = c.tag-tag.ensures ∙ ap tag_in at_now in
    let small = few w q older rows f own party held kept below in
    let b = kept.before in
    let moved = moved_before party.answerer c.reply_why-why.new.self party.keys held r f.kept.responder c.reply_why-why.ensures.same b in
    let d : Dialogue = record (restored f.kept) { responder = b.left } in
    let why = c.reply_why-why.ensures.told r d turn.round b.stands small b.keys (sym body) in
    let limits = subst IsSetUp (sym kept.beside.asker.setup) kept.beside.asker.kept.limits in
    let exchange = c.holds_exchange-exchange.ensures r f.kept.responder party.keys moved in
    let first : c.as_slice.result.now ≡ filled_with held answer = c.as_slice.ensures.value ∙ c.in-Some.ensures.1 ∙ ap (λ (l : List ℕ). filled held.answer.number held.answer.size held.answer.bytes l) c.behind_type.ensures in
    let mark = c.begins_touched.ensures b.before (marks_held held.late held.tag b.turn b.gets b.before f.kept.responder b.behind) ∙ ap (λ (l : List ℕ). begins_touched held.late c.holds_exchange-exchange.result l b.before) first in
    let marked = marked_not held.late c.holds_exchange-exchange.result held.tag b.turn b.before (filled_with held answer) b.unseen (sym exchange) (sym mark ∙ c.if-begins_touched.true) in
    let new : Party = record party { answerer = c.reply_why-why.new.self } in
    refused_marked w q older rows f own party held kept route answer limits turn other told.0 told.1 byte new (IsHeldIn new held w q) c.args.table.now marked d c.reply_why-why.result refl why

pub returns-in-Apart-clause-told : goal.returns-in-Apart-clause-told
returns-in-Apart-clause-told c = λ w q older rows f route of own below byte now is version shows set_up none kept stands.
    let answer : List ℕ = c.args.answer.now in
    let party = c.args.party.now in
    let held = c.args.held.now in
    let r = responder_for w f.kept in
    let turn = answers_in_turn f.kept route answer none in
    let same : of ≡ turn.round = same_Some of turn.round (sym is ∙ turn.answers.0) in
    let other = subst (λ (x : Round). x.body ≢ clear_body (canonical_request GetVersion)) same version in
    let told = subst (λ (x : Round). IsShownHeld held x.tag x.body answer shown.Last) same shows in
    let at_now = now ∙ turn.answers.0 in
    let body = c.body-body.ensures ∙ ap body_in at_now in
    let tag = c.tag-tag.ensures ∙ ap tag_in at_now in
    let small = few w q older rows f own party held kept below in
    let b = kept.before in
    let moved = moved_before party.answerer c.reply_why-why.new.self party.keys held r f.kept.responder c.reply_why-why.ensures.same b in
    let d : Dialogue = record (restored f.kept) { responder = b.left } in
    let why = c.reply_why-why.ensures.told r d turn.round b.stands small b.keys (sym body) in
    let limits = subst IsSetUp (sym kept.beside.asker.setup) kept.beside.asker.kept.limits in
    let asked : Entry = Clear held.tag b.turn no_draw in
    let fills : c.as_slice-2.result.now ≡ filled_with held answer = c.as_slice-2.ensures.value ∙ c.in-Some.ensures.1 ∙ ap (λ (l : List ℕ). filled held.answer.number held.answer.size held.answer.bytes l) c.behind_type.ensures in
    let handle : c.byte_at.result ≡ slice_index turn.round.body 4 = c.byte_at.ensures ∙ ap (λ (l : List ℕ). slice_index l 4) body in
    let exchange = c.holds_exchange-exchange.ensures r f.kept.responder party.keys moved in
    let last = is_last w q older rows f own party held kept turn.round turn.answers.0 other told.0 answer told.1 byte in
    let at = subst (λ (n : ℕ). IsLastOf held r b.before b.left asked n c.byte_at.result c.as_slice-2.result.now) (sym tag)
    (subst (λ (n : ℕ). IsLastOf held r b.before b.left asked turn.round.tag n c.as_slice-2.result.now) (sym handle)
    (subst (λ (l : List ℕ). IsLastOf held r b.before b.left asked turn.round.tag (slice_index turn.round.body 4) l) (sym fills) last)) in
    let first : c.as_slice.result.now ≡ filled_with held answer = c.as_slice.ensures.value ∙ c.in-Some.ensures.1 ∙ ap (λ (l : List ℕ). filled held.answer.number held.answer.size held.answer.bytes l) c.behind_type.ensures in
    let mark = c.begins_touched.ensures b.before (marks_held held.late held.tag b.turn b.gets b.before f.kept.responder b.behind) ∙ ap (λ (l : List ℕ). begins_touched held.late c.holds_exchange-exchange.result l b.before) first in
    let led = subst (λ (l : List ℕ). IsLedSo r b.before asked l c.leads_there.result) fills (c.leads_there.ensures.told r f.kept.responder party.keys moved (sym exchange) set_up small byte at) in
    let so = subst (IsLedSo r b.before asked (filled_with held answer)) c.in-Apart.is led in
    let new : Party = record party { answerer = c.leads_there.new.answerer } in
    let unmarked = unmarked_apart r byte held.tag b.turn b.before b.unseen (filled_with held answer) held.late c.holds_exchange-exchange.result (sym exchange) (sym mark ∙ c.if-begins_touched.false) so.1 in
    refused_apart w q older rows f own party held kept route answer limits turn other told.0 told.1 byte new (IsHeldIn new held w q) c.args.table.now so.0 so.1 unmarked

pub returns-in-Other-clause-told : goal.returns-in-Other-clause-told
returns-in-Other-clause-told c = λ w q older rows f route of own below byte now is version shows set_up none kept stands.
    let answer : List ℕ = c.args.answer.now in
    let party = c.args.party.now in
    let held = c.args.held.now in
    let r = responder_for w f.kept in
    let turn = answers_in_turn f.kept route answer none in
    let same : of ≡ turn.round = same_Some of turn.round (sym is ∙ turn.answers.0) in
    let other = subst (λ (x : Round). x.body ≢ clear_body (canonical_request GetVersion)) same version in
    let told = subst (λ (x : Round). IsShownHeld held x.tag x.body answer shown.Last) same shows in
    let at_now = now ∙ turn.answers.0 in
    let body = c.body-body.ensures ∙ ap body_in at_now in
    let tag = c.tag-tag.ensures ∙ ap tag_in at_now in
    let small = few w q older rows f own party held kept below in
    let b = kept.before in
    let moved = moved_before party.answerer c.reply_why-why.new.self party.keys held r f.kept.responder c.reply_why-why.ensures.same b in
    let d : Dialogue = record (restored f.kept) { responder = b.left } in
    let why = c.reply_why-why.ensures.told r d turn.round b.stands small b.keys (sym body) in
    let limits = subst IsSetUp (sym kept.beside.asker.setup) kept.beside.asker.kept.limits in
    let asked : Entry = Clear held.tag b.turn no_draw in
    let fills : c.as_slice-2.result.now ≡ filled_with held answer = c.as_slice-2.ensures.value ∙ c.in-Some.ensures.1 ∙ ap (λ (l : List ℕ). filled held.answer.number held.answer.size held.answer.bytes l) c.behind_type.ensures in
    let handle : c.byte_at.result ≡ slice_index turn.round.body 4 = c.byte_at.ensures ∙ ap (λ (l : List ℕ). slice_index l 4) body in
    let exchange = c.holds_exchange-exchange.ensures r f.kept.responder party.keys moved in
    let last = is_last w q older rows f own party held kept turn.round turn.answers.0 other told.0 answer told.1 byte in
    let at = subst (λ (n : ℕ). IsLastOf held r b.before b.left asked n c.byte_at.result c.as_slice-2.result.now) (sym tag)
    (subst (λ (n : ℕ). IsLastOf held r b.before b.left asked turn.round.tag n c.as_slice-2.result.now) (sym handle)
    (subst (λ (l : List ℕ). IsLastOf held r b.before b.left asked turn.round.tag (slice_index turn.round.body 4) l) (sym fills) last)) in
    let led = subst (λ (l : List ℕ). IsLedSo r b.before asked l c.leads_there.result) fills (c.leads_there.ensures.told r f.kept.responder party.keys moved (sym exchange) set_up small byte at) in
    let so = subst (IsLedSo r b.before asked (filled_with held answer)) c.in-Other.is led in
    let new : Party = record party { answerer = c.leads_there.new.answerer } in
    refused_other w q older rows f own party held kept route answer limits turn other told.0 told.1 byte new (IsHeldIn new held w q) c.args.table.now so.0 so.1 d c.reply_why-why.result refl why

pub returns-then-heard-clause-told : goal.returns-then-heard-clause-told
returns-then-heard-clause-told c = λ w q older rows f route of own below byte now is version shows set_up none kept stands.
    let answer : List ℕ = c.args.answer.now in
    let party = c.args.party.now in
    let held = c.args.held.now in
    let r = responder_for w f.kept in
    let turn = answers_in_turn f.kept route answer none in
    let same : of ≡ turn.round = same_Some of turn.round (sym is ∙ turn.answers.0) in
    let other = subst (λ (x : Round). x.body ≢ clear_body (canonical_request GetVersion)) same version in
    let told = subst (λ (x : Round). IsShownHeld held x.tag x.body answer shown.Last) same shows in
    let at_now = now ∙ turn.answers.0 in
    let body = c.body-body.ensures ∙ ap body_in at_now in
    let tag = c.tag-tag.ensures ∙ ap tag_in at_now in
    let small = few w q older rows f own party held kept below in
    let b = kept.before in
    let moved = moved_before party.answerer c.reply_why-why.new.self party.keys held r f.kept.responder c.reply_why-why.ensures.same b in
    let d : Dialogue = record (restored f.kept) { responder = b.left } in
    let why = c.reply_why-why.ensures.told r d turn.round b.stands small b.keys (sym body) in
    let limits = subst IsSetUp (sym kept.beside.asker.setup) kept.beside.asker.kept.limits in
    let asked : Entry = Clear held.tag b.turn no_draw in
    let fills : c.as_slice-2.result.now ≡ filled_with held answer = c.as_slice-2.ensures.value ∙ c.in-Some.ensures.1 ∙ ap (λ (l : List ℕ). filled held.answer.number held.answer.size held.answer.bytes l) c.behind_type.ensures in
    let handle : c.byte_at.result ≡ slice_index turn.round.body 4 = c.byte_at.ensures ∙ ap (λ (l : List ℕ). slice_index l 4) body in
    let exchange = c.holds_exchange-exchange.ensures r f.kept.responder party.keys moved in
    let last = is_last w q older rows f own party held kept turn.round turn.answers.0 other told.0 answer told.1 byte in
    let at = subst (λ (n : ℕ). IsLastOf held r b.before b.left asked n c.byte_at.result c.as_slice-2.result.now) (sym tag)
    (subst (λ (n : ℕ). IsLastOf held r b.before b.left asked turn.round.tag n c.as_slice-2.result.now) (sym handle)
    (subst (λ (l : List ℕ). IsLastOf held r b.before b.left asked turn.round.tag (slice_index turn.round.body 4) l) (sym fills) last)) in
    let led = subst (λ (l : List ℕ). IsLedSo r b.before asked l c.leads_there.result) fills (c.leads_there.ensures.told r f.kept.responder party.keys moved (sym exchange) set_up small byte at) in
    let so = subst (IsLedSo r b.before asked (filled_with held answer)) c.in-Whole.is led in
    let carried = carries w q older rows f own party held kept in
    let fetches = c.hears-heard.ensures.fetches w q older f.kept turn.round carried below turn.answers.0 (sym tag) kept.beside.asker (sym (awaits w q older rows f own party held kept route answer limits turn other)) in
    let asks = ap (λ (n : ℕ). asks_upon f.kept n answer) (sym turn.answers.1 ∙ sym tag) ∙ sym fetches ∙ c.if-heard.true in
    let new : Party = record party { answerer = c.leads_there.new.answerer; asker = c.hears-heard.new.self } in
    refused_asking w q older rows f own party held kept route answer limits turn other told.0 told.1 byte new (IsHeldIn new held w q) c.args.table.now so asks d c.reply_why-why.result refl why

pub returns-clause-told : goal.returns-clause-told
returns-clause-told c = λ w q older rows f route of own below byte now is version shows set_up none kept stands.
    let answer : List ℕ = c.args.answer.now in
    let party = c.args.party.now in
    let held = c.args.held.now in
    let r = responder_for w f.kept in
    let turn = answers_in_turn f.kept route answer none in
    let same : of ≡ turn.round = same_Some of turn.round (sym is ∙ turn.answers.0) in
    let other = subst (λ (x : Round). x.body ≢ clear_body (canonical_request GetVersion)) same version in
    let told = subst (λ (x : Round). IsShownHeld held x.tag x.body answer shown.Last) same shows in
    let at_now = now ∙ turn.answers.0 in
    let body = c.body-body.ensures ∙ ap body_in at_now in
    let tag = c.tag-tag.ensures ∙ ap tag_in at_now in
    let small = few w q older rows f own party held kept below in
    let b = kept.before in
    let moved = moved_before party.answerer c.reply_why-why.new.self party.keys held r f.kept.responder c.reply_why-why.ensures.same b in
    let d : Dialogue = record (restored f.kept) { responder = b.left } in
    let why = c.reply_why-why.ensures.told r d turn.round b.stands small b.keys (sym body) in
    let limits = subst IsSetUp (sym kept.beside.asker.setup) kept.beside.asker.kept.limits in
    let asked : Entry = Clear held.tag b.turn no_draw in
    let fills : c.as_slice-2.result.now ≡ filled_with held answer = c.as_slice-2.ensures.value ∙ c.in-Some.ensures.1 ∙ ap (λ (l : List ℕ). filled held.answer.number held.answer.size held.answer.bytes l) c.behind_type.ensures in
    let handle : c.byte_at.result ≡ slice_index turn.round.body 4 = c.byte_at.ensures ∙ ap (λ (l : List ℕ). slice_index l 4) body in
    let exchange = c.holds_exchange-exchange.ensures r f.kept.responder party.keys moved in
    let last = is_last w q older rows f own party held kept turn.round turn.answers.0 other told.0 answer told.1 byte in
    let at = subst (λ (n : ℕ). IsLastOf held r b.before b.left asked n c.byte_at.result c.as_slice-2.result.now) (sym tag)
    (subst (λ (n : ℕ). IsLastOf held r b.before b.left asked turn.round.tag n c.as_slice-2.result.now) (sym handle)
    (subst (λ (l : List ℕ). IsLastOf held r b.before b.left asked turn.round.tag (slice_index turn.round.body 4) l) (sym fills) last)) in
    let first : c.as_slice.result.now ≡ filled_with held answer = c.as_slice.ensures.value ∙ c.in-Some.ensures.1 ∙ ap (λ (l : List ℕ). filled held.answer.number held.answer.size held.answer.bytes l) c.behind_type.ensures in
    let mark = c.begins_touched.ensures b.before (marks_held held.late held.tag b.turn b.gets b.before f.kept.responder b.behind) ∙ ap (λ (l : List ℕ). begins_touched held.late c.holds_exchange-exchange.result l b.before) first in
    let led = subst (λ (l : List ℕ). IsLedSo r b.before asked l c.leads_there.result) fills (c.leads_there.ensures.told r f.kept.responder party.keys moved (sym exchange) set_up small byte at) in
    let so = subst (IsLedSo r b.before asked (filled_with held answer)) c.in-Whole.is led in
    let carried = carries w q older rows f own party held kept in
    let fetches = c.hears-heard.ensures.fetches w q older f.kept turn.round carried below turn.answers.0 (sym tag) kept.beside.asker (sym (awaits w q older rows f own party held kept route answer limits turn other)) in
    let idle = ap (λ (n : ℕ). asks_upon f.kept n answer) (sym turn.answers.1 ∙ sym tag) ∙ sym fetches ∙ c.if-heard.false in
    let unmarked = unmarked_shown r held.late c.holds_exchange-exchange.result held.tag b.turn b.before (filled_with held answer) b.unseen (sym exchange) (sym mark ∙ c.if-begins_touched.false) so in
    let all = c.leads_there.ensures.stands r f.kept.responder party.keys moved (sym exchange) set_up small byte at c.in-Whole.is in
    let conn = all.0 in
    let there = subst (λ (l : List ℕ). connected.StandsFor conn r (all_given turn.round.tag (slice_index turn.round.body 4) l (asked ∷ left_by b.before b.left asked l))) fills
    (subst (λ (n : ℕ). connected.StandsFor conn r (all_given turn.round.tag n c.as_slice-2.result.now (asked ∷ left_by b.before b.left asked c.as_slice-2.result.now))) handle
    (subst (λ (n : ℕ). connected.StandsFor conn r (all_given n c.byte_at.result c.as_slice-2.result.now (asked ∷ left_by b.before b.left asked c.as_slice-2.result.now))) tag all.1)) in
    let f_behind = behind w q older rows f own party held kept route answer limits turn other told.0 told.1 byte in
    let f_next = next w q older rows f own party held kept route answer limits turn other told.0 told.1 byte in
    let standing = subst (λ (x : Connection). connected.StandsFor x r f_behind) (sym all.2) (stands_behind w q older rows f own party held kept turn.round turn.answers.0 other told.0 answer told.1 byte so unmarked conn there) in
    let keys = keys_behind w q older rows f own party held kept turn.round turn.answers.0 other told.0 answer told.1 byte so unmarked party.keys b.keys in
    let messages = kept_messages w q older f.kept carried in
    let views = c.change-change.ensures.views r f_behind standing (behind_few w q older rows f own party held kept route answer limits turn other told.0 told.1 byte (omega (arith, messages, below))) in
    let accepted = c.change-change.ensures.accepted ∙ c.hears-heard.ensures.accepted w q older f.kept turn.round carried (omega (arith, below)) turn.answers.0 (sym tag) kept.beside.asker ∙ ap (λ (n : ℕ). accepted_from f.kept n answer) tag in
    let begun = c.change-change.ensures.begun ∙ c.begun_by-begun.ensures ∙ ap (begun_if c.holds_exchange-exchange.result) (c.as_slice-3.ensures.value ∙ c.in-Some.ensures.1 ∙ ap (λ (l : List ℕ). filled held.answer.number held.answer.size held.answer.bytes l) c.behind_type.ensures) in
    let change = change_last w q older rows f own party held kept route answer limits turn other told.0 told.1 byte so unmarked idle c.answer_accepts.ensures c.last_chunk_changes.ensures c.holds_exchange-exchange.result (sym exchange) c.change-change.result begun accepted c.change-change.ensures.taken c.change-change.ensures.asked views in
    let step = step_last w q older rows f own party held kept route answer limits turn other told.0 told.1 byte so unmarked idle c.answer_accepts.ensures in
    let number = kept.beside.number ∙ ap (λ (s : ReqSetup). number_from 1 s.eid w.requesters) (sym kept.beside.asker.setup) in
    let it = c.in_ok-take.was in
    let table = subst (λ (x : Result Unit OutOfMemory). OnOk x (rows_of.StandsForRows c.take.new.self w (length older + 1) (rows_between (restored f.kept) (restored f_next) rows))) it
    (c.take.ensures.table w (length older) (restored f.kept) (restored f_next) rows change step (omega (arith, below)) number stands kept.beside.places) in
    let places = subst (λ (x : Result Unit OutOfMemory). OnOk x (rows_of.StandFor c.take.new.places (restored f_next) (rows_between (restored f.kept) (restored f_next) rows))) it
    (c.take.ensures.places w (length older) (restored f.kept) (restored f_next) rows change step stands kept.beside.places) in
    let new : Party = record party { asker = c.hears-heard.new.self; answerer = c.leads_there.new.answerer; places = c.take.new.places } in
    let asker = subst (λ (n : ℕ). IsAsker c.hears-heard.new.self q (heard_kept f.kept f_behind n turn.round answer)) (tag ∙ turn.answers.1) (c.hears-heard.ensures.kept w q older f.kept f_behind turn.round carried below turn.answers.0 (sym tag) kept.beside.asker) in
    ended_on w q older rows f own party held kept route answer limits turn other told.0 told.1 byte so unmarked idle new (IsHeldIn new held w q) c.take.new.self asker standing keys kept.beside.number places table
