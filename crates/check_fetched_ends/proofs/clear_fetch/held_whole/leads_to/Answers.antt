use Rattle.std.proofs.Common.{◌≡◌, ◌<◌, ◌-◌, ◌^◌, ◌↔◌, ◌∙◌, ℕ, List, [], ◌∷◌, sym, ap, subst, arith, Bool, true, false}
use Rattle.std.proofs.lemmas.Bool.{false≢true}
use Rattle.check_responder.specs.WholeAnswers.{IsLargeAt, clear_shown}
use Rattle.responder_core.specs.Connected.{StandsFor}
use Rattle.check_fetched_ends.proofs.LastLeads.{anew, begun, bytes, dropped, few, more_other, never, short, stands_all, told}
use Rattle.check_fetched_ends.specs.LastHeld.{AreAsked, led_by, left_by}
use Rattle.responder_machine.specs.History.{Entry, History, kept_of}
use Rattle.responder_machine.specs.History.Entry.{Clear}
use Rattle.responder_machine.specs.Responder.{after, is_repeat, on_clear}
use Rattle.spdm_basis.specs.Sizes.{hash_size}
use Rattle.spdm_grammar.specs.declared.messages.choice.Choice.{Choice}
use Rattle.capture_machine.specs.Rounds.{no_draw}
use Rattle.check_fetched_ends.proofs.clear_fetch.held_whole.leads_to.Goals as goal

pub returns-then-not-leads_to_large-clause-told : goal.returns-then-not-leads_to_large-clause-told
returns-then-not-leads_to_large-clause-told c = λ r h keys b exchange set_up less byte at.
    let whole : List ℕ = c.args.whole.now in
    let held = c.args.held.now in
    let gl : History = left_by b.before b.left (Clear held.tag b.turn no_draw) whole in
    let m : c.as_slice-message.result.now ≡ b.turn.message = c.as_slice-message.ensures.value ∙ sym b.request in
    let reply : c.as_slice.result.now ≡ b.turn.reply = c.as_slice.ensures.value ∙ sym b.reply in
    let count = few c.args.answerer.now keys held r h b byte c.args.tag c.args.handle whole at in
    let stands = dropped c.args.answerer.now keys held r h b byte c.args.tag c.args.handle whole at c.args.exchange c.drop_shown.new.connection exchange (c.drop_shown.ensures r b.left b.stands) in
    let new = subst (λ (l : List ℕ). is_repeat (kept_of gl) held.tag l ≡ false) (sym m) (anew c.args.answerer.now keys held r h b byte c.args.tag c.args.handle whole at) in
    let both = c.leads_to_large.ensures.told r gl set_up stands (omega (arith, less, count)) byte new in
    let there = subst (λ (l : List ℕ). (c.leads_to_large.result ≡ true) ↔ IsLargeAt r gl held.tag l (clear_shown r gl l b.turn.reply whole) b.turn.reply) m
    (subst (λ (l : List ℕ). (c.leads_to_large.result ≡ true) ↔ IsLargeAt r gl held.tag c.as_slice-message.result.now (clear_shown r gl c.as_slice-message.result.now l whole) l) reply both) in
    never c.args.answerer.now keys held r h b byte c.args.tag c.args.handle whole at (λ large. false≢true (sym c.if-not-leads_to_large.true ∙ there.1 large))

pub returns-then-not-give_all-clause-told : goal.returns-then-not-give_all-clause-told
returns-then-not-give_all-clause-told c = λ r h keys b exchange set_up less byte at.
    let whole : List ℕ = c.args.whole.now in
    let held = c.args.held.now in
    let gl : History = left_by b.before b.left (Clear held.tag b.turn no_draw) whole in
    let m : c.as_slice-message.result.now ≡ b.turn.message = c.as_slice-message.ensures.value ∙ sym b.request in
    let reply : c.as_slice.result.now ≡ b.turn.reply = c.as_slice.ensures.value ∙ sym b.reply in
    let count = few c.args.answerer.now keys held r h b byte c.args.tag c.args.handle whole at in
    let stands = dropped c.args.answerer.now keys held r h b byte c.args.tag c.args.handle whole at c.args.exchange c.drop_shown.new.connection exchange (c.drop_shown.ensures r b.left b.stands) in
    let new = subst (λ (l : List ℕ). is_repeat (kept_of gl) held.tag l ≡ false) (sym m) (anew c.args.answerer.now keys held r h b byte c.args.tag c.args.handle whole at) in
    let both = c.leads_to_large.ensures.told r gl set_up stands (omega (arith, less, count)) byte new in
    let there = subst (λ (l : List ℕ). (c.leads_to_large.result ≡ true) ↔ IsLargeAt r gl held.tag l (clear_shown r gl l b.turn.reply whole) b.turn.reply) m
    (subst (λ (l : List ℕ). (c.leads_to_large.result ≡ true) ↔ IsLargeAt r gl held.tag c.as_slice-message.result.now (clear_shown r gl c.as_slice-message.result.now l whole) l) reply both) in
    let large = there.0 c.if-not-leads_to_large.false in
    let goes = c.leads_to_large.ensures.stands r gl set_up stands (omega (arith, less, count)) c.if-not-leads_to_large.false in
    let conn = c.leads_to_large.new.self.connection in
    let on = subst (λ (l : List ℕ). StandsFor conn r (after gl (on_clear r gl held.tag l (clear_shown r gl l b.turn.reply whole) no_draw))) m
    (subst (λ (l : List ℕ). StandsFor conn r (after gl (on_clear r gl held.tag c.as_slice-message.result.now (clear_shown r gl c.as_slice-message.result.now l whole) no_draw))) reply goes) in
    let v : List ℕ = bytes c.args.answerer.now keys held r h b byte c.args.tag c.args.handle whole at large in
    let first = subst (λ (l : List ℕ). AreAsked conn l r (Clear held.tag b.turn no_draw ∷ gl) v c.args.tag c.args.handle 0) (sym c.new-given.ensures) (begun c.args.answerer.now keys held r h b byte c.args.tag c.args.handle whole at large conn on) in
    let can = at.give v (short c.args.answerer.now keys held r h b byte c.args.tag c.args.handle whole at large) in
    let more = c.give_all.ensures.more r (Clear held.tag b.turn no_draw ∷ gl) v set_up can first c.if-not-give_all.true in
    let last = c.number-last.ensures in
    more_other c.args.answerer.now keys held r h b byte c.args.tag c.args.handle whole at large (omega (arith, more, last))

pub returns-clause-told : goal.returns-clause-told
returns-clause-told c = λ r h keys b exchange set_up less byte at.
    let whole : List ℕ = c.args.whole.now in
    let held = c.args.held.now in
    let gl : History = left_by b.before b.left (Clear held.tag b.turn no_draw) whole in
    let m : c.as_slice-message.result.now ≡ b.turn.message = c.as_slice-message.ensures.value ∙ sym b.request in
    let reply : c.as_slice.result.now ≡ b.turn.reply = c.as_slice.ensures.value ∙ sym b.reply in
    let count = few c.args.answerer.now keys held r h b byte c.args.tag c.args.handle whole at in
    let stands = dropped c.args.answerer.now keys held r h b byte c.args.tag c.args.handle whole at c.args.exchange c.drop_shown.new.connection exchange (c.drop_shown.ensures r b.left b.stands) in
    let new = subst (λ (l : List ℕ). is_repeat (kept_of gl) held.tag l ≡ false) (sym m) (anew c.args.answerer.now keys held r h b byte c.args.tag c.args.handle whole at) in
    let both = c.leads_to_large.ensures.told r gl set_up stands (omega (arith, less, count)) byte new in
    let there = subst (λ (l : List ℕ). (c.leads_to_large.result ≡ true) ↔ IsLargeAt r gl held.tag l (clear_shown r gl l b.turn.reply whole) b.turn.reply) m
    (subst (λ (l : List ℕ). (c.leads_to_large.result ≡ true) ↔ IsLargeAt r gl held.tag c.as_slice-message.result.now (clear_shown r gl c.as_slice-message.result.now l whole) l) reply both) in
    let large = there.0 c.if-not-leads_to_large.false in
    let goes = c.leads_to_large.ensures.stands r gl set_up stands (omega (arith, less, count)) c.if-not-leads_to_large.false in
    let conn = c.leads_to_large.new.self.connection in
    let on = subst (λ (l : List ℕ). StandsFor conn r (after gl (on_clear r gl held.tag l (clear_shown r gl l b.turn.reply whole) no_draw))) m
    (subst (λ (l : List ℕ). StandsFor conn r (after gl (on_clear r gl held.tag c.as_slice-message.result.now (clear_shown r gl c.as_slice-message.result.now l whole) no_draw))) reply goes) in
    let v : List ℕ = bytes c.args.answerer.now keys held r h b byte c.args.tag c.args.handle whole at large in
    let first = subst (λ (l : List ℕ). AreAsked conn l r (Clear held.tag b.turn no_draw ∷ gl) v c.args.tag c.args.handle 0) (sym c.new-given.ensures) (begun c.args.answerer.now keys held r h b byte c.args.tag c.args.handle whole at large conn on) in
    let can = at.give v (short c.args.answerer.now keys held r h b byte c.args.tag c.args.handle whole at large) in
    let all = c.give_all.ensures.all r (Clear held.tag b.turn no_draw ∷ gl) v set_up can first c.if-not-give_all.false in
    let size = c.size-size.ensures ∙ ap (λ (x : Choice). hash_size x.hash) (c.choice.ensures.value r b.left b.stands) in
    let is = c.led_by.ensures ∙ ap (λ (l : List ℕ). led_by c.size-size.result l whole) c.as_slice-2.ensures.value in
    told c.args.answerer.now keys held r h b byte c.args.tag c.args.handle whole at large c.give_all.new.connection c.give_all.new.bytes all c.size-size.result c.led_by.result size is

pub returns-clause-stands : goal.returns-clause-stands
returns-clause-stands c = λ r h keys b exchange set_up less byte at so.
    let whole : List ℕ = c.args.whole.now in
    let held = c.args.held.now in
    let gl : History = left_by b.before b.left (Clear held.tag b.turn no_draw) whole in
    let m : c.as_slice-message.result.now ≡ b.turn.message = c.as_slice-message.ensures.value ∙ sym b.request in
    let reply : c.as_slice.result.now ≡ b.turn.reply = c.as_slice.ensures.value ∙ sym b.reply in
    let count = few c.args.answerer.now keys held r h b byte c.args.tag c.args.handle whole at in
    let stands = dropped c.args.answerer.now keys held r h b byte c.args.tag c.args.handle whole at c.args.exchange c.drop_shown.new.connection exchange (c.drop_shown.ensures r b.left b.stands) in
    let new = subst (λ (l : List ℕ). is_repeat (kept_of gl) held.tag l ≡ false) (sym m) (anew c.args.answerer.now keys held r h b byte c.args.tag c.args.handle whole at) in
    let both = c.leads_to_large.ensures.told r gl set_up stands (omega (arith, less, count)) byte new in
    let there = subst (λ (l : List ℕ). (c.leads_to_large.result ≡ true) ↔ IsLargeAt r gl held.tag l (clear_shown r gl l b.turn.reply whole) b.turn.reply) m
    (subst (λ (l : List ℕ). (c.leads_to_large.result ≡ true) ↔ IsLargeAt r gl held.tag c.as_slice-message.result.now (clear_shown r gl c.as_slice-message.result.now l whole) l) reply both) in
    let large = there.0 c.if-not-leads_to_large.false in
    let goes = c.leads_to_large.ensures.stands r gl set_up stands (omega (arith, less, count)) c.if-not-leads_to_large.false in
    let conn = c.leads_to_large.new.self.connection in
    let on = subst (λ (l : List ℕ). StandsFor conn r (after gl (on_clear r gl held.tag l (clear_shown r gl l b.turn.reply whole) no_draw))) m
    (subst (λ (l : List ℕ). StandsFor conn r (after gl (on_clear r gl held.tag c.as_slice-message.result.now (clear_shown r gl c.as_slice-message.result.now l whole) no_draw))) reply goes) in
    let v : List ℕ = bytes c.args.answerer.now keys held r h b byte c.args.tag c.args.handle whole at large in
    let first = subst (λ (l : List ℕ). AreAsked conn l r (Clear held.tag b.turn no_draw ∷ gl) v c.args.tag c.args.handle 0) (sym c.new-given.ensures) (begun c.args.answerer.now keys held r h b byte c.args.tag c.args.handle whole at large conn on) in
    let can = at.give v (short c.args.answerer.now keys held r h b byte c.args.tag c.args.handle whole at large) in
    let all = c.give_all.ensures.all r (Clear held.tag b.turn no_draw ∷ gl) v set_up can first c.if-not-give_all.false in
    let size = c.size-size.ensures ∙ ap (λ (x : Choice). hash_size x.hash) (c.choice.ensures.value r b.left b.stands) in
    let is = c.led_by.ensures ∙ ap (λ (l : List ℕ). led_by c.size-size.result l whole) c.as_slice-2.ensures.value in
    stands_all c.args.answerer.now keys held r h b byte c.args.tag c.args.handle whole at large c.give_all.new.connection c.give_all.new.bytes all c.size-size.result c.led_by.result is so
