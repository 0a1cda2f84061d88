-- A requester that sent GET_VERSION in place of an answer, or whose GET_VERSION was refused, sends nothing else before
-- VERSION comes.
use Rattle.std.proofs.Common.{◌≡◌, ◌&&◌, ◌⊎◌, ◌∙◌, ℕ, List, refl, sym, ap, subst, drop, arith, Bool, true, false, Option, Some, None, Result, Ok, Err, cond, inl, inr}
use Rattle.std.specs.Prelude.{not}
use Rattle.std.proofs.lemmas.Bool.{false≢true}
use Rattle.std.proofs.lemmas.Option.{none-some, same_Some}
use Rattle.capture_laws.proofs.ErrorRead.{refused_led}
use Rattle.capture_laws.proofs.Versions.{IsRefusal, get_version}
use Rattle.requester_machine.proofs.Entries.{asked, test_is_false}
use Rattle.requester_machine.specs.Asking.{asks}
use Rattle.requester_machine.specs.Asking.Outcome.{Adds}
use Rattle.requester_machine.specs.Bodies.{body_fault, has_tag}
use Rattle.requester_machine.specs.ClearAnswers.{clear_led}
use Rattle.requester_machine.specs.Commands.{Free, is_negotiated}
use Rattle.requester_machine.specs.Hearing.{clear_outcome, hears, hears_by, hears_to}
use Rattle.requester_machine.specs.History.{History, Led, begins_large, outstanding, phase_of}
use Rattle.requester_machine.specs.History.Entry.{Told}
use Rattle.requester_machine.specs.Message.{Aim, Command, Sent, body_of}
use Rattle.requester_machine.specs.Message.Aim.{Plain}
use Rattle.requester_machine.specs.Message.Command.{Connect, Open, Send, Beat, Update, Measure, End, Retry}
use Rattle.requester_machine.specs.Sending.{plain_sent}
use Rattle.requester_machine.specs.Setup.{ReqSetup}
use Rattle.requester_machine.specs.Shown as shown
use Rattle.responder_machine.specs.Setup.{RspSetup}
use Rattle.spdm_grammar.specs.Message.RequestMessage.{GetVersion}
use Rattle.spdm_grammar.specs.declared.told.event.ReqIgnored.{ReqIgnored}
use Rattle.spdm_grammar.specs.declared.told.phase.Phase.{Phase}
use Rattle.spdm_grammar.specs.declared.told.phase.Phase.TheVariants.{Fresh}
use Rattle.spdm_machine.specs.Bodies.{clear_body}
use Rattle.capture_machine.proofs.AskTells.{no_again, same_sent, sent_by_kind}
use Rattle.capture_machine.proofs.AskersStep.{connect_body}
use Rattle.capture_machine.proofs.SentFacts.{large_free}
use Rattle.capture_machine.specs.CapturedAnswers.{Hears, HearsWhile}
use Rattle.capture_machine.specs.CapturedRequests.{BeginsLarge, BeginsOwed, GoesOn, Sends, Tells, without_owed}
use Rattle.capture_machine.specs.LargeRequests.{with_ack_to, with_next_piece}
use Rattle.capture_machine.specs.Rounds.{Dialogue, no_draw}

-- GET_VERSION is outstanding.
pub record IsAsking (h : History) : Type 0 where
  pub sent : Sent
  pub waits : outstanding h ≡ Some sent
  pub aim : sent.aim ≡ Plain GetVersion
  pub content : body_of sent.content ≡ clear_body get_version

-- Or it was refused, so that nothing is outstanding and nothing is negotiated.
abbrev pub IsBeginning : History → Type 0
IsBeginning h = IsAsking h ⊎ ((outstanding h ≡ None) × (phase_of h ≡ Fresh))

-- ---- A request.

-- GET_VERSION again, and the requester waits for its answer.
abbrev pub IsBegun : List ℕ → History → Type 0
IsBegun body next = (body ≡ clear_body get_version) × IsBeginning next

pub connects_begun : (q : ReqSetup) (h : History) (body : List ℕ) (next : History) → Tells q h Connect body next → IsBegun body next
connects_begun q h body next tells =
    let is : tells.0 ≡ plain_sent h GetVersion = (sent_by_kind q h tells.1.0 Connect tells.0 no_draw (asked false q h Connect tells.1.0 no_draw (Told Connect tells.0 no_draw) tells.1.2).1).0 tells.2 in
    let same : body ≡ clear_body get_version = connect_body q h body next tells in
    (same, inl (subst IsAsking (sym tells.4) (record { sent = tells.0; waits = refl; aim = ap (λ (x : Sent). x.aim) is; content = tells.3 ∙ same })))

-- A requester that has negotiated nothing does no command but Connect.
fresh_negotiated : (b : Bool) (phase : Phase) → phase ≡ Fresh → (b && not (is_negotiated phase)) ≡ false → b ≡ false
fresh_negotiated true phase fresh is = absurd (false≢true (sym is ∙ ap (λ (p : Phase). not (is_negotiated p)) fresh))
fresh_negotiated false phase fresh is = refl

fresh_command : (q : ReqSetup) (h : History) (f : Free) (c : Command) (s : Sent) → phase_of h ≡ Fresh → asks false q h c f no_draw ≡ Adds (Told c s no_draw) → c ≡ Connect
fresh_command q h f Connect s fresh e = refl
fresh_command q h f (Open summary) s fresh e = absurd (false≢true (sym (fresh_negotiated true (phase_of h) fresh (test_is_false false q h (Open summary) f (asked false q h (Open summary) f no_draw (Told (Open summary) s no_draw) e).0 2))))
fresh_command q h f (Send id bytes) s fresh e = absurd (false≢true (sym (fresh_negotiated true (phase_of h) fresh (test_is_false false q h (Send id bytes) f (asked false q h (Send id bytes) f no_draw (Told (Send id bytes) s no_draw) e).0 2))))
fresh_command q h f (Beat id) s fresh e = absurd (false≢true (sym (fresh_negotiated true (phase_of h) fresh (test_is_false false q h (Beat id) f (asked false q h (Beat id) f no_draw (Told (Beat id) s no_draw) e).0 2))))
fresh_command q h f (Update id all) s fresh e = absurd (false≢true (sym (fresh_negotiated true (phase_of h) fresh (test_is_false false q h (Update id all) f (asked false q h (Update id all) f no_draw (Told (Update id all) s no_draw) e).0 2))))
fresh_command q h f (Measure id op) s fresh e = absurd (false≢true (sym (fresh_negotiated true (phase_of h) fresh (test_is_false false q h (Measure id op) f (asked false q h (Measure id op) f no_draw (Told (Measure id op) s no_draw) e).0 2))))
fresh_command q h f (End id) s fresh e = absurd (false≢true (sym (fresh_negotiated true (phase_of h) fresh (test_is_false false q h (End id) f (asked false q h (End id) f no_draw (Told (End id) s no_draw) e).0 2))))
fresh_command q h f Retry s fresh e = absurd (no_again (outstanding h) Retry s no_draw (asked false q h Retry f no_draw (Told Retry s no_draw) e).1)

connect_small : (q : ReqSetup) (h : History) (f : Free) (c : Command) (s : Sent) → c ≡ Connect → asks false q h c f no_draw ≡ Adds (Told c s no_draw) → begins_large s.aim ≡ true → ⊥
connect_small q h f Connect s is e large =
    false≢true (ap (λ (m : Sent). begins_large m.aim) (same_sent Connect (plain_sent h GetVersion) s no_draw (asked false q h Connect f no_draw (Told Connect s no_draw) e).1) ∙ large)
connect_small q h f (Open summary) s is e large = absurd (cc)
connect_small q h f (Send id bytes) s is e large = absurd (cc)
connect_small q h f (Beat id) s is e large = absurd (cc)
connect_small q h f (Update id all) s is e large = absurd (cc)
connect_small q h f (Measure id op) s is e large = absurd (cc)
connect_small q h f (End id) s is e large = absurd (cc)
connect_small q h f Retry s is e large = absurd (cc)

fresh_tells : (q : ReqSetup) (h : History) (c : Command) (body : List ℕ) (next : History) → phase_of h ≡ Fresh → Tells q h c body next → IsBegun body next
fresh_tells q h c body next fresh tells =
    let is : c ≡ Connect = fresh_command q h tells.1.0 c tells.0 fresh tells.1.2 in
    connects_begun q h body next (subst (λ (x : Command). Tells q h x body next) is tells)

goes : (d : Dialogue) (body : List ℕ) (next : History) (sending : Option (List ℕ)) → IsBeginning d.requester → GoesOn d body next sending → IsBegun body next
goes d body next sending (inl asks) g =
    let same : g.0 ≡ asks.sent = same_Some g.0 asks.sent (sym g.1.0 ∙ asks.waits) in
    (sym g.3 ∙ ap (λ (x : Sent). body_of x.content) same ∙ asks.content, inl (subst IsAsking (sym g.5) asks))
goes d body next sending (inr none) g = absurd (none-some g.0 (sym none.0 ∙ g.1.0))

begins : (d : Dialogue) (body : List ℕ) (next : History) (whole : List ℕ) → IsBeginning d.requester → BeginsLarge d body next whole → ⊥
begins d body next whole (inl asks) large = none-some asks.sent (sym (large_free d.setup d.requester large.3.0 large.0 large.1 no_draw large.3.2 large.4) ∙ asks.waits)
begins d body next whole (inr none) large = connect_small d.setup d.requester large.3.0 large.0 large.1 (fresh_command d.setup d.requester large.3.0 large.0 large.1 none.1 large.3.2) large.3.2 large.4

owed : (d : Dialogue) (body : List ℕ) (next : History) (whole : List ℕ) → IsBeginning d.requester → BeginsOwed d body next whole → ⊥
owed d body next whole (inl asks) o =
    let same : o.0 ≡ asks.sent = same_Some o.0 asks.sent (sym o.2.0 ∙ asks.waits) in
    false≢true (sym (ap (λ (x : Sent). begins_large x.aim) same ∙ ap begins_large asks.aim) ∙ o.3)
owed d body next whole (inr none) o = none-some o.0 (sym none.0 ∙ o.2.0)

commands : (d : Dialogue) (c : Command) (body : List ℕ) (next : History) → IsBeginning d.requester → outstanding d.requester ≡ None → Tells d.setup d.requester c body next → IsBegun body next
commands d c body next (inl asks) free tells = absurd (none-some asks.sent (sym free ∙ asks.waits))
commands d c body next (inr none) free tells = fresh_tells d.setup d.requester c body next none.1 tells

pub beginning_sends : (d : Dialogue) (body : List ℕ) (next : History) (sending : Option (List ℕ)) → IsBeginning d.requester → Sends d body next sending → IsBegun body next
unfolding Sends
beginning_sends d body next sending is (inl (inl connect, none)) = connects_begun d.setup (without_owed d) body next connect
beginning_sends d body next sending is (inl (inr command, none)) = commands d command.0 body next is command.1 command.2
beginning_sends d body next sending is (inr (inl g)) = goes d body next sending is g
beginning_sends d body next sending is (inr (inr (whole, inl large, same))) = absurd (begins d body next whole is large)
beginning_sends d body next sending is (inr (inr (whole, inr o, same))) = absurd (owed d body next whole is o)

-- ---- An answer that is an ERROR.

module _ (r : RspSetup) (q : ReqSetup) (h : History) (f : Free) (tag : ℕ) (answer : List ℕ) (refusal : IsRefusal r answer) where
  led_fresh : (x : Result Led ReqIgnored) → clear_led q h f (Plain GetVersion) GetVersion (drop 1 answer) ≡ x → IsBeginning h → IsBeginning (shown.after h (clear_outcome tag (drop 1 answer) no_draw x))
  led_fresh (Err cause) is old = old
  led_fresh (Ok led) is old =
      let same = sym is ∙ ap (λ (l : List ℕ). clear_led q h f (Plain GetVersion) GetVersion (drop 1 l)) refusal.4 ∙ refused_led q h f r refusal.0 get_version refusal.1 refusal.2 (omega arith) refusal.3 in
      subst (λ (x : Result Led ReqIgnored). IsBeginning (shown.after h (clear_outcome tag (drop 1 answer) no_draw x))) (sym same) (inr (refl, refl))

  by_cause : (waiting : Option Sent) (cause : Option ReqIgnored) → ((s : Sent) → waiting ≡ Some s → s.aim ≡ Plain GetVersion) → IsBeginning h → IsBeginning (shown.after h (hears_by q h f tag answer no_draw waiting cause))
  by_cause waiting (Some cause) aims old = old
  by_cause None None aims old = old
  by_cause (Some s) None aims old =
      subst (λ (a : Aim). IsBeginning (shown.after h (hears_to q h f tag answer no_draw a))) (sym (aims s refl))
      (led_fresh (clear_led q h f (Plain GetVersion) GetVersion (drop 1 answer)) refl old)

  pub refusal_heard : ((s : Sent) → outstanding h ≡ Some s → s.aim ≡ Plain GetVersion) → IsBeginning h → IsBeginning (shown.after h (hears q h false tag answer f no_draw))
  unfolding hears
  refusal_heard aims old = by_cause (outstanding h) (body_fault q (outstanding h) false tag answer) aims old

aims_version : (h : History) → IsBeginning h → (s : Sent) → outstanding h ≡ Some s → s.aim ≡ Plain GetVersion
aims_version h (inl asks) s waits = ap (λ (x : Sent). x.aim) (same_Some s asks.sent (sym waits ∙ asks.waits)) ∙ asks.aim
aims_version h (inr none) s waits = absurd (none-some s (sym none.0 ∙ waits))

not_acked : (b : Bool) (whole : List ℕ) (tag : ℕ) (m : List ℕ) (h : History) (o : Option Sent) → ((s : Sent) → o ≡ Some s → s.aim ≡ Plain GetVersion) → cond b (with_ack_to whole tag m h o) h ≡ h
not_acked true whole tag m h None aims = refl
not_acked true whole tag m h (Some s) aims = ap (with_next_piece whole tag m h) (aims s refl)
not_acked false whole tag m h o aims = refl

pub beginning_hears : (r : RspSetup) (d : Dialogue) (tag : ℕ) (answer : List ℕ) (next : History) → IsRefusal r answer → IsBeginning d.requester → Hears d tag answer next → IsBeginning next
unfolding Hears
beginning_hears r d tag answer next refusal is heard = by_sending d.sending heard
  where
    by_sending : (o : Option (List ℕ)) → HearsWhile o d tag answer next → IsBeginning next
    by_sending None x =
        subst IsBeginning (sym (x.2 ∙ ap (shown.after d.requester) (sym x.1.2)))
        (refusal_heard r d.setup d.requester x.1.0 tag answer refusal (aims_version d.requester is) is)
    by_sending (Some whole) x =
        subst IsBeginning (sym (x ∙ not_acked (has_tag (outstanding d.requester) tag) whole tag (drop 1 answer) d.requester (outstanding d.requester) (aims_version d.requester is))) is
