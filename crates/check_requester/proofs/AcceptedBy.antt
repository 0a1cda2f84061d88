-- A requester that accepts a session by an answer sends a record of it next, and by no other answer to a clear request.
use Rattle.std.proofs.Common.{◌≡◌, ◌∙◌, ℕ, List, ◌∷◌, Bool, true, false, cond, Option, Some, None, is_some, length, refl, ap, sym, subst, inl, inr, drop, arith}
use Rattle.std.proofs.lemmas.Option.{none-some}
use Rattle.std.specs.Prelude.{nat_lt}
use Rattle.requester_core.specs.OwnRecords.{session_aimed, session_awaited}
use Rattle.requester_machine.proofs.ClearLeads.{ClearLeads, clear_leads}
use Rattle.requester_machine.proofs.ClearLeads.ClearLeads.{ByRefusal, ByLarge, BySend, ByGet, ByStop, ByVersion, ByCaps, ByChoice, ByMeasured, ByExchange}
use Rattle.requester_machine.proofs.Heard.{Heard, heard}
use Rattle.requester_machine.specs.Asking.{Outcome}
use Rattle.requester_machine.specs.Asking.Outcome.{Fails, Ignores, Warns, Resends, Adds}
use Rattle.requester_machine.specs.Commands.{Free}
use Rattle.requester_machine.specs.Hearing.{hears}
use Rattle.requester_machine.specs.History.{Entry, History, Led, next_handle, outstanding}
use Rattle.requester_machine.specs.History.Entry.{TookClear}
use Rattle.requester_machine.specs.Message.{Aim, Sent, asked_in}
use Rattle.requester_machine.specs.Message.Aim.{ByChunks, ForChunk, InSession, Plain}
use Rattle.requester_machine.specs.Setup.{ReqSetup}
use Rattle.requester_machine.specs.Shown.{after}
use Rattle.negotiate.specs.declared.shared.Common.{Common}
use Rattle.requester_machine.specs.Sending.{piece_sent, plain_sent, request_sent}
use Rattle.spdm_grammar.specs.Message.{RequestMessage}
use Rattle.spdm_grammar.specs.Message.RequestMessage.{NegotiateAlgorithms}
use Rattle.spdm_grammar.specs.Requests.{canonical_request}
use Rattle.spdm_machine.specs.Keys.{Draw}
use Rattle.check_laws.specs.ChangeLaws.{accepted_by}

-- ---- By what it sends next.

none_sent : (b : Bool) (x y : Sent) → session_awaited (Some x) ≡ None → session_awaited (Some y) ≡ None → session_awaited (Some (cond b x y)) ≡ None
none_sent true x y one two = one
none_sent false x y one two = two

none_in_clear : (common : Common) (h : History) (asked : RequestMessage) → session_awaited (Some (request_sent common h asked)) ≡ None
none_in_clear common h asked =
    none_sent (nat_lt common.to_responder.transfer (length (canonical_request asked))) (piece_sent common h asked (next_handle h) 0) (plain_sent h asked) refl refl

module _ (q : ReqSetup) (h : History) (f : Free) (aim : Aim) (tag : ℕ) (m : List ℕ) (d : Draw) where
  abbrev Tells : Led → Type 0
  Tells led = accepted_by (Adds (TookClear tag m led d)) ≡ session_awaited led.next

  next_tells : (asked : RequestMessage) (led : Led) → ClearLeads q h f aim m asked led → Tells led
  next_tells asked led (ByRefusal code is) = subst Tells (sym is) refl
  next_tells asked led (ByLarge handle may is) = subst Tells (sym is) refl
  next_tells asked led (BySend handle number aims more is) = subst Tells (sym is) refl
  next_tells asked led (ByGet handle number before c aims none more is) = subst Tells (sym is) refl
  next_tells asked led (ByStop why negotiates is) = subst Tells (sym is) refl
  next_tells asked led (ByVersion answer kind is) = subst Tells (sym is) refl
  next_tells asked led (ByCaps caps theirs answer common offer kind read shared offered short is) = subst Tells (sym is) (sym (none_in_clear common h (NegotiateAlgorithms offer)))
  next_tells asked led (ByChoice offer answer kind is) = subst Tells (sym is) refl
  next_tells asked led (ByMeasured op answer finish kind is) = subst Tells (sym is) refl
  next_tells asked led (ByExchange exchange answer rsp kind read verify is) = subst Tells (sym is) refl

-- ---- By what it awaits, before and behind.

none_asked : (aim : Aim) (asked : RequestMessage) (sent : Sent) → sent.aim ≡ aim → asked_in aim ≡ Some asked → session_awaited (Some sent) ≡ None
none_asked (Plain x) asked sent is asks = ap session_aimed is
none_asked (ByChunks x handle number) asked sent is asks = ap session_aimed is
none_asked (ForChunk x handle number before) asked sent is asks = ap session_aimed is
none_asked (InSession id ask) asked sent is asks = absurd (none-some asked asks)

rest_none : (x : Option ℕ) → None ≡ cond (is_some x) None x
rest_none None = refl
rest_none (Some id) = refl

in_session : (x y : Option ℕ) (id : ℕ) → x ≡ Some id → None ≡ cond (is_some x) None y
in_session x y id is = sym (ap (λ (v : Option ℕ). cond (is_some v) None y) is)

-- The ReqSessionID of a record that is awaited after, where none was before.
abbrev pub accepted_shown : (before behind : Option Sent) → Option ℕ
accepted_shown before behind = cond (is_some (session_awaited before)) None (session_awaited behind)

pub accepts : (q : ReqSetup) (h : History) (tag : ℕ) (body : List ℕ) (f : Free) (d : Draw) (o : Outcome) → hears q h false tag body f d ≡ o → accepted_by o ≡ accepted_shown (outstanding h) (outstanding (after h o))
accepts q h tag body f d (Fails fault) is = rest_none (session_awaited (outstanding h))
accepts q h tag body f d (Ignores cause) is = rest_none (session_awaited (outstanding h))
accepts q h tag body f d (Warns code) is = rest_none (session_awaited (outstanding h))
accepts q h tag body f d (Resends sent) is = rest_none (session_awaited (outstanding h))
accepts q h tag body f d (Adds entry) is = by_way (heard q h false tag body f d entry is)
  where
    by_way : Heard q h tag body f d entry → accepted_by (Adds entry) ≡ accepted_shown (outstanding h) (outstanding (entry ∷ h))
    by_way (inl taken) =
        let led : Led = taken.led in
        let before : session_awaited (outstanding h) ≡ None = ap session_awaited taken.waits ∙ none_asked taken.sent.aim taken.asked taken.sent refl taken.asks in
        let own = next_tells q h f taken.sent.aim tag (drop 1 body) d taken.asked led (clear_leads q h f taken.sent.aim (drop 1 body) taken.asked led taken.asks taken.leads) in
        subst (λ (e : Entry). accepted_by (Adds e) ≡ accepted_shown (outstanding h) (outstanding (e ∷ h))) (sym taken.is)
        (own ∙ sym (ap (λ (x : Option ℕ). cond (is_some x) None (session_awaited led.next)) before))
    by_way (inr opened) =
        let before : session_awaited (outstanding h) ≡ Some opened.1.id = ap session_awaited opened.1.waits ∙ ap session_aimed opened.1.aims in
        ap (λ (e : Entry). accepted_by (Adds e)) opened.1.is ∙ in_session (session_awaited (outstanding h)) (session_awaited (outstanding (entry ∷ h))) opened.1.id before

-- Where the history stays, it accepts none.
grown : (e : Entry) (h : History) → e ∷ h ≡ h → ⊥
grown e h same = (let n : length (e ∷ h) ≡ length h = ap length same in omega (arith, n))

pub accepts_none : (h : History) (o : Outcome) → after h o ≡ h → accepted_by o ≡ None
accepts_none h (Fails fault) same = refl
accepts_none h (Ignores cause) same = refl
accepts_none h (Warns code) same = refl
accepts_none h (Resends sent) same = refl
accepts_none h (Adds entry) same = absurd (grown entry h same)
