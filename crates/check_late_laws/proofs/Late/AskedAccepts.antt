-- An answer in response to which the requester asks for a chunk is taken for no PSK_EXCHANGE_RSP.
use Rattle.std.proofs.Common.{◌≡◌, ℕ, List, [], ◌∷◌, refl, sym, ap, ◌∙◌, drop, Bool, true, false, Option, Some, None, inl, inr}
use Rattle.std.proofs.lemmas.Bool.{false≢true}
use Rattle.check_laws.specs.ChangeLaws.{accepted_by}
use Rattle.check_laws.specs.Keeping.{Kept, restored}
use Rattle.check_laws.specs.KeptChanges.{accepted_from}
use Rattle.check_laws.specs.RepliesShown.{heard_from, no_values}
use Rattle.requester_machine.proofs.ClearLeads.{ClearLeads, clear_leads}
use Rattle.requester_machine.proofs.ClearLeads.ClearLeads.{ByRefusal, ByLarge, BySend, ByGet, ByStop, ByVersion, ByCaps, ByChoice, ByMeasured, ByExchange}
use Rattle.requester_machine.proofs.Heard.{heard}
use Rattle.requester_machine.specs.Asking.{Outcome}
use Rattle.requester_machine.specs.Asking.Outcome.{Fails, Ignores, Warns, Resends, Adds}
use Rattle.requester_machine.specs.Commands.{Free}
use Rattle.requester_machine.specs.Hearing.{hears}
use Rattle.requester_machine.specs.History.{Entry, History, Led, outstanding}
use Rattle.requester_machine.specs.History.Entry.{TookClear}
use Rattle.requester_machine.specs.Message.{Aim}
use Rattle.requester_machine.specs.Setup.{ReqSetup}
use Rattle.requester_machine.specs.Shown as shown
use Rattle.spdm_grammar.specs.Message.{RequestMessage}
use Rattle.capture_machine.specs.LargeAnswers.{is_fetching}
use Rattle.capture_machine.specs.Rounds.{no_draw}
use Rattle.capture_machine.specs.SessionTable.{accepted_in}

-- The ReqSessionID that is accepted by what a clear message led to.
abbrev accepted_at : ℕ → List ℕ → Led → Option ℕ
accepted_at tag m led = accepted_in (TookClear tag m led no_draw ∷ [])

module _ (q : ReqSetup) (h : History) (f : Free) (tag : ℕ) where
  clear_none : (aim : Aim) (m : List ℕ) (asked : RequestMessage) (led : Led) → ClearLeads q h f aim m asked led → is_fetching led.next ≡ true → accepted_at tag m led ≡ None
  clear_none aim m asked led (ByRefusal code is) gets = ap (accepted_at tag m) is
  clear_none aim m asked led (ByLarge handle may is) gets = ap (accepted_at tag m) is
  clear_none aim m asked led (BySend handle number aims last is) gets = ap (accepted_at tag m) is
  clear_none aim m asked led (ByGet handle number before c aims none last is) gets = ap (accepted_at tag m) is
  clear_none aim m asked led (ByStop why may is) gets = ap (accepted_at tag m) is
  clear_none aim m asked led (ByVersion answer asks is) gets = ap (accepted_at tag m) is
  clear_none aim m asked led (ByCaps caps theirs answer common offer asks read settled offers short is) gets = ap (accepted_at tag m) is
  clear_none aim m asked led (ByChoice offer answer asks is) gets = ap (accepted_at tag m) is
  clear_none aim m asked led (ByMeasured op answer finish asks is) gets = ap (accepted_at tag m) is
  clear_none aim m asked led (ByExchange exchange answer rsp asks read right is) gets = absurd (false≢true (sym (ap (λ (l : Led). is_fetching l.next) is) ∙ gets))

  module _ (body : List ℕ) where
    by_entry : (entry : Entry) → hears q h false tag body f no_draw ≡ Adds entry → is_fetching (outstanding (entry ∷ h)) ≡ true → accepted_in (entry ∷ []) ≡ None
    by_entry entry adds gets = elim (heard q h false tag body f no_draw entry adds) [
      | inl t ↦
          let fetches : is_fetching t.led.next ≡ true = sym (ap (λ (e : Entry). is_fetching (outstanding (e ∷ h))) t.is) ∙ gets in
          ap (λ (e : Entry). accepted_in (e ∷ [])) t.is ∙ clear_none t.sent.aim (drop 1 body) t.asked t.led (clear_leads q h f t.sent.aim (drop 1 body) t.asked t.led t.asks t.leads) fetches
      | inr o ↦ ap (λ (e : Entry). accepted_in (e ∷ [])) o.1.is
    ]

    by_outcome : (o : Outcome) → hears q h false tag body f no_draw ≡ o → is_fetching (outstanding (shown.after h o)) ≡ true → accepted_by o ≡ None
    by_outcome (Fails fault) is gets = refl
    by_outcome (Ignores cause) is gets = refl
    by_outcome (Warns code) is gets = refl
    by_outcome (Resends sent) is gets = refl
    by_outcome (Adds entry) is gets = by_entry entry is gets

pub asked_accepts_none : (k : Kept) (tag : ℕ) (answer : List ℕ) → is_fetching (outstanding (heard_from k tag answer)) ≡ true → accepted_from k tag answer ≡ None
unfolding heard_from accepted_from
asked_accepts_none k tag answer gets = by_outcome k.setup (restored k).requester no_values tag answer (hears k.setup (restored k).requester false tag answer no_values no_draw) refl gets
