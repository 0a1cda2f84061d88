-- By an answer to a record, or to GET_VERSION, the requester accepts no session.
use Rattle.std.proofs.Common.{◌≡◌, ◌==◌, ℕ, List, [], ◌∷◌, refl, sym, ap, ◌∙◌, subst, Bool, true, false, Option, Some, None, Result, Ok, Err, cond}
use Rattle.std.specs.Prelude.{drop, slice_index}
use Rattle.std.proofs.lemmas.Bool.{false≢true}
use Rattle.check_laws.specs.ChangeLaws.{accepted_by}
use Rattle.requester_machine.proofs.ClearLeads.{ClearLeads, clear_leads}
use Rattle.requester_machine.proofs.ClearLeads.ClearLeads.{ByRefusal, ByLarge, BySend, ByGet, ByStop, ByVersion, ByCaps, ByChoice, ByMeasured, ByExchange}
use Rattle.requester_machine.specs.Asking.Outcome.{Adds, Warns}
use Rattle.requester_machine.specs.Bodies.{body_fault, is_clear}
use Rattle.requester_machine.specs.ClearAnswers.{clear_led}
use Rattle.requester_machine.specs.Commands.{Free}
use Rattle.requester_machine.specs.Hearing.{clear_outcome, hears, hears_by, hears_to, on_record, record_outcome}
use Rattle.requester_machine.specs.History.{History, Led, outstanding}
use Rattle.requester_machine.specs.History.Entry.{TookClear}
use Rattle.requester_machine.specs.InnerMessages.{Came}
use Rattle.requester_machine.specs.Message.{Aim, Ask, Sent}
use Rattle.requester_machine.specs.Message.Aim.{Plain, ByChunks, ForChunk, InSession}
use Rattle.requester_machine.specs.Setup.{ReqSetup}
use Rattle.spdm_basis.specs.declared.causes.record_fault.RecordFault.{RecordFault}
use Rattle.spdm_grammar.specs.Message.RequestMessage.{GetVersion}
use Rattle.spdm_grammar.specs.declared.told.event.ReqIgnored.{ReqIgnored}
use Rattle.spdm_machine.specs.Keys.{Draw}
use Rattle.capture_machine.proofs.AskersAim.{Asker, IsAt}

module _ (q : ReqSetup) (h : History) (f : Free) (tag : ℕ) (body : List ℕ) (d : Draw) where
  -- ---- A record.

  by_fault : (b : Bool) (n id : ℕ) (ask : Ask) (came : Came) (o : Option RecordFault) → accepted_by (cond b (Warns n) (record_outcome q h f tag ask came d o)) ≡ None
  by_fault true n id ask came o = refl
  by_fault false n id ask came (Some fault) = refl
  by_fault false n id ask came None = refl

  by_aim : (asked : List ℕ) (aim : Aim) → IsAt h asked aim → (slice_index asked 0 == 5) ≡ false → accepted_by (hears_to q h f tag body d aim) ≡ None
  unfolding on_record
  by_aim asked (Plain a) at sealed = absurd (false≢true (sym sealed ∙ at))
  by_aim asked (ByChunks a handle number) at sealed = absurd (false≢true (sym sealed ∙ at))
  by_aim asked (ForChunk a handle number before) at sealed = absurd (false≢true (sym sealed ∙ at))
  by_aim asked (InSession id ask) at sealed = by_fault (is_clear body) _ id ask _ _

  by_cause : (asked : List ℕ) (o : Option Sent) (cause : Option ReqIgnored) → ((sent : Sent) → o ≡ Some sent → IsAt h asked sent.aim) → (slice_index asked 0 == 5) ≡ false → accepted_by (hears_by q h f tag body d o cause) ≡ None
  by_cause asked o (Some cause) at sealed = refl
  by_cause asked None None at sealed = refl
  by_cause asked (Some sent) None at sealed = by_aim asked sent.aim (at sent refl) sealed

  pub record_accepts : (asked : List ℕ) → Asker h asked → (slice_index asked 0 == 5) ≡ false → accepted_by (hears q h false tag body f d) ≡ None
  unfolding hears
  record_accepts asked asker sealed = by_cause asked (outstanding h) (body_fault q (outstanding h) false tag body) (λ sent waits. (asker sent waits).here) sealed

  -- ---- GET_VERSION.

  leads_none : (led : Led) → ClearLeads q h f (Plain GetVersion) (drop 1 body) GetVersion led → accepted_by (Adds (TookClear tag (drop 1 body) led d)) ≡ None
  leads_none led (ByRefusal code is) = ap (λ (l : Led). accepted_by (Adds (TookClear tag (drop 1 body) l d))) is
  leads_none led (ByLarge handle may is) = ap (λ (l : Led). accepted_by (Adds (TookClear tag (drop 1 body) l d))) is
  leads_none led (BySend handle number aims last is) = ap (λ (l : Led). accepted_by (Adds (TookClear tag (drop 1 body) l d))) is
  leads_none led (ByGet handle number before c aims none last is) = ap (λ (l : Led). accepted_by (Adds (TookClear tag (drop 1 body) l d))) is
  leads_none led (ByStop why negotiated is) = ap (λ (l : Led). accepted_by (Adds (TookClear tag (drop 1 body) l d))) is
  leads_none led (ByVersion answer asked is) = ap (λ (l : Led). accepted_by (Adds (TookClear tag (drop 1 body) l d))) is
  leads_none led (ByCaps caps theirs answer common offer asked read both made short is) = ap (λ (l : Led). accepted_by (Adds (TookClear tag (drop 1 body) l d))) is
  leads_none led (ByChoice offer answer asked is) = ap (λ (l : Led). accepted_by (Adds (TookClear tag (drop 1 body) l d))) is
  leads_none led (ByMeasured op answer finish asked is) = ap (λ (l : Led). accepted_by (Adds (TookClear tag (drop 1 body) l d))) is
  leads_none led (ByExchange exchange answer rsp asked read verify is) = absurd (cc)

  by_led : (result : Result Led ReqIgnored) → clear_led q h f (Plain GetVersion) GetVersion (drop 1 body) ≡ result → accepted_by (clear_outcome tag (drop 1 body) d result) ≡ None
  by_led (Err cause) is = refl
  by_led (Ok led) is = leads_none led (clear_leads q h f (Plain GetVersion) (drop 1 body) GetVersion led refl is)

  version_by : (o : Option Sent) (cause : Option ReqIgnored) → ((sent : Sent) → o ≡ Some sent → sent.aim ≡ Plain GetVersion) → accepted_by (hears_by q h f tag body d o cause) ≡ None
  version_by o (Some cause) aims = refl
  version_by None None aims = refl
  version_by (Some sent) None aims = subst (λ (a : Aim). accepted_by (hears_to q h f tag body d a) ≡ None) (sym (aims sent refl)) (by_led (clear_led q h f (Plain GetVersion) GetVersion (drop 1 body)) refl)

  pub version_accepts : ((sent : Sent) → outstanding h ≡ Some sent → sent.aim ≡ Plain GetVersion) → accepted_by (hears q h false tag body f d) ≡ None
  unfolding hears
  version_accepts aims = version_by (outstanding h) (body_fault q (outstanding h) false tag body) aims
