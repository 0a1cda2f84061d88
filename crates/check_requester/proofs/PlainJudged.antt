-- A record that is judged where nothing is owed and nothing outstanding.
use Rattle.std.proofs.Common.{◌≡◌, ◌∙◌, ℕ, List, Bool, false, None, refl, sym, ap}
use Rattle.std.specs.Prelude.{if◌then◌else◌, is_some}
use Rattle.std.proofs.lemmas.Option.{none-some}
use Rattle.requester_core.specs.Joined.{StandsFor}
use Rattle.requester_core.specs.OwnRecords.{OpensAs, awaits_record}
use Rattle.requester_core.specs.declared.joined.RequesterCore.{RequesterCore}
use Rattle.requester_machine.specs.History.{History, outstanding}
use Rattle.requester_machine.specs.Named.{session_named}
use Rattle.requester_machine.specs.Setup.{ReqSetup}
use Rattle.spdm_machine.specs.Bodies.{record_body}
use Rattle.check_requester.proofs.AskedBy.{bare_kept, command_asks}
use Rattle.check_requester.proofs.OpensAsking.{idle_opens}
use Rattle.check_requester.proofs.ReasonsKept.{none_apart, other_why, sealed_other}
use Rattle.check_requester.specs.Asked.{IsAskedBy, IsRefusedFor}
use Rattle.check_requester.specs.JudgedRequester.{Carries, IsAsker}
use Rattle.check_requester.specs.Commanded.{IsSentByCommand}
use Rattle.check_requester.specs.declared.judged_requester.JudgedRequester.{JudgedRequester}
use Rattle.check_laws.specs.Keeping.{GoesOnKept, Kept, restored}
use Rattle.capture_machine.specs.Difference.Why.{BadRecord, BadRequest}
use Rattle.capture_machine.specs.Opening.{opens_asking}
use Rattle.world_machine.specs.Setup.{Configuration}

-- It does not open as the next one, and so not at all.
pub shut_as : (seen : RequesterCore) (q : ReqSetup) (h : History) (sealed out : List ℕ) → StandsFor seen q h → outstanding h ≡ None → false ≡ opens_asking q (session_named h sealed) sealed → OpensAs q.psk (session_named h sealed) sealed false out
shut_as seen q h sealed out stands none is = sym (idle_opens seen.sessions q h sealed stands.sessions (ap awaits_record none)) ∙ sym is

module _ (q : ReqSetup) (k : Kept) (owed : k.owed ≡ None) (old : JudgedRequester) (asker : IsAsker old q k) where
  rests : old.owes ≡ false
  rests = asker.owes ∙ ap is_some owed

  pub bare_plain : StandsFor old.asking q k.requester
  bare_plain = bare_kept q k old asker rests

  not_on : (body : List ℕ) (after : History) → GoesOnKept k body after → ⊥
  not_on body after goes = none-some goes.0 (sym owed ∙ goes.2)

  -- Whether a command sends it is whether it begins a round.
  pub plain_asks : (new : JudgedRequester) (sealed : List ℕ) → outstanding k.requester ≡ None → new.setup ≡ old.setup → new.owes ≡ old.owes → (b : Bool) → IsSentByCommand q k.requester (record_body sealed) b new.asking → IsAskedBy q k (record_body sealed) b new
  plain_asks new sealed none same owes b sent = command_asks q k (record_body sealed) old new asker same (owes ∙ rests) (not_on (record_body sealed)) owed none b sent

  -- Else it is refused by whether it opens.
  pub plain_why : (w : Configuration) (older : List (List ℕ)) → Carries w q older k → (sealed : List ℕ) (b : Bool) → b ≡ opens_asking q (session_named k.requester sealed) sealed → IsRefusedFor (restored k) (record_body sealed) (if b then BadRequest else BadRecord)
  plain_why w older keeps sealed b is =
      other_why w q older k keeps (record_body sealed) asker.setup (none_apart w q older k keeps (record_body sealed) (ap is_some owed)) _
      (sealed_other q k.requester (record_body sealed) b refl is)
