-- What is left unjudged of an answer is left so whatever is kept of the packets: each walk over them tells the same but
-- for padding.
use Rattle.std.proofs.Common.{◌≡◌, ◌==◌, ◌∙◌, ℕ, List, ◌∷◌, refl, sym, ap, subst, Bool, true, false, Option, Some, None}
use Rattle.std.specs.Prelude.{not}
use Rattle.std.proofs.lemmas.Bool.{false≢true}
use Rattle.std.proofs.lemmas.Option.{none-some, same_Some}
use Rattle.check_laws.proofs.KnownFetches.{kept_asks_none}
use Rattle.check_requester.specs.HeardKept.{asks_upon}
use Rattle.check_laws.proofs.KeptAnswers.{kept_is_restored}
use Rattle.check_laws.proofs.OneWalk.{walks_alike}
use Rattle.check_laws.specs.DropsShown.{IsShownAnswer}
use Rattle.check_laws.specs.Keeping.{Keeps, Kept, restored}
use Rattle.check_laws.specs.RepliesShown.{heard_from, no_values}
use Rattle.check_fetched_laws.proofs.LargeAsked.{asks_large}
use Rattle.check_fetched_ends.specs.JudgedEnds.{IsLeft}
use Rattle.requester_machine.specs.Asking.{Outcome}
use Rattle.requester_machine.specs.Asking.Outcome.{Fails, Ignores, Warns, Resends, Adds}
use Rattle.requester_machine.specs.Hearing.{hears}
use Rattle.requester_machine.specs.History.{Entry, History, outstanding, sent_in}
use Rattle.requester_machine.specs.History.Entry.{Told, TookClear, TookRecord}
use Rattle.requester_machine.specs.Message.{Sent}
use Rattle.requester_machine.specs.Setup.{ReqSetup}
use Rattle.requester_machine.specs.Shown.{after}
use Rattle.responder_machine.specs.History as responder_history
use Rattle.responder_machine.specs.Setup.{towards}
use Rattle.capture_machine.proofs.Agrees.{Agree}
use Rattle.capture_machine.proofs.AskersAlike.{AskersAlike, alike_aim}
use Rattle.capture_machine.proofs.HearsAlike.{EntryAlike, NextAlike, OutcomeAlike, hears_alike}
use Rattle.capture_machine.proofs.AskersAlike.AskersAlike.{Settled, Owing, Shown, Due}
use Rattle.capture_machine.specs.CapturedRequests.{is_later}
use Rattle.capture_machine.specs.LargeAnswers.{is_fetching, is_for_chunk}
use Rattle.capture_machine.specs.Rounds.{Round, no_draw}
use Rattle.world_machine.specs.Setup.{Configuration, known_of}

next_fetching : (o p : Option Sent) → NextAlike o p → is_fetching o ≡ is_fetching p
next_fetching None None alike = refl
next_fetching (Some s) (Some t) alike = ap is_for_chunk (alike_aim s t alike)
next_fetching None (Some t) alike = absurd alike
next_fetching (Some s) None alike = absurd alike

entry_fetching : (e x : Entry) (h g : History) → EntryAlike e x → is_fetching (outstanding (e ∷ h)) ≡ is_fetching (outstanding (x ∷ g))
entry_fetching (TookClear tag m led d) (TookClear tag' m' led' d') h g alike = next_fetching led.next led'.next alike.2.next
entry_fetching (TookRecord tag id sealed inner led d) (TookRecord tag' id' sealed' inner' led' d') h g alike = next_fetching led.next led'.next alike.4.next
entry_fetching (Told c s d) x h g alike = absurd alike
entry_fetching (TookClear tag m led d) (Told c s x) h g alike = absurd alike
entry_fetching (TookClear tag m led d) (TookRecord tag' id' sealed' inner' led' d') h g alike = absurd alike
entry_fetching (TookRecord tag id sealed inner led d) (Told c s x) h g alike = absurd alike
entry_fetching (TookRecord tag id sealed inner led d) (TookClear tag' m' led' d') h g alike = absurd alike

-- Where no chunk was awaited before.
pub outcome_fetching : (h g : History) (o p : Outcome) → is_fetching (outstanding h) ≡ false → OutcomeAlike o p → is_fetching (outstanding (after h o)) ≡ true → is_fetching (outstanding (after g p)) ≡ true
outcome_fetching h g (Adds e) (Adds x) none alike gets = sym (entry_fetching e x h g alike) ∙ gets
outcome_fetching h g (Adds e) (Fails b) none alike gets = absurd alike
outcome_fetching h g (Adds e) (Ignores b) none alike gets = absurd alike
outcome_fetching h g (Adds e) (Warns b) none alike gets = absurd alike
outcome_fetching h g (Adds e) (Resends b) none alike gets = absurd alike
outcome_fetching h g (Fails a) p none alike gets = absurd (false≢true (sym none ∙ gets))
outcome_fetching h g (Ignores a) p none alike gets = absurd (false≢true (sym none ∙ gets))
outcome_fetching h g (Warns a) p none alike gets = absurd (false≢true (sym none ∙ gets))
outcome_fetching h g (Resends a) p none alike gets = absurd (false≢true (sym none ∙ gets))

waits_for : (e x : Entry) (h : History) → EntryAlike e x → outstanding (e ∷ h) ≡ sent_in e
waits_for (TookClear tag m led d) x h alike = refl
waits_for (TookRecord tag id sealed inner led d) x h alike = refl
waits_for (Told c s d) x h alike = absurd alike

module _ (q : ReqSetup) (round : Round) (answer : List ℕ) where
  abbrev Gets : History → Type 0
  Gets h = is_fetching (outstanding (after h (hears q h false round.tag answer no_values no_draw))) ≡ true

  gets_same : (h g : History) (sd se : Option (List ℕ)) → AskersAlike (Some round) h g sd se → sd ≡ None → is_fetching (outstanding h) ≡ false → Gets h → Gets g
  gets_same _ _ _ _ (Settled h g agree not next) none idle gets =
      outcome_fetching h g (hears q h false round.tag answer no_values no_draw) (hears q g false round.tag answer no_values no_draw) idle (hears_alike q h g agree no_values no_values false round.tag answer no_draw) gets
  gets_same _ _ _ _ (Owing e x h g s t agree alike out sent like tagged else later next) none idle gets =
      absurd
      (asks_large q (e ∷ h) no_values round.tag answer idle ⊥
      (λ it waits its.
      let same : it ≡ s = same_Some it s (sym waits ∙ waits_for e x h alike ∙ out) in
      absurd (false≢true (sym (ap not (ap (λ (y : Sent). y.tag == round.tag) (sym same) ∙ its)) ∙ later)))
      gets).2
  gets_same _ _ _ _ (Shown h g w v a b handle number s t u waits wait aims aim tags not next) none idle gets = absurd (none-some w (sym none))
  gets_same _ _ _ _ (Due old m h g w v a b handle number u still next) none idle gets = absurd (none-some w (sym none))

pub left_same : (w : Configuration) (q : ReqSetup) (older : List (List ℕ)) (k other : Kept) (tag : ℕ) (answer : List ℕ) → Keeps w q older k → Keeps w q older other → IsLeft w k tag answer → IsLeft w other tag answer
unfolding heard_from
left_same w q older k other tag answer keeps keeps_other is =
    let round : Round = is.0 in
    let alike = (walks_alike w q older (restored k) (restored other) (kept_is_restored w q older k keeps).0 (kept_is_restored w q older other keeps_other).0).alike in
    let shown = subst (λ (l : responder_history.History). IsShownAnswer (towards w.responder (known_of k.setup)) l round.tag round.body answer) alike.responder is.2 in
    let askers = subst (λ (o : Option Round). AskersAlike o (restored k).requester (restored other).requester None None) is.1.0 alike.askers in
    let gets = subst (λ (n : ℕ). is_fetching (outstanding (after (restored k).requester (hears k.setup (restored k).requester false n answer no_values no_draw))) ≡ true) (sym is.1.1) is.3 in
    let got = gets_same k.setup round answer (restored k).requester (restored other).requester None None askers refl (kept_asks_none w q older k keeps) gets in
    let there = subst (λ (n : ℕ). is_fetching (outstanding (after (restored other).requester (hears k.setup (restored other).requester false n answer no_values no_draw))) ≡ true) is.1.1 got in (
      round,
      (sym alike.round ∙ is.1.0, is.1.1, is.1.2),
      subst (λ (s : ReqSetup). IsShownAnswer (towards w.responder (known_of s)) other.responder round.tag round.body answer) alike.setup shown,
      subst (λ (s : ReqSetup). is_fetching (outstanding (after (restored other).requester (hears s (restored other).requester false tag answer no_values no_draw))) ≡ true) alike.setup there,
    )
