-- Whether a large response is fetched after an answer depends on no value that the requester chose when it heard it.
use Rattle.std.proofs.Common.{◌≡◌, ◌==◌, ℕ, List, ◌∷◌, refl, sym, ap, ◌∙◌, false, Option, Some, None}
use Rattle.std.proofs.lemmas.Bool.{not-true}
use Rattle.std.proofs.lemmas.Option.{none-some}
use Rattle.requester_machine.specs.Asking.{Outcome}
use Rattle.requester_machine.specs.Asking.Outcome.{Fails, Ignores, Warns, Resends, Adds}
use Rattle.requester_machine.specs.Bodies.{has_tag}
use Rattle.requester_machine.specs.Commands.{Free}
use Rattle.requester_machine.specs.Hearing.{hears}
use Rattle.requester_machine.specs.History.{Entry, History, outstanding, sent_in}
use Rattle.requester_machine.specs.History.Entry.{Told, TookClear, TookRecord}
use Rattle.requester_machine.specs.Message.{Sent}
use Rattle.requester_machine.specs.Setup.{ReqSetup}
use Rattle.requester_machine.specs.Shown.{after}
use Rattle.check_laws.proofs.Repadding.{agree_self}
use Rattle.check_laws.specs.RepliesShown.{no_values}
use Rattle.capture_machine.proofs.Agrees.{HaveIds}
use Rattle.capture_machine.proofs.AskersAlike.{AskersAlike, alike_aim}
use Rattle.capture_machine.proofs.AskersAlike.AskersAlike.{Settled, Owing, Shown, Due}
use Rattle.capture_machine.proofs.HeardNext.{other_tag}
use Rattle.capture_machine.proofs.HearsAlike.{EntryAlike, NextAlike, OutcomeAlike, hears_alike}
use Rattle.capture_machine.specs.LargeAnswers.{is_fetching, is_for_chunk}
use Rattle.capture_machine.specs.Rounds.{Round, no_draw}

next_fetching : (o p : Option Sent) → NextAlike o p → is_fetching o ≡ is_fetching p
next_fetching None None alike = refl
next_fetching (Some s) (Some t) alike = ap is_for_chunk (alike_aim s t alike)
next_fetching None (Some t) alike = absurd alike
next_fetching (Some s) None alike = absurd alike

entry_fetching : (e x : Entry) (h : History) → EntryAlike e x → is_fetching (outstanding (e ∷ h)) ≡ is_fetching (outstanding (x ∷ h))
entry_fetching (TookClear tag m led d) (TookClear tag' m' led' d') h alike = next_fetching led.next led'.next alike.2.next
entry_fetching (TookRecord tag id sealed inner led d) (TookRecord tag' id' sealed' inner' led' d') h alike = next_fetching led.next led'.next alike.4.next
entry_fetching (Told c s d) x h alike = absurd alike
entry_fetching (TookClear tag m led d) (Told c s x) h alike = absurd alike
entry_fetching (TookClear tag m led d) (TookRecord tag' id' sealed' inner' led' d') h alike = absurd alike
entry_fetching (TookRecord tag id sealed inner led d) (Told c s x) h alike = absurd alike
entry_fetching (TookRecord tag id sealed inner led d) (TookClear tag' m' led' d') h alike = absurd alike

outcome_fetching : (h : History) (o p : Outcome) → OutcomeAlike o p → is_fetching (outstanding (after h o)) ≡ is_fetching (outstanding (after h p))
outcome_fetching h (Adds e) (Adds x) alike = entry_fetching e x h alike
outcome_fetching h (Adds e) (Fails b) alike = absurd alike
outcome_fetching h (Adds e) (Ignores b) alike = absurd alike
outcome_fetching h (Adds e) (Warns b) alike = absurd alike
outcome_fetching h (Adds e) (Resends b) alike = absurd alike
outcome_fetching h (Fails a) (Adds x) alike = absurd alike
outcome_fetching h (Ignores a) (Adds x) alike = absurd alike
outcome_fetching h (Warns a) (Adds x) alike = absurd alike
outcome_fetching h (Resends a) (Adds x) alike = absurd alike
outcome_fetching h (Fails a) (Fails b) alike = refl
outcome_fetching h (Fails a) (Ignores b) alike = refl
outcome_fetching h (Fails a) (Warns b) alike = refl
outcome_fetching h (Fails a) (Resends b) alike = refl
outcome_fetching h (Ignores a) (Fails b) alike = refl
outcome_fetching h (Ignores a) (Ignores b) alike = refl
outcome_fetching h (Ignores a) (Warns b) alike = refl
outcome_fetching h (Ignores a) (Resends b) alike = refl
outcome_fetching h (Warns a) (Fails b) alike = refl
outcome_fetching h (Warns a) (Ignores b) alike = refl
outcome_fetching h (Warns a) (Warns b) alike = refl
outcome_fetching h (Warns a) (Resends b) alike = refl
outcome_fetching h (Resends a) (Fails b) alike = refl
outcome_fetching h (Resends a) (Ignores b) alike = refl
outcome_fetching h (Resends a) (Warns b) alike = refl
outcome_fetching h (Resends a) (Resends b) alike = refl

module _ (q : ReqSetup) (rd : Round) (tag : ℕ) (body : List ℕ) (f : Free) where
  abbrev Same : History → Type 0
  Same h = is_fetching (outstanding (after h (hears q h false tag body f no_draw))) ≡ is_fetching (outstanding (after h (hears q h false tag body no_values no_draw)))

  settled : (h : History) → HaveIds h → Same h
  settled h ids = outcome_fetching h (hears q h false tag body f no_draw) (hears q h false tag body no_values no_draw) (hears_alike q h h (agree_self h ids) f no_values false tag body no_draw)

  waits_for : (e x : Entry) (h : History) → EntryAlike e x → outstanding (e ∷ h) ≡ sent_in e
  waits_for (TookClear tag m led d) x h alike = refl
  waits_for (TookRecord tag id sealed inner led d) x h alike = refl
  waits_for (Told c s d) x h alike = absurd alike

  -- Whatever was chosen, it is that.
  pub fetch_same : (h g : History) (sd se : Option (List ℕ)) → AskersAlike (Some rd) h g sd se → sd ≡ None → rd.tag ≡ tag → Same h
  fetch_same _ _ _ _ (Settled h g agree not next) none is = settled h agree.ids
  fetch_same _ _ _ _ (Owing e x h g s t agree alike out sent like tagged else later next) none is =
      let waits : outstanding (e ∷ h) ≡ Some s = waits_for e x h alike ∙ out in
      let apart : has_tag (Some s) tag ≡ false = ap (λ (n : ℕ). s.tag == n) (sym is) ∙ not-true (s.tag == rd.tag) later in
      ap (λ (l : History). is_fetching (outstanding l)) (other_tag q (e ∷ h) s f tag body no_draw waits apart ∙ sym (other_tag q (e ∷ h) s no_values tag body no_draw waits apart))
  fetch_same _ _ _ _ (Shown h g w v a b handle number s t u waits wait aims aim tags not next) none is = absurd (none-some w (sym none))
  fetch_same _ _ _ _ (Due old m h g w v a b handle number u still next) none is = absurd (none-some w (sym none))
