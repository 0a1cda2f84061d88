-- What is kept after an answer depends on no value that the requester chose when it heard it.
use Rattle.std.proofs.Common.{◌≡◌, ◌==◌, ℕ, List, [], ◌∷◌, refl, sym, ap, ◌∙◌, true, false, Option, Some, None}
use Rattle.std.proofs.lemmas.Bool.{not-true}
use Rattle.std.proofs.lemmas.Option.{none-some}
use Rattle.requester_machine.specs.Asking.{Outcome}
use Rattle.requester_machine.specs.Asking.Outcome.{Fails, Ignores, Warns, Resends, Adds}
use Rattle.requester_machine.specs.Bodies.{has_tag}
use Rattle.requester_machine.specs.Commands.{Free}
use Rattle.requester_machine.specs.Hearing.{hears}
use Rattle.requester_machine.specs.History.{Entry, History, next_tag, outstanding, sent_in}
use Rattle.requester_machine.specs.History.Entry.{Told, TookClear, TookRecord}
use Rattle.requester_machine.specs.Message.{Sent}
use Rattle.requester_machine.specs.Session.{session_of}
use Rattle.requester_machine.specs.Setup.{ReqSetup}
use Rattle.requester_machine.specs.Shown.{after}
use Rattle.responder_machine.specs.History as responder_history
use Rattle.check_laws.proofs.KeptParts.{kept_is, next_twice, sent_twice}
use Rattle.check_laws.proofs.Repadding.{agree_self, heard_with, repadded}
use Rattle.check_laws.specs.Keeping.{kept_of}
use Rattle.check_laws.specs.Padding.{next_with, session_asked}
use Rattle.requester_machine.specs.Owed.{sent_with}
use Rattle.check_laws.specs.RepliesShown.{no_values}
use Rattle.capture_machine.proofs.Agrees.{HaveIds}
use Rattle.capture_machine.proofs.AskersAlike.{AskersAlike}
use Rattle.capture_machine.proofs.AskersAlike.AskersAlike.{Settled, Owing, Shown, Due}
use Rattle.capture_machine.proofs.AskersHear.{later_tag, next_later}
use Rattle.capture_machine.proofs.HeardNext.{heard_next, other_tag}
use Rattle.capture_machine.proofs.HearsAlike.{EntryAlike, OutcomeAlike, hears_alike}
use Rattle.capture_machine.specs.CapturedRequests.{is_later, owes}
use Rattle.requester_machine.specs.Owed.{with_next}
use Rattle.capture_machine.specs.Rounds.{Dialogue, Round, following_tag, no_draw}

-- What is between two ends, with this history of the requester, after an answer in this round.
abbrev pub behind : ReqSetup → responder_history.History → Round → Option (List ℕ) → Option (List ℕ) → History → Dialogue
behind q r rd sending fetching l = record { setup = q; requester = l; responder = r; round = Some rd; sending = sending; fetching = fetching }

module _ (q : ReqSetup) (r : responder_history.History) (rd : Round) (sending fetching : Option (List ℕ)) where
  abbrev at : History → Dialogue
  at l = behind q r rd sending fetching l

  -- An entry that came, of which the message that it sent may be another.
  waits_with : (e x : Entry) (h : History) (o : Option Sent) → EntryAlike e x → outstanding (with_next o (e ∷ h)) ≡ o
  waits_with (TookClear tag m led d) x h o alike = refl
  waits_with (TookRecord tag id sealed inner led d) x h o alike = refl
  waits_with (Told c s d) x h o alike = absurd alike

  waits_for : (e x : Entry) (h : History) → EntryAlike e x → outstanding (e ∷ h) ≡ sent_in e
  waits_for (TookClear tag m led d) x h alike = refl
  waits_for (TookRecord tag id sealed inner led d) x h alike = refl
  waits_for (Told c s d) x h alike = absurd alike

  none_same : (e x : Entry) (h : History) → EntryAlike e x → sent_in e ≡ None → with_next None (e ∷ h) ≡ e ∷ h
  none_same (TookClear tag m led d) x h alike out = ap (λ (o : Option Sent). TookClear tag m (record led { next = o }) d ∷ h) (sym out)
  none_same (TookRecord tag id sealed inner led d) x h alike out = ap (λ (o : Option Sent). TookRecord tag id sealed inner (record led { next = o }) d ∷ h) (sym out)
  none_same (Told c s d) x h alike out = absurd alike

  -- Of what it owes, what is kept has no padding.
  owed_same : (e x : Entry) (h : History) (s : Sent) → EntryAlike e x → sent_in e ≡ Some s → is_later (Some rd) (Some s) ≡ true → kept_of (at (e ∷ h)) ≡ kept_of (at (repadded q.psk [] (e ∷ h)))
  owed_same e x h s alike out later =
      let l : History = e ∷ h in
      let bare : History = with_next None l in
      let mine : Sent = sent_with q.psk (session_of (session_asked s.aim) bare) [] s in
      let waits : outstanding l ≡ Some s = waits_for e x h alike ∙ out in
      let is : repadded q.psk [] l ≡ with_next (Some mine) l = ap (λ (o : Option Sent). with_next (next_with q.psk l [] o) l) waits in
      let one : owes (at l) ≡ true = ap (is_later (Some rd)) waits ∙ later in
      let two : owes (at (with_next (Some mine) l)) ≡ true = ap (is_later (Some rd)) (waits_with e x h (Some mine) alike) ∙ later_tag (Some rd) mine s refl ∙ later in
      let bare_too : with_next None (with_next (Some mine) l) ≡ bare = next_twice l None (Some mine) in
      let mine_too : next_with q.psk (with_next (Some mine) l) [] (outstanding (with_next (Some mine) l)) ≡ Some mine =
      ap (next_with q.psk (with_next (Some mine) l) []) (waits_with e x h (Some mine) alike)
      ∙ ap (λ (b : History). Some (sent_with q.psk (session_of (session_asked s.aim) b) [] mine)) bare_too
      ∙ ap Some (sent_twice q.psk (session_of (session_asked s.aim) bare) [] [] s) in
      kept_is true (at l) one
      ∙ ap (λ (o : Option Sent). record { setup = q; requester = bare; owed = o; responder = r; round = Some rd }) (ap (next_with q.psk l []) waits ∙ sym mine_too)
      ∙ ap (λ (b : History). record { setup = q; requester = b; owed = next_with q.psk (with_next (Some mine) l) [] (outstanding (with_next (Some mine) l)); responder = r; round = Some rd }) (sym bare_too)
      ∙ sym (kept_is true (at (with_next (Some mine) l)) two) ∙ ap (λ (b : History). kept_of (at b)) (sym is)

  entry_same : (e x : Entry) (h : History) (o : Option Sent) → EntryAlike e x → sent_in e ≡ o → ((s : Sent) → sent_in e ≡ Some s → is_later (Some rd) (Some s) ≡ true) → kept_of (at (e ∷ h)) ≡ kept_of (at (repadded q.psk [] (e ∷ h)))
  entry_same e x h None alike out later =
      ap (λ (l : History). kept_of (at l)) (sym (ap (λ (o : Option Sent). with_next (next_with q.psk (e ∷ h) [] o) (e ∷ h)) (waits_for e x h alike ∙ out) ∙ none_same e x h alike out))
  entry_same e x h (Some s) alike out later = owed_same e x h s alike out (later s out)

  -- Of two outcomes of one answer.
  outcome_same : (h : History) (tag : ℕ) (body : List ℕ) (f : Free) (o p : Outcome) → HaveIds h → next_tag h ≡ following_tag (Some rd) → hears q h false tag body f no_draw ≡ o → hears q h false tag body no_values no_draw ≡ p → OutcomeAlike o p
      → kept_of (at (after h o)) ≡ kept_of (at (after h p))
  outcome_same h tag body f (Adds e) (Adds x) ids next is are alike =
      entry_same e x h (sent_in e) alike refl (λ s out. next_later rd s ((heard_next q h false tag body f no_draw e is s out).0 ∙ next))
      ∙ ap (λ (l : History). kept_of (at l)) (sym (heard_with q h no_values tag body [] e (Adds x) ids are alike))
  outcome_same h tag body f (Adds e) (Fails b) ids next is are alike = absurd alike
  outcome_same h tag body f (Adds e) (Ignores b) ids next is are alike = absurd alike
  outcome_same h tag body f (Adds e) (Warns b) ids next is are alike = absurd alike
  outcome_same h tag body f (Adds e) (Resends b) ids next is are alike = absurd alike
  outcome_same h tag body f (Fails a) (Adds x) ids next is are alike = absurd alike
  outcome_same h tag body f (Ignores a) (Adds x) ids next is are alike = absurd alike
  outcome_same h tag body f (Warns a) (Adds x) ids next is are alike = absurd alike
  outcome_same h tag body f (Resends a) (Adds x) ids next is are alike = absurd alike
  outcome_same h tag body f (Fails a) (Fails b) ids next is are alike = refl
  outcome_same h tag body f (Fails a) (Ignores b) ids next is are alike = refl
  outcome_same h tag body f (Fails a) (Warns b) ids next is are alike = refl
  outcome_same h tag body f (Fails a) (Resends b) ids next is are alike = refl
  outcome_same h tag body f (Ignores a) (Fails b) ids next is are alike = refl
  outcome_same h tag body f (Ignores a) (Ignores b) ids next is are alike = refl
  outcome_same h tag body f (Ignores a) (Warns b) ids next is are alike = refl
  outcome_same h tag body f (Ignores a) (Resends b) ids next is are alike = refl
  outcome_same h tag body f (Warns a) (Fails b) ids next is are alike = refl
  outcome_same h tag body f (Warns a) (Ignores b) ids next is are alike = refl
  outcome_same h tag body f (Warns a) (Warns b) ids next is are alike = refl
  outcome_same h tag body f (Warns a) (Resends b) ids next is are alike = refl
  outcome_same h tag body f (Resends a) (Fails b) ids next is are alike = refl
  outcome_same h tag body f (Resends a) (Ignores b) ids next is are alike = refl
  outcome_same h tag body f (Resends a) (Warns b) ids next is are alike = refl
  outcome_same h tag body f (Resends a) (Resends b) ids next is are alike = refl

  heard_by : (h : History) (tag : ℕ) (body : List ℕ) (f : Free) → HaveIds h → next_tag h ≡ following_tag (Some rd) → kept_of (at (after h (hears q h false tag body f no_draw))) ≡ kept_of (at (after h (hears q h false tag body no_values no_draw)))
  heard_by h tag body f ids next = outcome_same h tag body f (hears q h false tag body f no_draw) (hears q h false tag body no_values no_draw) ids next refl refl (hears_alike q h h (agree_self h ids) f no_values false tag body no_draw)

  -- Whatever was chosen, what is kept is that.
  pub heard_same : (h g : History) (sd se : Option (List ℕ)) (tag : ℕ) (body : List ℕ) (f : Free) → AskersAlike (Some rd) h g sd se → sd ≡ None → rd.tag ≡ tag
      → kept_of (at (after h (hears q h false tag body f no_draw))) ≡ kept_of (at (after h (hears q h false tag body no_values no_draw)))
  heard_same _ _ _ _ tag body f (Settled h g agree not next) none is = heard_by h tag body f agree.ids next
  heard_same _ _ _ _ tag body f (Owing e x h g s t agree alike out sent like tagged else later next) none is =
      let waits : outstanding (e ∷ h) ≡ Some s = waits_for e x h alike ∙ out in
      let apart : has_tag (Some s) tag ≡ false = ap (λ (n : ℕ). s.tag == n) (sym is) ∙ not-true (s.tag == rd.tag) later in
      ap (λ (l : History). kept_of (at l)) (other_tag q (e ∷ h) s f tag body no_draw waits apart ∙ sym (other_tag q (e ∷ h) s no_values tag body no_draw waits apart))
  heard_same _ _ _ _ tag body f (Shown h g w v a b handle number s t u waits wait aims aim tags not next) none is = absurd (none-some w (sym none))
  heard_same _ _ _ _ tag body f (Due old m h g w v a b handle number u still next) none is = absurd (none-some w (sym none))
