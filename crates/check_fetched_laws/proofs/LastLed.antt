-- After CHUNK_GETs in the clear: what the newest large response that was not seen is judged by, and the history with
-- its bytes.
use Rattle.std.proofs.Common.{◌≡◌, ◌==◌, ◌&&◌, ◌||◌, ◌++◌, ◌∙◌, ℕ, List, [], ◌∷◌, refl, sym, ap, subst, Bool, true, false, Option, Some, None, cond, is_some}
use Rattle.std.specs.Prelude.{MatchBool, not}
use Rattle.std.proofs.lemmas.Bool.{false≢true}
use Rattle.spdm_basis.proofs.Bools.{and_second}
use Rattle.check_fetched_laws.specs.ClearSessions.{AreGets, IsUnseenRequest}
use Rattle.check_fetched_laws.specs.LastShown.{IsShownEntry, IsShownWhole, drops_of_whole, drops_with}
use Rattle.responder_machine.specs.History.{Entry, History}
use Rattle.responder_machine.specs.History.Entry.{Clear, Sealed, Queued, Ticked, Dropped}
use Rattle.responder_machine.specs.May.{with_dropped}
use Rattle.responder_machine.specs.Setup.{RspSetup}
use Rattle.responder_machine.specs.Turn.{Turn, handle_in, takes}
use Rattle.spdm_machine.specs.Keys.{Draw}
use Rattle.spdm_grammar.specs.declared.names.request_code.TheConstants.{CHUNK_GET}
use Rattle.capture_machine.specs.LargeAnswers.{begun_with, dropped_before_large, is_unseen_effect, is_unseen_in, is_untouched, seen, touches, with_large}

seen_by : (a b : Bool) → not (a || b) ≡ true → a ≡ false
seen_by true b is = absurd (false≢true is)
seen_by false b is = refl

-- CHUNK_GET was seen.
pub get_seen : (t : Turn) → (takes CHUNK_GET t && not (is_unseen_effect t.effect || is_some (handle_in t.effect))) ≡ true → is_unseen_effect t.effect ≡ false
get_seen t is = seen_by (is_unseen_effect t.effect) (is_some (handle_in t.effect)) (and_second (takes CHUNK_GET t) _ is)

unseen_clear : (e : Entry) → IsUnseenRequest e → is_unseen_in None e ≡ true
unseen_clear (Clear tag t d) is = is.0
unseen_clear (Sealed tag m t reply d) is = absurd is
unseen_clear (Queued bytes) is = absurd is
unseen_clear (Ticked seconds) is = absurd is
unseen_clear (Dropped id) is = absurd is

-- A message in the clear touches no session.
clear_touches : (id : Option ℕ) (tag : ℕ) (t : Turn) (d : Draw) → touches id (Clear tag t d) ≡ false
clear_touches None tag t d = refl
clear_touches (Some id) tag t d = refl

module _ (v : List ℕ) (e : Entry) (before : History) (unseen : IsUnseenRequest e) where
  -- The sessions that were dropped before it.
  pub drops_are : (gets : List Entry) → AreGets gets → drops_of_whole None v (gets ++ e ∷ before) ≡ drops_with before (seen v e)
  drops_are [] are = ap (λ (b : Bool). cond b (drops_with before (seen v e)) (drops_of_whole None v before)) (unseen_clear e unseen)
  drops_are (Clear tag t d ∷ gets) are =
      ap (λ (b : Bool). cond b (drops_with (gets ++ e ∷ before) (seen v (Clear tag t d))) (drops_of_whole None v (gets ++ e ∷ before))) (get_seen t are.0) ∙ drops_are gets are.1
  drops_are (Sealed tag m t reply d ∷ gets) are = absurd (false≢true are.0)
  drops_are (Queued bytes ∷ gets) are = absurd (false≢true are.0)
  drops_are (Ticked seconds ∷ gets) are = absurd (false≢true are.0)
  drops_are (Dropped id ∷ gets) are = absurd (false≢true are.0)

  -- Its request leads to these bytes exactly when it does after no CHUNK_GET.
  pub shown_entry : (r : RspSetup) (gets : List Entry) → AreGets gets → IsShownWhole r None v (gets ++ e ∷ before) → IsShownEntry r before (seen v e)
  shown_entry r [] are is = subst (λ (b : Bool). MatchBool b (IsShownEntry r before (seen v e)) (IsShownWhole r None v before)) (unseen_clear e unseen) is
  shown_entry r (Clear tag t d ∷ gets) are is =
      shown_entry r gets are.1 (subst (λ (b : Bool). MatchBool b (IsShownEntry r (gets ++ e ∷ before) (seen v (Clear tag t d))) (IsShownWhole r None v (gets ++ e ∷ before))) (get_seen t are.0) is)
  shown_entry r (Sealed tag m t reply d ∷ gets) are is = absurd (false≢true are.0)
  shown_entry r (Queued bytes ∷ gets) are is = absurd (false≢true are.0)
  shown_entry r (Ticked seconds ∷ gets) are is = absurd (false≢true are.0)
  shown_entry r (Dropped id ∷ gets) are is = absurd (false≢true are.0)

  pub entry_shown : (r : RspSetup) (gets : List Entry) → AreGets gets → IsShownEntry r before (seen v e) → IsShownWhole r None v (gets ++ e ∷ before)
  entry_shown r [] are is = subst (λ (b : Bool). MatchBool b (IsShownEntry r before (seen v e)) (IsShownWhole r None v before)) (sym (unseen_clear e unseen)) is
  entry_shown r (Clear tag t d ∷ gets) are is =
      subst (λ (b : Bool). MatchBool b (IsShownEntry r (gets ++ e ∷ before) (seen v (Clear tag t d))) (IsShownWhole r None v (gets ++ e ∷ before))) (sym (get_seen t are.0)) (entry_shown r gets are.1 is)
  entry_shown r (Sealed tag m t reply d ∷ gets) are is = absurd (false≢true are.0)
  entry_shown r (Queued bytes ∷ gets) are is = absurd (false≢true are.0)
  entry_shown r (Ticked seconds ∷ gets) are is = absurd (false≢true are.0)
  entry_shown r (Dropped id ∷ gets) are is = absurd (false≢true are.0)

  -- The history with the bytes, and with the sessions that were dropped.
  dropped_here : (ids : List ℕ) (gets : List Entry) → AreGets gets → dropped_before_large None ids (gets ++ e ∷ before) ≡ gets ++ e ∷ with_dropped before ids
  dropped_here ids [] are = ap (λ (b : Bool). cond b (e ∷ with_dropped before ids) (e ∷ dropped_before_large None ids before)) (unseen_clear e unseen)
  dropped_here ids (Clear tag t d ∷ gets) are =
      ap (λ (b : Bool). cond b (Clear tag t d ∷ with_dropped (gets ++ e ∷ before) ids) (Clear tag t d ∷ dropped_before_large None ids (gets ++ e ∷ before))) (get_seen t are.0)
      ∙ ap (λ (l : History). Clear tag t d ∷ l) (dropped_here ids gets are.1)
  dropped_here ids (Sealed tag m t reply d ∷ gets) are = absurd (false≢true are.0)
  dropped_here ids (Queued bytes ∷ gets) are = absurd (false≢true are.0)
  dropped_here ids (Ticked seconds ∷ gets) are = absurd (false≢true are.0)
  dropped_here ids (Dropped id ∷ gets) are = absurd (false≢true are.0)

  pub with_here : (g : History) (gets : List Entry) → AreGets gets → with_large None v (gets ++ e ∷ g) ≡ gets ++ seen v e ∷ g
  with_here g [] are = ap (λ (b : Bool). cond b (seen v e ∷ g) (e ∷ with_large None v g)) (unseen_clear e unseen)
  with_here g (Clear tag t d ∷ gets) are =
      ap (λ (b : Bool). cond b (seen v (Clear tag t d) ∷ (gets ++ e ∷ g)) (Clear tag t d ∷ with_large None v (gets ++ e ∷ g))) (get_seen t are.0)
      ∙ ap (λ (l : History). Clear tag t d ∷ l) (with_here g gets are.1)
  with_here g (Sealed tag m t reply d ∷ gets) are = absurd (false≢true are.0)
  with_here g (Queued bytes ∷ gets) are = absurd (false≢true are.0)
  with_here g (Ticked seconds ∷ gets) are = absurd (false≢true are.0)
  with_here g (Dropped id ∷ gets) are = absurd (false≢true are.0)

  pub given_here : (ids : List ℕ) (gets : List Entry) → AreGets gets → with_large None v (dropped_before_large None ids (gets ++ e ∷ before)) ≡ gets ++ seen v e ∷ with_dropped before ids
  given_here ids gets are = ap (with_large None v) (dropped_here ids gets are) ∙ with_here (with_dropped before ids) gets are

  -- No record came since.
  pub untouched_here : (id : Option ℕ) (gets : List Entry) → AreGets gets → is_untouched None id (gets ++ e ∷ before) ≡ true
  untouched_here id [] are = ap (λ (b : Bool). cond b true (not (touches id e) && is_untouched None id before)) (unseen_clear e unseen)
  untouched_here id (Clear tag t d ∷ gets) are =
      ap (λ (b : Bool). cond b true (not (touches id (Clear tag t d)) && is_untouched None id (gets ++ e ∷ before))) (get_seen t are.0)
      ∙ ap (λ (b : Bool). not b && is_untouched None id (gets ++ e ∷ before)) (clear_touches id tag t d) ∙ untouched_here id gets are.1
  untouched_here id (Sealed tag m t reply d ∷ gets) are = absurd (false≢true are.0)
  untouched_here id (Queued bytes ∷ gets) are = absurd (false≢true are.0)
  untouched_here id (Ticked seconds ∷ gets) are = absurd (false≢true are.0)
  untouched_here id (Dropped which ∷ gets) are = absurd (false≢true are.0)
