-- The request of a large response that is held may have led to bytes exactly when they show so of it as the newest one,
-- and, where its fetch began late, no mark is set of the session that they begin.
use Rattle.std.proofs.Common.{◌≡◌, ◌<◌, ◌++◌, ◌∙◌, ℕ, List, ◌∷◌, sym, ap, subst, true, false, Option, Some, None}
use Rattle.check_fetched_laws.proofs.WholeDrops.{whole_has_led}
use Rattle.check_fetched_laws.specs.ClearSessions.{AreGets, IsUnseenRequest}
use Rattle.check_fetched_laws.specs.LastShown.{IsShownEntry, IsShownWhole, drops_of_whole, drops_with}
use Rattle.check_fetched_laws.proofs.LastLed.{drops_are, entry_shown, given_here, shown_entry, untouched_here}
use Rattle.check_fetched_ends.proofs.LateLed.{gets_since, late_is_led}
use Rattle.check_late_laws.proofs.Late.WalksUndrawn.{AreUndrawn, undrawn_at, undrawn_behind}
use Rattle.check_fetched_ends.specs.Held.{HasGets, IsLate}
use Rattle.check_fetched_ends.specs.LastMarked.{IsUnmarked}
use Rattle.check_late_laws.proofs.Late.BehindClear.{last_stays_back}
use Rattle.check_late_laws.specs.Late.PassedLast.{in_front, touched_by}
use Rattle.check_late_laws.specs.declared.late_fetch.marks.Marks.{Marks}
use Rattle.responder_machine.specs.History.{Entry, History}
use Rattle.responder_machine.specs.History.Entry.{Clear}
use Rattle.responder_machine.specs.May.{with_dropped}
use Rattle.responder_machine.specs.Setup.{RspSetup}
use Rattle.responder_machine.specs.Turn.{Turn}
use Rattle.spdm_machine.specs.Keys.{Draw}
use Rattle.capture_machine.specs.CapturedAnswers.{MayHaveLed}
use Rattle.capture_machine.specs.LargeAnswers.{begun_with, dropped_before_large, id_begun, is_untouched, seen, with_large}
use Rattle.capture_machine.specs.Rounds.{no_draw}

-- Where the fetch began late, the request as it came is the one that is held, under another tag.
pub front_is : (marks : Marks) (tag : ℕ) (t : Turn) (gets : List Entry) (before h : History) (late : IsLate marks tag t before) → h ≡ gets ++ before → AreUndrawn h → Clear tag late.back.turn late.back.draw ≡ Clear tag t no_draw
front_is marks tag t gets before h late is undrawn =
    let s = late.back in
    let draw : s.draw ≡ no_draw = undrawn_at s.behind (Clear s.tag s.turn s.draw) s.before (subst AreUndrawn s.is (undrawn_behind gets before (subst AreUndrawn is undrawn))) in
    ap (λ (x : Turn). Clear tag x s.draw) late.same ∙ ap (λ (d : Draw). Clear tag t d) draw

module _ (r : RspSetup) (byte : r.beat < 256) (tag : ℕ) (t : Turn) (gets : List Entry) (before h : History) (undrawn : AreUndrawn h) (are : AreGets gets) (unseen : IsUnseenRequest (Clear tag t no_draw)) (v : List ℕ) where
  abbrev asked : Entry
  asked = Clear tag t no_draw

  abbrev HasLed : List ℕ → History → Type 0
  HasLed ids l = MayHaveLed r None v ids l × (is_untouched None (begun_with None v l) l ≡ true)

  abbrev ShowsLate : List ℕ → Entry → Type 0
  ShowsLate ids e = (ids ≡ drops_with before (seen v e)) × IsShownEntry r before (seen v e) × (touched_by (id_begun (seen v e)) before ≡ false)

  pub led_to : (late : Option Marks) → HasGets late tag t gets before h → (ids : List ℕ) → MayHaveLed r None v ids h × (is_untouched None (begun_with None v h) h ≡ true)
      → (ids ≡ drops_with before (seen v (Clear tag t no_draw))) × IsShownEntry r before (seen v (Clear tag t no_draw)) × IsUnmarked late before (seen v (Clear tag t no_draw))
  led_to None is ids led =
      let shown = (whole_has_led r None v ids h byte).0 led.0 in (
        shown.0 ∙ ap (drops_of_whole None v) is ∙ drops_are v asked before unseen gets are,
        shown_entry v asked before unseen r gets are (subst (IsShownWhole r None v) is shown.1),
        tt,
      )
  led_to (Some marks) has ids led =
      let l = has.0 in
      subst (ShowsLate ids) (front_is marks tag t gets before h l has.1 undrawn) ((late_is_led r gets before l.back v ids tag byte are l.free l.anew l.other).0 (subst (HasLed ids) has.1 led))

  pub led_from : (late : Option Marks) → HasGets late tag t gets before h → (ids : List ℕ)
      → (ids ≡ drops_with before (seen v (Clear tag t no_draw))) × IsShownEntry r before (seen v (Clear tag t no_draw)) × IsUnmarked late before (seen v (Clear tag t no_draw))
      → MayHaveLed r None v ids h × (is_untouched None (begun_with None v h) h ≡ true)
  led_from None is ids shown = (
    (whole_has_led r None v ids h byte).1 (
      shown.0 ∙ sym (ap (drops_of_whole None v) is ∙ drops_are v asked before unseen gets are),
      subst (IsShownWhole r None v) (sym is) (entry_shown v asked before unseen r gets are shown.1),
    ),
    ap (λ (l : History). is_untouched None (begun_with None v h) l) is ∙ untouched_here v asked before unseen (begun_with None v h) gets are,
  )
  led_from (Some marks) has ids shown =
      let l = has.0 in
      subst (HasLed ids) (sym has.1)
      ((late_is_led r gets before l.back v ids tag byte are l.free l.anew l.other).1 (subst (ShowsLate ids) (sym (front_is marks tag t gets before h l has.1 undrawn)) shown))

-- ---- The history with the bytes and the drops.

-- Where the request came last.
pub given_new : (tag : ℕ) (t : Turn) (gets : List Entry) (before h : History) (v ids : List ℕ) → HasGets None tag t gets before h → AreGets gets → IsUnseenRequest (Clear tag t no_draw)
    → with_large None v (dropped_before_large None ids h) ≡ gets ++ seen v (Clear tag t no_draw) ∷ with_dropped before ids
given_new tag t gets before h v ids is are unseen =
    ap (λ (l : History). with_large None v (dropped_before_large None ids l)) is ∙ given_here v (Clear tag t no_draw) before unseen ids gets are

-- Where it passed before.
pub given_late : (marks : Marks) (tag : ℕ) (t : Turn) (gets : List Entry) (before h : History) (v ids : List ℕ) (has : HasGets (Some marks) tag t gets before h) → AreGets gets
    → with_large None v (dropped_before_large None ids h) ≡ gets ++ (has.0.back.behind ++ in_front before has.0.back has.0.back.tag v ∷ with_dropped has.0.back.before ids)
given_late marks tag t gets before h v ids has are =
    ap (λ (l : History). with_large None v (dropped_before_large None ids l)) has.1 ∙ last_stays_back gets before has.0.back v ids (gets_since gets are)
