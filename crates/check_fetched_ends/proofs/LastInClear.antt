-- The last chunk of a large response that is fetched in the clear: it ends the fetch exactly when its request leads to
-- all bytes.
use Rattle.std.proofs.Common.{◌≡◌, ◌≢◌, ◌<◌, ◌+◌, ◌∙◌, ℕ, List, ◌∷◌, refl, ap, false, Some, None}
use Rattle.std.specs.Prelude.{◌↔◌, nat_lt}
use Rattle.check_ends.specs.declared.party.Party.{Party}
use Rattle.check_laws.specs.RepliesShown.{responder_for}
use Rattle.chunking.specs.Cutting.{chunk_count}
use Rattle.check_fetched_laws.proofs.ClearChunks.{next_is_given}
use Rattle.check_fetched_laws.proofs.MeanwhileClear.{get_completes}
use Rattle.check_fetched_laws.specs.ClearChunks.{clear_with, get_entry}
use Rattle.check_fetched_laws.specs.LastShown.{IsShownEntry, drops_with}
use Rattle.check_fetched_ends.proofs.FrontLed.{led_from, led_to}
use Rattle.check_fetched_ends.proofs.HeldGave.{get, response}
use Rattle.check_late_laws.proofs.Late.WalksUndrawn.{AreUndrawn, walks_undrawn}
use Rattle.check_fetched_ends.specs.Held.{IsHeldIn, StandsBefore, repeats_held}
use Rattle.check_fetched_ends.specs.LastMarked.{IsUnmarked}
use Rattle.check_fetched_ends.specs.declared.clear_fetch.held.Held.{Held}
use Rattle.check_late_laws.specs.Fetching.{Fetching, IsFetchingOf, MayStand, dialogue_of, number_of}
use Rattle.requester_machine.specs.Setup.{ReqSetup}
use Rattle.responder_machine.specs.History.{Entry, History}
use Rattle.responder_machine.specs.History.Entry.{Clear}
use Rattle.responder_machine.specs.Place.{place_terms}
use Rattle.responder_machine.specs.Setup.{RspSetup}
use Rattle.spdm_grammar.specs.Message.RequestMessage.{GetVersion}
use Rattle.spdm_grammar.specs.Requests.{canonical_request}
use Rattle.spdm_machine.specs.Bodies.{clear_body}
use Rattle.capture_machine.specs.CapturedAnswers.{Completes}
use Rattle.capture_machine.specs.LargeAnswers.{dropped_before_large, seen, with_large}
use Rattle.capture_machine.specs.Rounds.{Round, no_draw}
use Rattle.capture_machine.specs.SessionTable.{Row}
use Rattle.world_machine.specs.Setup.{Configuration}

module _ (w : Configuration) (q : ReqSetup) (older : List (List ℕ)) (rows : List Row) (f : Fetching) (own : IsFetchingOf w q older f) (party : Party) (held : Held) (kept : IsHeldIn party held w q f rows) (round : Round) (is : f.kept.round ≡ Some round) (other : round.body ≢ clear_body (canonical_request GetVersion)) (anew : repeats_held held round.tag round.body ≡ false)
    (v : List ℕ) (stand : MayStand f v) (byte : w.responder.beat < 256) where
  abbrev r : RspSetup
  r = responder_for w f.kept

  abbrev h : History
  h = f.kept.responder

  abbrev b : StandsBefore party.answerer party.keys held (responder_for w f.kept) f.kept.responder
  b = kept.before

  abbrev pub asked : Entry
  asked = Clear held.tag b.turn no_draw

  abbrev pub got : Entry
  got = get_entry round.tag (get w q older rows f own party held kept round is other anew v stand).handle (number_of f) (response w q older rows f own party held kept round is other anew v stand)

  abbrev undrawn : AreUndrawn h
  undrawn = walks_undrawn w q older (dialogue_of f own.stands.0) (own.all own.stands.0 own.stands.1)

  -- The history after it.
  abbrev pub behind_last : History
  behind_last = got ∷ with_large None v (dropped_before_large None (drops_with b.before (seen v asked)) f.kept.responder)

  module _ (answer : List ℕ) (given : answer ≡ clear_body (response w q older rows f own party held kept round is other anew v stand)) (last : nat_lt (number_of f + 1) (chunk_count (place_terms (clear_with f.kept.responder v)).common.to_requester.transfer v) ≡ false) where
    abbrev Ends : History → Type 0
    Ends next = Completes r (dialogue_of f v) round answer next

    to_led : (next : History) → Ends next → IsShownEntry r b.before (seen v asked) × IsUnmarked held.late b.before (seen v asked) × (next ≡ behind_last)
    to_led next c =
        let asks = get w q older rows f own party held kept round is other anew v stand in
        let ends = (get_completes next_is_given r (dialogue_of f v) v round asks.handle (number_of f) answer next refl asks.body asks.next).0 c in
        let shown = led_to r byte held.tag b.turn b.gets b.before h undrawn b.are b.unseen v held.late b.behind ends.0 (ends.3, ends.4) in
        (shown.1, shown.2, ends.5 ∙ ap (λ (l : List ℕ). got ∷ with_large None v (dropped_before_large None l h)) shown.0)

    from_led : (next : History) → IsShownEntry r b.before (seen v asked) × IsUnmarked held.late b.before (seen v asked) × (next ≡ behind_last) → Ends next
    from_led next c =
        let asks = get w q older rows f own party held kept round is other anew v stand in
        let ids : List ℕ = drops_with b.before (seen v asked) in
        let led = led_from r byte held.tag b.turn b.gets b.before h undrawn b.are b.unseen v held.late b.behind ids (refl, c.0, c.1) in
        (get_completes next_is_given r (dialogue_of f v) v round asks.handle (number_of f) answer next refl asks.body asks.next).1 (ids, given, last, led.0, led.1, c.2)

    -- The last chunk goes on exactly when the request leads to these bytes at the values that they show, and no mark is
    -- set of the session that they begin.
    pub last_ends : (next : History) → Completes (responder_for w f.kept) (dialogue_of f v) round answer next
        ↔ (IsShownEntry (responder_for w f.kept) b.before (seen v asked) × IsUnmarked held.late b.before (seen v asked) × (next ≡ behind_last))
    last_ends next = (to_led next, from_led next)
