-- What is kept after an answer is a function of what it shows.
use Rattle.std.proofs.Common.{◌≡◌, ◌<◌, ◌⊎◌, ℕ, List, refl, sym, ap, ◌∙◌, false, Some, None, inl, inr}
use Rattle.mctp_framing.specs.Gathering.{Gathered}
use Rattle.mctp_framing.specs.Gathering.Gathered.{Whole, More, Dropped}
use Rattle.requester_machine.specs.Commands.{Free}
use Rattle.requester_machine.specs.Hearing.{hears}
use Rattle.requester_machine.specs.History as requester_history
use Rattle.requester_machine.specs.May.{IsSetUp}
use Rattle.requester_machine.specs.Setup.{ReqSetup}
use Rattle.requester_machine.specs.Shown as shown
use Rattle.responder_machine.specs.History.{History}
use Rattle.responder_machine.specs.Setup.{RspSetup}
use Rattle.check_laws.proofs.Connecting.{some_allowed, some_values}
use Rattle.check_laws.proofs.HeardShown.{behind}
use Rattle.check_laws.proofs.LargeShown.{large_is_shown}
use Rattle.check_laws.proofs.RepliesShown.{asks_as, heard_kept, replies_are_shown}
use Rattle.check_laws.specs.Keeping.{Keeps, Kept, RepliesKept, kept_of, restored}
use Rattle.check_laws.specs.LargeShown.{begun_large, large_shown}
use Rattle.check_laws.specs.RepliesShown.{LargelyKept, PlainlyKept, answered, heard_from, responder_for}
use Rattle.check_laws.specs.RepliesTold.{RepliesAreTold, UnfetchedKept}
use Rattle.capture_machine.specs.CapturedAnswers.{Hears}
use Rattle.capture_machine.specs.LargeAnswers.{is_fetching}
use Rattle.capture_machine.specs.Rounds.{Round, no_draw}
use Rattle.world_machine.specs.Setup.{Configuration}

module _ (w : Configuration) (q : ReqSetup) (older : List (List ℕ)) (k : Kept) (byte : w.responder.beat < 256) (set_up : IsSetUp k.setup) (keeps : Keeps w q older k) where
  abbrev r : RspSetup
  r = responder_for w k

  abbrev h : requester_history.History
  h = (restored k).requester

  -- What the requester heard, and what is kept of it.
  heard_as : (tag : ℕ) (answer : List ℕ) (round : Round) (l : requester_history.History) (a : History) → k.round ≡ Some round → round.tag ≡ tag → Hears (restored k) tag answer l
      → (kept_of (behind k.setup a (answered round) None None l) ≡ kept_of (behind k.setup a (answered round) None None (heard_from k tag answer)))
      × (is_fetching (requester_history.outstanding l) ≡ is_fetching (requester_history.outstanding (heard_from k tag answer)))
  unfolding Hears
  heard_as tag answer round l a is one heard =
      let f : Free = heard.1.0 in
      let there : l ≡ shown.after h (hears k.setup h false tag answer f no_draw) = heard.2 ∙ ap (shown.after h) (sym heard.1.2) in (
        ap (λ (x : requester_history.History). kept_of (behind k.setup a (answered round) None None x)) there ∙ heard_kept w q older k byte set_up keeps tag answer round f a is one,
        asks_as w q older k byte set_up keeps tag answer round l is one heard,
      )

  hears_some : (tag : ℕ) (answer : List ℕ) → (l : requester_history.History) × Hears (restored k) tag answer l
  unfolding Hears
  hears_some tag answer =
      let f : Free = some_values k.setup h in
      (shown.after h (hears k.setup h false tag answer f no_draw), (hears k.setup h false tag answer f no_draw, (f, some_allowed k.setup h set_up, refl), refl))

  -- ---- LargeResponse.

  to_told : (g : Gathered) (next : Kept) → LargelyKept w k g next → UnfetchedKept w k g next
  to_told More next c = absurd c
  to_told (Dropped cause) next c = absurd c
  to_told (Whole route answer) next c =
      let round : Round = c.2.0 in
      let a : History = c.2.2.0 in
      let l : requester_history.History = c.2.2.3.0 in
      let told = (large_is_shown r (restored k) round answer a byte).0 (c.2.2.1, c.2.2.2) in
      let known = heard_as route.tag answer round l a c.2.1.0 c.2.1.1 c.2.2.3.1 in
      (c.0, c.1, (round, c.2.1, told.0, sym known.1 ∙ c.2.2.3.2, c.2.2.3.3 ∙ known.0 ∙ ap (λ (x : History). kept_of (behind k.setup x (answered round) None None (heard_from k route.tag answer))) told.1))

  from_told : (g : Gathered) (next : Kept) → UnfetchedKept w k g next → LargelyKept w k g next
  from_told More next c = absurd c
  from_told (Dropped cause) next c = absurd c
  from_told (Whole route answer) next c =
      let round : Round = c.2.0 in
      let a : History = begun_large k.responder (large_shown r k.responder round.tag round.body answer) in
      let large = (large_is_shown r (restored k) round answer a byte).1 (c.2.2, refl) in
      let heard = hears_some route.tag answer in
      let known = heard_as route.tag answer round heard.0 a c.2.1.0 c.2.1.1 heard.1 in
      (c.0, c.1, (round, c.2.1, (a, large.0, large.1, (heard.0, heard.1, known.1 ∙ c.2.3, c.2.4 ∙ sym known.0))))

pub replies_are_told : RepliesAreTold
replies_are_told w q older k next g byte set_up keeps = (to_all, from_all)
  where
    to_all : RepliesKept w k g next → PlainlyKept w k g next ⊎ UnfetchedKept w k g next
    to_all c = elim ((replies_are_shown w q older k next g byte set_up keeps).0 c) [
      | inl plain ↦ inl plain
      | inr large ↦ inr (to_told w q older k byte set_up keeps g next large)
    ]

    from_all : PlainlyKept w k g next ⊎ UnfetchedKept w k g next → RepliesKept w k g next
    from_all (inl plain) = (replies_are_shown w q older k next g byte set_up keeps).1 (inl plain)
    from_all (inr large) = (replies_are_shown w q older k next g byte set_up keeps).1 (inr (from_told w q older k byte set_up keeps g next large))
