-- What is kept after an answer that goes whole is a function of what it shows.
use Rattle.std.proofs.Common.{◌≡◌, ◌<◌, ◌||◌, ◌⊎◌, ℕ, List, [], refl, sym, ap, ◌∙◌, subst, Bool, true, false, Option, Some, None, is_some, cond, inl, inr}
use Rattle.std.specs.Prelude.{not}
use Rattle.std.proofs.lemmas.Bool.{false≢true}
use Rattle.std.proofs.lemmas.Option.{none-some}
use Rattle.mctp_framing.specs.Gathering.{Gathered}
use Rattle.mctp_framing.specs.Gathering.Gathered.{Whole, More, Dropped}
use Rattle.requester_machine.specs.Commands.{Free}
use Rattle.requester_machine.specs.Hearing.{hears}
use Rattle.requester_machine.specs.History as requester_history
use Rattle.requester_machine.specs.May.{IsSetUp}
use Rattle.requester_machine.specs.Setup.{ReqSetup}
use Rattle.requester_machine.specs.Shown as shown
use Rattle.responder_machine.specs.History.{History}
use Rattle.responder_machine.specs.Responder.Outcome.{Same}
use Rattle.check_laws.proofs.Connecting.{some_allowed, some_values}
use Rattle.check_laws.proofs.FetchShown.{fetch_same}
use Rattle.check_laws.proofs.HeardShown.{behind, heard_same}
use Rattle.check_laws.proofs.KeptAnswers.{kept_is_restored}
use Rattle.check_laws.proofs.OneWalk.{walks_alike}
use Rattle.check_laws.proofs.PlainShown.{plain_is_shown}
use Rattle.check_laws.specs.DropsShown.{IsShownAnswer}
use Rattle.check_laws.specs.Keeping.{Keeps, Kept, RepliesKept, kept_of, restored}
use Rattle.check_laws.specs.RepliesShown.{LargelyKept, PlainlyKept, RepliesAreShown, answered, answered_from, heard_from, replied, responder_for}
use Rattle.capture_machine.proofs.AskersAlike.{AskersAlike}
use Rattle.capture_machine.proofs.AskersHear.{same_round}
use Rattle.capture_machine.specs.CapturedAnswers.{Answers, AnswersAgain, AnswersPlainly, Hears}
use Rattle.capture_machine.specs.LargeAnswers.{is_fetching, while_fetched}
use Rattle.capture_machine.specs.Rounds.{Dialogue, Round, no_draw}
use Rattle.world_machine.specs.Setup.{Configuration}

module _ (w : Configuration) (q : ReqSetup) (older : List (List ℕ)) (k : Kept) (byte : w.responder.beat < 256) (set_up : IsSetUp k.setup) (keeps : Keeps w q older k) where
  abbrev h : requester_history.History
  h = (restored k).requester

  abbrev askers : AskersAlike k.round h h None None
  askers = (walks_alike w q older (restored k) (restored k) (kept_is_restored w q older k keeps).0 (kept_is_restored w q older k keeps).0).alike.askers

  -- What the requester heard at some values.
  pub heard_kept : (tag : ℕ) (answer : List ℕ) (round : Round) (f : Free) (r : History) → k.round ≡ Some round → round.tag ≡ tag
      → kept_of (behind k.setup r (answered round) None None (shown.after h (hears k.setup h false tag answer f no_draw))) ≡ kept_of (behind k.setup r (answered round) None None (heard_from k tag answer))
  unfolding heard_from
  heard_kept tag answer round f r is one =
      heard_same k.setup r (answered round) None None h h None None tag answer f (same_round round (answered round) h h None None refl (subst (λ (o : Option Round). AskersAlike o h h None None) is askers)) refl one

  -- An answer that goes whole.
  plain_kept : (tag : ℕ) (answer : List ℕ) (round : Round) (next : Kept) (r : History) (l : requester_history.History) → k.round ≡ Some round → round.tag ≡ tag
      → AnswersPlainly (responder_for w k) (restored k) round answer r → Hears (restored k) tag answer l → next ≡ kept_of (behind k.setup r (answered round) None None l)
      → IsShownAnswer (responder_for w k) k.responder round.tag round.body answer × (next ≡ replied w k tag round answer)
  unfolding Hears answered_from
  plain_kept tag answer round next r l is one plain heard kept =
      let told = (plain_is_shown (responder_for w k) (restored k) round answer r byte).0 plain in
      let there : l ≡ shown.after h (hears k.setup h false tag answer heard.1.0 no_draw) = heard.2 ∙ ap (shown.after h) (sym heard.1.2) in (
        told.0,
        kept ∙ ap (λ (x : requester_history.History). kept_of (behind k.setup r (answered round) None None x)) there ∙ heard_kept tag answer round heard.1.0 r is one
            ∙ ap (λ (x : History). kept_of (behind k.setup x (answered round) None None (heard_from k tag answer))) told.1,
      )

  plain_back : (tag : ℕ) (answer : List ℕ) (round : Round) (next : Kept) → k.round ≡ Some round → round.tag ≡ tag → IsShownAnswer (responder_for w k) k.responder round.tag round.body answer → next ≡ replied w k tag round answer
      → AnswersPlainly (responder_for w k) (restored k) round answer (answered_from w k round answer)
      × ((l : requester_history.History) × Hears (restored k) tag answer l × (next ≡ kept_of (behind k.setup (answered_from w k round answer) (answered round) None None l)))
  unfolding Hears answered_from
  plain_back tag answer round next is one gives kept =
      let r : History = answered_from w k round answer in
      let f : Free = some_values k.setup h in
      let l : requester_history.History = shown.after h (hears k.setup h false tag answer f no_draw) in (
        (plain_is_shown (responder_for w k) (restored k) round answer r byte).1 (gives, refl),
        (l, (hears k.setup h false tag answer f no_draw, (f, some_allowed k.setup h set_up, refl), refl), kept ∙ sym (heard_kept tag answer round f r is one)),
      )

  -- What the requester hears asks for a chunk or not, whatever was chosen for it.
  pub asks_as : (tag : ℕ) (answer : List ℕ) (round : Round) (l : requester_history.History) → k.round ≡ Some round → round.tag ≡ tag → Hears (restored k) tag answer l
      → is_fetching (requester_history.outstanding l) ≡ is_fetching (requester_history.outstanding (heard_from k tag answer))
  unfolding Hears heard_from
  asks_as tag answer round l is one heard =
      let there : l ≡ shown.after h (hears k.setup h false tag answer heard.1.0 no_draw) = heard.2 ∙ ap (shown.after h) (sym heard.1.2) in
      ap (λ (x : requester_history.History). is_fetching (requester_history.outstanding x)) there
      ∙ fetch_same k.setup round tag answer heard.1.0 h h None None (subst (λ (o : Option Round). AskersAlike o h h None None) is askers) refl one

  -- Where none is fetched, the requester asks for no chunk.
  idle : (b : Bool) (fetching : Option (List ℕ)) → (not b || is_some fetching) ≡ true → cond b fetching None ≡ None → b ≡ false
  idle false fetching known none = refl
  idle true None known none = absurd (false≢true known)
  idle true (Some whole) known none = absurd (none-some whole (sym none))

  is_known : (b : Bool) (fetching : Option (List ℕ)) → b ≡ false → (not b || is_some fetching) ≡ true
  is_known true fetching none = absurd (false≢true (sym none))
  is_known false fetching none = refl

  pub unfetched : (b : Bool) (fetching : Option (List ℕ)) → b ≡ false → cond b fetching None ≡ None
  unfetched true fetching not_it = absurd (false≢true (sym not_it))
  unfetched false fetching not_it = refl

  -- LargeResponse again is shown as any repeat.
  again_plain : (answer : List ℕ) (round : Round) (r : History) (whole : List ℕ) → AnswersAgain (responder_for w k) (restored k) round answer r whole → AnswersPlainly (responder_for w k) (restored k) round answer r
  again_plain answer round r whole again = ([], Same answer, (tt, again.1), tt, refl, refl, again.4)

  -- ---- A packet.

  to_shown : (g : Gathered) (next : Kept) → RepliesKept w k g next → PlainlyKept w k g next ⊎ LargelyKept w k g next
  unfolding Answers
  to_shown More next c = inl (c.3 ∙ ap kept_of c.1 ∙ (kept_is_restored w q older k keeps).1)
  to_shown (Dropped cause) next c = absurd c.1
  to_shown (Whole route answer) next c = by_kind c.1.2.4.2
    where
      round : Round
      round = c.1.2.0

      r : History
      r = c.1.2.4.0

      fetching : Option (List ℕ)
      fetching = c.1.2.4.1

      l : requester_history.History
      l = c.1.2.4.3.0

      kept : next ≡ kept_of (behind k.setup r (answered round) None None l)
      kept = c.3 ∙ ap kept_of c.1.2.4.3.2

      none : while_fetched l fetching ≡ None
      none = ap (λ (d : Dialogue). d.fetching) (sym c.1.2.4.3.2) ∙ c.2

      asks : is_fetching (requester_history.outstanding l) ≡ false
      asks = idle (is_fetching (requester_history.outstanding l)) fetching c.1.2.4.3.3 none

      goes : AnswersPlainly (responder_for w k) (restored k) round answer r → PlainlyKept w k (Whole route answer) next
      goes plain =
          let known = plain_kept route.tag answer round next r l c.1.2.1 c.1.2.2 plain c.1.2.4.3.1 kept in
          (c.1.0, c.1.1, (round, (c.1.2.1, c.1.2.2, c.1.2.3), known.0, sym (asks_as route.tag answer round l c.1.2.1 c.1.2.2 c.1.2.4.3.1) ∙ asks, known.1))

      by_kind : Answers (responder_for w k) (restored k) round answer r fetching → PlainlyKept w k (Whole route answer) next ⊎ LargelyKept w k (Whole route answer) next
      by_kind (inl plain) = inl (goes plain.0)
      by_kind (inr (inl large)) = inr (c.1.0, c.1.1, (round, (c.1.2.1, c.1.2.2, c.1.2.3), (r, large.0, large.1, (l, c.1.2.4.3.1, asks, kept))))
      by_kind (inr (inr (inl again))) = inl (goes (again_plain answer round r again.0 again.1))
      by_kind (inr (inr (inr last))) = absurd (none-some last.0.0 last.0.3)

  from_shown : (g : Gathered) (next : Kept) → PlainlyKept w k g next ⊎ LargelyKept w k g next → RepliesKept w k g next
  unfolding Answers
  from_shown More next (inl same) = (restored k, refl, refl, same ∙ sym (kept_is_restored w q older k keeps).1)
  from_shown (Dropped cause) next (inl c) = absurd c
  from_shown More next (inr c) = absurd c
  from_shown (Dropped cause) next (inr c) = absurd c
  from_shown (Whole route answer) next (inl c) =
      let round : Round = c.2.0 in
      let back = plain_back route.tag answer round next c.2.1.0 c.2.1.1 c.2.2 c.2.4 in
      let l : requester_history.History = back.1.0 in
      let asks : is_fetching (requester_history.outstanding l) ≡ false = asks_as route.tag answer round l c.2.1.0 c.2.1.1 back.1.1 ∙ c.2.3 in (
        behind k.setup (answered_from w k round answer) (answered round) None (while_fetched l None) l,
        (c.0, c.1, (round, c.2.1.0, c.2.1.1, c.2.1.2, (answered_from w k round answer, None, inl (back.0, refl), (l, back.1.1, refl, is_known (is_fetching (requester_history.outstanding l)) None asks)))),
        unfetched (is_fetching (requester_history.outstanding l)) None asks,
        back.1.2,
      )
  from_shown (Whole route answer) next (inr c) =
      let round : Round = c.2.0 in
      let whole : List ℕ = c.2.2.1 in
      let l : requester_history.History = c.2.2.3.0 in
      let asks : is_fetching (requester_history.outstanding l) ≡ false = c.2.2.3.2 in (
        behind k.setup c.2.2.0 (answered round) None (while_fetched l (Some whole)) l,
        (c.0, c.1, (round, c.2.1.0, c.2.1.1, c.2.1.2, (c.2.2.0, Some whole, inr (inl (whole, c.2.2.2, refl)), (l, c.2.2.3.1, refl, is_known (is_fetching (requester_history.outstanding l)) (Some whole) asks)))),
        unfetched (is_fetching (requester_history.outstanding l)) (Some whole) asks,
        c.2.2.3.3,
      )

pub replies_are_shown : RepliesAreShown
replies_are_shown w q older k next g byte set_up keeps = (to_shown w q older k byte set_up keeps g next, from_shown w q older k byte set_up keeps g next)
