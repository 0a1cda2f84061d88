-- What a requester hears, whether a large response is fetched or not: what is kept after it, and whether it asks for a
-- chunk.
use Rattle.std.proofs.Common.{◌≡◌, ℕ, List, refl, sym, ap, ◌∙◌, subst, false, Option, Some, None}
use Rattle.check_requester.specs.JudgedRequester.{Carries}
use Rattle.check_requester.specs.HeardKept.{asks_upon, heard_kept}
use Rattle.check_laws.proofs.Connecting.{some_allowed, some_values}
use Rattle.check_laws.proofs.FetchShown.{fetch_same}
use Rattle.check_laws.proofs.HeardShown.{heard_same}
use Rattle.check_laws.proofs.OneWalk.{walks_alike}
use Rattle.check_laws.specs.Keeping.{Kept, restored}
use Rattle.check_laws.specs.RepliesShown.{answered, heard_from}
use Rattle.check_late_laws.specs.FetchingLaws.{kept_behind}
use Rattle.requester_machine.specs.Commands.{Free}
use Rattle.requester_machine.specs.Hearing.{hears}
use Rattle.requester_machine.specs.History as requester_history
use Rattle.requester_machine.specs.History.{outstanding}
use Rattle.requester_machine.specs.May.{IsSetUp}
use Rattle.requester_machine.specs.Setup.{ReqSetup}
use Rattle.requester_machine.specs.Shown as shown
use Rattle.responder_machine.specs.History.{History}
use Rattle.capture_machine.proofs.AskersAlike.{AskersAlike}
use Rattle.capture_machine.proofs.AskersHear.{same_round}
use Rattle.capture_machine.specs.CapturedAnswers.{Hears}
use Rattle.capture_machine.specs.LargeAnswers.{is_fetching}
use Rattle.capture_machine.specs.Rounds.{Dialogue, Round, no_draw}
use Rattle.world_machine.specs.Setup.{Configuration}

-- The requester heard an answer, and this is its history after it.
pub record IsHeardOn (k : Kept) (d : Dialogue) (tag : ℕ) (round : Round) (answer : List ℕ) (behind : History) : Type 0 where
  pub history : requester_history.History
  pub hears : Hears d tag answer history
  pub asks : is_fetching (outstanding history) ≡ asks_upon k tag answer
  pub kept : kept_behind k round history behind ≡ heard_kept k behind tag round answer

module _ (w : Configuration) (q : ReqSetup) (older : List (List ℕ)) (k : Kept) (set_up : IsSetUp k.setup) (carries : Carries w q older k) (tag : ℕ) (round : Round) (answer : List ℕ) (is : k.round ≡ Some round) (one : round.tag ≡ tag) where
  abbrev h : requester_history.History
  h = (restored k).requester

  askers : AskersAlike (Some round) h h None None
  askers =
      let d : Dialogue = record (restored k) { fetching = carries.0 } in
      subst (λ (o : Option Round). AskersAlike o h h None None) is (walks_alike w q older d d carries.1 carries.1).alike.askers

  pub heard_on : (fetching : Option (List ℕ)) (behind : History) → IsHeardOn k (record (restored k) { fetching = fetching }) tag round answer behind
  unfolding Hears heard_from
  heard_on fetching behind =
      let f : Free = some_values k.setup h in record {
        history = shown.after h (hears k.setup h false tag answer f no_draw);
        hears = (hears k.setup h false tag answer f no_draw, (f, some_allowed k.setup h set_up, refl), refl);
        asks = fetch_same k.setup round tag answer f h h None None askers refl one;
        kept = heard_same k.setup behind (answered round) None None h h None None tag answer f (same_round round (answered round) h h None None refl askers) refl one;
      }

  -- Whatever was chosen for what it sends in response to it.
  pub asks_on : (fetching : Option (List ℕ)) (l : requester_history.History) → Hears (record (restored k) { fetching = fetching }) tag answer l → is_fetching (outstanding l) ≡ asks_upon k tag answer
  unfolding Hears heard_from
  asks_on fetching l heard =
      let there : l ≡ shown.after h (hears k.setup h false tag answer heard.1.0 no_draw) = heard.2 ∙ ap (shown.after h) (sym heard.1.2) in
      ap (λ (x : requester_history.History). is_fetching (outstanding x)) there ∙ fetch_same k.setup round tag answer heard.1.0 h h None None askers refl one
