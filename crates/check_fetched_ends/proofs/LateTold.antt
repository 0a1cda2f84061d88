-- What is reported of an answer that may be LargeResponse again, by what it shows.
use Rattle.std.proofs.Common.{◌≡◌, ◌==◌, ◌&&◌, ◌∙◌, ℕ, List, refl, sym, ap, subst, drop, Bool, true, false, Some, cond}
use Rattle.std.specs.Prelude.{bytes_eq, slice_index}
use Rattle.std.proofs.lemmas.Bool.{false≢true}
use Rattle.std.proofs.lemmas.Option.{same_Some}
use Rattle.std.proofs.lemmas.Slice.Eq.{bytes_eq-Decides}
use Rattle.check_ends.proofs.InTurn.{AnswersInTurn}
use Rattle.check_responder.specs.JudgedResponder.{shows_large}
use Rattle.check_requester.specs.HeardKept.{asks_upon}
use Rattle.check_laws.specs.DropsShown.{IsShownAnswer}
use Rattle.check_laws.specs.Keeping.{Keeps, Kept, restored}
use Rattle.check_laws.specs.RepliesShown.{responder_for}
use Rattle.check_fetched_ends.proofs.HeldNever.{clear_shape}
use Rattle.check_fetched_ends.proofs.LateShown.{IsAgain, shown_again, shown_large}
use Rattle.check_fetched_ends.specs.BegunHeld.{has_free_length}
use Rattle.check_fetched_ends.specs.LateBegins.{IsLeftFree, gets_again, is_free_body, is_large_body}
use Rattle.mctp_framing.specs.Cutting.{RouteFields}
use Rattle.requester_machine.specs.Holds.{Holds}
use Rattle.requester_machine.specs.Setup.{ReqSetup}
use Rattle.requester_machine.specs.UnderWay.{HasSizes}
use Rattle.responder_machine.specs.History.{History, kept_of}
use Rattle.responder_machine.specs.Refusal.{code_of}
use Rattle.responder_machine.specs.Responder.{is_repeat, kept_reply}
use Rattle.spdm_basis.proofs.Bools.{and_first, and_second}
use Rattle.spdm_machine.specs.Bodies.{clear_body}
use Rattle.capture_machine.specs.Rounds.{Round}
use Rattle.world_machine.specs.Setup.{Configuration}

both_are : (a b : Bool) → a ≡ true → b ≡ true → (a && b) ≡ true
both_are true b one two = two
both_are false b one two = absurd (false≢true one)

module _ (w : Configuration) (q : ReqSetup) (older : List (List ℕ)) (k : Kept) (route : RouteFields) (answer : List ℕ) (turn : AnswersInTurn k route answer) where
  -- Each test held.
  pub record AreTested : Type 0 where
    pub free : is_free_body turn.round.body ≡ true
    pub large : is_large_body answer ≡ true
    pub again : gets_again k.responder turn.round.tag (drop 1 turn.round.body) (drop 1 answer) ≡ true

  -- They do where such an answer is left.
  module _ (keeps : Keeps w q older k) (holds : Holds k.setup (restored k).requester) (sizes : HasSizes k.setup) where
    tested_here : is_free_body turn.round.body ≡ true → IsShownAnswer (responder_for w k) k.responder turn.round.tag turn.round.body answer → asks_upon k route.tag answer ≡ true → AreTested
    tested_here free is asks =
        let type : (slice_index turn.round.body 0 == 5) ≡ true = and_first (slice_index turn.round.body 0 == 5) _ free in
        let length_free : has_free_length (code_of (drop 1 turn.round.body)) ≡ true = and_second (slice_index turn.round.body 0 == 5) _ free in
        let again : IsAgain w q older k route answer keeps turn type length_free holds sizes asks = shown_again w q older k route answer keeps turn type length_free holds sizes asks is in
        record {
          free = free;
          large = both_are (slice_index answer 0 == 5) (shows_large (drop 1 answer)) (ap (λ (l : List ℕ). slice_index l 0 == 5) (sym again.same)) (shown_large w q older k route answer keeps turn type length_free holds sizes asks);
          again = both_are (is_repeat (kept_of k.responder) turn.round.tag (drop 1 turn.round.body)) (bytes_eq (kept_reply (kept_of k.responder)) (drop 1 answer)) again.again
              ((bytes_eq-Decides (kept_reply (kept_of k.responder)) (drop 1 answer)).1 (ap (drop 1) again.same));
        }

    pub left_tested : IsLeftFree w k route.tag answer → AreTested
    left_tested is =
        let same : is.0 ≡ turn.round = same_Some is.0 turn.round (sym is.1.0 ∙ turn.answers.0) in
        tested_here (subst (λ (x : Round). is_free_body x.body ≡ true) same is.2) (subst (λ (x : Round). IsShownAnswer (responder_for w k) k.responder x.tag x.body answer) same is.3) is.4

  -- What they say.
  module _ (are : AreTested) where
    pub type_is : (slice_index turn.round.body 0 == 5) ≡ true
    type_is = and_first (slice_index turn.round.body 0 == 5) _ are.free

    pub free_is : has_free_length (code_of (drop 1 turn.round.body)) ≡ true
    free_is = and_second (slice_index turn.round.body 0 == 5) _ are.free

    pub large_is : shows_large (drop 1 answer) ≡ true
    large_is = and_second (slice_index answer 0 == 5) _ are.large

    pub again_is : is_repeat (kept_of k.responder) turn.round.tag (drop 1 turn.round.body) ≡ true
    again_is = and_first (is_repeat (kept_of k.responder) turn.round.tag (drop 1 turn.round.body)) _ are.again

    pub same_is : clear_body (kept_reply (kept_of k.responder)) ≡ answer
    same_is =
        let reply = (bytes_eq-Decides (kept_reply (kept_of k.responder)) (drop 1 answer)).0 (and_second (is_repeat (kept_of k.responder) turn.round.tag (drop 1 turn.round.body)) _ are.again) in
        ap clear_body reply ∙ sym (clear_shape answer (and_first (slice_index answer 0 == 5) _ are.large))
