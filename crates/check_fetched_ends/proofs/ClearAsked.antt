-- No answer to a request in the clear is left in response to which the requester asks for a chunk, but LargeResponse
-- again to GET_MEASUREMENTS or PSK_EXCHANGE.
use Rattle.std.proofs.Common.{◌≡◌, ◌==◌, ◌<◌, ◌∙◌, ℕ, List, refl, sym, ap, Bool, true, false, Some}
use Rattle.std.specs.Prelude.{slice_index}
use Rattle.std.proofs.lemmas.Bool.{false≢true}
use Rattle.check_ends.proofs.InTurn.{AnswersInTurn}
use Rattle.check_ends.specs.Conversation.{IsAnswer, NoneGoesOn}
use Rattle.check_laws.specs.Keeping.{Keeps, Kept, restored}
use Rattle.check_laws.specs.RepliesShown.{responder_for}
use Rattle.responder_core.specs.Connected.{HasSizesAt}
use Rattle.check_fetched_ends.proofs.ClearFree.{clear_is_free}
use Rattle.check_fetched_ends.proofs.LeftSame.{left_same}
use Rattle.check_fetched_ends.proofs.MarkedAgain.{one_round}
use Rattle.check_fetched_ends.specs.JudgedEnds.{IsLeft}
use Rattle.check_fetched_ends.specs.LateBegins.{IsLeftFree}
use Rattle.check_fetched_ends.specs.MarkedEnds.{NoneAsked}
use Rattle.mctp_framing.specs.Cutting.{RouteFields}
use Rattle.requester_machine.specs.Holds.{Holds}
use Rattle.requester_machine.specs.Setup.{ReqSetup}
use Rattle.requester_machine.specs.UnderWay.{HasSizes}
use Rattle.responder_machine.specs.History.{clear_turns}
use Rattle.capture_machine.specs.Rounds.{Round}
use Rattle.world_machine.specs.Setup.{Configuration}

module _ (w : Configuration) (q : ReqSetup) (older : List (List ℕ)) (packet : List ℕ) (route : RouteFields) (answer : List ℕ) (at : IsAnswer w q older packet route answer) (byte : w.responder.beat < 256) where
  module _ (k : Kept) (keeps : Keeps w q older k) (turn : AnswersInTurn k route answer) where
    pub no_clear : (slice_index turn.round.body 0 == 5) ≡ false → (other : Kept) → Keeps w q older other → (left : IsLeft w other route.tag answer) → (slice_index left.0.body 0 == 5) ≡ true → ⊥
    no_clear sealed other keeps_other left clear =
        let same = one_round w q older k other keeps keeps_other turn.round left.0 turn.answers.0 left.1.0 in
        false≢true (sym (ap (λ (x : Round). slice_index x.body 0 == 5) same ∙ sealed) ∙ clear)

    pub clear_asked : (slice_index turn.round.body 0 == 5) ≡ true → Holds k.setup (restored k).requester → HasSizes k.setup → HasSizesAt (responder_for w k) (clear_turns k.responder)
        → ((other : Kept) → Keeps w q older other → IsLeftFree w other route.tag answer → ⊥)
        → (other : Kept) → Keeps w q older other → IsLeft w other route.tag answer → NoneGoesOn w q older packet
    clear_asked clear holds sizes sized none other keeps_other left =
        let own = left_same w q older other k route.tag answer keeps_other keeps left in
        absurd (none k keeps (own.0, own.1, clear_is_free w q older k route answer keeps turn holds sizes sized own clear, own.2, own.3))

    -- By what the round is.
    pub each_round : ((slice_index turn.round.body 0 == 5) ≡ true → NoneAsked w q older packet route.tag answer) → ((slice_index turn.round.body 0 == 5) ≡ false → NoneAsked w q older packet route.tag answer) → NoneAsked w q older packet route.tag answer
    each_round clear sealed = by_type (slice_index turn.round.body 0 == 5) refl
      where
        by_type : (b : Bool) → (slice_index turn.round.body 0 == 5) ≡ b → NoneAsked w q older packet route.tag answer
        by_type true is = clear is
        by_type false is = sealed is
