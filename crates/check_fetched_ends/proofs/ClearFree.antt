-- What is left unjudged of an answer in the clear is an answer to GET_MEASUREMENTS or PSK_EXCHANGE.
use Rattle.std.proofs.Common.{◌≡◌, ◌==◌, ◌&&◌, ◌<◌, ◌^◌, ◌∷◌, ◌∙◌, ℕ, zero, suc, List, refl, sym, ap, subst, drop, Bool, true, false, Option, Some, arith, inl, inr}
use Rattle.std.specs.Prelude.{slice_index}
use Rattle.std.proofs.lemmas.Bool.{false≢true}
use Rattle.std.proofs.lemmas.Option.{same_Some}
use Rattle.check_ends.proofs.InTurn.{AnswersInTurn}
use Rattle.check_requester.specs.HeardKept.{asks_upon}
use Rattle.check_laws.proofs.KeptAnswers.{kept_is_restored}
use Rattle.check_laws.specs.DropsShown.{IsShownAnswer}
use Rattle.check_laws.specs.Keeping.{Keeps, Kept, restored}
use Rattle.requester_core.proofs.Carrying.{count_few}
use Rattle.check_laws.specs.RepliesShown.{heard_from, no_values, responder_for}
use Rattle.check_laws.specs.Walks.{Walks}
use Rattle.responder_core.specs.Connected.{HasSizesAt}
use Rattle.check_fetched_ends.proofs.ClearAgain.{IsAgain, IsAsked, IsFor, asked_for, left_again, sent_is}
use Rattle.check_fetched_ends.proofs.OfferAwaited.{Asks, IsOffer, walks_stand}
use Rattle.check_fetched_ends.proofs.PiecesSent.{Fits, PiecesStand, number_in, number_is, walks_pieces}
use Rattle.check_fetched_ends.proofs.SameChunks.{same_capabilities, same_common}
use Rattle.check_fetched_ends.specs.BegunHeld.{has_free_length}
use Rattle.check_fetched_ends.specs.JudgedEnds.{IsLeft}
use Rattle.check_fetched_ends.specs.LateBegins.{is_free_body}
use Rattle.mctp_framing.specs.Cutting.{RouteFields}
use Rattle.negotiate.specs.declared.shared.Common.{Common}
use Rattle.requester_machine.specs.Answers.{may_be_large}
use Rattle.requester_machine.specs.Hearing.{hears}
use Rattle.requester_machine.specs.History.{connection_terms, outstanding}
use Rattle.requester_machine.specs.Holds.{Holds, Waits}
use Rattle.requester_machine.specs.Message.{Aim, body_of}
use Rattle.requester_machine.specs.Message.Aim.{Plain, ByChunks}
use Rattle.requester_machine.specs.Setup.{ReqSetup}
use Rattle.requester_machine.specs.Shown.{after}
use Rattle.requester_machine.specs.UnderWay.{HasSizes as Bounded, IsOutstanding, IsPiece}
use Rattle.responder_machine.specs.History.{clear_turns, kept_of}
use Rattle.responder_machine.specs.Refusal.{code_of}
use Rattle.responder_machine.specs.Responder.{kept_reply}
use Rattle.responder_machine.specs.SizeLaws.{HasSizes}
use Rattle.spdm_grammar.specs.Message.{OfferMessage, RequestMessage}
use Rattle.spdm_grammar.specs.Message.RequestMessage.{GetVersion, GetCapabilities, NegotiateAlgorithms, GetMeasurements, PskExchange, PskFinish, Heartbeat, KeyUpdate, EndSession, ChunkSend, ChunkGet}
use Rattle.spdm_grammar.specs.Requests.{canonical_request}
use Rattle.capture_machine.specs.LargeAnswers.{is_fetching}
use Rattle.capture_machine.specs.Rounds.{Round, no_draw}
use Rattle.world_machine.specs.Setup.{Configuration}

both_are : (a b : Bool) → a ≡ true → b ≡ true → (a && b) ≡ true
both_are true b one two = two
both_are false b one two = absurd (false≢true one)

-- A request that is whole in its message, and may have a large response, is one of the two, or NEGOTIATE_ALGORITHMS.
plain_none : (m : List ℕ) (a : RequestMessage) → m ≡ canonical_request a → may_be_large a ≡ true → has_free_length (code_of m) ≡ false → ((offer : OfferMessage) → a ≡ NegotiateAlgorithms offer → ⊥) → ⊥
plain_none m GetVersion is may other none = false≢true may
plain_none m (GetCapabilities caps) is may other none = false≢true may
plain_none m (NegotiateAlgorithms offer) is may other none = none offer refl
plain_none m (GetMeasurements op) is may other none = false≢true (sym other ∙ ap (λ (l : List ℕ). has_free_length (code_of l)) is)
plain_none m (PskExchange x) is may other none = false≢true (sym other ∙ ap (λ (l : List ℕ). has_free_length (code_of l)) is)
plain_none m (PskFinish verify) is may other none = false≢true may
plain_none m Heartbeat is may other none = false≢true may
plain_none m (KeyUpdate op n) is may other none = false≢true may
plain_none m EndSession is may other none = false≢true may
plain_none m (ChunkSend x) is may other none = false≢true may
plain_none m (ChunkGet n k) is may other none = false≢true may

module _ (w : Configuration) (q : ReqSetup) (older : List (List ℕ)) (k : Kept) (route : RouteFields) (answer : List ℕ) (keeps : Keeps w q older k) (turn : AnswersInTurn k route answer)
    (holds : Holds k.setup (restored k).requester) (sizes : Bounded k.setup) (sized : HasSizesAt (responder_for w k) (clear_turns k.responder)) where
  abbrev m : List ℕ
  m = drop 1 turn.round.body

  module _ (type : (slice_index turn.round.body 0 == 5) ≡ true) (is : IsShownAnswer (responder_for w k) k.responder turn.round.tag turn.round.body answer) (asks : asks_upon k route.tag answer ≡ true) where
    to : IsAsked w q older k route answer keeps turn type holds
    to = asked_for w q older k route answer keeps turn type holds asks

    again : IsAgain w q older k route answer keeps turn type holds asks
    again = left_again w q older k route answer keeps turn type holds asks is

    asks_it : Asks k.setup (restored k).requester turn.round.tag (kept_reply (kept_of k.responder))
    unfolding heard_from
    asks_it =
        subst (λ (l : List ℕ). is_fetching (outstanding (after (restored k).requester (hears k.setup (restored k).requester false turn.round.tag l no_values no_draw))) ≡ true) (sym again.same)
        (ap (λ (n : ℕ). asks_upon k n answer) turn.answers.1 ∙ asks)

    -- No walk leads to NEGOTIATE_ALGORITHMS so.
    not_offer : IsOffer to.sent.aim → ⊥
    not_offer offer = (walks_stand w q older (restored k) (kept_is_restored w q older k keeps).0).sent to.sent to.waits offer turn.round turn.answers.0 to.tagged again.again again.unseen asks_it

    spelled : body_of to.sent.content ≡ 5 ∷ drop 1 turn.round.body
    spelled = sent_is w q older k route answer keeps turn type holds to.sent to.waits to.tagged

    own : IsOutstanding k.setup (restored k).requester to.sent.content to.sent.aim
    own = subst (Waits k.setup (restored k).requester) to.waits holds.waits

    walk : Walks w q older (restored k)
    walk = (kept_is_restored w q older k keeps).0

    -- Nor to the last chunk of a large request.
    module _ (handle number : ℕ) (aims : to.sent.aim ≡ ByChunks to.asked handle number) where
      stand : PiecesStand w (restored k)
      stand = walks_pieces w q older (restored k) walk

      abbrev common : Common
      common = (connection_terms (restored k).requester).common

      piece : IsPiece common to.asked handle number to.sent.content
      piece = (subst (IsOutstanding k.setup (restored k).requester to.sent.content) aims own).1 sizes

      above : (n : ℕ) → number ≡ n → 0 < n
      above zero is = absurd (false≢true (sym (stand.early to.sent to.asked handle refl to.waits (aims ∙ ap (λ (n : ℕ). ByChunks to.asked handle n) is) turn.round turn.answers.0) ∙ to.tagged))
      above (suc n) is = omega arith

      few : number < 2 ^ 16
      few =
          let sized_at = holds.known sizes to.known in
          let most = sized_at.their_most in
          let short = piece.short in
          let count = count_few common.to_responder.transfer (canonical_request to.asked) (omega (arith, most, short)) in
          let within = piece.within in
          omega (arith, count, within)

      number_here : number_in (drop 1 turn.round.body) ≡ number
      number_here = ap number_in (ap (drop 1) (sym spelled ∙ ap body_of piece.is)) ∙ number_is common.to_responder.transfer handle number (canonical_request to.asked) few

      fits : Fits (responder_for w k) (restored k).requester
      fits = record { known = to.known; sizes = subst (HasSizes (responder_for w k)) (sym (same_common w q older (restored k) walk to.known)) (sized (same_capabilities w q older (restored k) walk to.known).known) }

      not_piece : ⊥
      not_piece = stand.done to.sent to.asked handle number refl to.waits aims (above number refl) fits turn.round turn.answers.0 number_here again.again again.unseen asks_it

    none_other : has_free_length (code_of m) ≡ false → ⊥
    none_other other = by_aim to.aims
      where
        by_aim : IsFor to.sent.aim to.asked → ⊥
        by_aim (inl aims) =
            plain_none m to.asked (ap (drop 1) (sym spelled ∙ ap body_of (subst (IsOutstanding k.setup (restored k).requester to.sent.content) aims own).1)) to.may other
            (λ offer is. not_offer (subst IsOffer (sym (aims ∙ ap (λ (x : RequestMessage). Plain x) is)) tt))
        by_aim (inr (handle, number, aims)) = not_piece handle number aims

    by_free : (b : Bool) → has_free_length (code_of m) ≡ b → b ≡ true
    by_free true free = refl
    by_free false other = absurd (none_other other)

    free_body : is_free_body turn.round.body ≡ true
    free_body = both_are (slice_index turn.round.body 0 == 5) (has_free_length (code_of m)) type (by_free (has_free_length (code_of m)) refl)

  -- So the request has an answer of a free length.
  pub clear_is_free : (left : IsLeft w k route.tag answer) → (slice_index turn.round.body 0 == 5) ≡ true → is_free_body left.0.body ≡ true
  clear_is_free left type =
      let own : left.0 ≡ turn.round = same_Some left.0 turn.round (sym left.1.0 ∙ turn.answers.0) in
      let shown = subst (λ (x : Round). IsShownAnswer (responder_for w k) k.responder x.tag x.body answer) own left.2 in
      ap (λ (x : Round). is_free_body x.body) own ∙ free_body type shown left.3
