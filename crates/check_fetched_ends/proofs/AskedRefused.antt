-- An answer that goes whole, in response to which the requester asks for a chunk: where it is no LargeResponse again,
-- no walk goes on with it.
use Rattle.std.proofs.Common.{◌≡◌, ◌==◌, ◌&&◌, ◌<◌, ◌∙◌, ℕ, List, refl, sym, ap, subst, drop, Bool, true, false, Option, None, Some}
use Rattle.std.specs.Prelude.{slice_index}
use Rattle.std.proofs.lemmas.Bool.{false≢true}
use Rattle.std.proofs.lemmas.Option.{same_Some}
use Rattle.check_ends.proofs.InTurn.{AnswersInTurn}
use Rattle.check_ends.specs.Conversation.{IsAnswer, NoneGoesOn}
use Rattle.check_laws.proofs.KeptAnswers.{kept_is_restored}
use Rattle.check_laws.proofs.OneWalk.{walks_alike}
use Rattle.check_laws.specs.Keeping.{Keeps, Kept, restored}
use Rattle.check_laws.specs.RepliesShown.{responder_for}
use Rattle.check_fetched_ends.proofs.AgainBegun.{never_again}
use Rattle.check_fetched_ends.proofs.AskedNone.{asked_none}
use Rattle.check_fetched_ends.specs.AgainBegins.{IsAgainInRecord}
use Rattle.check_fetched_ends.specs.JudgedEnds.{IsLeft}
use Rattle.check_fetched_ends.specs.LateBegins.{IsLeftFree}
use Rattle.mctp_framing.specs.Cutting.{RouteFields}
use Rattle.requester_machine.specs.May.{IsSetUp}
use Rattle.requester_machine.specs.Setup.{ReqSetup}
use Rattle.responder_machine.specs.History.{History, KeptRecord}
use Rattle.responder_machine.specs.Responder.Outcome.{Same}
use Rattle.responder_machine.specs.Responder.{repeats}
use Rattle.responder_machine.specs.Session.{id_in_record, last_of, session_of}
use Rattle.responder_machine.specs.Setup.{towards}
use Rattle.responder_session.specs.LastRead.{is_last}
use Rattle.spdm_basis.proofs.Bools.{and_first}
use Rattle.capture_machine.specs.CapturedAnswers.{MayLeadTo}
use Rattle.capture_machine.specs.LargeAnswers.{IsLargeAnswer, place_again, place_named, repeats_large}
use Rattle.capture_machine.specs.Rounds.{Round}
use Rattle.world_machine.specs.Setup.{Configuration, known_of}

-- ---- In a session.

-- What is kept of the packets tells in each form whether an answer is LargeResponse again.
again_same : (w : Configuration) (q : ReqSetup) (older : List (List ℕ)) (k other : Kept) (tag : ℕ) (answer : List ℕ) → Keeps w q older k → Keeps w q older other → IsAgainInRecord w other tag answer → IsAgainInRecord w k tag answer
again_same w q older k other tag answer keeps keeps_other is =
    let alike = (walks_alike w q older (restored other) (restored k) (kept_is_restored w q older other keeps_other).0 (kept_is_restored w q older k keeps).0).alike in
    let b : List ℕ = is.round.body in
    let leads = subst (λ (l : History). MayLeadTo (towards w.responder (known_of other.setup)) l is.round.tag b (Same answer)) alike.responder is.again.1 in record {
      round = is.round;
      answers = (sym alike.round ∙ is.answers.0, is.answers.1, is.answers.2);
      record_is = is.record_is;
      whole = is.whole;
      behind = is.behind;
      again = (
        refl,
        subst (λ (s : ReqSetup). MayLeadTo (towards w.responder (known_of s)) k.responder is.round.tag b (Same answer)) alike.setup leads,
        subst (λ (l : History). repeats_large (place_named b) l ≡ true) alike.responder is.again.2,
        subst (λ (l : History). IsLargeAnswer (place_again (place_named b) l l) is.whole) alike.responder is.again.3,
        is.again.4 ∙ alike.responder,
      );
    }

-- The last record of a session is the one of which the reply is kept.
not_last : (o : Option KeptRecord) (sealed answer : List ℕ) → repeats o sealed ≡ false → is_last o sealed answer ≡ true → ⊥
not_last None sealed answer none is = false≢true is
not_last (Some kept) sealed answer none is = false≢true (sym none ∙ and_first _ _ is)

module _ (w : Configuration) (q : ReqSetup) (older : List (List ℕ)) (packet : List ℕ) (route : RouteFields) (answer : List ℕ) (at : IsAnswer w q older packet route answer) (byte : w.responder.beat < 256) where
  pub none_in_session : (k : Kept) → Keeps w q older k → (IsAgainInRecord w k route.tag answer → ⊥) → (other : Kept) → Keeps w q older other → (left : IsLeft w other route.tag answer) → (slice_index left.0.body 0 == 5) ≡ false → NoneGoesOn w q older packet
  none_in_session k keeps none other keeps_other left type =
      asked_none w q older packet route answer at other keeps_other byte left type (λ again. none (again_same w q older k other route.tag answer keeps keeps_other again))

  -- Where the record is not the last one that its session took.
  pub none_repeated : (k : Kept) → Keeps w q older k → IsSetUp k.setup → (turn : AnswersInTurn k route answer) → (slice_index turn.round.body 0 == 5) ≡ false
      → repeats (last_of (session_of (id_in_record (drop 1 turn.round.body)) k.responder)) (drop 1 turn.round.body) ≡ false → IsAgainInRecord w k route.tag answer → ⊥
  none_repeated k keeps limits turn type none =
      never_again w q older k route answer byte limits keeps turn type
      (λ op handle large asked. not_last (last_of (session_of (id_in_record (drop 1 turn.round.body)) k.responder)) (drop 1 turn.round.body) (drop 1 answer) none (and_first _ _ large.reads))

  -- ---- Of each round.

  -- Where none is left of a request in the clear, and none of a record is LargeResponse again.
  pub none_asked : (k : Kept) → Keeps w q older k → ((other : Kept) → Keeps w q older other → (left : IsLeft w other route.tag answer) → (slice_index left.0.body 0 == 5) ≡ true → ⊥)
      → (IsAgainInRecord w k route.tag answer → ⊥) → (other : Kept) → Keeps w q older other → IsLeft w other route.tag answer → NoneGoesOn w q older packet
  none_asked k keeps clear none other keeps_other left = by_type (slice_index left.0.body 0 == 5) refl
    where
      by_type : (b : Bool) → (slice_index left.0.body 0 == 5) ≡ b → NoneGoesOn w q older packet
      by_type true is = absurd (clear other keeps_other left is)
      by_type false is = none_in_session k keeps none other keeps_other left is
