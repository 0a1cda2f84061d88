-- What is reported of an answer in the clear while nothing is fetched.
use Rattle.std.proofs.Common.{◌≡◌, ◌<◌, ◌==◌, ◌∙◌, ℕ, List, sym, ap, subst, drop, Bool, true, false, Some, eq-eqb, eqb-true}
use Rattle.std.specs.Prelude.{◌↔◌, slice_index}
use Rattle.std.proofs.lemmas.Bool.{false≢true}
use Rattle.std.proofs.lemmas.Option.{same_Some}
use Rattle.mctp_framing.specs.Cutting.{RouteFields}
use Rattle.check_ends.proofs.InTurn.{AnswersInTurn}
use Rattle.check_requester.specs.JudgedRequester.{Carries}
use Rattle.check_ends.specs.Party.{IsParty}
use Rattle.check_ends.specs.declared.party.Party.{Party}
use Rattle.check_laws.specs.Keeping.{Kept}
use Rattle.check_laws.specs.LargeShown.{IsShownLarge}
use Rattle.check_laws.specs.RepliesShown.{responder_for}
use Rattle.check_laws.specs.declared.verdict.Seen.{Seen}
use Rattle.check_fetched_ends.proofs.HeldBefore.{here}
use Rattle.check_fetched_ends.proofs.HeldNever.{clear_shape}
use Rattle.check_fetched_ends.specs.BegunHeld.{IsBegunHeld, IsLargeInClear}
use Rattle.check_fetched_ends.specs.declared.clear_fetch.held_begins.BegunHeld.TheVariants as begun
use Rattle.requester_machine.specs.May.{IsSetUp}
use Rattle.requester_machine.specs.Setup.{ReqSetup}
use Rattle.responder_machine.specs.Setup.{RspSetup}
use Rattle.spdm_machine.specs.Bodies.{clear_body}
use Rattle.capture_machine.specs.Rounds.{Round}
use Rattle.capture_machine.specs.SessionTable.{Row}
use Rattle.world_machine.specs.Setup.{Configuration}

module _ (w : Configuration) (q : ReqSetup) (older : List (List ℕ)) (rows : List Row) (k : Kept) (route : RouteFields) (answer : List ℕ) (turn : AnswersInTurn k route answer) (new : Party) (before after : List Seen) where
  abbrev r : RspSetup
  r = responder_for w k

  -- It is LargeResponse in this round.
  pub record IsLargeHere : Type 0 where
    pub type : (slice_index turn.round.body 0 == 5) ≡ true
    pub large : IsShownLarge (responder_for w k) k.responder turn.round.tag turn.round.body answer

  pub large_here : IsLargeInClear w k route.tag answer → IsLargeHere
  large_here is =
      let same : is.0 ≡ turn.round = same_Some is.0 turn.round (sym is.1.0 ∙ turn.answers.0) in record {
        type = subst (λ (x : Round). (slice_index x.body 0 == 5) ≡ true) same is.2;
        large = subst (λ (x : Round). IsShownLarge r k.responder x.tag x.body answer) same is.3;
      }

  pub not_large : (IsLargeHere → ⊥) → IsParty new w q k rows → after ≡ before → IsBegunHeld w q older rows k route answer begun.Not new before after
  not_large none party same = ((λ is. none (large_here is)), party, same)

  -- The request is a record.
  pub sealed_request : (slice_index turn.round.body 0 ≡ 5 → ⊥) → IsLargeHere → ⊥
  sealed_request other is = other (eqb-true (slice_index turn.round.body 0) 5 is.type)

  -- The answer is one.
  pub sealed_answer : (byte : w.responder.beat < 256) (limits : IsSetUp k.setup) (carries : Carries w q older k) → (slice_index answer 0 ≡ 5 → ⊥) → IsLargeHere → ⊥
  sealed_answer byte limits carries other is = other (here w q older k route answer byte limits carries turn is.type is.large).typed

  -- It is determined by the connection.
  module _ (type : slice_index turn.round.body 0 ≡ 5) (clear : slice_index answer 0 ≡ 5) (tag : ℕ) (message reply : List ℕ) (one : tag ≡ turn.round.tag) (two : message ≡ drop 1 turn.round.body) (three : reply ≡ drop 1 answer) (result : Bool)
      (told : (result ≡ true) ↔ IsShownLarge (responder_for w k) k.responder tag (clear_body message) (clear_body reply)) where
    is_clear : (slice_index turn.round.body 0 == 5) ≡ true
    is_clear = eq-eqb (slice_index turn.round.body 0) 5 type

    abbrev Tells : ℕ → List ℕ → List ℕ → Type 0
    Tells n body given = (result ≡ true) ↔ IsShownLarge (responder_for w k) k.responder n body given

    told_here : Tells turn.round.tag turn.round.body answer
    told_here =
        subst (Tells turn.round.tag turn.round.body) (ap clear_body three ∙ sym (clear_shape answer (eq-eqb (slice_index answer 0) 5 clear)))
        (subst (λ (l : List ℕ). Tells turn.round.tag l (clear_body reply)) (ap clear_body two ∙ sym (clear_shape turn.round.body is_clear)) (subst (λ (n : ℕ). Tells n (clear_body message) (clear_body reply)) one told))

    pub told_large : result ≡ true → IsLargeHere
    told_large is = record { type = is_clear; large = told_here.0 is }

    pub told_none : result ≡ false → IsLargeHere → ⊥
    told_none none is = false≢true (sym none ∙ told_here.1 is.large)
