-- The round while a large response is fetched: the requester awaits a chunk, or asked for GET_VERSION in place of it.
use Rattle.std.proofs.Common.{◌≡◌, ◌∙◌, ◌⊎◌, ℕ, List, refl, sym, ap, subst, true, false, Option, Some, inl, inr}
use Rattle.std.proofs.lemmas.Option.{same_Some}
use Rattle.requester_machine.specs.History.{outstanding}
use Rattle.requester_machine.specs.Setup.{ReqSetup}
use Rattle.spdm_grammar.specs.Message.RequestMessage.{GetVersion}
use Rattle.spdm_grammar.specs.Requests.{canonical_request}
use Rattle.spdm_machine.specs.Bodies.{clear_body}
use Rattle.check_laws.proofs.OneWalk.{walks_alike}
use Rattle.check_laws.specs.Keeping.{restored}
use Rattle.check_laws.specs.Order.{body_in}
use Rattle.check_requester.specs.JudgedRequester.{Carries}
use Rattle.check_late_laws.specs.Fetching.{Fetching, IsFetchingOf, dialogue_of}
use Rattle.capture_machine.proofs.Fetching.{IsSound}
use Rattle.capture_machine.specs.LargeAnswers.{is_fetching, is_for_chunk, place_named}
use Rattle.capture_machine.specs.Rounds.{Round}
use Rattle.world_machine.specs.Setup.{Configuration}

-- What is kept meanwhile of the requester and the responder is carried on.
pub fetching_carries : (w : Configuration) (q : ReqSetup) (older : List (List ℕ)) (f : Fetching) → IsFetchingOf w q older f → Carries w q older f.kept
fetching_carries w q older f own = (Some own.stands.0, own.all own.stands.0 own.stands.1, own.kept)

module _ (f : Fetching) (round : Round) where
  -- A chunk is awaited, or GET_VERSION was asked for.
  abbrev pub IsAwaited : Type 0
  IsAwaited =
      ((is_fetching (outstanding (restored f.kept).requester) ≡ false) × (round.body ≡ clear_body (canonical_request GetVersion)))
      ⊎ ((is_fetching (outstanding (restored f.kept).requester) ≡ true) × (place_named round.body ≡ f.at))

pub fetched_round : (w : Configuration) (q : ReqSetup) (older : List (List ℕ)) (f : Fetching) → IsFetchingOf w q older f → (round : Round) × (f.kept.round ≡ Some round) × IsAwaited f round
fetched_round w q older f own =
    let u : List ℕ = own.stands.0 in
    let walk = own.all u own.stands.1 in
    let sound : IsSound (dialogue_of f u) = (walks_alike w q older (dialogue_of f u) (dialogue_of f u) walk walk).one in
    let old = sound.fetched u refl in (
      old.0,
      old.1,
      elim old.2.stands [
        | inl version ↦ inl (ap is_fetching old.2.waits ∙ ap is_for_chunk version.0, version.1)
        | inr fetch ↦
            let gets = ap is_fetching old.2.waits ∙ fetch.0 in
            inr (gets, sym (ap (λ (o : Option Round). place_named (body_in o)) old.1) ∙ own.there gets)
      ],
    )

-- So it is awaited exactly when the round is not GET_VERSION.
pub awaited_in : (w : Configuration) (q : ReqSetup) (older : List (List ℕ)) (f : Fetching) (round : Round) → IsFetchingOf w q older f → f.kept.round ≡ Some round → IsAwaited f round
awaited_in w q older f round own at =
    let found = fetched_round w q older f own in
    subst (IsAwaited f) (same_Some found.0 round (sym found.1 ∙ at)) found.2
