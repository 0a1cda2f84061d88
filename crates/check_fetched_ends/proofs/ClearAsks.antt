-- On which answers in the clear the requester asks for a chunk while a large response is fetched there.
use Rattle.std.proofs.Common.{◌≡◌, ◌≢◌, ◌∙◌, ◌<◌, ◌≤◌, ◌+◌, ◌^◌, ◌==◌, ℕ, List, refl, sym, ap, subst, drop, length, arith, Bool, true, false, Option, Some, None, cond, inl, inr}
use Rattle.std.specs.Prelude.{IfSome, nat_lt, slice_index}
use Rattle.std.proofs.lemmas.Bool.{false≢true, not-true, ne_eqb}
use Rattle.std.proofs.lemmas.Bool.Decides.{nat_tests}
use Rattle.std.proofs.lemmas.Option.{none-some, same_Some}
use Rattle.check_laws.specs.KeptChanges.{accepted_from}
use Rattle.check_laws.specs.Keeping.{restored}
use Rattle.check_laws.specs.RepliesShown.{heard_from, no_values, responder_for}
use Rattle.check_laws.specs.Walks.{Walks}
use Rattle.chunking.proofs.ChunkLengths.{told_first}
use Rattle.chunking.proofs.ChunkSteps as step
use Rattle.chunking.specs.Cutting.{chunk_count, nth_chunk}
use Rattle.check_fetched_laws.proofs.ClearChunks.{next_is_given, repeat_is_same}
use Rattle.check_fetched_laws.proofs.ClearRound.{asked_or_version, get_is_next, round_is_there, walks_in_step}
use Rattle.check_fetched_laws.proofs.GetSteps.{Fetches}
use Rattle.check_fetched_laws.proofs.GetSteps.Fetches.{Owes, Asks, Has}
use Rattle.check_fetched_laws.proofs.MeanwhileClear.{get_goes_on, repeat_goes_same}
use Rattle.check_fetched_laws.proofs.ReadyGets.{ready_few}
use Rattle.check_fetched_laws.specs.ClearChunks.{clear_with, get_response}
use Rattle.check_fetched_laws.specs.ClearRounds.{IsClearRound}
use Rattle.check_late_laws.proofs.Late.AsksOn.{AsksOn, chunk_on, other_tag_on}
use Rattle.check_fetched_ends.proofs.HeldNever.{clear_shape}
use Rattle.check_fetched_ends.specs.AsksUpon.{ClearAsksOn}
use Rattle.check_late_laws.specs.Fetching.{Fetching, IsFetchingOf, MayStand, dialogue_of}
use Rattle.requester_machine.specs.Hearing.{hears}
use Rattle.requester_machine.specs.History as requester_history
use Rattle.requester_machine.specs.History.{outstanding}
use Rattle.requester_machine.specs.Setup.{ReqSetup}
use Rattle.responder_machine.specs.History.{History, clear_turns, negotiation_of}
use Rattle.responder_machine.specs.Place.{place_terms}
use Rattle.responder_machine.specs.Setup.{RspSetup}
use Rattle.spdm_grammar.specs.Fields.{FitsChunk, IsSoundChunk}
use Rattle.spdm_grammar.specs.Message.{ChunkMessage}
use Rattle.spdm_grammar.specs.Message.RequestMessage.{GetVersion}
use Rattle.spdm_grammar.specs.Requests.{canonical_request}
use Rattle.spdm_machine.specs.Bodies.{clear_body}
use Rattle.capture_machine.proofs.SmallGets.{chunk_sized}
use Rattle.capture_machine.specs.CapturedAnswers.{AnswersPlainly}
use Rattle.capture_machine.specs.LargeAnswers.{is_fetching, place_named, with_large}
use Rattle.capture_machine.specs.Rounds.{Dialogue, Round, no_draw}
use Rattle.world_machine.specs.Setup.{Configuration}

type_of : (b : Bool) (id : ℕ) → cond b None (Some id) ≡ None → b ≡ true
type_of true id is = refl
type_of false id is = absurd (none-some id (sym is))

large_fits : (b : Bool) (n : ℕ) → n < 2 ^ 32 → IfSome (cond b (Some n) None) (λ m. m < 2 ^ 32)
large_fits true n small = small
large_fits false n small = tt

-- The request went to the place where the answer is fetched.
pub place_is : (w : Configuration) (q : ReqSetup) (older : List (List ℕ)) (f : Fetching) (round : Round) → IsFetchingOf w q older f → f.kept.round ≡ Some round → round.body ≢ clear_body (canonical_request GetVersion) → place_named round.body ≡ f.at
place_is w q older f round own at other =
    let there = round_is_there w q older f own in
    let same : there.0 ≡ round = same_Some there.0 round (sym there.1 ∙ at) in
    elim there.2 [
      | inl version ↦ absurd (other (ap (λ (x : Round). x.body) (sym same) ∙ version))
      | inr named ↦ ap (λ (x : Round). place_named x.body) (sym same) ∙ named
    ]

-- A chunk is asked for.
pub gets_is : (w : Configuration) (q : ReqSetup) (older : List (List ℕ)) (f : Fetching) (round : Round) (whole : List ℕ) → IsFetchingOf w q older f → f.kept.round ≡ Some round → round.body ≢ clear_body (canonical_request GetVersion) → MayStand f whole
    → is_fetching (outstanding (restored f.kept).requester) ≡ true
gets_is w q older f round whole own at other stand = elim (asked_or_version w q older (dialogue_of f whole) whole round (own.all whole stand) refl at) [
  | inl version ↦ absurd (other version)
  | inr gets ↦ gets
]

module _ (w : Configuration) (q : ReqSetup) (older : List (List ℕ)) (f : Fetching) (round : Round) (answer whole : List ℕ) (h : History) (own : IsFetchingOf w q older f) (there : f.at ≡ None) (at : f.kept.round ≡ Some round) (other : round.body ≢ clear_body (canonical_request GetVersion))
    (stand : MayStand f whole) (plainly : AnswersPlainly (responder_for w f.kept) (dialogue_of f whole) round answer h) where
  abbrev r : RspSetup
  r = responder_for w f.kept

  abbrev d : Dialogue
  d = dialogue_of f whole

  abbrev k : History
  k = f.kept.responder

  abbrev asker : requester_history.History
  asker = (restored f.kept).requester

  type : (slice_index round.body 0 == 5) ≡ true
  type = type_of (slice_index round.body 0 == 5) _ (place_is w q older f round own at other ∙ there)

  gets : is_fetching (outstanding asker) ≡ true
  gets = gets_is w q older f round whole own at other stand

  walk : Walks w q older d
  walk = own.all whole stand

  -- On this chunk, which is not the last one.
  given_on : (handle number : ℕ) → handle < 256 → number < 2 ^ 16 → (place_terms (clear_with k whole)).common.chunk ≡ true
      → nat_lt (number + 1) (chunk_count (place_terms (clear_with k whole)).common.to_requester.transfer whole) ≡ true
      → answer ≡ clear_body (get_response k whole handle number) → AsksOn asker (hears f.kept.setup asker false round.tag answer no_values no_draw)
  given_on handle number byte few chunks more is =
      let transfer : ℕ = (place_terms (clear_with k whole)).common.to_requester.transfer in
      let c : ChunkMessage = nth_chunk transfer handle whole number in
      let low = chunk_sized (negotiation_of (clear_turns (with_large None whole k))) chunks in
      let short = stand.0.2 in
      let size = step.size_is transfer handle whole (omega (arith, low)) number in
      let fits : FitsChunk c = record { handle = byte; number = few; large = large_fits (number == 0) (length whole) (omega (arith, short)) } in
      let sound : IsSoundChunk c = record { first = told_first (number == 0) (length whole); size = omega (arith, size, short) } in
      let not_last : c.last ≡ false = ne_eqb (number + 1) (chunk_count transfer whole) (λ e. absurd (grind (arith, nat_tests))) in
      chunk_on f.kept.setup asker no_values round.tag answer gets c fits sound not_last is

  by_fetches : Fetches asker k whole round → AsksOn asker (hears f.kept.setup asker false round.tag answer no_values no_draw)
  by_fetches (Owes handle number m later again ready) = other_tag_on f.kept.setup asker no_values round.tag answer gets m.sent m.waits (not-true _ later)
  by_fetches (Has handle number m own_tag body again reply ready) =
      let same = repeat_goes_same repeat_is_same r d whole round (drop 1 round.body) answer h refl (clear_shape round.body type) again plainly in
      let few = ready_few k whole handle (number + 1) ready in
      given_on handle number ready.byte (omega (arith, few)) ready.chunks ready.more (same.0 ∙ ap clear_body reply)
  by_fetches (Asks handle number m own_tag body anew ready) = by_round (get_is_next w q older d whole round walk refl at type)
    where
      by_round : IsClearRound r k whole round → AsksOn asker (hears f.kept.setup asker false round.tag answer no_values no_draw)
      by_round (inl version) = absurd (other version)
      by_round (inr (inl again)) = absurd (false≢true (sym anew ∙ again))
      by_round (inr (inr get)) =
          let goes = (get_goes_on next_is_given r d whole round get.0 get.1 answer h refl get.2 get.3).0 plainly in
          given_on get.0 get.1 get.3.byte get.3.few get.3.chunks goes.1 goes.0

  pub asks_on : AsksOn asker (hears f.kept.setup asker false round.tag answer no_values no_draw)
  asks_on = by_fetches ((walks_in_step w q older d walk).so whole round refl at type gets)

pub clear_asks_on : ClearAsksOn
unfolding heard_from accepted_from
clear_asks_on w q older f round answer whole h own there at other stand plainly = asks_on w q older f round answer whole h own there at other stand plainly
