-- The bytes that a chunk fills may stand, and their next chunk can be cut.
use Rattle.std.proofs.Common.{◌≡◌, ◌≢◌, ◌≤◌, ◌<◌, ◌+◌, ℕ, List, refl, sym, ap, ◌∙◌, subst, drop, length, arith, Bool, true, false, Option, Some, None}
use Rattle.std.specs.Prelude.{nat_lt}
use Rattle.std.proofs.lemmas.Bool.Decides.{nat_tests}
use Rattle.check_ends.specs.declared.party.Party.{Party}
use Rattle.chunking.specs.Cutting.{chunk_count}
use Rattle.check_fetched_laws.proofs.ReadyGets.{common_given}
use Rattle.check_fetched_laws.specs.ClearChunks.{clear_with}
use Rattle.check_fetched_ends.proofs.Filled.{stands_now}
use Rattle.check_fetched_ends.proofs.HeldRounds.{IsAsked, asked, transfer_is}
use Rattle.check_fetched_ends.specs.Held.{AreHeldFitting, CanBeCut, IsHeldIn, filled_with, repeats_held}
use Rattle.check_fetched_ends.specs.InSession.{bytes_with, filled, size_with}
use Rattle.check_fetched_ends.specs.declared.clear_fetch.held.Held.{Held}
use Rattle.check_late_laws.proofs.Sized.{transfer_few}
use Rattle.check_late_laws.specs.Fetching.{Fetching, IsFetchingOf, MayStand, bytes_of, number_of, size_of}
use Rattle.requester_machine.specs.Setup.{ReqSetup}
use Rattle.responder_machine.specs.History.{clear_turns, negotiation_of}
use Rattle.responder_machine.specs.Place.{clear_place, place_terms}
use Rattle.spdm_grammar.specs.Message.RequestMessage.{GetVersion}
use Rattle.spdm_grammar.specs.Requests.{canonical_request}
use Rattle.spdm_grammar.specs.declared.names.TheConstants.{MIN_DATA_TRANSFER_SIZE}
use Rattle.spdm_machine.specs.Bodies.{clear_body}
use Rattle.capture_machine.proofs.SmallGets.{chunk_sized}
use Rattle.capture_machine.specs.LargeAnswers.{with_large}
use Rattle.capture_machine.specs.Rounds.{Round}
use Rattle.capture_machine.specs.SessionTable.{Row}
use Rattle.world_machine.specs.Setup.{Configuration}

module _ (w : Configuration) (q : ReqSetup) (rows : List Row) (f : Fetching) (party : Party) (held : Held) (kept : IsHeldIn party held w q f rows) where
  -- What is held of the chunks is what came of them.
  pub filled_is : (m : List ℕ) → filled held.answer.number held.answer.size held.answer.bytes m ≡ filled (number_of f) (size_of f) (bytes_of f) m
  filled_is m =
      ap (λ (n : ℕ). filled n held.answer.size held.answer.bytes m) kept.answer.number
      ∙ ap (λ (o : Option ℕ). filled (number_of f) o held.answer.bytes m) kept.answer.size ∙ ap (λ (l : List ℕ). filled (number_of f) (size_of f) l m) kept.answer.bytes

  pub size_is : (m : List ℕ) → size_with held.answer.number held.answer.size m ≡ size_with (number_of f) (size_of f) m
  size_is m = ap (λ (n : ℕ). size_with n held.answer.size m) kept.answer.number ∙ ap (λ (o : Option ℕ). size_with (number_of f) o m) kept.answer.size

  pub bytes_is : (m : List ℕ) → bytes_with held.answer.number held.answer.bytes m ≡ bytes_with (number_of f) (bytes_of f) m
  bytes_is m = ap (λ (n : ℕ). bytes_with n held.answer.bytes m) kept.answer.number ∙ ap (λ (l : List ℕ). bytes_with (number_of f) l m) kept.answer.bytes

  module _ (m : List ℕ) (fits : AreHeldFitting held m) where
    pub within_is : length (bytes_with (number_of f) (bytes_of f) m) ≤ size_with (number_of f) (size_of f) m
    within_is = subst (λ (n : ℕ). length (bytes_with (number_of f) (bytes_of f) m) ≤ n) (size_is m) (subst (λ (l : List ℕ). length l ≤ size_with held.answer.number held.answer.size m) (bytes_is m) fits.within)

    pub least_is : held.least ≤ size_with (number_of f) (size_of f) m
    least_is = subst (λ (n : ℕ). held.least ≤ n) (size_is m) fits.least

    pub most_is : size_with (number_of f) (size_of f) m ≤ held.most
    most_is = subst (λ (n : ℕ). n ≤ held.most) (size_is m) fits.most

    pub may_stand : MayStand f (filled held.answer.number held.answer.size held.answer.bytes m)
    may_stand = subst (MayStand f) (sym (filled_is m)) (stands_now f held.least held.most kept.lengths m within_is least_is most_is)

module _ (w : Configuration) (q : ReqSetup) (older : List (List ℕ)) (rows : List Row) (f : Fetching) (own : IsFetchingOf w q older f) (party : Party) (held : Held) (kept : IsHeldIn party held w q f rows) (round : Round) (is : f.kept.round ≡ Some round) (other : round.body ≢ clear_body (canonical_request GetVersion)) (anew : repeats_held held round.tag round.body ≡ false) where
  less_of : (a b : ℕ) → nat_lt a b ≡ true → a < b
  less_of a b test = grind (arith, nat_tests)

  pub can_be_cut : (v : List ℕ) → MayStand f v → CanBeCut held v
  can_be_cut v stand =
      let get = (asked w q older rows f own party held kept round is other anew v stand).next in
      let transfer = transfer_is w q older rows f own party held kept round is other v in record {
        low = subst (λ (n : ℕ). MIN_DATA_TRANSFER_SIZE ≤ n) transfer (chunk_sized (negotiation_of (clear_turns (with_large None v f.kept.responder))) get.chunks);
        high = subst (λ (n : ℕ). n ≤ 4096) transfer (transfer_few (clear_with f.kept.responder v));
        more = subst (λ (t : ℕ). held.answer.number < chunk_count t v) transfer (subst (λ (n : ℕ). n < chunk_count (place_terms (clear_with f.kept.responder v)).common.to_requester.transfer v) (sym kept.answer.number) (less_of _ _ get.more));
      }

  pub filled_cut : (answer : List ℕ) → AreHeldFitting held (drop 1 answer) → CanBeCut held (filled_with held answer)
  filled_cut answer fits = can_be_cut (filled_with held answer) (may_stand w q rows f party held kept (drop 1 answer) fits)
