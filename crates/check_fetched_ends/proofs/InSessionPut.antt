-- In the session in which a large response is fetched, other bytes that may stand for it are pending where some are,
-- and may be put there.
use Rattle.std.proofs.Common.{◌≡◌, ◌≤◌, ◌<◌, ◌+◌, ◌==◌, ℕ, List, refl, sym, ap, ◌∙◌, subst, drop, length, arith, true, false, Option, Some}
use Rattle.std.specs.Prelude.{nat_lt, slice_index}
use Rattle.std.proofs.lemmas.Bool.Decides.{nat_tests}
use Rattle.spdm_basis.proofs.Bools.{and_second}
use Rattle.mctp_framing.specs.Cutting.{RouteFields}
use Rattle.check_ends.proofs.InTurn.{AnswersInTurn}
use Rattle.check_fetched_laws.proofs.PendingShown.{pending_is_measured}
use Rattle.check_fetched_laws.specs.JudgedFor.{IsLong, IsMeasured, session_with}
use Rattle.check_late_laws.proofs.Gave.{number_same}
use Rattle.check_late_laws.proofs.GoesWith.{size_by, told}
use Rattle.check_late_laws.proofs.WithinMoved.{large_alike, pending_at}
use Rattle.check_late_laws.specs.Fetching.{Fetching, IsFetchingOf, MayStand, dialogue_of, number_given, size_told}
use Rattle.requester_machine.specs.May.{IsSetUp}
use Rattle.requester_machine.specs.Setup.{ReqSetup}
use Rattle.responder_machine.specs.History.{History}
use Rattle.responder_machine.specs.May.{place_for}
use Rattle.responder_machine.specs.Place.{Place, Where, place_terms, session_place}
use Rattle.responder_machine.specs.Place.Where.{InClear, InChunks, InSession}
use Rattle.responder_machine.specs.Refusal.{bytes_round, has_pending, sizes_are_known}
use Rattle.responder_machine.specs.Session.{Events, id_in_record, session_of, session_terms}
use Rattle.spdm_machine.specs.Terms.{terms_of}
use Rattle.transcript.specs.Transcripts.{Negotiation}
use Rattle.capture_machine.proofs.ChunksGiven.{Chunked, gets_of}
use Rattle.capture_machine.proofs.EventsAlike.{EventsAlike, negotiation_alike}
use Rattle.capture_machine.proofs.FetchedSessions.{sessions_fetched}
use Rattle.capture_machine.proofs.GetTells.{transfer_of}
use Rattle.capture_machine.proofs.PlacesServed.{place_type}
use Rattle.capture_machine.specs.LargeAnswers.{IsLargeAnswer, place_named, with_large}
use Rattle.world_machine.specs.Setup.{Configuration}
use Rattle.check_fetched_ends.proofs.InSessionRecord.{fetch_is, id_is, place_is, unseen_stand}

-- ---- Lengths.

pub few_round : (at : Where) → bytes_round at ≤ 6
few_round InClear = omega arith
few_round InChunks = omega arith
few_round InSession = omega arith

-- A length that is sent in chunks is longer than what the requester takes at once.
pub long_enough : (p : Place) (v : List ℕ) (size : ℕ) → size ≡ (place_terms p).common.to_requester.transfer → IsLargeAnswer p v → size < length v + 16
long_enough p v size is large =
    let less : nat_lt (place_terms p).common.to_requester.transfer (bytes_round p.at + length v) ≡ true = and_second (sizes_are_known p.phase) (nat_lt (place_terms p).common.to_requester.transfer (bytes_round p.at + length v)) large.0 in
    let few = few_round p.at in grind (arith, nat_tests, is, few, less)

module _ (w : Configuration) (q : ReqSetup) (older : List (List ℕ)) (f : Fetching) (route : RouteFields) (answer : List ℕ) (byte : w.responder.beat < 256) (limits : IsSetUp f.kept.setup) (own : IsFetchingOf w q older f) (turn : AnswersInTurn f.kept route answer)
    (id : ℕ) (at : f.at ≡ Some id) (type : (slice_index turn.round.body 0 == 5) ≡ false) (x v : List ℕ) (one : MayStand f x) (two : MayStand f v) where
  abbrev h : History
  h = f.kept.responder

  abbrev body : List ℕ
  body = turn.round.body

  abbrev events : List ℕ → Events
  events l = session_with id h l

  alike : EventsAlike (events x) (events v)
  alike = sessions_fetched id (Some id) x v h (record { id = id; at = refl; stand = unseen_stand w q older f route answer byte limits own turn id at type x one })

  here : (l : List ℕ) → MayStand f l → place_for (with_large (place_named body) l h) body ≡ session_place (events l)
  here l may =
      place_type (with_large (place_named body) l h) body false type
      ∙ ap (λ (o : Option ℕ). session_place (session_of (id_in_record (drop 1 body)) (with_large o l h))) (place_is w q older f route answer byte limits own turn id at type l may)
      ∙ ap (λ (n : ℕ). session_place (session_of n (with_large (Some id) l h))) (id_is w q older f route answer byte limits own turn id at type l may)

  pub chunked : (l : List ℕ) → MayStand f l → Chunked (session_place (events l)) (Some id) l h
  chunked l may =
      subst (λ (o : Option ℕ). Chunked (session_place (events l)) o l h) (place_is w q older f route answer byte limits own turn id at type l may)
      (subst (λ (p : Place). Chunked p (place_named body) l h) (here l may) (fetch_is w q older f route answer byte limits own turn id at type l may).chunked)

  transfers : transfer_of (session_place (events x)) ≡ transfer_of (session_place (events v))
  transfers = ap (λ (n : Negotiation). (terms_of n).common.to_requester.transfer) (negotiation_alike (events x) (events v) alike)

  sizes : (gets_of (Some id) h ≡ 0 → ⊥) → length v ≡ length x
  sizes some =
      let count : gets_of (Some id) h ≡ number_given f.at h = number_same (Some id) h ∙ ap (λ (o : Option ℕ). number_given o h) (sym at) in
      size_by (number_given f.at h) (size_told f.at h) x v (told f.at h) (λ none. some (count ∙ none)) one.1 two.1

  pub pending_same : has_pending (session_place (events x)) ≡ has_pending (session_place (events v))
  pending_same = pending_at (session_place (events x)) (session_place (events v)) (Some id) h x v transfers (large_alike (events x) (events v) alike) (chunked x one) (chunked v two) sizes

  pub common_same : (session_terms (events x)).common ≡ (session_terms (events v)).common
  common_same = ap (λ (n : Negotiation). (terms_of n).common) (negotiation_alike (events x) (events v) alike)

  pub measured : (l : List ℕ) → MayStand f l → has_pending (session_place (events l)) ≡ true → IsMeasured id h l
  measured l may pending =
      subst (λ (n : ℕ). IsMeasured n h l) (id_is w q older f route answer byte limits own turn id at type l may)
      (pending_is_measured w q older (dialogue_of f l) l turn.round (own.all l may) refl turn.answers.0 (ap has_pending (here l may) ∙ pending) type)

  pub long : (session_terms (events x)).common ≡ (place_terms f.place).common → IsLong id h x (length v)
  long same = long_enough f.place v _ (ap (λ c. c.to_requester.transfer) same) two.0
