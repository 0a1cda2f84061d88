-- What is reported of an answer while a large one is fetched, in terms of walks.
use Rattle.std.proofs.Common.{◌≡◌, ◌∙◌, ℕ, List, ◌∷◌, sym, subst, Some, inl, inr}
use Rattle.mctp_framing.specs.Cutting.{RouteFields}
use Rattle.mctp_framing.specs.Gathering.{Gathered}
use Rattle.mctp_framing.specs.Gathering.Gathered.{Whole}
use Rattle.requester_machine.specs.Setup.{ReqSetup}
use Rattle.responder_machine.specs.Setup.{towards}
use Rattle.check_ends.specs.Conversation.{IsAnswer, NoneGoesOn}
use Rattle.check_laws.proofs.PairWalks.{walks_setup}
use Rattle.check_laws.specs.Keeping.{Keeps, Kept, restored}
use Rattle.check_laws.specs.ReasonsEach.{IsAnsweredReason}
use Rattle.check_laws.specs.Walks.{Walks}
use Rattle.check_fetched_ends.specs.Fetched.{IsFetchedWhy}
use Rattle.check_late_laws.proofs.BegunLaws.{fetching_ends}
use Rattle.check_late_laws.proofs.GoesLaws.{fetching_goes}
use Rattle.check_late_laws.proofs.Reasons.{fetching_tells_apart, fetching_tells_why}
use Rattle.check_late_laws.proofs.RepliedOn.{fetching_is_replied}
use Rattle.check_late_laws.proofs.TurnsLaws.{fetching_turns}
use Rattle.check_late_laws.specs.Fetching.{Fetching, IsFetchingOf, MayStand, dialogue_of}
use Rattle.check_late_laws.specs.FetchingLaws.{EndsFetching, GoesFetching, TurnsFetching}
use Rattle.capture_machine.specs.Difference.{GoesApart, Why, goes_why}
use Rattle.capture_machine.specs.Difference.Why.{BadPacket, UnknownEnd, WrongTurn, BadRequest, BadReply, BadVerify, BadRecord}
use Rattle.capture_machine.specs.Rounds.{Dialogue}
use Rattle.world_machine.specs.Setup.{Configuration, known_of}

module _ (w : Configuration) (q : ReqSetup) (older : List (List ℕ)) (packet : List ℕ) (route : RouteFields) (answer : List ℕ) (at : IsAnswer w q older packet route answer) (f : Fetching) (own : IsFetchingOf w q older f) where
  abbrev u : List ℕ
  u = own.stands.0

  pub walk_before : Walks w q older (dialogue_of f u)
  walk_before = own.all u own.stands.1

  -- What it makes of what is kept, is kept after it.
  pub fetched_behind : (next : Fetching) → GoesFetching w f (Whole route answer) next → IsFetchingOf w q (packet ∷ older) next
  fetched_behind next goes = fetching_goes w q older packet at.fields f next at.parses at.other at.goes own (subst (λ (g : Gathered). GoesFetching w f g next) (sym at.whole) goes)

  pub turned_behind : (next : Fetching) → TurnsFetching w f (Whole route answer) next → IsFetchingOf w q (packet ∷ older) next
  turned_behind next turns = (fetching_turns w q older packet at.fields f next at.parses at.other at.goes own (subst (λ (g : Gathered). TurnsFetching w f g next) (sym at.whole) turns)).0

  pub ended_behind : (next : Kept) → EndsFetching w f (Whole route answer) next → Keeps w q (packet ∷ older) next
  ended_behind next ends = fetching_ends w q older packet at.fields f next at.parses at.other at.goes own (subst (λ (g : Gathered). EndsFetching w f g next) (sym at.whole) ends)

  -- Where it makes nothing of it, no walk goes on with it.
  pub none_on : ((next : Fetching) → GoesFetching w f (Whole route answer) next → ⊥) → ((next : Fetching) → TurnsFetching w f (Whole route answer) next → ⊥) → ((next : Kept) → EndsFetching w f (Whole route answer) next → ⊥) → NoneGoesOn w q older packet
  none_on goes turns ends d over = elim (fetching_is_replied w q older packet at.fields f d at.parses at.other at.goes own over) [
    | inl it ↦ goes it.0 (subst (λ (g : Gathered). GoesFetching w f g it.0) at.whole it.1)
    | inr (inl it) ↦ turns it.0 (subst (λ (g : Gathered). TurnsFetching w f g it.0) at.whole it.1)
    | inr (inr it) ↦ ends it.0 (subst (λ (g : Gathered). EndsFetching w f g it.0) at.whole it.1)
  ]

  -- ---- And why.

  own_setup : f.kept.setup ≡ q
  own_setup = walks_setup w q older (dialogue_of f u) walk_before

  other_reason : (why : Why) → ((whole : List ℕ) → MayStand f whole → GoesApart (towards w.responder (known_of q)) (dialogue_of f whole) (Whole route answer) → ⊥) × (goes_why (towards w.responder (known_of q)) (restored f.kept) (Whole route answer) ≡ Some why)
      → (((d : Dialogue) × Walks w q older d × GoesApart (towards w.responder (known_of q)) d (Whole route answer)) → ⊥)
      × ((d : Dialogue) × Walks w q older d × (goes_why (towards w.responder (known_of q)) d (Whole route answer) ≡ Some why))
  other_reason why is = (
    λ c. let each = own.each c.0 c.1 in is.0 each.0 each.1 (((fetching_tells_apart w q older f c.0 (Whole route answer) own c.1).1 each.0 each.2).0 c.2),
    (dialogue_of f u, walk_before, (fetching_tells_why w q older f (dialogue_of f u) (Whole route answer) own walk_before).1 ∙ is.1),
  )

  -- Why, by the responder that is set up so.
  abbrev IsWhy : ReqSetup → Why → Type 0
  IsWhy s BadVerify = (whole : List ℕ) × MayStand f whole × GoesApart (towards w.responder (known_of s)) (dialogue_of f whole) (Whole route answer)
  IsWhy s why =
      ((whole : List ℕ) → MayStand f whole → GoesApart (towards w.responder (known_of s)) (dialogue_of f whole) (Whole route answer) → ⊥)
      × (goes_why (towards w.responder (known_of s)) (restored f.kept) (Whole route answer) ≡ Some why)

  reason_in : (why : Why) → IsWhy q why → IsAnsweredReason w q older (Whole route answer) why
  reason_in BadVerify is = (dialogue_of f is.0, own.all is.0 is.1, is.2)
  reason_in BadPacket is = other_reason BadPacket is
  reason_in UnknownEnd is = other_reason UnknownEnd is
  reason_in WrongTurn is = other_reason WrongTurn is
  reason_in BadRequest is = other_reason BadRequest is
  reason_in BadReply is = other_reason BadReply is
  reason_in BadRecord is = other_reason BadRecord is

  same_why : (why : Why) → IsFetchedWhy w f (Whole route answer) why → IsWhy f.kept.setup why
  same_why BadVerify is = is
  same_why BadPacket is = is
  same_why UnknownEnd is = is
  same_why WrongTurn is = is
  same_why BadRequest is = is
  same_why BadReply is = is
  same_why BadRecord is = is

  pub answered_reason : (why : Why) → IsFetchedWhy w f (Whole route answer) why → IsAnsweredReason w q older (Whole route answer) why
  answered_reason why is = reason_in why (subst (λ (s : ReqSetup). IsWhy s why) own_setup (same_why why is))
