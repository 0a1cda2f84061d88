-- What is reported of a request while a large response is fetched, in terms of walks.
use Rattle.std.proofs.Common.{◌≡◌, ◌∙◌, ℕ, List, ◌∷◌, refl, sym, subst, Some}
use Rattle.mctp_framing.specs.Cutting.{RouteFields}
use Rattle.mctp_framing.specs.Gathering.{Gathered}
use Rattle.mctp_framing.specs.Gathering.Gathered.{Whole}
use Rattle.requester_machine.specs.Setup.{ReqSetup}
use Rattle.check_ends.specs.Conversation.{IsRequest, NoneGoesOn}
use Rattle.check_ends.specs.Party.{IsComingWhy}
use Rattle.check_laws.specs.Keeping.{AsksKept, Kept, restored}
use Rattle.check_laws.specs.ReasonsEach.{IsAskedReason}
use Rattle.check_laws.specs.Walks.{Walks}
use Rattle.check_late_laws.proofs.Asked.{fetching_asks, fetching_is_asked}
use Rattle.check_late_laws.proofs.Reasons.{fetching_tells_apart, fetching_tells_why}
use Rattle.check_late_laws.specs.Fetching.{Fetching, IsFetchingOf, dialogue_of}
use Rattle.check_late_laws.specs.FetchingLaws.{AsksFetching}
use Rattle.capture_machine.specs.Difference.{ComesApart, Why, comes_why}
use Rattle.capture_machine.specs.Difference.Why.{BadPacket, UnknownEnd, WrongTurn, BadRequest, BadReply, BadVerify, BadRecord}
use Rattle.capture_machine.specs.Rounds.{Dialogue}
use Rattle.world_machine.specs.Setup.{Configuration}

module _ (w : Configuration) (q : ReqSetup) (older : List (List ℕ)) (packet : List ℕ) (route : RouteFields) (body : List ℕ) (at : IsRequest w q older packet route body) (f : Fetching) (own : IsFetchingOf w q older f) where
  abbrev u : List ℕ
  u = own.stands.0

  pub walk_before : Walks w q older (dialogue_of f u)
  walk_before = own.all u own.stands.1

  -- What it makes of what is kept, is kept after it.
  pub kept_behind : (next : Kept) → AsksKept f.kept (Whole route body) next → IsFetchingOf w q (packet ∷ older) (record f { kept = next })
  kept_behind next asks = fetching_asks w q older packet at.fields f (record f { kept = next }) at.parses at.comes own
      (next, subst (λ (g : Gathered). AsksKept f.kept g next) (sym at.whole) asks, refl)

  -- Where it makes nothing of it, no walk goes on with it.
  pub none_on : ((next : Kept) → AsksKept f.kept (Whole route body) next → ⊥) → NoneGoesOn w q older packet
  none_on never d over =
      let it = fetching_is_asked w q older packet at.fields f d at.parses at.comes own over in
      let asks : AsksFetching f (Whole route body) it.0 = subst (λ (g : Gathered). AsksFetching f g it.0) at.whole it.1 in
      never asks.0 asks.1

  -- ---- And why.

  other_reason : (why : Why) → (ComesApart (restored f.kept) (Whole route body) → ⊥) × (comes_why (restored f.kept) (Whole route body) ≡ Some why)
      → (((d : Dialogue) × Walks w q older d × ComesApart d (Whole route body)) → ⊥) × ((d : Dialogue) × Walks w q older d × (comes_why d (Whole route body) ≡ Some why))
  other_reason why is = (
    λ c. is.0 ((fetching_tells_apart w q older f c.0 (Whole route body) own c.1).0.0 c.2),
    (dialogue_of f u, walk_before, (fetching_tells_why w q older f (dialogue_of f u) (Whole route body) own walk_before).0 ∙ is.1),
  )

  pub asked_reason : (why : Why) → IsComingWhy f.kept (Whole route body) why → IsAskedReason w q older (Whole route body) why
  asked_reason BadVerify is = (dialogue_of f u, walk_before, (fetching_tells_apart w q older f (dialogue_of f u) (Whole route body) own walk_before).0.1 is)
  asked_reason BadPacket is = other_reason BadPacket is
  asked_reason UnknownEnd is = other_reason UnknownEnd is
  asked_reason WrongTurn is = other_reason WrongTurn is
  asked_reason BadRequest is = other_reason BadRequest is
  asked_reason BadReply is = other_reason BadReply is
  asked_reason BadRecord is = other_reason BadRecord is
