-- What is reported of a request by what is kept, while no large one is in progress, in terms of walks.
use Rattle.std.proofs.Common.{◌≡◌, ℕ, List, ◌∷◌, refl, sym, subst, Option, Some, None}
use Rattle.mctp_framing.specs.Cutting.{RouteFields}
use Rattle.mctp_framing.specs.Gathering.{Gathered}
use Rattle.mctp_framing.specs.Gathering.Gathered.{Whole}
use Rattle.requester_machine.specs.Setup.{ReqSetup}
use Rattle.check_laws.proofs.KeptAll.{asks_are_kept}
use Rattle.check_laws.proofs.KeptAnswers.{kept_is_restored}
use Rattle.check_laws.proofs.KeptSteps.{kept_asks}
use Rattle.check_laws.proofs.Refused.{kept_tells_apart}
use Rattle.check_laws.specs.Keeping.{AsksKept, Keeps, Kept, restored}
use Rattle.check_laws.specs.ReasonsEach.{IsAskedReason}
use Rattle.check_laws.specs.Walks.{Walks}
use Rattle.check_ends.specs.Conversation.{IsRequest, NoneGoesOn}
use Rattle.check_ends.specs.Party.{IsComingWhy}
use Rattle.check_laws.proofs.Large.Begun.{begun_is_sending}
use Rattle.check_laws.specs.Large.Sending.{Sending}
use Rattle.check_laws.specs.Large.SendingLaws.{BeginsSending}
use Rattle.capture_machine.specs.Difference.{ComesApart, Why, comes_why}
use Rattle.capture_machine.specs.Difference.Why.{BadPacket, UnknownEnd, WrongTurn, BadRequest, BadReply, BadVerify, BadRecord}
use Rattle.capture_machine.specs.Rounds.{Dialogue}
use Rattle.world_machine.specs.Setup.{Configuration}

module _ (w : Configuration) (q : ReqSetup) (older : List (List ℕ)) (packet : List ℕ) (route : RouteFields) (body : List ℕ) (at : IsRequest w q older packet route body) (k : Kept) (keeps : Keeps w q older k) where
  pub walk_before : Walks w q older (restored k)
  walk_before = (kept_is_restored w q older k keeps).0

  -- What it makes of what is kept, is kept after it.
  pub kept_behind : (next : Kept) → AsksKept k (Whole route body) next → Keeps w q (packet ∷ older) next
  kept_behind next asks = kept_asks w q older packet at.fields k next at.parses at.comes keeps (subst (λ (g : Gathered). AsksKept k g next) (sym at.whole) asks)

  pub walk_behind : (next : Kept) → AsksKept k (Whole route body) next → Walks w q (packet ∷ older) (restored next)
  walk_behind next asks = (kept_is_restored w q (packet ∷ older) next (kept_behind next asks)).0

  -- Where it makes nothing of it, and begins no large request, no walk goes on with it.
  pub none_on : ((next : Kept) → AsksKept k (Whole route body) next → ⊥) → ((next : Sending) → BeginsSending k (Whole route body) next → ⊥) → NoneGoesOn w q older packet
  none_on never begins d over = by_sending d.sending refl
    where
      by_sending : (o : Option (List ℕ)) → d.sending ≡ o → ⊥
      by_sending None is =
          let it = asks_are_kept w q older packet at.fields k d at.parses at.comes keeps over is in
          never it.0 (subst (λ (g : Gathered). AsksKept k g it.0) at.whole it.1)
      by_sending (Some whole) is =
          let it = begun_is_sending w q older packet at.fields k d whole at.parses at.comes keeps over is in
          begins it.0 (subst (λ (g : Gathered). BeginsSending k g it.0) at.whole it.1)

  -- ---- And why.

  other_reason : (why : Why) → (ComesApart (restored k) (Whole route body) → ⊥) × (comes_why (restored k) (Whole route body) ≡ Some why)
      → (((d : Dialogue) × Walks w q older d × ComesApart d (Whole route body)) → ⊥) × ((d : Dialogue) × Walks w q older d × (comes_why d (Whole route body) ≡ Some why))
  other_reason why is = (λ c. is.0 ((kept_tells_apart w q older k c.0 (Whole route body) keeps c.1).0.0 c.2), (restored k, walk_before, is.1))

  pub asked_reason : (why : Why) → IsComingWhy k (Whole route body) why → IsAskedReason w q older (Whole route body) why
  asked_reason BadVerify is = (restored k, walk_before, is)
  asked_reason BadPacket is = other_reason BadPacket is
  asked_reason UnknownEnd is = other_reason UnknownEnd is
  asked_reason WrongTurn is = other_reason WrongTurn is
  asked_reason BadRequest is = other_reason BadRequest is
  asked_reason BadReply is = other_reason BadReply is
  asked_reason BadRecord is = other_reason BadRecord is
