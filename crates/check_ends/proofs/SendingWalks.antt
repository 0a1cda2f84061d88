-- What is reported of a request and of an answer while a large request is sent, in terms of walks.
use Rattle.std.proofs.Common.{◌≡◌, ◌∙◌, ◌==◌, ◌||◌, ℕ, List, ◌∷◌, sym, ap, subst, drop, Bool, true, false, cond, Some, inl, inr}
use Rattle.mctp_framing.specs.Cutting.{RouteFields}
use Rattle.mctp_framing.specs.Gathering.{Gathered}
use Rattle.mctp_framing.specs.Gathering.Gathered.{Whole}
use Rattle.requester_machine.specs.History.{History}
use Rattle.requester_machine.specs.May.{IsSetUp}
use Rattle.requester_machine.specs.Named.{session_named}
use Rattle.requester_machine.specs.Setup.{ReqSetup}
use Rattle.spdm_machine.specs.Packets.{body_type}
use Rattle.check_laws.proofs.KeptParts.{none_later}
use Rattle.check_laws.proofs.PairWalks.{walks_setup}
use Rattle.check_laws.specs.Keeping.{Keeps, Kept}
use Rattle.check_laws.specs.Order.{asks_wrong}
use Rattle.check_laws.specs.ReasonsEach.{IsAskedReason}
use Rattle.check_laws.specs.Walks.{Walks}
use Rattle.check_ends.proofs.InTurn.{AsksInTurn}
use Rattle.check_ends.specs.Conversation.{IsRequest, NoneGoesOn, meanwhile}
use Rattle.check_laws.proofs.Large.Asked.{sending_ends}
use Rattle.check_laws.proofs.Large.AskedOn.{sending_asks, sending_is_asked}
use Rattle.check_laws.proofs.Large.SendingReasons.{none_before, sending_tells_apart, sending_tells_why}
use Rattle.check_laws.specs.Large.Sending.{IsSendingOf, Sending, dialogue_of}
use Rattle.check_laws.specs.Large.SendingLaws.{AsksEnding, AsksSending, aside}
use Rattle.capture_machine.proofs.AskersStep.{unowed}
use Rattle.capture_machine.specs.CapturedRequests.{is_later, owes, without_owed}
use Rattle.capture_machine.specs.Difference.{ComesApart, Why, comes_why, request_why}
use Rattle.capture_machine.specs.Difference.Why.{BadPacket, WrongTurn, BadRequest, BadRecord}
use Rattle.capture_machine.specs.Opening.{opens_asking}
use Rattle.capture_machine.specs.Rounds.{Dialogue}
use Rattle.world_machine.specs.Setup.{Configuration}

module _ (w : Configuration) (q : ReqSetup) (older : List (List ℕ)) (s : Sending) (own : IsSendingOf w q older s) where
  -- A walk over the packets.
  abbrev pub form : Dialogue
  form = dialogue_of s own.begins.0 own.stands.0

  pub walk_form : Walks w q older form
  walk_form = (own.all own.begins.0 own.stands.0 own.begins.1 own.stands.1).0

  pub own_setup : s.before.setup ≡ q
  own_setup = walks_setup w q older form walk_form

  module _ (packet : List ℕ) (route : RouteFields) (body : List ℕ) (at : IsRequest w q older packet route body) where
    -- What it makes of what is kept, is kept after it.
    pub sent_behind : (next : Sending) → AsksSending s (Whole route body) next → IsSendingOf w q (packet ∷ older) next
    sent_behind next asks = sending_asks w q older packet at.fields s next at.parses at.comes own (subst (λ (g : Gathered). AsksSending s g next) (sym at.whole) asks)

    pub ended_behind : (next : Kept) → AsksEnding s (Whole route body) next → Keeps w q (packet ∷ older) next
    ended_behind next asks = sending_ends w q older packet at.fields s next at.parses at.comes own (subst (λ (g : Gathered). AsksEnding s g next) (sym at.whole) asks)

    -- Where it makes nothing of it, no walk goes on with it.
    pub none_sends : IsSetUp q → ((next : Sending) → AsksSending s (Whole route body) next → ⊥) → ((next : Kept) → AsksEnding s (Whole route body) next → ⊥) → NoneGoesOn w q older packet
    none_sends set_up never ends d over =
        elim (sending_is_asked w q older packet at.fields s d set_up at.parses at.comes own over) [
          | inl on ↦ never on.0 (subst (λ (g : Gathered). AsksSending s g on.0) at.whole on.1)
          | inr on ↦ ends on.0 (subst (λ (g : Gathered). AsksEnding s g on.0) at.whole on.1)
        ]

    -- ---- And why.

    -- Nothing is owed without the large request.
    bare_aside : without_owed (aside s) ≡ s.before.requester
    bare_aside =
        let none : owes (aside s) ≡ false = ap (is_later (Some s.round)) (none_before s.before own.begins.0 own.begins.1) ∙ none_later (Some s.round) in
        unowed (aside s) none

    reason_aside : (turn : AsksInTurn (meanwhile s) route body) (why : Why) → why ≡ cond (body_type body == 5 || opens_asking q (session_named s.before.requester (drop 1 body)) (drop 1 body)) BadRequest BadRecord
        → comes_why (aside s) (Whole route body) ≡ Some why
    reason_aside turn why is =
        let seen : request_why (aside s) body ≡ why =
        ap (λ (x : ReqSetup). cond (body_type body == 5 || opens_asking x (session_named (without_owed (aside s)) (drop 1 body)) (drop 1 body)) BadRequest BadRecord) own_setup
        ∙ ap (λ (h : History). cond (body_type body == 5 || opens_asking q (session_named h (drop 1 body)) (drop 1 body)) BadRequest BadRecord) bare_aside
        ∙ sym is in
        ap (λ (b : Bool). Some (cond b BadPacket (cond (asks_wrong (Some s.round) route.owner route.tag body) WrongTurn (request_why (aside s) body)))) turn.other
        ∙ ap (λ (b : Bool). Some (cond b WrongTurn (request_why (aside s) body))) turn.right
        ∙ ap Some seen

    other_reason : (why : Why) → comes_why (aside s) (Whole route body) ≡ Some why
        → (((d : Dialogue) × Walks w q older d × ComesApart d (Whole route body)) → ⊥) × ((d : Dialogue) × Walks w q older d × (comes_why d (Whole route body) ≡ Some why))
    other_reason why is = (
      λ c. (sending_tells_apart w q older s c.0 (Whole route body) own c.1).0 c.2,
      (form, walk_form, (sending_tells_why w q older s form (Whole route body) own walk_form).0 ∙ is),
    )

    pub sent_reason : AsksInTurn (meanwhile s) route body → (why : Why) → why ≡ cond (body_type body == 5 || opens_asking q (session_named s.before.requester (drop 1 body)) (drop 1 body)) BadRequest BadRecord → IsAskedReason w q older (Whole route body) why
    sent_reason turn why is = by_test (body_type body == 5 || opens_asking q (session_named s.before.requester (drop 1 body)) (drop 1 body)) is (reason_aside turn why is)
      where
        by_test : (b : Bool) → why ≡ cond b BadRequest BadRecord → comes_why (aside s) (Whole route body) ≡ Some why → IsAskedReason w q older (Whole route body) why
        by_test true same told = subst (IsAskedReason w q older (Whole route body)) (sym same) (other_reason BadRequest (told ∙ ap Some same))
        by_test false same told = subst (IsAskedReason w q older (Whole route body)) (sym same) (other_reason BadRecord (told ∙ ap Some same))
