-- A request that was prepared for, and what is kept then.
use Rattle.std.proofs.Common.{◌≡◌, ◌<◌, ◌-◌, ◌^◌, List, ℕ, Option, None, length, subst, sym, arith}
use Rattle.requester_machine.specs.Setup.{ReqSetup}
use Rattle.responder_machine.specs.BoundLaws.{messages_of}
use Rattle.responder_machine.specs.History.{History}
use Rattle.responder_machine.specs.Setup.{RspSetup}
use Rattle.check_requester.proofs.CarriedBy.{keeps_carries}
use Rattle.check_ends.proofs.PartyPrepared.{same_party}
use Rattle.check_ends.proofs.PartyReplied.{few_messages}
use Rattle.check_responder.specs.AnswerKeys.{IsComing}
use Rattle.check_responder.specs.JudgedResponder.{IsAnswerer}
use Rattle.check_ends.specs.Conversation as conversations
use Rattle.check_ends.specs.Party.{IsParty}
use Rattle.check_ends.specs.declared.party.Party.{Party}
use Rattle.check_laws.specs.Keeping.{Keeps, Kept}
use Rattle.check_laws.specs.Order.{body_in}
use Rattle.check_laws.specs.RepliesShown.{responder_for}
use Rattle.check_laws.specs.declared.sending_large.large_request.LargeRequest.{LargeRequest}
use Rattle.capture_machine.specs.Rounds.{Round}
use Rattle.capture_machine.specs.SessionTable.{Row}
use Rattle.world_machine.specs.Setup.{Configuration}

-- What is had of the request of this round.
pub party_prepared : (w : Configuration) (q : ReqSetup) (older : List (List ℕ)) (k : Kept) → Keeps w q older k → length older < 2 ^ 64 - 2 → (rows : List Row) (old new : Party) (round : Option Round) (body : List ℕ) → body ≡ body_in round
    → IsParty old w q k rows → ((r : RspSetup) (h : History) → IsAnswerer old.answerer r h → messages_of h < 2 ^ 64 - 1 → IsComing new.coming r h body) → IsComing new.coming (responder_for w k) k.responder (body_in round)
party_prepared w q older k keeps below rows old new round body is party coming =
    let few : length older < 2 ^ 64 - 1 = omega (arith, below) in
    subst (λ (b : List ℕ). IsComing new.coming (responder_for w k) k.responder b) is
    (coming (responder_for w k) k.responder party.answerer (few_messages w q older k (keeps_carries w q older k keeps) few))

-- What stood for both ends where no large request is sent stands for them.
pub talk_prepared : (old new : Party) → new ≡ record old { coming = new.coming } → (large : Option LargeRequest) → large ≡ None → (w : Configuration) (q : ReqSetup) (older : List (List ℕ)) (rows : List Row)
    → conversations.StandsAs old large w q older rows → conversations.StandsAs new large w q older rows
talk_prepared old new same large none w q older rows stands =
    let there = subst (λ (o : Option LargeRequest). conversations.StandsAs old o w q older rows) none stands in
    subst (λ (o : Option LargeRequest). conversations.StandsAs new o w q older rows) (sym none) (there.0, there.1, same_party old new same w q there.0 rows there.2)
