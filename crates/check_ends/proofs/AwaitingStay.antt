-- A packet after which more of a body is awaited leaves what is kept.
use Rattle.std.proofs.Common.{◌≡◌, ◌<◌, ◌+◌, ◌⊎◌, ℕ, List, ◌∷◌, refl, sym, subst, length, true, false, Option, Some, None, Ok, inl, inr, arith}
use Rattle.mctp_framing.specs.Gathering.{Gathered}
use Rattle.mctp_framing.specs.Gathering.Gathered.{More}
use Rattle.mctp_framing.specs.Packet.{PacketFields, parsed}
use Rattle.requester_machine.specs.Setup.{ReqSetup}
use Rattle.check_ends.proofs.PartyReplied.{kept_limits}
use Rattle.check_ends.specs.Conversation.{AwaitingConversationsStay, IsUnderWay, StandsAs}
use Rattle.check_ends.specs.Party.{IsParty}
use Rattle.check_ends.specs.declared.party.Party.{Party}
use Rattle.check_laws.proofs.KeptAnswers.{kept_replies}
use Rattle.check_laws.proofs.KeptSteps.{kept_asks}
use Rattle.check_laws.proofs.RepliesTold.{replies_are_told}
use Rattle.check_laws.specs.Keeping.{AsksKept, Keeps, Kept, RepliesKept}
use Rattle.check_laws.specs.Order.{is_answer, is_request}
use Rattle.check_laws.proofs.Large.AskedOn.{sending_asks}
use Rattle.check_laws.proofs.Large.Replied.{sending_replies}
use Rattle.check_laws.specs.Large.Sending.{IsSendingOf, Sending}
use Rattle.check_laws.specs.Large.SendingLaws.{AsksSending, RepliesSending}
use Rattle.check_laws.specs.declared.sending_large.large_request.LargeRequest.{LargeRequest}
use Rattle.spdm_machine.specs.Packets.{gathered_from}
use Rattle.capture_machine.specs.SessionTable.{Row}
use Rattle.world_machine.specs.Setup.{Configuration}

module _ (w : Configuration) (q : ReqSetup) (older : List (List ℕ)) (packet : List ℕ) (p : PacketFields) (byte : w.responder.beat < 256) (parses : parsed packet ≡ Ok p) where
  Awaits : Type 0
  Awaits =
      ((is_request w.responder.eid q.eid p ≡ true) × (gathered_from w.responder.eid q.eid older p ≡ More))
      ⊎ ((is_request w.responder.eid q.eid p ≡ false) × (is_answer w.responder.eid q.eid p ≡ true) × (gathered_from q.eid w.responder.eid older p ≡ More))

  kept : (k : Kept) (party : Party) (rows : List Row) → Awaits → Keeps w q older k → IsParty party w q k rows → Keeps w q (packet ∷ older) k
  unfolding Awaits
  kept k party rows (inl c) keeps is = kept_asks w q older packet p k k parses c.0 keeps (subst (λ (g : Gathered). AsksKept k g k) (sym c.1) refl)
  kept k party rows (inr c) keeps is =
      let same : RepliesKept w k More k = (replies_are_told w q older k k More byte (kept_limits q k party.asker is.asker) keeps).1 (inl refl) in
      kept_replies w q older packet p k k parses c.0 c.1 keeps (subst (λ (g : Gathered). RepliesKept w k g k) (sym c.2) same)

  sent : (s : Sending) → Awaits → IsSendingOf w q older s → IsSendingOf w q (packet ∷ older) s
  unfolding Awaits
  sent s (inl c) own = sending_asks w q older packet p s s parses c.0 own (subst (λ (g : Gathered). AsksSending s g s) (sym c.1) refl)
  sent s (inr c) own = sending_replies w q older packet p s s parses c.0 c.1 own (subst (λ (g : Gathered). RepliesSending w s g s) (sym c.2) refl)

  way : (party : Party) (large : LargeRequest) (rows : List Row) (s : Sending) → Awaits → IsUnderWay party large w q older rows s → IsUnderWay party large w q (packet ∷ older) rows s
  way party large rows s c is = record {
    sending = sent s c is.sending;
    chunks = is.chunks;
    kept = is.kept;
    earlier = is.earlier;
    before = is.before;
    fewer = (let f = is.fewer in let l : length (packet ∷ older) ≡ length older + 1 = omega arith in omega (arith, f, l));
  }

  stay : (party : Party) (large : Option LargeRequest) (rows : List Row) → Awaits → StandsAs party large w q older rows → StandsAs party large w q (packet ∷ older) rows
  stay party None rows c stands = (stands.0, kept stands.0 party rows c stands.1 stands.2, stands.2)
  stay party (Some large) rows c stands = (stands.0, way party large rows stands.0 c stands.1)

pub awaiting_stay : AwaitingConversationsStay
unfolding Awaits
awaiting_stay seen w q older packet p rows byte parses c stands = stay w q older packet p byte parses seen.party seen.large rows c stands
