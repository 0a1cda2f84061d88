-- Why a packet is refused: by the order, or by the walks of its requester.
use Rattle.std.proofs.Common.{◌≡◌, ℕ, List, ◌∷◌, subst, true, Some}
use Rattle.mctp_framing.specs.Gathering.{Gathered}
use Rattle.mctp_framing.specs.Packet.{PacketFields}
use Rattle.requester_machine.specs.Setup.{ReqSetup}
use Rattle.spdm_machine.specs.Packets.{gathered_from}
use Rattle.check_ends.specs.Conversation.{NoneGoesOn}
use Rattle.check_laws.proofs.Alone.{order_is_reason}
use Rattle.check_laws.proofs.Reasons.{order_refuses}
use Rattle.check_laws.proofs.ReasonsEach.{answered_reason_is_each, asked_reason_is_each}
use Rattle.check_laws.specs.Order.{is_answer, is_request, order_why}
use Rattle.check_laws.specs.ReasonsEach.{IsAnsweredReason, IsAskedReason}
use Rattle.trace_check.proofs.Walked.{have_walks, no_walk_leads}
use Rattle.trace_check.specs.JudgedPair.{ComesBehind, IsRefused}
use Rattle.capture_machine.proofs.Captures.{leads_too}
use Rattle.capture_machine.specs.Difference.{Why}
use Rattle.capture_machine.specs.Rounds.{Dialogue}
use Rattle.capture_machine.specs.SessionTable.{LeadsShowing, Row}
use Rattle.world_machine.specs.Setup.{Configuration}

-- ---- By the order.

pub order_refused : (w : Configuration) (older : List (List ℕ)) (rows : List Row) (packet : List ℕ) (why : Why) (ds : List Dialogue) → LeadsShowing w older ds rows → order_why w older packet ≡ Some why → IsRefused w older packet why
order_refused w older rows packet why ds shows is =
    (order_refuses w older packet why is, order_is_reason w older packet ds why (leads_too w older ds rows shows) is)

-- ---- By the walks.

module _ (w : Configuration) (q : ReqSetup) (older : List (List ℕ)) (rows : List Row) (packet : List ℕ) (p : PacketFields) (before : ComesBehind w q older rows packet p) (why : Why) (none : NoneGoesOn w q older packet) where
  -- A request.
  pub request_refused : is_request w.responder.eid q.eid p ≡ true → (g : Gathered) → g ≡ gathered_from w.responder.eid q.eid older p → IsAskedReason w q older g why → IsRefused w older packet why
  request_refused is g gives reason =
      let ds = before.shows.0 in
      let have = have_walks w older ds before.sound.apart (leads_too w older ds rows before.shows.1) in (
        no_walk_leads w q (packet ∷ older) before.sound.apart before.known none,
        (asked_reason_is_each w q older packet p why before.sound.apart before.known have.0 have.1 before.parses is).1 (subst (λ (x : Gathered). IsAskedReason w q older x why) gives reason),
      )

  -- An answer.
  pub answer_refused : is_answer w.responder.eid q.eid p ≡ true → (g : Gathered) → g ≡ gathered_from q.eid w.responder.eid older p → IsAnsweredReason w q older g why → IsRefused w older packet why
  answer_refused is g gives reason =
      let ds = before.shows.0 in
      let have = have_walks w older ds before.sound.apart (leads_too w older ds rows before.shows.1) in (
        no_walk_leads w q (packet ∷ older) before.sound.apart before.known none,
        (answered_reason_is_each w q older packet p why before.sound.apart before.known have.0 have.1 before.parses is).1 (subst (λ (x : Gathered). IsAnsweredReason w q older x why) gives reason),
      )
