-- What every world keeps, in which nothing agrees by chance.
use Rattle.std.proofs.Common.{◌≡◌, ◌≢◌, ℕ, ◌≤◌, ◌+◌, ◌^◌, List, length, sym, ap, ◌∙◌}
use Rattle.key_schedule.specs.Purpose.{Purpose}
use Rattle.requester_machine.specs.Does as asking
use Rattle.requester_machine.specs.History as asked
use Rattle.responder_machine.specs.Does as serving
use Rattle.responder_machine.specs.History as served
use Rattle.responder_machine.specs.Setup.{RspSetup}
use Rattle.requester_machine.specs.Setup.{ReqSetup}
use Rattle.world_machine.specs.Agreement.{IsMade}
use Rattle.world_machine.specs.Chance.{NoChance}
use Rattle.requester_machine.specs.Requesting.{Requesting}
use Rattle.responder_machine.specs.Responding.{Connection, all_draws}
use Rattle.spdm_machine.specs.Packets.{wear_limit}
use Rattle.world_machine.specs.World.{World}
use Rattle.spdm_agreement.specs.Claims.{IsReached}
use Rattle.spdm_agreement.specs.Configured.{IsRequester, IsResponder}
use Rattle.spdm_agreement.specs.Marks.{Asked, Served, next_asked, next_served}
use Rattle.spdm_agreement.specs.Moves.{State}
use Rattle.spdm_agreement.specs.Reading.{Reading}
use Rattle.spdm_agreement.specs.Story.{Past, asked_from, served_from}
use Rattle.responder_machine.proofs.Connected.{PeersDiffer}
use Rattle.spdm_agreement.proofs.Moves.Foreign.{Leads, join, theirs}
use Rattle.spdm_machine.proofs.Members.{IsIn}
use Rattle.spdm_agreement.proofs.Worlds.EndSteps.{OwnLeads}
use Rattle.spdm_agreement.proofs.Worlds.Pairs.{state_of}
use Rattle.spdm_agreement.proofs.Messages.Beginnings.{reading_of}

-- What keeps the ends of a world apart: the set-up alone decides it.
pub record Apart (rs : List Requesting) (cs : List Connection) : Type 0 where
  pub eids : (a b : Requesting) → IsIn rs a → IsIn rs b → a.setup.eid ≡ b.setup.eid → a ≡ b
  pub keys : (a b : Requesting) → IsIn rs a → IsIn rs b → a.setup.psk ≡ b.setup.psk → a.setup.eid ≡ b.setup.eid
  pub peers : PeersDiffer cs
  pub paired : (c : Connection) → IsIn cs c → (a : Requesting) × IsIn rs a × (c.setup.peer ≡ a.setup.eid) × (c.setup.psk ≡ a.setup.psk)
  pub served : (a : Requesting) → IsIn rs a → (c : Connection) × IsIn cs c × (c.setup.peer ≡ a.setup.eid)

-- The two are ends of one pre-shared key.
pub record IsPair (rs : List Requesting) (cs : List Connection) (a : Requesting) (c : Connection) : Type 0 where
  pub requester : IsIn rs a
  pub connection : IsIn cs c
  pub peer : c.setup.peer ≡ a.setup.eid

pub same_requester : (rs : List Requesting) (cs : List Connection) → Apart rs cs → (a b : Requesting) → IsIn rs a → IsIn rs b → a.setup.eid ≡ b.setup.eid → a ≡ b
same_requester rs cs apart a b m n e = apart.eids a b m n e

pub same_key : (rs : List Requesting) (cs : List Connection) → Apart rs cs → (a : Requesting) (c : Connection) → IsPair rs cs a c → c.setup.psk ≡ a.setup.psk
same_key rs cs apart a c pair =
    let b = apart.paired c pair.connection in
    b.3 ∙ ap (λ (x : Requesting). x.setup.psk) (same_requester rs cs apart b.0 a b.1 pair.requester (sym b.2 ∙ pair.peer))

-- The laws below stand over whatever is kept of histories.
module _ (prior : Past) (KeptAsked : ReqSetup → asked.History → Type 0) (KeptServed : RspSetup → served.History → Type 0) where
  pub record IsAsking (a : Requesting) : Type 0 where
    pub setup : IsRequester a.setup
    pub made : asking.IsMade a.setup a.history
    pub kept : KeptAsked a.setup a.history
    pub fresh : next_asked (asked_from prior a.setup a.history) ≤ a.first + asked.draws_of a.setup a.history
    pub draws : a.first + wear_limit ≤ 2 ^ 64
    pub wear : asked.draws_of a.setup a.history ≤ a.commands

  pub record IsServing (next : ℕ) (c : Connection) : Type 0 where
    pub setup : IsResponder c.setup
    pub made : serving.IsMade c.setup c.history
    pub kept : KeptServed c.setup c.history
    pub fresh : next_served (reading_of c.setup.psk) (served_from prior c.setup c.history) ≤ next

  pub record Fits (world : World) : Type 0 where
    pub apart : Apart world.requesters world.responder.connections
    pub asks : (a : Requesting) → IsIn world.requesters a → IsAsking a
    pub serves : (c : Connection) → IsIn world.responder.connections c → IsServing (world.responder.first + all_draws world.responder.connections) c
    pub wear : all_draws world.responder.connections ≤ length world.responder.given
    pub draws : world.responder.first + wear_limit ≤ 2 ^ 64
    pub owned : (p : Purpose) (i : List ℕ) → IsMade p i world.log → (a : Requesting) × IsIn world.requesters a × (p.psk ≡ a.setup.psk)
    pub pairs : (a : Requesting) (c : Connection) → IsPair world.requesters world.responder.connections a c → IsReached (reading_of a.setup.psk) (state_of prior a c world.log)

-- ---- Steps that lead on.

pub reach : (r : Reading) (s z : State) → IsReached r s → Leads r s z → NoChance z.log → IsReached r z
reach r s z k l n =
    let m = join r _ s z (k.moves, k.run) l in
    record { moves = m.0; run = m.1; no_chance = n }

pub own_reach : (r : Reading) (s z : State) → IsReached r s → OwnLeads r s z → NoChance z.log → IsReached r z
own_reach r s z k l n = reach r s z k (l.0, l.2) n

-- A run of one key reaches, with the marks of another key, the same log.
pub others_reach : (r other : Reading) (s z : State) (asked : List Asked) (served : List Served) → r.psk ≢ other.psk → OwnLeads r s z
    → IsReached other (record { asked = asked; served = served; log = s.log }) → NoChance z.log → IsReached other (record { asked = asked; served = served; log = z.log })
others_reach r other s z asked served apart l k n = reach other _ _ k (theirs r other asked served apart l.0 s z l.1 l.2) n
