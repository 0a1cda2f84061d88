-- Every event of a world keeps what holds of it, where nothing agrees by chance.
use Rattle.std.proofs.Common.{◌≡◌, ℕ, ◌<◌, ◌≤◌, ◌+◌, ◌^◌, List, [], ◌∷◌, ◌++◌, length, Bool, true, false, cond, nat_le, Result, Ok, Err, refl, sym, subst, arith}
use Rattle.std.proofs.lemmas.Bool.{leb-false}
use Rattle.hmac_hkdf.specs.Hmac.{hmac}
use Rattle.hmac_hkdf.specs.Draw.{draw}
use Rattle.mctp_framing.specs.Gathering.{Gathered}
use Rattle.mctp_framing.specs.Gathering.Gathered.{Whole, More, Dropped}
use Rattle.mctp_framing.specs.Packet.{PacketFields, parsed}
use Rattle.requester_machine.specs.Asking as asking
use Rattle.requester_machine.specs.Does.{requester_asks, requester_hears}
use Rattle.requester_machine.specs.Does as asking_made
use Rattle.requester_machine.specs.History as asked
use Rattle.requester_machine.specs.Message.{Command}
use Rattle.requester_machine.specs.RequesterLog as asked_log
use Rattle.requester_machine.specs.Shown as asked_shown
use Rattle.sha2.proofs.Facts256.{length-sha256}
use Rattle.spdm_basis.specs.declared.PacketFault.{PacketFault}
use Rattle.responder_machine.specs.History as served
use Rattle.responder_machine.specs.History.{History, queue_of}
use Rattle.responder_machine.specs.History.Entry.{Queued, Ticked}
use Rattle.spdm_machine.specs.Keys.{draw_of}
use Rattle.responder_machine.specs.Setup.{RspSetup}
use Rattle.requester_machine.specs.Setup.{ReqSetup}
use Rattle.spdm_machine.specs.TagLog.{Act}
use Rattle.world_machine.specs.Chance.{NoChance}
use Rattle.spdm_machine.specs.Packets.{gathered_from, wear_limit}
use Rattle.requester_machine.specs.Requesting as requesting
use Rattle.requester_machine.specs.Requesting.{Requesting, CommandStep, PacketStep, requester_told, requester_given}
use Rattle.responder_machine.specs.Responding.{Connection}
use Rattle.world_machine.specs.World.{World, SentPacket, with_requester}
use Rattle.requester_machine.proofs.Making.{asks_made, hears_made}
use Rattle.spdm_agreement.proofs.Worlds.Fits.{IsPair, Fits}
use Rattle.spdm_machine.proofs.Members.{IsIn}
use Rattle.spdm_agreement.proofs.Worlds.EndSteps.{IsDraw, AskedReady, AskedStep, AsksWell, HearsWell}
use Rattle.spdm_agreement.proofs.Worlds.Pairs.{state_of}
use Rattle.spdm_agreement.proofs.Worlds.RequesterChanges as requester_changes
use Rattle.spdm_agreement.proofs.Worlds.RequesterChanges.{renewed, requester_goes}
use Rattle.spdm_agreement.specs.Story.{Past}

-- ---- Draws.

pub draw_length : (seed : List ℕ) (number : ℕ) → length (draw seed number) ≡ 32
unfolding hmac
draw_length seed number = length-sha256 _

pub good_draw : (seed : List ℕ) (number : ℕ) → number < 2 ^ 64 → IsDraw (draw_of seed number)
good_draw seed number less = record { number = less; bytes = draw_length seed number }

-- A number below the limit of wear after the first one.
pub below : (first wear n m : ℕ) → first + wear ≤ 2 ^ 64 → n ≤ m → nat_le wear m ≡ false → first + n < 2 ^ 64
below first wear n m all few fresh = (let less : m < wear = leb-false wear m fresh in omega arith)

module _ (prior : Past) (KeptAsked : ReqSetup → asked.History → Type 0) (KeptServed : RspSetup → served.History → Type 0) (world : World) (k : Fits prior KeptAsked KeptServed world) (asks_well : AsksWell prior KeptAsked) (hears_well : HearsWell prior KeptAsked) where
  -- ---- A requester.

  -- A requester may go on like this.
  abbrev Goes : List Act → Requesting → Type 0
  Goes acts after = (sent : List SentPacket) → NoChance (acts ++ world.log)
      → Fits prior KeptAsked KeptServed (record { requesters = with_requester after world.requesters; responder = world.responder; sent = sent; log = acts ++ world.log })

  -- Nothing but its counts changes.
  rests : (a : Requesting) → IsIn world.requesters a → (given : List (List ℕ)) (commands : ℕ) → a.commands ≤ commands → Goes [] (renewed a given commands a.history)
  rests a is given commands more sent n =
      let old = k.asks a is in
      let wear = old.wear in
      requester_goes prior KeptAsked KeptServed world k a is given commands a.history [] n sent
      (record { setup = old.setup; made = old.made; kept = old.kept; fresh = old.fresh; draws = old.draws; wear = omega arith })
      (λ x pair. ([], tt, refl))

  ready : (a : Requesting) (x : Connection) → IsPair world.requesters world.responder.connections a x → requesting.is_worn a ≡ false
      → AskedReady prior KeptAsked a.setup a.history (state_of prior a x world.log).served world.log (requesting.next_draw a)
  unfolding requesting.next_draw
  ready a x pair fresh =
      let old = k.asks a pair.requester in
      let wear = old.wear in
      record {
        setup = old.setup;
        made = old.made;
        kept = old.kept;
        reached = k.pairs a x pair;
        fresh = old.fresh;
        draw = good_draw a.seed (a.first + asked.draws_of a.setup a.history)
            (below a.first wear_limit (asked.draws_of a.setup a.history) (length a.given + a.commands) old.draws (omega arith) fresh);
      }

  draw_number : (a : Requesting) → (requesting.next_draw a).number ≡ a.first + asked.draws_of a.setup a.history
  unfolding requesting.next_draw
  draw_number a = refl

  -- It goes on by an outcome that is a run of moves.
  goes_by : (a : Requesting) (is : IsIn world.requesters a) (given : List (List ℕ)) (commands : ℕ) (body : List ℕ) (o : asking.Outcome)
      → asking_made.IsMade a.setup (asked_shown.after a.history o) → asked.draws_of a.setup (asked_shown.after a.history o) ≤ commands
      → ((x : Connection) → IsPair world.requesters world.responder.connections a x → AskedStep prior KeptAsked a.setup a.history (state_of prior a x world.log).served world.log body (requesting.next_draw a) o)
      → Goes (asked_log.acts_of a.setup a.history body o) (renewed a given commands (asked_shown.after a.history o))
  goes_by a is given commands body o made wear steps sent n =
      let old = k.asks a is in
      let x = k.apart.served a is in
      let pair : IsPair world.requesters world.responder.connections a x.0 = record { requester = is; connection = x.1; peer = x.2 } in
      let step = steps x.0 pair in
      let runs = λ (y : Connection) (its : IsPair world.requesters world.responder.connections a y). (steps y its).leads in
      let draws = step.draws in
      let number = draw_number a in
      requester_goes prior KeptAsked KeptServed world k a is given commands (asked_shown.after a.history o) (asked_log.acts_of a.setup a.history body o) n sent
      (record {
        setup = old.setup;
        made = made;
        kept = step.keeps (requester_changes.now_reached prior KeptAsked KeptServed world k a is given commands (asked_shown.after a.history o) (asked_log.acts_of a.setup a.history body o) n runs x.0 pair);
        fresh = omega arith;
        draws = old.draws;
        wear = wear;
      })
      runs

  told_by : (a : Requesting) (is : IsIn world.requesters a) (command : Command) (worn : Bool) → requesting.is_worn a ≡ worn
      → (s : CommandStep) → s ≡ cond worn (requesting.worn_command a (requester_asks true a.setup a.history command (requesting.next_draw a))) (requesting.commanded_by a (requester_asks false a.setup a.history command (requesting.next_draw a)))
      → Goes s.acts s.after
  told_by a is command true e s same = subst (λ (x : CommandStep). Goes x.acts x.after) (sym same) (rests a is a.given a.commands (omega arith))
  told_by a is command false e s same =
      let made = asks_made a.setup a.history command (requesting.next_draw a) (k.asks a is).made in
      let most = made.most in
      let wear = (k.asks a is).wear in
      subst (λ (x : CommandStep). Goes x.acts x.after) (sym same)
      (goes_by a is a.given (a.commands + 1) [] (requester_asks false a.setup a.history command (requesting.next_draw a)) made.made (omega arith)
      (λ x pair. asks_well a.setup a.history (state_of prior a x world.log).served world.log command (requesting.next_draw a) (ready a x pair e)))

  pub told_goes : (a : Requesting) → IsIn world.requesters a → (command : Command) → Goes (requester_told a command).acts (requester_told a command).after
  unfolding requester_told
  told_goes a is command = told_by a is command (requesting.is_worn a) refl (requester_told a command) refl

  abbrev GoesOn : PacketStep → Type 0
  GoesOn s = Goes s.acts s.after

  gathered_goes : (a : Requesting) (is : IsIn world.requesters a) (packet : List ℕ) (g : Gathered) → requesting.is_worn a ≡ false → GoesOn (requesting.hears_gathered a packet g)
  gathered_goes a is packet (Whole route body) e =
      let made = hears_made a.setup a.history route.owner route.tag body (requesting.next_draw a) (k.asks a is).made in
      let same = made.same in
      let wear = (k.asks a is).wear in
      goes_by a is (packet ∷ a.given) a.commands body (requester_hears a.setup a.history route.owner route.tag body (requesting.next_draw a)) made.made (omega arith)
      (λ x pair. hears_well a.setup a.history (state_of prior a x world.log).served world.log route.owner route.tag body (requesting.next_draw a) (ready a x pair e))
  gathered_goes a is packet More e = rests a is (packet ∷ a.given) a.commands (omega arith)
  gathered_goes a is packet (Dropped cause) e = rests a is (packet ∷ a.given) a.commands (omega arith)

  parsed_goes : (a : Requesting) (is : IsIn world.requesters a) (packet : List ℕ) (p : Result PacketFields PacketFault) → requesting.is_worn a ≡ false → GoesOn (requesting.hears_packet a packet p)
  parsed_goes a is packet (Err fault) e = rests a is (packet ∷ a.given) a.commands (omega arith)
  parsed_goes a is packet (Ok fields) e = gathered_goes a is packet (gathered_from a.setup.eid a.setup.responder a.given fields) e

  given_by : (a : Requesting) (is : IsIn world.requesters a) (packet : List ℕ) (worn : Bool) → requesting.is_worn a ≡ worn → GoesOn (cond worn (requesting.worn_step a) (requesting.hears_packet a packet (parsed packet)))
  given_by a is packet true e = rests a is a.given a.commands (omega arith)
  given_by a is packet false e = parsed_goes a is packet (parsed packet) e

  pub given_goes : (a : Requesting) → IsIn world.requesters a → (packet : List ℕ) → Goes (requester_given a packet).acts (requester_given a packet).after
  unfolding requester_given
  given_goes a is packet = given_by a is packet (requesting.is_worn a) refl
