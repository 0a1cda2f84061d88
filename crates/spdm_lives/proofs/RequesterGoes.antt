-- Whatever a requester of a life does keeps what is kept of the life.
use Rattle.std.proofs.Common.{◌≡◌, ℕ, ◌≤◌, ◌<◌, ◌+◌, List, [], ◌∷◌, ◌++◌, length, Bool, true, false, cond, Result, Ok, Err, refl, sym, subst, arith}
use Rattle.std.proofs.lemmas.Bool.{leb-false}
use Rattle.mctp_framing.specs.Gathering.{Gathered}
use Rattle.mctp_framing.specs.Gathering.Gathered.{Whole, More, Dropped}
use Rattle.mctp_framing.specs.Packet.{PacketFields, parsed}
use Rattle.requester_machine.proofs.Making.{asks_made, hears_made}
use Rattle.requester_machine.specs.Asking as asking
use Rattle.requester_machine.specs.Does as asks
use Rattle.requester_machine.specs.Does.{requester_asks, requester_hears, command_chosen, body_chosen}
use Rattle.requester_machine.specs.History as asked
use Rattle.requester_machine.specs.History.Entry.{Told, TookClear, TookRecord}
use Rattle.requester_machine.specs.Message.{Command, Sent}
use Rattle.requester_machine.specs.RequesterLog as asked_log
use Rattle.requester_machine.specs.Requesting as requesting
use Rattle.requester_machine.specs.Requesting.{Requesting, CommandStep, PacketStep, new_requesting, requester_told, requester_given}
use Rattle.requester_machine.specs.Setup.{ReqSetup}
use Rattle.requester_machine.specs.Shown as asked_shown
use Rattle.spdm_agreement.proofs.Requester.Entries.{told_draw, no_command_heard}
use Rattle.spdm_agreement.proofs.Worlds.Happens.{good_draw}
use Rattle.spdm_agreement.proofs.Worlds.RequesterChanges.{renewed}
use Rattle.spdm_agreement.specs.Story.{asked_marks}
use Rattle.spdm_basis.specs.declared.PacketFault.{PacketFault}
use Rattle.key_schedule.specs.Purpose.{Purpose}
use Rattle.spdm_agreement.specs.Marks.{Asked}
use Rattle.spdm_lives.proofs.Checks.{AllFor, IsAsked, asked_later, asked_checks}
use Rattle.spdm_lives.proofs.LifeKept.{IsLife, IsAsking, Asks, asked_grow, requester_life}
use Rattle.spdm_lives.proofs.RequesterDraws as requester_draws
use Rattle.spdm_lives.proofs.RequesterDraws.{IsOfLife}
use Rattle.spdm_machine.proofs.Members.{IsIn}
use Rattle.spdm_machine.specs.Keys.{Draw}
use Rattle.spdm_machine.specs.Packets.{gathered_from, wear_limit}
use Rattle.spdm_machine.specs.TagLog.{Log}
use Rattle.world_machine.specs.Setup.{WorldSetup}
use Rattle.world_machine.specs.World.{World, SentPacket, given, with_requester}

-- Its history stays one of the life, where a command that is done stands with a draw of it.
told_life : (first : ℕ) (h : asked.History) (o : asking.Outcome) → ((c : Command) (x : Sent) (d : Draw) → o ≡ asking.Outcome.Adds (Told c x d) → IsOfLife first d) → requester_draws.AreOfLife first h → requester_draws.AreOfLife first (asked_shown.after h o)
told_life first h (asking.Outcome.Fails fault) new k = k
told_life first h (asking.Outcome.Ignores cause) new k = k
told_life first h (asking.Outcome.Warns code) new k = k
told_life first h (asking.Outcome.Resends sent) new k = k
told_life first h (asking.Outcome.Adds (Told c x d)) new k = (new c x d refl, k)
told_life first h (asking.Outcome.Adds (TookClear tag m led d)) new k = k
told_life first h (asking.Outcome.Adds (TookRecord tag id sealed inner led d)) new k = k

none_compared : (Here : Purpose → Type 0) → AllFor Here []
none_compared Here = record { all = λ p i x. absurd x }

later_checks : (q : ReqSetup) (new old all : List Asked) (acts : Log) → all ≡ new ++ old → AllFor (IsAsked q old) acts → AllFor (IsAsked q all) acts
later_checks q new old all acts is f = record { all = λ p i x. subst (λ (m : List Asked). IsAsked q m p) (sym is) (asked_later q new old p (f.all p i x)) }

next_of_life : (a : Requesting) → IsAsking a → requesting.is_worn a ≡ false → IsOfLife a.first (requesting.next_draw a)
unfolding requesting.next_draw
next_of_life a k fresh =
    let wear = k.wear in
    let draws = k.draws in
    let used = asked.draws_of a.setup a.history in
    let all : length a.given + a.commands < wear_limit = leb-false wear_limit (length a.given + a.commands) fresh in
    let less : used < wear_limit = omega arith in
    record {
      draw = good_draw a.seed (a.first + used) (omega arith);
      low = omega arith;
      high = omega arith;
    }

-- It goes on with nothing but its counts changed.
rests : (a : Requesting) → IsAsking a → (given : List (List ℕ)) (commands : ℕ) → a.commands ≤ commands → commands ≤ wear_limit → Asks a [] given commands a.history
rests a k given commands more few = record {
  well = record { setup = k.setup; made = k.made; life = k.life; wear = (let l = k.wear in omega arith); few = few; draws = k.draws };
  later = ([], refl);
  checks = none_compared _;
}

-- It goes on by an outcome.
goes_by : (a : Requesting) → IsAsking a → (given : List (List ℕ)) (commands : ℕ) (body : List ℕ) (o : asking.Outcome) → asks.IsMade a.setup (asked_shown.after a.history o) → asked.draws_of a.setup (asked_shown.after a.history o) ≤ commands → commands ≤ wear_limit
    → ((c : Command) (x : Sent) (d : Draw) → o ≡ asking.Outcome.Adds (Told c x d) → IsOfLife a.first d) → Asks a (asked_log.acts_of a.setup a.history body o) given commands (asked_shown.after a.history o)
goes_by a k given commands body o made wear few new =
    let grown = asked_grow a.setup a.history o in
    record {
      well = record { setup = k.setup; made = made; life = told_life a.first a.history o new k.life; wear = wear; few = few; draws = k.draws };
      later = grown;
      checks = later_checks a.setup grown.0 (asked_marks a.setup a.history) (asked_marks a.setup (asked_shown.after a.history o)) _ grown.1 (asked_checks a.setup a.history k.made body o);
    }

module _ (w : WorldSetup) (world : World) (k : IsLife w world) where
  -- A requester may go on like this.
  abbrev Goes : Log → Requesting → Type 0
  Goes acts later = (sent : List SentPacket) → IsLife w (record { requesters = with_requester later world.requesters; responder = world.responder; sent = sent; log = acts ++ world.log })

  few_commands : (a : Requesting) → requesting.is_worn a ≡ false → a.commands + 1 ≤ wear_limit
  few_commands a fresh = (let all : length a.given + a.commands < wear_limit = leb-false wear_limit (length a.given + a.commands) fresh in omega arith)

  told_by : (a : Requesting) → IsIn world.requesters a → (command : Command) (worn : Bool) → requesting.is_worn a ≡ worn
      → (s : CommandStep) → s ≡ cond worn (requesting.worn_command a (requester_asks true a.setup a.history command (requesting.next_draw a))) (requesting.commanded_by a (requester_asks false a.setup a.history command (requesting.next_draw a)))
      → Goes s.acts s.after
  told_by a is command true e s same =
      subst (λ (x : CommandStep). Goes x.acts x.after) (sym same) (requester_life w world k a is [] a.given a.commands a.history (rests a (k.asks a is) a.given a.commands (omega arith) (k.asks a is).few))
  told_by a is command false e s same =
      let old = k.asks a is in
      let made = asks_made a.setup a.history command (requesting.next_draw a) old.made in
      let most = made.most in
      let wear = old.wear in
      subst (λ (x : CommandStep). Goes x.acts x.after) (sym same)
      (requester_life w world k a is _ a.given (a.commands + 1) _
      (goes_by a old a.given (a.commands + 1) [] (requester_asks false a.setup a.history command (requesting.next_draw a)) made.made (omega arith) (few_commands a e)
      (λ c x d is. subst (IsOfLife a.first) (told_draw false a.setup a.history command c (command_chosen a.setup a.history (requesting.next_draw a)) (requesting.next_draw a) d x is) (next_of_life a old e))))

  pub told_goes : (a : Requesting) → IsIn world.requesters a → (command : Command) → Goes (requester_told a command).acts (requester_told a command).after
  unfolding requester_told
  told_goes a is command = told_by a is command (requesting.is_worn a) refl (requester_told a command) refl

  abbrev GoesOn : PacketStep → Type 0
  GoesOn s = Goes s.acts s.after

  rests_on : (a : Requesting) → IsIn world.requesters a → (given : List (List ℕ)) → Goes [] (renewed a given a.commands a.history)
  rests_on a is given = requester_life w world k a is [] given a.commands a.history (rests a (k.asks a is) given a.commands (omega arith) (k.asks a is).few)

  gathered_goes : (a : Requesting) → IsIn world.requesters a → (packet : List ℕ) (g : Gathered) → GoesOn (requesting.hears_gathered a packet g)
  gathered_goes a is packet (Whole route body) =
      let old = k.asks a is in
      let made = hears_made a.setup a.history route.owner route.tag body (requesting.next_draw a) old.made in
      let same = made.same in
      let wear = old.wear in
      requester_life w world k a is _ (packet ∷ a.given) a.commands _
      (goes_by a old (packet ∷ a.given) a.commands body (requester_hears a.setup a.history route.owner route.tag body (requesting.next_draw a)) made.made (omega arith) old.few
      (λ c x d is. absurd (no_command_heard a.setup a.history route.owner route.tag body (body_chosen a.setup a.history (requesting.next_draw a)) c x (requesting.next_draw a) d is)))
  gathered_goes a is packet More = rests_on a is (packet ∷ a.given)
  gathered_goes a is packet (Dropped cause) = rests_on a is (packet ∷ a.given)

  parsed_goes : (a : Requesting) → IsIn world.requesters a → (packet : List ℕ) (p : Result PacketFields PacketFault) → GoesOn (requesting.hears_packet a packet p)
  parsed_goes a is packet (Err fault) = rests_on a is (packet ∷ a.given)
  parsed_goes a is packet (Ok fields) = gathered_goes a is packet (gathered_from a.setup.eid a.setup.responder a.given fields)

  given_by : (a : Requesting) → IsIn world.requesters a → (packet : List ℕ) (worn : Bool) → GoesOn (cond worn (requesting.worn_step a) (requesting.hears_packet a packet (parsed packet)))
  given_by a is packet true = rests_on a is a.given
  given_by a is packet false = parsed_goes a is packet (parsed packet)

  pub given_goes : (a : Requesting) → IsIn world.requesters a → (packet : List ℕ) → Goes (requester_given a packet).acts (requester_given a packet).after
  unfolding requester_given
  given_goes a is packet = given_by a is packet (requesting.is_worn a)
