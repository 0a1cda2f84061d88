-- All events of a world, and what follows of it for the two ends of each pair.
use Rattle.std.proofs.Common.{◌≡◌, ℕ, zero, suc, ◌==◌, List, [], ◌∷◌, length, Bool, true, false, cond, nat_lt, Option, Some, None, find, slice_index, refl, sym, inl, inr}
use Rattle.requester_machine.specs.History as asked
use Rattle.requester_machine.specs.Message.{Command}
use Rattle.responder_machine.specs.History as served
use Rattle.responder_machine.specs.Setup.{RspSetup}
use Rattle.requester_machine.specs.Setup.{ReqSetup}
use Rattle.world_machine.proofs.Logs.{no_chance_before}
use Rattle.world_machine.specs.Agreement.{Agreement, HashesAgree, Matched, SealedOnce, ArePair}
use Rattle.world_machine.specs.Chance.{NoChance}
use Rattle.world_machine.specs.Happenings.{Happening, Entry}
use Rattle.world_machine.specs.Happenings.Happening.{Told, Reply, Deliver, Lose, Inject, Pump, Tick, Show}
use Rattle.requester_machine.specs.Requesting.{Requesting, requester_told, requester_given}
use Rattle.responder_machine.specs.Responding.{Connection, responder_hears, connection_of}
use Rattle.world_machine.specs.Setup.{WorldSetup}
use Rattle.world_machine.specs.Trace.{world_from, world_after}
use Rattle.world_machine.specs.World.{World, WorldStep, told, given, given_to, given_to_responder, delivers, loses, without_waiting, stopped_of, with_sent, packet_of, turn, pumps, first_waiting, replied, requester_of, requester_at, is_at, happens, entry_step}
use Rattle.spdm_agreement.specs.Configured.{IsConfigured}
use Rattle.spdm_agreement.specs.Worlds.{WorldsAgree, WorldsMatch, WorldsSealOnce, WorldsShowAlike}
use Rattle.spdm_agreement.proofs.Worlds.ResponderEvents as answers
use Rattle.spdm_agreement.proofs.Requester.OpenSessions.{asked_stands}
use Rattle.spdm_agreement.proofs.Worlds.Fits.{IsPair, Fits}
use Rattle.spdm_agreement.proofs.Worlds.Happens as asks
use Rattle.spdm_machine.proofs.Members.{IsIn, in_contained, found_in, some_same, none_some}
use Rattle.spdm_agreement.proofs.Worlds.EndSteps.{AsksWell, HearsWell, AskedStarts, AskedSteady, DoesWell, ServedStarts, Waits}
use Rattle.spdm_agreement.proofs.Worlds.Pairs.{OpensNew, Stands, one, matched, once, hashes}
use Rattle.spdm_agreement.proofs.Responder.OpenSessions.{served_stands}
use Rattle.spdm_agreement.proofs.Worlds.Starts.{MayBegin, begun, may_begin, starts}
use Rattle.spdm_agreement.proofs.Responder.FinishPlace.{made_steady}
use Rattle.spdm_agreement.specs.Story.{Past, no_past}

-- The requester of a number is one of the world's.
pub found_at : (place : ℕ) (rs : List Requesting) (a : Requesting) → requester_at place rs ≡ Some a → IsIn rs a
found_at place [] a is = absurd (none_some a is)
found_at zero (b ∷ others) a is = inl (sym (some_same b a is))
found_at (suc place) (b ∷ others) a is = inr (found_at place others a is)

pub requester_in : (n : ℕ) (world : World) (a : Requesting) → requester_of n world ≡ Some a → IsIn world.requesters a
requester_in zero world a is = absurd (none_some a is)
requester_in (suc place) world a is = found_at place world.requesters a is

-- How another crate uses this: it keeps of both histories what is kept here (`IsKept` of proofs/Requester/Whole.antt and of
-- proofs/Responder/DataAnswered.antt) and a part of its own, and shows of the two together what the parameters below ask:
-- that each step of an end is a run of moves and keeps both parts. The steps are those of `asks_well`, `hears_well` and
-- `does_well` there, with the part of its own beside what they keep; `asked_steady` is `steady` of
-- proofs/Requester/AfterBody.antt. A world with nothing before it has prior = `no_past`, and then `after_fits` below tells what
-- is kept of both ends of each pair after any events. Where ends go on from an earlier life, prior is what they go on from,
-- and it is `later_good`.
module _ (prior : Past) (KeptAsked : ReqSetup → asked.History → Type 0) (KeptServed : RspSetup → served.History → Type 0)
    (asked_starts : AskedStarts KeptAsked) (asks_well : AsksWell prior KeptAsked) (hears_well : HearsWell prior KeptAsked) (asked_steady : AskedSteady)
    (served_starts : ServedStarts KeptServed) (does_well : DoesWell prior KeptServed) (waits : Waits KeptServed) where
  -- A record, so that antt finds the world that a lemma speaks of.
  pub record IsGood (world : World) : Type 0 where
    pub fits : NoChance world.log → Fits prior KeptAsked KeptServed world

  -- ---- What one event does.

  told_good : (world : World) (command : Command) → IsGood world → (o : Option Requesting) (n : ℕ) → requester_of n world ≡ o → IsGood (told world n command o).after
  told_good world command good None n is = good
  told_good world command good (Some a) n is = record {
    fits = λ chance. asks.told_goes prior KeptAsked KeptServed world (good.fits (no_chance_before (requester_told a command).acts world.log chance)) asks_well hears_well
        a (requester_in n world a is) command (with_sent world.sent (requester_told a command).sent) chance;
  }

  to_requester : (world : World) (packet : List ℕ) → IsGood world → (o : Option Requesting) (eid : ℕ) → find (is_at eid) world.requesters ≡ o → IsGood (given_to world packet o).after
  to_requester world packet good None eid is = good
  to_requester world packet good (Some a) eid is = record {
    fits = λ chance. asks.given_goes prior KeptAsked KeptServed world (good.fits (no_chance_before (requester_given a packet).acts world.log chance)) asks_well hears_well
        a (found_in (is_at eid) world.requesters a is).0 packet (with_sent world.sent (requester_given a packet).sent) chance;
  }

  to_responder : (world : World) (packet : List ℕ) → IsGood world → IsGood (given_to_responder world packet (responder_hears world.responder packet)).after
  to_responder world packet good = record {
    fits = λ chance. answers.given_goes prior KeptAsked KeptServed world (good.fits (no_chance_before (responder_hears world.responder packet).acts world.log chance)) does_well waits
        packet (with_sent world.sent (responder_hears world.responder packet).sent) chance;
  }

  either : (b : Bool) (x y : WorldStep) → IsGood x.after → IsGood y.after → IsGood (cond b x y).after
  either true x y p q = p
  either false x y p q = q

  given_good : (world : World) (packet : List ℕ) → IsGood world → IsGood (given world packet).after
  given_good world packet good =
      either (nat_lt (length packet) 2) (given_to world packet None) _ good
      (either (slice_index packet 1 == world.responder.part.eid) (given_to_responder world packet (responder_hears world.responder packet)) _ (to_responder world packet good)
      (to_requester world packet good (find (is_at (slice_index packet 1)) world.requesters) (slice_index packet 1) refl))

  stopped : (world : World) (number : ℕ) → IsGood world → IsGood (without_waiting number world)
  stopped world number good = record { fits = λ chance. answers.sent_stays prior KeptAsked KeptServed world (good.fits chance) does_well waits (stopped_of number world.sent) }

  delivers_good : (world : World) (number : ℕ) (packet : Option (List ℕ)) → IsGood world → IsGood (delivers world number packet).after
  delivers_good world number None good = good
  delivers_good world number (Some packet) good = given_good (without_waiting number world) packet (stopped world number good)

  loses_good : (world : World) (number : ℕ) (packet : Option (List ℕ)) → IsGood world → IsGood (loses world number packet).after
  loses_good world number None good = good
  loses_good world number (Some packet) good = stopped world number good

  turn_good : (world : World) (next : World → WorldStep) (number : Option ℕ) → IsGood world → ((later : World) → IsGood later → IsGood (next later).after) → IsGood (turn world next number).after
  turn_good world next None good all = good
  turn_good world next (Some number) good all = all (delivers world number (packet_of number world.sent)).after (delivers_good world number (packet_of number world.sent) good)

  pumps_good : (count : ℕ) (world : World) → IsGood world → IsGood (pumps count world).after
  unfolding pumps
  pumps_good zero world good = good
  pumps_good (suc count) world good = turn_good world (pumps count) (first_waiting world.sent) good (pumps_good count)

  replied_good : (world : World) (bytes : List ℕ) → IsGood world → (o : Option Requesting) → IsGood (replied world bytes o).after
  replied_good world bytes good None = good
  replied_good world bytes good (Some a) = record {
    fits = λ chance. answers.queues_goes prior KeptAsked KeptServed world (good.fits chance) does_well waits a.setup.eid bytes (connection_of a.setup.eid world.responder.connections) refl chance;
  }

  ticked_good : (world : World) (seconds : ℕ) → IsGood world → IsGood (happens world (Tick seconds)).after
  unfolding happens
  ticked_good world seconds good = record { fits = λ chance. answers.ticks_goes prior KeptAsked KeptServed world (good.fits chance) waits seconds }

  pub happens_good : (world : World) (event : Happening) → IsGood world → IsGood (happens world event).after
  unfolding happens
  happens_good world (Told n command) good = told_good world command good (requester_of n world) n refl
  happens_good world (Reply n bytes) good = replied_good world bytes good (requester_of n world)
  happens_good world (Deliver number) good = delivers_good world number (packet_of number world.sent) good
  happens_good world (Lose number) good = loses_good world number (packet_of number world.sent) good
  happens_good world (Inject bytes) good = given_good world bytes good
  happens_good world (Pump count) good = pumps_good count world good
  happens_good world (Tick seconds) good = ticked_good world seconds good
  happens_good world Show good = good

  from_good : (world : World) (entries : List Entry) → IsGood world → IsGood (world_from world entries)
  from_good world [] good = good
  from_good world (entry ∷ entries) good = from_good (entry_step world entry).after entries (happens_good world entry.happening good)

  -- From where ends may go on, and however long the events are.
  pub later_good : (w : WorldSetup) → IsConfigured w → (NoChance prior.log → MayBegin prior w) → (entries : List Entry) → IsGood (world_from (begun prior w) entries)
  later_good w c from entries = from_good (begun prior w) entries (record { fits = λ chance. starts prior KeptAsked KeptServed asked_starts served_starts w c (from chance) })

  -- ---- What follows.

  pub is_pair : (world : World) (a : Requesting) (x : Connection) → ArePair world a x → IsPair world.requesters world.responder.connections a x
  is_pair world a x pair = record { requester = in_contained world.requesters a pair.requester; connection = in_contained world.responder.connections x pair.connection; peer = pair.peer }

  pub stands : (world : World) → Fits prior KeptAsked KeptServed world → (a : Requesting) (x : Connection) → IsPair world.requesters world.responder.connections a x → Stands prior a x world.log
  stands world k a x pair = record {
    reached = k.pairs a x pair;
    asked = λ id held. (asked_stands prior a.setup.psk a.setup a.history (asked_steady a.setup a.history (k.asks a pair.requester).made) id).told held;
    served = λ id held. (served_stands prior a.setup.psk x.setup x.history (made_steady x.setup x.history (k.serves x pair.connection).made) id).told held;
  }

  pub agree : (world : World) → Fits prior KeptAsked KeptServed world → Agreement world
  agree world k a x pair req rsp live held ids = one prior a x world.log (stands world k a x (is_pair world a x pair)) req rsp live held ids

  -- Where no session that a requester opened by its history had opened at the responder before.
  pub match_all : (world : World) → Fits prior KeptAsked KeptServed world → ((a : Requesting) (x : Connection) → IsPair world.requesters world.responder.connections a x → OpensNew prior a x) → Matched world
  match_all world k new a x pair =
      let its = is_pair world a x pair in
      matched prior a x world.log (stands world k a x its) (asked_steady a.setup a.history (k.asks a its.requester).made) (new a x its)

  pub hash_all : (world : World) → Fits prior KeptAsked KeptServed world → HashesAgree world
  hash_all world k a x pair req rsp live held same = hashes prior a x world.log (stands world k a x (is_pair world a x pair)) req rsp live held same

  pub seal_once : (world : World) → Fits prior KeptAsked KeptServed world → SealedOnce world.log
  seal_once world k p number y z is m n =
      let a = k.owned p (number ∷ y) m in
      let x = k.apart.served a.0 a.1 in
      once prior a.0 x.0 world.log (stands world k a.0 x.0 (record { requester = a.1; connection = x.1; peer = x.2 })) p number y z is a.2 m n

module _ (KeptAsked : ReqSetup → asked.History → Type 0) (KeptServed : RspSetup → served.History → Type 0)
    (asked_starts : AskedStarts KeptAsked) (asks_well : AsksWell no_past KeptAsked) (hears_well : HearsWell no_past KeptAsked) (asked_steady : AskedSteady)
    (served_starts : ServedStarts KeptServed) (does_well : DoesWell no_past KeptServed) (waits : Waits KeptServed) where
  -- ---- Where nothing was before.

  pub after_fits : (w : WorldSetup) → IsConfigured w → (entries : List Entry) → NoChance (world_after w entries).log → Fits no_past KeptAsked KeptServed (world_after w entries)
  after_fits w c entries chance = (later_good no_past KeptAsked KeptServed asked_starts asks_well hears_well asked_steady served_starts does_well waits w c (λ none. may_begin w) entries).fits chance

  pub worlds_agree : WorldsAgree
  worlds_agree w c entries chance = agree no_past KeptAsked KeptServed asked_starts asks_well hears_well asked_steady served_starts does_well waits (world_after w entries) (after_fits w c entries chance)

  pub worlds_match : WorldsMatch
  worlds_match w c entries chance =
      match_all no_past KeptAsked KeptServed asked_starts asks_well hears_well asked_steady served_starts does_well waits (world_after w entries) (after_fits w c entries chance) (λ a x pair t u o old. absurd old)

  pub worlds_show_alike : WorldsShowAlike
  worlds_show_alike w c entries chance = hash_all no_past KeptAsked KeptServed asked_starts asks_well hears_well asked_steady served_starts does_well waits (world_after w entries) (after_fits w c entries chance)

  pub worlds_seal_once : WorldsSealOnce
  worlds_seal_once w c entries chance = seal_once no_past KeptAsked KeptServed asked_starts asks_well hears_well asked_steady served_starts does_well waits (world_after w entries) (after_fits w c entries chance)
