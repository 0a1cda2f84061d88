-- Where each command has a pump of enough packets after it, a script is honest.
use Rattle.std.proofs.Common.{◌≡◌, ◌≤◌, ◌+◌, ◌*◌, ℕ, List, [], ◌∷◌, ◌++◌, length, refl, sym, subst, inr, arith}
use Rattle.spdm_agreement.specs.Configured.{IsConfigured}
use Rattle.spdm_machine.specs.Packets.{wear_limit}
use Rattle.world_machine.specs.Chance.{NoChance}
use Rattle.world_machine.specs.Happenings.{Entry}
use Rattle.world_machine.specs.Happenings.Happening.{Pump}
use Rattle.world_machine.specs.Setup.{WorldSetup}
use Rattle.world_machine.specs.Trace.{world_after, world_from}
use Rattle.world_machine.specs.World.{World, new_world}
use Rattle.spdm_progress.specs.Honest.{AreHonest, NothingWaits}
use Rattle.spdm_progress.specs.Scripts.{CanBeDone, OfEachCommand, Order, PumpedScriptsAreHonest, with_pumps}
use Rattle.spdm_progress.specs.SessionCommands.{most_asked, most_packets}
use Rattle.spdm_progress.proofs.Paragraphs.{Paragraph, entries_of, paragraph_ready, starts_ready, world_behind}
use Rattle.spdm_progress.proofs.QuietWorlds.{IsReady, from_both}
use Rattle.spdm_progress.proofs.SessionCompletes.{no_chance_from}

abbrev order_of : Order → Paragraph
order_of o = record { line = o.line; n = o.n; command = o.command; behind = record { line = o.pump_line; happening = Pump most_packets } ∷ [] }

module _ (w : WorldSetup) (configured : IsConfigured w) where
  abbrev Runs : World → List Order → Type 0
  Runs world orders = AreHonest world (with_pumps orders) × NothingWaits (world_from world (with_pumps orders))

  -- What is left of the script, in a world in which each end has taken so much at most.
  record AreLeft (most : ℕ) (world : World) (orders : List Order) : Type 0 where
    room : most + most_asked * length orders ≤ wear_limit
    ready : IsReady most world
    chance : NoChance (world_from world (with_pumps orders)).log
    can : OfEachCommand CanBeDone world (with_pumps orders)

  orders_run : (orders : List Order) (before : List Entry) (most : ℕ) → AreLeft most (world_after w before) orders → Runs (world_after w before) orders
  orders_run [] before most l = (tt, l.ready.0.idle)
  orders_run (o ∷ orders) before most l =
      let world = world_after w before in
      let p = order_of o in
      let all = l.room in
      let room : most + most_asked ≤ wear_limit = omega (arith, all) in
      let enough : most_packets ≤ most_packets = omega arith in
      let ready = paragraph_ready w configured before p most room l.ready (refl, tt) (tt, tt) (inr (inr (o.pump_line, most_packets, enough, refl))) (no_chance_from (world_behind world p) (with_pumps orders) l.chance) l.can.0 in
      let now : world_after w (before ++ entries_of p) ≡ world_behind world p = from_both (new_world w) before (entries_of p) in
      let left : AreLeft (most + most_asked) (world_behind world p) orders = record { room = omega (arith, all); ready = ready; chance = l.chance; can = l.can.1.1 } in
      let rest = subst (λ (z : World). Runs z orders) now (orders_run orders (before ++ entries_of p) (most + most_asked) (subst (λ (z : World). AreLeft (most + most_asked) z orders) (sym now) left)) in
      ((l.ready.0.idle, (tt, rest.0)), rest.1)

pub pumped_scripts_are_honest : PumpedScriptsAreHonest
pumped_scripts_are_honest w configured orders few chance can = orders_run w configured orders [] 0 (record { room = omega (arith, few); ready = starts_ready w; chance = chance; can = can })
