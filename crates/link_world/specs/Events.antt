-- The events of a script, as what happens in a world. This project's own.
use Rattle.requester_machine.specs.Message.{Command as tell}
use Rattle.script_text.specs.declared.events.event.LinkEvent.{LinkEvent}
use Rattle.script_text.specs.declared.events.event.LinkEvent.TheVariants as event
use Rattle.std.specs.Prelude.{ℕ, Bool, true, false}
use Rattle.world_machine.specs.Happenings.{Entry, Happening}
use Rattle.world_machine.specs.Happenings.Happening.{Deliver, Inject, Lose, Pump, Reply, Show, Tick, Told}

-- A command goes to the requester that it names; all else happens on the link or at the responder.
abbrev pub happening_of : LinkEvent → Happening
happening_of (event.Connect q) = Told q tell.Connect
happening_of (event.Retry q) = Told q tell.Retry
happening_of (event.Open q summary) = Told q (tell.Open summary)
happening_of (event.Send q session bytes) = Told q (tell.Send session bytes)
happening_of (event.Beat q session) = Told q (tell.Beat session)
happening_of (event.End q session) = Told q (tell.End session)
happening_of (event.Update q session all) = Told q (tell.Update session all)
happening_of (event.Measure q session op) = Told q (tell.Measure session op)
happening_of (event.Reply q bytes) = Reply q bytes
happening_of (event.Deliver number) = Deliver number
happening_of (event.Lose number) = Lose number
happening_of (event.Inject bytes) = Inject bytes
happening_of (event.Pump count) = Pump count
happening_of (event.Tick seconds) = Tick seconds
happening_of event.Show = Show

-- An event on this line.
abbrev pub entry_of : (line : ℕ) → LinkEvent → Entry
entry_of line what = record { line = line; happening = happening_of what }

-- The endpoints are shown.
abbrev pub is_show : LinkEvent → Bool
is_show event.Show = true
is_show _ = false
