-- What events write from a world on, up to a packet for which the link has no room. This project's own.
use Rattle.std.specs.Prelude.{◌≡◌, ℕ, List, Option, Some}
use Rattle.link_world.specs.Written.{before_full, text_of}
use Rattle.script_text.specs.declared.events.event.Entry.{Entry}
use Rattle.script_laws.specs.Scripts.{entries_in, full_from}
use Rattle.spdm_basis.specs.Stream.{Takes}
use Rattle.world_machine.specs.Trace.{lines_from}
use Rattle.world_machine.specs.World.{World}

abbrev pub text_from : World → List Entry → List ℕ
text_from w events = text_of (before_full (lines_from w (entries_in events)))

-- The event on this line is the first that finds the link full, and what stands before it was written.
pub record IsFullAt (w : World) (events : List Entry) (line : ℕ) (old now : Option (List ℕ)) : Type 0 where
  pub is : full_from w (entries_in events) ≡ Some line
  pub written : Takes old (text_from w events) now
