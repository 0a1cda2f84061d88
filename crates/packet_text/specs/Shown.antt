-- The contents of a packet, and as the program hands them on. This project's own.
use Rattle.capture_bodies.specs.Answers.{came_as, part_as}
use Rattle.capture_bodies.specs.Collecting.{Large}
use Rattle.capture_bodies.specs.Completing.{Completed}
use Rattle.capture_records.specs.Showing.{Seen, seen_as}
use Rattle.packet_text.specs.declared.shown.Shown.{Shown}

-- What a packet completes, what it does to a large message, what is shown of a record, and what that does to a large
-- message.
pub record Contents : Type 0 where
  pub done : Completed
  pub large : Large
  pub seen : Seen
  pub inside : Large

abbrev pub contents_in : Shown → Contents
contents_in shown = record {
  done = came_as shown.came shown.body.now;
  large = part_as shown.part shown.whole.now;
  seen = seen_as shown.sealed shown.inner.now;
  inside = part_as shown.inner_part shown.inner_whole.now;
}
