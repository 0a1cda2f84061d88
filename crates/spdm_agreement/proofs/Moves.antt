-- The moves of the two ends of one pre-shared key: every run of them keeps the invariant, and what follows of it.
--
-- To read in this order: Earlier has lists as they were; Invariant says what every move keeps; MarkEffects counts what
-- one mark does; EachMove keeps the invariant with each move; Runs concludes (`holds`, `agrees`, and what follows). Foreign
-- tells what the ends of another key see of it. Example opens a session by moves, without chance.
pub mod Earlier
pub mod Invariant
pub mod MarkEffects
pub mod EachMove
pub mod Runs
pub mod Foreign
pub mod Example
