-- To read in this order: Kept, that a requester keeps what it keeps whatever is behind the marks of the responder; Restarted,
-- that a responder may start again beside requesters that go on; OldAndNew, that a session of its newest life is none of its
-- earlier ones; TranscriptsApart, that no T1 comes twice; Holds, what follows of a world, and LivesHold, all of it, of scripts too. Example has lives that there are.
pub mod Kept
pub mod Restarted
pub mod OldAndNew
pub mod TranscriptsApart
pub mod Holds
pub mod LivesHold
pub mod Example
