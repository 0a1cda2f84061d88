-- Each step of a responder is a run of moves, and keeps what its history keeps: `does_well` and `serves_duly` of
-- DataAnswered.
--
-- To read in this order: OpenSessions, that the sessions held open are those that the marks tell, and FinishPlace, where
-- PSK_FINISH takes effect. Then a record: InnerTurns, Comparisons, RecordTags, Replies, Handshake, FinishTurn and
-- RecordMoves, that one which opens is a run of moves, with Counts. Then a clear message: ClearTurns, Negotiation and
-- Exchange, that a session begins sound. Bodies puts both together, and DataAnswered adds application data.
pub mod OpenSessions
pub mod FinishPlace
pub mod InnerTurns
pub mod Comparisons
pub mod RecordTags
pub mod Replies
pub mod Handshake
pub mod FinishTurn
pub mod RecordMoves
pub mod Counts
pub mod ClearTurns
pub mod Negotiation
pub mod Bodies
pub mod Exchange
pub mod DataAnswered
