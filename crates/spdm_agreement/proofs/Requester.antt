-- Each step of a requester is a run of moves, and keeps what its history keeps: `asks_well`, `hears_well` and
-- `keeps_openly` of Whole.
--
-- To read in this order: OpenSessions and EverOpened, that the sessions opened are those that the marks tell. What came:
-- ClearLeads and RecordLeads, by cause, and Entries, what each step adds. What a history keeps: Waiting, Counts and
-- HistoryInvariant. The moves: SealAndHear, Comparisons, ExchangeMoves, CommandMoves, ClearMoves, RecordMoves, BodyMoves.
-- That the invariant stays: RecordsTaken, AfterRecord, AfterBody. The negotiation: NegotiationDone, NegotiationInvariant,
-- NegotiationMade, AnyCommand, OwnRequests. DataVerified, that data are sent under a verified key alone; Whole, all of it.
pub mod OpenSessions
pub mod EverOpened
pub mod ClearLeads
pub mod RecordLeads
pub mod Entries
pub mod Waiting
pub mod Counts
pub mod HistoryInvariant
pub mod SealAndHear
pub mod Comparisons
pub mod ExchangeMoves
pub mod CommandMoves
pub mod ClearMoves
pub mod RecordMoves
pub mod BodyMoves
pub mod RecordsTaken
pub mod AfterRecord
pub mod AfterBody
pub mod NegotiationDone
pub mod NegotiationInvariant
pub mod NegotiationMade
pub mod OwnRequests
pub mod AnyCommand
pub mod DataVerified
pub mod Whole
