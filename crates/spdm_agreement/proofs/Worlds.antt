-- Every event of a world keeps what holds of it where nothing agrees by chance, so the laws hold after all events.
--
-- To read in this order: EndSteps, what the step of an end comes to, and Owners, whose purposes its tags are of; Behind,
-- that what an end goes on from stands behind its marks; Pairs, what the marks of two ends say of their sessions; Fits,
-- what every world keeps; Starts, that the first world has it, with nothing before it or with a past from which its ends
-- go on. Then each event: RequesterChanges, ResponderChanges, Happens and ResponderEvents. AllEvents and Delivered conclude for
-- any steps that are runs of moves, and Assembled gives the steps of both ends. Scripts has the worlds of texts, and
-- Configuration one that keeps all limits.
pub mod EndSteps
pub mod Owners
pub mod Behind
pub mod Pairs
pub mod Fits
pub mod Starts
pub mod RequesterChanges
pub mod ResponderChanges
pub mod Happens
pub mod ResponderEvents
pub mod AllEvents
pub mod Delivered
pub mod Assembled
pub mod Configuration
pub mod Scripts
