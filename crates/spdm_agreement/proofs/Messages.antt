-- What bytes tell: a session is the messages that it begins with, since no encoding of a message begins another.
--
-- To read in this order: RequestCodes and ResponseCodes, that the first bytes of an encoding tell its kind; Beginnings,
-- that T1, T2 and the records of a session tell what it began with; RecordTexts, what the tag of a record is computed
-- over; VerifyData, where the verify data of PSK_EXCHANGE_RSP stand.
pub mod RequestCodes
pub mod ResponseCodes
pub mod Beginnings
pub mod RecordTexts
pub mod VerifyData
