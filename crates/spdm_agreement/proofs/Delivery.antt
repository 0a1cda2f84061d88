-- Application data are in the texts of the marks: what an end took and sealed by its history is what its marks tell.
--
-- To read in this order: Data, what of the texts is application data; InnerText, that a text holds its inner message;
-- AtResponder; then SealedAtRequester, OneRecord (when a record that a requester takes brings data) and TakenAtRequester.
pub mod Data
pub mod InnerText
pub mod AtResponder
pub mod SealedAtRequester
pub mod OneRecord
pub mod TakenAtRequester
