-- To read in this order: RequesterSessions and ResponderSessions, that each session of a history has its marks;
-- RequesterDraws and ResponderDraws, that its context holds a draw of the life; Checks, that each tag that was compared
-- belongs to a session of the history. LifeKept says what every event of a life keeps, RequesterGoes, ResponderGoes and
-- LifeSteps that it does: nothing so far has a premise of chance. TranscriptsApart concludes that no transcript comes twice.
--
-- Framed, that steps do not look at a log; PastLives, from where the ends of a life go on, and that agreement holds from
-- there; OldAndNew, that what was done in a life is of other sessions than what was done before it; QuietMarks, that
-- nothing is heard or taken under a T2 of which no session opened. LifeHolds says what holds of one life behind others, and
-- LivesHold of all lives, those of scripts and texts too. Example has lives that there are.
pub mod RequesterSessions
pub mod ResponderSessions
pub mod RequesterDraws
pub mod ResponderDraws
pub mod Checks
pub mod LifeKept
pub mod RequesterGoes
pub mod ResponderGoes
pub mod LifeSteps
pub mod TranscriptsApart
pub mod Framed
pub mod PastLives
pub mod OldAndNew
pub mod QuietMarks
pub mod LifeHolds
pub mod LivesHold
pub mod Example
