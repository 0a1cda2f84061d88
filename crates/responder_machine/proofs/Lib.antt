pub mod Entries
pub mod Turns
pub mod Refused
pub mod Repeats
pub mod Ids
pub mod Does
pub mod Handshakes
pub mod Codes
pub mod Made
pub mod Tests
pub mod GivenIds
pub mod NoSession
pub mod Fresh
pub mod Live
pub mod Counts
pub mod Staged
pub mod Updates
pub mod Rows
pub mod Phased
pub mod Under
pub mod Opened
pub mod Held
pub mod Connection
pub mod Settled
pub mod CommonCaps
pub mod Sizes
pub mod Verified
pub mod Others
pub mod Alike
pub mod Independent
pub mod KeptRest
pub mod Within
pub mod VerifyLength
mod Pinned
mod PinnedClear
mod PinnedInChunks
mod PinnedInSession
mod PinnedFlags
mod PinnedContents
mod PinnedChunks
mod PinnedSizes
mod PinnedOrder
mod PinnedReplies
mod PinnedSessions
mod PinnedCounts
pub mod Making
pub mod Connected
pub mod Runs
pub mod Brought
pub mod QueuedBrings
