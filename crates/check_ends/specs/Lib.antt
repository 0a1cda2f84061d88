pub mod Party
pub mod PartyReplies
pub mod Conversation
