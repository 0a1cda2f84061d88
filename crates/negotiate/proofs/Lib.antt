pub mod KindLists
pub mod FewKinds
pub mod Answered
pub mod Choices
