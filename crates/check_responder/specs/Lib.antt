pub mod AnswerKeys
pub mod JudgedResponder
pub mod ClearAnswers
pub mod Given
pub mod Opening
pub mod RecordAnswers
pub mod ShownBy
pub mod WholeAnswers
