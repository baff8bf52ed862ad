pub mod ShareWalkLaws
pub mod RoundLaws
pub mod AnswerLaws
