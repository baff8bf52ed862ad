pub mod TurnLaws
pub mod CloseTest
