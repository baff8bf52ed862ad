pub mod Shown
pub mod CountLaws
pub mod LaneLaws
pub mod FirstRuns
pub mod MoveLaws
pub mod StandLaws
pub mod WeaveTurns
pub mod PutLaws
