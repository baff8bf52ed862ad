pub mod CyclicWalkLaws
pub mod MostLaws
pub mod PeakReady
pub mod TotalLaws
