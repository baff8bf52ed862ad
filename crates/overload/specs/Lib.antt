pub mod Counts
pub mod Lanes
pub mod Listed
pub mod Shows
