pub mod Sums
pub mod Search
pub mod Reader
pub mod Ladder
