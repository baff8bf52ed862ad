pub mod Rule
pub mod Loaded
pub mod Scan
pub mod ReplayWritten
pub mod Ticked
pub mod BenchMeaning
