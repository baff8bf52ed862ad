pub mod Shares
pub mod ResponseWritten
