pub mod Entry
pub mod ListRules
pub mod Accepted
pub mod ListReader
pub mod ListRefusals
