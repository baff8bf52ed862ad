pub mod AskLaws
pub mod LaidLaws
pub mod ListLaws
pub mod ResponseWays
pub mod FlatTickLaws
pub mod WritingLaws
