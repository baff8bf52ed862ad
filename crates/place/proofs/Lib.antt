pub mod TailLaws
pub mod PlaceLaws
