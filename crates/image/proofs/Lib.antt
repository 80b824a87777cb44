pub mod FullCheck
pub mod Judging
pub mod Looked
pub mod Passes
pub mod Places
pub mod BucketSays
pub mod Tally
pub mod Way
