pub mod Batch
pub mod NewKeys
pub mod Notes
pub mod Index
pub mod Sorted
pub mod Heads
