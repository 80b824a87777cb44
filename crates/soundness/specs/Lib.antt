pub mod Apply
pub mod Commit
