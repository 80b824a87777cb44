-- The writes that a commit is made of, on bytes and on tables.
-- Assumes nothing.
pub mod ReadBack
pub mod Around
pub mod Apart
pub mod Rewritten
pub mod Removed
pub mod Indexed
pub mod Appended
pub mod Rebuilt
pub mod Counted
pub mod Lent
