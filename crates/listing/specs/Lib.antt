pub mod Scan
pub mod Match
pub mod Select
