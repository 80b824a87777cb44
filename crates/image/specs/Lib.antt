pub mod Check
pub mod Lookup
pub mod Places
pub mod Table
pub mod Tally
pub mod Told
