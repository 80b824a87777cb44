pub mod Columns
pub mod Crc
pub mod Fnv
pub mod Front
pub mod Mixed
