pub mod Header
pub mod Images
pub mod Linear
pub mod Mixed
pub mod Pieces
pub mod Powers
pub mod Xor
