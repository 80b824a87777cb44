pub mod Write
pub mod Create
pub mod State
