pub mod Formed
pub mod Live
pub mod Grown
pub mod Settled
pub mod Lent
pub mod Header
pub mod Accepted
pub mod Committed
