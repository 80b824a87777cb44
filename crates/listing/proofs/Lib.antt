pub mod Filling
pub mod Listing
pub mod Numbers
pub mod Passing
pub mod Pattern
pub mod SameBits
