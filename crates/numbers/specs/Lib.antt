pub mod Age
pub mod Bytes
pub mod EqualWords
pub mod Signed
