pub mod Behind
pub mod TestGroups
pub mod Turn
