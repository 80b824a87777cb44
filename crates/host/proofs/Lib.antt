pub mod PlaceLaws
pub mod ResultLaws
pub mod UserDataLaws
