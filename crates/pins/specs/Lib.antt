pub mod Literal
pub mod Story
pub mod OrderedStory
pub mod PartnerStory
pub mod Pins
pub mod Refusals
pub mod Crowded
