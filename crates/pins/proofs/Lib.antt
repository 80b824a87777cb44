pub mod MostRecords
pub mod StoriesComputed
pub mod Story
pub mod Pins
pub mod Crowded
