pub mod StepsKeepHeader
pub mod Acting
pub mod Applied
