pub mod CommandLines
pub mod Parsing
pub mod Faults
pub mod FrameLimit
pub mod Run
pub mod Chain
pub mod Lines
