pub mod EntryLemmas
pub mod Filling
pub mod FrameAnswers
pub mod Known
pub mod SeatLemmas
