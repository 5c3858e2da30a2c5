pub mod RegisterLaws
pub mod SequenceLaws
