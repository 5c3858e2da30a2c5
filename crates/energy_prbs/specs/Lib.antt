pub mod Sequence
pub mod StandsFor
