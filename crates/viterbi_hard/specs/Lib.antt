pub mod LeastPath
pub mod Trellis
pub mod Steps
pub mod States
pub mod Blocks
pub mod StandsFor
