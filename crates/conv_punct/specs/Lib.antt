pub mod CodedBits
pub mod CodedCost
pub mod MotherCode
pub mod StandsFor
pub mod Sending
