pub mod WorkedBytes
pub mod Inverse
