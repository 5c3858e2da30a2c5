pub mod Fields
pub mod CyclicCode
pub mod Words
pub mod Reading
pub mod Causes
