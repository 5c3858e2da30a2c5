pub mod PlaceLaws
pub mod Rows
pub mod SenderLaws
