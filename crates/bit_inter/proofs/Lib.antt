pub mod HeldLaws
pub mod PlaceLaws
pub mod SenderLaws
