pub mod Slots
pub mod Order
pub mod OrderedFrame
pub mod LayerBytes
pub mod Places
pub mod ClockOrder
pub mod WorkedSettings
