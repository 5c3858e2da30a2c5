pub mod BitPlaces
pub mod Layouts
