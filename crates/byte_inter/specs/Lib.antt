pub mod BytePlaces
pub mod Layouts
