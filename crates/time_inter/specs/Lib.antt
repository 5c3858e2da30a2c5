pub mod CellPlaces
pub mod LayerPartner
pub mod LayerStage
pub mod Layouts
