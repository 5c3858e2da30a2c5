pub mod EachBelow
pub mod LevelLaws
pub mod NearestLaws
pub mod TableLaws
pub mod Rows
