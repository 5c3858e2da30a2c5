pub mod SettingWords
pub mod Reading
pub mod Lines
