pub mod Numbers
pub mod Texts
pub mod LayerTexts
pub mod SettingWords
