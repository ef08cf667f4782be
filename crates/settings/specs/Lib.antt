-- What a reader must believe of the settings: Settings.
pub mod Settings
