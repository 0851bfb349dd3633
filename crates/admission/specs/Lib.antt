-- What feeding turns down, 10 to 12.
pub mod Admission
pub mod SoundSession
