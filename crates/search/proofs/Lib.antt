-- Laws of the rules.
pub mod Datagrams
mod Others
pub mod Places
pub mod Sensors
