-- The rules of the layouts by identifier and of a setup, with what is turned down of it and what an accepted one says.
pub mod Layout
pub mod Setup
pub mod Sensor
pub mod AcceptedSetup
