-- Laws of the stretches.
pub mod Restarts
pub mod Examples
