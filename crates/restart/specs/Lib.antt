-- The stretches between a sensor's restarts.
pub mod Restarts
