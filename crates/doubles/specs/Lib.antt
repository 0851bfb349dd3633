-- The rules of readings and totals as doubles; the starred bench cases.
pub mod Doubles
pub mod Starred
