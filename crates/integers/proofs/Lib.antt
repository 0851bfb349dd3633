-- Laws that belong to no one function. Other crates cite them as Rattle.integers.proofs.NAME.
pub mod Booleans
pub mod Parts
pub mod Sizes
pub mod Signed
pub mod Rounding
pub mod Bytes
pub mod Folding
pub mod Ranges
pub mod Values
pub mod Buffers
pub mod BenchCases
