-- The definitions that the contracts of `integers`, and those of the crates above it, cite.
pub mod Rounding
pub mod Bytes
pub mod Folding
pub mod Ranges
pub mod Buffers
