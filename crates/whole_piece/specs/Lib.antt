-- A whole piece at once.
pub mod Lines
pub mod NextLines
