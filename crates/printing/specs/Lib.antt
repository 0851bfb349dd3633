-- What the functions that print a value cite beside the rules.
pub mod Writing
