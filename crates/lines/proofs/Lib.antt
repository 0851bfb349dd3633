-- Laws of the functions that write the lines of a piece.
pub mod LoopInvariant
pub mod HeldFirst
pub mod Answered
