-- The rehearsal line.
pub mod RehearsalLine
pub mod SentAgain
pub mod WorkedLine
