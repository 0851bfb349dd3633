-- Laws of the fields of a line, of their digits, and of the answers to a line.
pub mod Fields
pub mod Digits
pub mod Written
pub mod LineAnswers
pub mod Example
pub mod LineEnds
