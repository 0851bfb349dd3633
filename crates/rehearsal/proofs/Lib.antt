-- Laws of the rehearsal line.
pub mod Nearest
pub mod Numbers
pub mod Decimals
pub mod SentAgain
pub mod WorkedLines
