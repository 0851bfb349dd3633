-- Laws of a whole piece.
pub mod NextLines
pub mod LongestLines
pub mod Batches
pub mod BatchAnswers
pub mod OneByOne
pub mod WholePieces
