-- Laws of a value in decimals.
pub mod Nearest
pub mod LastDigits
pub mod ValueLaws
pub mod Answers
pub mod WorkedValues
