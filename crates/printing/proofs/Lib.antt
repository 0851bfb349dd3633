-- Laws for the functions that print a value.
pub mod WholeAndFraction
pub mod TextParts
