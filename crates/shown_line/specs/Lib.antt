-- The text line by what is shown.
pub mod Decimal
pub mod ShownLine
pub mod PassedLine
pub mod Putting
