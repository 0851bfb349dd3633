-- A total or a reading over 2^shift in decimals.
pub mod PrintedValue
pub mod Prints
pub mod WorkedValues
