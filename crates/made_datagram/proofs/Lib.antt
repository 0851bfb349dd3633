-- Laws of a datagram written from values.
pub mod InTurn
pub mod PartValues
pub mod ListedRows
pub mod RoundTrips
pub mod Fifteen
pub mod MadeLaws
pub mod WorkedExample
