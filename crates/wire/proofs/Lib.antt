-- Laws of what stands in a datagram.
pub mod RowPlaces
pub mod FieldPlaces
pub mod FieldBytes
pub mod FieldRanges
pub mod Examples
