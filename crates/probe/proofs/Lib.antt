-- Laws of reading records.
pub mod Reading
