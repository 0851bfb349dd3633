-- The rules of the line that writes a setup down, with what is turned down of it.
pub mod SetupLine
