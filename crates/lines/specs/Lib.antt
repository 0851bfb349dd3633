-- A whole piece at once, by the functions that write its lines.
pub mod PieceParts
