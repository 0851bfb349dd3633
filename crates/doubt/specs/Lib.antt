-- The rules of totals that may have slipped.
pub mod Doubt
pub mod Slipped
pub mod DoubtRules
