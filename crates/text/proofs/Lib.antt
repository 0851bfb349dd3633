-- Laws that belong to no one function. Other crates cite them as Rattle.text.proofs.NAME.
pub mod Answers
pub mod LineLaws
pub mod Examples
