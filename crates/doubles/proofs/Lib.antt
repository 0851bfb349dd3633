-- Laws of the rules, which other crates cite as Rattle.doubles.proofs.NAME.
pub mod Doubles
pub mod AcceptedSetup
pub mod Starred
