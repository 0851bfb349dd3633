-- Laws of the rules, which other crates cite as Rattle.doubt.proofs.NAME.
pub mod DoubtLaws
pub mod Sums
pub mod AnglesMet
pub mod TrueAngle
