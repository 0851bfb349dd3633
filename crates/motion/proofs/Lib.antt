-- Laws of the rules, which other crates cite as Rattle.motion.proofs.NAME.
pub mod Status
pub mod TrueChange
pub mod Bounds
pub mod NineAxes
pub mod Judged
pub mod AcceptedSetup
