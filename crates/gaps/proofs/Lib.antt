-- Laws of the rule, which other crates cite as Rattle.gaps.proofs.NAME.
pub mod Gaps
pub mod AcceptedSetup
