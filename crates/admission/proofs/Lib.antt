-- Laws of what feeding turns down: the axes of a session, what soundness says, which sessions are sound when opened.
pub mod AxisLaws
pub mod KeptLaws
pub mod Soundness
pub mod PieceRulings
pub mod FreshSessions
pub mod TenLaws
