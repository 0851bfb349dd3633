-- Laws of acceptable datagrams.
pub mod Acceptance
pub mod Completed
pub mod Examples
