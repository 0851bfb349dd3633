-- The rule of what lies between two datagrams.
pub mod Gaps
