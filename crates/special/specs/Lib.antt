-- The special datagrams.
pub mod Special
