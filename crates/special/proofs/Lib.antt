-- Laws of the special datagrams.
pub mod Specials
pub mod Beginnings
pub mod Examples
