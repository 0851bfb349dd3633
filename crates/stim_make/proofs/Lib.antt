-- Laws of the program that makes datagrams.
pub mod LineLaws
pub mod KeepLaws
pub mod TakeLaws
pub mod MadeLaws
