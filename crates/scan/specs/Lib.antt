pub mod Scan
pub mod Front
pub mod Rules
pub mod OneLength
pub mod Calls
pub mod Stream
pub mod Carry
