-- The laws of the check, and what its code leans on.
pub mod Xor
pub mod Laws
pub mod Padding
pub mod Checks
pub mod SerialLaws
pub mod Published
pub mod Remainder
pub mod FourBytes
pub mod FourLookups
pub mod WordLoop
pub mod ByteLoop
