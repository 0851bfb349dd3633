-- Whether a list of bytes is an acceptable datagram.
pub mod Acceptable
