-- What the functions answer that judge and write parts of a datagram.
pub mod Writing
