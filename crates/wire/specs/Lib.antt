-- What stands in a datagram: its fields, and their places.
pub mod Fields
pub mod Places
