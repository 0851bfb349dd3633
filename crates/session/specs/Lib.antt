-- A session, and opening one.
pub mod Session
