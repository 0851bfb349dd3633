-- The scan of a setup's datagrams, up to the first one.
pub mod Search
