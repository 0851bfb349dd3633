-- Feeding a session, and what is promised of it.
pub mod Feed
pub mod CallParts
pub mod OneLength
pub mod Promises
