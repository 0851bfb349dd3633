pub mod Check
pub mod Serial
pub mod Wide
