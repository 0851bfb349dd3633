-- Laws of the layouts, and of a setup's refusals.
pub mod Ranges
pub mod Rows
pub mod Layouts
pub mod Rules
pub mod Refusals
pub mod Sensors
pub mod NineLaws
