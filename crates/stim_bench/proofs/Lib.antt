-- Laws of the first line, of parts that are fed, and of several at once.
pub mod LineLaws
pub mod PartLaws
pub mod GatherLaws
