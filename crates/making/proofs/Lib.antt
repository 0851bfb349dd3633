-- Laws of what the code writes.
pub mod PartTests
pub mod ValueWriting
pub mod PartWriting
pub mod MadeAnswers
