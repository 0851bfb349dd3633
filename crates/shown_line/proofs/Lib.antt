-- Laws of the text line by what is shown.
pub mod Digits
pub mod Putting
pub mod Fields
pub mod Answers
pub mod Thirteen
pub mod Longest
pub mod ShownLaws
pub mod Parting
