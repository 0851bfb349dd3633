-- Laws of the rules.
pub mod HistoryLaws
