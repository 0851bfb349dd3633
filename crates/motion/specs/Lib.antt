-- The rules of what the fields of a datagram mean: status, fitness and judgement, totals.
pub mod Status
pub mod Totals
pub mod Judgements
