-- The proof of what is promised.
pub mod Demand1
pub mod BuildingBlocks
pub mod PaperRules
pub mod LinesInTurn
pub mod MadeHere
pub mod Promised
