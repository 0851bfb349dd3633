-- What is promised of the receiver.
pub mod Demand1
pub mod BuildingBlocks
pub mod PaperRules
pub mod InTurn
pub mod MadeHere
pub mod Rehearsals
pub mod Promised
