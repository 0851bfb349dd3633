-- Laws of feeding, and the proofs of the demands.
pub mod BySetup
pub mod Refinement
pub mod CallParts
pub mod HistoryInvariant
pub mod Agreement
pub mod EachCall
pub mod OneLength
pub mod DatagramLaws
pub mod ContainedAt
pub mod AxisAt
pub mod DoubtAt
pub mod CallCases
pub mod Demands
pub mod WorkedExample
pub mod InclinometerExample
pub mod LimitExample
pub mod SlippedExample
