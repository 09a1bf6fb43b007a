pub mod FitRanged
pub mod MoveCalls
pub mod RefusedSides
pub mod RefusedUnits
