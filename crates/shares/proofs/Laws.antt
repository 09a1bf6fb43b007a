pub mod ArrangeLaws
pub mod ChainLaws
pub mod LargestLaws
pub mod PlanLaws
pub mod SpreadLaws
pub mod TestLaws
