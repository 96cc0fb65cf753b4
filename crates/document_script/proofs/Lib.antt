pub mod TokenLaws
pub mod IntLaws
pub mod CommandLaws
pub mod PartsLoop
pub mod HeadLaws
pub mod KeptLaws
pub mod DistinctLaws
pub mod UniqueLaws
