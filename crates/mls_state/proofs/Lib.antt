pub mod Files
pub mod RuleSets
