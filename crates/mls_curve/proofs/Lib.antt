pub mod LimbLemmas
pub mod ByteLemmas
pub mod ResidueLemmas
pub mod CurveLemmas
pub mod PointLemmas
