pub mod Curves
pub mod CurvesInternal
pub mod Limbs
pub mod Residues
