pub mod Feeding
pub mod Lengths
pub mod Sets
pub mod Inputs
pub mod Strips
pub mod Answers
pub mod Alike
pub mod Known
pub mod MarkedHashes
pub mod Filling
pub mod KeptHashing
pub mod EncodedLeaves
pub mod Suites
mod CachedLists
