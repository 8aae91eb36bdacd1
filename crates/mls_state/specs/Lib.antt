pub mod Layout
pub mod StateFile
pub mod StateFileInternal
pub mod Parsing
pub mod StateExact
