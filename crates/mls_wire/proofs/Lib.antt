pub mod Numbers
pub mod Pieces
pub mod KnownBytes
pub mod Logs
pub mod LogLaws
pub mod WriteLaws
pub mod Sized
mod Edited
mod ShortLists
mod ShortVectors
mod CountedCodes
