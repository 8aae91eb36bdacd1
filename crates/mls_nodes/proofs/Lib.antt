pub mod Entries
pub mod RestOfTree
pub mod OwnedBytes
pub mod StoredLeaves
mod LeafParts
mod KeyPrefixes
pub mod Limits
mod SortedLists
pub mod Trimming
pub mod Lengths
pub mod Drafted
pub mod RequiredOnce
pub mod SendersOnce
mod ExtensionsInInput
mod CodesInBytes
