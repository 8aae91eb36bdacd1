mod SkippedCiphertexts
pub mod PartLemmas
pub mod Rooms
pub mod Unsigned
pub mod MessageLemmas
pub mod Profiles
pub mod MembersRead
pub mod ContentTbs
pub mod RuleSets
pub mod Bodies
pub mod SecretsInInput
