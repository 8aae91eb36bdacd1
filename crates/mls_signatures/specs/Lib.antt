pub mod SigningKeys
pub mod SignaturesToVerify
pub mod Agreement
pub mod DistinctStarts
pub mod Marks
pub mod ShortenedSignatures
pub mod AddedLeaves
pub mod AcceptedSignatures
