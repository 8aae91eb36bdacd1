pub mod HexPieces
pub mod Replaying
pub mod Answered
pub mod StartLines
pub mod InputsOnce
pub mod ReplaysOnce
pub mod SignaturesOnce
pub mod TurnsOnce
pub mod LogsExist
pub mod ReplaysExist
pub mod SignaturesExist
pub mod SignatureLogs
pub mod SignatureStarts
mod ValidEpochs
mod StrictEpochs
mod CoveredReports
mod SavedStates
