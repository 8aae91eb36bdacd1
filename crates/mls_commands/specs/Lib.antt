pub mod ClapCommands
pub mod ClapPartsInternal
pub mod Orders
pub mod FaultStatus
