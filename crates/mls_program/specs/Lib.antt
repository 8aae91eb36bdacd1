pub mod Endings
pub mod Files
pub mod ReportResult
pub mod ShowExecution
pub mod ShowProgram
